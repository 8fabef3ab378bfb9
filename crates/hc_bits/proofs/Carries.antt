-- The digits that carries give are those of the sum and of the difference.
use Rattle.std.proofs.Common.{◌≡◌, ℕ, zero, suc, ◌+◌, ◌-◌, ◌*◌, ◌%◌, ◌^◌, ◌<◌, ◌≤◌, Bool, true, false, cond, List, [], ◌∷◌, ◌++◌, length, take, get_or, refl, ap, sym, subst, ◌∙◌, arith, add-one}
use Rattle.std.specs.Prelude.{not, ◌&&◌, ◌||◌, nat_lt}
use Rattle.std.proofs.Math.Nat.{mod-eq_of_lt, add-mul-mod_self_right}
use Rattle.std.proofs.lemmas.Bool.{lt-ltb, le-ltb}
use Rattle.hc_net.specs.Bits.{number}
use Rattle.hc_net.specs.Gate.{differ}
use Rattle.hc_bits.specs.Carry.{each, carry_out, carries, last_of, digits}

-- ---- lists

pub each-take : (f : Bool → Bool → Bool) (n : ℕ) (xs ys : List Bool) → each f (take n xs) ys ≡ take n (each f xs ys)
each-take f zero xs ys = refl
each-take f (suc n) [] ys = refl
each-take f (suc n) (x ∷ xs) [] = refl
each-take f (suc n) (x ∷ xs) (y ∷ ys) = ap (λ l. f x y ∷ l) (each-take f n xs ys)

-- what lies beyond the first list doesn't count
pub each-enough : (f : Bool → Bool → Bool) (n : ℕ) (xs ys : List Bool) → length xs ≤ n → each f xs (take n ys) ≡ each f xs ys
each-enough f n [] ys h = refl
each-enough f zero (x ∷ xs) ys h = absurd (omega (arith, h))
each-enough f (suc n) (x ∷ xs) [] h = refl
each-enough f (suc n) (x ∷ xs) (y ∷ ys) h = ap (λ l. f x y ∷ l) (each-enough f n xs ys (omega (arith, h)))

pub length-each : (f : Bool → Bool → Bool) (xs ys : List Bool) → length xs ≤ length ys → length (each f xs ys) ≡ length xs
length-each f [] ys h = refl
length-each f (x ∷ xs) [] h = absurd (omega (arith, h))
length-each f (x ∷ xs) (y ∷ ys) h = ap suc (length-each f xs ys (omega (arith, h)))

pub length-carries : (c : Bool) (gs ps : List Bool) → length (carries c gs ps) ≡ length gs
length-carries c [] ps = refl
length-carries c (g ∷ gs) [] = ap suc (length-carries (g || c) gs [])
length-carries c (g ∷ gs) (p ∷ ps) = ap suc (length-carries (carry_out g p c) gs ps)

pub carries-take : (c : Bool) (n : ℕ) (gs ps : List Bool) → carries c (take n gs) ps ≡ take n (carries c gs ps)
carries-take c zero gs ps = refl
carries-take c (suc n) [] ps = refl
carries-take c (suc n) (g ∷ gs) [] = ap (λ l. (g || c) ∷ l) (carries-take (g || c) n gs [])
carries-take c (suc n) (g ∷ gs) (p ∷ ps) = ap (λ l. carry_out g p c ∷ l) (carries-take (carry_out g p c) n gs ps)

-- one more place of each list
each-suc : (f : Bool → Bool → Bool) (i : ℕ) (xs ys : List Bool) (d : Bool) → i < length xs → i < length ys
    → each f (take (suc i) xs) ys ≡ each f (take i xs) ys ++ f (get_or xs i d) (get_or ys i d) ∷ []
each-suc f i [] ys d h l = absurd (omega (arith, h))
each-suc f i (x ∷ xs) [] d h l = absurd (omega (arith, l))
each-suc f zero (x ∷ xs) (y ∷ ys) d h l = refl
each-suc f (suc i) (x ∷ xs) (y ∷ ys) d h l = ap (λ l. f x y ∷ l) (each-suc f i xs ys d (omega (arith, h)) (omega (arith, l)))

pub each-more : (f : Bool → Bool → Bool) (i : ℕ) (xs ys : List Bool) (d : Bool) → i < length xs → i < length ys
    → each f (take (i + 1) xs) ys ≡ each f (take i xs) ys ++ f (get_or xs i d) (get_or ys i d) ∷ []
each-more f i xs ys d h l = rw add-one (each-suc f i xs ys d h l)

carries-suc : (c : Bool) (i : ℕ) (gs ps : List Bool) (d : Bool) → i < length gs → i < length ps
    → carries c (take (suc i) gs) ps ≡ carries c (take i gs) ps ++ carry_out (get_or gs i d) (get_or ps i d) (last_of c (carries c (take i gs) ps)) ∷ []
carries-suc c i [] ps d h l = absurd (omega (arith, h))
carries-suc c i (g ∷ gs) [] d h l = absurd (omega (arith, l))
carries-suc c zero (g ∷ gs) (p ∷ ps) d h l = refl
carries-suc c (suc i) (g ∷ gs) (p ∷ ps) d h l = ap (λ l. carry_out g p c ∷ l) (carries-suc (carry_out g p c) i gs ps d (omega (arith, h)) (omega (arith, l)))

pub carries-more : (c : Bool) (i : ℕ) (gs ps : List Bool) (d : Bool) → i < length gs → i < length ps
    → carries c (take (i + 1) gs) ps ≡ carries c (take i gs) ps ++ carry_out (get_or gs i d) (get_or ps i d) (last_of c (carries c (take i gs) ps)) ∷ []
carries-more c i gs ps d h l = rw add-one (carries-suc c i gs ps d h l)

pub last_of-at : (c d : Bool) (xs : List Bool) (i : ℕ) → length xs ≡ i + 1 → last_of c xs ≡ get_or xs i d
last_of-at c d [] i h = absurd (omega (arith, h))
last_of-at c d (x ∷ []) zero h = refl
last_of-at c d (x ∷ []) (suc i) h = absurd (omega (arith, h))
last_of-at c d (x ∷ y ∷ ys) zero h = absurd (omega (arith, h))
last_of-at c d (x ∷ y ∷ ys) (suc i) h = last_of-at x d (y ∷ ys) i (omega (arith, h))

-- ---- numbers

pub pow_suc : (n : ℕ) → 2 ^ suc n ≡ 2 * 2 ^ n
pow_suc n = omega arith

below_step : (b m p : ℕ) → b ≤ 1 → m < p → b + 2 * m < 2 * p
below_step b m p l h = omega arith

pub number_below : (bits : List Bool) → number bits < 2 ^ length bits
number_below [] = omega arith
number_below (true ∷ bits) = rw pow_suc (below_step 1 (number bits) (2 ^ length bits) (omega arith) (number_below bits))
number_below (false ∷ bits) = rw pow_suc (below_step 0 (number bits) (2 ^ length bits) (omega arith) (number_below bits))

-- what leaves the highest place
abbrev pub over : ℕ → Bool → ℕ
over n c = cond c (2 ^ n) 0

pub over-suc : (n : ℕ) (c : Bool) → over (suc n) c ≡ 2 * over n c
over-suc n true = pow_suc n
over-suc n false = refl

full_add : (x y c : Bool) → cond (differ (differ x y) c) 1 0 + 2 * cond (carry_out (x && y) (differ x y) c) 1 0 ≡ cond x 1 0 + cond y 1 0 + cond c 1 0
full_add true true true = refl
full_add true true false = refl
full_add true false true = refl
full_add true false false = refl
full_add false true true = refl
full_add false true false = refl
full_add false false true = refl
full_add false false false = refl

full_subtract : (x y c : Bool) → cond (differ (differ x y) c) 1 0 + cond y 1 0 + cond c 1 0 ≡ cond x 1 0 + 2 * cond (carry_out (differ x y && y) (not (differ x y)) c) 1 0
full_subtract true true true = refl
full_subtract true true false = refl
full_subtract true false true = refl
full_subtract true false false = refl
full_subtract false true true = refl
full_subtract false true false = refl
full_subtract false false true = refl
full_subtract false false false = refl

half_negate : (x c : Bool) → cond (differ x c) 1 0 + cond x 1 0 + cond c 1 0 ≡ 2 * cond (x || c) 1 0
half_negate true true = refl
half_negate true false = refl
half_negate false true = refl
half_negate false false = refl

add_step : (d c' x y c r k k2 m n : ℕ) → d + 2 * c' ≡ x + y + c → r + k ≡ m + n + c' → k2 ≡ 2 * k → (d + 2 * r) + k2 ≡ (x + 2 * m) + (y + 2 * n) + c
add_step d c' x y c r k k2 m n p q e = omega arith

subtract_step : (d c' x y c r k k2 m n : ℕ) → d + y + c ≡ x + 2 * c' → r + n + c' ≡ m + k → k2 ≡ 2 * k → (d + 2 * r) + (y + 2 * n) + c ≡ (x + 2 * m) + k2
subtract_step d c' x y c r k k2 m n p q e = omega arith

negate_step : (d c' x c r k k2 m : ℕ) → d + x + c ≡ 2 * c' → r + m + c' ≡ k → k2 ≡ 2 * k → (d + 2 * r) + (x + 2 * m) + c ≡ k2
negate_step d c' x c r k k2 m p q e = omega arith

-- the carries of a sum, and the borrows of a difference
abbrev pub sum_carries : Bool → List Bool → List Bool → List Bool
sum_carries c xs ys = carries c (each ◌&&◌ xs ys) (each differ xs ys)

abbrev pub turned : List Bool → List Bool
turned xs = each (λ x y. not x) xs xs

abbrev pub borrows : Bool → List Bool → List Bool → List Bool
borrows c xs ys = carries c (each ◌&&◌ (each differ xs ys) ys) (turned (each differ xs ys))

pub sum_whole : (c : Bool) (xs ys : List Bool) → length ys ≡ length xs
    → number (each differ (each differ xs ys) (c ∷ sum_carries c xs ys)) + over (length xs) (last_of c (sum_carries c xs ys)) ≡ number xs + number ys + cond c 1 0
sum_whole true [] [] h = refl
sum_whole false [] [] h = refl
sum_whole c [] (y ∷ ys) h = absurd (omega (arith, h))
sum_whole c (x ∷ xs) [] h = absurd (omega (arith, h))
sum_whole c (x ∷ xs) (y ∷ ys) h =
    let c' = carry_out (x && y) (differ x y) c in
    let k = last_of c' (sum_carries c' xs ys) in
    add_step _ _ (cond x 1 0) (cond y 1 0) (cond c 1 0) _ (over (length xs) k) _ (number xs) (number ys) (full_add x y c) (sum_whole c' xs ys (omega (arith, h))) (over-suc (length xs) k)

pub difference_whole : (c : Bool) (xs ys : List Bool) → length ys ≡ length xs
    → number (each differ (each differ xs ys) (c ∷ borrows c xs ys)) + number ys + cond c 1 0 ≡ number xs + over (length xs) (last_of c (borrows c xs ys))
difference_whole true [] [] h = refl
difference_whole false [] [] h = refl
difference_whole c [] (y ∷ ys) h = absurd (omega (arith, h))
difference_whole c (x ∷ xs) [] h = absurd (omega (arith, h))
difference_whole c (x ∷ xs) (y ∷ ys) h =
    let c' = carry_out (differ x y && y) (not (differ x y)) c in
    let k = last_of c' (borrows c' xs ys) in
    subtract_step _ _ (cond x 1 0) (cond y 1 0) (cond c 1 0) _ (over (length xs) k) _ (number xs) (number ys) (full_subtract x y c) (difference_whole c' xs ys (omega (arith, h))) (over-suc (length xs) k)

pub negation_whole : (c : Bool) (xs : List Bool) → number (each differ xs (c ∷ carries c xs [])) + number xs + cond c 1 0 ≡ over (length xs) (last_of c (carries c xs []))
negation_whole true [] = refl
negation_whole false [] = refl
negation_whole c (x ∷ xs) =
    let k = last_of (x || c) (carries (x || c) xs []) in
    negate_step _ _ (cond x 1 0) (cond c 1 0) _ (over (length xs) k) _ (number xs) (half_negate x c) (negation_whole (x || c) xs) (over-suc (length xs) k)

-- a number below p with a multiple of p beside it
remainder_is : (z n k p : ℕ) → z < p → n ≡ z + k * p → n % p ≡ z
remainder_is z n k p h e = ap (λ m. m % p) e ∙ add-mul-mod_self_right z k p ∙ mod-eq_of_lt h

-- ---- the circuits' digits

-- the digits with the carries below the top alone
pub digits-whole : (ss cs : List Bool) (n : ℕ) → length ss ≤ n + 1 → digits ss (take n cs) ≡ each differ ss (false ∷ cs)
digits-whole [] cs n h = refl
digits-whole (true ∷ ss) cs n h = ap (λ l. true ∷ l) (each-enough differ n ss cs (omega (arith, h)))
digits-whole (false ∷ ss) cs n h = ap (λ l. false ∷ l) (each-enough differ n ss cs (omega (arith, h)))

one_place : (ss : List Bool) → length ss ≤ 1 → digits ss [] ≡ ss
one_place [] h = refl
one_place (s ∷ []) h = refl
one_place (s ∷ t ∷ ss) h = absurd (omega (arith, h))

-- a sum or a difference of one bit at most has no carries
pub digits-small : (xs ys cs : List Bool) → length ys ≡ length xs → length xs ≤ 1 → each differ xs ys ≡ each differ (each differ xs ys) (false ∷ cs)
digits-small xs ys cs h small =
    let w : length (each differ xs ys) ≤ 1 = omega (arith, length-each differ xs ys (omega arith)) in
    sym (one_place (each differ xs ys) w) ∙ digits-whole (each differ xs ys) cs 0 (omega arith)

pub sum_digits : (xs ys ss cs zs : List Bool) (n : ℕ) → length ys ≡ length xs → length xs ≡ n + 1 → ss ≡ each differ xs ys
    → cs ≡ carries false (each ◌&&◌ (take n xs) ys) ss → zs ≡ digits ss cs
    → zs ≡ each differ (each differ xs ys) (false ∷ sum_carries false xs ys)
sum_digits xs ys ss cs zs n h w s_is c_is z_is =
    let s = each differ xs ys in
    let sw : length s ≤ n + 1 = omega (arith, length-each differ xs ys (omega arith)) in
    let c : cs ≡ take n (sum_carries false xs ys) =
    c_is ∙ ap (carries false (each ◌&&◌ (take n xs) ys)) s_is ∙ ap (λ l. carries false l s) (each-take ◌&&◌ n xs ys) ∙ carries-take false n (each ◌&&◌ xs ys) s in
    z_is ∙ ap (λ l. digits l cs) s_is ∙ ap (digits s) c ∙ digits-whole s (sum_carries false xs ys) n sw

turned-take : (n : ℕ) (xs : List Bool) → turned (take n xs) ≡ take n (turned xs)
turned-take zero xs = refl
turned-take (suc n) [] = refl
turned-take (suc n) (x ∷ xs) = ap (λ l. not x ∷ l) (turned-take n xs)

both-take : (c : Bool) (n : ℕ) (gs ps : List Bool) → carries c (take n gs) (take n ps) ≡ take n (carries c gs ps)
both-take c zero gs ps = refl
both-take c (suc n) [] ps = refl
both-take c (suc n) (g ∷ gs) [] = ap (λ l. (g || c) ∷ l) (carries-take (g || c) n gs [])
both-take c (suc n) (g ∷ gs) (p ∷ ps) = ap (λ l. carry_out g p c ∷ l) (both-take (carry_out g p c) n gs ps)

pub difference_digits : (xs ys ss cs zs : List Bool) (n : ℕ) → length ys ≡ length xs → length xs ≡ n + 1 → ss ≡ each differ xs ys
    → cs ≡ carries false (each ◌&&◌ (take n ss) ys) (turned (take n ss)) → zs ≡ digits ss cs
    → zs ≡ each differ (each differ xs ys) (false ∷ borrows false xs ys)
difference_digits xs ys ss cs zs n h w s_is c_is z_is =
    let s = each differ xs ys in
    let sw : length s ≤ n + 1 = omega (arith, length-each differ xs ys (omega arith)) in
    let c : cs ≡ take n (borrows false xs ys) =
    c_is ∙ ap (λ l. carries false (each ◌&&◌ (take n l) ys) (turned (take n l))) s_is
    ∙ ap (λ l. carries false l (turned (take n s))) (each-take ◌&&◌ n s ys) ∙ ap (carries false (take n (each ◌&&◌ s ys))) (turned-take n s)
    ∙ both-take false n (each ◌&&◌ s ys) (turned s) in
    z_is ∙ ap (λ l. digits l cs) s_is ∙ ap (digits s) c ∙ digits-whole s (borrows false xs ys) n sw

pub negation_digits : (xs cs zs : List Bool) (n : ℕ) → length xs ≡ n + 1 → cs ≡ carries false (take n xs) [] → zs ≡ digits xs cs
    → zs ≡ each differ xs (false ∷ carries false xs [])
negation_digits xs cs zs n w c_is z_is =
    z_is ∙ ap (digits xs) (c_is ∙ carries-take false n xs []) ∙ digits-whole xs (carries false xs []) n (omega (arith, w))

pub negation-small : (xs cs : List Bool) → length xs ≤ 1 → xs ≡ each differ xs (false ∷ cs)
negation-small xs cs small = sym (one_place xs small) ∙ digits-whole xs cs 0 (omega arith)

-- what enters the lowest place is no carry, so it doesn't matter what it would pass on
pub lowest_passes : (gs ps : List Bool) (p q : Bool) → carries false gs (p ∷ ps) ≡ carries false gs (q ∷ ps)
lowest_passes [] ps p q = refl
lowest_passes (g ∷ gs) ps p q = ap (λ c. c ∷ carries c gs ps) (same g p q)
  where
    same : (g p q : Bool) → carry_out g p false ≡ carry_out g q false
    same true p q = refl
    same false true true = refl
    same false true false = refl
    same false false true = refl
    same false false false = refl

-- ---- the numbers

sum_rest : (k : Bool) (z m n p : ℕ) → z < p → z + cond k p 0 ≡ m + n + 0 → (m + n) % p ≡ z
sum_rest true z m n p h e = remainder_is z (m + n) 1 p h (omega arith)
sum_rest false z m n p h e = remainder_is z (m + n) 0 p h (omega arith)

difference_rest : (k : Bool) (z m n p : ℕ) → z < p → n < p → z + n + 0 ≡ m + cond k p 0 → (m + (p - n)) % p ≡ z
difference_rest true z m n p h l e = remainder_is z (m + (p - n)) 0 p h (omega arith)
difference_rest false z m n p h l e = remainder_is z (m + (p - n)) 1 p h (omega arith)

negation_rest : (k : Bool) (z m p : ℕ) → z < p → m < p → z + m + 0 ≡ cond k p 0 → (p - m) % p ≡ z
negation_rest true z m p h l e = remainder_is z (p - m) 0 p h (omega arith)
negation_rest false z m p h l e = remainder_is z (p - m) 1 p h (omega arith)

borrow_is : (k : Bool) (z m n p : ℕ) → z < p → z + n + 0 ≡ m + cond k p 0 → k ≡ nat_lt m n
borrow_is true z m n p h e = sym (lt-ltb m n (omega arith))
borrow_is false z m n p h e = sym (le-ltb m n (omega arith))

below : (zs : List Bool) (n : ℕ) → length zs ≡ n → number zs < 2 ^ n
below zs n e = subst (λ (k : ℕ). number zs < 2 ^ k) e (number_below zs)

pub sum_is : (xs ys zs : List Bool) → length ys ≡ length xs → length zs ≡ length xs → zs ≡ each differ (each differ xs ys) (false ∷ sum_carries false xs ys)
    → number zs ≡ (number xs + number ys) % 2 ^ length xs
sum_is xs ys zs h w is =
    sym (sum_rest (last_of false (sum_carries false xs ys)) (number zs) (number xs) (number ys) (2 ^ length xs) (below zs _ w)
    (ap (λ l. number l + over (length xs) (last_of false (sum_carries false xs ys))) is ∙ sum_whole false xs ys h))

pub difference_is : (xs ys zs : List Bool) → length ys ≡ length xs → length zs ≡ length xs → zs ≡ each differ (each differ xs ys) (false ∷ borrows false xs ys)
    → number zs ≡ (number xs + (2 ^ length xs - number ys)) % 2 ^ length xs
difference_is xs ys zs h w is =
    sym (difference_rest (last_of false (borrows false xs ys)) (number zs) (number xs) (number ys) (2 ^ length xs) (below zs _ w) (below ys _ h)
    (ap (λ l. number l + number ys + 0) is ∙ difference_whole false xs ys h))

pub negation_is : (xs zs : List Bool) → length zs ≡ length xs → zs ≡ each differ xs (false ∷ carries false xs [])
    → number zs ≡ (2 ^ length xs - number xs) % 2 ^ length xs
negation_is xs zs w is =
    sym (negation_rest (last_of false (carries false xs [])) (number zs) (number xs) (2 ^ length xs) (below zs _ w) (below xs _ refl)
    (ap (λ l. number l + number xs + 0) is ∙ negation_whole false xs))

pub less_is : (xs ys : List Bool) → length ys ≡ length xs → last_of false (borrows false xs ys) ≡ nat_lt (number xs) (number ys)
less_is xs ys h =
    let s = each differ xs ys in
    let bs = borrows false xs ys in
    let sw : length s ≡ length xs = length-each differ xs ys (omega arith) in
    let qw : length (turned s) ≡ length s = length-each _ s s (omega arith) in
    let gw : length (each ◌&&◌ s ys) ≡ length s = length-each ◌&&◌ s ys (omega arith) in
    let bw : length bs ≡ length s = length-carries false (each ◌&&◌ s ys) (turned s) ∙ gw in
    let w : length (each differ s (false ∷ bs)) ≡ length xs = length-each differ s (false ∷ bs) (omega arith) ∙ sw in
    borrow_is (last_of false bs) (number (each differ s (false ∷ bs))) (number xs) (number ys) (2 ^ length xs) (below _ _ w) (difference_whole false xs ys h)
