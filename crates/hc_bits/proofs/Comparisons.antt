-- Comparisons: the borrow out of the highest place, and signs by exchanging the top bits.
use Rattle.std.proofs.Common.{◌≡◌, ℕ, ◌+◌, ◌-◌, ◌*◌, ◌^◌, ◌<◌, ◌≤◌, Bool, true, false, cond, List, [], ◌∷◌, ◌++◌, length, map, take, get_or, refl, ap, sym, subst, ◌∙◌, arith, add-one}
use Rattle.std.specs.Prelude.{All, ◌&&◌, nat_lt, int_lt, ℤ, pos, ◌-ℤ◌, ◌<ℤ◌, ◌≤ℤ◌}
use Rattle.std.proofs.lemmas.Bool.{lt-ltb, le-ltb, le-leb, lt-leb, cond-true, cond-false}
use Rattle.std.proofs.lemmas.Int.{ints, by_lt_z}
use Rattle.std.proofs.lemmas.List.{length-map, length-take, length_push, map_push, take_more, take_all}
use Rattle.std.proofs.lemmas.List.Elements.{All-append, All-take}
use Rattle.hc_net.specs.Bits.{number}
use Rattle.hc_net.specs.Circuit.{Circuit}
use Rattle.hc_net.specs.Gate.{differ}
use Rattle.hc_net.specs.Made.{Over, Makes}
use Rattle.hc_net.specs.MadeLemmas.{Makes-then, Makes-last, Makes-holds, Over-left}
use Rattle.hc_num.specs.Number.{signed_value}
use Rattle.hc_num.specs.Compare.{truth, is_less}
use Rattle.hc_bits.specs.Held.{held}
use Rattle.hc_bits.specs.Carry.{each, carries, last_of}
use Rattle.hc_bits.proofs.Carries.{turned, over, over-suc, number_below, pow_suc, less_is}
use Rattle.hc_bits.proofs.Parts.{All-left, All-right, All-one, Over-right, Makes-wider}

-- ---- without a sign

bit_is : (k : Bool) → cond k 1 0 + 2 * 0 ≡ cond k 1 0
bit_is true = refl
bit_is false = refl

-- one net that holds an answer
answer_held : (v : ℕ → Bool) (k : ℕ) (b : Bool) → v k ≡ b → held false v (k ∷ []) ≡ truth b
answer_held v k b is = ap (λ (n : ℕ). record { width = 1; signed = false; bits = n }) (bit_is (v k) ∙ ap (λ t. cond t 1 0) is)

pub less_made : (old m1 m2 m3 new : Circuit) (x y s g p : List ℕ) (top : ℕ) → length y ≡ length x → 1 ≤ length x → length s ≡ length x → length g ≡ length s
    → Makes (length x) (x ++ y) old m1 s (λ v. map v s ≡ each differ (map v x) (map v y))
    → Makes (length s) (s ++ y) m1 m2 g (λ v. map v g ≡ each ◌&&◌ (map v s) (map v y))
    → Makes (length s) s m2 m3 p (λ v. (gs : List Bool) → carries false gs (map v p) ≡ carries false gs (turned (map v s)))
    → Makes (3 * length g) (g ++ p) m3 new (top ∷ []) (λ v. v top ≡ last_of false (carries false (map v g) (map v p)))
    → Makes (6 * length x) (x ++ y) old new (top ∷ []) (λ v. held false v (top ∷ []) ≡ truth (is_less (held false v x) (held false v y)))
less_made old m1 m2 m3 new x y s g p top h some sw gw a b c d =
    let args = x ++ y in
    let generates = Makes-then a b (All-append (Over m1.nodes args) s y a.reach (Over-right x y)) in
    let both = Makes-then generates c (All-left (Over m2.nodes args) s g generates.reach) in
    let of_g = All-right (Over m3.nodes args) s g (All-left (Over m3.nodes args) (s ++ g) p both.reach) in
    let of_p = All-right (Over m3.nodes args) (s ++ g) p both.reach in
    let whole = Makes-last both d (All-append (Over m3.nodes args) g p of_g of_p) in
    Makes-holds whole (omega arith) (λ v e. answer_held v top _ (top_is v e.0.0.0 e.0.0.1 (e.0.1 _) e.1))
  where
    top_is : (v : ℕ → Bool) → map v s ≡ each differ (map v x) (map v y) → map v g ≡ each ◌&&◌ (map v s) (map v y)
        → carries false (map v g) (map v p) ≡ carries false (map v g) (turned (map v s)) → v top ≡ last_of false (carries false (map v g) (map v p)) → v top ≡ nat_lt (number (map v x)) (number (map v y))
    top_is v s_is g_is p_is t_is =
        t_is ∙ ap (last_of false) (p_is ∙ ap (λ l. carries false l (turned (map v s))) g_is ∙ ap (λ l. carries false (each ◌&&◌ l (map v y)) (turned l)) s_is)
        ∙ less_is (map v x) (map v y) (length-map y v ∙ h ∙ sym (length-map x v))

-- ---- with a sign

number-push : (bits : List Bool) (b : Bool) → number (bits ++ b ∷ []) ≡ number bits + over (length bits) b
number-push [] true = refl
number-push [] false = refl
number-push (x ∷ bits) b = let h = number-push bits b in let e = over-suc (length bits) b in doubled (cond x 1 0) _ _ (over (length bits) b) _ h e
  where
    doubled : (d m n k k2 : ℕ) → m ≡ n + k → k2 ≡ 2 * k → d + 2 * m ≡ (d + 2 * n) + k2
    doubled d m n k k2 p q = omega arith

abbrev signed_number : ℕ → ℕ → ℤ
signed_number w n = signed_value (record { width = w; signed = true; bits = n })

signed_top : (n l : ℕ) → signed_number (n + 1) (l + 2 ^ n) ≡ pos (l + 2 ^ n) -ℤ pos (2 ^ (n + 1))
signed_top n l =
    let e : 2 ^ (n + 1 - 1) ≡ 2 ^ n = ap (λ k. 2 ^ k) (below_top n) in
    cond-true _ _ _ (le-leb (2 ^ (n + 1 - 1)) (l + 2 ^ n) (omega arith))
  where
    below_top : (n : ℕ) → n + 1 - 1 ≡ n
    below_top n = omega arith

signed_low : (n l : ℕ) → l < 2 ^ n → signed_number (n + 1) (l + 0) ≡ pos (l + 0)
signed_low n l h =
    let e : 2 ^ (n + 1 - 1) ≡ 2 ^ n = ap (λ k. 2 ^ k) (below_top n) in
    cond-false _ _ _ (lt-leb (2 ^ (n + 1 - 1)) (l + 0) (omega arith))
  where
    below_top : (n : ℕ) → n + 1 - 1 ≡ n
    below_top n = omega arith

same_order : (a b c d : ℤ) (m n : ℕ) → a ≡ c → b ≡ d → (c <ℤ d → m < n) → (d ≤ℤ c → n ≤ m) → int_lt a b ≡ nat_lt m n
same_order a b c d m n p q f g =
    ap (λ t. int_lt t b) p ∙ ap (int_lt c) q
    ∙ by_lt_z c d (λ lt. let e : int_lt c d ≡ true = grind (arith, ints) in e ∙ sym (lt-ltb m n (f lt))) (λ le. let e : int_lt c d ≡ false = grind (arith, ints) in e ∙ sym (le-ltb m n (g le)))

pow_more : (n : ℕ) → 2 ^ (n + 1) ≡ 2 * 2 ^ n
pow_more n = rw add-one (pow_suc n)

-- exchanging the top bits of two numbers gives their order with a sign
exchanged : (n l m : ℕ) (s t : Bool) → l < 2 ^ n → m < 2 ^ n
    → int_lt (signed_number (n + 1) (l + over n s)) (signed_number (n + 1) (m + over n t)) ≡ nat_lt (l + over n t) (m + over n s)
exchanged n l m true true p q = same_order _ _ _ _ (l + 2 ^ n) (m + 2 ^ n) (signed_top n l) (signed_top n m) (λ h. omega (arith, ints)) (λ h. omega (arith, ints))
exchanged n l m true false p q = let e : 2 ^ (n + 1) ≡ 2 * 2 ^ n = pow_more n in same_order _ _ _ _ (l + 0) (m + 2 ^ n) (signed_top n l) (signed_low n m q) (λ h. omega arith) (λ h. absurd (omega (arith, ints)))
exchanged n l m false true p q = let e : 2 ^ (n + 1) ≡ 2 * 2 ^ n = pow_more n in same_order _ _ _ _ (l + 2 ^ n) (m + 0) (signed_low n l p) (signed_top n m) (λ h. absurd (omega (arith, ints))) (λ h. omega arith)
exchanged n l m false false p q = same_order _ _ _ _ (l + 0) (m + 0) (signed_low n l p) (signed_low n m q) (λ h. omega (arith, ints)) (λ h. omega (arith, ints))

-- a list of nets as those below the top and the top
split_top : (v : ℕ → Bool) (x : List ℕ) (n : ℕ) → length x ≡ n + 1 → number (map v x) ≡ number (map v (take n x)) + over n (v (get_or x n 0))
split_top v x n w =
    let inside : n < length x = omega arith in
    let low : length (map v (take n x)) ≡ n = length-map (take n x) v ∙ low_length x n inside in
    ap (λ l. number (map v l)) (sym (take_all (n + 1) x (omega arith)) ∙ take_more x n 0 inside)
    ∙ ap number (map_push v (take n x) (get_or x n 0))
    ∙ number-push (map v (take n x)) (v (get_or x n 0))
    ∙ ap (λ k. number (map v (take n x)) + over k (v (get_or x n 0))) low
  where
    low_length : (x : List ℕ) (n : ℕ) → n < length x → length (take n x) ≡ n
    low_length x n inside = omega (arith, length-take n x)

with_top : (v : ℕ → Bool) (x : List ℕ) (n k : ℕ) → length x ≡ n + 1 → number (map v (take n x ++ k ∷ [])) ≡ number (map v (take n x)) + over n (v k)
with_top v x n k w =
    let low : length (map v (take n x)) ≡ n = omega (arith, length-map (take n x) v, length-take n x) in
    ap number (map_push v (take n x) k) ∙ number-push (map v (take n x)) (v k) ∙ ap (λ i. number (map v (take n x)) + over i (v k)) low

below_top : (v : ℕ → Bool) (x : List ℕ) (n : ℕ) → length x ≡ n + 1 → number (map v (take n x)) < 2 ^ n
below_top v x n w =
    let low : length (map v (take n x)) ≡ n = omega (arith, length-map (take n x) v, length-take n x) in
    subst (λ (k : ℕ). number (map v (take n x)) < 2 ^ k) low (number_below (map v (take n x)))

signed_is : (v : ℕ → Bool) (x y : List ℕ) (n : ℕ) → length x ≡ n + 1 → length y ≡ n + 1
    → is_less (held true v x) (held true v y) ≡ nat_lt (number (map v (take n x ++ get_or y n 0 ∷ []))) (number (map v (take n y ++ get_or x n 0 ∷ [])))
signed_is v x y n xw yw =
    let l = number (map v (take n x)) in
    let m = number (map v (take n y)) in
    let s = v (get_or x n 0) in
    let t = v (get_or y n 0) in
    ap (λ k. int_lt (signed_number k (number (map v x))) (signed_number (length y) (number (map v y)))) xw
    ∙ ap (λ k. int_lt (signed_number (n + 1) (number (map v x))) (signed_number k (number (map v y)))) yw
    ∙ ap (λ k. int_lt (signed_number (n + 1) k) (signed_number (n + 1) (number (map v y)))) (split_top v x n xw)
    ∙ ap (λ k. int_lt (signed_number (n + 1) (l + over n s)) (signed_number (n + 1) k)) (split_top v y n yw)
    ∙ exchanged n l m s t (below_top v x n xw) (below_top v y n yw)
    ∙ ap (λ k. nat_lt k (m + over n s)) (sym (with_top v x n (get_or y n 0) xw))
    ∙ ap (nat_lt (number (map v (take n x ++ get_or y n 0 ∷ [])))) (sym (with_top v y n (get_or x n 0) yw))

pub exchanged_there : (size n : ℕ) (x y left : List ℕ) → left ≡ take n x ++ get_or y n 0 ∷ [] → n < length y → All (λ k. k < size) x → All (λ k. k < size) y → All (λ k. k < size) left
exchanged_there size n x y left is inside all_x all_y =
    subst (All (λ k. k < size)) (sym is) (All-append (λ k. k < size) (take n x) (get_or y n 0 ∷ []) (All-take (λ k. k < size) n x all_x) (All-one (λ k. k < size) (get_or y n 0) (all_y n 0 inside)))

pub less_signed_made : (old new : Circuit) (x y left right z : List ℕ) (n : ℕ) → length x ≡ n + 1 → length y ≡ n + 1
    → left ≡ take n x ++ get_or y n 0 ∷ [] → right ≡ take n y ++ get_or x n 0 ∷ []
    → Makes (6 * length left) (left ++ right) old new z (λ v. held false v z ≡ truth (is_less (held false v left) (held false v right)))
    → Makes (6 * length x) (x ++ y) old new z (λ v. held false v z ≡ truth (is_less (held true v x) (held true v y)))
less_signed_made old new x y left right z n xw yw left_is right_is p =
    let args = x ++ y in
    let from_x = Over-left {nodes = new.nodes} x y in
    let from_y = Over-right {nodes = new.nodes} x y in
    let of_left = subst (All (Over new.nodes args)) (sym left_is) (All-append (Over new.nodes args) (take n x) (get_or y n 0 ∷ []) (All-take (Over new.nodes args) n x from_x) (All-one (Over new.nodes args) (get_or y n 0) (from_y n 0 (omega arith)))) in
    let of_right = subst (All (Over new.nodes args)) (sym right_is) (All-append (Over new.nodes args) (take n y) (get_or x n 0 ∷ []) (All-take (Over new.nodes args) n y from_y) (All-one (Over new.nodes args) (get_or x n 0) (from_x n 0 (omega arith)))) in
    let width : length left ≡ length x = omega (arith, ap length left_is, length_push (take n x) (get_or y n 0), length-take n x) in
    Makes-holds (Makes-wider {wide = args} p (All-append (Over new.nodes args) left right of_left of_right)) (omega arith)
    (λ v e. e ∙ ap truth (ap (λ l. nat_lt (number (map v l)) (number (map v right))) left_is ∙ ap (λ l. nat_lt (number (map v (take n x ++ get_or y n 0 ∷ []))) (number (map v l))) right_is ∙ sym (signed_is v x y n xw yw)))
