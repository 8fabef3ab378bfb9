-- The numbers that lists of nets hold.
use Rattle.std.proofs.Common.{◌≡◌, ℕ, zero, suc, ◌+◌, ◌*◌, ◌%◌, ◌^◌, ◌<◌, ◌≤◌, List, [], ◌∷◌, ◌++◌, length, take, drop, map, get_or, replicate, Bool, true, false, ◌&&◌, if◌then◌else◌, refl, ap, sym, ◌∙◌, subst, arith}
use Rattle.std.proofs.Math.Nat.{pow-suc}
use Rattle.std.proofs.lemmas.List.{take-append-drop, length-take-le, drop_more, drop_all}
use Rattle.std.proofs.lemmas.Nat.{mod_low}
use Rattle.hc_net.specs.Bits.{number}
use Rattle.hc_muldiv.specs.Value.{value}

pub at_most_one : (b : Bool) → (if b then 1 else 0) ≤ 1
at_most_one true = omega arith
at_most_one false = omega arith

-- ---- lists end to end

doubled : (n p : ℕ) → 2 * (n * p) ≡ n * (p * 2)
doubled n p = grind arith

pub value-append : (v : ℕ → Bool) (xs ys : List ℕ) → value v (xs ++ ys) ≡ value v xs + value v ys * 2 ^ length xs
value-append v [] ys = omega arith
value-append v (x ∷ xs) ys =
    let e = value-append v xs ys in
    let p : 2 ^ suc (length xs) ≡ 2 ^ length xs * 2 = pow-suc 2 (length xs) in
    let d = doubled (value v ys) (2 ^ length xs) in
    rw p (omega arith)

pub value_fits : (v : ℕ → Bool) (xs : List ℕ) → value v xs < 2 ^ length xs
value_fits v [] = omega arith
value_fits v (x ∷ xs) =
    let e = value_fits v xs in
    let p : 2 ^ suc (length xs) ≡ 2 ^ length xs * 2 = pow-suc 2 (length xs) in
    let one = at_most_one (v x) in
    rw p (omega arith)

-- ---- parts of a list

-- the lowest n bits and the others
pub value_split : (v : ℕ → Bool) (n : ℕ) (xs low high : List ℕ) → n ≤ length xs → low ≡ take n xs → high ≡ drop n xs
    → value v xs ≡ value v high * 2 ^ n + value v low
value_split v n xs low high within is_low is_high =
    let whole : low ++ high ≡ xs = ap (λ l. l ++ high) is_low ∙ ap (λ l. take n xs ++ l) is_high ∙ take-append-drop n xs in
    let width : length low ≡ n = ap (λ (l : List ℕ). length l) is_low ∙ length-take-le n xs within in
    let e : value v xs ≡ value v low + value v high * 2 ^ n =
    sym (ap (λ (l : List ℕ). value v l) whole) ∙ value-append v low high ∙ ap (λ k. value v low + value v high * 2 ^ k) width in
    omega (arith, e)

pub value_low_fits : (v : ℕ → Bool) (n : ℕ) (xs low : List ℕ) → n ≤ length xs → low ≡ take n xs → value v low < 2 ^ n
value_low_fits v n xs low within is = subst (λ k. value v low < 2 ^ k) (ap (λ (l : List ℕ). length l) is ∙ length-take-le n xs within) (value_fits v low)

pub value_low : (v : ℕ → Bool) (n : ℕ) (xs low : List ℕ) → n ≤ length xs → low ≡ take n xs → value v low ≡ value v xs % 2 ^ n
value_low v n xs low within is =
    sym (ap (λ k. k % 2 ^ n) (value_split v n xs low (drop n xs) within is refl) ∙ mod_low (value v (drop n xs)) n (value v low) (value_low_fits v n xs low within is))

-- the last bit on top of the others
pub value_top : (v : ℕ → Bool) (w : ℕ) (xs low : List ℕ) (top : ℕ) → length xs ≡ w + 1 → top ≡ get_or xs w 0 → low ≡ take w xs
    → value v xs ≡ (if v top then 1 else 0) * 2 ^ w + value v low
value_top v w xs low top width is is_low =
    let rest = drop_more xs w 0 (omega arith) ∙ ap (λ l. get_or xs w 0 ∷ l) (drop_all (w + 1) xs (omega arith)) ∙ ap (λ k. k ∷ []) (sym is) in
    let one : value v (top ∷ []) ≡ (if v top then 1 else 0) = omega arith in
    value_split v w xs low (top ∷ []) (omega arith) is_low (sym rest) ∙ ap (λ k. k * 2 ^ w + value v low) one

-- ---- chosen bits

-- a 0 on top changes nothing
pub value_topped : (v : ℕ → Bool) (xs : List ℕ) (top : ℕ) → v top ≡ false → value v (xs ++ top ∷ []) ≡ value v xs
value_topped v [] top is = rw is refl
value_topped v (x ∷ xs) top is = let e = value_topped v xs top is in rw e refl

pub value_zeros : (v : ℕ → Bool) (n net : ℕ) → v net ≡ false → value v (replicate n net) ≡ 0
value_zeros v zero net is = refl
value_zeros v (suc n) net is = let e = value_zeros v n net is in rw (is, e) refl

and_true : (b : Bool) → (b && true) ≡ b
and_true true = refl
and_true false = refl

and_false : (b : Bool) → (b && false) ≡ false
and_false true = refl
and_false false = refl

-- each bit of a number and one more bit
number_and : (v : ℕ → Bool) (c : Bool) (xs : List ℕ) → number (map (λ k. v k && c) xs) ≡ (if c then value v xs else 0)
number_and v true [] = refl
number_and v false [] = refl
number_and v true (x ∷ xs) = let e : number (map (λ k. v k && true) xs) ≡ value v xs = number_and v true xs in rw (and_true (v x), e) refl
number_and v false (x ∷ xs) = let e : number (map (λ k. v k && false) xs) ≡ 0 = number_and v false xs in rw (and_false (v x), e) refl

pub value_and : (v : ℕ → Bool) (bit : ℕ) (xs zs : List ℕ) → map v zs ≡ map (λ k. v k && v bit) xs → value v zs ≡ (if v bit then value v xs else 0)
value_and v bit xs zs is = ap (λ (l : List Bool). number l) is ∙ number_and v (v bit) xs

-- the number of what is chosen by a bit
number_chosen : (c : Bool) (xs ys zs : List Bool) → zs ≡ (if c then xs else ys) → number zs ≡ (if c then number xs else number ys)
number_chosen true xs ys zs is = ap (λ (l : List Bool). number l) is
number_chosen false xs ys zs is = ap (λ (l : List Bool). number l) is

pub value_chosen : (v : ℕ → Bool) (c : Bool) (xs ys zs : List ℕ) → map v zs ≡ (if c then map v xs else map v ys)
    → value v zs ≡ (if c then value v xs else value v ys)
value_chosen v c xs ys zs is = number_chosen c (map v xs) (map v ys) (map v zs) is
