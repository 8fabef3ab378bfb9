-- The value of digits never falls.
use Rattle.std.proofs.Common.{◌≡◌, ℕ, zero, suc, ◌+◌, ◌*◌, ◌^◌, ◌≤◌, ◌<◌, true, false, List, [], ◌∷◌, length, get_or, Some, None, arith, sym}
use Rattle.std.specs.Prelude.{fold}
use Rattle.std.proofs.lemmas.Grind.{common_steps}
use Rattle.std.proofs.lemmas.Bool.Decides.{nat_tests}
use Rattle.std.specs.List.{list_all}
use Rattle.hc_lex.specs.Number.{digit, is_digit_of, numeral}

abbrev pub more : ℕ → ℕ → ℕ → ℕ
more base n b = n * base + digit b

le-mul : (v base : ℕ) → 1 ≤ base → v ≤ v * base
le-mul v zero h = absurd (omega arith)
le-mul zero (suc base) h = omega arith
le-mul (suc v) (suc base) h = let ih : v ≤ v * suc base = le-mul v (suc base) h in grind (arith, ih)

pub value-grows : (base v : ℕ) (run : List ℕ) → 2 ≤ base → v ≤ fold (more base) v run
value-grows base v [] h = omega arith
value-grows base v (b ∷ run) h =
    let e : v ≤ v * base = le-mul v base (omega arith) in
    let g : v * base + digit b ≤ fold (more base) (v * base + digit b) run = value-grows base (v * base + digit b) run h in
    omega (arith, e, g)

pub value-grows_by : (base v : ℕ) (run : List ℕ) → 2 ≤ base → 1 ≤ length run → v * base + digit (get_or run 0 0) ≤ fold (more base) v run
value-grows_by base v [] two h = absurd (omega arith)
value-grows_by base v (b ∷ run) two h = value-grows base (v * base + digit b) run two

pub numeral-large : (base : ℕ) (run : List ℕ) → 2 ^ 128 ≤ fold (more base) 0 run → numeral base run ≡ None
unfolding numeral
numeral-large base run h = grind (arith, nat_tests, common_steps)

pub numeral-other : (base : ℕ) (run : List ℕ) → list_all (is_digit_of base) run ≡ false → numeral base run ≡ None
unfolding numeral
numeral-other base run h = grind (arith, nat_tests, common_steps)

pub numeral-none : (base : ℕ) (run : List ℕ) → length run ≡ 0 → numeral base run ≡ None
unfolding numeral
numeral-none base run h = grind (arith, nat_tests, common_steps)

pub numeral-small : (base : ℕ) (run : List ℕ) (v : ℕ) → 0 < length run → list_all (is_digit_of base) run ≡ true → fold (more base) 0 run ≡ v → v < 2 ^ 128 → numeral base run ≡ Some v
unfolding numeral
numeral-small base run v some all e h = grind (arith, nat_tests, common_steps)

pub numeral-done : (base : ℕ) (all run : List ℕ) (v : ℕ) → 0 < length all → length run < 1 → fold (more base) v run ≡ fold (more base) 0 all → list_all (is_digit_of base) run ≡ list_all (is_digit_of base) all → v < 2 ^ 128 → Some v ≡ numeral base all
numeral-done base all [] v some h e f fits = sym (numeral-small base all v some (sym f) (sym e) fits)
numeral-done base all (b ∷ run) v some h e f fits = absurd (omega arith)

pub ruleset numeral_is = (value-grows, value-grows_by, numeral-large, numeral-other, numeral-none, numeral-small)
