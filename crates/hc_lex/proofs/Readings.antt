-- Bytes have one reading, one first breach, and not both.
use Rattle.std.proofs.Common.{◌≡◌, ℕ, ◌+◌, ◌≤◌, ◌<◌, Bool, true, false, IsTrue, List, ◌∷◌, length, take, drop, Option, Some, None, refl, subst, cond, arith, nat_le}
use Rattle.std.specs.List.{All}
use Rattle.std.proofs.lemmas.List.Elements.{All-head, All-tail}
use Rattle.std.proofs.lemmas.Grind.{common_steps}
use Rattle.std.proofs.lemmas.Bool.Decides.{nat_tests}
use Rattle.hc_tree.specs.declared.place.Place.{Place}
use Rattle.hc_tree.specs.declared.refusal.Rule.{Rule}
use Rattle.hc_tree.specs.declared.refusal.Rule.TheVariants.{L1, L2}
use Rattle.hc_lex.specs.Place.{place_behind}
use Rattle.hc_lex.specs.Lexes.{Lexes, ends, skips, takes, Stops, breaks, passes, after_skip, after_token, IsShort, is_short, passed, token_of}
use Rattle.hc_lex.specs.declared.front.Kind.{Kind}
use Rattle.hc_lex.specs.declared.front.Front.{Front}
use Rattle.hc_lex.specs.declared.front.Front.TheVariants as f
use Rattle.hc_lex.specs.declared.token.Token.{Token}
use Rattle.hc_lex.specs.declared.token.Placed.{Placed}

skip-same : {x : Front} {n m : ℕ} → x ≡ f.Skip n → x ≡ f.Skip m → m ≡ n
skip-same p q = cc

kind-same : {x : Front} {k j : Kind} {n m : ℕ} → x ≡ f.Token k n → x ≡ f.Token j m → j ≡ k
kind-same p q = cc

len-same : {x : Front} {k j : Kind} {n m : ℕ} → x ≡ f.Token k n → x ≡ f.Token j m → m ≡ n
len-same p q = cc

abbrev pub Rest : Place → List ℕ → List Placed → Place → ℕ → Type 0
Rest at bytes ts end n = Lexes (place_behind at (take n bytes)) (drop n bytes) ts end

abbrev pub Later : ℕ → Place → List ℕ → Rule → Place → ℕ → Type 0
Later before at bytes rule place n = Stops before (place_behind at (take n bytes)) (drop n bytes) rule place

first-same : (at : Place) (bytes : List ℕ) {k j : Kind} {n m : ℕ} {ts us : List Placed} → j ≡ k → m ≡ n → ts ≡ us
    → record { token = token_of k (take n bytes); place = at } ∷ ts ≡ record { token = token_of j (take m bytes); place = at } ∷ us
first-same at bytes p q r = rw (p, q, r) refl

pub reading-same : {at : Place} {bytes : List ℕ} {ts us : List Placed} {end other : Place} → Lexes at bytes ts end → Lexes at bytes us other
    → (ts ≡ us) × (end ≡ other)
reading-same (ends x) (ends y) = (refl, refl)
reading-same (ends x) (skips m y e) = cc
reading-same (ends x) (takes j m y e) = cc
reading-same (skips n x d) (ends y) = cc
reading-same {at = at} {bytes = bytes} {us = us} {other = other} (skips n x d) (skips m y e) = reading-same d (subst (Rest at bytes us other) (skip-same x y) e)
reading-same (skips n x d) (takes j m y e) = cc
reading-same (takes k n x d) (ends y) = cc
reading-same (takes k n x d) (skips m y e) = cc
reading-same {at = at} {bytes = bytes} {other = other} (takes k n x d) (takes {ts = us} j m y e) =
    let same = reading-same d (subst (Rest at bytes us other) (len-same x y) e) in
    (first-same at bytes (kind-same x y) (len-same x y) same.0, same.1)

passed-as : (before : ℕ) (bytes : List ℕ) {k j : Kind} {n m : ℕ} {o : Option Rule} → j ≡ k → m ≡ n → passed before (token_of j (take m bytes)) ≡ o → passed before (token_of k (take n bytes)) ≡ o
passed-as before bytes p q e = rw (← p, ← q) e

rule-same : {o : Option Rule} {r q : Rule} → o ≡ Some r → o ≡ Some q → r ≡ q
rule-same a b = cc

pub stop-same : {before : ℕ} {at : Place} {bytes : List ℕ} {rule other : Rule} {place behind : Place} → Stops before at bytes rule place → Stops before at bytes other behind
    → (rule ≡ other) × (place ≡ behind)
stop-same (breaks x) (breaks y) = (refl, refl)
stop-same (breaks x) (passes j m y q) = cc
stop-same (breaks x) (after_skip m y e) = cc
stop-same (breaks x) (after_token j m y q e) = cc
stop-same (passes k n x p) (breaks y) = cc
stop-same {before = before} {bytes = bytes} (passes k n x p) (passes j m y q) = (rule-same p (passed-as before bytes (kind-same x y) (len-same x y) q), refl)
stop-same (passes k n x p) (after_skip m y e) = cc
stop-same {before = before} {bytes = bytes} (passes k n x p) (after_token j m y q e) = let none = passed-as before bytes (kind-same x y) (len-same x y) q in cc
stop-same (after_skip n x d) (breaks y) = cc
stop-same (after_skip n x d) (passes j m y q) = cc
stop-same {before = before} {at = at} {bytes = bytes} {other = other} {behind = behind} (after_skip n x d) (after_skip m y e) =
    stop-same d (subst (Later before at bytes other behind) (skip-same x y) e)
stop-same (after_skip n x d) (after_token j m y q e) = cc
stop-same (after_token k n x p d) (breaks y) = cc
stop-same {before = before} {bytes = bytes} (after_token k n x p d) (passes j m y q) = let some = passed-as before bytes (kind-same x y) (len-same x y) q in cc
stop-same (after_token k n x p d) (after_skip m y e) = cc
stop-same {before = before} {at = at} {bytes = bytes} {other = other} {behind = behind} (after_token k n x p d) (after_token j m y q e) =
    stop-same d (subst (Later (before + 1) at bytes other behind) (len-same x y) e)

few-by : (before : ℕ) (t : Bool) → nat_le 1000000 before ≡ t → (cond t (Some L2) None) ≡ None → before < 1000000
few-by before true e h = cc
few-by before false e h = grind (arith, nat_tests)

within-by : (before : ℕ) (t : Bool) → (cond t (cond (nat_le 1000000 before) (Some L2) None) (Some L1)) ≡ None → (IsTrue t) × (before < 1000000)
within-by before true h = (refl, few-by before (nat_le 1000000 before) refl h)
within-by before false h = cc

-- a token that passes no limit
pub within : (before : ℕ) (t : Token) → passed before t ≡ None → (IsTrue (is_short t)) × (before < 1000000)
within before t h = within-by before (is_short t) h

pub passed-none : (before : ℕ) (t : Token) → IsTrue (is_short t) → before < 1000000 → passed before t ≡ None
passed-none before t short few = grind (arith, nat_tests, common_steps)

pub not-both : {at : Place} {bytes : List ℕ} {ts : List Placed} {end : Place} → Lexes at bytes ts end → (before : ℕ) (rule : Rule) (place : Place) → All IsShort ts
    → before + length ts ≤ 1000000 → Stops before at bytes rule place → ⊥
not-both (ends x) before rule place short few (breaks y) = cc
not-both (ends x) before rule place short few (passes j m y q) = cc
not-both (ends x) before rule place short few (after_skip m y e) = cc
not-both (ends x) before rule place short few (after_token j m y q e) = cc
not-both (skips n x d) before rule place short few (breaks y) = cc
not-both (skips n x d) before rule place short few (passes j m y q) = cc
not-both {at = at} {bytes = bytes} (skips n x d) before rule place short few (after_skip m y e) =
    not-both d before rule place short few (subst (Later before at bytes rule place) (skip-same x y) e)
not-both (skips n x d) before rule place short few (after_token j m y q e) = cc
not-both (takes k n x d) before rule place short few (breaks y) = cc
not-both {at = at} {bytes = bytes} (takes {ts = ts} k n x d) before rule place short few (passes j m y q) =
    let some = passed-as before bytes (kind-same x y) (len-same x y) q in
    let none = passed-none before (token_of k (take n bytes)) (All-head IsShort (record { token = token_of k (take n bytes); place = at }) ts short) (omega arith) in
    cc
not-both (takes k n x d) before rule place short few (after_skip m y e) = cc
not-both {at = at} {bytes = bytes} (takes {ts = ts} k n x d) before rule place short few (after_token j m y q e) =
    not-both d (before + 1) rule place (All-tail IsShort (record { token = token_of k (take n bytes); place = at }) ts short) (omega arith)
    (subst (Later (before + 1) at bytes rule place) (len-same x y) e)
