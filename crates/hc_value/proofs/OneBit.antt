-- Circuits that give an answer of one bit, and those that choose by one.
use Rattle.std.proofs.Common.{◌≡◌, ℕ, ◌+◌, ◌*◌, List, ◌∷◌, [], ◌++◌, length, map, get_or, Bool, false, not, ◌&&◌, ◌||◌, if◌then◌else◌, refl, ap, sym, ◌∙◌, subst, arith}
use Rattle.std.specs.Prelude.{All, ◌==◌}
use Rattle.std.proofs.lemmas.List.Elements.{All-cons, All-append}
use Rattle.hc_meaning.specs.Value.{holds}
use Rattle.hc_num.specs.Bits.{conjunction, disjunction, complement}
use Rattle.hc_num.specs.Compare.{truth, is_less}
use Rattle.hc_net.specs.Circuit.{Circuit}
use Rattle.hc_net.specs.Made.{Over, Makes}
use Rattle.hc_net.specs.MadeLemmas.{Makes-then, Makes-last, Makes-holds, Over-left}
use Rattle.hc_bits.specs.Held.{held}
use Rattle.hc_muldiv.proofs.Circuits.{Over-right, Makes-over}
use Rattle.hc_value.proofs.Held.{turned, both_true, either_true, bit_is, chosen_is}

-- an answer, turned
pub turned_made : (m : ℕ) (args : List ℕ) (old mid new : Circuit) (some z : List ℕ) (t : (ℕ → Bool) → Bool → Bool) → length some ≡ 1
    → Makes m args old mid some (λ v. (s : Bool) → held false v some ≡ truth (t v s))
    → Makes (length some) some mid new z (λ v. (s : Bool) → held s v z ≡ complement (held s v some))
    → Makes (m + 1) args old new z (λ v. (s : Bool) → held false v z ≡ truth (not (t v s)))
turned_made m args old mid new some z t one a b =
    Makes-holds (Makes-last a b a.reach) (omega arith) (λ v both s. both.1 false ∙ ap complement (both.0 s) ∙ turned (t v s))

-- whether a number is below another, by the sign that both have
pub less_made : (old new : Circuit) (x y z : List ℕ) (s t : Bool) → s ≡ t
    → Makes (6 * length x) (x ++ y) old new z (λ v. held false v z ≡ truth (is_less (held t v x) (held t v y)))
    → Makes (6 * length x) (x ++ y) old new z (λ v. held false v z ≡ truth (is_less (held s v x) (held s v y)))
less_made old new x y z s t is made = Makes-holds made (omega arith) (λ v h. h ∙ ap (λ r. truth (is_less (held r v x) (held r v y))) (sym is))

-- whether a number isn't below another
pub at_least_made : (old mid new : Circuit) (x y below z : List ℕ) (s : Bool) → length below ≡ 1
    → Makes (6 * length x) (x ++ y) old mid below (λ v. held false v below ≡ truth (is_less (held s v x) (held s v y)))
    → Makes (length below) below mid new z (λ v. (r : Bool) → held r v z ≡ complement (held r v below))
    → Makes (6 * length x + 1) (x ++ y) old new z (λ v. held false v z ≡ truth (not (is_less (held s v x) (held s v y))))
at_least_made old mid new x y below z s one a b =
    Makes-holds (Makes-last a b a.reach) (omega arith) (λ v both. both.1 false ∙ ap complement both.0 ∙ turned (is_less (held s v x) (held s v y)))

-- ---- two answers

abbrev pub MakesTruth : Circuit → Circuit → List ℕ → List ℕ → Type 0
MakesTruth old new x p = Makes (length x) x old new p (λ v. (s : Bool) → held false v p ≡ truth (not ((held s v x).bits == 0)))

truths_made : (old mid last : Circuit) (x y p q : List ℕ) → MakesTruth old mid x p → MakesTruth mid last y q
    → Makes (length x + length y) (x ++ y) old last (p ++ q)
    (λ v. ((s : Bool) → held false v p ≡ truth (holds (held s v x))) × ((r : Bool) → held false v q ≡ truth (holds (held r v y))))
truths_made old mid last x y p q a b = Makes-then (Makes-over a (Over-left x y)) b (Over-right x y)

pub both_made : (old mid last new : Circuit) (x y p q z : List ℕ) → length p ≡ 1 → MakesTruth old mid x p → MakesTruth mid last y q
    → Makes (length p) (p ++ q) last new z (λ v. (s : Bool) → held s v z ≡ conjunction (held s v p) (held s v q))
    → Makes (length x + length y + 1) (x ++ y) old new z (λ v. (s r : Bool) → held false v z ≡ truth (holds (held s v x) && holds (held r v y)))
both_made old mid last new x y p q z one a b made =
    let two = truths_made old mid last x y p q a b in
    Makes-holds (Makes-last two made two.reach) (omega arith) (λ v h s r.
    h.1 false ∙ ap (λ n. conjunction n (held false v q)) (h.0.0 s) ∙ ap (λ n. conjunction (truth (holds (held s v x))) n) (h.0.1 r) ∙ both_true (holds (held s v x)) (holds (held r v y)))

pub either_made : (old mid last new : Circuit) (x y p q z : List ℕ) → length p ≡ 1 → MakesTruth old mid x p → MakesTruth mid last y q
    → Makes (length p) (p ++ q) last new z (λ v. (s : Bool) → held s v z ≡ disjunction (held s v p) (held s v q))
    → Makes (length x + length y + 1) (x ++ y) old new z (λ v. (s r : Bool) → held false v z ≡ truth (holds (held s v x) || holds (held r v y)))
either_made old mid last new x y p q z one a b made =
    let two = truths_made old mid last x y p q a b in
    Makes-holds (Makes-last two made two.reach) (omega arith) (λ v h s r.
    h.1 false ∙ ap (λ n. disjunction n (held false v q)) (h.0.0 s) ∙ ap (λ n. disjunction (truth (holds (held s v x))) n) (h.0.1 r) ∙ either_true (holds (held s v x)) (holds (held r v y)))

-- ---- one of two numbers

pub choice_made : (old mid new : Circuit) (c x y p z : List ℕ) (net : ℕ) → length p ≡ 1 → net ≡ get_or p 0 0 → length y ≡ length x → length z ≡ length x → MakesTruth old mid c p
    → Makes (3 * length x + 1) (net ∷ x ++ y) mid new z (λ v. map v z ≡ (if v net then map v x else map v y))
    → Makes (length c + (3 * length x + 1)) (c ++ (x ++ y)) old new z (λ v. (r s : Bool) → held s v z ≡ (if holds (held r v c) then held s v x else held s v y))
choice_made old mid new c x y p z net one is same width a b =
    let args = c ++ (x ++ y) in
    let first = Makes-over a (Over-left c (x ++ y)) in
    let P = Over mid.nodes args in
    let at : P net = subst P (sym is) (first.reach 0 0 (omega arith)) in
    let over : All P (net ∷ (x ++ y)) = All-cons P net (x ++ y) at (Over-right c (x ++ y)) in
    Makes-holds (Makes-last first b over) (omega arith) (λ v h r s.
    chosen_is s v (v net) x y z width same h.1
    ∙ ap (λ t. if t then held s v x else held s v y) (bit_is v p net (holds (held r v c)) one is (h.0 r)))
