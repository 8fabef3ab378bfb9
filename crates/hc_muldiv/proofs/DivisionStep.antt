-- The circuit of one step of a long division.
use Rattle.std.proofs.Common.{◌≡◌, ◌<◌, ℕ, ◌+◌, ◌-◌, ◌*◌, ◌%◌, ◌^◌, List, ◌∷◌, ◌++◌, length, take, map, get_or, Bool, false, not, if◌then◌else◌, ap, sym, ◌∙◌, subst, arith}
use Rattle.std.specs.Prelude.{All}
use Rattle.std.proofs.lemmas.List.{length-take-le}
use Rattle.std.proofs.lemmas.List.Elements.{All-cons, All-append, All-take, All-same}
use Rattle.hc_num.specs.Arithmetic.{difference}
use Rattle.hc_net.specs.Circuit.{Circuit, with_node}
use Rattle.hc_net.specs.Made.{Over, Makes}
use Rattle.hc_net.specs.MadeLemmas.{Makes-then, Makes-last, Makes-holds, Makes-gate, Adds-over, Over-self, Over-left}
use Rattle.hc_net.specs.declared.node.Node.TheVariants.{Gate}
use Rattle.hc_net.specs.declared.gate.GateKind.TheVariants as kind
use Rattle.hc_bits.specs.Held.{held}
use Rattle.hc_muldiv.specs.Division.{Steps, MakesStep}
use Rattle.hc_muldiv.specs.Value.{value}
use Rattle.hc_muldiv.proofs.Circuits.{Makes-over}
use Rattle.hc_muldiv.proofs.Quotients.{step_of}
use Rattle.hc_muldiv.proofs.Values.{value_low, value_low_fits, value_top, value_chosen}

-- the numbers of a step, by the difference `less` of `whole` and the divisor
step_values : (v : ℕ → Bool) (w : ℕ) (whole divisor less kept reduced after : List ℕ) (borrow bit : ℕ) → length whole ≡ w + 1 → length less ≡ w + 1
    → borrow ≡ get_or less w 0 → kept ≡ take w whole → reduced ≡ take w less
    → value v less ≡ (value v whole + (2 ^ length whole - value v divisor)) % 2 ^ length whole → v bit ≡ not (v borrow)
    → map v after ≡ (if v borrow then map v kept else map v reduced) → value v divisor < 2 ^ w → value v whole < value v divisor + 2 ^ w
    → Steps (value v divisor) (value v whole) (v bit) (value v after)
step_values v w whole divisor less kept reduced after borrow bit width less_width is_borrow is_kept is_reduced is_less is_bit is_after fits near =
    subst (λ (c : Bool). Steps (value v divisor) (value v whole) c (value v after)) (sym is_bit)
    (step_of w (value v divisor) (value v whole) (value v less) (value v reduced) (value v kept) (value v after) (v borrow)
    (is_less ∙ ap (λ k. (value v whole + (2 ^ k - value v divisor)) % 2 ^ k) width)
    (value_top v w less reduced borrow less_width is_borrow is_reduced)
    (value_low_fits v w less reduced (omega arith) is_reduced)
    (value_low v w whole kept (omega arith) is_kept)
    (value_chosen v (v borrow) kept reduced after is_after) fits near)

pub step_made : (old mid last new : Circuit) (low : ℕ) (rest divisor whole less kept reduced after : List ℕ) (borrow bit : ℕ) → whole ≡ low ∷ rest
    → length less ≡ length whole → borrow ≡ get_or less (length rest) 0 → kept ≡ take (length rest) whole → reduced ≡ take (length rest) less
    → Makes (8 * length whole) (whole ++ divisor) old mid less (λ v. (s : Bool) → held s v less ≡ difference (held s v whole) (held s v divisor))
    → (bit ≡ length mid.nodes) × (last ≡ with_node mid (Gate kind.Not borrow 0))
    → Makes (3 * length kept + 1) (borrow ∷ (kept ++ reduced)) last new after (λ v. map v after ≡ (if v borrow then map v kept else map v reduced))
    → MakesStep low rest divisor old new bit after
step_made old mid last new low rest divisor whole less kept reduced after borrow bit is_whole same is_borrow is_kept is_reduced taken added chosen =
    let w = length rest in
    let args = low ∷ (rest ++ divisor) in
    let width : length whole ≡ w + 1 = ap (λ (l : List ℕ). length l) is_whole ∙ omega arith in
    let n : length kept ≡ w = ap (λ (l : List ℕ). length l) is_kept ∙ length-take-le w whole (omega arith) in
    let first = Makes-over taken (All-same (Over old.nodes args) (whole ++ divisor) args (ap (λ l. l ++ divisor) is_whole) (Over-self args)) in
    let top : Over mid.nodes args borrow = subst (Over mid.nodes args) (sym is_borrow) (first.reach w 0 (omega arith)) in
    let turned = Makes-gate args mid last kind.Not borrow 0 bit added.0 added.1 top in
    let P = Over last.nodes args in
    let over_less : All P less = Adds-over less turned.adds first.reach in
    let over_top : P borrow = subst P (sym is_borrow) (over_less w 0 (omega arith)) in
    let over_whole : All P whole = All-same P whole (low ∷ rest) is_whole (Over-left (low ∷ rest) divisor) in
    let over = All-cons P borrow (kept ++ reduced) over_top
    (All-append P kept reduced (All-same P kept (take w whole) is_kept (All-take P w whole over_whole)) (All-same P reduced (take w less) is_reduced (All-take P w less over_less))) in
    Makes-holds (Makes-then (Makes-last first turned (Over-self args)) chosen over) (omega (arith, n, width)) (λ v holds fits near.
    let e : value v whole ≡ value v (low ∷ rest) = ap (λ (l : List ℕ). value v l) is_whole in
    subst (λ k. Steps (value v divisor) k (v bit) (value v after)) e
    (step_values v w whole divisor less kept reduced after borrow bit width (same ∙ width) is_borrow is_kept is_reduced
    (ap (λ r. r.bits) (holds.0.0 false)) holds.0.1 holds.1 fits (omega (arith, e, near))))
