-- Parts of the nets that a circuit is over, and circuits that are made a bit at a time.
use Rattle.std.proofs.Common.{◌≡◌, ◌<◌, ◌≤◌, ℕ, ◌+◌, Bool, List, [], ◌∷◌, ◌++◌, length, map, get_or, refl, ap, sym, ◌∙◌, arith, length-append, Result}
use Rattle.std.specs.Prelude.{All, IfOk}
use Rattle.std.specs.List.{range_with_len}
use Rattle.std.proofs.lemmas.List.{get_or-append-add, get_or_default, map_push}
use Rattle.std.proofs.lemmas.List.Elements.{All-nil, All-cons}
use Rattle.std.proofs.lemmas.List.FromFn.{map-range_with_len_more}
use Rattle.std.proofs.lemmas.Result.{IfOk-weaker}
use Rattle.hc_net.specs.Circuit.{Circuit, with_node}
use Rattle.hc_net.specs.Gate.{gate_bit}
use Rattle.hc_net.specs.Made.{Over, argument, Makes}
use Rattle.hc_net.specs.MadeLemmas.{Over-over, Adds-over, GateOver, Makes-gate, Makes-then, Makes-holds}
use Rattle.hc_net.specs.declared.node.Node.{Node}
use Rattle.hc_net.specs.declared.node.Node.TheVariants.{Gate}
use Rattle.hc_net.specs.declared.gate.GateKind.{GateKind}
use Rattle.hc_net.specs.declared.nets.NoMemory.{NoMemory}

pub All-one : {X : Type 0} (P : X → Type 0) (x : X) → P x → All P (x ∷ [])
All-one P x px = All-cons P x [] px (All-nil P)

pub All-two : {X : Type 0} (P : X → Type 0) (x y : X) → P x → P y → All P (x ∷ y ∷ [])
All-two P x y px py = All-cons P x (y ∷ []) px (All-one P y py)

-- each net of a list of nets is over that list
pub Over-at : {nodes : List Node} (xs : List ℕ) (i : ℕ) → i < length xs → Over nodes xs (get_or xs i 0)
Over-at xs i within = argument _ i within refl

pub Over-right : {nodes : List Node} (xs ys : List ℕ) → All (Over nodes (xs ++ ys)) ys
Over-right xs ys i d within =
    argument _ (length xs + i) (omega (arith, length-append xs ys, within)) (get_or-append-add xs ys i 0 ∙ get_or_default ys i 0 d within)

-- a circuit over nets that are over others, as a circuit over those
pub Makes-wider : {m : ℕ} {args wide nets : List ℕ} {old new : Circuit} {holds : (ℕ → Bool) → Type 0}
    → Makes m args old new nets holds → All (Over new.nodes wide) args → Makes m wide old new nets holds
Makes-wider a over = record { adds = a.adds; there = a.there; reach = λ i d within. Over-over over (a.reach i d within); value = a.value }

-- the same for nets that are over those before the circuit was added
pub Makes-over : {m : ℕ} {args few nets : List ℕ} {old new : Circuit} {holds : (ℕ → Bool) → Type 0}
    → Makes m few old new nets holds → All (Over old.nodes args) few → Makes m args old new nets holds
Makes-over {few = few} made over = Makes-wider made (Adds-over few made.adds over)

-- what a builder's gate adds
pub added : (args : List ℕ) (old new : Circuit) (g : GateKind) (a b : ℕ) (result : Result ℕ NoMemory) → GateOver old.nodes args g a b
    → IfOk result (λ net. (net ≡ length old.nodes) × (new ≡ with_node old (Gate g a b)))
    → IfOk result (λ net. Makes 1 args old new (net ∷ []) (λ v. v net ≡ gate_bit g (v a) (v b)))
added args old new g a b result over ok = IfOk-weaker result _ _ (λ net p. Makes-gate args old new g a b net p.0 p.1 over) ok

-- one bit more
pub bits_more : {m n : ℕ} {args few nets : List ℕ} {net : ℕ} {old mid new : Circuit} (bit : (ℕ → Bool) → ℕ → Bool) (i k : ℕ)
    → Makes m args old mid nets (λ v. map v nets ≡ map (bit v) (range_with_len 0 i))
    → Makes n few mid new (net ∷ []) (λ v. v net ≡ bit v i)
    → All (Over mid.nodes args) few → m + n ≤ k
    → Makes k args old new (nets ++ net ∷ []) (λ v. map v (nets ++ net ∷ []) ≡ map (bit v) (range_with_len 0 (i + 1)))
bits_more {nets = nets} {net = net} bit i k made one over most =
    Makes-holds (Makes-then made one over) most
    (λ v both. map_push v nets net ∙ ap (λ l. l ++ v net ∷ []) (both.0) ∙ ap (λ b. map (bit v) (range_with_len 0 i) ++ b ∷ []) (both.1) ∙ sym (map-range_with_len_more (bit v) 0 i i (omega arith)))
