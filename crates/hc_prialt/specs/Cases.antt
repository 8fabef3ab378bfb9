-- The cases of a `prialt`, one behind another: what each adds, and what the first of them add together.
use Rattle.std.specs.Prelude.{◌≡◌, ◌<◌, ◌*◌, ℕ, suc, List, [], ◌∷◌, length, take, false, not, ◌&&◌, slice_index, All}
use Rattle.hc_net.specs.Run.{Trace}
use Rattle.hc_net.specs.Circuit.{Circuit, History, Explains, node_at}
use Rattle.hc_net.specs.Made.{Over, Always}
use Rattle.hc_token.specs.Control.{IsFlop}
use Rattle.hc_token.specs.Part.{AddsPart}
use Rattle.hc_prialt.specs.Picks.{none_ready, first_ready}
use Rattle.hc_prialt.specs.declared.cases.Case.{Case}

-- A case is added, which is taken where `before` is 1 and it is ready. It leaves free what it doesn't take.
pub record AddsCase (token before ready : ℕ) (old new : Circuit) (c : Case) : Type 0 where
  pub adds : AddsPart 2 token 1 [] old new
  pub taken_there : c.taken < length new.nodes
  pub free_there : c.free < length new.nodes
  pub arm_there : c.arm_start < length new.nodes
  pub taken_over : Over new.nodes (before ∷ ready ∷ []) c.taken
  pub free_over : Over new.nodes (before ∷ ready ∷ []) c.free
  pub arm_over : IsFlop (node_at new.nodes c.arm_start)
  pub taken : Always new.nodes (λ v. v c.taken ≡ (v before && v ready))
  pub free : Always new.nodes (λ v. v c.free ≡ (v before && not (v ready)))
  pub unstarted : (trace : Trace) (h : History) → Explains new.nodes trace h → h 0 c.arm_start ≡ false
  pub arm_start : (trace : Trace) (h : History) → Explains new.nodes trace h → (t : ℕ) → h (suc t) c.arm_start ≡ h t c.taken

-- The first n cases are added, of a `prialt` that stands where `active` is 1: the nets of those that are taken, those of their
-- arms, and the one that is 1 where none of them is ready.
pub record AddsCases (token active : ℕ) (ready : List ℕ) (n : ℕ) (old new : Circuit) (taken_nets arms : List ℕ) (free_net : ℕ) : Type 0 where
  pub adds : AddsPart (2 * n) token n [] old new
  pub taken_count : length taken_nets ≡ n
  pub arm_count : length arms ≡ n
  pub free_there : free_net < length new.nodes
  pub taken_there : All (λ k. k < length new.nodes) taken_nets
  pub arms_there : All (λ k. k < length new.nodes) arms
  pub free_over : Over new.nodes (active ∷ ready) free_net
  pub taken_over : All (Over new.nodes (active ∷ ready)) taken_nets
  pub arms_over : All (λ k. IsFlop (node_at new.nodes k)) arms
  pub free : Always new.nodes (λ v. v free_net ≡ (v active && none_ready v (take n ready)))
  pub taken : (trace : Trace) (h : History) → Explains new.nodes trace h → (t i : ℕ) → i < n → h t (slice_index taken_nets i) ≡ (h t active && first_ready (h t) ready i)
  pub unstarted : (trace : Trace) (h : History) → Explains new.nodes trace h → (i : ℕ) → i < n → h 0 (slice_index arms i) ≡ false
  pub arm_starts : (trace : Trace) (h : History) → Explains new.nodes trace h → (t i : ℕ) → i < n → h (suc t) (slice_index arms i) ≡ h t (slice_index taken_nets i)
