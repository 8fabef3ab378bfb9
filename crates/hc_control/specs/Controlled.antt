-- What the control of a core is: the statement the contract of this crate is made of.
use Rattle.std.specs.Prelude.{◌≡◌, ◌<◌, ◌≤◌, ℕ, ◌+◌, ◌^◌, List, ◌∷◌, ◌++◌, length, map, true, None, Some, slice_get, All}
use Rattle.std.specs.List.{sum_by}
use Rattle.hc_core.specs.FirstPlace.{first_where}
use Rattle.hc_core.specs.Rules.{endless, repeats_label}
use Rattle.hc_core.specs.Read.{statement}
use Rattle.hc_core.specs.Sound.{IsTyped}
use Rattle.hc_core.specs.Typed.{kinds_of}
use Rattle.hc_core.specs.Weight.{statement_flops}
use Rattle.hc_core.specs.declared.object.Core.{Core}
use Rattle.hc_core.specs.declared.object.Kind.{Kind}
use Rattle.hc_meaning.specs.Control.{resolved, front}
use Rattle.hc_meaning.specs.Run.{Run, first_state, world_of}
use Rattle.hc_net.specs.Circuit.{Circuit, History, Explains, flops_of, gates_of}
use Rattle.hc_net.specs.Run.{Trace}
use Rattle.hc_net.specs.declared.net.FlopName.TheVariants.{Token}
use Rattle.hc_net.specs.declared.node.Node.{Node}
use Rattle.hc_token.specs.Control.{tokens_from}
use Rattle.hc_token.specs.Part.{IsClosed}
use Rattle.hc_value.specs.declared.objects.ObjectNets.{ObjectNets}
use Rattle.hc_control.specs.Building.{HaveRankZero}
use Rattle.hc_control.specs.Built.{unbuilt_statement}
use Rattle.hc_control.specs.Listing.{leaf_action, actions_in}
use Rattle.hc_control.specs.Right.{CanRead, IsRight}
use Rattle.hc_control.specs.Starts.{leaves, selected}
use Rattle.hc_control.specs.Uses.{AreUses, action_gates, writes_from}
use Rattle.hc_control.specs.Weighs.{control_weight}
use Rattle.hc_control.specs.declared.uses.ObjectUses.{ObjectUses}

-- the gates and placeholders that the control of a core takes at most, with those for the values and indexes of its actions
abbrev pub most_control : Core → ℕ
most_control core = control_weight (kinds_of core.objects) (statement core.main) + sum_by (action_gates (kinds_of core.objects)) (actions_in (statement core.main))

-- What it takes to build the control of a core: `main` is typed and of built forms, no loop in it is endless and no label stands
-- twice, its objects have their nets, and there is room.
pub record CanControl (core : Core) (at : ObjectNets) (c : Circuit) : Type 0 where
  pub reads : CanRead (kinds_of core.objects) at c
  pub typed : IsTyped (kinds_of core.objects) (statement core.main)
  pub built : unbuilt_statement (statement core.main) ≡ None
  pub loops : first_where endless (statement core.main) ≡ None
  pub labels : first_where repeats_label (statement core.main) ≡ None
  pub room : length c.nodes + (1 + statement_flops (statement core.main) + most_control core) < 2 ^ 32

-- Control was added, and nothing else: gates, placeholders of rank 0 that are driven, and the flip-flops of tokens, of which the
-- first holds in clock 0 alone.
pub record AddsTokens (core : Core) (old new : Circuit) : Type 0 where
  pub added : List Node
  pub nodes : new.nodes ≡ old.nodes ++ added
  pub parts : All (IsClosed new.nodes) added
  pub ranks : HaveRankZero old.nodes new.nodes
  pub size : length added ≤ 1 + statement_flops (statement core.main) + most_control core
  pub gates : gates_of added ≤ most_control core
  pub tokens : flops_of added ≡ (Token 0, true) ∷ tokens_from 1 (statement_flops (statement core.main))
  pub clock : new.clock ≡ old.clock
  pub ports : new.ports ≡ old.ports

-- The nets of objects are right at one clock of a run, and at each before it.
abbrev pub AreRight : (core : Core) → ObjectNets → (trace : Trace) (n : ℕ) → Run core trace n → History → ℕ → Type 0
AreRight core at trace n run h t =
    (i : ℕ) (inside : i < n) → i ≤ t → IsRight (kinds_of core.objects) at (world_of (kinds_of core.objects) (trace i) (run.state i) (run.clock i inside).settled.instant) (h i)

-- In a clock of a run in which the nets of objects are right, as in each one before it, the actions whose starts hold are those
-- that the program stands at, in text order.
abbrev pub StandAtFront : Core → ObjectNets → List Node → List ℕ → Type 0
StandAtFront core at nodes starts =
    (trace : Trace) (h : History) → Explains nodes trace h → (n : ℕ) (run : Run core trace n) (t : ℕ) (inside : t < n) → AreRight core at trace n run h t
    → selected (map (h t) starts) (leaves (first_state core).rest)
    ≡ front (resolved (world_of (kinds_of core.objects) (trace t) (run.state t) (run.clock t inside).settled.instant) (run.state t).rest)

-- The control of `main` was built, without what its actions write.
pub record StartsMain (core : Core) (at : ObjectNets) (old new : Circuit) (starts : List ℕ) : Type 0 where
  pub added : List Node
  pub nodes : new.nodes ≡ old.nodes ++ added
  pub parts : All (IsClosed new.nodes) added
  pub ranks : HaveRankZero old.nodes new.nodes
  pub size : length added ≤ 1 + statement_flops (statement core.main) + control_weight (kinds_of core.objects) (statement core.main)
  pub gates : gates_of added ≤ control_weight (kinds_of core.objects) (statement core.main)
  pub tokens : flops_of added ≡ (Token 0, true) ∷ tokens_from 1 (statement_flops (statement core.main))
  pub clock : new.clock ≡ old.clock
  pub ports : new.ports ≡ old.ports
  pub starts_there : All (λ k. k < length new.nodes) starts
  pub count : length starts ≡ length (leaves (first_state core).rest)
  pub front_is : StandAtFront core at new.nodes starts

-- The control of a core was built: each object has its uses, with the nets of their enables, indexes and values, and an enable is
-- the start of its action. The actions in text order are those of what is left at edge 0.
pub record IsControlled (core : Core) (at : ObjectNets) (old new : Circuit) (uses : List ObjectUses) : Type 0 where
  pub adds : AddsTokens core old new
  pub starts : List ℕ
  pub starts_there : All (λ k. k < length new.nodes) starts
  pub actions : length starts ≡ length (actions_in (statement core.main))
  pub listed : map leaf_action (leaves (first_state core).rest) ≡ actions_in (statement core.main)
  pub count : length uses ≡ length (kinds_of core.objects)
  pub each : (k : ℕ) (kind : Kind) (u : ObjectUses) → slice_get (kinds_of core.objects) k ≡ Some kind → slice_get uses k ≡ Some u
      → AreUses (kinds_of core.objects) at starts new.nodes kind (writes_from k 0 (actions_in (statement core.main))) u
  pub front_is : StandAtFront core at new.nodes starts
