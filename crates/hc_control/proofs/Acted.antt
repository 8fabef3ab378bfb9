-- Statements that hold no others: one that does nothing, and actions.
use Rattle.std.proofs.Common.{◌≡◌, ◌<◌, ◌≤◌, ℕ, ◌+◌, List, [], ◌∷◌, length, Bool, true, false, if◌then◌else◌, Result, refl, ap, sym, ◌∙◌, subst, arith}
use Rattle.std.specs.Prelude.{IfOk}
use Rattle.std.proofs.lemmas.List.{append-nil}
use Rattle.std.proofs.lemmas.List.Elements.{All-nil, All-cons}
use Rattle.std.proofs.lemmas.Result.{IfOk-weaker}
use Rattle.hc_core.specs.Program.{Statement, Skip, Assign, Delay, Target, Expression}
use Rattle.hc_core.specs.Weight.{statement_flops}
use Rattle.hc_core.specs.declared.object.Kind.{Kind}
use Rattle.hc_tree.specs.declared.place.Place.{Place}
use Rattle.hc_meaning.specs.Clock.{is_completed}
use Rattle.hc_meaning.specs.Control.{Leaf, does}
use Rattle.hc_meaning.specs.Residual as r
use Rattle.hc_meaning.specs.Residual.{residual}
use Rattle.hc_meaning.specs.Value.{World}
use Rattle.hc_net.specs.Circuit.{Circuit}
use Rattle.hc_net.specs.Seal.{Within}
use Rattle.hc_net.specs.declared.nets.NoMemory.{NoMemory}
use Rattle.hc_token.specs.Kept.{there_kept}
use Rattle.hc_token.specs.Part.{keeps_tokens}
use Rattle.hc_token.specs.declared.ends.Ends.{Ends}
use Rattle.hc_value.specs.declared.objects.ObjectNets.{ObjectNets}
use Rattle.hc_control.specs.Actions.{Acts}
use Rattle.hc_control.specs.Building.{AddsControl, Builds, IsCircuit}
use Rattle.hc_control.specs.Right.{CanRead, IsRight}
use Rattle.hc_control.specs.Starts.{selected}
use Rattle.hc_control.specs.Weighs.{control_weight}
use Rattle.hc_control.specs.declared.started.Started.{Started}
use Rattle.hc_control.proofs.Adding.{never_within, reaches_within, control_none, control_most, control_tokens}
use Rattle.hc_control.proofs.LawAction.{follows_act}
use Rattle.hc_control.proofs.Ordered.{enabled_as, idle_leads, leads_circuit}

pub skip_built : (kinds : List Kind) (at : ObjectNets) (s : Statement) (start : ℕ) (c : Circuit) (before : Started) (ends : Ends) → s ≡ Skip → CanRead kinds at c
    → ends.pass ≡ at.one → ends.finish ≡ at.zero → Builds kinds at s start c c before before ends
unfolding residual
skip_built kinds at s start c before ends is reads pass finish =
    rw is (record {
      starts = [];
      put = sym (append-nil before.starts);
      next = omega arith;
      adds = control_none before.next c;
      circuit = leads_circuit (idle_leads kinds at start c ends reads pass finish) (λ n. refl) refl;
    })

one_selected : (x : Bool) (l : Leaf) → selected (x ∷ []) (l ∷ []) ≡ (if x then l ∷ [] else [])
one_selected true l = refl
one_selected false l = refl

module _ (kinds : List Kind) (at : ObjectNets) (s : Statement) (a : r.Action) (left : (n : ℕ) → (residual s n).0 ≡ r.Act n a)
    (completes : (w : World) (leaves : List Leaf) → is_completed w leaves a ≡ true) (flops : statement_flops s ≡ 1) (weight : 1 ≤ control_weight kinds s) where
  acted_circuit : (start : ℕ) (old new : Circuit) (before after : Started) (ends : Ends) → start < length old.nodes → Acts start old new before after ends
      → IsCircuit kinds at s start new.nodes (start ∷ []) ends
  acted_circuit start old new before after ends there acted = record {
    there = acted.controls.there;
    starts_there = All-cons (λ k. k < length new.nodes) start [] (there_kept (keeps_tokens acted.controls.adds) start there) (All-nil _);
    count = λ n. rw (left n) refl;
    pass = never_within ends.pass acted.never;
    finish = reaches_within (All-nil (Within new.nodes 0)) acted.controls.finish;
    never = λ takes. acted.never;
    follows = λ n c trace h e.
        let acts_so = acted.controls.value trace h e in
        rw (left n) (
          λ t. [],
          enabled_as (λ t. one_selected (h t start) (does n a))
              (follows_act c (λ t. IsRight kinds at (c.world t) (h t)) n a (λ t. h t start) (λ t. h t ends.pass) (λ t. h t ends.finish) (λ t. completes (c.world t) (c.leaves t))
              acts_so.pass acts_so.first acts_so.later),
        );
  }

  acted_built : (start : ℕ) (old new : Circuit) (before after : Started) (ends : Ends) → start < length old.nodes → Acts start old new before after ends
      → Builds kinds at s start old new before after ends
  acted_built start old new before after ends there acted = record {
    starts = start ∷ [];
    put = acted.put;
    next = acted.next ∙ ap (λ n. before.next + n) (sym flops);
    adds = subst (λ n. AddsControl (control_weight kinds s) before.next n old new) (sym flops) (control_most weight (control_tokens acted.controls.adds));
    circuit = acted_circuit start old new before after ends there acted;
  }

pub assign_built : (kinds : List Kind) (at : ObjectNets) (s : Statement) (place : Place) (to : Target) (value : Expression) (start : ℕ) (old new : Circuit) (before after : Started)
    (result : Result Ends NoMemory) → s ≡ Assign place to value → start < length old.nodes → IfOk result (Acts start old new before after) → IfOk result (Builds kinds at s start old new before after)
unfolding residual
assign_built kinds at s place to value start old new before after result is there acted =
    rw is (IfOk-weaker result _ _ (λ ends. acted_built kinds at (Assign place to value) (r.Assign to value) (λ n. refl) (λ w leaves. refl) refl (omega arith) start old new before after ends there) acted)

pub delay_built : (kinds : List Kind) (at : ObjectNets) (s : Statement) (place : Place) (start : ℕ) (old new : Circuit) (before after : Started)
    (result : Result Ends NoMemory) → s ≡ Delay place → start < length old.nodes → IfOk result (Acts start old new before after) → IfOk result (Builds kinds at s start old new before after)
unfolding residual
delay_built kinds at s place start old new before after result is there acted =
    rw is (IfOk-weaker result _ _ (λ ends. acted_built kinds at (Delay place) r.Delay (λ n. refl) (λ w leaves. refl) refl (omega arith) start old new before after ends there) acted)
