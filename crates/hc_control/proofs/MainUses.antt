-- The control of a core: the actions of `main`, and the uses of its objects behind the tokens.
use Rattle.std.proofs.Common.{◌≡◌, ℕ, List, [], ◌∷◌, ◌++◌, length, map, refl, ap, sym, ◌∙◌, subst, append_assoc, length-append, arith}
use Rattle.std.specs.Prelude.{All}
use Rattle.std.proofs.lemmas.List.{length-map, append-nil}
use Rattle.std.proofs.lemmas.List.Elements.{All-append, All-weaker}
use Rattle.hc_core.specs.Read.{statement}
use Rattle.hc_core.specs.Typed.{kinds_of}
use Rattle.hc_core.specs.declared.object.Core.{Core}
use Rattle.hc_core.specs.declared.stmt.Stmt.{Stmt}
use Rattle.hc_meaning.specs.Residual.{Action}
use Rattle.hc_net.specs.Circuit.{Circuit, flops_of}
use Rattle.hc_net.specs.Frame.{Keeps, keeps_behind, keeps_gates}
use Rattle.hc_net.specs.MadeLemmas.{Adds-extends}
use Rattle.hc_token.specs.Counting.{gates_append, flops_append}
use Rattle.hc_token.specs.Kept.{all_there_kept}
use Rattle.hc_value.specs.declared.objects.ObjectNets.{ObjectNets}
use Rattle.hc_token.specs.Part.{IsClosed, closed_kept, none_open, part_gates}
use Rattle.hc_control.specs.Controlled.{CanControl, StartsMain, IsControlled}
use Rattle.hc_control.specs.Listing.{AreActions, IsAction, action_of, actions_in}
use Rattle.hc_control.specs.Uses.{IsBuiltAction, MakesUses}
use Rattle.hc_control.specs.declared.uses.ObjectUses.{ObjectUses}
use Rattle.hc_control.proofs.Adding.{ranks_then, control_gates}
use Rattle.hc_control.proofs.Listed.{listed, listed_count}
use Rattle.hc_control.proofs.UsesReady.{built_actions}

twice : {S : Type 0} (now : S → Stmt) (items : List S) → map action_of (map now items) ≡ map (λ s. action_of (now s)) items
twice now [] = refl
twice now (s ∷ items) = ap (λ l. action_of (now s) ∷ l) (twice now items)

-- the actions of a list of statements are those of the program, and there are as many
pub listed_actions : {S : Type 0} (now : S → Stmt) (items slice : List S) (main : Stmt) → slice ≡ items → AreActions main (map now items)
    → map (λ s. action_of (now s)) slice ≡ actions_in (statement main)
listed_actions now items slice main same are = ap (map (λ s. action_of (now s))) same ∙ sym (twice now items) ∙ are.actions

pub listed_size : {S : Type 0} (now : S → Stmt) (items slice : List S) (main : Stmt) → slice ≡ items → AreActions main (map now items) → length slice ≡ length (actions_in (statement main))
listed_size now items slice main same are = sym (length-map slice (λ s. action_of (now s))) ∙ ap length (listed_actions now items slice main same are)

pub listed_each : {S : Type 0} (now : S → Stmt) (items slice : List S) (main : Stmt) → slice ≡ items → AreActions main (map now items) → All IsAction (map now slice)
listed_each now items slice main same are = subst (λ l. All IsAction (map now l)) (sym same) are.each

-- as many starts as actions
pub starts_count : (core : Core) (at : ObjectNets) (old new : Circuit) (starts : List ℕ) → CanControl core at old → StartsMain core at old new starts
    → length starts ≡ length (actions_in (statement core.main))
starts_count core at old new starts can s = s.count ∙ listed_count (statement core.main) 0 can.built

main_keeps : {core : Core} {at : ObjectNets} {old new : Circuit} {starts : List ℕ} → StartsMain core at old new starts → Keeps old.nodes new.nodes
main_keeps s = keeps_behind s.added s.nodes

pub uses_built : (core : Core) (at : ObjectNets) (old : Circuit) (actions : List Action) → CanControl core at old → actions ≡ actions_in (statement core.main)
    → All (IsBuiltAction (kinds_of core.objects)) actions
uses_built core at old actions can are = subst (All (IsBuiltAction (kinds_of core.objects))) (sym are) (built_actions (kinds_of core.objects) (statement core.main) can.built can.typed)

-- ---- all of it

pub controlled : (core : Core) (at : ObjectNets) (old started new : Circuit) (starts : List ℕ) (actions : List Action) (uses : List ObjectUses) → CanControl core at old
    → StartsMain core at old started starts → actions ≡ actions_in (statement core.main) → MakesUses (kinds_of core.objects) at starts actions started new uses
    → IsControlled core at old new uses
controlled core at old started new starts actions uses can s are m =
    let kinds = kinds_of core.objects in
    let all : List Action = actions_in (statement core.main) in
    let makes : MakesUses kinds at starts all started new uses = subst (λ (l : List Action). MakesUses kinds at starts l started new uses) are m in
    let gates = part_gates 0 makes.adds in
    let keeps = keeps_gates makes.adds in
    record {
      adds = record {
        added = s.added ++ gates.added;
        nodes = gates.nodes ∙ ap (λ l. l ++ gates.added) s.nodes ∙ append_assoc old.nodes s.added gates.added;
        parts = All-append (IsClosed new.nodes) s.added gates.added
            (All-weaker (IsClosed started.nodes) (IsClosed new.nodes) (closed_kept keeps) s.added s.parts) (none_open new.nodes (length started.nodes) gates.added gates.parts);
        ranks = ranks_then old.nodes started.nodes new.nodes gates.added gates.nodes s.ranks (control_gates 0 makes.adds).ranks;
        size = let a = s.size in let b = gates.size in omega (arith, length-append s.added gates.added);
        gates = let a = s.gates in let b = gates.gates in omega (arith, gates_append s.added gates.added);
        tokens = flops_append s.added gates.added ∙ ap (λ l. flops_of s.added ++ l) gates.tokens ∙ append-nil (flops_of s.added) ∙ s.tokens;
        clock = gates.clock ∙ s.clock;
        ports = gates.ports ∙ s.ports;
      };
      starts = starts;
      starts_there = all_there_kept keeps starts s.starts_there;
      actions = starts_count core at old started starts can s;
      listed = listed (statement core.main) 0 can.built;
      count = makes.count;
      each = makes.each;
      front_is = λ trace h e. s.front_is trace h (Adds-extends makes.adds trace h e);
    }
