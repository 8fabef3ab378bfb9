-- What the steps from the tree of a source to its core hand on to each other.
use Rattle.std.specs.Prelude.{◌≡◌, ◌≤◌, Some, None}
use Rattle.hc_tree.specs.declared.item.Tree.{Tree}
use Rattle.hc_tree.specs.declared.place.Place.{Place}
use Rattle.hc_tree.specs.declared.refusal.Refusal.{Refusal}
use Rattle.hc_core.specs.Depends.{Cyclic}
use Rattle.hc_core.specs.Weight.{weight_of}
use Rattle.hc_core.specs.declared.object.Core.{Core}
use Rattle.hc_scope.specs.Expands.{Expands, Stops}
use Rattle.hc_core.specs.Rules.{first_broken}
use Rattle.hc_rules.specs.Weight.{most_weight}
use Rattle.hc_build.specs.Built.{unbuilt}
use Rattle.hc_run.specs.Answer.{FirstOfCore, not_built}

-- The tree expands to this core, which breaks no rule over the core, has no value within a clock that reaches itself, is within the
-- limit of the weight and is of built forms alone.
pub record IsTreeOf (tree : Tree) (core : Core) : Type 0 where
  pub expands : Expands tree core
  pub rules : first_broken core ≡ None
  pub acyclic : Cyclic core → ⊥
  pub light : weight_of core ≤ most_weight
  pub built : unbuilt core ≡ None

-- The tree breaks a rule, and this refusal comes first: what it breaks where it has no core, then what its core breaks.
pub data FirstOfTree (tree : Tree) (refusal : Refusal) : Type 0 where
  of_expansion : Stops tree refusal → FirstOfTree tree refusal
  of_expanded : (core : Core) → Expands tree core → FirstOfCore core refusal → FirstOfTree tree refusal

-- The core has a form that isn't built, and this refusal names the first.
pub record IsUnbuilt (core : Core) (refusal : Refusal) : Type 0 where
  pub place : Place
  pub first : unbuilt core ≡ Some place
  pub is : refusal ≡ not_built place
