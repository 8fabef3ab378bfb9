-- The net of a condition.
use Rattle.std.specs.Prelude.{◌≡◌, ◌<◌, ℕ, List, length, true}
use Rattle.hc_core.specs.Program.{Expression}
use Rattle.hc_core.specs.Typed.{HasSomeType}
use Rattle.hc_core.specs.Weight.{condition_weight}
use Rattle.hc_core.specs.Zero.{always_holds}
use Rattle.hc_core.specs.declared.object.Kind.{Kind}
use Rattle.hc_meaning.specs.Value.{World, number_of, holds}
use Rattle.hc_net.specs.Circuit.{Circuit}
use Rattle.hc_net.specs.Made.{Adds, Always}
use Rattle.hc_net.specs.Seal.{Within}
use Rattle.hc_token.specs.Control.{IsAlways}
use Rattle.hc_value.specs.declared.objects.ObjectNets.{ObjectNets}
use Rattle.hc_control.specs.Built.{is_built_expression}
use Rattle.hc_control.specs.Right.{CanRead, IsRight}

-- What it takes to build a condition.
pub record CanTest (kinds : List Kind) (at : ObjectNets) (e : Expression) (c : Circuit) : Type 0 where
  pub reads : CanRead kinds at c
  pub typed : HasSomeType kinds e
  pub built : is_built_expression e ≡ true

-- The net of a condition was made, of at most as many gates as the condition weighs: it holds where the expression isn't 0, and
-- reaches no placeholder. A constant that isn't 0 is the net of the constant 1.
pub record MakesCondition (kinds : List Kind) (at : ObjectNets) (e : Expression) (old new : Circuit) (net : ℕ) : Type 0 where
  pub adds : Adds (condition_weight kinds e) old new
  pub there : net < length new.nodes
  pub low : Within new.nodes 0 net
  pub always : always_holds e ≡ true → IsAlways new.nodes net
  pub holds_where : Always new.nodes (λ v. (w : World) → IsRight kinds at w v → v net ≡ holds (number_of w e))
