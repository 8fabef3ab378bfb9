-- Macros that a block declares, as nodes, by the room around them.
use Rattle.std.proofs.Common.{◌≡◌, ℕ, suc, zero, false, refl}
use Rattle.hc_tree.specs.declared.place.Place.{Place}
use Rattle.hc_scope.specs.declared.state.State.{State}
use Rattle.hc_scope.specs.Expansion.{entered}
use Rattle.hc_scope.specs.Nodes.{nodes}
use Rattle.hc_scope.specs.Parts.{Context}

pub leaf_is : (room : ℕ) (c : Context) (place : Place) (s : State) → (nodes room).leaf c place s ≡ entered room false c.calls place s
unfolding nodes
leaf_is zero c place s = refl
leaf_is (suc room) c place s = refl
