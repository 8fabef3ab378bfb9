use Rattle.std.proofs.Common.{◌≡◌, ◌+◌, ◌<◌, ℕ, IsSome}
use Rattle.hc_net.specs.Order.{entry_at}
use Rattle.hc_net.specs.Place.{ArePlaces, base_of, place_at}
use Rattle.hc_net.specs.Run.{cell_nets}
use Rattle.hc_net.proofs.seal.cells.cells.Given as goal

abbrev pub invariant-loop-entry : goal.invariant-loop-entry
invariant-loop-entry l = record {
  next : l.next ≡ base_of l.nodes + cell_nets l.cells;
  places : ArePlaces l.nodes l.places l.cells;
  done : (j : ℕ) → j < l.entry-index → IsSome (place_at l.places (entry_at l.order j).net);
}
