use Rattle.std.proofs.Common.{◌≡◌, ◌++◌, length}
use Rattle.std.specs.Prelude.{map, reverse}
use Rattle.hc_net.specs.Place.{place_of, with_moved_ram}
use Rattle.hc_net.proofs.seal.parts.cells.Given as goal

abbrev pub invariant-loop-cell : goal.invariant-loop-cell
invariant-loop-cell l = map (with_moved_ram (place_of l.places)) l.fn.cells ≡ map (with_moved_ram (place_of l.places)) l.cells ++ reverse l.renamed.items

abbrev pub decreases-loop-cell : goal.decreases-loop-cell
decreases-loop-cell l = length l.cells
