use Rattle.std.proofs.Common.{◌≡◌, ◌++◌, length}
use Rattle.std.specs.Prelude.{map, reverse}
use Rattle.hc_net.specs.Seal.{placed}
use Rattle.hc_net.specs.Place.{place_of}
use Rattle.hc_net.proofs.seal.parts.ports.Given as goal

abbrev pub invariant-loop-port : goal.invariant-loop-port
invariant-loop-port l = map (placed (place_of l.places)) l.fn.ports ≡ map (placed (place_of l.places)) l.ports ++ reverse l.renamed.items

abbrev pub decreases-loop-port : goal.decreases-loop-port
decreases-loop-port l = length l.ports
