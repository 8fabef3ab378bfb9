use Rattle.std.proofs.Common.{◌≡◌, take}
use Rattle.std.specs.Prelude.{map}
use Rattle.hc_net.specs.Place.{place_of}
use Rattle.hc_net.proofs.seal.parts.nets.Given as goal

abbrev pub invariant-loop-net : goal.invariant-loop-net
invariant-loop-net l = l.renamed ≡ map (place_of l.places) (take l.net-index l.nets)
