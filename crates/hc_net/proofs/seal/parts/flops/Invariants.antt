use Rattle.std.proofs.Common.{◌≡◌, take}
use Rattle.hc_net.specs.Place.{flops_with, place_of}
use Rattle.hc_net.proofs.seal.parts.flops.Given as goal

abbrev pub invariant-loop-node : goal.invariant-loop-node
invariant-loop-node l = l.flops ≡ flops_with (place_of l.places) (take l.node-index l.nodes)
