use Rattle.std.proofs.Common.{◌≡◌, ◌<◌, ◌+◌, ℕ, length, take}
use Rattle.hc_net.specs.Circuit.{node_at, input_bits_of, flops_of}
use Rattle.hc_net.specs.Place.{place_at, first_place}
use Rattle.hc_net.proofs.seal.places.first_places.Given as goal

abbrev pub invariant-loop-node : goal.invariant-loop-node
invariant-loop-node l = record {
  input : l.input ≡ length (input_bits_of (take l.node-index l.nodes));
  flop : l.flop ≡ length (input_bits_of l.nodes) + length (flops_of (take l.node-index l.nodes));
  size : length l.places.items ≡ l.node-index;
  each : (k : ℕ) → k < l.node-index → place_at l.places.items k ≡ first_place l.nodes k (node_at l.nodes k);
}
