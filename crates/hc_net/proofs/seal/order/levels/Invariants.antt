use Rattle.std.proofs.Common.{◌≡◌, ◌<◌, ℕ, length}
use Rattle.hc_net.specs.Circuit.{node_at}
use Rattle.hc_net.specs.Order.{entry_at, node_level}
use Rattle.hc_net.proofs.seal.order.levels.Given as goal

abbrev pub invariant-loop-node : goal.invariant-loop-node
invariant-loop-node l = record {
  size : length l.levels.items ≡ l.node-index;
  each : (k : ℕ) → k < l.node-index → entry_at l.levels.items k ≡ record { level = node_level l.levels.items (node_at l.nodes k); net = k };
}
