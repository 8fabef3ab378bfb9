use Rattle.std.proofs.Common.{◌≡◌, ◌++◌, take}
use Rattle.std.specs.List.{flat_map}
use Rattle.hc_run.specs.Refused.{node_text}
use Rattle.hc_run.proofs.refused.add_nodes.Given as goal

abbrev pub invariant-loop-node : goal.invariant-loop-node
invariant-loop-node l = l.line.items ≡ l.fn.line.items ++ flat_map node_text (take l.node-index l.node-items)
