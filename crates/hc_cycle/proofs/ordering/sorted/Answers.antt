use Rattle.hc_cycle.proofs.Linked.{small_by, order_by, cycle_by}
use Rattle.hc_cycle.proofs.ordering.sorted.Goals as goal

pub pairs-requires : goal.pairs-requires
pairs-requires c = small_by c.in_ok-links.links.heads c.as_slice.result.now c.in_ok-links.links.table c.as_slice-2.result.now c.in_ok-graph.graph c.as_slice-3.result.now c.in-Ok-Ranks.ranks c.as_slice-in-Ok-Ranks-3.result.now
    c.as_slice.ensures c.as_slice-2.ensures c.as_slice-3.ensures c.as_slice-in-Ok-Ranks-3.ensures c.in_ok-graph.ensures.graph c.in_ok-graph.ensures.few (rw c.in-Ok-Ranks.field-0-is at c.in-Ok-Ranks.ensures)

pub returns-in-Ok-Ranks : goal.returns-in-Ok-Ranks
returns-in-Ok-Ranks c = order_by c.args.core.now c.in_ok-links.links.heads c.as_slice.result.now c.in_ok-links.links.table c.as_slice-2.result.now c.in_ok-graph.graph c.as_slice-3.result.now
    c.in-Ok-Ranks.ranks c.as_slice-in-Ok-Ranks-3.result.now c.as_slice-in-Ok-Ranks.result.now c.in_ok-nodes-in-Ok-Ranks.nodes c.as_slice-in-Ok-Ranks-2.result.now c.in_ok-pairs-in-Ok-Ranks.pairs
    c.as_slice.ensures c.as_slice-2.ensures c.as_slice-3.ensures c.as_slice-in-Ok-Ranks-3.ensures c.as_slice-in-Ok-Ranks.ensures c.as_slice-in-Ok-Ranks-2.ensures
    c.in_ok-links.ensures.heads c.in_ok-graph.ensures.graph c.in_ok-graph.ensures.few (rw c.in-Ok-Ranks.field-0-is at c.in-Ok-Ranks.ensures) c.in_ok-nodes-in-Ok-Ranks.ensures c.in_ok-pairs-in-Ok-Ranks.ensures

pub returns : goal.returns
returns c = cycle_by c.args.core.now c.in_ok-links.links.heads c.as_slice.result.now c.in_ok-links.links.table c.as_slice-2.result.now c.in_ok-graph.graph c.as_slice-3.result.now
    c.in-Ok-Cycle.cycle c.as_slice-in-Ok-Cycle.result.now c.len.result c.in_ok-nodes-in-Ok-Cycle.nodes
    c.as_slice.ensures c.as_slice-2.ensures c.as_slice-3.ensures c.as_slice-in-Ok-Cycle.ensures c.len.ensures
    c.in_ok-links.ensures.heads c.in_ok-graph.ensures.graph (rw c.in-Ok-Cycle.field-0-is at c.in-Ok-Cycle.ensures) c.in_ok-nodes-in-Ok-Cycle.ensures.nodes c.in_ok-nodes-in-Ok-Cycle.ensures.begins
