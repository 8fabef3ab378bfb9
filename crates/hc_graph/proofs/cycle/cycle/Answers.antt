use Rattle.std.proofs.Common.{ℕ, List, ◌++◌, sym, ap₂, ◌∙◌, subst}
use Rattle.hc_graph.specs.Graph.{IsCycle}
use Rattle.hc_graph.proofs.Cycles.{cycle_of, to_end}
use Rattle.hc_graph.proofs.cycle.cycle.Goals as goal

pub returns : goal.returns
returns c =
    let cycle = cycle_of c.args.graph.now c.args.path.now c.from_node-nodes.result.now c.args.back c.least-first.result c.requires.closed c.requires.distinct c.from_node-nodes.ensures c.least-first.ensures.within c.least-first.ensures.least in
    let is = c.in_ok-append.ensures ∙ ap₂ ◌++◌ (c.in_ok-cycle.ensures ∙ to_end c.from_node-nodes.result.now c.least-first.result) c.in_ok-from_slice.ensures in
    subst (λ (l : List ℕ). IsCycle c.args.graph.now l) (sym is) cycle
