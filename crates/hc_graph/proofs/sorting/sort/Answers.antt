use Rattle.std.proofs.Common.{ℕ, List, [], map, sym, ap, ◌∙◌, subst, arith}
use Rattle.hc_graph.specs.Graph.{AreRanks}
use Rattle.hc_graph.specs.Search.{IsSearch}
use Rattle.hc_graph.specs.Sort.{rank_of}
use Rattle.hc_graph.proofs.Ranks.{ranked}
use Rattle.hc_graph.proofs.sorting.sort.Goals as goal

pub returns : goal.returns
returns c =
    let search = c.loop-node.search in
    let done : IsSearch c.args.graph.now search.marks [] search.passed = subst (λ (p : List ℕ). IsSearch c.args.graph.now search.marks p search.passed) c.loop-node.invariant.1 c.loop-node.invariant.0 in
    let is = c.in_ok-ranks.ensures ∙ ap (map rank_of) c.as_slice-2.ensures in
    subst (λ (l : List ℕ). AreRanks c.args.graph.now l) (sym is) (ranked c.args.graph.now search.marks search.passed done (λ a low. c.loop-node.invariant.2 a (omega arith)))
