use Rattle.std.proofs.Common.{List, subst, arith}
use Rattle.std.proofs.lemmas.List.Elements.{Contains-push}
use Rattle.hc_graph.specs.Search.{LeadsToPassed}
use Rattle.hc_graph.specs.declared.search.Mark.{Mark}
use Rattle.hc_graph.specs.declared.search.Mark.TheVariants.{Open}
use Rattle.hc_graph.proofs.Steps.{chain_more, within}
use Rattle.hc_graph.proofs.search.Search.step.Goals as goal

pub next-requires-clause-there : goal.next-requires-clause-there
next-requires-clause-there c =
    let low = within c.args.self.now.marks c.args.node Open (c.requires.search.are_open c.args.node (Contains-push c.args.self.now.path c.args.node)) in
    let size = c.requires.search.size in
    omega arith

pub leave-requires-clause-passed : goal.leave-requires-clause-passed
leave-requires-clause-passed c = subst (λ (m : List Mark). LeadsToPassed c.args.graph.now m c.args.node) c.as_slice.ensures c.in-None.ensures

pub returns-then-is_open-clause-goes : goal.returns-then-is_open-clause-goes
returns-then-is_open-clause-goes c = rw c.in_ok-push-in-Some.ensures.ok (record {
  on_path = c.requires.search.on_path c.in-Some.next (rw c.as_slice-in-Some.ensures at (c.is_open.ensures.yes c.if-is_open.true));
  chain = chain_more c.args.graph.now c.args.self.now.path c.args.node c.in-Some.next c.requires.search.chain c.in-Some.ensures.leads;
})

pub enter-requires-clause-chain : goal.enter-requires-clause-chain
enter-requires-clause-chain c = rw c.in_ok-push-in-Some.ensures.ok (chain_more c.args.graph.now c.args.self.now.path c.args.node c.in-Some.next c.requires.search.chain c.in-Some.ensures.leads)
