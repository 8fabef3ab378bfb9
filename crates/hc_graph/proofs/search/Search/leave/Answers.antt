use Rattle.std.proofs.Common.{List, sym, subst}
use Rattle.std.proofs.lemmas.List.Elements.{Contains-push}
use Rattle.hc_graph.specs.Search.{KeepsMet}
use Rattle.hc_graph.specs.declared.search.Mark.{Mark}
use Rattle.hc_graph.specs.declared.search.Mark.TheVariants.{Open}
use Rattle.hc_graph.proofs.Marks.{as_many}
use Rattle.hc_graph.proofs.Steps.{left, kept_by_passed, within}
use Rattle.hc_graph.proofs.search.Search.leave.Goals as goal

pub set-requires : goal.set-requires
set-requires c = within c.args.self.now.marks c.args.node Open (c.requires.search.are_open c.args.node (Contains-push c.args.self.now.path c.args.node))

pub returns-clause-search : goal.returns-clause-search
returns-clause-search c = rw c.set.ensures (left c.args.graph.now c.args.self.now.marks c.args.self.now.path c.args.self.now.passed c.args.node c.requires.search c.requires.passed)

pub returns-clause-as_many : goal.returns-clause-as_many
returns-clause-as_many c = rw c.set.ensures (as_many c.args.self.now.marks c.args.node c.args.self.now.passed (c.requires.search.are_open c.args.node (Contains-push c.args.self.now.path c.args.node)))

pub returns-clause-kept : goal.returns-clause-kept
returns-clause-kept c = subst (λ (m : List Mark). KeepsMet c.args.self.now.marks m) (sym c.set.ensures) (kept_by_passed c.args.self.now.marks c.args.node c.args.self.now.passed)
