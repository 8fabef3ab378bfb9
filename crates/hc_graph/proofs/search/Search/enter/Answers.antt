use Rattle.std.proofs.Common.{List, sym, subst}
use Rattle.hc_graph.specs.Search.{KeepsMet}
use Rattle.hc_graph.specs.declared.search.Mark.{Mark}
use Rattle.hc_graph.specs.declared.search.Mark.TheVariants.{New, Open}
use Rattle.hc_graph.proofs.Marks.{get_set_same, one_less}
use Rattle.hc_graph.proofs.Steps.{entered, kept_by_open}
use Rattle.hc_graph.proofs.search.Search.enter.Goals as goal

pub returns-clause-search : goal.returns-clause-search
returns-clause-search c = rw (c.set.ensures, c.in_ok-push.ensures.ok) (entered c.args.graph.now c.args.self.now.marks c.args.self.now.path c.args.self.now.passed c.args.node c.requires.search c.requires.new c.requires.chain)

pub returns-clause-fewer : goal.returns-clause-fewer
returns-clause-fewer c = rw c.set.ensures (one_less c.args.self.now.marks c.args.node c.requires.new)

pub returns-clause-kept : goal.returns-clause-kept
returns-clause-kept c = subst (λ (m : List Mark). KeepsMet c.args.self.now.marks m) (sym c.set.ensures) (kept_by_open c.args.self.now.marks c.args.node)

pub returns-clause-met : goal.returns-clause-met
returns-clause-met c = rw c.set.ensures (get_set_same c.args.self.now.marks c.args.node Open New c.requires.new)
