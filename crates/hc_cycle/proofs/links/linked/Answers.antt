use Rattle.std.proofs.Common.{List, sym, subst}
use Rattle.hc_tree.specs.declared.refusal.Node.{Node}
use Rattle.hc_cycle.specs.Links.{Aligned}
use Rattle.hc_cycle.specs.declared.sets.Set.{Set}
use Rattle.hc_cycle.proofs.Linked.{links_of}
use Rattle.hc_cycle.proofs.links.linked.Goals as goal

pub returns-clause-heads : goal.returns-clause-heads
returns-clause-heads c = links_of _ c.visit.new.self c.heads.new.self c.in_ok-visit.field-0 c.args.core.now c.in_ok-heads.heads c.new-2.ensures c.in_ok-visit.ensures
    (λ needs aligned. c.in_ok-heads.ensures.heads needs (subst (λ (l : List (Node × Set)). Aligned c.visit.new.self.table l needs) (sym c.as_slice-2.ensures) aligned))
