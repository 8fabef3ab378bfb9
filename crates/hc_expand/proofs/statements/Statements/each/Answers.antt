use Rattle.hc_core.specs.Read.{statement}
use Rattle.hc_scope.specs.Nodes.{nodes}
use Rattle.hc_scope.specs.Reading.{context_of}
use Rattle.hc_expand.proofs.Each.{along_step}
use Rattle.hc_evaluate.proofs.Lists.{split_first}
use Rattle.hc_scope.proofs.Longer.{grows_on}
use Rattle.hc_expand.proofs.Listed.{one_more_part}
use Rattle.hc_expand.proofs.statements.Statements.each.Goals as goal

pub each-preserved : goal.each-preserved
each-preserved g c = record {
  along = along_step ((nodes c.args.self.now.room).statement (context_of c.args.scope.now c.args.calls)) statement c.args.all.now c.args.state.now c.each.done c.push.new.self
      c.each.rest.now c.first-item.result c.each.state c.statement.new.state c.in-Ok.s c.each.invariant.along
      (split_first c.each.rest.now c.first-item.result c.in-len1-up.len_at_least c.first-item.is) c.in-Ok.ensures.answers c.in-Ok-push.ensures.ok;
  typed = one_more_part _ _ _ _ _ c.in-Ok.ensures.grows c.each.invariant.typed c.in-Ok.ensures.typed c.in-Ok-push.ensures.ok;
  grows = grows_on _ _ _ c.each.invariant.grows c.in-Ok.ensures.grows;
}
