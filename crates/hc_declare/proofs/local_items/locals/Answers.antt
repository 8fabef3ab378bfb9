use Rattle.std.proofs.Common.{◌∙◌}
use Rattle.hc_scope.specs.Nodes.{nodes}
use Rattle.hc_scope.specs.Statement as spec
use Rattle.hc_scope.specs.Table.{context_in}
use Rattle.hc_declare.proofs.BlockItems.{locals_step, locals_stop}
use Rattle.hc_evaluate.proofs.Lists.{split_first}
use Rattle.hc_scope.proofs.Longer.{grows_on}
use Rattle.hc_declare.proofs.local_items.locals.Goals as goal

pub returns-in-Err-clause-answers : goal.returns-in-Err-clause-answers
returns-in-Err-clause-answers c =
    let here = context_in c.each.names.entries c.args.around.now c.args.calls in
    let all = spec.locals (nodes c.args.room) (context_in c.args.names.now.entries c.args.around.now c.args.calls) c.args.items.now c.args.state.now in
    locals_stop (nodes c.args.room) here c.each.items.now c.item-item.result all c.in-Err.e c.each.state c.local.new.state c.local.new.state c.each.invariant.answers
    (split_first c.each.items.now c.item-item.result c.in-len1-up.len_at_least c.item-item.is) c.in-Err.ensures.answers

pub each-preserved : goal.each-preserved
each-preserved c = record {
  answers = c.each.invariant.answers
      ∙ locals_step (nodes c.args.room) (context_in c.each.names.entries c.args.around.now c.args.calls) (context_in c.local.new.names.entries c.args.around.now c.args.calls) c.each.items.now
      c.item-item.result c.each.state c.local.new.state (split_first c.each.items.now c.item-item.result c.in-len1-up.len_at_least c.item-item.is) c.in-Ok.ensures.answers;
  grows = grows_on _ _ _ c.each.invariant.grows c.in-Ok.ensures.grows;
}
