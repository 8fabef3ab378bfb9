use Rattle.std.proofs.Common.{ap, length}
use Rattle.hc_scope.specs.declared.scope.Scope.TheVariants as chain
use Rattle.hc_declare.specs.Items.{items_in}
use Rattle.hc_expand.proofs.Cores.{whole_core, whole_stops}
use Rattle.hc_expand.proofs.program.whole.Goals as goal

pub returns-in-Ok-clause-answers : goal.returns-in-Ok-clause-answers
returns-in-Ok-clause-answers c =
    whole_core c.args.items.now c.new.result c.new-names.result.entries c.each_item.new.names.entries c.in-Ok.roots c.all_of.result c.each_item.new.state c.rooted.result
    c.new.ensures (ap length c.new-names.ensures) c.in-Ok.ensures.answers c.all_of.ensures c.rooted.ensures.answers

pub returns-in-Err-clause-answers : goal.returns-in-Err-clause-answers
returns-in-Err-clause-answers c =
    whole_stops c.args.items.now c.new.result c.new-names.result.entries (items_in c.each_item.new.names.entries chain.Outside) c.in-Err.e c.each_item.new.state c.new.ensures
    (ap length c.new-names.ensures) c.in-Err.ensures.answers
