use Rattle.std.proofs.Common.{drop}
use Rattle.hc_evaluate.proofs.Lists.{list_refused, split_first}
use Rattle.hc_scope.specs.Nodes.{nodes}
use Rattle.hc_scope.specs.Declaration as spec
use Rattle.hc_scope.specs.Lists.{behind}
use Rattle.hc_scope.specs.Reading.{context_of}
use Rattle.hc_scope.specs.Types.{type_read}
use Rattle.hc_evaluate.proofs.first_values.initial_values.Goals as goal

pub returns-in-Err-clause-answers : goal.returns-in-Err-clause-answers
returns-in-Err-clause-answers c =
    let one = spec.initial (nodes c.args.room) (context_of c.args.scope.now c.args.calls) (type_read c.args.t) in
    let values = c.loop-values.values.now in
    list_refused one c.args.values.now values c.loop-values.numbers c.value-item.result (drop 1 values) c.args.state.now c.loop-values.state c.add_initial.new.state (behind one c.add_initial.new.numbers (drop 1 values) c.add_initial.new.state) c.in-Err.e
    c.loop-values.invariant.answers
    (split_first values c.value-item.result c.in-len1-up.len_at_least c.value-item.is)
    (c.in-Err.ensures.answers (drop 1 values))
