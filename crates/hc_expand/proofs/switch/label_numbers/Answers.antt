use Rattle.std.proofs.Common.{drop}
use Rattle.hc_expand.proofs.Labelled.{labels_refused}
use Rattle.hc_evaluate.proofs.Lists.{split_first}
use Rattle.hc_scope.specs.Labelled.{labels_behind}
use Rattle.hc_scope.specs.Nodes.{nodes}
use Rattle.hc_scope.specs.Reading.{context_of}
use Rattle.hc_scope.specs.Types.{type_read}
use Rattle.hc_expand.proofs.switch.label_numbers.Goals as goal

pub returns-in-Err-clause-answers : goal.returns-in-Err-clause-answers
returns-in-Err-clause-answers c =
    let p = nodes c.args.room in
    let around = context_of c.args.scope.now c.args.calls in
    let labels = c.loop-labels.labels.now in
    labels_refused p around (type_read c.args.t) c.args.labels.now labels c.loop-labels.numbers c.label-item.result (drop 1 labels) c.args.state.now c.loop-labels.state c.add_label.new.state (labels_behind p around (type_read c.args.t) c.add_label.new.numbers (drop 1 labels) c.add_label.new.state) c.in-Err.e
    c.loop-labels.invariant.answers
    (split_first labels c.label-item.result c.in-len1-up.len_at_least c.label-item.is)
    (c.in-Err.ensures.answers (drop 1 labels))
