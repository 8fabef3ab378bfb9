use Rattle.std.proofs.Common.{ap, ◌∙◌}
use Rattle.hc_scope.specs.Declaration.{names}
use Rattle.hc_declare.specs.NamesRead.{name_read, list_read}
use Rattle.hc_scope.specs.Nodes.{nodes}
use Rattle.hc_scope.specs.Table.{context_in}
use Rattle.hc_scope.specs.Types.{type_read}
use Rattle.hc_scope.proofs.Stops.{names_stop}
use Rattle.hc_declare.proofs.declaration.each_name.Goals as goal

pub returns-in-Err-clause-answers : goal.returns-in-Err-clause-answers
returns-in-Err-clause-answers c =
    let here = context_in c.loop-x.names.entries c.args.around.now c.args.calls in
    let all = names (nodes c.args.room) (context_in c.args.names.now.entries c.args.around.now c.args.calls) (type_read c.args.t) (list_read c.args.list) c.args.state.now in
    names_stop (nodes c.args.room) here (type_read c.args.t) (name_read c.in-Some.x) (list_read c.in-Some.rest) all c.in-Err.e c.loop-x.state c.name.new.state c.name.new.state
    (c.loop-x.invariant.answers ∙ ap (λ list. names (nodes c.args.room) here (type_read c.args.t) list c.loop-x.state) c.in-Some.ensures)
    c.in-Err.ensures.answers
