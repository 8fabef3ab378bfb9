use Rattle.hc_expand.specs.Forms.{loop_read}
use Rattle.hc_scope.specs.Nodes.{nodes}
use Rattle.hc_scope.specs.Reading.{context_of}
use Rattle.hc_scope.specs.Sound.{Grows}
use Rattle.hc_expand.proofs.Apart.{for_goes, for_stops}
use Rattle.hc_expand.proofs.Made.{for_answers, for_behind_typed, for_behind_grows, loop_grows_where, loop_after}
use Rattle.hc_expand.proofs.statements.Statements.for_statement.Goals as goal

pub returns-in-Ok-clause-answers : goal.returns-in-Ok-clause-answers
returns-in-Ok-clause-answers g c =
    let a = c.args in
    let p = nodes a.self.now.room in
    let inner = context_of a.scope.now a.calls in
    for_goes p inner a.place a.first.now a.e.now a.last.now a.body.now a.state.now c.loop_parts.new.state c.statement.new.state (loop_read c.in-Ok.l)
    c.for_behind.result c.in-Ok.ensures.answers
    (for_answers a.place (loop_read c.in-Ok.l) (p.statement inner a.body.now c.loop_parts.new.state) c.statement.result c.for_behind.result c.statement.new.state c.statement.ensures.answers c.for_behind.ensures.made c.for_behind.ensures.stopped)

pub returns-in-Ok-clause-typed : goal.returns-in-Ok-clause-typed
returns-in-Ok-clause-typed g c =
    let a = c.args in
    for_behind_typed c.loop_parts.new.state.objects c.statement.new.state.objects a.place (loop_read c.in-Ok.l) c.statement.result c.for_behind.result
    (loop_after a.state.now.objects c.loop_parts.new.state.objects (loop_read c.in-Ok.l) c.in-Ok.ensures.objects c.in-Ok.ensures.typed)
    c.statement.ensures.grows c.statement.ensures.typed c.for_behind.ensures.made c.for_behind.ensures.stopped

pub returns-in-Ok-clause-grows : goal.returns-in-Ok-clause-grows
returns-in-Ok-clause-grows g c =
    for_behind_grows (Grows c.args.state.now.objects c.statement.new.state.objects) c.statement.result c.for_behind.result
    (loop_grows_where c.args.state.now.objects c.loop_parts.new.state.objects c.statement.new.state.objects c.statement.result c.in-Ok.ensures.objects c.statement.ensures.grows)
    c.for_behind.ensures.stopped

pub returns-in-Err-clause-answers : goal.returns-in-Err-clause-answers
returns-in-Err-clause-answers g c =
    let a = c.args in
    for_stops (nodes a.self.now.room) (context_of a.scope.now a.calls) a.place a.first.now a.e.now a.last.now a.body.now a.state.now c.loop_parts.new.state c.loop_parts.new.state c.in-Err.e
    c.in-Err.ensures.answers
