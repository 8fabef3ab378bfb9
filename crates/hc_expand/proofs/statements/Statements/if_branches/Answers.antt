use Rattle.hc_core.specs.Read.{expression}
use Rattle.hc_expand.specs.Forms.{both_read}
use Rattle.hc_scope.specs.Nodes.{nodes}
use Rattle.hc_scope.specs.Reading.{context_of}
use Rattle.hc_expand.proofs.Apart.{if_answers, if_stops}
use Rattle.hc_expand.proofs.Made.{if_typed}
use Rattle.hc_expand.proofs.statements.Statements.if_branches.Goals as goal

pub returns-in-Ok-clause-answers : goal.returns-in-Ok-clause-answers
returns-in-Ok-clause-answers g c =
    let a = c.args in
    if_answers (nodes a.self.now.room) (context_of a.scope.now a.calls) a.place (expression a.condition) a.yes.now a.no.now a.state.now c.both.new.state (both_read c.in-Ok.b) c.branches.result
    c.in-Ok.ensures.answers c.branches.ensures

pub returns-in-Ok-clause-typed : goal.returns-in-Ok-clause-typed
returns-in-Ok-clause-typed g c =
    let a = c.args in
    if_typed a.state.now.objects c.both.new.state.objects a.place (expression a.condition) (both_read c.in-Ok.b) c.branches.result c.requires.condition c.in-Ok.ensures.grows
    c.in-Ok.ensures.typed c.branches.ensures

pub returns-in-Err-clause-answers : goal.returns-in-Err-clause-answers
returns-in-Err-clause-answers g c =
    let a = c.args in
    if_stops (nodes a.self.now.room) (context_of a.scope.now a.calls) a.place (expression a.condition) a.yes.now a.no.now a.state.now c.both.new.state c.both.new.state c.in-Err.e
    c.in-Err.ensures.answers
