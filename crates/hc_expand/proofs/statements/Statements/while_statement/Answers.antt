use Rattle.hc_core.specs.Read.{expression, statement}
use Rattle.hc_core.specs.Typed.{kinds_of}
use Rattle.hc_expand.proofs.Made.{while_typed}
use Rattle.hc_expand.proofs.statements.Statements.while_statement.Goals as goal

pub returns-in-Ok-statement-clause-typed : goal.returns-in-Ok-statement-clause-typed
returns-in-Ok-statement-clause-typed g c =
    let a = c.args in
    while_typed a.state.now.objects c.expression.new.state.objects c.statement.new.state.objects a.place (expression c.condition.result) (statement c.in-Ok-statement.body) c.while_of.result
    (c.condition.ensures.typed (kinds_of a.state.now.objects) c.in-Ok.ensures.typed) c.expression.ensures.objects c.in-Ok-statement.ensures.grows c.in-Ok-statement.ensures.typed c.while_of.ensures
