use Rattle.std.specs.Prelude.{◌+◌}
use Rattle.hc_width.specs.Operand.{operand}
use Rattle.hc_scope.specs.Expression.{call_context, call_expression}
use Rattle.hc_scope.specs.Nodes.{nodes}
use Rattle.hc_scope.specs.Reading.{scope_of, context_of}
use Rattle.hc_evaluate.proofs.Steps.{err_then}
use Rattle.hc_evaluate.proofs.parts.Parts.call_expression.Goals as goal

pub returns-in-Err-clause-answers : goal.returns-in-Err-clause-answers
unfolding call_expression
returns-in-Err-clause-answers g c =
    let s = c.args.state.now in
    err_then (λ inner. context_of inner (c.args.calls + 1)) operand
    (call_context (context_of c.args.scope.now c.args.calls) c.args.x.now c.args.parameters.now (scope_of c.args.around.now) c.args.arguments.now s)
    (λ inner. (nodes c.args.self.now.room).expression inner c.args.body.now) c.in-Err.e s s (c.in-Err.ensures c.args.calls s)
