use Rattle.std.proofs.Common.{◌≡◌, ◌+◌, length, Err, ap, sym, subst, ◌∙◌, arith}
use Rattle.std.proofs.lemmas.Bool.{ne_eqb}
use Rattle.hc_tree.specs.declared.refusal.FrontErr.{FrontErr}
use Rattle.hc_scope.specs.Expression.{call_context}
use Rattle.hc_scope.specs.Expansion.{Yields}
use Rattle.hc_scope.specs.Reading.{scope_of, context_of, Answers}
use Rattle.hc_scope.proofs.Chains.{reads-Binds}
use Rattle.hc_scope.proofs.Calls.{call-given, call-wrong, call-refused}
use Rattle.hc_scope.proofs.call.call_scope.Goals as goal

pub returns-then-arguments-parameters : goal.returns-then-arguments-parameters
returns-then-arguments-parameters c = λ calls s.
    let same : length c.args.arguments.now ≡ length c.args.parameters.now = omega arith in
    call-given (context_of c.args.scope.now calls) c.args.x.now c.args.parameters.now (scope_of c.args.around.now) c.args.arguments.now s (c.in-Ok.ensures s) same
    ∙ ap (λ inner. Yields (record { scope = inner; calls = calls + 1 }) s) (sym (reads-Binds c.args.parameters c.args.arguments c.args.scope c.args.around))

pub returns-else-arguments-parameters : goal.returns-else-arguments-parameters
returns-else-arguments-parameters c = λ calls s.
    let call = context_of c.args.scope.now calls in
    let ps = c.args.parameters.now in
    let args = c.args.arguments.now in
    let around = scope_of c.args.around.now in
    let wrong = call-wrong call c.args.x.now ps around args s (c.in-Ok.ensures s) (ne_eqb (length args) (length ps) c.if-arguments-parameters.false) in
    subst (λ (e : FrontErr). Answers (λ inner. context_of inner (calls + 1)) (call_context call c.args.x.now ps around args s) (Err e) s) (sym c.wrong_number.ensures) wrong

pub returns-in-Err : goal.returns-in-Err
returns-in-Err c = λ calls s.
    call-refused (context_of c.args.scope.now calls) c.args.x.now c.args.parameters.now (scope_of c.args.around.now) c.args.arguments.now s (λ inner. context_of inner (calls + 1)) c.in-Err.e
    (c.in-Err.ensures s)
