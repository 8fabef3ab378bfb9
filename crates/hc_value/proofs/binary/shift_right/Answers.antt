use Rattle.std.proofs.Common.{true, false}
use Rattle.std.proofs.lemmas.Result.{IfOk-weaker}
use Rattle.hc_value.proofs.Operators.{right_signed}
use Rattle.hc_value.proofs.binary.shift_right.Goals as goal

pub returns-then-x-clause-circuit : goal.returns-then-x-clause-circuit
returns-then-x-clause-circuit c =
    IfOk-weaker c.shift_right_sign.result _ _ (λ z made.
    right_signed _ c.args.b.now c.shift_right_sign.new.b c.args.x.now.nets c.args.y.now z c.args.x.now.signed true c.if-x.true made) c.shift_right_sign.ensures.circuit

pub returns-else-x-clause-circuit : goal.returns-else-x-clause-circuit
returns-else-x-clause-circuit c =
    IfOk-weaker c.shift_right_zero.result _ _ (λ z made.
    right_signed _ c.args.b.now c.shift_right_zero.new.b c.args.x.now.nets c.args.y.now z c.args.x.now.signed false c.if-x.false made) c.shift_right_zero.ensures.circuit
