use Rattle.std.proofs.Common.{true, false}
use Rattle.std.proofs.lemmas.Result.{IfOk-weaker}
use Rattle.hc_value.proofs.OneBit.{less_made}
use Rattle.hc_value.proofs.compare.less.Goals as goal

pub returns-then-signed-clause-circuit : goal.returns-then-signed-clause-circuit
returns-then-signed-clause-circuit c =
    IfOk-weaker c.less_signed.result _ _ (λ z made. less_made c.args.b.now c.less_signed.new.b c.args.x.now c.args.y.now z c.args.signed true c.if-signed.true made) c.less_signed.ensures.circuit

pub returns-else-signed-clause-circuit : goal.returns-else-signed-clause-circuit
returns-else-signed-clause-circuit c =
    IfOk-weaker c.less_unsigned.result _ _ (λ z made. less_made c.args.b.now c.less_unsigned.new.b c.args.x.now c.args.y.now z c.args.signed false c.if-signed.false made) c.less_unsigned.ensures.circuit
