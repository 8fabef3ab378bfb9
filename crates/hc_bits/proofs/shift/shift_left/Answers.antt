use Rattle.std.proofs.lemmas.Result.{IfOk-weaker}
use Rattle.hc_bits.proofs.Stages.{left_made}
use Rattle.hc_bits.proofs.shift.shift_left.Goals as goal

pub returns-in-Ok-shift_down-clause-circuit : goal.returns-in-Ok-shift_down-clause-circuit
returns-in-Ok-shift_down-clause-circuit c =
    IfOk-weaker c.reversed-in-Ok-shift_down.result _ _
    (λ z is. left_made c.args.x.now c.args.y.now c.in-Ok.turned c.in-Ok-shift_down.shifted z c.args.b.now c.shift_down.new.b c.in-Ok.ensures is c.in-Ok-shift_down.ensures.width c.in-Ok-shift_down.ensures.circuit)
    c.reversed-in-Ok-shift_down.ensures
