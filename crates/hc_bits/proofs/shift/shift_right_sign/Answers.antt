use Rattle.std.proofs.Common.{arith}
use Rattle.hc_bits.proofs.Parts.{IfOk-both}
use Rattle.hc_bits.proofs.Stages.{sign_made}
use Rattle.hc_bits.proofs.shift.shift_right_sign.Goals as goal

pub returns-clause-circuit : goal.returns-clause-circuit
returns-clause-circuit c =
    IfOk-both c.shift_down.result _ _ _
    (λ z width made. sign_made c.args.x.now c.args.y.now _ z _ c.args.b.now c.shift_down.new.b c.as_slice.ensures (omega arith) width made)
    c.shift_down.ensures.width c.shift_down.ensures.circuit
