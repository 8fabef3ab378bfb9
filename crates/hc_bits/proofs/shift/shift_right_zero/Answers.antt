use Rattle.std.proofs.Common.{arith, map}
use Rattle.hc_net.specs.Bits.{number}
use Rattle.hc_net.specs.MadeLemmas.{Makes-holds}
use Rattle.hc_bits.proofs.Parts.{IfOk-both}
use Rattle.hc_bits.proofs.Stages.{zero_held}
use Rattle.hc_bits.proofs.shift.shift_right_zero.Goals as goal

pub returns-clause-circuit : goal.returns-clause-circuit
returns-clause-circuit c =
    IfOk-both c.shift_down.result _ _ _
    (λ z width made. Makes-holds made (omega arith) (λ v is. zero_held v c.args.x.now z (number (map v c.args.y.now)) width is))
    c.shift_down.ensures.width c.shift_down.ensures.circuit
