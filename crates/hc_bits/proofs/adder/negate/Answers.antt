use Rattle.std.proofs.Common.{◌-◌, ◌∙◌, length, arith}
use Rattle.std.proofs.lemmas.Grind.{common_steps}
use Rattle.std.proofs.lemmas.Result.{IfOk-weaker}
use Rattle.hc_bits.proofs.Parts.{IfOk-both}
use Rattle.hc_bits.proofs.Sums.{negate_small, negate_made}
use Rattle.hc_bits.proofs.adder.negate.Goals as goal

pub returns-then-x-lt2-clause-circuit : goal.returns-then-x-lt2-clause-circuit
returns-then-x-lt2-clause-circuit c =
    IfOk-weaker c.from_slice.result _ _ (λ z is. negate_small c.args.b.now c.args.x.now z c.requires.nets (is ∙ c.as_slice-x.ensures) (grind arith)) c.from_slice.ensures

pub returns-clause-circuit : goal.returns-clause-circuit
returns-clause-circuit c =
    rw (← c.as_slice-x.ensures)
    (IfOk-both c.digits.result _ _ _ (λ z made width. negate_made c.args.b.now c.prefix_carries.new.b c.digits.new.b c.as_slice-x.result.now _ c.in_ok-c.c z (length c.as_slice-x.result.now - 1)
    (omega arith) (grind (arith, common_steps)) c.in_ok-c.ensures.width width c.in_ok-c.ensures.circuit (rw (← c.as_slice.ensures) made))
    c.digits.ensures.circuit c.digits.ensures.width)
