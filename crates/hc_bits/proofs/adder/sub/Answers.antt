use Rattle.std.proofs.Common.{◌-◌, length, arith}
use Rattle.std.proofs.lemmas.Grind.{common_steps}
use Rattle.hc_bits.proofs.Parts.{IfOk-both}
use Rattle.hc_bits.proofs.Sums.{sub_small, sub_made}
use Rattle.hc_bits.proofs.adder.sub.Goals as goal

pub returns-then-x-lt2-clause-circuit : goal.returns-then-x-lt2-clause-circuit
returns-then-x-lt2-clause-circuit c =
    rw (← c.as_slice-x.ensures, ← c.as_slice-y.ensures)
    (sub_small c.args.b.now c.each.new.b c.as_slice-x.result.now c.as_slice-y.result.now c.in_ok-s.s (grind arith) c.in_ok-s.ensures.width (omega arith) c.in_ok-s.ensures.circuit)

pub returns-clause-circuit : goal.returns-clause-circuit
returns-clause-circuit c =
    rw (← c.as_slice-x.ensures, ← c.as_slice-y.ensures)
    (IfOk-both c.digits.result _ _ _ (λ z made width. sub_made c.args.b.now c.each.new.b c.borrows.new.b c.digits.new.b c.as_slice-x.result.now c.as_slice-y.result.now c.in_ok-s.s _ c.in_ok-c.c z (length c.as_slice-x.result.now - 1)
    (grind arith) (omega arith) (grind (arith, common_steps)) c.in_ok-s.ensures.width c.in_ok-c.ensures.width (rw (← c.as_slice-2.ensures) width) c.in_ok-s.ensures.circuit c.in_ok-c.ensures.circuit (rw (← c.as_slice-2.ensures, ← c.as_slice-3.ensures) made))
    c.digits.ensures.circuit c.digits.ensures.width)
