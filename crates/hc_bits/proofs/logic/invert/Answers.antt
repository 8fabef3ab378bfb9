use Rattle.hc_bits.proofs.Bitwise.{turned_held}
use Rattle.hc_bits.proofs.logic.invert.Goals as goal

pub returns-clause-circuit : goal.returns-clause-circuit
returns-clause-circuit c =
    rw (← c.as_slice-x.ensures) (turned_held c.as_slice-x.result.now c.args.b.now c.each.new.b c.each.result c.each.ensures.width c.each.ensures.circuit)
