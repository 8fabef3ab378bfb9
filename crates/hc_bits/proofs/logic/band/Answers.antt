use Rattle.std.proofs.Common.{arith}
use Rattle.std.specs.Prelude.{bit_and}
use Rattle.hc_net.specs.declared.gate.GateKind.TheVariants as kind
use Rattle.hc_bits.proofs.Bitwise.{and_bitwise, bitwise_held}
use Rattle.hc_bits.proofs.logic.band.Goals as goal

pub returns-clause-circuit : goal.returns-clause-circuit
returns-clause-circuit c =
    rw (← c.as_slice.ensures, ← c.as_slice-2.ensures)
    (bitwise_held bit_and kind.And and_bitwise c.as_slice.result.now c.as_slice-2.result.now c.args.b.now c.each.new.b c.each.result (grind arith) c.each.ensures.width c.each.ensures.circuit)
