use Rattle.std.proofs.Common.{◌∙◌, ap, ◌/◌, arith}
use Rattle.hc_netsim.proofs.Passes.{half_more, bits_more}
use Rattle.hc_netsim.proofs.inputs.put_bits.Goals as goal

pub loop-bit-preserved : goal.loop-bit-preserved
loop-bit-preserved c = record {
  rest = ap (λ n. n / 2) c.loop-bit.invariant.rest ∙ half_more c.args.number c.loop-bit.bit-index;
  bits = bits_more c.args.number c.loop-bit.bit-index c.loop-bit.rest c.loop-bit.bits (omega arith) c.loop-bit.invariant.rest c.loop-bit.invariant.bits;
}
