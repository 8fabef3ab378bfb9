use Rattle.std.proofs.Common.{◌≡◌, ◌/◌, ◌^◌, take}
use Rattle.hc_netsim.specs.Pass.{bits_of}
use Rattle.hc_netsim.proofs.inputs.put_bits.Given as goal

abbrev pub invariant-loop-bit : goal.invariant-loop-bit
invariant-loop-bit l = record {
  rest : l.rest ≡ l.number / 2 ^ l.bit-index;
  bits : take l.bit-index l.bits ≡ bits_of l.number l.bit-index;
}
