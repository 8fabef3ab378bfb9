-- What gates compute: the primitives of IEEE 1364 on two values, and the constants.
use Rattle.std.specs.Prelude.{Bool, true, false, not, ◌&&◌, ◌||◌}
use Rattle.hc_net.specs.declared.gate.GateKind.{GateKind}
use Rattle.hc_net.specs.declared.gate.GateKind.TheVariants.{Zero, One, Not, And, Or, Xor}

-- one of the two bits is 1
abbrev pub differ : Bool → Bool → Bool
differ true y = not y
differ false y = y

-- the output of a gate from its inputs
abbrev pub gate_bit : GateKind → Bool → Bool → Bool
gate_bit Zero x y = false
gate_bit One x y = true
gate_bit Not x y = not x
gate_bit And x y = x && y
gate_bit Or x y = x || y
gate_bit Xor x y = differ x y
