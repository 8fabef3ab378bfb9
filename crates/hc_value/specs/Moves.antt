-- Numbers whose nets are others in another order: constants, and what an operator with a constant does to the nets of a number.
use Rattle.std.specs.Prelude.{ℕ, ◌-◌, List, ◌++◌, length, map, take, drop, replicate, min, slice_index, if◌then◌else◌, Option, Some, None}
use Rattle.std.specs.List.{range_with_len}
use Rattle.hc_num.specs.Number.{Number}
use Rattle.hc_core.specs.Program.{Expression, Constant, Register, Element, Word, Signal, Input, Unary, Binary, Slice, Choice}
use Rattle.hc_core.specs.declared.expr.BinOp.{BinOp}
use Rattle.hc_core.specs.declared.expr.BinOp.TheVariants.{Add, Sub, Mul, Div, Rem, And, Or, Xor, Eq, Ne, Lt, Le, Gt, Ge, Shl, Shr, Concat, Take, Drop, Both, Either}
use Rattle.hc_net.specs.Bits.{bit}
use Rattle.hc_value.specs.declared.moved.Move.{Move}
use Rattle.hc_value.specs.declared.moved.Move.TheVariants.{Up, Down, Low, High}
use Rattle.hc_value.specs.declared.operand.Operand.{Operand}

-- the nets of a constant, by the nets of 0 and 1
abbrev pub constant_nets : ℕ → ℕ → Number → List ℕ
constant_nets low high n = map (λ i. if bit n.bits i then high else low) (range_with_len 0 n.width)

-- the number of an expression that is a constant
abbrev pub amount : Expression → Option ℕ
amount (Constant n) = Some n.bits
amount (Register k) = None
amount (Element k i) = None
amount (Word k i) = None
amount (Signal k) = None
amount (Input k) = None
amount (Unary op a) = None
amount (Binary op a b) = None
amount (Slice a high low) = None
amount (Choice c a b) = None

-- the move that an operator makes by a number of places or bits
abbrev pub move_by : BinOp → ℕ → Option Move
move_by Add n = None
move_by Sub n = None
move_by Mul n = None
move_by Div n = None
move_by Rem n = None
move_by And n = None
move_by Or n = None
move_by Xor n = None
move_by Eq n = None
move_by Ne n = None
move_by Lt n = None
move_by Le n = None
move_by Gt n = None
move_by Ge n = None
move_by Shl n = Some (Up n)
move_by Shr n = Some (Down n)
move_by Concat n = None
move_by Take n = Some (Low n)
move_by Drop n = Some (High n)
move_by Both n = None
move_by Either n = None

abbrev pub move_by_some : BinOp → Option ℕ → Option Move
move_by_some op None = None
move_by_some op (Some n) = move_by op n

-- the move that an operator makes with its second operand
abbrev pub move_of : BinOp → Expression → Option Move
move_of op e = move_by_some op (amount e)

-- the net that enters at the high end of a number: its top one where it has a sign
abbrev pub entering_net : ℕ → Operand → ℕ
entering_net low x = if x.signed then slice_index x.nets (length x.nets - 1) else low

-- the nets of a number after a move, where the net `low` is 0
abbrev pub moved_nets : ℕ → Move → Operand → List ℕ
moved_nets low (Up n) x = replicate (min n (length x.nets)) low ++ take (length x.nets - min n (length x.nets)) x.nets
moved_nets low (Down n) x = drop (min n (length x.nets)) x.nets ++ replicate (min n (length x.nets)) (entering_net low x)
moved_nets low (Low n) x = take (min n (length x.nets)) x.nets
moved_nets low (High n) x = drop (min n (length x.nets)) x.nets
