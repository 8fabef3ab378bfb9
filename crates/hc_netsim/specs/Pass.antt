-- The parts of a pass over a netlist.
use Rattle.std.specs.Prelude.{◌≡◌, ◌<◌, ℕ, ◌+◌, List, map, take, Bool, true, false, not, ◌&&◌, ◌||◌, Option, Some, None, slice_get, slice_index, All}
use Rattle.std.specs.List.{range_with_len}
use Rattle.hc_net.specs.Bits.{bit}
use Rattle.hc_net.specs.Gate.{differ}
use Rattle.hc_net.specs.Run.{cell_nets, input_bits, net_bit}
use Rattle.hc_net.specs.Valid.{CellReadsBelow}
use Rattle.hc_net.specs.declared.net.Port.{Port}
use Rattle.hc_net.specs.declared.net.Cell.{Cell}
use Rattle.hc_net.specs.declared.net.Cell.TheVariants.{Zero, One, Not, And, Or, Xor, Ram}
use Rattle.hc_net.specs.declared.ram.RamCell.{RamCell}

-- the lowest bits of a number
abbrev pub bits_of : ℕ → ℕ → List Bool
bits_of n width = map (bit n) (range_with_len 0 width)

-- a bit of an input, from the input's number and the bit's
abbrev pub input_bit : List ℕ → ℕ × ℕ → Bool
input_bit inputs b = bit (slice_index inputs b.0) b.1

-- the bits of the input nets
abbrev pub input_values : List Port → List ℕ → List Bool
input_values ports inputs = map (input_bit inputs) (input_bits ports)

-- the output of a gate, where the cell is one
abbrev pub gate_output : List Bool → Cell → Option Bool
gate_output v Zero = Some false
gate_output v One = Some true
gate_output v (Not a) = Some (not (net_bit v a))
gate_output v (And a b) = Some (net_bit v a && net_bit v b)
gate_output v (Or a b) = Some (net_bit v a || net_bit v b)
gate_output v (Xor a b) = Some (differ (net_bit v a) (net_bit v b))
gate_output v (Ram r) = None

-- cells of which each reads nets before its own, the first one's being net `base`
pub record ReadEarlier (base : ℕ) (cells : List Cell) : Type 0 where
  pub each : (j : ℕ) (c : Cell) → slice_get cells j ≡ Some c → CellReadsBelow (base + cell_nets (take j cells)) c

-- all nets that a RAM reads are below n
pub record RamReadsWithin (n : ℕ) (r : RamCell) : Type 0 where
  pub addr : All (λ k. k < n) r.addr
  pub we : r.we < n
  pub d : All (λ k. k < n) r.d
