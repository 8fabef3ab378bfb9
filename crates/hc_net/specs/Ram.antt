-- What a RAM reads and writes: a word at a time, at the number on its address nets (this project's own cell).
use Rattle.std.specs.Prelude.{ℕ, zero, suc, ◌+◌, ◌*◌, List, [], ◌∷◌, ◌++◌, length, map, take, drop, Bool, false, ◌&&◌, nat_lt, if◌then◌else◌, slice_index_or}
use Rattle.std.specs.List.{range_with_len}
use Rattle.hc_net.specs.Bits.{number}
use Rattle.hc_net.specs.declared.ram.RamCell.{RamCell}

-- bit b of the word at index i of what a RAM holds, which is its bits, word 0 and its lowest bit first; 0 where no bit stands
abbrev pub word_bit : List Bool → ℕ → ℕ → ℕ → Bool
word_bit held width i b = slice_index_or held (i * width + b) false

-- the index on the address nets
abbrev pub address : RamCell → (ℕ → Bool) → ℕ
address r v = number (map v r.addr)

-- the outputs, lowest bit first: the word at the address, or 0 outside
abbrev pub read_bits : RamCell → List Bool → (ℕ → Bool) → List Bool
read_bits r held v = map (word_bit held r.width (address r v)) (range_with_len 0 r.width)

-- a list with these elements from number k on
abbrev pub put_at : List Bool → ℕ → List Bool → List Bool
put_at held k bits = take k held ++ bits ++ drop (k + length bits) held

-- what a RAM holds after the edge: where its write net holds and the address is inside, the bits of its data nets are written
abbrev pub written : RamCell → List Bool → (ℕ → Bool) → List Bool
written r held v = if v r.we && nat_lt (address r v) r.words then put_at held (address r v * r.width) (map v r.d) else held

-- what a RAM holds at an edge, from the bits of its nets in the clocks before
abbrev pub held_at : RamCell → (ℕ → ℕ → Bool) → ℕ → List Bool
held_at r h zero = r.init
held_at r h (suc t) = written r (held_at r h t) (h t)

-- a RAM whose nets are renamed
abbrev pub moved : (ℕ → ℕ) → RamCell → RamCell
moved place r = record {
  object = r.object;
  words = r.words;
  width = r.width;
  init = r.init;
  addr = map place r.addr;
  we = place r.we;
  d = map place r.d;
}
