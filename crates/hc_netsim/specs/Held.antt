-- A RAM with what it holds.
use Rattle.std.specs.Prelude.{◌≡◌, ℕ, ◌*◌, List, length, Bool}
use Rattle.hc_net.specs.Ram.{written}
use Rattle.hc_net.specs.Valid.{RamHasSizes}
use Rattle.hc_net.specs.declared.ram.RamCell.{RamCell}

-- its bits, word 0 and its lowest bit first
pub record Held : Type 0 where
  pub ram : RamCell
  pub bits : List Bool

-- a bit for each bit of each word
pub record HasWords (m : Held) : Type 0 where
  pub sizes : RamHasSizes m.ram
  pub bits : length m.bits ≡ m.ram.words * m.ram.width

-- a RAM before its first edge
abbrev pub first_held : RamCell → Held
first_held r = record { ram = r; bits = r.init }

-- a RAM after an edge, from the bits of the nets before it
abbrev pub after_edge : (ℕ → Bool) → Held → Held
after_edge v m = record { ram = m.ram; bits = written m.ram m.bits v }
