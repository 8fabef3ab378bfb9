-- Names that the texts of a netlist can hold.
use Rattle.std.specs.Prelude.{ℕ, ◌≤◌, ◌==◌, List, length, Bool, not, ◌&&◌, nat_le, IsTrue}
use Rattle.std.specs.List.{list_all}

-- a byte from 32 to 126 that is none of `"`, `\` and `%`
abbrev pub is_label_byte : ℕ → Bool
is_label_byte b = nat_le 32 b && nat_le b 126 && not (b == 34) && not (b == 92) && not (b == 37)

-- at most 255 such bytes
pub record IsLabel (bytes : List ℕ) : Type 0 where
  pub short : length bytes ≤ 255
  pub plain : IsTrue (list_all is_label_byte bytes)
