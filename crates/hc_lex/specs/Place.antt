-- Places count lines by line feeds and columns by bytes, both from 1.
use Rattle.std.specs.Prelude.{ℕ, ◌≤◌, ◌+◌, ◌^◌, ◌==◌, if◌then◌else◌, List, [], ◌∷◌}
use Rattle.hc_tree.specs.declared.place.Place.{Place}

abbrev pub start : Place
start = record { line = 1; column = 1 }

-- the place behind a byte
abbrev pub next_place : ℕ → Place → Place
next_place b at = if b == 10 then record { line = at.line + 1; column = 1 } else record { line = at.line; column = at.column + 1 }

-- the place behind bytes
abbrev pub place_behind : Place → List ℕ → Place
place_behind at [] = at
place_behind at (b ∷ bytes) = place_behind (next_place b at) bytes

-- so many further bytes can be counted
pub record HasRoom (at : Place) (n : ℕ) : Type 0 where
  pub line : 1 ≤ at.line
  pub column : 1 ≤ at.column
  pub room : at.line + at.column + n ≤ 2 ^ 32

-- a place behind another, by at most so many bytes
pub record IsBehind (from to : Place) (n : ℕ) : Type 0 where
  pub line : 1 ≤ to.line
  pub column : 1 ≤ to.column
  pub near : to.line + to.column ≤ from.line + from.column + n
