-- What the reader of a stimulus finds at the front of its bytes.
use Rattle.std.specs.Prelude.{◌≡◌, ◌≤◌, ◌<◌, ◌^◌, ◌++◌, ℕ, Bool, true, false, List, [], ◌∷◌, decimal}
use Rattle.hc_stim.specs.Bench.{AreInputs}
use Rattle.hc_stim.specs.Text.{behind_space, BeginsLine}

-- no digit stands in front
abbrev pub HasNoDigit : List ℕ → Type 0
HasNoDigit [] = Unit {0}
HasNoDigit (b ∷ rest) = 48 ≤ b → b ≤ 57 → ⊥

-- a digit stands in front, and `rest` behind it
pub record BeginsWithDigit (bytes : List ℕ) (digit : ℕ) (rest : List ℕ) : Type 0 where
  pub text : bytes ≡ digit ∷ rest
  pub low : 48 ≤ digit
  pub high : digit ≤ 57

-- a number below 2^128 stands in front, in decimal, and `rest` behind it
pub record IsNumber (bytes : List ℕ) (n : ℕ) (rest : List ℕ) : Type 0 where
  pub text : bytes ≡ decimal n ++ rest
  pub fits : n < 2 ^ 128
  pub ends : HasNoDigit rest

abbrev pub HasNoNumber : List ℕ → Type 0
HasNoNumber bytes = (n : ℕ) (rest : List ℕ) → IsNumber bytes n rest → ⊥

-- a number of a line, with the space in front where it isn't the first
abbrev pub field : Bool → ℕ → List ℕ
field true n = decimal n
field false n = behind_space (decimal n)

-- the numbers of a line from one on, which may be the first
abbrev pub fields : Bool → List ℕ → List ℕ
fields first [] = []
fields first (n ∷ others) = field first n ++ fields false others

-- such a number stands in front, and is one of this width
pub record IsField (first : Bool) (width : ℕ) (bytes : List ℕ) (n : ℕ) (rest : List ℕ) : Type 0 where
  pub text : bytes ≡ field first n ++ rest
  pub fits : n < 2 ^ width
  pub ends : HasNoDigit rest

abbrev pub HasNoField : Bool → ℕ → List ℕ → Type 0
HasNoField first width bytes = (n : ℕ) (rest : List ℕ) → IsField first width bytes n rest → ⊥

-- a number may stand in this rest: a space stands in front of it, but not where it is the first
abbrev pub IsBehindSpace : Bool → List ℕ → List ℕ → Type 0
IsBehindSpace true bytes rest = bytes ≡ rest
IsBehindSpace false bytes rest = bytes ≡ behind_space rest

abbrev pub HasNoSpace : Bool → List ℕ → Type 0
HasNoSpace first bytes = (rest : List ℕ) → IsBehindSpace first bytes rest → ⊥

-- what stands behind the numbers of a line: a line feed and then `rest`, or the end
pub data EndsLine (tail rest : List ℕ) : Type 0 where
  feed : tail ≡ 10 ∷ rest → EndsLine tail rest
  finish : tail ≡ [] → rest ≡ [] → EndsLine tail rest

abbrev pub HasNoEnd : List ℕ → Type 0
HasNoEnd tail = (rest : List ℕ) → EndsLine tail rest → ⊥

-- the numbers of a line stand in front; what stands behind a line begins with no digit
pub record AreFields (widths bytes values rest : List ℕ) : Type 0 where
  pub text : bytes ≡ fields true values ++ rest
  pub inputs : AreInputs widths values

-- no digit stands behind the last number of a line
abbrev pub EndsFields : List ℕ → List ℕ → Type 0
EndsFields [] rest = Unit {0}
EndsFields (n ∷ others) rest = HasNoDigit rest

-- the numbers of a line were put behind others
pub record ReadsFields (widths bytes old new rest : List ℕ) : Type 0 where
  pub values : List ℕ
  pub added : new ≡ old ++ values
  pub fields : AreFields widths bytes values rest
  pub ends : EndsFields values rest

abbrev pub HasNoFields : List ℕ → List ℕ → Type 0
HasNoFields widths bytes = (values rest : List ℕ) → HasNoDigit rest → AreFields widths bytes values rest → ⊥

-- a line was read, and its numbers were put behind others
pub record ReadsLine (widths bytes old new rest : List ℕ) : Type 0 where
  pub values : List ℕ
  pub added : new ≡ old ++ values
  pub line : BeginsLine widths bytes values rest

abbrev pub HasNoLine : List ℕ → List ℕ → Type 0
HasNoLine widths bytes = (values rest : List ℕ) → BeginsLine widths bytes values rest → ⊥
