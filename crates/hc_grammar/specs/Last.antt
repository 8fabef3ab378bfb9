-- How many of the tokens at the front are the longest form that stands there, where the reading stops further on.
use Rattle.std.specs.Prelude.{◌≤◌, ◌+◌, ℕ, List, [], length, take, Option, Some, None}
use Rattle.hc_grammar.specs.Table.{Part, Values, Grammar, ReadsRow, Stops, StopsRow, Spells}

-- The greatest number with a property, or none where no number has it.
abbrev pub Greatest : (ℕ → Type 0) → Option ℕ → Type 0
Greatest P None = (n : ℕ) → ¬ P n
Greatest P (Some k) = P k × ((n : ℕ) → P n → n ≤ k)

-- the number behind n tokens
abbrev pub behind : ℕ → Option ℕ → Option ℕ
behind n None = None
behind n (Some k) = Some (n + k)

-- the number, or 0
abbrev pub or_zero : Option ℕ → Option ℕ
or_zero None = Some 0
or_zero (Some k) = Some k

module _ (g : Grammar) where
  -- the first k tokens are a form
  pub record Complete (f : g.Form) (ts : List g.Token) (k : ℕ) : Type 0 where
    pub within : k ≤ length ts
    pub value : g.Gives f
    pub spells : Spells g f value (take k ts)

  -- the first k tokens are the parts of a row
  pub record CompleteRow (row : List (Part g.Kind g.Form)) (ts : List g.Token) (k : ℕ) : Type 0 where
    pub within : k ≤ length ts
    pub values : Values g.Gives row
    pub spells : ReadsRow g row (take k ts) values []

  -- how many of the first tokens are the longest form that stands there
  abbrev pub IsLast : g.Form → List g.Token → Option ℕ → Type 0
  IsLast f ts = Greatest (Complete f ts)

  abbrev pub IsLastRow : List (Part g.Kind g.Form) → List g.Token → Option ℕ → Type 0
  IsLastRow row ts = Greatest (CompleteRow row ts)

  -- a form can't be read: where it stops, and how many of the first tokens are one
  pub record StopsAt (f : g.Form) (ts at : List g.Token) (last : Option ℕ) : Type 0 where
    pub stops : Stops g f ts at
    pub last_is : IsLast f ts last

  pub record StopsRowAt (row : List (Part g.Kind g.Form)) (ts at : List g.Token) (last : Option ℕ) : Type 0 where
    pub stops : StopsRow g row ts at
    pub last_is : IsLastRow row ts last
