-- Where the token of a statement stands, clock by clock, as the clock law has it: a function of the source side alone, by when
-- the statement starts. The law of tokens says of bits by the clock that they tell where it stands.
use Rattle.std.specs.Prelude.{◌≡◌, ◌<◌, ℕ, zero, suc, List, [], ◌++◌, Contains, Bool, true, false, if◌then◌else◌, Option, Some, None}
use Rattle.hc_meaning.specs.Residual.{Residual, Skip}
use Rattle.hc_meaning.specs.Value.{World}
use Rattle.hc_meaning.specs.Control.{resolved, front, evaluated, is_skip, Condition, Leaf}
use Rattle.hc_meaning.specs.Clock.{behind_edge}

-- the clocks of a run: the world of each, and the actions that the whole program stands at in it
pub record Clocks : Type 0 where
  pub world : ℕ → World
  pub leaves : ℕ → List Leaf

-- what a statement stands at in a clock: it starts, or goes on with what was left of it, if anything was
abbrev pub current : World → Residual → Bool → Option Residual → Residual
current w s true held = resolved w s
current w s false None = Skip
current w s false (Some r) = resolved w r

-- what is left at the edge behind a clock; nothing where the statement ended in it, or stood nowhere
abbrev pub held_behind : World → List Leaf → Residual → Option Residual
held_behind w leaves r = if is_skip r then None else Some (behind_edge w leaves r)

-- what is left of a statement at each edge
abbrev pub token_at : Clocks → Residual → (ℕ → Bool) → ℕ → Option Residual
token_at c s start zero = None
token_at c s start (suc t) = held_behind (c.world t) (c.leaves t) (current (c.world t) s (start t) (token_at c s start t))

-- whether a token that started earlier ends in a clock
abbrev pub ends : World → Option Residual → Bool
ends w None = false
ends w (Some r) = is_skip (resolved w r)

-- a statement starts in clock t only where it stands nowhere, or its token ends
abbrev pub IsFair : Clocks → Residual → (ℕ → Bool) → ℕ → Type 0
IsFair c s start t = start t ≡ true → (r : Residual) → token_at c s start t ≡ Some r → is_skip (resolved (c.world t) r) ≡ true

-- before clock t everything was in order: `Good` holds of each clock, and each start was fair
pub record IsFairBefore (c : Clocks) (Good : ℕ → Type 0) (s : Residual) (start : ℕ → Bool) (t : ℕ) : Type 0 where
  pub good : (i : ℕ) → i < t → Good i
  pub fair : (i : ℕ) → i < t → IsFair c s start i

-- the conditions that a statement evaluates in a clock: those of what is left of it, and its own where it starts
abbrev pub asked : World → Residual → Bool → Option Residual → List Condition
asked w s start None = if start then evaluated w s else []
asked w s start (Some r) = evaluated w r ++ (if start then evaluated w s else [])

-- each condition of one list is among those of the other
pub record SameMembers (xs ys : List Condition) : Type 0 where
  pub forth : (x : Condition) → Contains xs x → Contains ys x
  pub back : (x : Condition) → Contains ys x → Contains xs x

-- The token law of a statement, for bits by the clock: `pass` and `finish` tell where a token goes through at once and where
-- one ends; the actions whose enables hold, in text order, are those that the statement stands at; and the conditions whose
-- enables hold are those that it evaluates, where one may be evaluated twice in a clock by a restart.
pub record Follows (c : Clocks) (Good : ℕ → Type 0) (s : Residual) (start pass finish : ℕ → Bool) (enabled : ℕ → List Leaf) (tested : ℕ → List Condition) : Type 0 where
  pub passes : (t : ℕ) → IsFairBefore c Good s start t → Good t → start t ≡ true → pass t ≡ is_skip (resolved (c.world t) s)
  pub finishes : (t : ℕ) → IsFairBefore c Good s start t → Good t → finish t ≡ ends (c.world t) (token_at c s start t)
  pub enables : (t : ℕ) → IsFairBefore c Good s start t → Good t → IsFair c s start t
      → enabled t ≡ front (current (c.world t) s (start t) (token_at c s start t))
  pub tests : (t : ℕ) → IsFairBefore c Good s start t → Good t → IsFair c s start t
      → SameMembers (tested t) (asked (c.world t) s (start t) (token_at c s start t))
