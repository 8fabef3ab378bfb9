-- Runs of a core, clock by clock. Clock t lies between edge t and edge t + 1; edge 0 is the start.
use Rattle.std.specs.Prelude.{◌≡◌, ◌<◌, ℕ, suc, ◌^◌, List, Option, Some, None, slice_get, slice_index_or}
use Rattle.hc_core.specs.Read.{statement}
use Rattle.hc_core.specs.Typed.{kinds_of}
use Rattle.hc_core.specs.declared.object.Kind.{Kind}
use Rattle.hc_core.specs.declared.object.Kind.TheVariants as kind
use Rattle.hc_core.specs.declared.object.Core.{Core}
use Rattle.hc_meaning.specs.Residual.{Residual, residual}
use Rattle.hc_meaning.specs.Value.{Store, Instant, World, word_in, initial, inputs_before}
use Rattle.hc_meaning.specs.Control.{Leaf, resolved, evaluated, front}
use Rattle.hc_meaning.specs.Clock.{Agrees, behind_edge, all_writes, after, outputs}
use Rattle.hc_meaning.specs.Twice.{used_twice}

-- what is left of the program at an edge, and what its objects hold
pub record State : Type 0 where
  pub rest : Residual
  pub store : Store

-- what expressions are read in, in the clock behind a state
abbrev pub world_of : List Kind → List ℕ → State → Instant → World
world_of kinds inputs s r = record { kinds = kinds; store = s.store; inputs = inputs; instant = r; word = word_in s.store }

-- ---- a clock, in a world and from what is left

-- the actions that the threads stand at
abbrev pub front_of : World → Residual → List Leaf
front_of w rest = front (resolved w rest)

-- the instant of the world is what its own front shows
abbrev pub IsSettled : World → Residual → Type 0
IsSettled w rest = Agrees w (front_of w rest)

-- the least object that is used twice
abbrev pub conflict : World → Residual → Option ℕ
conflict w rest = used_twice w (front_of w rest) (evaluated w rest)

-- what is left and what the objects hold at the edge behind
abbrev pub state_after : World → Residual → State
state_after w rest = record { rest = behind_edge w (front_of w rest) (resolved w rest); store = after (all_writes w (front_of w rest)) w.store }

-- An instant of the clock behind a state, which agrees whether the clock is clean or not.
pub record Settled (kinds : List Kind) (inputs : List ℕ) (s : State) : Type 0 where
  pub instant : Instant
  pub agrees : IsSettled (world_of kinds inputs s instant) s.rest

-- the world of a clock with its instant
abbrev pub world_in : {kinds : List Kind} {inputs : List ℕ} {s : State} → Settled kinds inputs s → World
world_in {kinds} {inputs} {s} settled = world_of kinds inputs s settled.instant

-- A clean clock: from its state at the edge before to the state at the edge after, with its outputs.
pub record Clock (kinds : List Kind) (inputs : List ℕ) (old new : State) (shown : List ℕ) : Type 0 where
  pub settled : Settled kinds inputs old
  pub clean : conflict (world_in settled) old.rest ≡ None
  pub next : new ≡ state_after (world_in settled) old.rest
  pub shows : shown ≡ outputs (world_in settled)

-- ---- runs

-- a number for each input, in order, below 2 to the power of its width
abbrev pub AreInputs : List Kind → List ℕ → Type 0
AreInputs kinds inputs = (k w : ℕ) (s : _) (pins : List (List ℕ)) → slice_get kinds k ≡ Some (kind.Input w s pins)
    → slice_index_or inputs (inputs_before kinds k) 0 < 2 ^ w

-- The state at edge 0: all of `main` is left, and the objects hold their first numbers.
abbrev pub first_state : Core → State
first_state core = record { rest = (residual (statement core.main) 0).0; store = initial (kinds_of core.objects) }

-- A run of n clocks on inputs by the clock, each of them clean. That there is one is what makes a core clean for the inputs and n.
pub record Run (core : Core) (trace : ℕ → List ℕ) (n : ℕ) : Type 0 where
  pub inputs : (t : ℕ) → t < n → AreInputs (kinds_of core.objects) (trace t)
  pub state : ℕ → State
  pub shown : ℕ → List ℕ
  pub first : state 0 ≡ first_state core
  pub clock : (t : ℕ) → t < n → Clock (kinds_of core.objects) (trace t) (state t) (state (suc t)) (shown t)
