-- What a bench means, clock by clock. The rules are this project's own.
use Rattle.std.specs.Prelude.{◌≡◌, ◌<◌, ◌^◌, ℕ, zero, suc, List, length, slice_index, Option, Some, None}
use Rattle.hc_stim.specs.declared.bench.Tick.{Tick}
use Rattle.hc_stim.specs.declared.bench.Tick.TheVariants as tick

-- what a clock comes to: the number of each output and the next state, or the object that is used twice
pub data Outcome (S : Type 0) : Type 0 where
  Done : List ℕ → S → Outcome S
  Conflict : ℕ → Outcome S

-- a bench: the width of each input, the number of outputs, its state, and what each state and inputs come to
pub record Meaning (S : Type 0) : Type 0 where
  pub widths : List ℕ
  pub outputs : ℕ
  pub state : S
  pub step : S → List ℕ → Outcome S

-- a number for each input, below 2 ^ width
pub record AreInputs (widths inputs : List ℕ) : Type 0 where
  pub count : length inputs ≡ length widths
  pub fit : (k : ℕ) → k < length widths → slice_index inputs k < 2 ^ slice_index widths k

-- the answer of a clock, its outputs and the next state, as an outcome
abbrev pub outcome_of : {S : Type 0} → Tick → List ℕ → S → Outcome S
outcome_of tick.Done outputs state = Done outputs state
outcome_of (tick.Conflict object) outputs state = Conflict object

-- the answer, the outputs and the new state are what the old state and the inputs come to
abbrev pub Gives : {S : Type 0} → Meaning S → List ℕ → Tick → List ℕ → Meaning S → Type 0
Gives old inputs answer outputs new = old.step old.state inputs ≡ outcome_of answer outputs new.state

-- a fact of a clock that came to no conflict
abbrev pub IfDone : Tick → Type 0 → Type 0
IfDone tick.Done P = P
IfDone (tick.Conflict object) P = Unit {0}

-- a fact of a clock that came to a conflict
abbrev pub IfConflict : Tick → Type 0 → Type 0
IfConflict tick.Done P = Unit {0}
IfConflict (tick.Conflict object) P = P

-- ports and rule are the same, whatever the state
pub record IsSameBench {S : Type 0} (old new : Meaning S) : Type 0 where
  pub widths : new.widths ≡ old.widths
  pub outputs : new.outputs ≡ old.outputs
  pub step : new.step ≡ old.step

-- the state that an outcome leads to
abbrev pub next_state : {S : Type 0} → Outcome S → Option S
next_state (Done outputs state) = Some state
next_state (Conflict object) = None

abbrev pub next_from : {S : Type 0} → (S → List ℕ → Outcome S) → Option S → List ℕ → Option S
next_from step None inputs = None
next_from step (Some state) inputs = next_state (step state inputs)

-- the state after clocks with the inputs `trace 0`, `trace 1` and so on, where none of them came to a conflict
abbrev pub state_after : {S : Type 0} → (S → List ℕ → Outcome S) → S → (ℕ → List ℕ) → ℕ → Option S
state_after step state trace zero = Some state
state_after step state trace (suc t) = next_from step (state_after step state trace t) (trace t)
