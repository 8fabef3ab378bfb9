-- What a `Sink` means, and what it is to write to one. The rules are this project's own.
use Rattle.std.specs.Prelude.{None, true, false, ◌≡◌, ◌++◌, ℕ, Bool, List, Option}
use Rattle.std.specs.Option.{option_map}
use Rattle.hc_outside.specs.Count.{Moves, IsCount}
use Rattle.hc_outside.specs.Store.{Files}

-- the rest of a sink that stands over an open file: which loan of the store it has, the open file's name and the other
-- files where they are told, and the count of read faults
pub record Lent : Type 0 where
  pub loan : ℕ
  pub others : Option (Files × Option (List ℕ))
  pub reads : ℕ

-- what a sink means; a sink that doesn't tell its bytes has no text here
pub record SinkState : Type 0 where
  pub text : Option (List ℕ)
  -- how many faults of writing there were
  pub faults : ℕ
  -- whether it may be written to
  pub ready : Bool
  -- a sure sink has no faults
  pub sure : Bool
  -- what writing leaves alone, which most sinks don't have
  pub rest : Option Lent

-- a sink that tells nothing of its text, may always be written to, has no rest, and is not sure
abbrev pub untold_sink : ℕ → SinkState
untold_sink faults = record { text = None; faults = faults; ready = true; sure = false; rest = None }

-- what holds of every sink
abbrev pub IsSound : SinkState → Type 0
IsSound s = IsCount s.sure s.faults

-- these bytes were written and nothing else: they stand at the text's end, where it is told, and all but the count stays
pub record Wrote (bytes : List ℕ) (old new : SinkState) : Type 0 where
  pub text : new.text ≡ option_map (λ t. t ++ bytes) old.text
  pub faults : Moves old.sure old.faults new.faults
  pub ready : new.ready ≡ old.ready
  pub sure : new.sure ≡ old.sure
  pub rest : new.rest ≡ old.rest

-- some front part of these bytes was written and nothing else
pub record WroteFront (bytes : List ℕ) (old new : SinkState) : Type 0 where
  pub front : List ℕ
  pub back : List ℕ
  pub parts : front ++ back ≡ bytes
  pub wrote : Wrote front old new
