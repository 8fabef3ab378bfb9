-- Text on its way to a sink: what a buffer holds of it has not been written yet. The rules are this project's own.
use Rattle.std.specs.Prelude.{◌≡◌, ◌++◌, List, ℕ, false}
use Rattle.hc_outside.specs.Count.{HasRisen}
use Rattle.hc_outside.specs.Sink.{SinkState, Wrote, WroteFront}
use Rattle.hc_outside.specs.declared.errors.WriteErr.{WriteErr}
use Rattle.hc_outside.specs.declared.errors.WriteErr.TheVariants.{WriteFault}

-- these bytes went into a buffer that held `before`, a front part of it all was written, and the buffer holds the rest, `after`
pub record Sent (bytes before after : List ℕ) (old new : SinkState) : Type 0 where
  pub gone : List ℕ
  pub parts : gone ++ after ≡ before ++ bytes
  pub wrote : Wrote gone old new

-- the writing of these bytes stopped with this error after some front part of them, and `WriteFault` came with a fault
pub record Stopped (bytes : List ℕ) (e : WriteErr) (old new : SinkState) : Type 0 where
  pub front : WroteFront bytes old new
  pub fault : e ≡ WriteFault → HasRisen old.faults new.faults
  pub sure : e ≡ WriteFault → old.sure ≡ false
