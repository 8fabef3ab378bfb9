-- What a `MemSink` means.
use Rattle.std.specs.Prelude.{true, Some, None}
use Rattle.hc_outside.specs.declared.mem_sink.MemSink.{MemSink}
use Rattle.hc_outside.specs.Plan.{Plan, is_calm}
use Rattle.hc_outside.specs.Sink.{SinkState}

-- it tells its bytes, may always be written to, and is sure exactly where no call is to fail
abbrev pub state_of : MemSink → SinkState
state_of m = record { text = Some m.bytes.items; faults = m.faults; ready = true; sure = is_calm m.plan; rest = None }

-- which of its calls fail, and what a call takes at most
abbrev pub plan_of : MemSink → Plan
plan_of m = m.plan
