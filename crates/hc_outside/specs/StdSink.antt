-- What a `StdSink` means.
use Rattle.hc_outside.specs.declared.std_sink.StdSink.{StdSink}
use Rattle.hc_outside.specs.Sink.{SinkState, untold_sink}

-- it tells nothing, and may always be written to
abbrev pub state_of : {P : Type 0} → StdSink P → SinkState
state_of s = untold_sink s.faults
