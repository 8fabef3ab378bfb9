use Rattle.std.proofs.Common.{◌≡◌, ◌+◌, drop}
use Rattle.hc_run.specs.Pins.{input_total}
use Rattle.hc_run.proofs.edif.sizes.input_total.Given as goal

abbrev pub invariant-loop-port : goal.invariant-loop-port
invariant-loop-port l = l.total + input_total (drop l.port-index l.ports) ≡ input_total l.ports
