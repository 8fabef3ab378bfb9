use Rattle.std.proofs.Common.{map, ◌++◌, drop}
use Rattle.hc_run.specs.Edif.{each_from, port_drivers}
use Rattle.hc_run.specs.Pins.{ref_of}
use Rattle.hc_run.proofs.Adding.{IsAdding}
use Rattle.hc_run.proofs.edif.drivers.add_input_drivers.Given as goal

abbrev pub invariant-loop-k : goal.invariant-loop-k
invariant-loop-k l =
    IsAdding (map ref_of l.fn.pins.items ++ each_from port_drivers 0 l.ports) (map ref_of l.pins.items) (each_from port_drivers l.k (drop l.k l.ports))
