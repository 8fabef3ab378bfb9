use Rattle.std.proofs.Common.{map, ◌++◌, drop}
use Rattle.hc_run.specs.Edif.{each_from, port_readers}
use Rattle.hc_run.specs.Pins.{read_by}
use Rattle.hc_run.proofs.Adding.{IsAdding}
use Rattle.hc_run.proofs.edif.readers.add_port_readers.Given as goal

abbrev pub invariant-loop-k : goal.invariant-loop-k
invariant-loop-k l =
    IsAdding (map read_by l.fn.list.items ++ each_from port_readers 0 l.ports) (map read_by l.list.items) (each_from port_readers l.k (drop l.k l.ports))
