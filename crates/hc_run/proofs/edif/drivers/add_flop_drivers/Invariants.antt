use Rattle.std.proofs.Common.{map, ◌++◌, drop}
use Rattle.hc_run.specs.Edif.{flop_driver}
use Rattle.hc_run.specs.Pins.{ref_of}
use Rattle.hc_run.proofs.Adding.{IsAdding}
use Rattle.hc_run.proofs.edif.drivers.add_flop_drivers.Given as goal

abbrev pub invariant-loop-flop : goal.invariant-loop-flop
invariant-loop-flop l =
    IsAdding (map ref_of l.fn.pins.items ++ map flop_driver l.flops) (map ref_of l.pins.items) (map flop_driver (drop l.flop-index l.flops))
