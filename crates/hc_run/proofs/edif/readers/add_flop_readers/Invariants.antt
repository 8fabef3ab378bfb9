use Rattle.std.proofs.Common.{map, ◌++◌, drop}
use Rattle.hc_run.specs.Edif.{flop_reader}
use Rattle.hc_run.specs.Pins.{read_by}
use Rattle.hc_run.proofs.Adding.{IsAdding}
use Rattle.hc_run.proofs.edif.readers.add_flop_readers.Given as goal

abbrev pub invariant-loop-flop : goal.invariant-loop-flop
invariant-loop-flop l =
    IsAdding (map read_by l.fn.list.items ++ map flop_reader l.flops) (map read_by l.list.items) (map flop_reader (drop l.flop-index l.flops))
