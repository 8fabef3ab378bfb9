use Rattle.std.proofs.Common.{arith}
use Rattle.hc_run.proofs.Adding.{IsAdding-more}
use Rattle.hc_run.specs.Edif.{flop_driver}
use Rattle.hc_run.specs.Pins.{ref_of}
use Rattle.hc_run.proofs.Numbered.{map_more}
use Rattle.hc_run.proofs.edif.drivers.add_flop_drivers.Goals as goal

pub loop-flop-preserved : goal.loop-flop-preserved
unfolding ref_of
loop-flop-preserved c =
    IsAdding-more _ _ c.loop-flop.invariant c.in_ok-add.ensures (map_more flop_driver c.args.flops.now c.loop-flop.flop-index _ (omega arith))
