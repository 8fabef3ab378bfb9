use Rattle.std.proofs.Common.{arith}
use Rattle.std.specs.Prelude.{codes}
use Rattle.hc_run.proofs.Adding.{IsAdding-more}
use Rattle.hc_run.specs.Edif.{ram_id, ram_pin, pin_ref}
use Rattle.hc_run.specs.Pins.{ref_of}
use Rattle.hc_run.proofs.Numbered.{range_map_more}
use Rattle.hc_run.proofs.edif.drivers.add_outputs.Goals as goal

pub loop-bit-preserved : goal.loop-bit-preserved
unfolding ref_of
loop-bit-preserved c =
    IsAdding-more _ _ c.loop-bit.invariant c.in_ok-add.ensures
    (range_map_more (λ i. pin_ref (ram_pin (codes "q") i) (ram_id c.args.object)) c.loop-bit.bit c.args.width (omega arith))
