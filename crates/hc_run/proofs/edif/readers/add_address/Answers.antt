use Rattle.std.proofs.Common.{arith}
use Rattle.std.specs.Prelude.{◌∷◌, [], codes}
use Rattle.hc_run.proofs.Adding.{IsAdding-more}
use Rattle.hc_run.specs.Edif.{ram_id, ram_pin, pin_ref}
use Rattle.hc_run.specs.Pins.{ref_of}
use Rattle.hc_run.proofs.Numbered.{each_from_0_more}
use Rattle.hc_run.proofs.edif.readers.add_address.Goals as goal

pub loop-i-preserved : goal.loop-i-preserved
unfolding ref_of
loop-i-preserved c =
    IsAdding-more _ _ c.loop-i.invariant c.in_ok-add.ensures
    (each_from_0_more (λ i n. (n, pin_ref (ram_pin (codes "a") i) (ram_id c.args.object)) ∷ []) c.args.nets.now c.loop-i.i _ (omega arith))
