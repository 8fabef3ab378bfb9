use Rattle.std.proofs.Common.{arith}
use Rattle.hc_run.proofs.Adding.{IsAdding-more}
use Rattle.std.specs.Prelude.{◌∷◌, []}
use Rattle.hc_run.specs.Edif.{port_id, port_ref}
use Rattle.hc_run.specs.Pins.{ref_of}
use Rattle.hc_run.proofs.Numbered.{each_from_0_more}
use Rattle.hc_run.proofs.edif.readers.add_bits.Goals as goal

pub loop-i-preserved : goal.loop-i-preserved
unfolding ref_of
loop-i-preserved c =
    IsAdding-more _ _ c.loop-i.invariant c.in_ok-add.ensures
    (each_from_0_more (λ i n. (n, port_ref (port_id c.args.number i)) ∷ []) c.args.from.now c.loop-i.i _ (omega arith))
