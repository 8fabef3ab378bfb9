use Rattle.std.proofs.Common.{map, ◌++◌, ◌-◌}
use Rattle.std.specs.Prelude.{codes}
use Rattle.std.specs.List.{range_with_len}
use Rattle.hc_run.specs.Edif.{ram_id, ram_pin, pin_ref}
use Rattle.hc_run.specs.Pins.{ref_of}
use Rattle.hc_run.proofs.Adding.{IsAdding}
use Rattle.hc_run.proofs.edif.drivers.add_outputs.Given as goal

abbrev pub invariant-loop-bit : goal.invariant-loop-bit
invariant-loop-bit l =
    IsAdding (map ref_of l.fn.pins.items ++ map (λ i. pin_ref (ram_pin (codes "q") i) (ram_id l.object)) (range_with_len 0 l.width)) (map ref_of l.pins.items)
    (map (λ i. pin_ref (ram_pin (codes "q") i) (ram_id l.object)) (range_with_len l.bit (l.width - l.bit)))
