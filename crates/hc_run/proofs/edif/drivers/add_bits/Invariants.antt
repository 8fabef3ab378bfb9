use Rattle.std.proofs.Common.{map, ◌++◌, ◌-◌}
use Rattle.std.specs.List.{range_with_len}
use Rattle.hc_run.specs.Edif.{port_id, port_ref}
use Rattle.hc_run.specs.Pins.{ref_of}
use Rattle.hc_run.proofs.Adding.{IsAdding}
use Rattle.hc_run.proofs.edif.drivers.add_bits.Given as goal

abbrev pub invariant-loop-bit : goal.invariant-loop-bit
invariant-loop-bit l =
    IsAdding (map ref_of l.fn.pins.items ++ map (λ i. port_ref (port_id l.number i)) (range_with_len 0 l.width)) (map ref_of l.pins.items)
    (map (λ i. port_ref (port_id l.number i)) (range_with_len l.bit (l.width - l.bit)))
