use Rattle.std.proofs.Common.{◌++◌, ◌-◌}
use Rattle.std.specs.List.{flat_map, range_with_len}
use Rattle.hc_run.specs.Edif.{ram_pin, cell_port, cell_ports}
use Rattle.hc_run.proofs.Adding.{IsAdding}
use Rattle.hc_run.proofs.edif.library.push_ports.Given as goal

abbrev pub invariant-loop-bit : goal.invariant-loop-bit
invariant-loop-bit l =
    IsAdding (l.fn.text.items ++ cell_ports l.letter l.count l.direction) l.text.items
    (flat_map (λ i. cell_port (ram_pin l.letter i) l.direction) (range_with_len l.bit (l.count - l.bit)))
