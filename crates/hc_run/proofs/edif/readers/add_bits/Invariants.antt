use Rattle.std.proofs.Common.{map, ◌++◌, [], ◌∷◌, drop}
use Rattle.hc_run.specs.Edif.{each_from, port_id, port_ref}
use Rattle.hc_run.specs.Pins.{read_by}
use Rattle.hc_run.proofs.Adding.{IsAdding}
use Rattle.hc_run.proofs.edif.readers.add_bits.Given as goal

abbrev pub invariant-loop-i : goal.invariant-loop-i
invariant-loop-i l =
    IsAdding (map read_by l.fn.list.items ++ each_from (λ i n. (n, port_ref (port_id l.number i)) ∷ []) 0 l.from) (map read_by l.list.items)
    (each_from (λ i n. (n, port_ref (port_id l.number i)) ∷ []) l.i (drop l.i l.from))
