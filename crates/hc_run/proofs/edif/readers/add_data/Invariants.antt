use Rattle.std.proofs.Common.{map, ◌++◌, [], ◌∷◌, drop}
use Rattle.std.specs.Prelude.{codes}
use Rattle.hc_run.specs.Edif.{each_from, ram_id, ram_pin, pin_ref, ram_readers}
use Rattle.hc_run.specs.Pins.{read_by}
use Rattle.hc_run.proofs.Adding.{IsAdding}
use Rattle.hc_run.proofs.edif.readers.add_data.Given as goal

abbrev pub invariant-loop-i : goal.invariant-loop-i
invariant-loop-i l =
    IsAdding (map read_by l.fn.list.items ++ ram_readers (codes "d") l.object l.nets) (map read_by l.list.items)
    (each_from (λ i n. (n, pin_ref (ram_pin (codes "d") i) (ram_id l.object)) ∷ []) l.i (drop l.i l.nets))
