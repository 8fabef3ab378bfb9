use Rattle.std.proofs.Common.{◌≡◌, map, take, slice_index_or}
use Rattle.hc_store.proofs.register.column.Given as goal

abbrev pub invariant-loop-value : goal.invariant-loop-value
invariant-loop-value l = l.nets ≡ map (λ value. slice_index_or value l.i 0) (take l.value-index l.values)
