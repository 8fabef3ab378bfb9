use Rattle.std.proofs.Common.{◌≡◌, ℕ, List, Option, length}
use Rattle.hc_scope.specs.Declaration as spec
use Rattle.hc_scope.specs.Plain.{ArePlain}
use Rattle.hc_scope.specs.declared.state.State as the_state
use Rattle.hc_scope.proofs.pins.first_data.Given as goal

-- what was passed are no `data` entries
abbrev pub invariant-loop-specs : goal.invariant-loop-specs
invariant-loop-specs l = record {
  entries : (width : ℕ) (pins : Option (List (List ℕ))) (s : the_state.State) → spec.data_entries width pins l.fn.specs s ≡ spec.data_entries width pins l.specs s;
  plain : ArePlain l.specs;
}

abbrev pub decreases-loop-specs : goal.decreases-loop-specs
decreases-loop-specs l = length l.specs
