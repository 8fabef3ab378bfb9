use Rattle.std.proofs.Common.{◌≡◌, [], length}
use Rattle.std.specs.List.{All}
use Rattle.hc_core.specs.Sound.{HasType}
use Rattle.hc_scope.specs.Nodes.{nodes}
use Rattle.hc_scope.specs.Declaration as spec
use Rattle.hc_scope.specs.Lists.{behind}
use Rattle.hc_scope.specs.Reading.{context_of}
use Rattle.hc_scope.specs.Types.{type_read}
use Rattle.hc_evaluate.proofs.first_values.initial_values.Given as goal

-- the values so far, with those of the rest behind, are those of the whole list
abbrev pub invariant-loop-values : goal.invariant-loop-values
invariant-loop-values l = record {
  answers : let one = spec.initial (nodes l.room) (context_of l.scope l.calls) (type_read l.t) in
      behind one [] l.fn.values l.fn.state ≡ behind one l.numbers l.values l.state;
  typed : All (HasType l.t.width l.t.signed) l.numbers;
  objects : l.state.objects ≡ l.fn.state.objects;
}

abbrev pub decreases-loop-values : goal.decreases-loop-values
decreases-loop-values l = length l.values
