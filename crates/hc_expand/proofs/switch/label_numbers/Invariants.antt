use Rattle.std.proofs.Common.{◌≡◌, [], length}
use Rattle.std.specs.List.{All}
use Rattle.hc_core.specs.Sound.{HasType}
use Rattle.hc_scope.specs.Labelled.{labels_behind}
use Rattle.hc_scope.specs.Nodes.{nodes}
use Rattle.hc_scope.specs.Reading.{context_of}
use Rattle.hc_scope.specs.Types.{type_read}
use Rattle.hc_expand.proofs.switch.label_numbers.Given as goal

-- the numbers so far, with those of the rest behind, are those of all labels
abbrev pub invariant-loop-labels : goal.invariant-loop-labels
invariant-loop-labels l = record {
  answers : let c = context_of l.scope l.calls in
      labels_behind (nodes l.room) c (type_read l.t) [] l.fn.labels l.fn.state ≡ labels_behind (nodes l.room) c (type_read l.t) l.numbers l.labels l.state;
  typed : All (HasType l.t.width l.t.signed) l.numbers;
  objects : l.state.objects ≡ l.fn.state.objects;
}

abbrev pub decreases-loop-labels : goal.decreases-loop-labels
decreases-loop-labels l = length l.labels
