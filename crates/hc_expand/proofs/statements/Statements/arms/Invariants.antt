use Rattle.std.proofs.Common.{length, map}
use Rattle.hc_core.specs.Read.{arms}
use Rattle.hc_core.specs.Sound.{ArmsTyped}
use Rattle.hc_core.specs.Typed.{kinds_of}
use Rattle.hc_expand.specs.Branches.{arm_read}
use Rattle.hc_scope.specs.Nodes.{nodes}
use Rattle.hc_scope.specs.Reading.{context_of}
use Rattle.hc_scope.specs.Sound.{Grows}
use Rattle.hc_expand.proofs.Each.{Along}
use Rattle.hc_expand.proofs.statements.Statements.arms.Given as goal

-- the arms so far, with those of the rest behind, are those of the whole list
abbrev pub invariant-each : goal.invariant-each
invariant-each g l = record {
  along : Along ((nodes l.self.room).arm (context_of l.scope l.calls) l.of.width l.of.signed) l.fn.all l.fn.state (map arm_read l.done) l.rest l.state;
  typed : ArmsTyped (kinds_of l.state.objects) l.of.width l.of.signed (arms l.done);
  grows : Grows l.fn.state.objects l.state.objects;
}

abbrev pub decreases-each : goal.decreases-each
decreases-each g l = length l.rest
