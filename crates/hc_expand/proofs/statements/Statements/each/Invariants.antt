use Rattle.std.proofs.Common.{length}
use Rattle.hc_core.specs.Read.{statements}
use Rattle.hc_core.specs.Sound.{AllTyped}
use Rattle.hc_core.specs.Typed.{kinds_of}
use Rattle.hc_expand.specs.Forms.{parts_read}
use Rattle.hc_scope.specs.Nodes.{nodes}
use Rattle.hc_scope.specs.Reading.{context_of}
use Rattle.hc_scope.specs.Sound.{Grows}
use Rattle.hc_expand.proofs.Each.{Along}
use Rattle.hc_expand.proofs.statements.Statements.each.Given as goal

-- the statements so far, with those of the rest behind, are those of the whole list
abbrev pub invariant-each : goal.invariant-each
invariant-each g l = record {
  along : Along ((nodes l.self.room).statement (context_of l.scope l.calls)) l.fn.all l.fn.state (parts_read l.done) l.rest l.state;
  typed : AllTyped (kinds_of l.state.objects) (statements l.done);
  grows : Grows l.fn.state.objects l.state.objects;
}

abbrev pub decreases-each : goal.decreases-each
decreases-each g l = length l.rest
