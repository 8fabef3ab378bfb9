use Rattle.std.proofs.Common.{◌≡◌}
use Rattle.hc_core.specs.Read.{statements}
use Rattle.hc_core.specs.Sound.{AllTyped}
use Rattle.hc_core.specs.Typed.{kinds_of}
use Rattle.hc_expand.specs.Forms.{parts_read}
use Rattle.hc_scope.specs.Nodes.{nodes}
use Rattle.hc_scope.specs.Reading.{context_of}
use Rattle.hc_scope.specs.Sound.{Grows}
use Rattle.hc_scope.specs.Statement.{turns}
use Rattle.hc_expand.proofs.Bodies.{behind}
use Rattle.hc_expand.proofs.statements.Statements.turns.Given as goal

-- the bodies so far, with those of the turns that follow behind, are those of all turns
abbrev pub invariant-turn : goal.invariant-turn
invariant-turn g l = record {
  along : turns 1000001 (nodes l.self.room) (context_of l.scope l.calls) l.place l.x l.condition l.step l.body l.fn.first l.fn.state
      ≡ behind (parts_read l.done) (turns l.most (nodes l.self.room) (context_of l.scope l.calls) l.place l.x l.condition l.step l.body l.v l.state);
  typed : AllTyped (kinds_of l.state.objects) (statements l.done);
  grows : Grows l.fn.state.objects l.state.objects;
}

abbrev pub decreases-turn : goal.decreases-turn
decreases-turn g l = l.most
