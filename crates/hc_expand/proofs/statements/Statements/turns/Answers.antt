use Rattle.std.proofs.Common.{◌-◌, ◌∙◌, [], ◌∷◌, ap, sym, subst, arith}
use Rattle.std.proofs.lemmas.List.{map-append}
use Rattle.hc_core.specs.Read.{statement, statements}
use Rattle.hc_core.specs.Typed.{kinds_of}
use Rattle.hc_expand.specs.Branches.{turned_read, IsTurn}
use Rattle.hc_scope.specs.Expansion.{Yields}
use Rattle.hc_expand.specs.Forms.{parts_read}
use Rattle.hc_scope.specs.Nodes.{nodes}
use Rattle.hc_scope.specs.Reading.{context_of}
use Rattle.hc_scope.specs.Statement as spec
use Rattle.hc_expand.proofs.Bodies.{behind, goes_on, ends_here, refused_here, over}
use Rattle.hc_expand.proofs.Kept.{grown_statements}
use Rattle.hc_expand.proofs.Listed.{one_more_part}
use Rattle.hc_scope.proofs.Longer.{grows_on}
use Rattle.hc_expand.proofs.statements.Statements.turns.Goals as goal

pub returns-in-Err-clause-answers : goal.returns-in-Err-clause-answers
returns-in-Err-clause-answers g c =
    let a = c.args in
    refused_here turned_read parts_read c.turn.most (nodes a.self.now.room) (context_of a.scope.now a.calls) a.place a.x.now a.condition.now a.step.now a.body.now c.turn.v (parts_read c.turn.done)
    c.turn.state c.turn-in-turn.new.state c.turn-in-turn.new.state _ c.in-Err.e (let t = c.turn-test.true in omega arith) c.turn.invariant.along c.in-Err.ensures.answers

pub returns-in-None-clause-answers : goal.returns-in-None-clause-answers
returns-in-None-clause-answers g c =
    let a = c.args in
    c.turn.invariant.along ∙ ends_here c.turn.most (nodes a.self.now.room) (context_of a.scope.now a.calls) a.place a.x.now a.condition.now a.step.now a.body.now c.turn.v (parts_read c.turn.done)
    c.turn.state c.turn-in-turn.new.state (let t = c.turn-test.true in omega arith) (c.in-Ok.ensures.answers ∙ ap (λ f. Yields (turned_read f) c.turn-in-turn.new.state) c.in-None.is)

pub turn-preserved : goal.turn-preserved
turn-preserved g c =
    let a = c.args in
    let b = statement c.in-Some.turned.body in
    let s = c.turn-in-turn.new.state in
    let step = goes_on c.turn.most (nodes a.self.now.room) (context_of a.scope.now a.calls) a.place a.x.now a.condition.now a.step.now a.body.now c.turn.v (parts_read c.turn.done) b c.in-Some.turned.next
    c.turn.state s (let t = c.turn-test.true in omega arith) (c.in-Ok.ensures.answers ∙ ap (λ f. Yields (turned_read f) s) c.in-Some.is) in
    let list = ap parts_read c.in-Ok-push.ensures.ok ∙ map-append statement c.turn.done (c.in-Some.turned.body ∷ []) in
    record {
      along = c.turn.invariant.along ∙ step ∙ ap (λ l. behind l (spec.turns (c.turn.most - 1) (nodes a.self.now.room) (context_of a.scope.now a.calls) a.place a.x.now a.condition.now a.step.now a.body.now c.in-Some.turned.next s)) (sym list);
      typed = one_more_part _ _ _ _ _ c.in-Ok.ensures.grows c.turn.invariant.typed (subst (λ f. IsTurn (kinds_of s.objects) f) c.in-Some.is c.in-Ok.ensures.typed) c.in-Ok-push.ensures.ok;
      grows = grows_on _ _ _ c.turn.invariant.grows c.in-Ok.ensures.grows;
    }

pub returns-clause-answers : goal.returns-clause-answers
returns-clause-answers g c =
    let a = c.args in
    over parts_read c.turn.most (nodes a.self.now.room) (context_of a.scope.now a.calls) a.place a.x.now a.condition.now a.step.now a.body.now c.turn.v (parts_read c.turn.done)
    c.turn.state c.turn.state _ c.broken.result c.turn-test.false c.turn.invariant.along c.broken.ensures

pub returns-in-None-clause-typed : goal.returns-in-None-clause-typed
returns-in-None-clause-typed g c = grown_statements _ _ (statements c.turn.done) c.in-Ok.ensures.grows c.turn.invariant.typed
