use Rattle.std.proofs.Common.{sym, subst, Err}
use Rattle.hc_core.specs.Read.{expression, target}
use Rattle.hc_scope.specs.Nodes.{nodes}
use Rattle.hc_scope.specs.Statement as spec
use Rattle.hc_scope.specs.Reading.{Answers}
use Rattle.hc_evaluate.specs.Targets.{index_read, destination_read}
use Rattle.hc_evaluate.proofs.Steps.{err_then}
use Rattle.hc_evaluate.proofs.writing.target_of.Goals as goal

pub returns-in-Err-clause-answers : goal.returns-in-Err-clause-answers
returns-in-Err-clause-answers c =
    subst (λ d. Answers target (spec.target_of (nodes c.args.room) c.args.calls (destination_read d) c.args.state.now) (Err c.in-Err.e) c.index_at.new.state)
    (sym c.in-Element.is)
    (err_then expression target (spec.index_at (nodes c.args.room) c.args.calls c.in-Element.k (index_read c.in-Element.i) c.args.state.now) _ c.in-Err.e _ _ (c.in-Err.ensures.answers))

pub returns-in-Err-index_at-clause-answers : goal.returns-in-Err-index_at-clause-answers
returns-in-Err-index_at-clause-answers c =
    subst (λ d. Answers target (spec.target_of (nodes c.args.room) c.args.calls (destination_read d) c.args.state.now) (Err c.in-Err-index_at.e) c.index_at-in-Word.new.state)
    (sym c.in-Word.is)
    (err_then expression target (spec.index_at (nodes c.args.room) c.args.calls c.in-Word.k (index_read c.in-Word.i) c.args.state.now) _ c.in-Err-index_at.e _ _ (c.in-Err-index_at.ensures.answers))
