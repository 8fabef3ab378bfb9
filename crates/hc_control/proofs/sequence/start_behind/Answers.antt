use Rattle.std.proofs.Common.{inr}
use Rattle.std.proofs.lemmas.Result.{IfOk-weaker}
use Rattle.hc_control.proofs.Ordered.{behind_made}
use Rattle.hc_control.proofs.sequence.start_behind.Goals as goal

pub returns-clause-circuit : goal.returns-clause-circuit
returns-clause-circuit c =
    IfOk-weaker c.or.result _ _
    (λ z joined. behind_made c.args.start c.args.ends.pass c.args.ends.finish c.in_ok-through.through z c.args.b.now c.and.new.b c.or.new.b c.in_ok-through.ensures.circuit joined)
    c.or.ensures.circuit

pub returns-clause-reach : goal.returns-clause-reach
returns-clause-reach c = IfOk-weaker c.or.result _ _ (λ z first never. first (c.in_ok-through.ensures.never (inr never))) c.or.ensures.first
