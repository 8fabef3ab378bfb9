use Rattle.std.proofs.lemmas.Result.{IfOk-weaker}
use Rattle.hc_value.proofs.OneBit.{either_made}
use Rattle.hc_value.proofs.logic.either.Goals as goal

pub returns-clause-circuit : goal.returns-clause-circuit
returns-clause-circuit c =
    IfOk-weaker c.bor.result _ _ (λ z made.
    either_made c.args.b.now c.truth.new.b c.truth-2.new.b c.bor.new.b c.args.x.now c.args.y.now c.in_ok-first.first c.in_ok-second.second z
    c.in_ok-first.ensures.width c.in_ok-first.ensures.circuit c.in_ok-second.ensures.circuit made) c.bor.ensures.circuit
