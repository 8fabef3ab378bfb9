use Rattle.std.proofs.lemmas.Result.{IfOk-weaker}
use Rattle.hc_value.proofs.OneBit.{at_least_made}
use Rattle.hc_value.proofs.compare.at_least.Goals as goal

pub returns-clause-circuit : goal.returns-clause-circuit
returns-clause-circuit c =
    IfOk-weaker c.invert.result _ _ (λ z made.
    at_least_made c.args.b.now c.less.new.b c.invert.new.b c.args.x.now c.args.y.now c.in_ok-below.below z c.args.signed
    c.in_ok-below.ensures.width c.in_ok-below.ensures.circuit made) c.invert.ensures.circuit
