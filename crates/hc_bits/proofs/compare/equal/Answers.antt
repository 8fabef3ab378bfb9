use Rattle.std.proofs.lemmas.Result.{IfOk-weaker}
use Rattle.hc_bits.proofs.Equals.{equal_made}
use Rattle.hc_bits.proofs.compare.equal.Goals as goal

pub returns-in-Ok-truth-clause-circuit : goal.returns-in-Ok-truth-clause-circuit
returns-in-Ok-truth-clause-circuit c =
    IfOk-weaker c.invert.result _ _
    (λ z last. equal_made c.args.x.now c.args.y.now c.in-Ok.unequal c.in-Ok-truth.some z c.args.b.now c.bxor.new.b c.truth.new.b c.invert.new.b c.in-Ok.ensures.width c.in-Ok-truth.ensures.width c.requires.some c.in-Ok.ensures.circuit c.in-Ok-truth.ensures.circuit last)
    c.invert.ensures.circuit
