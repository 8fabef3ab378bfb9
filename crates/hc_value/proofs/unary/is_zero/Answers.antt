use Rattle.std.proofs.Common.{length}
use Rattle.std.proofs.lemmas.Result.{IfOk-weaker}
use Rattle.hc_meaning.specs.Value.{holds}
use Rattle.hc_bits.specs.Held.{held}
use Rattle.hc_value.proofs.OneBit.{turned_made}
use Rattle.hc_value.proofs.unary.is_zero.Goals as goal

pub returns-clause-circuit : goal.returns-clause-circuit
returns-clause-circuit c =
    IfOk-weaker c.invert.result _ _ (λ z made.
    turned_made (length c.args.x.now) c.args.x.now c.args.b.now c.truth.new.b c.invert.new.b c.in_ok-some.some z (λ v s. holds (held s v c.args.x.now))
    c.in_ok-some.ensures.width c.in_ok-some.ensures.circuit made) c.invert.ensures.circuit
