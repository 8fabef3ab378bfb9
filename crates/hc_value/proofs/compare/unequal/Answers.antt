use Rattle.std.proofs.Common.{◌*◌, ◌++◌, length}
use Rattle.std.proofs.lemmas.Result.{IfOk-weaker}
use Rattle.hc_num.specs.Compare.{is_equal}
use Rattle.hc_bits.specs.Held.{held}
use Rattle.hc_value.proofs.OneBit.{turned_made}
use Rattle.hc_value.proofs.compare.unequal.Goals as goal

pub returns-clause-circuit : goal.returns-clause-circuit
returns-clause-circuit c =
    IfOk-weaker c.invert.result _ _ (λ z made.
    turned_made (3 * length c.args.x.now) (c.args.x.now ++ c.args.y.now) c.args.b.now c.equal.new.b c.invert.new.b c.in_ok-same.same z
    (λ v s. is_equal (held s v c.args.x.now) (held s v c.args.y.now)) c.in_ok-same.ensures.width c.in_ok-same.ensures.circuit made) c.invert.ensures.circuit
