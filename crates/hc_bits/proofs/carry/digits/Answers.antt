use Rattle.std.proofs.Common.{arith, ap, ◌∙◌, ◌∷◌, get_or}
use Rattle.std.proofs.lemmas.Grind.{common_steps}
use Rattle.std.proofs.lemmas.Result.{IfOk-weaker}
use Rattle.hc_bits.proofs.Rows.{digits_made}
use Rattle.hc_bits.proofs.carry.digits.Goals as goal

pub returns-clause-circuit : goal.returns-clause-circuit
returns-clause-circuit c = IfOk-weaker c.above.result _ _ (λ z is. digits_made c.args.b.now c.each.new.b c.args.s.now _ c.args.c.now c.in_ok-changed.changed z (grind (arith, common_steps)) c.requires.width (is ∙ ap (λ l. get_or c.args.s.now 0 0 ∷ l) c.as_slice.ensures) c.requires.own c.in_ok-changed.ensures.circuit) c.above.ensures
