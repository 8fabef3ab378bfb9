use Rattle.std.proofs.Common.{arith, ap, ◌∙◌, ◌∷◌, get_or}
use Rattle.std.proofs.lemmas.Grind.{common_steps}
use Rattle.std.proofs.lemmas.Result.{IfOk-weaker}
use Rattle.hc_bits.proofs.Rows.{passing_made}
use Rattle.hc_bits.proofs.carry.passing.Goals as goal

pub returns-clause-circuit : goal.returns-clause-circuit
returns-clause-circuit c = IfOk-weaker c.above.result _ _ (λ z is. passing_made c.args.b.now c.each.new.b c.args.s.now _ c.in_ok-turned.turned z (grind (arith, common_steps)) c.requires.some (is ∙ ap (λ l. get_or c.args.s.now 0 0 ∷ l) c.as_slice.ensures) c.requires.own c.in_ok-turned.ensures.circuit) c.above.ensures
