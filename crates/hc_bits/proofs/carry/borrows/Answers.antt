use Rattle.std.proofs.lemmas.Result.{IfOk-weaker}
use Rattle.hc_bits.proofs.Sums.{borrows_made}
use Rattle.hc_bits.proofs.carry.borrows.Goals as goal

pub returns-clause-circuit : goal.returns-clause-circuit
returns-clause-circuit c = IfOk-weaker c.carries.result _ _ (λ z made. borrows_made c.args.b.now c.each.new.b c.passing.new.b c.carries.new.b c.args.s.now c.args.y.now c.in_ok-g.g c.in_ok-p.p z c.in_ok-g.ensures.width c.in_ok-g.ensures.circuit c.in_ok-p.ensures.circuit (rw (← c.as_slice.ensures, ← c.as_slice-2.ensures) made)) c.carries.ensures.circuit
