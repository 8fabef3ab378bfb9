use Rattle.std.proofs.Common.{arith}
use Rattle.std.proofs.lemmas.Grind.{common_steps}
use Rattle.std.proofs.lemmas.Result.{IfOk-weaker}
use Rattle.hc_bits.proofs.Prefixes.{sum_carries_made}
use Rattle.hc_bits.proofs.prefix.sum_carries.Goals as goal

pub returns-clause-circuit : goal.returns-clause-circuit
returns-clause-circuit c =
    IfOk-weaker c.prefix_carries.result _ _ (λ z made. sum_carries_made c.args.b.now c.each.new.b c.prefix_carries.new.b c.args.s.now c.args.x.now c.args.y.now _ c.in_ok-g.g z
    c.requires.width c.in_ok-g.ensures.width (grind (arith, common_steps)) c.in_ok-g.ensures.circuit (rw c.as_slice.ensures at made)) c.prefix_carries.ensures.circuit
