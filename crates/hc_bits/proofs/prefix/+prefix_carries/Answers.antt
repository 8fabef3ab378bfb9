use Rattle.std.proofs.Common.{arith}
use Rattle.std.proofs.lemmas.Result.{IfOk-weaker}
use Rattle.hc_bits.proofs.Prefixes.{prefix_small, prefix_made}
use Rattle.hc_bits.proofs.prefix.+prefix_carries.Goals as goal

pub returns-then-g-lt2-clause-circuit : goal.returns-then-g-lt2-clause-circuit
returns-then-g-lt2-clause-circuit t c =
    IfOk-weaker c.from_slice.result _ _ (λ z is. prefix_small c.args.b.now c.args.g.now c.args.p.now z (omega arith) is c.requires.generates) c.from_slice.ensures

pub returns-clause-circuit : goal.returns-clause-circuit
returns-clause-circuit t c =
    IfOk-weaker c.spread.result _ _ (λ z made. prefix_made c.args.b.now c.paired.new.b c.upper_pass.new.b c.prefix_carries.new.b c.spread.new.b c.args.g.now c.args.p.now c.in_ok-high_g.high_g c.in_ok-high_p.high_p c.in_ok-c.c z
    c.in_ok-high_g.ensures.width c.in_ok-high_g.ensures.circuit c.in_ok-high_p.ensures.circuit (rw (← c.as_slice.ensures, ← c.as_slice-2.ensures) c.in_ok-c.ensures.circuit) (rw (← c.as_slice-3.ensures) made) c.requires.width) c.spread.ensures.circuit
