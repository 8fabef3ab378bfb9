use Rattle.std.proofs.Common.{arith}
use Rattle.hc_bits.proofs.Comparisons.{less_made}
use Rattle.hc_bits.proofs.less.less_unsigned.Goals as goal

pub returns-clause-circuit : goal.returns-clause-circuit
returns-clause-circuit c =
    rw (← c.as_slice-x.ensures, ← c.as_slice-y.ensures, c.in_ok-push.ensures.ok, c.new-z.ensures)
    (less_made c.args.b.now c.each.new.b c.each-2.new.b c.passing.new.b c.top_carry.new.b c.as_slice-x.result.now c.as_slice-y.result.now c.in_ok-s.s c.in_ok-g.g c.in_ok-p.p c.in_ok-borrow.borrow
    (grind arith) (grind arith) c.in_ok-s.ensures.width (rw (← c.as_slice.ensures) c.in_ok-g.ensures.width) c.in_ok-s.ensures.circuit
    (rw (← c.as_slice.ensures) c.in_ok-g.ensures.circuit) (rw (← c.as_slice-2.ensures) c.in_ok-p.ensures.circuit) (rw (← c.as_slice-3.ensures, ← c.as_slice-4.ensures) c.in_ok-borrow.ensures))
