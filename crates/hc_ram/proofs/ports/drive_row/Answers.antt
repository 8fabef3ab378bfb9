use Rattle.std.proofs.Common.{List, ℕ, get_or, ap, arith}
use Rattle.hc_ram.proofs.Driven.{Driven-none, Driven-more, Driven-open, Driven-all, Driven-bits}
use Rattle.hc_ram.proofs.ports.drive_row.Goals as goal

pub loop-i-init : goal.loop-i-init
loop-i-init c = Driven-none c.args.first c.args.sources.now c.args.b.now

pub drive-requires-clause-wire : goal.drive-requires-clause-wire
drive-requires-clause-wire c =
    Driven-open c.args.first c.loop-i.i _ c.args.sources.now c.args.b.now c.loop-i.b (omega arith) (omega arith) c.loop-i.invariant c.requires.undriven

pub loop-i-preserved : goal.loop-i-preserved
loop-i-preserved c =
    Driven-more c.args.first c.args.sources.now c.loop-i.i _ _ c.args.b.now c.loop-i.b c.drive.new.self (omega arith) (omega arith) (ap (λ (l : List ℕ). get_or l c.loop-i.i 0) c.as_slice.ensures)
    c.loop-i.invariant c.drive.ensures.driven c.drive.ensures.earlier c.drive.ensures.value

pub returns-clause-driven : goal.returns-clause-driven
returns-clause-driven c = Driven-all c.args.first c.loop-i.i c.args.sources.now c.args.b.now c.loop-i.b (omega arith) c.loop-i.invariant

pub returns-clause-value : goal.returns-clause-value
returns-clause-value c = Driven-bits c.args.first c.loop-i.i c.args.sources.now c.args.b.now c.loop-i.b (omega arith) c.loop-i.invariant
