use Rattle.std.proofs.Common.{sym, subst, arith}
use Rattle.hc_grammar.specs.Form as f
use Rattle.hc_parse.specs.Turn as turn
use Rattle.hc_parse.proofs.WalksStatement as more
use Rattle.hc_parse.proofs.TurnsStatement as turns
use Rattle.hc_parse.proofs.switch.labels.Goals as goal

pub each-init : goal.each-init
each-init c = subst (λ l. turn.GoesOn (f.arm_tail c.args.has_default.now) c.args.c.now (f.arm_tail c.args.has_default.now) (turn.with_labels l) c.args.c.now) (sym c.new-list.ensures) (more.on_here (f.arm_tail c.args.has_default.now) c.args.c.now)

pub each-smaller : goal.each-smaller
each-smaller c = let less = c.in-Ok.ensures.1 in omega arith

pub each-preserved : goal.each-preserved
each-preserved c = subst (λ l. turn.GoesOn (f.arm_tail c.args.has_default.now) c.args.c.now (f.arm_tail c.label.new.has_default) (turn.with_labels l) c.label.new.c) (sym c.in-Ok-push.ensures.ok) (more.on_same (more.on_on c.each.invariant c.in-Ok.ensures.0) (turns.labels_more c.each.list c.in-Ok.next))

pub returns : goal.returns
returns c = (c.each.invariant, sym c.each-test.ensures)

pub returns-in-Err : goal.returns-in-Err
returns-in-Err c = more.on_halted c.each.invariant c.label.new.c c.in-Err.halt c.in-Err.ensures
