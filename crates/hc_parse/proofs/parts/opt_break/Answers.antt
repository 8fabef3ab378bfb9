use Rattle.std.proofs.Common.{refl, arith}
use Rattle.hc_lex.specs.declared.mark.Mark.TheVariants as m
use Rattle.hc_grammar.specs.declared.kind.Kind.TheVariants as kinds
use Rattle.hc_grammar.specs.Walk as w
use Rattle.hc_parse.proofs.WalksStatement as more
use Rattle.hc_parse.proofs.parts.opt_break.Goals as goal

pub returns-then-not-is : goal.returns-then-not-is
returns-then-not-is c = (c.if-not-is.ensures.no refl, refl)

pub returns-in-Ok : goal.returns-in-Ok
returns-in-Ok c = let less = more.taken_shorter c.args.c.now c.take.new.self kinds.Break c.take.result (c.if-not-is.ensures.yes refl) c.take.ensures.end c.take.ensures.token in let one = more.passed_shorter c.take.new.self c.expect.new.self (kinds.Mark m.Semicolon) c.in-Ok.ensures in
    (c.if-not-is.ensures.yes refl, (λ x begun row gives walk. w.mark_expected (w.mark_passed walk c.take.new.self (c.if-not-is.ensures.yes refl) c.take.ensures.end c.take.ensures.token) c.expect.new.self c.in-Ok.ensures, omega arith))

pub returns-in-Err : goal.returns-in-Err
returns-in-Err c = (c.if-not-is.ensures.yes refl, λ x begun row gives walk. w.refused_mark (w.mark_passed walk c.take.new.self (c.if-not-is.ensures.yes refl) c.take.ensures.end c.take.ensures.token) c.expect.new.self c.in-Err.halt c.in-Err.ensures)
