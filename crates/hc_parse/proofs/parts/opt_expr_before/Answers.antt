use Rattle.std.proofs.Common.{arith}
use Rattle.hc_grammar.specs.Walk as w
use Rattle.hc_parse.proofs.WalksStatement as more
use Rattle.hc_parse.proofs.parts.opt_expr_before.Goals as goal

pub returns-in-Err : goal.returns-in-Err
returns-in-Err c = λ x begun row gives walk. w.halted walk c.opt_expr.new.c c.in-Err.halt c.in-Err.ensures

pub returns-in-Err-expect : goal.returns-in-Err-expect
returns-in-Err-expect c = λ x begun row gives walk. w.refused_mark (w.form_read walk c.in-Ok.ensures.0 c.in-Ok.ensures.1) c.expect.new.self c.in-Err-expect.halt c.in-Err-expect.ensures

pub returns-in-Ok-expect : goal.returns-in-Ok-expect
returns-in-Ok-expect c = let less = w.Reads-shorter c.in-Ok.ensures.0 in let one = more.passed_shorter c.opt_expr.new.c c.expect.new.self c.args.kind c.in-Ok-expect.ensures in
    (λ x begun row gives walk. w.mark_expected (w.form_read walk c.in-Ok.ensures.0 c.in-Ok.ensures.1) c.expect.new.self c.in-Ok-expect.ensures, omega arith)
