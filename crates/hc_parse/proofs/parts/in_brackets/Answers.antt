use Rattle.std.proofs.Common.{arith}
use Rattle.hc_lex.specs.declared.mark.Mark.TheVariants as m
use Rattle.hc_grammar.specs.declared.kind.Kind.TheVariants as kinds
use Rattle.hc_grammar.specs.Walk as w
use Rattle.hc_parse.proofs.WalksStatement as more
use Rattle.hc_parse.proofs.parts.in_brackets.Goals as goal

pub returns-in-Err : goal.returns-in-Err
returns-in-Err c = λ x begun row gives walk. w.refused_mark walk c.expect.new.self c.in-Err.halt c.in-Err.ensures

pub returns-in-Err-expr_before : goal.returns-in-Err-expr_before
returns-in-Err-expr_before c = λ x begun row gives walk. c.in-Err-expr_before.ensures _ _ _ _ (w.mark_expected walk c.expect.new.self c.in-Ok.ensures)

pub returns-in-Ok-expr_before : goal.returns-in-Ok-expr_before
returns-in-Ok-expr_before c = let one = more.passed_shorter c.args.c.now c.expect.new.self (kinds.Mark m.ParenOpen) c.in-Ok.ensures in let less = c.in-Ok-expr_before.ensures.1 in
    (λ x begun row gives walk. c.in-Ok-expr_before.ensures.0 _ _ _ _ (w.mark_expected walk c.expect.new.self c.in-Ok.ensures), omega arith)
