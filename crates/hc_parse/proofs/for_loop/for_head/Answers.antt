use Rattle.std.proofs.Common.{arith}
use Rattle.hc_lex.specs.declared.mark.Mark.TheVariants as m
use Rattle.hc_grammar.specs.declared.kind.Kind.TheVariants as kinds
use Rattle.hc_grammar.specs.Walk as w
use Rattle.hc_parse.proofs.WalksStatement as more
use Rattle.hc_parse.proofs.for_loop.for_head.Goals as goal

pub returns-in-Err : goal.returns-in-Err
returns-in-Err c = λ x begun row gives walk. w.refused_mark walk c.expect.new.self c.in-Err.halt c.in-Err.ensures

pub returns-in-Err-opt_simple_before : goal.returns-in-Err-opt_simple_before
returns-in-Err-opt_simple_before c = λ x begun row gives walk. c.in-Err-opt_simple_before.ensures _ _ _ _ (w.mark_expected walk c.expect.new.self c.in-Ok.ensures)

pub returns-in-Err-for_rest : goal.returns-in-Err-for_rest
returns-in-Err-for_rest c = λ x begun row gives walk. c.in-Err-for_rest.ensures _ _ _ _ (c.in-Ok-opt_simple_before.ensures.0 _ _ _ _ (w.mark_expected walk c.expect.new.self c.in-Ok.ensures))

pub returns-in-Ok-for_rest : goal.returns-in-Ok-for_rest
returns-in-Ok-for_rest c = let one = more.passed_shorter c.args.c.now c.expect.new.self (kinds.Mark m.ParenOpen) c.in-Ok.ensures in let two = c.in-Ok-opt_simple_before.ensures.1 in let less = c.in-Ok-for_rest.ensures.1 in
    more.passes_made _ _ c.args.c.now c.for_rest.new.c _ ((λ x begun row gives walk. c.in-Ok-for_rest.ensures.0 _ _ _ _ (c.in-Ok-opt_simple_before.ensures.0 _ _ _ _ (w.mark_expected walk c.expect.new.self c.in-Ok.ensures))), omega arith) c.head_of.result c.head_of.ensures
