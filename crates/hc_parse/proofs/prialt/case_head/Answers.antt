use Rattle.std.proofs.Common.{arith}
use Rattle.hc_grammar.specs.Walk as w
use Rattle.hc_parse.proofs.WalksStatement as more
use Rattle.hc_parse.proofs.prialt.case_head.Goals as goal

pub returns-in-Err : goal.returns-in-Err
returns-in-Err c = λ x begun row gives walk. w.halted walk c.name.new.c c.in-Err.halt c.in-Err.ensures

pub returns-in-Err-offer_before : goal.returns-in-Err-offer_before
returns-in-Err-offer_before c = λ x begun row gives walk. c.in-Err-offer_before.ensures _ _ _ _ (w.form_read walk c.in-Ok.ensures.0 c.in-Ok.ensures.1)

pub returns-in-Ok-offer_before : goal.returns-in-Ok-offer_before
returns-in-Ok-offer_before c = let t1 = w.Reads-shorter c.in-Ok.ensures.0 in let t2 = c.in-Ok-offer_before.ensures.1 in
    more.passes_made _ _ c.args.c.now c.offer_before.new.c _ ((λ x begun row gives walk. c.in-Ok-offer_before.ensures.0 _ _ _ _ (w.form_read walk c.in-Ok.ensures.0 c.in-Ok.ensures.1)), omega arith) c.head_of.result c.head_of.ensures
