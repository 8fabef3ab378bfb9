use Rattle.std.proofs.Common.{arith}
use Rattle.hc_parse.proofs.WalksStatement as more
use Rattle.hc_parse.proofs.for_loop.for_rest.Goals as goal

pub returns-in-Err : goal.returns-in-Err
returns-in-Err c = λ x begun row gives walk. c.in-Err.ensures _ _ _ _ walk

pub returns-in-Err-opt_simple_before : goal.returns-in-Err-opt_simple_before
returns-in-Err-opt_simple_before c = λ x begun row gives walk. c.in-Err-opt_simple_before.ensures _ _ _ _ (c.in-Ok.ensures.0 _ _ _ _ walk)

pub returns-in-Ok-opt_simple_before : goal.returns-in-Ok-opt_simple_before
returns-in-Ok-opt_simple_before c = let one = c.in-Ok.ensures.1 in let less = c.in-Ok-opt_simple_before.ensures.1 in
    more.passes_made _ _ c.args.c.now c.opt_simple_before.new.c _ ((λ x begun row gives walk. c.in-Ok-opt_simple_before.ensures.0 _ _ _ _ (c.in-Ok.ensures.0 _ _ _ _ walk)), omega arith) c.rest_of.result c.rest_of.ensures
