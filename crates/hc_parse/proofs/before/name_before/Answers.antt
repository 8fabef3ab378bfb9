use Rattle.hc_grammar.specs.Form as f
use Rattle.hc_parse.proofs.WalksItem.{before_halted, before_refused, before_read}
use Rattle.hc_parse.proofs.before.name_before.Goals as goal

pub returns-in-Err : goal.returns-in-Err
returns-in-Err c = before_halted f.name c.args.kind c.args.c.now c.name.new.c c.in-Err.halt c.in-Err.ensures

pub returns-in-Ok-expect : goal.returns-in-Ok-expect
returns-in-Ok-expect c = before_read c.in-Ok.ensures.0 c.in-Ok.ensures.1 c.expect.new.self c.in-Ok-expect.ensures

pub returns-in-Err-expect : goal.returns-in-Err-expect
returns-in-Err-expect c = before_refused f.name c.args.kind c.in-Ok.ensures.0 c.in-Ok.ensures.1 c.expect.new.self c.in-Err-expect.halt c.in-Err-expect.ensures
