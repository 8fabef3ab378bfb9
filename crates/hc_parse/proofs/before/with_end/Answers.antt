use Rattle.hc_lex.specs.declared.mark.Mark.TheVariants as m
use Rattle.hc_grammar.specs.declared.kind.Kind.TheVariants as kinds
use Rattle.hc_grammar.specs.Form as f
use Rattle.hc_parse.proofs.WalksItem.{before_halted, before_refused, before_read}
use Rattle.hc_parse.proofs.before.with_end.Goals as goal

pub returns-in-Err : goal.returns-in-Err
returns-in-Err c = before_halted f.with (kinds.Mark m.Semicolon) c.args.c.now c.with_list.new.c c.in-Err.halt c.in-Err.ensures

pub returns-in-Ok-expect : goal.returns-in-Ok-expect
returns-in-Ok-expect c = before_read c.in-Ok.ensures.0 c.in-Ok.ensures.1 c.expect.new.self c.in-Ok-expect.ensures

pub returns-in-Err-expect : goal.returns-in-Err-expect
returns-in-Err-expect c = before_refused f.with (kinds.Mark m.Semicolon) c.in-Ok.ensures.0 c.in-Ok.ensures.1 c.expect.new.self c.in-Err-expect.halt c.in-Err-expect.ensures
