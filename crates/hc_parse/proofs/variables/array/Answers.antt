use Rattle.std.proofs.Common.{refl}
use Rattle.hc_grammar.specs.Declaration.{allowed}
use Rattle.hc_grammar.specs.Walk as w
use Rattle.hc_parse.specs.Initials.{initial}
use Rattle.hc_parse.proofs.RowsDeclaration as row
use Rattle.hc_parse.proofs.variables.array.Goals as goal

pub returns-in-Err : goal.returns-in-Err
returns-in-Err c = w.halted (w.mark_passed (w.start c.args.c.now (row.array c.args.init (allowed c.args.init) refl c.args.c.now c.requires)) c.take.new.self (c.requires) c.take.ensures.end c.take.ensures.token) c.expr.new.c c.in-Err.halt c.in-Err.ensures

pub returns-in-Err-expect : goal.returns-in-Err-expect
returns-in-Err-expect c = w.refused_mark (w.form_read (w.mark_passed (w.start c.args.c.now (row.array c.args.init (allowed c.args.init) refl c.args.c.now c.requires)) c.take.new.self (c.requires) c.take.ensures.end c.take.ensures.token) c.in-Ok.ensures.0 c.in-Ok.ensures.1) c.expect.new.self c.in-Err-expect.halt c.in-Err-expect.ensures

pub returns-in-Err-mem_init : goal.returns-in-Err-mem_init
returns-in-Err-mem_init c = w.halted (w.mark_expected (w.form_read (w.mark_passed (w.start c.args.c.now (row.array c.args.init (initial c.allowed.result) c.allowed.ensures c.args.c.now c.requires)) c.take.new.self (c.requires) c.take.ensures.end c.take.ensures.token) c.in-Ok.ensures.0 c.in-Ok.ensures.1) c.expect.new.self c.in-Ok-expect.ensures) c.mem_init.new.c c.in-Err-mem_init.halt c.in-Err-mem_init.ensures

pub returns-in-Ok-mem_init : goal.returns-in-Ok-mem_init
returns-in-Ok-mem_init c = w.finished_to (w.form_read (w.mark_expected (w.form_read (w.mark_passed (w.start c.args.c.now (row.array c.args.init (initial c.allowed.result) c.allowed.ensures c.args.c.now c.requires)) c.take.new.self (c.requires) c.take.ensures.end c.take.ensures.token) c.in-Ok.ensures.0 c.in-Ok.ensures.1) c.expect.new.self c.in-Ok-expect.ensures) c.in-Ok-mem_init.ensures.0 c.in-Ok-mem_init.ensures.1) refl
