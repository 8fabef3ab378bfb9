use Rattle.std.proofs.Common.{refl}
use Rattle.hc_grammar.specs.Walk.{start, mark_expected, mark_passed, form_read, finished_to, refused_mark, halted}
use Rattle.hc_parse.proofs.WalksItem.{both_read, both_halted}
use Rattle.hc_parse.proofs.RowsItem as row
use Rattle.hc_parse.proofs.interface.bus_out.Goals as goal

pub returns-in-Err : goal.returns-in-Err
returns-in-Err c =
    let w0 = mark_passed (start c.args.c.now (row.bus_out_row c.args.c.now c.requires)) c.take.new.self c.requires c.take.ensures.end c.take.ensures.token in
    refused_mark w0 c.expect.new.self c.in-Err.halt c.in-Err.ensures

pub returns-in-Err-expect : goal.returns-in-Err-expect
returns-in-Err-expect c =
    let w0 = mark_passed (start c.args.c.now (row.bus_out_row c.args.c.now c.requires)) c.take.new.self c.requires c.take.ensures.end c.take.ensures.token in
    let w1 = mark_expected w0 c.expect.new.self c.in-Ok.ensures in
    refused_mark w1 c.expect-2.new.self c.in-Err-expect.halt c.in-Err-expect.ensures

pub returns-in-Err-name_before : goal.returns-in-Err-name_before
returns-in-Err-name_before c =
    let w0 = mark_passed (start c.args.c.now (row.bus_out_row c.args.c.now c.requires)) c.take.new.self c.requires c.take.ensures.end c.take.ensures.token in
    let w1 = mark_expected w0 c.expect.new.self c.in-Ok.ensures in
    let w2 = mark_expected w1 c.expect-2.new.self c.in-Ok-expect.ensures in
    both_halted w2 c.name_before.new.c c.in-Err-name_before.halt c.in-Err-name_before.ensures

pub returns-in-Err-type_of : goal.returns-in-Err-type_of
returns-in-Err-type_of c =
    let w0 = mark_passed (start c.args.c.now (row.bus_out_row c.args.c.now c.requires)) c.take.new.self c.requires c.take.ensures.end c.take.ensures.token in
    let w1 = mark_expected w0 c.expect.new.self c.in-Ok.ensures in
    let w2 = mark_expected w1 c.expect-2.new.self c.in-Ok-expect.ensures in
    let w3 = both_read w2 c.name_before.new.c c.in-Ok-name_before.ensures in
    halted w3 c.type_of.new.c c.in-Err-type_of.halt c.in-Err-type_of.ensures

pub returns-in-Err-name_before-2 : goal.returns-in-Err-name_before-2
returns-in-Err-name_before-2 c =
    let w0 = mark_passed (start c.args.c.now (row.bus_out_row c.args.c.now c.requires)) c.take.new.self c.requires c.take.ensures.end c.take.ensures.token in
    let w1 = mark_expected w0 c.expect.new.self c.in-Ok.ensures in
    let w2 = mark_expected w1 c.expect-2.new.self c.in-Ok-expect.ensures in
    let w3 = both_read w2 c.name_before.new.c c.in-Ok-name_before.ensures in
    let w4 = form_read w3 c.in-Ok-type_of.ensures.0 c.in-Ok-type_of.ensures.1 in
    both_halted w4 c.name_before-2.new.c c.in-Err-name_before-2.halt c.in-Err-name_before-2.ensures

pub returns-in-Err-expr_before : goal.returns-in-Err-expr_before
returns-in-Err-expr_before c =
    let w0 = mark_passed (start c.args.c.now (row.bus_out_row c.args.c.now c.requires)) c.take.new.self c.requires c.take.ensures.end c.take.ensures.token in
    let w1 = mark_expected w0 c.expect.new.self c.in-Ok.ensures in
    let w2 = mark_expected w1 c.expect-2.new.self c.in-Ok-expect.ensures in
    let w3 = both_read w2 c.name_before.new.c c.in-Ok-name_before.ensures in
    let w4 = form_read w3 c.in-Ok-type_of.ensures.0 c.in-Ok-type_of.ensures.1 in
    let w5 = both_read w4 c.name_before-2.new.c c.in-Ok-name_before-2.ensures in
    both_halted w5 c.expr_before.new.c c.in-Err-expr_before.halt c.in-Err-expr_before.ensures

pub returns-in-Err-with_end : goal.returns-in-Err-with_end
returns-in-Err-with_end c =
    let w0 = mark_passed (start c.args.c.now (row.bus_out_row c.args.c.now c.requires)) c.take.new.self c.requires c.take.ensures.end c.take.ensures.token in
    let w1 = mark_expected w0 c.expect.new.self c.in-Ok.ensures in
    let w2 = mark_expected w1 c.expect-2.new.self c.in-Ok-expect.ensures in
    let w3 = both_read w2 c.name_before.new.c c.in-Ok-name_before.ensures in
    let w4 = form_read w3 c.in-Ok-type_of.ensures.0 c.in-Ok-type_of.ensures.1 in
    let w5 = both_read w4 c.name_before-2.new.c c.in-Ok-name_before-2.ensures in
    let w6 = both_read w5 c.expr_before.new.c c.in-Ok-expr_before.ensures in
    both_halted w6 c.with_end.new.c c.in-Err-with_end.halt c.in-Err-with_end.ensures

pub returns-in-Ok-with_end : goal.returns-in-Ok-with_end
returns-in-Ok-with_end c =
    let w0 = mark_passed (start c.args.c.now (row.bus_out_row c.args.c.now c.requires)) c.take.new.self c.requires c.take.ensures.end c.take.ensures.token in
    let w1 = mark_expected w0 c.expect.new.self c.in-Ok.ensures in
    let w2 = mark_expected w1 c.expect-2.new.self c.in-Ok-expect.ensures in
    let w3 = both_read w2 c.name_before.new.c c.in-Ok-name_before.ensures in
    let w4 = form_read w3 c.in-Ok-type_of.ensures.0 c.in-Ok-type_of.ensures.1 in
    let w5 = both_read w4 c.name_before-2.new.c c.in-Ok-name_before-2.ensures in
    let w6 = both_read w5 c.expr_before.new.c c.in-Ok-expr_before.ensures in
    let w7 = both_read w6 c.with_end.new.c c.in-Ok-with_end.ensures in
    finished_to w7 refl
