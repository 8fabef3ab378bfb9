use Rattle.std.proofs.Common.{ap, ◌∙◌}
use Rattle.hc_tree.specs.declared.item.Item.TheVariants as item
use Rattle.hc_grammar.specs.Walk.{start, mark_passed, form_read, finished, halted}
use Rattle.hc_parse.proofs.RowsItem as row
use Rattle.hc_parse.proofs.item.interface_item.Goals as goal

pub returns-in-Ok : goal.returns-in-Ok
returns-in-Ok c =
    let t = c.in-Ok.ensures in
    finished (form_read (mark_passed (start c.args.c.now (row.interface_row c.args.c.now c.requires)) c.take.new.self c.requires c.take.ensures.end c.take.ensures.token) t.1 t.3)
    (ap (λ made. item.Interface made) (t.2 ∙ ap t.0 c.place-place.ensures))

pub returns-in-Err : goal.returns-in-Err
returns-in-Err c =
    halted (mark_passed (start c.args.c.now (row.interface_row c.args.c.now c.requires)) c.take.new.self c.requires c.take.ensures.end c.take.ensures.token)
    c.interface_tail.new.c c.in-Err.halt c.in-Err.ensures
