use Rattle.std.proofs.Common.{◌++◌, ap, ◌∙◌}
use Rattle.hc_tree.specs.declared.item.Tree.{Tree}
use Rattle.hc_grammar.specs.Walk.{start, form_read, finished, halted}
use Rattle.hc_parse.proofs.RowsItem as row
use Rattle.hc_parse.proofs.source.program.Goals as goal

pub returns-in-Ok : goal.returns-in-Ok
returns-in-Ok c =
    let t = c.in-Ok.ensures in
    finished (form_read (start c.args.c.now (row.program_row c.args.c.now)) t.1 t.3)
    (ap (λ l. let tree : Tree = record { items = l } in tree) (t.2 ∙ ap (λ l. l ++ t.0) c.new-list.ensures))

pub returns-in-Err : goal.returns-in-Err
returns-in-Err c = halted (start c.args.c.now (row.program_row c.args.c.now)) c.items.new.c c.in-Err.halt c.in-Err.ensures
