use Rattle.std.proofs.Common.{sym, subst, ◌∙◌}
use Rattle.hc_grammar.specs.Walk.{start, form_read, halted}
use Rattle.hc_parse.proofs.Ends.{item_takes}
use Rattle.hc_parse.proofs.RowsItem as row
use Rattle.hc_parse.proofs.WalksItem.{Went, Went-more, Went-done, Went-halted}
use Rattle.hc_parse.proofs.source.items.Goals as goal

pub returns-in-Err : goal.returns-in-Err
returns-in-Err c =
    let some = row.items_row c.each.c (λ none. c.each-test.true (c.len.ensures ∙ none)) in
    Went-halted c.each.invariant c.item.new.c c.in-Err.halt (halted (start c.each.c some) c.item.new.c c.in-Err.halt c.in-Err.ensures)

pub each-smaller : goal.each-smaller
each-smaller c = item_takes c.reads_where.ensures c.in-Ok.next c.each.c.rest c.item.new.c.rest c.in-Ok.ensures.0

pub each-preserved : goal.each-preserved
each-preserved c =
    let some = row.items_row c.each.c (λ none. c.each-test.true (c.len.ensures ∙ none)) in
    subst (λ l. Went c.args.c.now c.args.list.now c.item.new.c l) (sym c.in-Ok-push.ensures.ok)
    (Went-more c.each.invariant c.item.new.c c.in-Ok.next (form_read (start c.each.c some) c.in-Ok.ensures.0 c.in-Ok.ensures.1))

pub returns : goal.returns
returns c = Went-done c.each.invariant (start c.each.c (row.no_items_row c.each.c (sym c.len.ensures ∙ c.each-test.false)))
