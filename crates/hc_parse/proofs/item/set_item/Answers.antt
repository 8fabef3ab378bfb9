use Rattle.hc_grammar.specs.Walk.{start, mark_passed}
use Rattle.hc_parse.proofs.WalksItem.{set_read}
use Rattle.hc_parse.proofs.RowsItem as row
use Rattle.hc_parse.proofs.item.set_item.Goals as goal

pub returns : goal.returns
returns c =
    set_read (mark_passed (start c.args.c.now (row.set_row c.args.c.now c.requires)) c.take.new.self c.requires c.take.ensures.end c.take.ensures.token)
    c.place-place.result c.place-place.ensures c.set_tail.new.c c.set_tail.result c.set_tail.ensures
