use Rattle.std.proofs.Common.{List, ℕ, get_or, length, ap, arith}
use Rattle.hc_store.proofs.Added.{is_index, write_room, write_added}
use Rattle.hc_store.proofs.lines.lines_of.Goals as goal

pub add_write-requires-clause-room : goal.add_write-requires-clause-room
add_write-requires-clause-room c =
    let index = is_index (length c.args.b.now.nodes) c.args.width c.args.indexes.now c.loop-write.write c.index-indexes-write.result (omega arith) c.index-indexes-write.is c.requires.indexes in
    write_room c.args.count c.args.enables.now c.index-indexes-write.result c.args.indexes.now c.loop-write.write c.args.b.now c.loop-write.b c.loop-write.lines.items
    (omega arith) index.0 index.2 c.loop-write.invariant c.requires.room

pub loop-write-preserved : goal.loop-write-preserved
loop-write-preserved c =
    let index = is_index (length c.args.b.now.nodes) c.args.width c.args.indexes.now c.loop-write.write c.index-indexes-write.result (omega arith) c.index-indexes-write.is c.requires.indexes in
    write_added c.args.count c.args.enables.now c.index-indexes-write.result c.args.indexes.now c.loop-write.write _ c.args.b.now c.loop-write.b c.add_write.new.b
    c.loop-write.lines.items c.add_write.new.lines.items (omega arith) (omega arith)
    (ap (λ (l : List ℕ). get_or l c.loop-write.write 0) c.as_slice.ensures) index.0 c.requires.enables index.2 c.loop-write.invariant c.in_ok-add_write.ensures
