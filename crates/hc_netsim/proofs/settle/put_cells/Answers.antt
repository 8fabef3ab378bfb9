use Rattle.std.proofs.Common.{◌∙◌, sym}
use Rattle.hc_netsim.proofs.Passes.{at_item}
use Rattle.hc_netsim.proofs.Walk.{gate_walks, ram_reads, ram_walks}
use Rattle.std.proofs.Common.{refl}
use Rattle.hc_netsim.proofs.settle.put_cells.Goals as goal

pub put_word-net-requires-clause-addr : goal.put_word-net-requires-clause-addr
put_word-net-requires-clause-addr c =
    let l = c.loop-cell in
    let at = at_item c.args.cells.now l.cell-index c.cell-item.result c.cell-item.result c.loop-cell-test.true c.cell-item.is refl in
    (ram_reads c.args.cells.now c.args.memories.now c.args.first l.cell-index l.ram l.net l.values _ c.cell-item.result c.index-memories-ram.result c.requires.earlier l.invariant at (sym c.gate_output.ensures ∙ c.in_default.is) c.index-memories-ram.is).0

pub put_word-net-requires-clause-nets : goal.put_word-net-requires-clause-nets
put_word-net-requires-clause-nets c =
    let l = c.loop-cell in
    let at = at_item c.args.cells.now l.cell-index c.cell-item.result c.cell-item.result c.loop-cell-test.true c.cell-item.is refl in
    (ram_reads c.args.cells.now c.args.memories.now c.args.first l.cell-index l.ram l.net l.values _ c.cell-item.result c.index-memories-ram.result c.requires.earlier l.invariant at (sym c.gate_output.ensures ∙ c.in_default.is) c.index-memories-ram.is).1

pub loop-cell-preserved : goal.loop-cell-preserved
loop-cell-preserved c =
    let l = c.loop-cell in
    let at = at_item c.args.cells.now l.cell-index c.cell-item.result c.cell-item.result c.loop-cell-test.true c.cell-item.is refl in
    gate_walks c.args.cells.now c.args.memories.now c.args.first l.cell-index l.ram l.net l.values _ c.cell-item.result c.in-Some.bit l.invariant at (sym c.gate_output.ensures ∙ c.in-Some.is)

pub loop-cell-preserved-in_default : goal.loop-cell-preserved-in_default
loop-cell-preserved-in_default c =
    let l = c.loop-cell in
    let at = at_item c.args.cells.now l.cell-index c.cell-item.result c.cell-item.result c.loop-cell-test.true c.cell-item.is refl in
    ram_walks c.args.cells.now c.args.memories.now c.args.first l.cell-index l.ram l.net c.put_word-net.result l.values c.put_word-net.new.values _ c.cell-item.result c.index-memories-ram.result l.invariant at (sym c.gate_output.ensures ∙ c.in_default.is) c.index-memories-ram.is c.put_word-net.ensures.net c.put_word-net.ensures.word
