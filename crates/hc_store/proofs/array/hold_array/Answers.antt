use Rattle.std.proofs.Common.{List, ◌≡◌, ◌<◌, ◌+◌, ◌/◌, ◌^◌, length, ap, sym, subst}
use Rattle.std.proofs.lemmas.Result.{IfOk-weaker}
use Rattle.hc_store.specs.Arrays.{array_gates}
use Rattle.hc_store.specs.Lines.{MakesLines, all_line_gates}
use Rattle.hc_store.specs.declared.lines.Line.{Line}
use Rattle.hc_store.proofs.Arrays.{array_of, lines_room, elements_room}
use Rattle.hc_store.proofs.array.hold_array.Goals as goal

pub lines_of-requires-clause-room : goal.lines_of-requires-clause-room
lines_of-requires-clause-room c =
    let old = c.args.b.now in
    let count : c.len.result / c.args.width ≡ length c.args.q.now / c.args.width = ap (λ m. m / c.args.width) c.len.ensures in
    subst (λ m. length old.nodes + all_line_gates old.nodes m c.args.indexes.now < 2 ^ 32) (sym count)
    (lines_room (length c.args.q.now / c.args.width) c.args.width c.args.indexes.now old c.requires.room)

pub hold_elements-requires-clause-room : goal.hold_elements-requires-clause-room
hold_elements-requires-clause-room c =
    let old = c.args.b.now in
    let count : c.len.result / c.args.width ≡ length c.args.q.now / c.args.width = ap (λ m. m / c.args.width) c.len.ensures in
    elements_room (c.len.result / c.args.width) c.args.width c.args.enables.now c.args.indexes.now old c.lines_of.new.b c.as_slice.result.now
    (subst (λ (l : List (List Line)). MakesLines (c.len.result / c.args.width) c.args.enables.now c.args.indexes.now (length c.args.indexes.now) old c.lines_of.new.b l)
    (sym c.as_slice.ensures.value) c.in_ok-lines.ensures)
    (subst (λ m. length old.nodes + array_gates old.nodes m c.args.width c.args.indexes.now < 2 ^ 32) (sym count) c.requires.room)

pub returns-clause-circuit : goal.returns-clause-circuit
returns-clause-circuit c =
    IfOk-weaker c.hold_elements.result _ _
    (λ z held. array_of (length c.args.q.now / c.args.width) (c.len.result / c.args.width) c.args.width c.args.q.now c.args.enables.now z c.args.indexes.now c.args.values.now
    c.args.b.now c.lines_of.new.b c.hold_elements.new.b c.in_ok-lines.lines.items c.as_slice.result.now (ap (λ m. m / c.args.width) c.len.ensures) c.as_slice.ensures.value
    c.requires.index_writes c.in_ok-lines.ensures held)
    c.hold_elements.ensures.circuit
