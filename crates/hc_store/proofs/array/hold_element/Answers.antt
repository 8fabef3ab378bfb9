use Rattle.std.proofs.Common.{[], length, get_or, ◌<◌, ◌∙◌}
use Rattle.std.proofs.lemmas.List.Elements.{All-map, All-same}
use Rattle.std.proofs.lemmas.Result.{IfOk-weaker}
use Rattle.hc_store.specs.Takes.{IsValue}
use Rattle.hc_store.specs.Lines.{enables_of, values_of}
use Rattle.hc_store.specs.declared.lines.Line.{Line}
use Rattle.hc_store.proofs.Elements.{element_made}
use Rattle.hc_store.proofs.array.hold_element.Goals as goal

pub hold-requires-clause-enables : goal.hold-requires-clause-enables
hold-requires-clause-enables c =
    All-same (λ k. k < length c.args.b.now.nodes) c.in_ok-enables.enables (enables_of c.args.lines.now) c.in_ok-enables.ensures
    (All-map (λ k. k < length c.args.b.now.nodes) (λ (l : Line). l.enable) c.args.lines.now c.requires.enables)

pub hold-requires-clause-values : goal.hold-requires-clause-values
hold-requires-clause-values c =
    let P = IsValue (length c.args.b.now.nodes) (length c.args.present.now) in
    All-same P c.as_slice.result.now (values_of c.args.values.now c.args.lines.now) (c.as_slice.ensures.value ∙ c.in_ok-written.ensures)
    (All-map P (λ (l : Line). get_or c.args.values.now l.write []) c.args.lines.now
    (λ k d at. c.requires.values (get_or c.args.lines.now k d).write [] (c.requires.writes k d at)))

pub returns-clause-circuit : goal.returns-clause-circuit
returns-clause-circuit c =
    IfOk-weaker c.hold.result _ _
    (λ z made. element_made c.args.present.now c.in_ok-enables.enables z c.args.lines.now c.as_slice.result.now c.args.values.now c.args.b.now c.hold.new.b
    c.in_ok-enables.ensures (c.as_slice.ensures.value ∙ c.in_ok-written.ensures) c.requires.writes made)
    c.hold.ensures.circuit
