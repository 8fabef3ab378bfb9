use Rattle.std.proofs.Common.{[], arith, ◌∙◌}
use Rattle.std.proofs.lemmas.List.{get_or_default}
use Rattle.hc_store.proofs.Elements.{HeldElements-more}
use Rattle.hc_store.proofs.array.hold_elements.Goals as goal

pub loop-j-preserved : goal.loop-j-preserved
loop-j-preserved c =
    HeldElements-more c.args.width c.loop-j.j c.args.q.now c.in_ok-present.present c.in_ok-bits.bits c.loop-j.next c.append.new.nets c.as_slice.result.now c.args.lines.now c.args.values.now
    c.args.b.now c.loop-j.b c.hold_element.new.b (omega arith)
    (c.as_slice.ensures ∙ c.index-lines-j.is ∙ get_or_default c.args.lines.now c.loop-j.j c.index-lines-j.result [] (omega arith))
    c.in_ok-present.ensures.nets c.in_ok-present.ensures.width c.in_ok-bits.ensures.width c.in_ok-append.ensures c.loop-j.invariant c.in_ok-bits.ensures.circuit
