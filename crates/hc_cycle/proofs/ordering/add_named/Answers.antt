use Rattle.std.proofs.Common.{◌≡◌, ◌∙◌, sym, ap, true, Some}
use Rattle.std.specs.Prelude.{slice_get}
use Rattle.hc_cycle.specs.Order.{object_of}
use Rattle.hc_cycle.specs.Found.{has_node}
use Rattle.hc_cycle.proofs.Loops.{named_more}
use Rattle.hc_cycle.proofs.ordering.add_named.Goals as goal

pub returns-in-Ok : goal.returns-in-Ok
returns-in-Ok c =
    let at : slice_get c.args.core.now.objects (object_of c.args.node) ≡ Some c.in-Some.object.now =
    ap (λ k. slice_get c.args.core.now.objects k) (sym c.object_of.ensures) ∙ ap (λ l. slice_get l c.object_of.result) (sym c.as_slice.ensures) ∙ sym c.in-Some.ensures in
    let has : has_node c.in-Some.object.now.kind c.args.node ≡ true = sym c.has_node.ensures ∙ c.if-not-has_node.false in
    named_more c.args.core.now c.in-Some.object.now c.args.node c.in_ok-name-in-Some.name c.args.named.now c.push.new.self at has (c.in_ok-name-in-Some.ensures ∙ c.as_bytes.ensures.bytes) c.in-Ok.ensures.ok
