use Rattle.std.proofs.Common.{List, ℕ, length, ap, ◌∙◌, arith}
use Rattle.std.proofs.lemmas.Result.{IfOk-weaker}
use Rattle.hc_value.proofs.Elements.{element_of}
use Rattle.hc_value.proofs.element.element.Goals as goal

pub returns-clause-circuit : goal.returns-clause-circuit
returns-clause-circuit c =
    IfOk-weaker c.chosen_bits.result _ _ (λ z made.
    element_of c.args.b.now c.decode.new.b c.chosen_bits.new.b c.args.nets.now c.args.index.now c.in_ok-enables.enables _ z c.args.shape.width c.args.shape.length c.as_slice.ensures
    c.in_ok-enables.ensures.width c.requires.count c.in_ok-enables.ensures.circuit made) c.chosen_bits.ensures.circuit
