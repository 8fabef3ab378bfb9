use Rattle.std.proofs.Common.{List, ℕ, ◌∷◌, get_or, take, ap, ◌∙◌}
use Rattle.hc_muldiv.proofs.DivisionStep.{step_made}
use Rattle.hc_muldiv.proofs.divide.divide_step.Goals as goal

pub returns-clause-circuit : goal.returns-clause-circuit
returns-clause-circuit c =
    step_made c.args.b.now c.sub.new.b c.gate.new.self c.mux.new.b c.args.low c.args.rest.now c.args.divisor.now c.in_ok-whole.whole c.in_ok-less.less c.in_ok-kept.kept c.in_ok-reduced.reduced c.in_ok-rest.rest
    _ c.in_ok-bit.bit (c.in_ok-whole.ensures ∙ ap (λ (l : List ℕ). c.args.low ∷ l) c.as_slice.ensures) c.in_ok-less.ensures.width
    (ap (λ (l : List ℕ). get_or l c.len-width.result 0) c.as_slice-2.ensures ∙ ap (λ k. get_or c.in_ok-less.less k 0) c.len-width.ensures)
    (c.in_ok-kept.ensures ∙ ap (λ (l : List ℕ). take c.len-width.result l) c.as_slice-3.ensures ∙ ap (λ k. take k c.in_ok-whole.whole) c.len-width.ensures)
    (c.in_ok-reduced.ensures ∙ ap (λ (l : List ℕ). take c.len-width.result l) c.as_slice-4.ensures ∙ ap (λ k. take k c.in_ok-less.less) c.len-width.ensures)
    c.in_ok-less.ensures.circuit c.in_ok-bit.ensures.ok c.in_ok-rest.ensures.circuit
