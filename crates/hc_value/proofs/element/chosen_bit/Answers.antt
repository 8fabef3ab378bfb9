use Rattle.std.proofs.Common.{List, ℕ, get_or, ap}
use Rattle.hc_value.proofs.Elements.{chosen_bit_made}
use Rattle.hc_value.proofs.element.chosen_bit.Goals as goal

pub returns : goal.returns
returns c =
    chosen_bit_made c.args.b.now c.enabled_bits.new.b c.truth.new.b c.args.enables.now c.args.nets.now c.in_ok-terms.terms c.in_ok-some.some c.args.width c.args.place _
    c.in_ok-terms.ensures.width c.in_ok-some.ensures.width (ap (λ (l : List ℕ). get_or l 0 0) c.as_slice.ensures) c.in_ok-terms.ensures.circuit c.in_ok-some.ensures.circuit
