use Rattle.std.proofs.Common.{List, ℕ, get_or, ap}
use Rattle.hc_value.proofs.OneBit.{choice_made}
use Rattle.hc_value.proofs.choice.choice.Goals as goal

pub returns-clause-circuit : goal.returns-clause-circuit
returns-clause-circuit c =
    choice_made c.args.b.now c.truth.new.b c.mux.new.b c.args.condition.now c.args.x.now.nets c.args.y.now c.in_ok-some.some c.in_ok-nets.nets _
    c.in_ok-some.ensures.width (ap (λ (l : List ℕ). get_or l 0 0) c.as_slice.ensures) c.requires.width c.in_ok-nets.ensures.width c.in_ok-some.ensures.circuit c.in_ok-nets.ensures.circuit
