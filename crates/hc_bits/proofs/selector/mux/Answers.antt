use Rattle.std.proofs.lemmas.Result.{IfOk-weaker}
use Rattle.hc_bits.proofs.Chosen.{mux_made}
use Rattle.hc_bits.proofs.selector.mux.Goals as goal

pub returns-in-Ok-clause-circuit : goal.returns-in-Ok-clause-circuit
returns-in-Ok-clause-circuit c =
    IfOk-weaker c.choose_each.result _ _
    (λ z each. mux_made c.args.c c.in-Ok.otherwise c.args.x.now c.args.y.now z c.args.b.now c.not.new.b c.choose_each.new.b c.requires.width c.in-Ok.ensures each)
    c.choose_each.ensures.circuit
