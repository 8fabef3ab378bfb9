use Rattle.std.proofs.lemmas.Result.{IfOk-weaker}
use Rattle.hc_bits.proofs.Terms.{doubled_made}
use Rattle.hc_bits.proofs.decoder.doubled.Goals as goal

pub returns-in-Ok-clause-circuit : goal.returns-in-Ok-clause-circuit
returns-in-Ok-clause-circuit c =
    IfOk-weaker c.each_with.result _ _
    (λ z each. doubled_made c.args.bit c.in-Ok.otherwise c.args.count c.args.terms.now z c.args.b.now c.not.new.b c.each_with.new.b c.in-Ok.ensures each)
    c.each_with.ensures.circuit
