use Rattle.std.proofs.lemmas.Result.{IfOk-weaker}
use Rattle.hc_bits.proofs.Stages.{stage_made}
use Rattle.hc_bits.proofs.shift.stage.Goals as goal

pub returns-in-Ok-clause-circuit : goal.returns-in-Ok-clause-circuit
returns-in-Ok-clause-circuit c =
    IfOk-weaker c.stage_bits.result _ _
    (λ z each. stage_made c.args.c c.in-Ok.stays c.args.distance c.args.fill c.args.x.now z c.args.b.now c.not.new.b c.stage_bits.new.b c.in-Ok.ensures each)
    c.stage_bits.ensures.circuit
