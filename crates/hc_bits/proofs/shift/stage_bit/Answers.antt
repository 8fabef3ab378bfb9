use Rattle.std.proofs.lemmas.Result.{IfOk-weaker}
use Rattle.hc_bits.proofs.Stages.{stays_made}
use Rattle.hc_bits.proofs.shift.stage_bit.Goals as goal

pub returns-in-None : goal.returns-in-None
returns-in-None c =
    IfOk-weaker c.and.result _ _
    (λ z made. stays_made c.args.c c.args.stays c.args.x z c.args.moved c.args.b.now c.and.new.b c.in-None.is made)
    c.and.ensures
