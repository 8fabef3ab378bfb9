use Rattle.std.proofs.Common.{arith}
use Rattle.std.proofs.lemmas.Result.{IfOk-weaker}
use Rattle.hc_bits.proofs.Prefixes.{past_within, past_beyond}
use Rattle.hc_bits.proofs.prefix.carry_past.Goals as goal

pub returns-then-i-p : goal.returns-then-i-p
returns-then-i-p c =
    IfOk-weaker c.carry_out.result _ _ (λ z made. past_within c.args.b.now c.carry_out.new.b c.args.g c.args.c z c.args.i c.args.p.now (omega arith) made) c.carry_out.ensures

pub returns-else-i-p : goal.returns-else-i-p
returns-else-i-p c =
    IfOk-weaker c.or.result _ _ (λ z made. past_beyond c.args.b.now c.or.new.b c.args.g c.args.c z c.args.i c.args.p.now (omega arith) made) c.or.ensures
