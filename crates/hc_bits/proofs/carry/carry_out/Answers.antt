use Rattle.std.proofs.lemmas.Result.{IfOk-weaker}
use Rattle.hc_bits.proofs.Chains.{carry_out_made}
use Rattle.hc_bits.proofs.carry.carry_out.Goals as goal

pub returns : goal.returns
returns c = IfOk-weaker c.or.result _ _ (λ z made. carry_out_made c.args.b.now c.and.new.b c.or.new.b c.args.g c.args.p c.args.c c.in_ok-passed.passed z c.in_ok-passed.ensures made) c.or.ensures
