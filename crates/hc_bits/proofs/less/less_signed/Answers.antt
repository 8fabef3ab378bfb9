use Rattle.std.proofs.Common.{◌-◌, length, arith}
use Rattle.std.proofs.lemmas.Grind.{common_steps}
use Rattle.std.proofs.lemmas.Result.{IfOk-weaker}
use Rattle.hc_bits.proofs.Comparisons.{exchanged_there, less_signed_made}
use Rattle.hc_bits.proofs.less.less_signed.Goals as goal

pub less_unsigned-requires-clause-left : goal.less_unsigned-requires-clause-left
less_unsigned-requires-clause-left c = exchanged_there (length c.args.b.now.nodes) (length c.args.x.now - 1) c.args.x.now c.args.y.now c.in_ok-left.left (grind (arith, common_steps)) (omega arith) c.requires.left c.requires.right

pub less_unsigned-requires-clause-right : goal.less_unsigned-requires-clause-right
less_unsigned-requires-clause-right c = exchanged_there (length c.args.b.now.nodes) (length c.args.x.now - 1) c.args.y.now c.args.x.now c.in_ok-right.right (grind (arith, common_steps)) (omega arith) c.requires.right c.requires.left

pub returns-clause-circuit : goal.returns-clause-circuit
returns-clause-circuit c =
    IfOk-weaker c.less_unsigned.result _ _ (λ z made. less_signed_made c.args.b.now c.less_unsigned.new.b c.args.x.now c.args.y.now c.in_ok-left.left c.in_ok-right.right z (length c.args.x.now - 1)
    (omega arith) (omega arith) (grind (arith, common_steps)) (grind (arith, common_steps)) made) c.less_unsigned.ensures.circuit
