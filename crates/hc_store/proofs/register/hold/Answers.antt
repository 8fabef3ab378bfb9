use Rattle.std.proofs.Common.{length, arith}
use Rattle.std.proofs.lemmas.Result.{IfOk-weaker}
use Rattle.hc_net.specs.MadeLemmas.{Makes-holds}
use Rattle.hc_store.proofs.Columns.{takes_joined}
use Rattle.hc_store.proofs.register.hold.Goals as goal

pub returns-clause-circuit : goal.returns-clause-circuit
returns-clause-circuit c =
    IfOk-weaker c.joined_bits.result _ _
    (λ z made. Makes-holds made (omega arith) (λ v is. takes_joined v (length c.args.b.now.nodes) c.args.q.now c.args.enables.now z c.args.values.now c.requires.writes c.requires.values is))
    c.joined_bits.ensures.circuit
