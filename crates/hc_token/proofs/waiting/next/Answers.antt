use Rattle.std.proofs.Common.{[], ◌∷◌, arith}
use Rattle.std.proofs.lemmas.Result.{IfOk-weaker}
use Rattle.hc_net.specs.MadeLemmas.{Adds-there}
use Rattle.hc_token.proofs.Waited.{next_made}
use Rattle.hc_token.proofs.waiting.next.Goals as goal

pub choose_each-requires-clause-first : goal.choose_each-requires-clause-first
choose_each-requires-clause-first c = Adds-there (c.in_ok-held.held ∷ []) c.in_ok-over.ensures.circuit.adds c.in_ok-held.ensures.circuit.there 0 0 (omega arith)

pub returns-clause-circuit : goal.returns-clause-circuit
returns-clause-circuit c =
    IfOk-weaker c.choose_each.result _ _
    (λ z row. next_made c.args.start c.args.pass c.args.finish c.in_ok-waits.waits c.in_ok-held.held c.in_ok-over.over c.args.passes.now c.args.done.now z
    c.args.b.now c.not.new.b c.and.new.b c.not-2.new.b c.choose_each.new.b c.in_ok-waits.ensures.circuit c.in_ok-held.ensures.circuit c.in_ok-over.ensures.circuit row)
    c.choose_each.ensures.circuit
