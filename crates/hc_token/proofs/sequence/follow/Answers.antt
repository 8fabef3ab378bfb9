use Rattle.std.proofs.Common.{false, inr}
use Rattle.hc_token.proofs.Constants.{Adds-constant}
use Rattle.hc_token.proofs.Controlled.{followed}
use Rattle.hc_token.proofs.sequence.follow.Goals as goal

pub returns-clause-circuit : goal.returns-clause-circuit
returns-clause-circuit c =
    followed 0 c.in_ok-pass.pass c.in_ok-through.through c.in_ok-finish.finish c.args.first c.args.second c.args.b.now c.and.new.b c.and-2.new.b c.or.new.b
    c.in_ok-pass.ensures.circuit c.in_ok-through.ensures.circuit c.in_ok-finish.ensures.circuit

pub returns-clause-never : goal.returns-clause-never
returns-clause-never c = λ either.
    Adds-constant c.in_ok-pass.pass false c.in_ok-finish.ensures.circuit.adds
    (Adds-constant c.in_ok-pass.pass false c.in_ok-through.ensures.circuit.adds (c.in_ok-pass.ensures.never either))

pub returns-clause-reach : goal.returns-clause-reach
returns-clause-reach c = λ never.
    c.in_ok-finish.ensures.first (c.in_ok-through.ensures.never (inr (Adds-constant c.args.second.pass false c.in_ok-pass.ensures.circuit.adds never)))
