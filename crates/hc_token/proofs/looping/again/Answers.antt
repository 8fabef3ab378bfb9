use Rattle.std.proofs.Common.{false, inr}
use Rattle.hc_token.proofs.Constants.{Adds-constant}
use Rattle.hc_token.proofs.Controlled.{repeated}
use Rattle.hc_token.proofs.looping.again.Goals as goal

pub returns-clause-circuit : goal.returns-clause-circuit
returns-clause-circuit c = repeated 0 c.args.c c.in_ok-pass.pass c.in_ok-finish.finish c.args.body c.args.b.now c.not.new.b c.and.new.b c.in_ok-pass.ensures.circuit c.in_ok-finish.ensures.circuit

pub returns-clause-never : goal.returns-clause-never
returns-clause-never c = λ always.
    let pass = c.in_ok-pass.ensures.never always in
    (Adds-constant c.in_ok-pass.pass false c.in_ok-finish.ensures.circuit.adds pass, c.in_ok-finish.ensures.never (inr pass))
