use Rattle.hc_muldiv.proofs.LongDivision.{quotient_made}
use Rattle.hc_muldiv.proofs.divide.quotient.Goals as goal

pub returns-clause-circuit : goal.returns-clause-circuit
returns-clause-circuit c =
    quotient_made c.args.b.now c.divide.new.b c.args.x.now c.args.y.now c.in_ok-divided.divided.quotient c.in_ok-divided.divided.remainder c.requires.some c.in_ok-divided.ensures.quotient c.in_ok-divided.ensures.circuit
