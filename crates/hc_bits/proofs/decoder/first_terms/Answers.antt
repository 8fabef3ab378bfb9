use Rattle.std.proofs.Common.{arith}
use Rattle.std.proofs.lemmas.Result.{IfOk-weaker}
use Rattle.hc_bits.proofs.Terms.{first_one, first_two}
use Rattle.hc_bits.proofs.decoder.first_terms.Goals as goal

pub returns-then-count-lt2-clause-circuit : goal.returns-then-count-lt2-clause-circuit
returns-then-count-lt2-clause-circuit c =
    IfOk-weaker c.from_slice.result _ _
    (λ z is. first_one c.args.bit c.in-Ok.otherwise c.args.count z c.args.b.now c.not.new.b (omega arith) is c.in-Ok.ensures)
    c.from_slice.ensures

pub returns-else-count-lt2-clause-circuit : goal.returns-else-count-lt2-clause-circuit
returns-else-count-lt2-clause-circuit c =
    IfOk-weaker c.from_slice-else-count-lt2.result _ _
    (λ z is. first_two c.args.bit c.in-Ok.otherwise c.args.count z c.args.b.now c.not.new.b c.requires.net (omega arith) is c.in-Ok.ensures)
    c.from_slice-else-count-lt2.ensures
