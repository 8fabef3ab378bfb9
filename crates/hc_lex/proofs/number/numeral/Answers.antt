use Rattle.std.proofs.Common.{◌<◌, length, arith}
use Rattle.std.proofs.lemmas.Grind.{common_steps}
use Rattle.std.proofs.lemmas.Bool.Decides.{nat_tests}
use Rattle.hc_lex.proofs.Digits.{numeral-done}
use Rattle.hc_lex.proofs.number.numeral.Goals as goal

pub returns : goal.returns
returns c =
    let some : 0 < length c.args.run.now = grind (arith, nat_tests, common_steps) in
    numeral-done _ _ _ _ some c.in_default.len_below c.loop-run.invariant.0 c.loop-run.invariant.1 c.loop-run.invariant.2
