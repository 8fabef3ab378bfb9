use Rattle.std.proofs.Common.{[], ◌∷◌, false, inr, arith}
use Rattle.hc_net.specs.MadeLemmas.{Adds-then, Adds-there}
use Rattle.hc_token.proofs.Constants.{Adds-constant}
use Rattle.hc_token.proofs.Controlled.{branched}
use Rattle.hc_token.proofs.side.branch.Goals as goal

pub or-requires-clause-left : goal.or-requires-clause-left
or-requires-clause-left c =
    Adds-there (c.in_ok-by_yes.by_yes ∷ []) (Adds-then c.in_ok-otherwise.ensures.circuit.adds c.in_ok-by_no.ensures.circuit.adds) c.in_ok-by_yes.ensures.circuit.there 0 0 (omega arith)

pub returns-clause-circuit : goal.returns-clause-circuit
returns-clause-circuit c =
    branched 0 c.args.c c.in_ok-by_yes.by_yes c.in_ok-otherwise.otherwise c.in_ok-by_no.by_no c.in_ok-pass.pass c.in_ok-finish.finish c.args.yes c.args.no
    c.args.b.now c.and.new.b c.not.new.b c.and-2.new.b c.or.new.b c.or-2.new.b
    c.in_ok-by_yes.ensures.circuit c.in_ok-otherwise.ensures.circuit c.in_ok-by_no.ensures.circuit c.in_ok-pass.ensures.circuit c.in_ok-finish.ensures.circuit

pub returns-clause-never : goal.returns-clause-never
returns-clause-never c = λ yes no.
    let otherwise = c.in_ok-otherwise.ensures.circuit.adds in
    let by_yes = Adds-constant c.in_ok-by_yes.by_yes false c.in_ok-by_no.ensures.circuit.adds (Adds-constant c.in_ok-by_yes.by_yes false otherwise (c.in_ok-by_yes.ensures.never (inr yes))) in
    let by_no = c.in_ok-by_no.ensures.never (inr (Adds-constant c.args.no.pass false otherwise (Adds-constant c.args.no.pass false c.in_ok-by_yes.ensures.circuit.adds no))) in
    Adds-constant c.in_ok-pass.pass false c.in_ok-finish.ensures.circuit.adds (c.in_ok-pass.ensures.never by_yes by_no)
