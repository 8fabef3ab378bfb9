use Rattle.std.proofs.Common.{◌∙◌, ap, sym}
use Rattle.std.specs.List.{find}
use Rattle.hc_lex.specs.declared.token.Placed.{Placed}
use Rattle.hc_parse.specs.LeftOut.{is_left_out}
use Rattle.hc_parse.proofs.Found.{none-passes, found-end}
use Rattle.hc_parse.proofs.left_out.check_words.Goals as goal

pub returns-clause-kept : goal.returns-clause-kept
returns-clause-kept c =
    let p = λ (t : Placed). is_left_out t.token in
    let all = c.as_slice-t-items.result.now in
    none-passes p c.args.tokens.now.tokens (ap (find p) (sym c.as_slice-t-items.ensures) ∙ c.loop-t.invariant ∙ found-end p all c.loop-t.t-index c.loop-t-test.false)
