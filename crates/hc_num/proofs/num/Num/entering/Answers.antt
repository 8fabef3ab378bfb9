use Rattle.std.proofs.Common.{sym, ◌∙◌}
use Rattle.hc_num.proofs.Signs.{entering-ones}
use Rattle.hc_num.proofs.num.Num.entering.Goals as goal

pub returns-then-is_top_set : goal.returns-then-is_top_set
returns-then-is_top_set c =
    rw (c.shifted_down.ensures, c.all_ones.ensures, c.all_ones-then-is_top_set.ensures) (
    entering-ones
    c.args.self
    c.args.amount
    (sym c.signed.ensures ∙ c.if-signed.true)
    (sym c.is_top_set.ensures.value ∙ c.if-is_top_set.true)
    )
