use Rattle.std.proofs.Common.{sym, ◌∙◌, ap}
use Rattle.std.specs.Int.{cast_signed, w128}
use Rattle.hc_num.proofs.Signs.{signed_value-low}
use Rattle.hc_num.proofs.num.Num.to_signed.Goals as goal

pub returns-else-is_top_set : goal.returns-else-is_top_set
returns-else-is_top_set c =
    signed_value-low
    c.args.self
    _
    (sym c.is_top_set.ensures.value ∙ c.if-is_top_set.false)
    c.is_top_set.ensures.most
    (c.cast_signed-else-is_top_set.ensures ∙ ap (cast_signed w128) c.bits-else-is_top_set.ensures.bits)
