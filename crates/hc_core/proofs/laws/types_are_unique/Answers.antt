use Rattle.hc_core.proofs.Types.{widths_are, signs_are, one_type}
use Rattle.hc_core.proofs.laws.types_are_unique.Goals as goal

pub returns : goal.returns
returns c = record { one = one_type; width = widths_are; sign = signs_are }
