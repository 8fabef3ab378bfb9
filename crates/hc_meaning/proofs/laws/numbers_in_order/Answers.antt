use Rattle.hc_meaning.proofs.TextOrder.{text_order}
use Rattle.hc_meaning.proofs.laws.numbers_in_order.Goals as goal

pub returns : goal.returns
returns c = text_order
