use Rattle.std.proofs.Common.{◌∙◌, sym}
use Rattle.hc_circuit_tests.proofs.Sealed.{index_is}
use Rattle.hc_circuit_tests.proofs.memory.address_width.Goals as goal

pub returns : goal.returns
returns c = c.aw.ensures.width ∙ sym index_is
