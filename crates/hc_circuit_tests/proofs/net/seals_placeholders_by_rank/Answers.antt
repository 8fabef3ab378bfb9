use Rattle.std.proofs.Common.{sym, subst}
use Rattle.hc_net.specs.Seal.{IsSealable}
use Rattle.hc_circuit_tests.proofs.Sealed.{two_wires_sealable}
use Rattle.hc_circuit_tests.proofs.net.seals_placeholders_by_rank.Goals as goal

pub seal-requires : goal.seal-requires
seal-requires g c = subst IsSealable (sym c.in_ok-two_wires.ensures) two_wires_sealable
