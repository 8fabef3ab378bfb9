use Rattle.std.proofs.Common.{sym, subst}
use Rattle.hc_net.specs.Seal.{IsSealable}
use Rattle.hc_circuit_tests.proofs.Sealed.{all_gates_sealable}
use Rattle.hc_circuit_tests.proofs.net.seals_gates_of_each_kind.Goals as goal

pub seal-requires : goal.seal-requires
seal-requires g c = subst IsSealable (sym c.in_ok-all_gates.ensures) all_gates_sealable
