use Rattle.std.proofs.Common.{sym, subst}
use Rattle.hc_net.specs.Seal.{IsSealable}
use Rattle.hc_circuit_tests.proofs.Sealed.{memory_sealable}
use Rattle.hc_circuit_tests.proofs.memory.sealed_memory.Goals as goal

pub seal-requires : goal.seal-requires
seal-requires c = subst IsSealable (sym c.in_ok-memory.ensures) memory_sealable
