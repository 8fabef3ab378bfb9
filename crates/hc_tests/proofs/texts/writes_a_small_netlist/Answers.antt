use Rattle.std.proofs.Common.{sym, subst}
use Rattle.hc_net.specs.Seal.{IsSealable}
use Rattle.hc_tests.proofs.Sample.{small_sealable}
use Rattle.hc_tests.proofs.texts.writes_a_small_netlist.Goals as goal

pub seal-requires : goal.seal-requires
seal-requires g c = subst IsSealable (sym c.in_ok-small_circuit.ensures) small_sealable
