use Rattle.std.proofs.Common.{[], ◌∷◌, arith}
use Rattle.hc_net.specs.declared.gate.GateKind.TheVariants as kind
use Rattle.hc_bits.proofs.OneGate.{added}
use Rattle.hc_bits.proofs.Parts.{Over-at}
use Rattle.hc_bits.proofs.gates.not.Goals as goal

pub returns : goal.returns
returns c = added (c.args.x ∷ []) c.args.b.now c.gate.new.self kind.Not c.args.x 0 c.gate.result (Over-at (c.args.x ∷ []) 0 (omega arith)) c.gate.ensures.ok
