use Rattle.std.proofs.Common.{[], ◌∷◌, arith}
use Rattle.hc_net.specs.declared.gate.GateKind.TheVariants as kind
use Rattle.hc_bits.proofs.OneGate.{added}
use Rattle.hc_bits.proofs.Parts.{Over-at}
use Rattle.hc_bits.proofs.gates.and.Goals as goal

pub returns : goal.returns
returns c = added (c.args.x ∷ c.args.y ∷ []) c.args.b.now c.gate.new.self kind.And c.args.x c.args.y c.gate.result (Over-at (c.args.x ∷ c.args.y ∷ []) 0 (omega arith), Over-at (c.args.x ∷ c.args.y ∷ []) 1 (omega arith)) c.gate.ensures.ok
