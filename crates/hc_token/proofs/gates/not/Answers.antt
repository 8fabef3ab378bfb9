-- The negation of a constant is the other constant.
use Rattle.std.proofs.Common.{[], ◌∷◌, true, false, arith}
use Rattle.hc_net.specs.declared.gate.GateKind.TheVariants as kind
use Rattle.hc_token.proofs.Parts.{added, Over-at}
use Rattle.hc_token.proofs.Constants.{negated}
use Rattle.hc_token.proofs.gates.not.Goals as goal

pub returns-in-Some-true-clause-circuit : goal.returns-in-Some-true-clause-circuit
returns-in-Some-true-clause-circuit c =
    negated c.args.b.now c.gate.new.self c.args.x c.in-Some-true.field-0 true c.gate.result c.in-Some-true.ensures c.in-Some-true.field-0-test
    (added (c.args.x ∷ []) c.args.b.now c.gate.new.self kind.Zero 0 0 c.gate.result tt c.gate.ensures.ok)

pub returns-in-Some-false-clause-circuit : goal.returns-in-Some-false-clause-circuit
returns-in-Some-false-clause-circuit c =
    negated c.args.b.now c.gate-in-Some-false.new.self c.args.x c.in-Some-false.field-0 false c.gate-in-Some-false.result c.in-Some-false.ensures c.in-Some-false.field-0-test
    (added (c.args.x ∷ []) c.args.b.now c.gate-in-Some-false.new.self kind.One 0 0 c.gate-in-Some-false.result tt c.gate-in-Some-false.ensures.ok)

pub returns-in-None-clause-circuit : goal.returns-in-None-clause-circuit
returns-in-None-clause-circuit c =
    added (c.args.x ∷ []) c.args.b.now c.gate-in-None.new.self kind.Not c.args.x 0 c.gate-in-None.result (Over-at (c.args.x ∷ []) 0 (omega arith)) c.gate-in-None.ensures.ok
