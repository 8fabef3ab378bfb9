-- A constant stands for the gate, or lets the other net through.
use Rattle.std.proofs.Common.{[], ◌∷◌, true, false, arith}
use Rattle.hc_net.specs.declared.gate.GateKind.TheVariants as kind
use Rattle.hc_token.proofs.Parts.{added, Over-at}
use Rattle.hc_token.proofs.Constants.{stands_for, or_left_one, or_left_zero, or_right_one, or_right_zero}
use Rattle.hc_token.proofs.gates.or.Goals as goal

pub returns-in-Some-true-clause-circuit : goal.returns-in-Some-true-clause-circuit
returns-in-Some-true-clause-circuit c =
    stands_for c.args.b.now (c.args.x ∷ c.args.y ∷ []) c.args.y c.args.y c.in-Some-true.field-0 true c.requires.right (Over-at (c.args.x ∷ c.args.y ∷ []) 1 (omega arith))
    c.in-Some-true.ensures c.in-Some-true.field-0-test
    (λ v is. or_right_one (v c.args.x) (v c.args.y) is)

pub returns-in-Some-false-clause-circuit : goal.returns-in-Some-false-clause-circuit
returns-in-Some-false-clause-circuit c =
    stands_for c.args.b.now (c.args.x ∷ c.args.y ∷ []) c.args.x c.args.y c.in-Some-false.field-0 false c.requires.left (Over-at (c.args.x ∷ c.args.y ∷ []) 0 (omega arith))
    c.in-Some-false.ensures c.in-Some-false.field-0-test
    (λ v is. or_right_zero (v c.args.x) (v c.args.y) is)

pub returns-in-Some-true-constant-clause-circuit : goal.returns-in-Some-true-constant-clause-circuit
returns-in-Some-true-constant-clause-circuit c =
    stands_for c.args.b.now (c.args.x ∷ c.args.y ∷ []) c.args.x c.args.x c.in-Some-true-constant.field-0 true c.requires.left (Over-at (c.args.x ∷ c.args.y ∷ []) 0 (omega arith))
    c.in-Some-true-constant.ensures c.in-Some-true-constant.field-0-test
    (λ v is. or_left_one (v c.args.x) (v c.args.y) is)

pub returns-in-Some-false-constant-clause-circuit : goal.returns-in-Some-false-constant-clause-circuit
returns-in-Some-false-constant-clause-circuit c =
    stands_for c.args.b.now (c.args.x ∷ c.args.y ∷ []) c.args.y c.args.x c.in-Some-false-constant.field-0 false c.requires.right (Over-at (c.args.x ∷ c.args.y ∷ []) 1 (omega arith))
    c.in-Some-false-constant.ensures c.in-Some-false-constant.field-0-test
    (λ v is. or_left_zero (v c.args.x) (v c.args.y) is)

pub returns-in-None-constant-clause-circuit : goal.returns-in-None-constant-clause-circuit
returns-in-None-constant-clause-circuit c =
    added (c.args.x ∷ c.args.y ∷ []) c.args.b.now c.gate.new.self kind.Or c.args.x c.args.y c.gate.result
    (Over-at (c.args.x ∷ c.args.y ∷ []) 0 (omega arith), Over-at (c.args.x ∷ c.args.y ∷ []) 1 (omega arith)) c.gate.ensures.ok
