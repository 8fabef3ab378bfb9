use Rattle.std.proofs.Common.{List, ℕ, ◌∷◌, ◌++◌, [], ◌-◌, get_or, ap, ◌∙◌, arith}
use Rattle.std.specs.Prelude.{replicate}
use Rattle.hc_muldiv.proofs.LongDivision.{Division-none, Division-more, Division-rest, Division-divisor, Division-low, Division-room, Division-done, divisor_width}
use Rattle.hc_muldiv.proofs.divide.divide.Goals as goal

pub loop-done-init : goal.loop-done-init
loop-done-init c =
    Division-none c.args.b.now c.gate.new.self c.args.x.now c.args.y.now c.new-quotient.result c.in_ok-rest.rest c.in_ok-zero.zero c.in_ok-zero.ensures.ok c.new-quotient.ensures
    (c.in_ok-rest.ensures ∙ ap (λ k. replicate k c.in_ok-zero.zero) c.len-width.ensures)

pub divide_step-requires-clause-low : goal.divide_step-requires-clause-low
divide_step-requires-clause-low c =
    let n = c.len-width.ensures in
    Division-low c.args.b.now c.loop-done.b c.args.x.now c.args.y.now c.loop-done.quotient c.loop-done.rest c.in_ok-zero.zero c.loop-done.done _ c.loop-done.invariant c.requires.left (omega arith)
    (ap (λ (l : List ℕ). get_or l (c.len-width.result - 1 - c.loop-done.done) 0) c.as_slice-in-loop-done.ensures ∙ ap (λ k. get_or c.args.x.now (k - 1 - c.loop-done.done) 0) n)

pub divide_step-requires-clause-rest : goal.divide_step-requires-clause-rest
divide_step-requires-clause-rest c =
    Division-rest c.args.b.now c.loop-done.b c.args.x.now c.args.y.now c.loop-done.quotient c.loop-done.rest c.in_ok-zero.zero c.loop-done.done c.loop-done.invariant

pub divide_step-requires-clause-divisor : goal.divide_step-requires-clause-divisor
divide_step-requires-clause-divisor c =
    Division-divisor c.args.b.now c.loop-done.b c.args.x.now c.args.y.now c.in_ok-divisor.divisor c.loop-done.quotient c.loop-done.rest c.in_ok-zero.zero c.loop-done.done c.loop-done.invariant
    c.requires.right (c.in_ok-divisor.ensures ∙ ap (λ (l : List ℕ). l ++ c.in_ok-zero.zero ∷ []) c.as_slice.ensures)

pub divide_step-requires-clause-width : goal.divide_step-requires-clause-width
divide_step-requires-clause-width c =
    divisor_width c.args.x.now c.args.y.now c.in_ok-divisor.divisor c.loop-done.rest c.in_ok-zero.zero c.loop-done.invariant.rest_width c.requires.width
    (c.in_ok-divisor.ensures ∙ ap (λ (l : List ℕ). l ++ c.in_ok-zero.zero ∷ []) c.as_slice.ensures)

pub divide_step-requires-clause-room : goal.divide_step-requires-clause-room
divide_step-requires-clause-room c =
    let n = c.len-width.ensures in
    Division-room c.args.b.now c.loop-done.b c.args.x.now c.args.y.now c.loop-done.quotient c.loop-done.rest c.in_ok-zero.zero c.loop-done.done c.loop-done.invariant (omega arith) c.requires.room

pub loop-done-preserved : goal.loop-done-preserved
loop-done-preserved c =
    let n = c.len-width.ensures in
    Division-more c.args.b.now c.loop-done.b c.divide_step.new.b c.args.x.now c.args.y.now c.in_ok-divisor.divisor c.loop-done.quotient c.in_ok-quotient.quotient c.loop-done.rest c.in_ok-step.step.rest
    c.in_ok-zero.zero c.loop-done.done _ c.in_ok-step.step.bit c.loop-done.invariant c.requires.width (omega arith)
    (ap (λ (l : List ℕ). get_or l (c.len-width.result - 1 - c.loop-done.done) 0) c.as_slice-in-loop-done.ensures ∙ ap (λ k. get_or c.args.x.now (k - 1 - c.loop-done.done) 0) n)
    (c.in_ok-divisor.ensures ∙ ap (λ (l : List ℕ). l ++ c.in_ok-zero.zero ∷ []) c.as_slice.ensures)
    (c.in_ok-quotient.ensures ∙ ap (λ (l : List ℕ). c.in_ok-step.step.bit ∷ l) c.as_slice-in-loop-done-2.ensures)
    c.in_ok-step.ensures.width c.in_ok-step.ensures.circuit

pub returns-clause-quotient : goal.returns-clause-quotient
returns-clause-quotient c = let n = c.len-width.ensures in let w = c.loop-done.invariant.quotient_width in omega arith

pub returns-clause-remainder : goal.returns-clause-remainder
returns-clause-remainder c = c.loop-done.invariant.rest_width

pub returns-clause-circuit : goal.returns-clause-circuit
returns-clause-circuit c =
    let n = c.len-width.ensures in
    Division-done c.args.b.now c.loop-done.b c.args.x.now c.args.y.now c.loop-done.quotient c.loop-done.rest c.in_ok-zero.zero c.loop-done.done c.loop-done.invariant (omega arith)
