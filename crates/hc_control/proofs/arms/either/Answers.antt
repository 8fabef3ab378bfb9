use Rattle.std.proofs.Common.{inl, inr}
use Rattle.hc_net.specs.Frame.{keeps_gates, keeps_then}
use Rattle.hc_token.specs.Kept.{never_kept}
use Rattle.hc_control.proofs.Choosing.{either_made}
use Rattle.hc_control.proofs.arms.either.Goals as goal

pub returns-clause-circuit : goal.returns-clause-circuit
returns-clause-circuit c =
    either_made c.args.first c.args.second c.in_ok-pass.pass c.in_ok-finish.finish c.args.b.now c.or.new.b c.or-2.new.b c.in_ok-pass.ensures.circuit c.in_ok-finish.ensures.circuit

pub returns-clause-never : goal.returns-clause-never
returns-clause-never c = λ x y. never_kept (keeps_gates c.in_ok-finish.ensures.circuit.adds) c.in_ok-pass.pass (c.in_ok-pass.ensures.never x y)

pub returns-clause-second_pass : goal.returns-clause-second_pass
returns-clause-second_pass c = λ never. elim (c.in_ok-pass.ensures.second never) [
  | inl same ↦ inl same
  | inr other ↦ inr (never_kept (keeps_then (keeps_gates c.in_ok-pass.ensures.circuit.adds) (keeps_gates c.in_ok-finish.ensures.circuit.adds)) c.args.second.pass other)
]

pub returns-clause-first_finish : goal.returns-clause-first_finish
returns-clause-first_finish c = λ never. c.in_ok-finish.ensures.first (never_kept (keeps_gates c.in_ok-pass.ensures.circuit.adds) c.args.second.finish never)

pub returns-clause-second_finish : goal.returns-clause-second_finish
returns-clause-second_finish c = λ never. elim (c.in_ok-finish.ensures.second (never_kept (keeps_gates c.in_ok-pass.ensures.circuit.adds) c.args.first.finish never)) [
  | inl same ↦ inl same
  | inr other ↦ inr (never_kept (keeps_gates c.in_ok-finish.ensures.circuit.adds) c.args.second.finish other)
]
