use Rattle.std.proofs.Common.{List, ℕ, take, drop, ap, ◌∙◌, ◌++◌}
use Rattle.std.proofs.lemmas.Result.{IfOk-weaker}
use Rattle.hc_muldiv.proofs.Halves.{sum_above}
use Rattle.hc_muldiv.proofs.multiply.add_from.Goals as goal

pub returns-clause-circuit : goal.returns-clause-circuit
returns-clause-circuit c =
    IfOk-weaker c.joined_nets.result _ _ (λ z is.
    sum_above c.args.b.now c.add.new.b c.args.x.now c.args.y.now c.split_at.result.0.now c.in_ok-high.high c.in_ok-sum.sum z c.args.from c.requires.width
    (c.split_at.ensures.front ∙ ap (λ (l : List ℕ). take c.args.from l) c.as_slice.ensures)
    (c.in_ok-high.ensures ∙ c.split_at.ensures.back ∙ ap (λ (l : List ℕ). drop c.args.from l) c.as_slice.ensures)
    (is ∙ ap (λ l. c.split_at.result.0.now ++ l) c.as_slice-2.ensures)
    c.requires.left c.in_ok-sum.ensures.circuit) c.joined_nets.ensures
