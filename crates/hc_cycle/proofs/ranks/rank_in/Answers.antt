use Rattle.std.proofs.Common.{inl, inr, ◌+◌, ◌-◌, ◌/◌, sym, ◌∙◌, arith}
use Rattle.std.proofs.lemmas.Bool.{cases_lt}
use Rattle.hc_tree.specs.declared.refusal.Node.TheVariants.{Value}
use Rattle.hc_cycle.proofs.Halves.{no_rank, has_rank, less_before, greater_behind}
use Rattle.hc_cycle.proofs.ranks.rank_in.Goals as goal

pub returns-then-other-number : goal.returns-then-other-number
returns-then-other-number c =
    let high = c.loop-low.invariant.1 in
    sym (has_rank c.args.node c.args.pairs.now (c.loop-low.low + (c.loop-low.high - c.loop-low.low) / 2) (Value 0, 0) c.requires (omega arith)
    (sym c.number_of-other.ensures ∙ c.if-other-number.true ∙ c.number_of-number.ensures))

pub loop-low-preserved-then-other-number-2 : goal.loop-low-preserved-then-other-number-2
loop-low-preserved-then-other-number-2 c =
    let high = c.loop-low.invariant.1 in
    let less = c.if-other-number-2.true in
    let is = c.number_of-other.ensures in
    (omega arith, high, less_before c.args.pairs.now (c.loop-low.low + (c.loop-low.high - c.loop-low.low) / 2) c.number_of-number.result (Value 0, 0) c.requires (omega arith) (omega arith), c.loop-low.invariant.3)

pub loop-low-preserved : goal.loop-low-preserved
loop-low-preserved c =
    let high = c.loop-low.invariant.1 in
    let other = c.if-other-number.false in
    let less = c.if-other-number-2.false in
    let is = c.number_of-other.ensures in
    (omega arith, omega arith, c.loop-low.invariant.2, greater_behind c.args.pairs.now (c.loop-low.low + (c.loop-low.high - c.loop-low.low) / 2) c.number_of-number.result (Value 0, 0) c.requires (omega arith))

pub returns : goal.returns
returns c = sym (no_rank c.args.node c.args.pairs.now (λ k d within e. elim (cases_lt k c.loop-low.low) [
  | inl lt ↦ let a = c.loop-low.invariant.2 k d lt in let n = c.number_of-number.ensures in omega arith
  | inr ge ↦ let a = c.loop-low.invariant.3 k d (omega arith) within in let n = c.number_of-number.ensures in omega arith
]))
