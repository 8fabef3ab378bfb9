use Rattle.std.proofs.Common.{◌∙◌, ap, sym}
use Rattle.std.specs.Prelude.{is_some, nat_lt}
use Rattle.hc_grammar.specs.Nesting.{around}
use Rattle.hc_parse.specs.Stack.{bracket_of, stacked}
use Rattle.hc_parse.proofs.Stacks.{around-some}
use Rattle.hc_parse.proofs.levels.Levels.has_open.Goals as goal

pub returns : goal.returns
returns c =
    let s = c.self.inside in
    let k = bracket_of c.args.bracket in
    ap (nat_lt 0) (c.number.ensures ∙ c.self.invariant.are_open k)
    ∙ sym (around-some k (stacked s.stack.items s.count))
    ∙ ap (λ ls. is_some (around k ls)) c.self.view_is
