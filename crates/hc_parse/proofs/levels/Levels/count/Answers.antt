use Rattle.std.proofs.Common.{◌∙◌, ap, sym, arith, reverse}
use Rattle.hc_grammar.specs.Nesting.{nesting, counted}
use Rattle.hc_parse.proofs.Stacks.{count-le, counts-count, counted-levels}
use Rattle.hc_parse.proofs.levels.Levels.count.Goals as goal

pub overflow_add-self : goal.overflow_add-self
overflow_add-self c =
    let s = c.self.inside in
    omega (arith, count-le s.stack.items s.count s.depth s.brackets c.self.invariant, c.self.invariant.is_nesting, ap nesting c.self.view_is, c.requires)

pub overflow_add-self-2 : goal.overflow_add-self-2
overflow_add-self-2 c = omega (arith, c.self.invariant.is_nesting, ap nesting c.self.view_is, c.requires)

pub invariant_of-self : goal.invariant_of-self
invariant_of-self c = let s = c.self.inside in counts-count s.stack.items s.count s.depth s.brackets c.self.invariant

pub returns : goal.returns
returns c = let s = c.self.inside in sym (counted-levels (reverse s.stack.items) s.count) ∙ ap counted c.self.view_is
