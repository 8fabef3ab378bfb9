use Rattle.std.proofs.Common.{ap, arith}
use Rattle.hc_grammar.specs.Nesting.{nesting}
use Rattle.hc_parse.specs.Stack.{stacked}
use Rattle.hc_parse.proofs.Stacks.{number-le}
use Rattle.hc_parse.proofs.levels.Levels.open.Goals as goal

pub with-self-inside-requires : goal.with-self-inside-requires
with-self-inside-requires c k =
    let s = c.self.inside in
    omega (arith, number-le k (stacked s.stack.items s.count) s.depth s.brackets c.self.invariant, c.self.invariant.is_nesting, ap nesting c.self.view_is, c.requires)
