use Rattle.std.proofs.Common.{◌∙◌, ap, sym, reverse}
use Rattle.hc_grammar.specs.Nesting.{restarted}
use Rattle.hc_parse.proofs.Stacks.{count-le, counts-restart, restarted-levels}
use Rattle.hc_parse.proofs.levels.Levels.restart.Goals as goal

pub overflow_sub-self : goal.overflow_sub-self
overflow_sub-self c = let s = c.self.inside in count-le s.stack.items s.count s.depth s.brackets c.self.invariant

pub invariant_of-self : goal.invariant_of-self
invariant_of-self c = let s = c.self.inside in counts-restart s.stack.items s.count s.depth s.brackets c.self.invariant

pub returns : goal.returns
returns c = let s = c.self.inside in sym (restarted-levels (reverse s.stack.items) s.count) ∙ ap restarted c.self.view_is
