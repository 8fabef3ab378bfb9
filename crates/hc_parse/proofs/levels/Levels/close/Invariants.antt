use Rattle.std.proofs.Common.{◌≡◌}
use Rattle.hc_grammar.specs.Nesting.{around}
use Rattle.hc_parse.specs.Stack.{bracket_of}
use Rattle.hc_parse.proofs.Stacks.{height}
use Rattle.hc_parse.proofs.levels.Levels.close.Given as goal

abbrev pub invariant-loop-opened : goal.invariant-loop-opened
invariant-loop-opened l = around (bracket_of l.bracket) l.self ≡ around (bracket_of l.bracket) l.initial.self

abbrev pub decreases-loop-opened : goal.decreases-loop-opened
decreases-loop-opened l = height l.self
