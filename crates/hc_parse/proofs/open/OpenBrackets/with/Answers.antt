use Rattle.std.proofs.Common.{arith}
use Rattle.hc_grammar.specs.Nesting.{Round, Square, Curly}
use Rattle.hc_parse.proofs.open.OpenBrackets.with.Goals as goal

pub overflow_add-open : goal.overflow_add-open
overflow_add-open c = omega (arith, c.requires Round)

pub overflow_add-open-in-By-Square : goal.overflow_add-open-in-By-Square
overflow_add-open-in-By-Square c = omega (arith, c.requires Square)

pub overflow_add-open-in-By-Curly : goal.overflow_add-open-in-By-Curly
overflow_add-open-in-By-Curly c = omega (arith, c.requires Curly)
