use Rattle.std.proofs.Common.{◌∙◌, ap}
use Rattle.hc_grammar.specs.Nesting.{Round, Square, Curly}
use Rattle.hc_parse.specs.declared.open.Opened.TheVariants as o
use Rattle.hc_parse.specs.declared.role.Bracket.TheVariants as b
use Rattle.hc_parse.proofs.Stacks.{at_least}
use Rattle.hc_parse.proofs.open.OpenBrackets.without.Goals as goal

pub overflow_sub-open : goal.overflow_sub-open
overflow_sub-open c =
    let e = rw c.in-By-Round.is at c.in-By-Round.field-0-is in
    at_least Round c.args.opened (o.By b.Round) c.args.self.round (c.in-By-Round.is ∙ ap o.By e) (c.requires Round)

pub overflow_sub-open-in-By-Square : goal.overflow_sub-open-in-By-Square
overflow_sub-open-in-By-Square c =
    let e = rw c.in-By-Square.is at c.in-By-Square.field-0-is in
    at_least Square c.args.opened (o.By b.Square) c.args.self.square (c.in-By-Square.is ∙ ap o.By e) (c.requires Square)

pub overflow_sub-open-in-By-Curly : goal.overflow_sub-open-in-By-Curly
overflow_sub-open-in-By-Curly c =
    let e = rw c.in-By-Curly.is at c.in-By-Curly.field-0-is in
    at_least Curly c.args.opened (o.By b.Curly) c.args.self.curly (c.in-By-Curly.is ∙ ap o.By e) (c.requires Curly)
