-- Whether an array or memory has initial values, by what may be written and by the token behind its length.
use Rattle.std.specs.Prelude.{◌≡◌, ◌≢◌, Option, Some}
use Rattle.hc_lex.specs.declared.mark.Mark.TheVariants.{Assign}
use Rattle.hc_grammar.specs.declared.kind.Kind.{Kind}
use Rattle.hc_grammar.specs.declared.kind.Kind.TheVariants.{Mark}
use Rattle.hc_grammar.specs.Form as form
use Rattle.hc_parse.specs.declared.memories.Initial.{Initial}
use Rattle.hc_parse.specs.declared.memories.Initial.TheVariants.{Never, Maybe, Always}

-- what the code's kinds of initial values stand for
abbrev pub initial : Initial → form.Initial
initial Never = form.Never
initial Maybe = form.Maybe
initial Always = form.Always

-- no values are written before this token
abbrev pub HasNone : Initial → Option Kind → Type 0
HasNone Never next = Unit {0}
HasNone Maybe next = next ≢ Some (Mark Assign)
HasNone Always next = ⊥

-- values begin at this token, or must
abbrev pub HasValues : Initial → Option Kind → Type 0
HasValues Never next = ⊥
HasValues Maybe next = next ≡ Some (Mark Assign)
HasValues Always next = Unit {0}
