-- What stands in a case before its statements.
use Rattle.std.specs.Prelude.{◌∷◌, Result}
use Rattle.hc_lex.specs.declared.mark.Mark.TheVariants as m
use Rattle.hc_grammar.specs.declared.kind.Kind.TheVariants as k
use Rattle.hc_grammar.specs.declared.halt.Halt.{Halt}
use Rattle.hc_grammar.specs.Table.{mark, form}
use Rattle.hc_grammar.specs.Form as f
use Rattle.hc_grammar.specs.Cursor.{Ahead}
use Rattle.hc_parse.specs.declared.prialt.CaseHead.{CaseHead}
use Rattle.hc_parse.specs.Turn.{Passes}

-- `name ( ! expr | ? target ) :`
abbrev pub PassesCaseHead : Ahead → Result CaseHead Halt → Ahead → Type 0
PassesCaseHead = Passes (λ row. form f.name ∷ form f.offer ∷ mark (k.Mark m.Colon) ∷ row) (λ row head vs. (head.channel, (head.offer, vs)))
