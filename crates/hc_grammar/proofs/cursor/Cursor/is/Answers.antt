use Rattle.std.proofs.Common.{Some, sym, ap, ◌∙◌, arith}
use Rattle.std.specs.Prelude.{option_map}
use Rattle.hc_grammar.specs.Cursor.{Ahead}
use Rattle.hc_grammar.specs.Kind.{kind}
use Rattle.hc_grammar.specs.Table.{front}
use Rattle.hc_grammar.proofs.Same.{same}
use Rattle.hc_grammar.proofs.cursor.Cursor.is.Goals as goal

pub returns-in-Some-clause-yes : goal.returns-in-Some-clause-yes
returns-in-Some-clause-yes c = λ h. ap (λ (a : Ahead). option_map kind (front a.rest)) (sym c.self.view_is) ∙ sym c.self.invariant ∙ c.in-Some.is
    ∙ ap Some (same c.in-Some.next c.args.kind (sym c.number.ensures ∙ grind (arith, h) ∙ c.number-in-Some.ensures))
