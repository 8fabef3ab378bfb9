-- The words of a type before its size, where they stand behind another word.
use Rattle.std.proofs.Common.{[], ◌∷◌, Option, Some, None, ◌∙◌}
use Rattle.hc_tree.specs.declared.expr.Size.{Size}
use Rattle.hc_tree.specs.declared.expr.«Type».{«Type»}
use Rattle.hc_grammar.specs.Table.{form, part, done, at_form}
use Rattle.hc_grammar.specs.Form as f
use Rattle.hc_grammar.specs.Form.{Form, Gives}
use Rattle.hc_grammar.specs.Cursor.{Ahead}
use Rattle.hc_grammar.specs.Walk.{Walked}
use Rattle.hc_exparse.specs.declared.part.TypeHead.{TypeHead}
use Rattle.hc_exparse.specs.Heads.{ReadsHead}

inner : {x tail : Form} {old now new : Ahead} (gives : Gives tail → Gives x) (make : Size → Gives tail) → Walked x old (form tail ∷ []) (λ (v, _). gives v) now
    → Walked tail now (form f.size ∷ []) (λ (n, _). make n) new → Walked x old (form f.size ∷ []) (λ (n, _). gives (make n)) new
inner gives make w i = record {
  reads = λ (n, u) rest row. w.reads (make n, tt) rest (part rest (i.reads (n, u) rest row) done);
  stops = λ rest row. w.stops rest (at_form (i.stops rest row));
  end = i.end ∙ w.end;
}

-- behind `unsigned` or `signed`
pub in_tail : (tail : Form) (make : TypeHead → Size → Gives tail) (old now new : Ahead) (result : Option TypeHead) (gives : Gives tail → «Type»)
    → Walked f.type old (form tail ∷ []) (λ (v, _). gives v) now → ReadsHead tail make now result new → ReadsHead f.type (λ head n. gives (make head n)) old result new
in_tail tail make old now new (Some head) gives w i = inner gives (make head) w i
in_tail tail make old now new None gives w (s, same) = (w.stops new.rest (at_form s), same ∙ w.end)
