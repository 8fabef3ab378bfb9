-- The words of a type before its size.
use Rattle.std.specs.Prelude.{◌≡◌, [], ◌∷◌, Option, Some, None}
use Rattle.hc_tree.specs.declared.expr.Size.{Size}
use Rattle.hc_grammar.specs.Table.{form, Stops}
use Rattle.hc_grammar.specs.Form as f
use Rattle.hc_grammar.specs.Form.{Form, Gives}
use Rattle.hc_grammar.specs.Grammar.{grammar}
use Rattle.hc_grammar.specs.Cursor.{Ahead}
use Rattle.hc_grammar.specs.Walk.{Walked}
use Rattle.hc_exparse.specs.declared.part.TypeHead.{TypeHead}

-- The words are read, and a size is all that is left of the form; or the form stops at the cursor.
abbrev pub ReadsHead : (x : Form) → (TypeHead → Size → Gives x) → Ahead → Option TypeHead → Ahead → Type 0
ReadsHead x make old (Some head) new = Walked x old (form f.size ∷ []) (λ (n, _). make head n) new
ReadsHead x make old None new = Stops grammar x old.rest new.rest × (new.end ≡ old.end)
