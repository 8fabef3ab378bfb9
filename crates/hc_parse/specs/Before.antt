-- What a function ensures that reads a form and the mark behind it.
use Rattle.std.specs.Prelude.{◌≡◌, [], ◌∷◌, Result, Ok, Err}
use Rattle.hc_grammar.specs.declared.kind.Kind.{Kind}
use Rattle.hc_grammar.specs.declared.halt.Halt.{Halt}
use Rattle.hc_grammar.specs.declared.halt.Halt.TheVariants.{Refused, NoMemory}
use Rattle.hc_grammar.specs.Table.{mark, form, ReadsRow, StopsRow}
use Rattle.hc_grammar.specs.Form.{Form, Gives}
use Rattle.hc_grammar.specs.Grammar.{grammar}
use Rattle.hc_grammar.specs.Cursor.{Ahead}

-- the form or the mark stops at the cursor, or memory is short
abbrev pub HaltsBefore : Form → Kind → Ahead → Halt → Ahead → Type 0
HaltsBefore x k old (Refused last) new = StopsRow grammar (form x ∷ mark k ∷ []) old.rest new.rest × (new.end ≡ old.end)
HaltsBefore x k old NoMemory new = Unit {0}

-- the form and the mark are read, and the answer is the form's value
abbrev pub AnswersBefore : (x : Form) → Kind → Ahead → Result (Gives x) Halt → Ahead → Type 0
AnswersBefore x k old (Ok v) new = ReadsRow grammar (form x ∷ mark k ∷ []) old.rest (v, tt) new.rest × (new.end ≡ old.end)
AnswersBefore x k old (Err halt) new = HaltsBefore x k old halt new
