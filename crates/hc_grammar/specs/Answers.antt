-- What a function that reads a form ensures, with the tokens before and after it.
use Rattle.std.specs.Prelude.{◌≡◌, Result, Ok, Err}
use Rattle.hc_grammar.specs.declared.halt.Halt.{Halt}
use Rattle.hc_grammar.specs.declared.halt.Halt.TheVariants.{Refused, NoMemory}
use Rattle.hc_grammar.specs.Table.{Reads, Stops}
use Rattle.hc_grammar.specs.Form.{Form, Gives}
use Rattle.hc_grammar.specs.Grammar.{grammar}
use Rattle.hc_grammar.specs.Cursor.{Ahead}

-- The form stops at the cursor, or memory is short. The place of the end stays.
abbrev pub Halts : Form → Ahead → Halt → Ahead → Type 0
Halts x old (Refused last) new = Stops grammar x old.rest new.rest × (new.end ≡ old.end)
Halts x old NoMemory new = Unit {0}

-- The form is read, and its value, applied, is the answer; or it stops at the cursor. The place of the end stays.
abbrev pub AnswersTo : (x : Form) {B : Type 0} → (Gives x → B) → Ahead → Result B Halt → Ahead → Type 0
AnswersTo x apply old (Ok b) new = (v : Gives x) × Reads grammar x old.rest v new.rest × (b ≡ apply v) × (new.end ≡ old.end)
AnswersTo x apply old (Err halt) new = Halts x old halt new

-- the answer is the form's value itself
abbrev pub Answers : (x : Form) → Ahead → Result (Gives x) Halt → Ahead → Type 0
Answers x old (Ok v) new = Reads grammar x old.rest v new.rest × (new.end ≡ old.end)
Answers x old (Err halt) new = Halts x old halt new

-- the form is read, and its value, applied, is what was made of what the caller lent
abbrev pub AnswersIn : (x : Form) {B : Type 0} → (Gives x → B) → Ahead → Result (Unit {0}) Halt → B → Ahead → Type 0
AnswersIn x apply old (Ok u) made new = (v : Gives x) × Reads grammar x old.rest v new.rest × (made ≡ apply v) × (new.end ≡ old.end)
AnswersIn x apply old (Err halt) made new = Halts x old halt new
