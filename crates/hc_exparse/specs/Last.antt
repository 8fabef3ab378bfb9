-- What a function of this crate ensures where it keeps, beside its answer, how many of the tokens are the longest whole form.
use Rattle.std.specs.Prelude.{◌≡◌, ◌≢◌, ◌⊎◌, ◌≤◌, ◌-◌, ℕ, ◌∷◌, Option, Some, None, Result, Ok, Err}
use Rattle.hc_tree.specs.declared.expr.ExprTree.{ExprTree}
use Rattle.hc_grammar.specs.declared.kind.Kind.{Kind}
use Rattle.hc_grammar.specs.declared.halt.Halt.{Halt}
use Rattle.hc_grammar.specs.declared.halt.Halt.TheVariants.{Refused, NoMemory}
use Rattle.hc_lex.specs.declared.token.Placed.{Placed}
use Rattle.hc_grammar.specs.Kind.{kind}
use Rattle.hc_grammar.specs.Table.{Reads, Stops}
use Rattle.hc_grammar.specs.Form as f
use Rattle.hc_grammar.specs.Form.{Form, Gives}
use Rattle.hc_grammar.specs.Grammar.{grammar}
use Rattle.hc_grammar.specs.Cursor.{Ahead}
use Rattle.hc_exparse.specs.Ops.{next_kind}
use Rattle.hc_grammar.specs.Last.{StopsAt, behind, or_zero}

-- The form stops at the cursor, and the number is how many of the tokens are the longest one; or memory is short.
abbrev pub HaltsLast : Form → Ahead → Halt → Ahead → Type 0
HaltsLast x old (Refused last) new = StopsAt grammar x old.rest new.rest last × (new.end ≡ old.end)
HaltsLast x old NoMemory new = Unit {0}

-- the form is read, and its value, applied, is the answer; or it stops at the cursor
abbrev pub AnswersLastTo : (x : Form) {B : Type 0} → (Gives x → B) → Ahead → Result B Halt → Ahead → Type 0
AnswersLastTo x apply old (Ok b) new = (v : Gives x) × Reads grammar x old.rest v new.rest × (b ≡ apply v) × (new.end ≡ old.end)
AnswersLastTo x apply old (Err halt) new = HaltsLast x old halt new

-- the answer is the form's value itself
abbrev pub AnswersLast : (x : Form) → Ahead → Result (Gives x) Halt → Ahead → Type 0
AnswersLast x old (Ok v) new = Reads grammar x old.rest v new.rest × (new.end ≡ old.end)
AnswersLast x old (Err halt) new = HaltsLast x old halt new

-- the form's value is what is made of the answer
abbrev pub AnswersLastAs : (x : Form) {B : Type 0} → (B → Gives x) → Ahead → Result B Halt → Ahead → Type 0
AnswersLastAs x make old (Ok b) new = Reads grammar x old.rest (make b) new.rest × (new.end ≡ old.end)
AnswersLastAs x make old (Err halt) new = HaltsLast x old halt new

-- no expression is read, or another token than the mark, or the end, stands behind it
abbrev pub HaltsBefore : Kind → Ahead → Halt → Ahead → Type 0
HaltsBefore k old (Refused last) new =
    (Stops grammar f.expr old.rest new.rest ⊎ ((v : ExprTree) × Reads grammar f.expr old.rest v new.rest × (next_kind new ≢ Some k))) × (last ≡ None) × (new.end ≡ old.end)
HaltsBefore k old NoMemory new = Unit {0}

-- an expression and the mark behind it are read; no number is kept where they aren't
abbrev pub AnswersBefore : Kind → Ahead → Result ExprTree Halt → Ahead → Type 0
AnswersBefore k old (Ok v) new = (t : Placed) × Reads grammar f.expr old.rest v (t ∷ new.rest) × (kind t ≡ k) × (new.end ≡ old.end)
AnswersBefore k old (Err halt) new = HaltsBefore k old halt new

-- a refusal with this number in place of its own
abbrev pub with_last : Option ℕ → Halt → Halt
with_last last (Refused other) = Refused last
with_last last NoMemory = NoMemory

-- a refusal of a form that may be empty: its number is at least 0
abbrev pub halt_or_zero : Halt → Halt
halt_or_zero (Refused last) = Refused (or_zero last)
halt_or_zero NoMemory = NoMemory

-- the refusal of a part with `at` tokens left, for a form that began with `before` left
abbrev pub halt_later : ℕ → ℕ → Halt → Halt
halt_later before at (Refused last) = Refused (behind (before - at) last)
halt_later before at NoMemory = NoMemory

-- the number is of tokens that are left
abbrev pub IsWithin : ℕ → Halt → Type 0
IsWithin at (Refused (Some k)) = k ≤ at
IsWithin at (Refused None) = Unit {0}
IsWithin at NoMemory = Unit {0}

-- a value is made, or memory is short
abbrev pub Makes : {B : Type 0} → Result B Halt → B → Type 0
Makes (Ok made) v = made ≡ v
Makes (Err (Refused last)) v = ⊥
Makes (Err NoMemory) v = Unit {0}
