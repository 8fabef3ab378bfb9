-- Ways out of functions that read declarations and what is written, beside those of every form.
use Rattle.std.proofs.Common.{[], ◌∷◌, Ok, Err, Result}
use Rattle.hc_grammar.specs.declared.halt.Halt.{Halt}
use Rattle.hc_grammar.specs.Table.{form}
use Rattle.hc_grammar.specs.Form.{Form, Gives}
use Rattle.hc_grammar.specs.Cursor.{Ahead}
use Rattle.hc_grammar.specs.Answers.{Answers, AnswersTo}
use Rattle.hc_grammar.specs.Walk.{Walked, form_read, finished, finished_to, halted}

-- the last part gives the whole of what was read before it
pub passed_on : {x tail : Form} {old now : Ahead} (gives : Gives tail → Gives x) → Walked x old (form tail ∷ []) (λ (v, _). gives v) now
    → (new : Ahead) (result : Result (Gives x) Halt) → AnswersTo tail gives now result new → Answers x old result new
passed_on gives w new (Ok v) a = finished (form_read w a.1 a.3) a.2
passed_on gives w new (Err halt) h = halted w new halt h

-- likewise where what was read is applied to what stands before it
pub passed_to : {x tail : Form} {B : Type 0} {old now : Ahead} (gives : Gives tail → Gives x) (apply : Gives x → B) → Walked x old (form tail ∷ []) (λ (v, _). gives v) now
    → (new : Ahead) (result : Result B Halt) → AnswersTo tail (λ v. apply (gives v)) now result new → AnswersTo x apply old result new
passed_to gives apply w new (Ok b) a = finished_to (form_read w a.1 a.3) a.2
passed_to gives apply w new (Err halt) h = halted w new halt h
