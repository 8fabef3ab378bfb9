-- What is read of a form that began before the cursor, by functions that read only a part of it.
use Rattle.std.specs.Prelude.{◌≡◌, ◌≢◌, ◌≤◌, ◌<◌, ◌++◌, Bool, true, false, List, ◌∷◌, length, Option, Some, None, Result, Ok, Err, option_map}
use Rattle.hc_tree.specs.declared.stmt.Order.{Order}
use Rattle.hc_tree.specs.declared.stmt.Order.TheVariants as order
use Rattle.hc_tree.specs.declared.stmt.Condition.{Condition}
use Rattle.hc_tree.specs.declared.stmt.Condition.TheVariants as condition
use Rattle.hc_tree.specs.declared.place.Place.{Place}
use Rattle.hc_tree.specs.declared.stmt.Block.{Block}
use Rattle.hc_tree.specs.declared.stmt.Label.{Label}
use Rattle.hc_tree.specs.declared.stmt.Stmt.{Stmt}
use Rattle.hc_tree.specs.declared.stmt.Stmt.TheVariants as s
use Rattle.hc_parse.specs.declared.for_loop.ForHead.{ForHead}
use Rattle.hc_parse.specs.declared.for_loop.ForRest.{ForRest}
use Rattle.hc_lex.specs.declared.mark.Mark.TheVariants as m
use Rattle.hc_lex.specs.declared.token.Placed.{Placed}
use Rattle.hc_grammar.specs.declared.kind.Kind.{Kind}
use Rattle.hc_grammar.specs.declared.kind.Kind.TheVariants as k
use Rattle.hc_grammar.specs.declared.halt.Halt.{Halt}
use Rattle.hc_grammar.specs.Kind.{kind, is_name}
use Rattle.hc_grammar.specs.Table.{mark, form, Values, Reads, Stops, front}
use Rattle.hc_grammar.specs.Form as f
use Rattle.hc_grammar.specs.Form.{Form, Gives, ArmTail}
use Rattle.hc_grammar.specs.Grammar.{grammar}
use Rattle.hc_grammar.specs.Cursor.{Ahead}
use Rattle.hc_grammar.specs.Answers.{Halts}
use Rattle.hc_grammar.specs.Statement.{begins_decl}
use Rattle.hc_grammar.specs.Walk.{Row, Walked}

-- what the next token is to the grammar, or none at the end
abbrev pub next_kind : Ahead → Option Kind
next_kind c = option_map kind (front c.rest)

-- whether the next token is such a one
abbrev pub begins : (Kind → Bool) → Option Kind → Bool
begins p None = false
begins p (Some word) = p word

-- whether a declaration or a macro begins
unfoldable pub begins_local : Kind → Bool
begins_local k.Macro = true
begins_local word = begins_decl word

-- whether a label begins, where a `default` was read before or not
unfoldable pub begins_label : Bool → Kind → Bool
begins_label has_default k.Case = true
begins_label false k.Default = true
begins_label has_default word = false

-- a word with which a statement begins, or a name
unfoldable pub begins_worded : Kind → Bool
begins_worded k.Seq = true
begins_worded k.Par = true
begins_worded k.Delay = true
begins_worded k.If = true
begins_worded k.IfSelect = true
begins_worded k.While = true
begins_worded k.Do = true
begins_worded k.For = true
begins_worded k.Switch = true
begins_worded k.Prialt = true
begins_worded word = is_name word

-- `++` or `--`
unfoldable pub is_step : Kind → Bool
is_step (k.Mark m.Increment) = true
is_step (k.Mark m.Decrement) = true
is_step word = false

-- what stands behind a name that is written to, or is refused there
unfoldable pub begins_written : Kind → Bool
begins_written (k.Mark m.Not) = false
begins_written (k.Mark m.Question) = false
begins_written (k.Mark m.ParenOpen) = false
begins_written word = true

-- the word before a condition
abbrev pub condition_word : Condition → Kind
condition_word condition.If = k.If
condition_word condition.IfSelect = k.IfSelect

-- the word before a block or a replicator
abbrev pub order_word : Order → Kind
order_word order.Seq = k.Seq
order_word order.Par = k.Par

-- a block behind that word
abbrev pub in_order : Order → Place → Block → Stmt
in_order order.Seq at body = s.Seq at body
in_order order.Par at body = s.Par at body

-- ---- the first parts of a row

-- Whatever form's row has these parts next, they are read, and the row goes on behind them with their value; or it stops.
abbrev pub Passes : (parts : Row → Row) {B : Type 0} → ((row : Row) → B → Values Gives row → Values Gives (parts row)) → Ahead → Result B Halt → Ahead → Type 0
Passes parts put old (Ok b) new =
    ((x : Form) (begun : Ahead) (row : Row) (gives : Values Gives (parts row) → Gives x) → Walked x begun (parts row) gives old → Walked x begun row (λ vs. gives (put row b vs)) new)
    × (length new.rest < length old.rest)
Passes parts put old (Err halt) new =
    (x : Form) (begun : Ahead) (row : Row) (gives : Values Gives (parts row) → Gives x) → Walked x begun (parts row) gives old → Halts x begun halt new

-- `( expr )`
abbrev pub PassesBrackets : Ahead → Result (Gives f.expr) Halt → Ahead → Type 0
PassesBrackets = Passes (λ row. mark (k.Mark m.ParenOpen) ∷ form f.expr ∷ mark (k.Mark m.ParenClose) ∷ row) (λ row e vs. (e, vs))

-- a form and the mark behind it
abbrev pub PassesBefore : (x : Form) → Kind → Ahead → Result (Gives x) Halt → Ahead → Type 0
PassesBefore x k = Passes (λ row. form x ∷ mark k ∷ row) (λ row v vs. (v, vs))

-- `[ expr ] ; [ simple ] )`, where the bracket is written
abbrev pub PassesForRest : Ahead → Result ForRest Halt → Ahead → Type 0
PassesForRest = Passes (λ row. form f.opt_expr ∷ mark (k.Mark m.Semicolon) ∷ form f.opt_simple ∷ mark (k.Mark m.ParenClose) ∷ row)
    (λ row rest vs. (rest.condition, (rest.step, vs)))

-- `( [ simple ] ; [ expr ] ; [ simple ] )`, where the outer brackets are written
abbrev pub PassesForHead : Ahead → Result ForHead Halt → Ahead → Type 0
PassesForHead = Passes (λ row. mark (k.Mark m.ParenOpen) ∷ form f.opt_simple ∷ mark (k.Mark m.Semicolon) ∷ form f.opt_expr ∷ mark (k.Mark m.Semicolon)
    ∷ form f.opt_simple ∷ mark (k.Mark m.ParenClose) ∷ row) (λ row head vs. (head.first, (head.rest.condition, (head.rest.step, vs))))

-- `break ;`, or nothing where no `break` stands
abbrev pub PassesBreak : Ahead → Result Bool Halt → Ahead → Type 0
PassesBreak old (Ok true) new =
    (next_kind old ≡ Some k.Break) × Passes (λ row. mark k.Break ∷ mark (k.Mark m.Semicolon) ∷ row) {B = Unit {0}} (λ row u vs. vs) old (Ok tt) new
PassesBreak old (Ok false) new = (next_kind old ≢ Some k.Break) × (new ≡ old)
PassesBreak old (Err halt) new =
    (next_kind old ≡ Some k.Break) × Passes (λ row. mark k.Break ∷ mark (k.Mark m.Semicolon) ∷ row) {B = Unit {0}} (λ row u vs. vs) old (Err halt) new

-- ---- the parts of a list

-- What is read of `y` from the cursor on is, applied, what is read of `x` from the beginning; and where `y` stops, `x` does.
pub record GoesOn (x : Form) (old : Ahead) (y : Form) (gives : Gives y → Gives x) (now : Ahead) : Type 0 where
  pub reads : (v : Gives y) (rest : List Placed) → Reads grammar y now.rest v rest → Reads grammar x old.rest (gives v) rest
  pub stops : (rest : List Placed) → Stops grammar y now.rest rest → Stops grammar x old.rest rest
  pub end : now.end ≡ old.end
  pub shorter : length now.rest ≤ length old.rest

-- a part of `x` is read, and `y` is what is left of it; or `x` stops
abbrev pub AnswersPart : (x y : Form) {B : Type 0} → (B → Gives y → Gives x) → Ahead → Result B Halt → Ahead → Type 0
AnswersPart x y put old (Ok b) new = GoesOn x old y (put b) new × (length new.rest < length old.rest)
AnswersPart x y put old (Err halt) new = Halts x old halt new

-- the form's value is what is made of the answer
abbrev pub AnswersAs : (x : Form) {B : Type 0} → (B → Gives x) → Ahead → Result B Halt → Ahead → Type 0
AnswersAs x make old (Ok b) new = Reads grammar x old.rest (make b) new.rest × (new.end ≡ old.end)
AnswersAs x make old (Err halt) new = Halts x old halt new

-- a part of `x` is read, and with a `break` at its end `y` is what is left of it, without one nothing
abbrev pub AnswersTurn : (x y : Form) {B : Type 0} → (B → Gives y → Gives x) → (B → Gives x) → Ahead → Result (B × Bool) Halt → Ahead → Type 0
AnswersTurn x y put last old (Ok (b, true)) new = GoesOn x old y (put b) new × (length new.rest < length old.rest)
AnswersTurn x y put last old (Ok (b, false)) new = Reads grammar x old.rest (last b) new.rest × (new.end ≡ old.end)
AnswersTurn x y put last old (Err halt) new = Halts x old halt new

-- labels before those of a tail
abbrev pub with_labels : List Label → ArmTail → ArmTail
with_labels labels tail = record { labels = labels ++ tail.labels; stmts = tail.stmts; has_break = tail.has_break; arms = tail.arms }

-- all labels at the cursor are read
abbrev pub AnswersLabels : (before after : Bool) → Ahead → Result (List Label) Halt → Ahead → Type 0
AnswersLabels before after old (Ok labels) new =
    GoesOn (f.arm_tail before) old (f.arm_tail after) (with_labels labels) new × (begins (begins_label after) (next_kind new) ≡ false)
AnswersLabels before after old (Err halt) new = Halts (f.arm_tail before) old halt new
