-- The rules of expressions and types (this project's profile of Handel-C).
use Rattle.std.specs.Prelude.{ℕ, zero, suc, Bool, true, false, ◌==◌, if◌then◌else◌, [], ◌∷◌, Option, Some, None}
use Rattle.hc_tree.specs.declared.expr.ExprTree.TheVariants as e
use Rattle.hc_tree.specs.declared.expr.«Type».TheVariants as type
use Rattle.hc_tree.specs.declared.expr.Size.TheVariants as size
use Rattle.hc_tree.specs.declared.expr.UnaryOp.{UnaryOp}
use Rattle.hc_tree.specs.declared.expr.UnaryOp.TheVariants as before
use Rattle.hc_tree.specs.declared.expr.BinaryOp.{BinaryOp}
use Rattle.hc_tree.specs.declared.expr.BinaryOp.TheVariants as op
use Rattle.hc_lex.specs.declared.mark.Mark.{Mark}
use Rattle.hc_lex.specs.declared.mark.Mark.TheVariants as m
use Rattle.hc_lex.specs.declared.token.Placed.{Placed}
use Rattle.hc_grammar.specs.declared.kind.Kind.{Kind}
use Rattle.hc_grammar.specs.declared.kind.Kind.TheVariants as k
use Rattle.hc_grammar.specs.Kind.{kind, is_name, bytes_of, number_of}
use Rattle.hc_grammar.specs.Table.{Part, mark, form, Rule}
use Rattle.hc_grammar.specs.Form as f
use Rattle.hc_grammar.specs.Form.{Form, Gives}

-- the rules of a form by the token at its front; without a token it has the first of these
abbrev pub Rules : Form → Type 0
Rules x = Option (Rule Kind Gives x)

abbrev pub by_front : {x : Form} → Rules x → (Placed → Kind → Rules x) → Option Placed → Rules x
by_front at_end rules None = at_end
by_front at_end rules (Some t) = rules t (kind t)

abbrev pub sign : Mark → Part Kind Form
sign m = mark (k.Mark m)

-- the empty row, with its value
abbrev pub empty : {x : Form} → Gives x → Rules x
empty {x} v = Some (record { row = []; gives = λ _. v })

-- a name, a text
unfoldable pub name_rule : Option Placed → Rules f.name
name_rule = by_front None (λ t kind. if is_name kind
    then Some (record { row = mark kind ∷ []; gives = λ _. record { place = t.place; name = bytes_of t.token } }) else None)

abbrev pub text_by : Placed → Kind → Rules f.text
text_by t k.Text = Some (record { row = mark k.Text ∷ []; gives = λ _. bytes_of t.token })
text_by t _ = None

unfoldable pub text_rule : Option Placed → Rules f.text
text_rule = by_front None text_by

-- ---- expressions: twelve levels of binary operators, and `? :` below them

unfoldable pub expr_rule : Option Placed → Rules f.expr
expr_rule = by_front None (λ t kind. Some (record { row = form (f.binary 12) ∷ form f.choice_tail ∷ []; gives = λ (c, (tail, _)). tail t.place c }))

-- `? expr : expr` groups to the right
abbrev pub choice_by : Placed → Kind → Rules f.choice_tail
choice_by t (k.Mark m.Question) = Some (record {
  row = sign m.Question ∷ form f.expr ∷ sign m.Colon ∷ form f.expr ∷ [];
  gives = λ (a, (b, _)) at c. e.Choice at c a b;
})
choice_by t _ = empty (λ at c. c)

unfoldable pub choice_tail_rule : Option Placed → Rules f.choice_tail
choice_tail_rule = by_front (empty (λ at c. c)) choice_by

-- the level on which a mark stands between two operands, from 1 for the strongest, and its operator
unfoldable pub binary_op : Kind → Option (ℕ × BinaryOp)
binary_op (k.Mark m.Take) = Some (1, op.Take)
binary_op (k.Mark m.Drop) = Some (1, op.Drop)
binary_op (k.Mark m.Star) = Some (2, op.Multiply)
binary_op (k.Mark m.Slash) = Some (2, op.Divide)
binary_op (k.Mark m.Percent) = Some (2, op.Remainder)
binary_op (k.Mark m.Plus) = Some (3, op.Add)
binary_op (k.Mark m.Minus) = Some (3, op.Subtract)
binary_op (k.Mark m.At) = Some (4, op.Concat)
binary_op (k.Mark m.ShiftLeft) = Some (5, op.ShiftLeft)
binary_op (k.Mark m.ShiftRight) = Some (5, op.ShiftRight)
binary_op (k.Mark m.Less) = Some (6, op.Less)
binary_op (k.Mark m.LessEqual) = Some (6, op.LessEqual)
binary_op (k.Mark m.Greater) = Some (6, op.Greater)
binary_op (k.Mark m.GreaterEqual) = Some (6, op.GreaterEqual)
binary_op (k.Mark m.Equal) = Some (7, op.Equal)
binary_op (k.Mark m.NotEqual) = Some (7, op.NotEqual)
binary_op (k.Mark m.And) = Some (8, op.BitAnd)
binary_op (k.Mark m.Xor) = Some (9, op.BitXor)
binary_op (k.Mark m.Or) = Some (10, op.BitOr)
binary_op (k.Mark m.AndAnd) = Some (11, op.Both)
binary_op (k.Mark m.OrOr) = Some (12, op.Either)
binary_op _ = None

-- operands of a level are expressions of the level above it; below the first they are unary
abbrev pub binary_by : (n : ℕ) → Placed → Kind → Rules (f.binary n)
binary_by zero t kind = Some (record { row = form f.unary ∷ []; gives = λ (a, _). a })
binary_by (suc n) t kind = Some (record { row = form (f.binary n) ∷ form (f.binary_tail (suc n)) ∷ []; gives = λ (a, (tail, _)). tail t.place a })

unfoldable pub binary_rule : (n : ℕ) → Option Placed → Rules (f.binary n)
binary_rule n = by_front None (binary_by n)

-- operators of one level group to the left
abbrev pub operand_of : ℕ → ℕ
operand_of zero = zero
operand_of (suc n) = n

abbrev pub binary_tail_by : (n : ℕ) → Kind → Option (ℕ × BinaryOp) → Rules (f.binary_tail n)
binary_tail_by n kind None = empty (λ at a. a)
binary_tail_by n kind (Some (level, op)) = if level == n
    then Some (record {
      row = mark kind ∷ form (f.binary (operand_of n)) ∷ form (f.binary_tail n) ∷ [];
      gives = λ (b, (tail, _)) at a. tail at (e.Binary at a op b);
    })
    else empty (λ at a. a)

unfoldable pub binary_tail_rule : (n : ℕ) → Option Placed → Rules (f.binary_tail n)
binary_tail_rule n = by_front (empty (λ at a. a)) (λ t kind. binary_tail_by n kind (binary_op kind))

unfoldable pub unary_op : Kind → Option UnaryOp
unary_op (k.Mark m.Not) = Some before.Not
unary_op (k.Mark m.Tilde) = Some before.Complement
unary_op (k.Mark m.Minus) = Some before.Negate
unary_op _ = None

abbrev pub operand_by : Placed → Kind → Rules f.unary
operand_by t (k.Mark m.ParenOpen) = Some (record { row = sign m.ParenOpen ∷ form f.paren_tail ∷ []; gives = λ (tail, _). tail t.place })
operand_by t _ = Some (record { row = form f.primary ∷ form f.postfix_tail ∷ []; gives = λ (a, (tail, _)). tail t.place a })

abbrev pub unary_by : Placed → Kind → Option UnaryOp → Rules f.unary
unary_by t kind None = operand_by t kind
unary_by t kind (Some op) = Some (record { row = mark kind ∷ form f.unary ∷ []; gives = λ (a, _). e.Unary t.place op a })

unfoldable pub unary_rule : Option Placed → Rules f.unary
unary_rule = by_front None (λ t kind. unary_by t kind (unary_op kind))

-- whether a type begins here
unfoldable pub begins_type : Kind → Bool
begins_type k.Unsigned = true
begins_type k.Signed = true
begins_type k.Int = true
begins_type _ = false

-- `( type ) unary`, and `( expr )` with what may stand behind it
unfoldable pub paren_tail_rule : Option Placed → Rules f.paren_tail
paren_tail_rule = by_front None (λ t kind. if begins_type kind
    then Some (record { row = form f.type ∷ sign m.ParenClose ∷ form f.unary ∷ []; gives = λ (to, (a, _)) at. e.Cast at to a })
    else Some (record { row = form f.expr ∷ sign m.ParenClose ∷ form f.postfix_tail ∷ []; gives = λ (a, (tail, _)) at. tail at a }))

abbrev pub primary_by : Placed → Kind → Rules f.primary
primary_by t k.Number = Some (record { row = mark k.Number ∷ []; gives = λ _. e.Number t.place (number_of t.token) })
primary_by t k.Width = Some (record {
  row = mark k.Width ∷ sign m.ParenOpen ∷ form f.expr ∷ sign m.ParenClose ∷ [];
  gives = λ (of, _). e.Width t.place of;
})
primary_by t k.Select = Some (record {
  row = mark k.Select ∷ sign m.ParenOpen ∷ form f.expr ∷ sign m.Comma ∷ form f.expr ∷ sign m.Comma ∷ form f.expr ∷ sign m.ParenClose ∷ [];
  gives = λ (c, (a, (b, _))). e.Select t.place c a b;
})
primary_by t kind = if is_name kind then Some (record { row = form f.name ∷ form f.name_tail ∷ []; gives = λ (x, (tail, _)). tail x }) else None

unfoldable pub primary_rule : Option Placed → Rules f.primary
primary_rule = by_front None primary_by

-- a name alone, a call, or the port of an interface
abbrev pub name_tail_by : Placed → Kind → Rules f.name_tail
name_tail_by t (k.Mark m.ParenOpen) = Some (record {
  row = sign m.ParenOpen ∷ form f.args ∷ sign m.ParenClose ∷ [];
  gives = λ (arguments, _) x. e.Call x arguments;
})
name_tail_by t (k.Mark m.Dot) = Some (record { row = sign m.Dot ∷ form f.name ∷ []; gives = λ (port, _) x. e.Port x port })
name_tail_by t _ = empty (λ x. e.Name x)

unfoldable pub name_tail_rule : Option Placed → Rules f.name_tail
name_tail_rule = by_front (empty (λ x. e.Name x)) name_tail_by

-- `[ expr { , expr } ]` before a `)`
abbrev pub args_by : Placed → Kind → Rules f.args
args_by t (k.Mark m.ParenClose) = empty []
args_by t _ = Some (record { row = form f.expr ∷ form f.more_exprs ∷ []; gives = λ (a, (more, _)). a ∷ more })

unfoldable pub args_rule : Option Placed → Rules f.args
args_rule = by_front (empty []) args_by

abbrev pub more_exprs_by : Placed → Kind → Rules f.more_exprs
more_exprs_by t (k.Mark m.Comma) = Some (record { row = sign m.Comma ∷ form f.expr ∷ form f.more_exprs ∷ []; gives = λ (a, (more, _)). a ∷ more })
more_exprs_by t _ = empty []

unfoldable pub more_exprs_rule : Option Placed → Rules f.more_exprs
more_exprs_rule = by_front (empty []) more_exprs_by

-- indexes and bit ranges, from left to right
abbrev pub postfix_tail_by : Placed → Kind → Rules f.postfix_tail
postfix_tail_by t (k.Mark m.BracketOpen) = Some (record {
  row = sign m.BracketOpen ∷ form f.expr ∷ form f.bits_tail ∷ form f.postfix_tail ∷ [];
  gives = λ (i, (cut, (tail, _))) at a. tail at (cut at a i);
})
postfix_tail_by t _ = empty (λ at a. a)

unfoldable pub postfix_tail_rule : Option Placed → Rules f.postfix_tail
postfix_tail_rule = by_front (empty (λ at a. a)) postfix_tail_by

abbrev pub bits_tail_by : Placed → Kind → Rules f.bits_tail
bits_tail_by t (k.Mark m.BracketClose) = Some (record { row = sign m.BracketClose ∷ []; gives = λ _ at a i. e.Index at a i })
bits_tail_by t (k.Mark m.Colon) = Some (record {
  row = sign m.Colon ∷ form f.expr ∷ sign m.BracketClose ∷ [];
  gives = λ (low, _) at a high. e.Bits at a high low;
})
bits_tail_by t _ = None

unfoldable pub bits_tail_rule : Option Placed → Rules f.bits_tail
bits_tail_rule = by_front None bits_tail_by

-- ---- types

abbrev pub type_by : Placed → Kind → Rules f.type
type_by t k.Unsigned = Some (record { row = mark k.Unsigned ∷ form f.unsigned_tail ∷ []; gives = λ (tail, _). tail t.place })
type_by t k.Signed = Some (record { row = mark k.Signed ∷ form f.signed_tail ∷ []; gives = λ (tail, _). tail t.place })
type_by t k.Int = Some (record { row = mark k.Int ∷ form f.size ∷ []; gives = λ (n, _). type.Int t.place false n })
type_by t _ = None

unfoldable pub type_rule : Option Placed → Rules f.type
type_rule = by_front None type_by

abbrev pub unsigned_by : Placed → Kind → Rules f.unsigned_tail
unsigned_by t k.Int = Some (record { row = mark k.Int ∷ form f.size ∷ []; gives = λ (n, _) at. type.Unsigned at true n })
unsigned_by t _ = Some (record { row = form f.size ∷ []; gives = λ (n, _) at. type.Unsigned at false n })

unfoldable pub unsigned_tail_rule : Option Placed → Rules f.unsigned_tail
unsigned_tail_rule = by_front None unsigned_by

abbrev pub signed_by : Placed → Kind → Rules f.signed_tail
signed_by t k.Int = Some (record { row = mark k.Int ∷ form f.size ∷ []; gives = λ (n, _) at. type.Int at true n })
signed_by t _ = Some (record { row = form f.size ∷ []; gives = λ (n, _) at. type.Signed at n })

unfoldable pub signed_tail_rule : Option Placed → Rules f.signed_tail
signed_tail_rule = by_front None signed_by

abbrev pub size_by : Placed → Kind → Rules f.size
size_by t k.Number = Some (record { row = mark k.Number ∷ []; gives = λ _. size.Number t.place (number_of t.token) })
size_by t (k.Mark m.ParenOpen) = Some (record { row = sign m.ParenOpen ∷ form f.expr ∷ sign m.ParenClose ∷ []; gives = λ (n, _). size.Expr n })
size_by t kind = if is_name kind then Some (record { row = form f.name ∷ []; gives = λ (x, _). size.Name x }) else None

unfoldable pub size_rule : Option Placed → Rules f.size
size_rule = by_front None size_by
