-- The rules of expressions and types fit their forms.
use Rattle.std.proofs.Common.{◌≡◌, ◌==◌, ℕ, zero, suc, true, Option, Some, None, refl}
use Rattle.hc_tree.specs.declared.expr.BinaryOp.{BinaryOp}
use Rattle.hc_lex.specs.declared.mark.Mark.TheVariants as m
use Rattle.hc_lex.specs.declared.token.Placed.{Placed}
use Rattle.hc_grammar.specs.declared.kind.Kind.{Kind}
use Rattle.hc_grammar.specs.declared.kind.Kind.TheVariants as k
use Rattle.hc_grammar.specs.Kind.{kind, is_name}
use Rattle.hc_grammar.specs.Order.{number, mark_number}
use Rattle.hc_grammar.specs.Form as f
use Rattle.hc_grammar.specs.Form.{Form, Gives, Initial, Never, Maybe, Always}
use Rattle.hc_grammar.specs.Expression.{name_rule, text_rule, expr_rule, choice_tail_rule, binary_rule, binary_tail_rule, unary_rule, paren_tail_rule, primary_rule, name_tail_rule, args_rule, more_exprs_rule, postfix_tail_rule, bits_tail_rule, type_rule, unsigned_tail_rule, signed_tail_rule, size_rule, binary_op, unary_op, begins_type}
use Rattle.hc_grammar.specs.Grammar.{rule}
use Rattle.hc_grammar.proofs.Fits.{fits, fits-if, fits-binary}

pub rows-name : (t : Placed) (kind_is : Kind) → kind t ≡ kind_is → fits f.name (rule f.name (Some t)) ≡ true
unfolding rule name_rule is_name number mark_number
rows-name t (k.Mark m.Question) e = rw e refl
rows-name t _ e = rw e refl

pub rows-text : (t : Placed) (kind_is : Kind) → kind t ≡ kind_is → fits f.text (rule f.text (Some t)) ≡ true
unfolding rule text_rule number mark_number
rows-text t (k.Mark m.Question) e = rw e refl
rows-text t _ e = rw e refl

pub rows-expr : (t : Placed) (kind_is : Kind) → kind t ≡ kind_is → fits f.expr (rule f.expr (Some t)) ≡ true
unfolding rule expr_rule number mark_number
rows-expr t kind_is e = refl

pub rows-choice_tail : (t : Placed) (kind_is : Kind) → kind t ≡ kind_is → fits f.choice_tail (rule f.choice_tail (Some t)) ≡ true
unfolding rule choice_tail_rule number mark_number
rows-choice_tail t (k.Mark m.Question) e = rw e refl
rows-choice_tail t _ e = rw e refl

pub rows-binary : (n : ℕ) (t : Placed) (kind_is : Kind) → kind t ≡ kind_is → fits (f.binary n) (rule (f.binary n) (Some t)) ≡ true
unfolding rule binary_rule number mark_number
rows-binary zero t kind_is e = refl
rows-binary (suc n) t kind_is e = fits-binary n

rows-binary_tail_by : (n : ℕ) (t : Placed) (o : Option (ℕ × BinaryOp)) → binary_op (kind t) ≡ o → fits (f.binary_tail n) (rule (f.binary_tail n) (Some t)) ≡ true
unfolding rule binary_tail_rule number mark_number
rows-binary_tail_by n t None e = rw e refl
rows-binary_tail_by n t (Some found) e = rw e (fits-if (f.binary_tail n) _ _ refl refl (found.0 == n))

pub rows-binary_tail : (n : ℕ) (t : Placed) (kind_is : Kind) → kind t ≡ kind_is → fits (f.binary_tail n) (rule (f.binary_tail n) (Some t)) ≡ true
rows-binary_tail n t kind_is e = rows-binary_tail_by n t (binary_op (kind t)) refl

pub rows-unary : (t : Placed) (kind_is : Kind) → kind t ≡ kind_is → fits f.unary (rule f.unary (Some t)) ≡ true
unfolding rule unary_rule unary_op number mark_number
rows-unary t (k.Mark m.Question) e = rw e refl
rows-unary t _ e = rw e refl

pub rows-paren_tail : (t : Placed) (kind_is : Kind) → kind t ≡ kind_is → fits f.paren_tail (rule f.paren_tail (Some t)) ≡ true
unfolding rule paren_tail_rule begins_type number mark_number
rows-paren_tail t (k.Mark m.Question) e = rw e refl
rows-paren_tail t _ e = rw e refl

pub rows-primary : (t : Placed) (kind_is : Kind) → kind t ≡ kind_is → fits f.primary (rule f.primary (Some t)) ≡ true
unfolding rule primary_rule is_name number mark_number
rows-primary t (k.Mark m.Question) e = rw e refl
rows-primary t _ e = rw e refl

pub rows-name_tail : (t : Placed) (kind_is : Kind) → kind t ≡ kind_is → fits f.name_tail (rule f.name_tail (Some t)) ≡ true
unfolding rule name_tail_rule number mark_number
rows-name_tail t (k.Mark m.Question) e = rw e refl
rows-name_tail t _ e = rw e refl

pub rows-args : (t : Placed) (kind_is : Kind) → kind t ≡ kind_is → fits f.args (rule f.args (Some t)) ≡ true
unfolding rule args_rule number mark_number
rows-args t (k.Mark m.Question) e = rw e refl
rows-args t _ e = rw e refl

pub rows-more_exprs : (t : Placed) (kind_is : Kind) → kind t ≡ kind_is → fits f.more_exprs (rule f.more_exprs (Some t)) ≡ true
unfolding rule more_exprs_rule number mark_number
rows-more_exprs t (k.Mark m.Question) e = rw e refl
rows-more_exprs t _ e = rw e refl

pub rows-postfix_tail : (t : Placed) (kind_is : Kind) → kind t ≡ kind_is → fits f.postfix_tail (rule f.postfix_tail (Some t)) ≡ true
unfolding rule postfix_tail_rule number mark_number
rows-postfix_tail t (k.Mark m.Question) e = rw e refl
rows-postfix_tail t _ e = rw e refl

pub rows-bits_tail : (t : Placed) (kind_is : Kind) → kind t ≡ kind_is → fits f.bits_tail (rule f.bits_tail (Some t)) ≡ true
unfolding rule bits_tail_rule number mark_number
rows-bits_tail t (k.Mark m.Question) e = rw e refl
rows-bits_tail t _ e = rw e refl

pub rows-type : (t : Placed) (kind_is : Kind) → kind t ≡ kind_is → fits f.type (rule f.type (Some t)) ≡ true
unfolding rule type_rule number mark_number
rows-type t (k.Mark m.Question) e = rw e refl
rows-type t _ e = rw e refl

pub rows-unsigned_tail : (t : Placed) (kind_is : Kind) → kind t ≡ kind_is → fits f.unsigned_tail (rule f.unsigned_tail (Some t)) ≡ true
unfolding rule unsigned_tail_rule number mark_number
rows-unsigned_tail t (k.Mark m.Question) e = rw e refl
rows-unsigned_tail t _ e = rw e refl

pub rows-signed_tail : (t : Placed) (kind_is : Kind) → kind t ≡ kind_is → fits f.signed_tail (rule f.signed_tail (Some t)) ≡ true
unfolding rule signed_tail_rule number mark_number
rows-signed_tail t (k.Mark m.Question) e = rw e refl
rows-signed_tail t _ e = rw e refl

pub rows-size : (t : Placed) (kind_is : Kind) → kind t ≡ kind_is → fits f.size (rule f.size (Some t)) ≡ true
unfolding rule size_rule is_name number mark_number
rows-size t (k.Mark m.Question) e = rw e refl
rows-size t _ e = rw e refl
