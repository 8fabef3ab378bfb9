-- The rules of the forms of expressions, by what the code tests of the token at the front.
use Rattle.std.proofs.Common.{◌≡◌, ◌≢◌, ◌<◌, ◌-◌, ◌==◌, ℕ, zero, suc, Bool, true, false, List, [], ◌∷◌, length, Option, Some, None, refl, sym, ap, subst, ◌∙◌, arith}
use Rattle.std.specs.Prelude.{option_map, if◌then◌else◌}
use Rattle.hc_tree.specs.declared.expr.ExprTree.TheVariants as e
use Rattle.hc_tree.specs.declared.expr.«Type».TheVariants as type
use Rattle.hc_tree.specs.declared.expr.Size.TheVariants as size
use Rattle.hc_tree.specs.declared.expr.UnaryOp.{UnaryOp}
use Rattle.hc_tree.specs.declared.expr.BinaryOp.{BinaryOp}
use Rattle.hc_lex.specs.declared.mark.Mark.TheVariants as m
use Rattle.hc_lex.specs.declared.token.Placed.{Placed}
use Rattle.hc_grammar.specs.declared.kind.Kind.{Kind}
use Rattle.hc_grammar.specs.declared.kind.Kind.TheVariants as kinds
use Rattle.hc_grammar.specs.Kind.{kind, is_name, bytes_of, number_of}
use Rattle.hc_grammar.specs.Table.{mark, form, front}
use Rattle.hc_grammar.specs.Form as f
use Rattle.hc_grammar.specs.Form.{Form, Gives}
use Rattle.hc_grammar.specs.Expression.{sign, empty, name_rule, text_rule, text_by, expr_rule, choice_tail_rule, choice_by, binary_rule, binary_by, binary_tail_rule, binary_tail_by, binary_op, operand_of, unary_rule, unary_by, unary_op, operand_by, paren_tail_rule, begins_type, primary_rule, primary_by, name_tail_rule, name_tail_by, args_rule, args_by, more_exprs_rule, more_exprs_by, postfix_tail_rule, postfix_tail_by, bits_tail_rule, bits_tail_by, type_rule, type_by, unsigned_tail_rule, unsigned_by, signed_tail_rule, signed_by, size_rule, size_by}
use Rattle.hc_grammar.specs.Grammar.{rule}
use Rattle.hc_grammar.specs.Cursor.{Ahead, place_at}
use Rattle.hc_grammar.specs.Walk.{pick, fall, pick_token}
use Rattle.hc_exparse.specs.Ops.{next_kind, level_op, on_level}

differs : (c : Ahead) (k other : Kind) → next_kind c ≡ Some k → next_kind c ≢ Some other → k ≢ other
differs c k other known not_other same = not_other (known ∙ ap Some same)

-- there is a next token, or there is none
pub some_kind : (c : Ahead) → length c.rest ≢ 0 → (k : Kind) × (Some k ≡ next_kind c)
some_kind c more = at c.rest more
  where
    at : (ts : List Placed) → length ts ≢ 0 → (k : Kind) × (Some k ≡ option_map kind (front ts))
    at [] more = absurd (more refl)
    at (t ∷ tail) more = (kind t, refl)

pub none_kind : (c : Ahead) → length c.rest ≡ 0 → None ≡ next_kind c
none_kind c none = at c.rest none
  where
    at : (ts : List Placed) → length ts ≡ 0 → None ≡ option_map kind (front ts)
    at [] none = refl
    at (t ∷ tail) none = absurd cc

no_front : (c : Ahead) → None ≡ next_kind c → front c.rest ≡ None
no_front c none = at c.rest none
  where
    at : (ts : List Placed) → None ≡ option_map kind (front ts) → front ts ≡ None
    at [] h = refl
    at (t ∷ tail) h = absurd cc

-- ---- names and texts

pub name_at : (c : Ahead) (t : Placed) (tail : List Placed) → c.rest ≡ t ∷ tail → is_name (kind t) ≡ true
    → rule f.name (front c.rest) ≡ Some (record { row = mark (kind t) ∷ []; gives = λ _. record { place = t.place; name = bytes_of t.token } })
unfolding rule name_rule
name_at c t tail is named = rw is (rw named refl)

pub name_none : (c : Ahead) → None ≡ next_kind c → rule f.name (front c.rest) ≡ None
unfolding rule name_rule
name_none c none = rw (no_front c none) refl

pub no_name : (c : Ahead) (k : Kind) → Some k ≡ next_kind c → is_name k ≡ false → rule f.name (front c.rest) ≡ None
unfolding rule name_rule
no_name c k known not_name = pick None (λ t kind. if is_name kind
    then Some (record { row = mark kind ∷ []; gives = λ _. record { place = t.place; name = bytes_of t.token } }) else None) (λ at. None) c k (sym known)
    (λ t. ap (λ b. if b then Some (record { row = mark k ∷ []; gives = λ _. record { place = t.place; name = bytes_of t.token } }) else None) not_name)

text_other : (t : Placed) (k : Kind) → k ≢ kinds.Text → text_by t k ≡ None
text_other t kinds.Text not_text = absurd (not_text refl)
text_other t _ not_text = refl

pub no_text : (c : Ahead) → next_kind c ≢ Some kinds.Text → rule f.text (front c.rest) ≡ None
unfolding rule text_rule
no_text c not_text = fall None text_by None c refl (λ t k known. text_other t k (differs c k kinds.Text known not_text))

pub text_at : (c : Ahead) (t : Placed) (tail : List Placed) → c.rest ≡ t ∷ tail → kind t ≡ kinds.Text
    → rule f.text (front c.rest) ≡ Some (record { row = mark kinds.Text ∷ []; gives = λ _. bytes_of t.token })
unfolding rule text_rule
text_at c t tail is of = pick_token None text_by c t tail kinds.Text is of

-- ---- expressions

pub expr_none : (c : Ahead) → None ≡ next_kind c → rule f.expr (front c.rest) ≡ None
unfolding rule expr_rule
expr_none c none = rw (no_front c none) refl

pub expr_row : (c : Ahead) (k : Kind) → Some k ≡ next_kind c
    → rule f.expr (front c.rest) ≡ Some (record { row = form (f.binary 12) ∷ form f.choice_tail ∷ []; gives = λ (a, (tail, _)). tail (place_at c) a })
unfolding rule expr_rule
expr_row c k known = pick None (λ t kind. Some (record { row = form (f.binary 12) ∷ form f.choice_tail ∷ []; gives = λ (a, (tail, _)). tail t.place a }))
    (λ at. Some (record { row = form (f.binary 12) ∷ form f.choice_tail ∷ []; gives = λ (a, (tail, _)). tail at a })) c k (sym known) (λ t. refl)

choice_other : (t : Placed) (k : Kind) → k ≢ kinds.Mark m.Question → choice_by t k ≡ empty (λ at a. a)
choice_other t (kinds.Mark m.Question) other = absurd (other refl)
choice_other t _ other = refl

pub choice_empty : (c : Ahead) → next_kind c ≢ Some (kinds.Mark m.Question) → rule f.choice_tail (front c.rest) ≡ Some (record { row = []; gives = λ _ at a. a })
unfolding rule choice_tail_rule
choice_empty c other = fall (empty (λ at a. a)) choice_by (empty (λ at a. a)) c refl (λ t k known. choice_other t k (differs c k (kinds.Mark m.Question) known other))

pub choice_row : (c : Ahead) → next_kind c ≡ Some (kinds.Mark m.Question) → rule f.choice_tail (front c.rest) ≡ Some (record {
  row = sign m.Question ∷ form f.expr ∷ sign m.Colon ∷ form f.expr ∷ [];
  gives = λ (a, (b, _)) at c. e.Choice at c a b;
})
unfolding rule choice_tail_rule
choice_row c known = pick (empty (λ at a. a)) choice_by (λ at. Some (record {
  row = sign m.Question ∷ form f.expr ∷ sign m.Colon ∷ form f.expr ∷ [];
  gives = λ (a, (b, _)) at c. e.Choice at c a b;
})) c (kinds.Mark m.Question) known (λ t. refl)

pub binary_none : (n : ℕ) (c : Ahead) → None ≡ next_kind c → rule (f.binary n) (front c.rest) ≡ None
unfolding rule binary_rule
binary_none n c none = rw (no_front c none) refl

pub unary_row : (c : Ahead) (n : ℕ) (k : Kind) → Some k ≡ next_kind c → n ≡ 0
    → rule (f.binary n) (front c.rest) ≡ Some (record { row = form f.unary ∷ []; gives = λ (a, _). a })
unfolding rule binary_rule
unary_row c n k known low =
    subst (λ n. rule (f.binary n) (front c.rest) ≡ Some (record { row = form f.unary ∷ []; gives = λ (a, _). a })) (sym low)
    (pick None (binary_by 0) (λ at. Some (record { row = form f.unary ∷ []; gives = λ (a, _). a })) c k (sym known) (λ t. refl))

level_row : (c : Ahead) (n : ℕ) (k : Kind) → Some k ≡ next_kind c → rule (f.binary (suc n)) (front c.rest)
    ≡ Some (record { row = form (f.binary n) ∷ form (f.binary_tail (suc n)) ∷ []; gives = λ (a, (tail, _)). tail (place_at c) a })
unfolding rule binary_rule
level_row c n k known = pick None (binary_by (suc n))
    (λ at. Some (record { row = form (f.binary n) ∷ form (f.binary_tail (suc n)) ∷ []; gives = λ (a, (tail, _)). tail at a })) c k (sym known) (λ t. refl)

pub binary_row : (c : Ahead) (n : ℕ) (k : Kind) → Some k ≡ next_kind c → n ≢ 0
    → rule (f.binary n) (front c.rest) ≡ Some (record { row = form (f.binary (n - 1)) ∷ form (f.binary_tail n) ∷ []; gives = λ (a, (tail, _)). tail (place_at c) a })
binary_row c n k known high =
    let same : suc (n - 1) ≡ n = omega arith in
    subst (λ m. rule (f.binary m) (front c.rest) ≡ Some (record { row = form (f.binary (n - 1)) ∷ form (f.binary_tail m) ∷ []; gives = λ (a, (tail, _)). tail (place_at c) a }))
    same (level_row c (n - 1) k known)

op_is : (n level : ℕ) (k : Kind) (own op : BinaryOp) → on_level n (Some (level, own)) ≡ Some op → binary_tail_by n k (Some (level, own))
    ≡ Some (record { row = mark k ∷ form (f.binary (operand_of n)) ∷ form (f.binary_tail n) ∷ []; gives = λ (b, (tail, _)) at a. tail at (e.Binary at a op b) })
op_is n level k own op is = chosen (level == n) is
  where
    chosen : (b : Bool) → (if b then Some own else None) ≡ Some op → (if b then Some (record {
      row = mark k ∷ form (f.binary (operand_of n)) ∷ form (f.binary_tail n) ∷ [];
      gives = λ (b, (tail, _)) at a. tail at (e.Binary at a own b);
    }) else empty {x = f.binary_tail n} (λ at a. a))
        ≡ Some (record { row = mark k ∷ form (f.binary (operand_of n)) ∷ form (f.binary_tail n) ∷ []; gives = λ (b, (tail, _)) at a. tail at (e.Binary at a op b) })
    chosen true h = let same : own ≡ op = cc in rw same refl
    chosen false h = absurd cc

op_by : (n : ℕ) (k : Kind) (found : Option (ℕ × BinaryOp)) (op : BinaryOp) → on_level n found ≡ Some op → binary_tail_by n k found
    ≡ Some (record { row = mark k ∷ form (f.binary (operand_of n)) ∷ form (f.binary_tail n) ∷ []; gives = λ (b, (tail, _)) at a. tail at (e.Binary at a op b) })
op_by n k None op is = absurd cc
op_by n k (Some (level, own)) op is = op_is n level k own op is

no_op_by : (n : ℕ) (k : Kind) (found : Option (ℕ × BinaryOp)) → on_level n found ≡ None → binary_tail_by n k found ≡ empty (λ at a. a)
no_op_by n k None is = refl
no_op_by n k (Some (level, own)) is = chosen (level == n) is
  where
    chosen : (b : Bool) → (if b then Some own else None) ≡ None → (if b then Some (record {
      row = mark k ∷ form (f.binary (operand_of n)) ∷ form (f.binary_tail n) ∷ [];
      gives = λ (b, (tail, _)) at a. tail at (e.Binary at a own b);
    }) else empty {x = f.binary_tail n} (λ at a. a)) ≡ empty {x = f.binary_tail n} (λ at a. a)
    chosen true h = absurd cc
    chosen false h = refl

pub op_row : (c : Ahead) (n : ℕ) (op : BinaryOp) → level_op n (next_kind c) ≡ Some op → 0 < n → (k : Kind) × (next_kind c ≡ Some k) × (rule (f.binary_tail n) (front c.rest)
    ≡ Some (record { row = mark k ∷ form (f.binary (n - 1)) ∷ form (f.binary_tail n) ∷ []; gives = λ (b, (tail, _)) at a. tail at (e.Binary at a op b) }))
unfolding rule binary_tail_rule
op_row c n op is low = at c.rest is
  where
    below : operand_of n ≡ n - 1
    below = lower n low
      where
        lower : (n : ℕ) → 0 < n → operand_of n ≡ n - 1
        lower zero low = absurd (omega arith)
        lower (suc n) low = omega arith

    at : (ts : List Placed) → level_op n (option_map kind (front ts)) ≡ Some op → (k : Kind) × (option_map kind (front ts) ≡ Some k) × (rule (f.binary_tail n) (front ts)
        ≡ Some (record { row = mark k ∷ form (f.binary (n - 1)) ∷ form (f.binary_tail n) ∷ []; gives = λ (b, (tail, _)) at a. tail at (e.Binary at a op b) }))
    at [] is = absurd cc
    at (t ∷ tail) is = (kind t, refl, rw (← below) (op_by n (kind t) (binary_op (kind t)) op is))

pub no_op_row : (c : Ahead) (n : ℕ) → level_op n (next_kind c) ≡ None → rule (f.binary_tail n) (front c.rest) ≡ Some (record { row = []; gives = λ _ at a. a })
unfolding rule binary_tail_rule
no_op_row c n is = at c.rest is
  where
    at : (ts : List Placed) → level_op n (option_map kind (front ts)) ≡ None → rule (f.binary_tail n) (front ts) ≡ Some (record { row = []; gives = λ _ at a. a })
    at [] is = refl
    at (t ∷ tail) is = no_op_by n (kind t) (binary_op (kind t)) is

-- ---- unary

pub unary_none : (c : Ahead) → None ≡ next_kind c → rule f.unary (front c.rest) ≡ None
unfolding rule unary_rule
unary_none c none = rw (no_front c none) refl

pub operand_row : (c : Ahead) (k : Kind) (op : UnaryOp) → next_kind c ≡ Some k → unary_op k ≡ Some op
    → rule f.unary (front c.rest) ≡ Some (record { row = mark k ∷ form f.unary ∷ []; gives = λ (a, _). e.Unary (place_at c) op a })
unfolding rule unary_rule
operand_row c k op known is = pick None (λ t kind. unary_by t kind (unary_op kind))
    (λ at. Some (record { row = mark k ∷ form f.unary ∷ []; gives = λ (a, _). e.Unary at op a })) c k known (λ t. ap (unary_by t k) is)

pub bracket_row : (c : Ahead) → next_kind c ≡ Some (kinds.Mark m.ParenOpen)
    → rule f.unary (front c.rest) ≡ Some (record { row = sign m.ParenOpen ∷ form f.paren_tail ∷ []; gives = λ (tail, _). tail (place_at c) })
unfolding rule unary_rule unary_op
bracket_row c known = pick None (λ t kind. unary_by t kind (unary_op kind))
    (λ at. Some (record { row = sign m.ParenOpen ∷ form f.paren_tail ∷ []; gives = λ (tail, _). tail at })) c (kinds.Mark m.ParenOpen) known (λ t. refl)

operand_other : (t : Placed) (k : Kind) → k ≢ kinds.Mark m.ParenOpen → operand_by t k
    ≡ Some (record { row = form f.primary ∷ form f.postfix_tail ∷ []; gives = λ (a, (tail, _)). tail t.place a })
operand_other t (kinds.Mark m.ParenOpen) other = absurd (other refl)
operand_other t _ other = refl

pub primary_row : (c : Ahead) (k : Kind) → next_kind c ≡ Some k → unary_op k ≡ None → next_kind c ≢ Some (kinds.Mark m.ParenOpen)
    → rule f.unary (front c.rest) ≡ Some (record { row = form f.primary ∷ form f.postfix_tail ∷ []; gives = λ (a, (tail, _)). tail (place_at c) a })
unfolding rule unary_rule
primary_row c k known none other = pick None (λ t kind. unary_by t kind (unary_op kind))
    (λ at. Some (record { row = form f.primary ∷ form f.postfix_tail ∷ []; gives = λ (a, (tail, _)). tail at a })) c k known
    (λ t. ap (unary_by t k) none ∙ operand_other t k (differs c k (kinds.Mark m.ParenOpen) known other))

pub paren_none : (c : Ahead) → None ≡ next_kind c → rule f.paren_tail (front c.rest) ≡ None
unfolding rule paren_tail_rule
paren_none c none = rw (no_front c none) refl

pub cast_row : (c : Ahead) (k : Kind) → next_kind c ≡ Some k → begins_type k ≡ true → rule f.paren_tail (front c.rest)
    ≡ Some (record { row = form f.type ∷ sign m.ParenClose ∷ form f.unary ∷ []; gives = λ (to, (a, _)) at. e.Cast at to a })
unfolding rule paren_tail_rule
cast_row c k known is_type = at c.rest known
  where
    at : (ts : List Placed) → option_map kind (front ts) ≡ Some k → rule f.paren_tail (front ts)
        ≡ Some (record { row = form f.type ∷ sign m.ParenClose ∷ form f.unary ∷ []; gives = λ (to, (a, _)) at. e.Cast at to a })
    at [] known = absurd cc
    at (t ∷ tail) known = let is : begins_type (kind t) ≡ true = let of : kind t ≡ k = cc in ap begins_type of ∙ is_type in rw is refl

pub inner_row : (c : Ahead) (k : Kind) → next_kind c ≡ Some k → begins_type k ≡ false → rule f.paren_tail (front c.rest)
    ≡ Some (record { row = form f.expr ∷ sign m.ParenClose ∷ form f.postfix_tail ∷ []; gives = λ (a, (tail, _)) at. tail at a })
unfolding rule paren_tail_rule
inner_row c k known no_type = at c.rest known
  where
    at : (ts : List Placed) → option_map kind (front ts) ≡ Some k → rule f.paren_tail (front ts)
        ≡ Some (record { row = form f.expr ∷ sign m.ParenClose ∷ form f.postfix_tail ∷ []; gives = λ (a, (tail, _)) at. tail at a })
    at [] known = absurd cc
    at (t ∷ tail) known = let is : begins_type (kind t) ≡ false = let of : kind t ≡ k = cc in ap begins_type of ∙ no_type in rw is refl

-- ---- primaries

pub number_row : (c : Ahead) (t : Placed) (tail : List Placed) → c.rest ≡ t ∷ tail → kind t ≡ kinds.Number
    → rule f.primary (front c.rest) ≡ Some (record { row = mark kinds.Number ∷ []; gives = λ _. e.Number t.place (number_of t.token) })
unfolding rule primary_rule
number_row c t tail is of = pick_token None primary_by c t tail kinds.Number is of

pub width_row : (c : Ahead) → next_kind c ≡ Some kinds.Width → rule f.primary (front c.rest) ≡ Some (record {
  row = mark kinds.Width ∷ sign m.ParenOpen ∷ form f.expr ∷ sign m.ParenClose ∷ [];
  gives = λ (of, _). e.Width (place_at c) of;
})
unfolding rule primary_rule
width_row c known = pick None primary_by (λ at. Some (record {
  row = mark kinds.Width ∷ sign m.ParenOpen ∷ form f.expr ∷ sign m.ParenClose ∷ [];
  gives = λ (of, _). e.Width at of;
})) c kinds.Width known (λ t. refl)

pub select_row : (c : Ahead) → next_kind c ≡ Some kinds.Select → rule f.primary (front c.rest) ≡ Some (record {
  row = mark kinds.Select ∷ sign m.ParenOpen ∷ form f.expr ∷ sign m.Comma ∷ form f.expr ∷ sign m.Comma ∷ form f.expr ∷ sign m.ParenClose ∷ [];
  gives = λ (a, (b, (d, _))). e.Select (place_at c) a b d;
})
unfolding rule primary_rule
select_row c known = pick None primary_by (λ at. Some (record {
  row = mark kinds.Select ∷ sign m.ParenOpen ∷ form f.expr ∷ sign m.Comma ∷ form f.expr ∷ sign m.Comma ∷ form f.expr ∷ sign m.ParenClose ∷ [];
  gives = λ (a, (b, (d, _))). e.Select at a b d;
})) c kinds.Select known (λ t. refl)

primary_other : (t : Placed) (k : Kind) → k ≢ kinds.Number → k ≢ kinds.Width → k ≢ kinds.Select → primary_by t k
    ≡ (if is_name k then Some (record { row = form f.name ∷ form f.name_tail ∷ []; gives = λ (x, (tail, _)). tail x }) else None)
primary_other t kinds.Number not_number not_width not_select = absurd (not_number refl)
primary_other t kinds.Width not_number not_width not_select = absurd (not_width refl)
primary_other t kinds.Select not_number not_width not_select = absurd (not_select refl)
primary_other t _ not_number not_width not_select = refl

pub named_row : (c : Ahead) (k : Kind) → next_kind c ≡ Some k → is_name k ≡ true → next_kind c ≢ Some kinds.Number → next_kind c ≢ Some kinds.Width → next_kind c ≢ Some kinds.Select
    → rule f.primary (front c.rest) ≡ Some (record { row = form f.name ∷ form f.name_tail ∷ []; gives = λ (x, (tail, _)). tail x })
unfolding rule primary_rule
named_row c k known named not_number not_width not_select = pick None primary_by
    (λ at. Some (record { row = form f.name ∷ form f.name_tail ∷ []; gives = λ (x, (tail, _)). tail x })) c k known
    (λ t. primary_other t k (differs c k kinds.Number known not_number) (differs c k kinds.Width known not_width) (differs c k kinds.Select known not_select)
    ∙ ap (λ b. if b then Some (record { row = form f.name ∷ form f.name_tail ∷ []; gives = λ (x, (tail, _)). tail x }) else None) named)

pub no_primary : (c : Ahead) (k : Kind) → next_kind c ≡ Some k → is_name k ≡ false → next_kind c ≢ Some kinds.Number → next_kind c ≢ Some kinds.Width → next_kind c ≢ Some kinds.Select
    → rule f.primary (front c.rest) ≡ None
unfolding rule primary_rule
no_primary c k known not_name not_number not_width not_select = pick None primary_by (λ at. None) c k known
    (λ t. primary_other t k (differs c k kinds.Number known not_number) (differs c k kinds.Width known not_width) (differs c k kinds.Select known not_select)
    ∙ ap (λ b. if b then Some (record { row = form f.name ∷ form f.name_tail ∷ []; gives = λ (x, (tail, _)). tail x }) else None) not_name)

pub primary_none : (c : Ahead) → None ≡ next_kind c → rule f.primary (front c.rest) ≡ None
unfolding rule primary_rule
primary_none c none = rw (no_front c none) refl

pub call_row : (c : Ahead) → next_kind c ≡ Some (kinds.Mark m.ParenOpen) → rule f.name_tail (front c.rest) ≡ Some (record {
  row = sign m.ParenOpen ∷ form f.args ∷ sign m.ParenClose ∷ [];
  gives = λ (arguments, _) x. e.Call x arguments;
})
unfolding rule name_tail_rule
call_row c known = pick (empty (λ x. e.Name x)) name_tail_by (λ at. Some (record {
  row = sign m.ParenOpen ∷ form f.args ∷ sign m.ParenClose ∷ [];
  gives = λ (arguments, _) x. e.Call x arguments;
})) c (kinds.Mark m.ParenOpen) known (λ t. refl)

pub port_row : (c : Ahead) → next_kind c ≡ Some (kinds.Mark m.Dot)
    → rule f.name_tail (front c.rest) ≡ Some (record { row = sign m.Dot ∷ form f.name ∷ []; gives = λ (port, _) x. e.Port x port })
unfolding rule name_tail_rule
port_row c known = pick (empty (λ x. e.Name x)) name_tail_by (λ at. Some (record { row = sign m.Dot ∷ form f.name ∷ []; gives = λ (port, _) x. e.Port x port }))
    c (kinds.Mark m.Dot) known (λ t. refl)

name_tail_other : (t : Placed) (k : Kind) → k ≢ kinds.Mark m.Dot → k ≢ kinds.Mark m.ParenOpen → name_tail_by t k ≡ empty (λ x. e.Name x)
name_tail_other t (kinds.Mark m.Dot) not_dot not_open = absurd (not_dot refl)
name_tail_other t (kinds.Mark m.ParenOpen) not_dot not_open = absurd (not_open refl)
name_tail_other t _ not_dot not_open = refl

pub alone_row : (c : Ahead) → next_kind c ≢ Some (kinds.Mark m.Dot) → next_kind c ≢ Some (kinds.Mark m.ParenOpen)
    → rule f.name_tail (front c.rest) ≡ Some (record { row = []; gives = λ _ x. e.Name x })
unfolding rule name_tail_rule
alone_row c not_dot not_open = fall (empty (λ x. e.Name x)) name_tail_by (empty (λ x. e.Name x)) c refl
    (λ t k known. name_tail_other t k (differs c k (kinds.Mark m.Dot) known not_dot) (differs c k (kinds.Mark m.ParenOpen) known not_open))

-- ---- lists

pub no_args_end : (c : Ahead) → None ≡ next_kind c → rule f.args (front c.rest) ≡ Some (record { row = []; gives = λ _. [] })
unfolding rule args_rule
no_args_end c none = rw (no_front c none) refl

pub no_args_row : (c : Ahead) → next_kind c ≡ Some (kinds.Mark m.ParenClose) → rule f.args (front c.rest) ≡ Some (record { row = []; gives = λ _. [] })
unfolding rule args_rule
no_args_row c known = pick (empty []) args_by (λ at. empty []) c (kinds.Mark m.ParenClose) known (λ t. refl)

args_other : (t : Placed) (k : Kind) → k ≢ kinds.Mark m.ParenClose → args_by t k
    ≡ Some (record { row = form f.expr ∷ form f.more_exprs ∷ []; gives = λ (a, (more, _)). a ∷ more })
args_other t (kinds.Mark m.ParenClose) other = absurd (other refl)
args_other t _ other = refl

pub args_row : (c : Ahead) (k : Kind) → next_kind c ≡ Some k → next_kind c ≢ Some (kinds.Mark m.ParenClose)
    → rule f.args (front c.rest) ≡ Some (record { row = form f.expr ∷ form f.more_exprs ∷ []; gives = λ (a, (more, _)). a ∷ more })
unfolding rule args_rule
args_row c k known other = pick (empty []) args_by (λ at. Some (record { row = form f.expr ∷ form f.more_exprs ∷ []; gives = λ (a, (more, _)). a ∷ more }))
    c k known (λ t. args_other t k (differs c k (kinds.Mark m.ParenClose) known other))

pub more_row : (c : Ahead) → next_kind c ≡ Some (kinds.Mark m.Comma)
    → rule f.more_exprs (front c.rest) ≡ Some (record { row = sign m.Comma ∷ form f.expr ∷ form f.more_exprs ∷ []; gives = λ (a, (more, _)). a ∷ more })
unfolding rule more_exprs_rule
more_row c known = pick (empty []) more_exprs_by (λ at. Some (record { row = sign m.Comma ∷ form f.expr ∷ form f.more_exprs ∷ []; gives = λ (a, (more, _)). a ∷ more }))
    c (kinds.Mark m.Comma) known (λ t. refl)

more_other : (t : Placed) (k : Kind) → k ≢ kinds.Mark m.Comma → more_exprs_by t k ≡ empty []
more_other t (kinds.Mark m.Comma) other = absurd (other refl)
more_other t _ other = refl

pub no_more_row : (c : Ahead) → next_kind c ≢ Some (kinds.Mark m.Comma) → rule f.more_exprs (front c.rest) ≡ Some (record { row = []; gives = λ _. [] })
unfolding rule more_exprs_rule
no_more_row c other = fall (empty []) more_exprs_by (empty []) c refl (λ t k known. more_other t k (differs c k (kinds.Mark m.Comma) known other))

-- ---- indexes and bit ranges

pub index_row : (c : Ahead) → next_kind c ≡ Some (kinds.Mark m.BracketOpen) → rule f.postfix_tail (front c.rest) ≡ Some (record {
  row = sign m.BracketOpen ∷ form f.expr ∷ form f.bits_tail ∷ form f.postfix_tail ∷ [];
  gives = λ (i, (cut, (tail, _))) at a. tail at (cut at a i);
})
unfolding rule postfix_tail_rule
index_row c known = pick (empty (λ at a. a)) postfix_tail_by (λ at. Some (record {
  row = sign m.BracketOpen ∷ form f.expr ∷ form f.bits_tail ∷ form f.postfix_tail ∷ [];
  gives = λ (i, (cut, (tail, _))) at a. tail at (cut at a i);
})) c (kinds.Mark m.BracketOpen) known (λ t. refl)

index_other : (t : Placed) (k : Kind) → k ≢ kinds.Mark m.BracketOpen → postfix_tail_by t k ≡ empty (λ at a. a)
index_other t (kinds.Mark m.BracketOpen) other = absurd (other refl)
index_other t _ other = refl

pub no_index_row : (c : Ahead) → next_kind c ≢ Some (kinds.Mark m.BracketOpen) → rule f.postfix_tail (front c.rest) ≡ Some (record { row = []; gives = λ _ at a. a })
unfolding rule postfix_tail_rule
no_index_row c other = fall (empty (λ at a. a)) postfix_tail_by (empty (λ at a. a)) c refl (λ t k known. index_other t k (differs c k (kinds.Mark m.BracketOpen) known other))

pub close_row : (c : Ahead) → next_kind c ≡ Some (kinds.Mark m.BracketClose)
    → rule f.bits_tail (front c.rest) ≡ Some (record { row = sign m.BracketClose ∷ []; gives = λ _ at a i. e.Index at a i })
unfolding rule bits_tail_rule
close_row c known = pick None bits_tail_by (λ at. Some (record { row = sign m.BracketClose ∷ []; gives = λ _ at a i. e.Index at a i }))
    c (kinds.Mark m.BracketClose) known (λ t. refl)

pub bits_row : (c : Ahead) → next_kind c ≡ Some (kinds.Mark m.Colon) → rule f.bits_tail (front c.rest) ≡ Some (record {
  row = sign m.Colon ∷ form f.expr ∷ sign m.BracketClose ∷ [];
  gives = λ (low, _) at a high. e.Bits at a high low;
})
unfolding rule bits_tail_rule
bits_row c known = pick None bits_tail_by (λ at. Some (record {
  row = sign m.Colon ∷ form f.expr ∷ sign m.BracketClose ∷ [];
  gives = λ (low, _) at a high. e.Bits at a high low;
})) c (kinds.Mark m.Colon) known (λ t. refl)

bits_other : (t : Placed) (k : Kind) → k ≢ kinds.Mark m.BracketClose → k ≢ kinds.Mark m.Colon → bits_tail_by t k ≡ None
bits_other t (kinds.Mark m.BracketClose) not_close not_colon = absurd (not_close refl)
bits_other t (kinds.Mark m.Colon) not_close not_colon = absurd (not_colon refl)
bits_other t _ not_close not_colon = refl

pub no_bits_row : (c : Ahead) → next_kind c ≢ Some (kinds.Mark m.BracketClose) → next_kind c ≢ Some (kinds.Mark m.Colon) → rule f.bits_tail (front c.rest) ≡ None
unfolding rule bits_tail_rule
no_bits_row c not_close not_colon = fall None bits_tail_by None c refl
    (λ t k known. bits_other t k (differs c k (kinds.Mark m.BracketClose) known not_close) (differs c k (kinds.Mark m.Colon) known not_colon))

-- ---- types

pub unsigned_row : (c : Ahead) → next_kind c ≡ Some kinds.Unsigned
    → rule f.type (front c.rest) ≡ Some (record { row = mark kinds.Unsigned ∷ form f.unsigned_tail ∷ []; gives = λ (tail, _). tail (place_at c) })
unfolding rule type_rule
unsigned_row c known = pick None type_by (λ at. Some (record { row = mark kinds.Unsigned ∷ form f.unsigned_tail ∷ []; gives = λ (tail, _). tail at })) c kinds.Unsigned known (λ t. refl)

pub signed_row : (c : Ahead) → next_kind c ≡ Some kinds.Signed
    → rule f.type (front c.rest) ≡ Some (record { row = mark kinds.Signed ∷ form f.signed_tail ∷ []; gives = λ (tail, _). tail (place_at c) })
unfolding rule type_rule
signed_row c known = pick None type_by (λ at. Some (record { row = mark kinds.Signed ∷ form f.signed_tail ∷ []; gives = λ (tail, _). tail at })) c kinds.Signed known (λ t. refl)

pub int_row : (c : Ahead) → next_kind c ≡ Some kinds.Int
    → rule f.type (front c.rest) ≡ Some (record { row = mark kinds.Int ∷ form f.size ∷ []; gives = λ (n, _). type.Int (place_at c) false n })
unfolding rule type_rule
int_row c known = pick None type_by (λ at. Some (record { row = mark kinds.Int ∷ form f.size ∷ []; gives = λ (n, _). type.Int at false n })) c kinds.Int known (λ t. refl)

type_other : (t : Placed) (k : Kind) → k ≢ kinds.Unsigned → k ≢ kinds.Signed → k ≢ kinds.Int → type_by t k ≡ None
type_other t kinds.Unsigned not_unsigned not_signed not_int = absurd (not_unsigned refl)
type_other t kinds.Signed not_unsigned not_signed not_int = absurd (not_signed refl)
type_other t kinds.Int not_unsigned not_signed not_int = absurd (not_int refl)
type_other t _ not_unsigned not_signed not_int = refl

pub no_type : (c : Ahead) → next_kind c ≢ Some kinds.Unsigned → next_kind c ≢ Some kinds.Signed → next_kind c ≢ Some kinds.Int → rule f.type (front c.rest) ≡ None
unfolding rule type_rule
no_type c not_unsigned not_signed not_int = fall None type_by None c refl
    (λ t k known. type_other t k (differs c k kinds.Unsigned known not_unsigned) (differs c k kinds.Signed known not_signed) (differs c k kinds.Int known not_int))

pub unsigned_none : (c : Ahead) → None ≡ next_kind c → rule f.unsigned_tail (front c.rest) ≡ None
unfolding rule unsigned_tail_rule
unsigned_none c none = rw (no_front c none) refl

pub unsigned_int_row : (c : Ahead) → next_kind c ≡ Some kinds.Int
    → rule f.unsigned_tail (front c.rest) ≡ Some (record { row = mark kinds.Int ∷ form f.size ∷ []; gives = λ (n, _) at. type.Unsigned at true n })
unfolding rule unsigned_tail_rule
unsigned_int_row c known = pick None unsigned_by (λ at. Some (record { row = mark kinds.Int ∷ form f.size ∷ []; gives = λ (n, _) at. type.Unsigned at true n })) c kinds.Int known (λ t. refl)

unsigned_other : (t : Placed) (k : Kind) → k ≢ kinds.Int → unsigned_by t k ≡ Some (record { row = form f.size ∷ []; gives = λ (n, _) at. type.Unsigned at false n })
unsigned_other t kinds.Int other = absurd (other refl)
unsigned_other t _ other = refl

pub unsigned_bare_row : (c : Ahead) (k : Kind) → next_kind c ≡ Some k → next_kind c ≢ Some kinds.Int
    → rule f.unsigned_tail (front c.rest) ≡ Some (record { row = form f.size ∷ []; gives = λ (n, _) at. type.Unsigned at false n })
unfolding rule unsigned_tail_rule
unsigned_bare_row c k known other = pick None unsigned_by (λ at. Some (record { row = form f.size ∷ []; gives = λ (n, _) at. type.Unsigned at false n }))
    c k known (λ t. unsigned_other t k (differs c k kinds.Int known other))

pub signed_none : (c : Ahead) → None ≡ next_kind c → rule f.signed_tail (front c.rest) ≡ None
unfolding rule signed_tail_rule
signed_none c none = rw (no_front c none) refl

pub signed_int_row : (c : Ahead) → next_kind c ≡ Some kinds.Int
    → rule f.signed_tail (front c.rest) ≡ Some (record { row = mark kinds.Int ∷ form f.size ∷ []; gives = λ (n, _) at. type.Int at true n })
unfolding rule signed_tail_rule
signed_int_row c known = pick None signed_by (λ at. Some (record { row = mark kinds.Int ∷ form f.size ∷ []; gives = λ (n, _) at. type.Int at true n })) c kinds.Int known (λ t. refl)

signed_other : (t : Placed) (k : Kind) → k ≢ kinds.Int → signed_by t k ≡ Some (record { row = form f.size ∷ []; gives = λ (n, _) at. type.Signed at n })
signed_other t kinds.Int other = absurd (other refl)
signed_other t _ other = refl

pub signed_bare_row : (c : Ahead) (k : Kind) → next_kind c ≡ Some k → next_kind c ≢ Some kinds.Int
    → rule f.signed_tail (front c.rest) ≡ Some (record { row = form f.size ∷ []; gives = λ (n, _) at. type.Signed at n })
unfolding rule signed_tail_rule
signed_bare_row c k known other = pick None signed_by (λ at. Some (record { row = form f.size ∷ []; gives = λ (n, _) at. type.Signed at n }))
    c k known (λ t. signed_other t k (differs c k kinds.Int known other))

pub size_none : (c : Ahead) → None ≡ next_kind c → rule f.size (front c.rest) ≡ None
unfolding rule size_rule
size_none c none = rw (no_front c none) refl

pub size_number_row : (c : Ahead) (t : Placed) (tail : List Placed) → c.rest ≡ t ∷ tail → kind t ≡ kinds.Number
    → rule f.size (front c.rest) ≡ Some (record { row = mark kinds.Number ∷ []; gives = λ _. size.Number t.place (number_of t.token) })
unfolding rule size_rule
size_number_row c t tail is of = pick_token None size_by c t tail kinds.Number is of

pub size_expr_row : (c : Ahead) → next_kind c ≡ Some (kinds.Mark m.ParenOpen)
    → rule f.size (front c.rest) ≡ Some (record { row = sign m.ParenOpen ∷ form f.expr ∷ sign m.ParenClose ∷ []; gives = λ (n, _). size.Expr n })
unfolding rule size_rule
size_expr_row c known = pick None size_by (λ at. Some (record { row = sign m.ParenOpen ∷ form f.expr ∷ sign m.ParenClose ∷ []; gives = λ (n, _). size.Expr n }))
    c (kinds.Mark m.ParenOpen) known (λ t. refl)

size_other : (t : Placed) (k : Kind) → k ≢ kinds.Number → k ≢ kinds.Mark m.ParenOpen → size_by t k
    ≡ (if is_name k then Some (record { row = form f.name ∷ []; gives = λ (x, _). size.Name x }) else None)
size_other t kinds.Number not_number not_open = absurd (not_number refl)
size_other t (kinds.Mark m.ParenOpen) not_number not_open = absurd (not_open refl)
size_other t _ not_number not_open = refl

-- a name is no mark
not_mark : (k : Kind) → is_name k ≡ true → k ≢ kinds.Mark m.ParenOpen
unfolding is_name
not_mark k named same = let is : is_name (kinds.Mark m.ParenOpen) ≡ true = ap is_name (sym same) ∙ named in absurd cc

pub size_name_row : (c : Ahead) (k : Kind) → next_kind c ≡ Some k → is_name k ≡ true → next_kind c ≢ Some kinds.Number
    → rule f.size (front c.rest) ≡ Some (record { row = form f.name ∷ []; gives = λ (x, _). size.Name x })
unfolding rule size_rule
size_name_row c k known named not_number = pick None size_by (λ at. Some (record { row = form f.name ∷ []; gives = λ (x, _). size.Name x })) c k known
    (λ t. size_other t k (differs c k kinds.Number known not_number) (not_mark k named)
    ∙ ap (λ b. if b then Some (record { row = form f.name ∷ []; gives = λ (x, _). size.Name x }) else None) named)

pub no_size : (c : Ahead) (k : Kind) → next_kind c ≡ Some k → is_name k ≡ false → next_kind c ≢ Some kinds.Number → next_kind c ≢ Some (kinds.Mark m.ParenOpen)
    → rule f.size (front c.rest) ≡ None
unfolding rule size_rule
no_size c k known not_name not_number not_open = pick None size_by (λ at. None) c k known
    (λ t. size_other t k (differs c k kinds.Number known not_number) (differs c k (kinds.Mark m.ParenOpen) known not_open)
    ∙ ap (λ b. if b then Some (record { row = form f.name ∷ []; gives = λ (x, _). size.Name x }) else None) not_name)
