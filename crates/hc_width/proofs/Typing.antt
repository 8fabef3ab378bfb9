-- What the type of an expression says of its parts.
use Rattle.std.proofs.Common.{◌≡◌, ◌<◌, ◌≤◌, ℕ, ◌+◌, List, Bool, false, sym, ap, ◌∙◌, subst, arith}
use Rattle.hc_core.specs.Program.{Expression, Unary, Binary, Slice, Choice}
use Rattle.hc_core.specs.Typed.{Typed, negative, complement, is_zero, to_signed, to_unsigned, arithmetic, division, bitwise, comparison, shift, joining, taking, dropping, logic, slice, choice, HasSomeType, Group, Joining, Taking, Dropping, group_of, group_width, group_sign, width_of, sign_of, constant_of}
use Rattle.hc_core.proofs.Types.{widths_are, signs_are}
use Rattle.hc_core.proofs.Read.{read_Unary, read_Binary, read_Slice, read_Choice}
use Rattle.hc_core.specs.Read.{expression}
use Rattle.hc_core.specs.declared.expr.Expr.{Expr}
use Rattle.hc_core.specs.declared.expr.Expr.TheVariants as e
use Rattle.hc_core.specs.declared.expr.UnOp.{UnOp}
use Rattle.hc_core.specs.declared.expr.BinOp.{BinOp}
use Rattle.hc_core.specs.declared.object.Kind.{Kind}

-- the operand of an operator before it
pub operand_typed : (kinds : List Kind) (op : UnOp) (a : Expression) → HasSomeType kinds (Unary op a) → HasSomeType kinds a
operand_typed kinds _ _ (_, _, negative a w s t) = (w, s, t)
operand_typed kinds _ _ (_, _, complement a w s t) = (w, s, t)
operand_typed kinds _ _ (_, _, is_zero a w s t) = (w, s, t)
operand_typed kinds _ _ (_, _, to_signed a w s t) = (w, s, t)
operand_typed kinds _ _ (_, _, to_unsigned a w s t) = (w, s, t)

-- the first operand of an operator between two
pub left_typed : (kinds : List Kind) (op : BinOp) (a b : Expression) → HasSomeType kinds (Binary op a b) → HasSomeType kinds a
left_typed kinds _ _ _ (_, _, arithmetic op a b w s is t u) = (w, s, t)
left_typed kinds _ _ _ (_, _, division op a b w is t u) = (w, false, t)
left_typed kinds _ _ _ (_, _, bitwise op a b w s is t u) = (w, s, t)
left_typed kinds _ _ _ (_, _, comparison op a b w s is t u) = (w, s, t)
left_typed kinds _ _ _ (_, _, shift op a b w v s is t u) = (w, s, t)
left_typed kinds _ _ _ (_, _, joining op a b w v s r is t u most) = (w, s, t)
left_typed kinds _ _ _ (_, _, taking op a n w s is t amount least most) = (w, s, t)
left_typed kinds _ _ _ (_, _, dropping op a n w s is t amount most) = (w, s, t)
left_typed kinds _ _ _ (_, _, logic op a b w v s r is t u) = (w, s, t)

pub choice_typed : (kinds : List Kind) (c a b : Expression) → HasSomeType kinds (Choice c a b) → HasSomeType kinds a
choice_typed kinds _ _ _ (_, _, choice c a b v w r s x t u) = (w, s, t)

-- an expression that has a type has the one that is computed
pub typed_here : (kinds : List Kind) (e : Expression) → HasSomeType kinds e → Typed kinds e (width_of kinds e) (sign_of kinds e)
typed_here kinds e (w, s, t) =
    let ew = sym (widths_are kinds e w s t) in
    let es = sym (signs_are kinds e w s t) in
    subst (λ (n : ℕ). Typed kinds e n (sign_of kinds e)) ew (subst (λ (b : Bool). Typed kinds e w b) es t)

-- the second operand of `@`, and the widths of both
pub joined_typed : (kinds : List Kind) (op : BinOp) (a b : Expression) → group_of op ≡ Joining → HasSomeType kinds (Binary op a b) → HasSomeType kinds b
joined_typed kinds _ _ _ g (_, _, arithmetic op a b w s is t u) = absurd (cc)
joined_typed kinds _ _ _ g (_, _, division op a b w is t u) = absurd (cc)
joined_typed kinds _ _ _ g (_, _, bitwise op a b w s is t u) = absurd (cc)
joined_typed kinds _ _ _ g (_, _, comparison op a b w s is t u) = absurd (cc)
joined_typed kinds _ _ _ g (_, _, shift op a b w v s is t u) = absurd (cc)
joined_typed kinds _ _ _ g (_, _, joining op a b w v s r is t u most) = (v, r, u)
joined_typed kinds _ _ _ g (_, _, taking op a n w s is t amount least most) = absurd (cc)
joined_typed kinds _ _ _ g (_, _, dropping op a n w s is t amount most) = absurd (cc)
joined_typed kinds _ _ _ g (_, _, logic op a b w v s r is t u) = absurd (cc)

pub joined_width : (kinds : List Kind) (op : BinOp) (a b : Expression) → group_of op ≡ Joining → HasSomeType kinds (Binary op a b)
    → width_of kinds a + width_of kinds b ≤ 128
joined_width kinds _ _ _ g (_, _, arithmetic op a b w s is t u) = absurd (cc)
joined_width kinds _ _ _ g (_, _, division op a b w is t u) = absurd (cc)
joined_width kinds _ _ _ g (_, _, bitwise op a b w s is t u) = absurd (cc)
joined_width kinds _ _ _ g (_, _, comparison op a b w s is t u) = absurd (cc)
joined_width kinds _ _ _ g (_, _, shift op a b w v s is t u) = absurd (cc)
joined_width kinds _ _ _ g (_, _, joining op a b w v s r is t u most) =
    let p = widths_are kinds a w s t in
    let q = widths_are kinds b v r u in
    omega arith
joined_width kinds _ _ _ g (_, _, taking op a n w s is t amount least most) = absurd (cc)
joined_width kinds _ _ _ g (_, _, dropping op a n w s is t amount most) = absurd (cc)
joined_width kinds _ _ _ g (_, _, logic op a b w v s r is t u) = absurd (cc)

-- so many bits as are taken, the operand has
pub taken_width : (kinds : List Kind) (op : BinOp) (a b : Expression) → group_of op ≡ Taking → HasSomeType kinds (Binary op a b)
    → constant_of b ≤ width_of kinds a
taken_width kinds _ _ _ g (_, _, arithmetic op a b w s is t u) = absurd (cc)
taken_width kinds _ _ _ g (_, _, division op a b w is t u) = absurd (cc)
taken_width kinds _ _ _ g (_, _, bitwise op a b w s is t u) = absurd (cc)
taken_width kinds _ _ _ g (_, _, comparison op a b w s is t u) = absurd (cc)
taken_width kinds _ _ _ g (_, _, shift op a b w v s is t u) = absurd (cc)
taken_width kinds _ _ _ g (_, _, joining op a b w v s r is t u most) = absurd (cc)
taken_width kinds _ _ _ g (_, _, taking op a n w s is t amount least most) =
    let p = widths_are kinds a w s t in
    omega arith
taken_width kinds _ _ _ g (_, _, dropping op a n w s is t amount most) = absurd (cc)
taken_width kinds _ _ _ g (_, _, logic op a b w v s r is t u) = absurd (cc)

-- more bits than are dropped, the operand has
pub dropped_width : (kinds : List Kind) (op : BinOp) (a b : Expression) → group_of op ≡ Dropping → HasSomeType kinds (Binary op a b)
    → constant_of b < width_of kinds a
dropped_width kinds _ _ _ g (_, _, arithmetic op a b w s is t u) = absurd (cc)
dropped_width kinds _ _ _ g (_, _, division op a b w is t u) = absurd (cc)
dropped_width kinds _ _ _ g (_, _, bitwise op a b w s is t u) = absurd (cc)
dropped_width kinds _ _ _ g (_, _, comparison op a b w s is t u) = absurd (cc)
dropped_width kinds _ _ _ g (_, _, shift op a b w v s is t u) = absurd (cc)
dropped_width kinds _ _ _ g (_, _, joining op a b w v s r is t u most) = absurd (cc)
dropped_width kinds _ _ _ g (_, _, taking op a n w s is t amount least most) = absurd (cc)
dropped_width kinds _ _ _ g (_, _, dropping op a n w s is t amount most) =
    let p = widths_are kinds a w s t in
    omega arith
dropped_width kinds _ _ _ g (_, _, logic op a b w v s r is t u) = absurd (cc)

-- the bits of a range are within the operand
pub sliced_typed : (kinds : List Kind) (a : Expression) (high low : ℕ) → HasSomeType kinds (Slice a high low) → HasSomeType kinds a
sliced_typed kinds _ _ _ (_, _, slice a high low w s t least most) = (w, s, t)

pub sliced_order : (kinds : List Kind) (a : Expression) (high low : ℕ) → HasSomeType kinds (Slice a high low) → low ≤ high
sliced_order kinds _ _ _ (_, _, slice a high low w s t least most) = least

pub sliced_width : (kinds : List Kind) (a : Expression) (high low : ℕ) → HasSomeType kinds (Slice a high low) → high < width_of kinds a
sliced_width kinds _ _ _ (_, _, slice a high low w s t least most) =
    let p = widths_are kinds a w s t in
    omega arith

-- ---- the same, where an expression of the code has the form

form_unary : (x : Expr) (op : UnOp) (a : Expr) → x ≡ e.Unary op a → expression x ≡ Unary op (expression a)
form_unary x op a is = ap expression is ∙ read_Unary op a

form_binary : (x : Expr) (op : BinOp) (a b : Expr) → x ≡ e.Binary op a b → expression x ≡ Binary op (expression a) (expression b)
form_binary x op a b is = ap expression is ∙ read_Binary op a b

form_slice : (x a : Expr) (high low : ℕ) → x ≡ e.Slice a high low → expression x ≡ Slice (expression a) high low
form_slice x a high low is = ap expression is ∙ read_Slice a high low

form_choice : (x c a b : Expr) → x ≡ e.Choice c a b → expression x ≡ Choice (expression c) (expression a) (expression b)
form_choice x c a b is = ap expression is ∙ read_Choice c a b

has_along : (kinds : List Kind) (d f : Expression) → d ≡ f → HasSomeType kinds d → HasSomeType kinds f
has_along kinds d f is h = subst (λ (y : Expression). HasSomeType kinds y) is h

-- the operand that is gone into, and is a
into : (kinds : List Kind) (a y : Expr) → y ≡ a → HasSomeType kinds (expression a) → HasSomeType kinds (expression y)
into kinds a y is h = has_along kinds (expression a) (expression y) (ap expression (sym is)) h

pub operand_in : (kinds : List Kind) (x : Expr) (op : UnOp) (a y : Expr) → x ≡ e.Unary op a → y ≡ a
    → HasSomeType kinds (expression x) → HasSomeType kinds (expression y)
operand_in kinds x op a y is here h =
    into kinds a y here (operand_typed kinds op (expression a) (has_along kinds _ _ (form_unary x op a is) h))

pub left_in : (kinds : List Kind) (x : Expr) (op : BinOp) (a b y : Expr) → x ≡ e.Binary op a b → y ≡ a
    → HasSomeType kinds (expression x) → HasSomeType kinds (expression y)
left_in kinds x op a b y is here h =
    into kinds a y here (left_typed kinds op (expression a) (expression b) (has_along kinds _ _ (form_binary x op a b is) h))

pub joined_in : (kinds : List Kind) (x : Expr) (op : BinOp) (a b y : Expr) → x ≡ e.Binary op a b → y ≡ b → Joining ≡ group_of op
    → HasSomeType kinds (expression x) → HasSomeType kinds (expression y)
joined_in kinds x op a b y is here group h =
    into kinds b y here (joined_typed kinds op (expression a) (expression b) (sym group) (has_along kinds _ _ (form_binary x op a b is) h))

pub joined_width_in : (kinds : List Kind) (x : Expr) (op : BinOp) (a b : Expr) → x ≡ e.Binary op a b → Joining ≡ group_of op
    → HasSomeType kinds (expression x) → width_of kinds (expression a) + width_of kinds (expression b) ≤ 128
joined_width_in kinds x op a b is group h =
    joined_width kinds op (expression a) (expression b) (sym group) (has_along kinds _ _ (form_binary x op a b is) h)

pub taken_width_in : (kinds : List Kind) (x : Expr) (op : BinOp) (a b : Expr) → x ≡ e.Binary op a b → Taking ≡ group_of op
    → HasSomeType kinds (expression x) → constant_of (expression b) ≤ width_of kinds (expression a)
taken_width_in kinds x op a b is group h =
    taken_width kinds op (expression a) (expression b) (sym group) (has_along kinds _ _ (form_binary x op a b is) h)

pub dropped_width_in : (kinds : List Kind) (x : Expr) (op : BinOp) (a b : Expr) → x ≡ e.Binary op a b → Dropping ≡ group_of op
    → HasSomeType kinds (expression x) → constant_of (expression b) < width_of kinds (expression a)
dropped_width_in kinds x op a b is group h =
    dropped_width kinds op (expression a) (expression b) (sym group) (has_along kinds _ _ (form_binary x op a b is) h)

pub sliced_in : (kinds : List Kind) (x a y : Expr) (high low : ℕ) → x ≡ e.Slice a high low → y ≡ a
    → HasSomeType kinds (expression x) → HasSomeType kinds (expression y)
sliced_in kinds x a y high low is here h =
    into kinds a y here (sliced_typed kinds (expression a) high low (has_along kinds _ _ (form_slice x a high low is) h))

pub sliced_order_in : (kinds : List Kind) (x a : Expr) (high low : ℕ) → x ≡ e.Slice a high low
    → HasSomeType kinds (expression x) → low ≤ high
sliced_order_in kinds x a high low is h = sliced_order kinds (expression a) high low (has_along kinds _ _ (form_slice x a high low is) h)

pub sliced_width_in : (kinds : List Kind) (x a : Expr) (high low : ℕ) → x ≡ e.Slice a high low
    → HasSomeType kinds (expression x) → high < width_of kinds (expression a)
sliced_width_in kinds x a high low is h = sliced_width kinds (expression a) high low (has_along kinds _ _ (form_slice x a high low is) h)

pub choice_in : (kinds : List Kind) (x c a b y : Expr) → x ≡ e.Choice c a b → y ≡ a
    → HasSomeType kinds (expression x) → HasSomeType kinds (expression y)
choice_in kinds x c a b y is here h =
    into kinds a y here (choice_typed kinds (expression c) (expression a) (expression b) (has_along kinds _ _ (form_choice x c a b is) h))

pub width_binary : (kinds : List Kind) (x : Expr) (op : BinOp) (a b : Expr) (g : Group) → x ≡ e.Binary op a b → g ≡ group_of op
    → width_of kinds (expression x) ≡ group_width g (width_of kinds (expression a)) (width_of kinds (expression b)) (constant_of (expression b))
width_binary kinds x op a b g is group =
    ap (width_of kinds) (form_binary x op a b is)
    ∙ ap (λ k. group_width k (width_of kinds (expression a)) (width_of kinds (expression b)) (constant_of (expression b))) (sym group)

pub sign_binary : (kinds : List Kind) (x : Expr) (op : BinOp) (a b : Expr) (g : Group) → x ≡ e.Binary op a b → g ≡ group_of op
    → sign_of kinds (expression x) ≡ group_sign g (sign_of kinds (expression a))
sign_binary kinds x op a b g is group =
    ap (sign_of kinds) (form_binary x op a b is) ∙ ap (λ k. group_sign k (sign_of kinds (expression a))) (sym group)

pub width_unary : (kinds : List Kind) (x : Expr) (op : UnOp) (a : Expr) → x ≡ e.Unary op a
    → width_of kinds (expression x) ≡ width_of kinds (Unary op (expression a))
width_unary kinds x op a is = ap (width_of kinds) (form_unary x op a is)

pub sign_unary : (kinds : List Kind) (x : Expr) (op : UnOp) (a : Expr) → x ≡ e.Unary op a
    → sign_of kinds (expression x) ≡ sign_of kinds (Unary op (expression a))
sign_unary kinds x op a is = ap (sign_of kinds) (form_unary x op a is)

pub width_choice : (kinds : List Kind) (x c a b : Expr) → x ≡ e.Choice c a b → width_of kinds (expression x) ≡ width_of kinds (expression a)
width_choice kinds x c a b is = ap (width_of kinds) (form_choice x c a b is)

pub sign_choice : (kinds : List Kind) (x c a b : Expr) → x ≡ e.Choice c a b → sign_of kinds (expression x) ≡ sign_of kinds (expression a)
sign_choice kinds x c a b is = ap (sign_of kinds) (form_choice x c a b is)

pub ruleset typing = (typed_here, operand_in, left_in, joined_in, sliced_in, choice_in, sliced_order_in)
