-- What each form gives is an operand where its operands are.
use Rattle.std.proofs.Common.{◌≡◌, ◌<◌, ◌≤◌, ℕ, ◌^◌, List, Bool, true, false, not, ◌&&◌, ℤ, pos, negsuc, sym, subst, arith, Result, Ok, Err, IfOk, lit<, lit≤, nat_le, nat_lt, neg_ℤ}
use Rattle.std.proofs.lemmas.Nat.{pow_pos}
use Rattle.hc_core.proofs.Types.{widths_are}
use Rattle.hc_core.specs.Program.{Expression, Unary, Slice, Choice}
use Rattle.hc_core.specs.Typed.{IsNumber, Typed, constant, negative, complement, is_zero, to_signed, to_unsigned, slice, choice, width_of, sign_of, HasSomeType}
use Rattle.hc_core.specs.declared.expr.UnOp.{UnOp}
use Rattle.hc_core.specs.declared.expr.UnOp.TheVariants as un
use Rattle.hc_core.specs.declared.object.Kind.{Kind}
use Rattle.hc_num.specs.Compare.{truth}
use Rattle.hc_width.proofs.Typing.{typed_here}
use Rattle.hc_width.specs.Whole.{modulo, number_in, fits, holds}
use Rattle.hc_width.specs.Operand.{Operand, Whole, Of, operand, IsTyped, IsOperand, HasType, constant_in, condition_in}
use Rattle.hc_tree.specs.declared.place.Place.{Place}
use Rattle.hc_tree.specs.declared.refusal.FrontErr.{FrontErr}
use Rattle.hc_width.specs.declared.value.Value.{Value}
use Rattle.hc_width.specs.Judged.{Answers, Judged, Gives}
use Rattle.hc_width.specs.Unary.{ranged, unary, IsPrefix, cast_to, cast}
use Rattle.std.proofs.lemmas.Bool.Decides.{nat_tests}
use Rattle.hc_tree.specs.declared.refusal.Rule.TheVariants.{S11, S14}
use Rattle.hc_width.proofs.Steps.{unless_gives, widths_give, signs_give}
use Rattle.hc_width.specs.Parts.{cut, cut_within, condition, choose}

pub kept : (kinds : List Kind) (e : Expression) (o : Operand) → IsTyped kinds e → Gives (Of e) ≡ Gives o → IsOperand kinds o
kept kinds e o h is =
    let same : Of e ≡ o = cc in
    subst (λ (x : Operand). IsOperand kinds x) same h

-- ---- types of what is made

pub made : (kinds : List Kind) (e : Expression) (w : ℕ) (s : Bool) → Typed kinds e w s → 1 ≤ w → w ≤ 128 → IsTyped kinds e
made kinds e w s t l m =
    let p = widths_are kinds e w s t in
    record { typed = typed_here kinds e (w, s, t); least = omega arith; most = omega arith }

modulo_below : (w : ℕ) (v : ℤ) → modulo w v < 2 ^ w
modulo_below w (pos a) = let p = pow_pos w in omega arith
modulo_below w (negsuc a) = let p = pow_pos w in omega arith

pub number_is : (w : ℕ) (s : Bool) (v : ℤ) → 1 ≤ w → w ≤ 128 → IsNumber (number_in w s v)
number_is w s v l m = record { least = l; most = m; fits = modulo_below w v }

pub constant_typed : (kinds : List Kind) (w : ℕ) (s : Bool) (v : ℤ) → 1 ≤ w → w ≤ 128 → Typed kinds (constant_in w s v) w s
constant_typed kinds w s v l m = constant (number_in w s v) (number_is w s v l m)

truth_below : (b : Bool) → (truth b).bits < 2 ^ 1
truth_below true = lit< tt
truth_below false = lit< tt

pub condition_typed : (kinds : List Kind) (v : ℤ) → Typed kinds (condition_in v) 1 false
condition_typed kinds v = constant (truth (holds v)) (record { least = lit≤ tt; most = lit≤ tt; fits = truth_below (holds v) })

-- ---- constants give constants

pub given_kept : (kinds : List Kind) (v : ℤ) (o : Operand) → Gives (Whole v) ≡ Gives o → IsOperand kinds o
given_kept kinds v o is =
    let same : Whole v ≡ o = cc in
    subst (λ (x : Operand). IsOperand kinds x) same tt

pub ranged_kept : (kinds : List Kind) (v : ℤ) (o : Operand) → ranged v ≡ Gives o → IsOperand kinds o
ranged_kept kinds v o is = given_kept kinds v o (unless_gives _ _ _ o is).1

-- ---- an operator before its operand, and a cast

pub unary_kept : (kinds : List Kind) (op : UnOp) (v o : Operand) → IsPrefix op → IsOperand kinds v → unary op v ≡ Gives o → IsOperand kinds o
unfolding unary
unary_kept kinds un.Neg (Whole v) o p h is = ranged_kept kinds (neg_ℤ v) o is
unary_kept kinds un.Not (Whole v) o p h is = absurd (cc)
unary_kept kinds un.IsZero (Whole v) o p h is = given_kept kinds _ o is
unary_kept kinds un.ToSigned v o p h is = absurd p
unary_kept kinds un.ToUnsigned v o p h is = absurd p
unary_kept kinds un.Neg (Of e) o p h is = kept kinds _ o (made kinds _ _ _ (negative e _ _ h.typed) h.least h.most) is
unary_kept kinds un.Not (Of e) o p h is = kept kinds _ o (made kinds _ _ _ (complement e _ _ h.typed) h.least h.most) is
unary_kept kinds un.IsZero (Of e) o p h is = kept kinds _ o (made kinds _ _ _ (is_zero e _ _ h.typed) (lit≤ tt) (lit≤ tt)) is

cast_kept_to : (kinds : List Kind) (w : ℕ) (s : Bool) (e : Expression) (o : Operand) → Typed kinds e w s → Gives (Of e) ≡ Gives o → HasType kinds o w s
cast_kept_to kinds w s e o t is =
    let same : Of e ≡ o = cc in
    subst (λ (x : Operand). HasType kinds x w s) same t

recast : (kinds : List Kind) (w : ℕ) (s : Bool) (e : Expression) → Typed kinds e w (sign_of kinds e) → Typed kinds (Unary (cast_to s) e) w s
recast kinds w true e t = to_signed e w _ t
recast kinds w false e t = to_unsigned e w _ t

-- a cast gives the type that it names
pub cast_type : (kinds : List Kind) (w : ℕ) (s : Bool) (v o : Operand) → 1 ≤ w → w ≤ 128 → IsOperand kinds v → cast kinds w s v ≡ Gives o → HasType kinds o w s
unfolding cast
cast_type kinds w s (Whole v) o l m h is = cast_kept_to kinds w s _ o (constant_typed kinds w s v l m) ((unless_gives _ _ _ o is).1)
cast_type kinds w s (Of e) o l m h is =
    let g = widths_give w (width_of kinds e) _ o is in
    let t = subst (λ (n : ℕ). Typed kinds e n (sign_of kinds e)) (sym (g.0)) h.typed in
    cast_kept_to kinds w s _ o (recast kinds w s e t) (g.1)

has_type : (kinds : List Kind) (w : ℕ) (s : Bool) (o : Operand) → 1 ≤ w → w ≤ 128 → HasType kinds o w s → IsOperand kinds o
has_type kinds w s (Whole v) l m h = absurd h
has_type kinds w s (Of e) l m h = made kinds e w s h l m

pub cast_kept : (kinds : List Kind) (w : ℕ) (s : Bool) (v o : Operand) → 1 ≤ w → w ≤ 128 → IsOperand kinds v → cast kinds w s v ≡ Gives o → IsOperand kinds o
cast_kept kinds w s v o l m h is = has_type kinds w s o l m (cast_type kinds w s v o l m h is)

-- ---- the answers of calls

-- a value that is answered is an operand, where what is judged is one
pub answer_kept : (kinds : List Kind) (judged : Judged Operand) (at : Place) (r : Result Value FrontErr) → Answers judged at r
    → ((o : Operand) → judged ≡ Gives o → IsOperand kinds o) → IfOk r (λ v. IsOperand kinds (operand v))
answer_kept kinds judged at (Ok v) is each = each (operand v) is
answer_kept kinds judged at (Err f) is each = tt

-- and it has the type that what is judged has
pub answer_type : (kinds : List Kind) (w : ℕ) (s : Bool) (judged : Judged Operand) (at : Place) (r : Result Value FrontErr) → Answers judged at r
    → ((o : Operand) → judged ≡ Gives o → HasType kinds o w s) → IfOk r (λ v. HasType kinds (operand v) w s)
answer_type kinds w s judged at (Ok v) is each = each (operand v) is
answer_type kinds w s judged at (Err f) is each = tt

pub some_type : (kinds : List Kind) (e : Expression) → IsTyped kinds e → HasSomeType kinds e
some_type kinds e h = (width_of kinds e, sign_of kinds e, h.typed)

-- ---- bit ranges

sliced : (kinds : List Kind) (e : Expression) (high low : ℕ) → IsTyped kinds e → not (nat_le low high && nat_lt high (width_of kinds e)) ≡ false
    → IsTyped kinds (Slice e high low)
sliced kinds e high low h is =
    let order : low ≤ high = grind (arith, nat_tests) in
    let inside : high < width_of kinds e = grind (arith, nat_tests) in
    let least = h.least in
    let most = h.most in
    made kinds _ _ _ (slice e high low _ _ h.typed order inside) (omega arith) (omega arith)

cut_within_kept : (kinds : List Kind) (e : Expression) (high low : ℤ) (o : Operand) → IsTyped kinds e → cut_within kinds e high low ≡ Gives o → IsOperand kinds o
cut_within_kept kinds e (pos high) (pos low) o h is =
    let g = unless_gives (not (nat_le low high && nat_lt high (width_of kinds e))) S14 (Gives (Of (Slice e high low))) o is in
    kept kinds _ o (sliced kinds e high low h g.0) g.1
cut_within_kept kinds e (pos high) (negsuc low) o h is = absurd (cc)
cut_within_kept kinds e (negsuc high) low o h is = absurd (cc)

pub cut_kept : (kinds : List Kind) (v : Operand) (high low : ℤ) (o : Operand) → IsOperand kinds v → cut kinds v high low ≡ Gives o → IsOperand kinds o
unfolding cut
cut_kept kinds (Whole v) high low o h is = absurd (cc)
cut_kept kinds (Of e) high low o h is = cut_within_kept kinds e high low o h is

-- ---- choices

choice_typed : (kinds : List Kind) (c a b : Expression) → IsTyped kinds a → HasSomeType kinds c → Typed kinds b (width_of kinds a) (sign_of kinds a)
    → IsTyped kinds (Choice c a b)
choice_typed kinds c a b h (w, s, t) right = made kinds _ _ _ (choice c a b w _ s _ t h.typed right) h.least h.most

condition_has : (kinds : List Kind) (c : Operand) → IsOperand kinds c → HasSomeType kinds (condition c)
condition_has kinds (Whole v) h = (1, false, condition_typed kinds v)
condition_has kinds (Of e) h = some_type kinds e h

-- a type that is equal in width and sign
pub typed_as : (kinds : List Kind) (e : Expression) (w : ℕ) (s : Bool) → w ≡ width_of kinds e → s ≡ sign_of kinds e → IsTyped kinds e → Typed kinds e w s
typed_as kinds e w s p q h =
    subst (λ (n : ℕ). Typed kinds e n s) (sym p) (subst (λ (b : Bool). Typed kinds e (width_of kinds e) b) (sym q) h.typed)

pub choose_kept : (kinds : List Kind) (c a b o : Operand) → IsOperand kinds c → IsOperand kinds a → IsOperand kinds b → choose kinds c a b ≡ Gives o → IsOperand kinds o
unfolding choose
choose_kept kinds (Whole c) (Whole a) (Whole b) o hc ha hb is = given_kept kinds _ o is
choose_kept kinds (Of c) (Whole a) (Whole b) o hc ha hb is = absurd (cc)
choose_kept kinds c (Of a) (Of b) o hc ha hb is =
    let g = widths_give (width_of kinds a) (width_of kinds b) _ o is in
    let f = signs_give (sign_of kinds a) (sign_of kinds b) _ o (g.1) in
    kept kinds _ o (choice_typed kinds (condition c) a b ha (condition_has kinds c hc) (typed_as kinds b _ _ (g.0) (f.0) hb)) (f.1)
choose_kept kinds c (Of a) (Whole b) o hc ha hb is =
    let g = unless_gives (not (fits (width_of kinds a) b)) S11 _ o is in
    kept kinds _ o (choice_typed kinds (condition c) a _ ha (condition_has kinds c hc) (constant_typed kinds _ _ b ha.least ha.most)) (g.1)
choose_kept kinds c (Whole a) (Of b) o hc ha hb is =
    let g = unless_gives (not (fits (width_of kinds b) a)) S11 _ o is in
    let t = condition_has kinds c hc in
    let left = constant_typed kinds (width_of kinds b) (sign_of kinds b) a hb.least hb.most in
    kept kinds _ o (made kinds _ _ _ (choice (condition c) _ b t.0 _ t.1 _ t.2 left hb.typed) hb.least hb.most) (g.1)
