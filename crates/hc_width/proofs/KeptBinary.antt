-- What an operator between two operands gives is an operand.
use Rattle.std.proofs.Common.{◌≡◌, ◌<◌, ◌≤◌, ℕ, ◌+◌, ◌^◌, List, Bool, false, not, ◌&&◌, ℤ, pos, negsuc, refl, subst, arith, lit≤, nat_le, nat_lt, ◌+ℤ◌, ◌-ℤ◌, ◌*ℤ◌, int_div, int_rem}
use Rattle.std.specs.Int.{int_div_euclid}
use Rattle.std.proofs.lemmas.Bool.{ltb-false}
use Rattle.std.proofs.lemmas.Bool.Decides.{nat_tests}
use Rattle.hc_tree.specs.declared.refusal.Rule.TheVariants.{S10, S11, S13, S14}
use Rattle.hc_core.specs.Program.{Expression, Binary}
use Rattle.hc_core.specs.Typed.{IsAmount, Typed, arithmetic, division, bitwise, comparison, shift, joining, taking, dropping, logic, Group, Arithmetic, Division, Bitwise, Comparison, Shifting, Joining, Taking, Dropping, Logic, group_of, width_of, sign_of}
use Rattle.hc_core.specs.declared.expr.BinOp.{BinOp}
use Rattle.hc_core.specs.declared.expr.BinOp.TheVariants as op
use Rattle.hc_core.specs.declared.object.Kind.{Kind}
use Rattle.hc_width.specs.Whole.{number_in, fits}
use Rattle.hc_width.specs.Operand.{Operand, Whole, Of, IsTyped, IsOperand}
use Rattle.hc_width.specs.Judged.{Gives}
use Rattle.hc_width.specs.Binary as rule
use Rattle.hc_width.specs.Binary.{by_bits, divided, shifted, binary_whole, needs_unsigned, alike, by_group, binary}
use Rattle.hc_width.proofs.Steps.{unless_gives, widths_give, signs_give}
use Rattle.hc_width.proofs.Kept.{kept, made, number_is, constant_typed, condition_typed, given_kept, ranged_kept, typed_as}

-- ---- two constants

divided_kept : (kinds : List Kind) (v d : ℤ) (o : Operand) → divided v d ≡ Gives o → IsOperand kinds o
divided_kept kinds v (pos n) o is = ranged_kept kinds v o (unless_gives _ _ _ o is).1
divided_kept kinds v (negsuc n) o is = ranged_kept kinds v o is

by_bits_kept : (kinds : List Kind) (f : ℕ → ℕ → ℕ) (a b : ℤ) (o : Operand) → by_bits f a b ≡ Gives o → IsOperand kinds o
by_bits_kept kinds f (pos a) (pos b) o is = given_kept kinds _ o is
by_bits_kept kinds f (pos a) (negsuc b) o is = absurd (cc)
by_bits_kept kinds f (negsuc a) b o is = absurd (cc)

shifted_kept : (kinds : List Kind) (f : ℕ → ℤ) (b : ℤ) (o : Operand) → shifted f b ≡ Gives o → IsOperand kinds o
shifted_kept kinds f (pos n) o is = ranged_kept kinds (f n) o is
shifted_kept kinds f (negsuc n) o is = absurd (cc)

whole_kept : (kinds : List Kind) (o : BinOp) (a b : ℤ) (r : Operand) → binary_whole o a b ≡ Gives r → IsOperand kinds r
unfolding binary_whole
whole_kept kinds op.Add a b r is = ranged_kept kinds (a +ℤ b) r is
whole_kept kinds op.Sub a b r is = ranged_kept kinds (a -ℤ b) r is
whole_kept kinds op.Mul a b r is = ranged_kept kinds (a *ℤ b) r is
whole_kept kinds op.Div a b r is = divided_kept kinds (int_div a b) b r is
whole_kept kinds op.Rem a b r is = divided_kept kinds (int_rem a b) b r is
whole_kept kinds op.And a b r is = by_bits_kept kinds _ a b r is
whole_kept kinds op.Or a b r is = by_bits_kept kinds _ a b r is
whole_kept kinds op.Xor a b r is = by_bits_kept kinds _ a b r is
whole_kept kinds op.Eq a b r is = given_kept kinds _ r is
whole_kept kinds op.Ne a b r is = given_kept kinds _ r is
whole_kept kinds op.Lt a b r is = given_kept kinds _ r is
whole_kept kinds op.Le a b r is = given_kept kinds _ r is
whole_kept kinds op.Gt a b r is = given_kept kinds _ r is
whole_kept kinds op.Ge a b r is = given_kept kinds _ r is
whole_kept kinds op.Shl a b r is = shifted_kept kinds (λ n. a *ℤ pos (2 ^ n)) b r is
whole_kept kinds op.Shr a b r is = shifted_kept kinds (λ n. int_div_euclid a (pos (2 ^ n))) b r is
whole_kept kinds op.Concat a b r is = absurd (cc)
whole_kept kinds op.Take a b r is = absurd (cc)
whole_kept kinds op.Drop a b r is = absurd (cc)
whole_kept kinds op.Both a b r is = given_kept kinds _ r is
whole_kept kinds op.Either a b r is = given_kept kinds _ r is

-- between two constants an operator is that of constants
pub both_constants : (kinds : List Kind) (o : BinOp) (a b : ℤ) → binary kinds o (Whole a) (Whole b) ≡ binary_whole o a b
unfolding binary binary_whole
both_constants kinds op.Add a b = refl
both_constants kinds op.Sub a b = refl
both_constants kinds op.Mul a b = refl
both_constants kinds op.Div a b = refl
both_constants kinds op.Rem a b = refl
both_constants kinds op.And a b = refl
both_constants kinds op.Or a b = refl
both_constants kinds op.Xor a b = refl
both_constants kinds op.Eq a b = refl
both_constants kinds op.Ne a b = refl
both_constants kinds op.Lt a b = refl
both_constants kinds op.Le a b = refl
both_constants kinds op.Gt a b = refl
both_constants kinds op.Ge a b = refl
both_constants kinds op.Shl a b = refl
both_constants kinds op.Shr a b = refl
both_constants kinds op.Concat a b = refl
both_constants kinds op.Take a b = refl
both_constants kinds op.Drop a b = refl
both_constants kinds op.Both a b = refl
both_constants kinds op.Either a b = refl

-- ---- operands of one type

abbrev IsAlike : Group → Type 0
IsAlike Arithmetic = Unit {0}
IsAlike Division = Unit {0}
IsAlike Bitwise = Unit {0}
IsAlike Comparison = Unit {0}
IsAlike Shifting = ⊥
IsAlike Joining = ⊥
IsAlike Taking = ⊥
IsAlike Dropping = ⊥
IsAlike Logic = ⊥

unsigned_as : (kinds : List Kind) (e : Expression) (w : ℕ) (s : Bool) → s ≡ false → Typed kinds e w s → Typed kinds e w false
unsigned_as kinds e w s plain t = subst (λ (b : Bool). Typed kinds e w b) plain t

alike_typed : (kinds : List Kind) (o : BinOp) (a b : Expression) (w : ℕ) (s : Bool) (g : Group) → group_of o ≡ g → IsAlike g → (needs_unsigned g && s) ≡ false
    → Typed kinds a w s → Typed kinds b w s → 1 ≤ w → w ≤ 128 → IsTyped kinds (Binary o a b)
alike_typed kinds o a b w s Arithmetic is one plain t u l m = made kinds _ _ _ (arithmetic o a b w s is t u) l m
alike_typed kinds o a b w s Division is one plain t u l m =
    made kinds _ _ _ (division o a b w is (unsigned_as kinds a w s plain t) (unsigned_as kinds b w s plain u)) l m
alike_typed kinds o a b w s Bitwise is one plain t u l m = made kinds _ _ _ (bitwise o a b w s is t u) l m
alike_typed kinds o a b w s Comparison is one plain t u l m = made kinds _ _ _ (comparison o a b w s is t u) (lit≤ tt) (lit≤ tt)
alike_typed kinds o a b w s Shifting is one plain t u l m = absurd one
alike_typed kinds o a b w s Joining is one plain t u l m = absurd one
alike_typed kinds o a b w s Taking is one plain t u l m = absurd one
alike_typed kinds o a b w s Dropping is one plain t u l m = absurd one
alike_typed kinds o a b w s Logic is one plain t u l m = absurd one

for_group : (o : BinOp) (g : Group) (s : Bool) → group_of o ≡ g → (needs_unsigned (group_of o) && s) ≡ false → (needs_unsigned g && s) ≡ false
for_group o g s is plain = subst (λ (k : Group). (needs_unsigned k && s) ≡ false) is plain

alike_kept : (kinds : List Kind) (o : BinOp) (a b r : Operand) (g : Group) → group_of o ≡ g → IsAlike g → IsOperand kinds a → IsOperand kinds b
    → alike kinds o a b ≡ Gives r → IsOperand kinds r
alike_kept kinds o (Whole a) (Whole b) r g is one ha hb j = whole_kept kinds o a b r j
alike_kept kinds o (Of a) (Of b) r g is one ha hb j =
    let p = widths_give (width_of kinds a) (width_of kinds b) _ r j in
    let q = signs_give (sign_of kinds a) (sign_of kinds b) _ r (p.1) in
    let f = unless_gives (needs_unsigned (group_of o) && sign_of kinds a) S10 (Gives (Of (Binary o a b))) r (q.1) in
    kept kinds _ r (alike_typed kinds o a b (width_of kinds a) (sign_of kinds a) g is one (for_group o g _ is (f.0)) ha.typed (typed_as kinds b _ _ (p.0) (q.0) hb) ha.least ha.most) (f.1)
alike_kept kinds o (Of a) (Whole b) r g is one ha hb j =
    let f = unless_gives (needs_unsigned (group_of o) && sign_of kinds a) S10 _ r j in
    let h = unless_gives (not (fits (width_of kinds a) b)) S11 _ r (f.1) in
    kept kinds _ r (alike_typed kinds o a _ (width_of kinds a) (sign_of kinds a) g is one (for_group o g _ is (f.0)) ha.typed (constant_typed kinds _ _ b ha.least ha.most) ha.least ha.most) (h.1)
alike_kept kinds o (Whole a) (Of b) r g is one ha hb j =
    let f = unless_gives (needs_unsigned (group_of o) && sign_of kinds b) S10 _ r j in
    let h = unless_gives (not (fits (width_of kinds b) a)) S11 _ r (f.1) in
    kept kinds _ r (alike_typed kinds o _ b (width_of kinds b) (sign_of kinds b) g is one (for_group o g _ is (f.0)) (constant_typed kinds _ _ a hb.least hb.most) hb.typed hb.least hb.most) (h.1)

-- ---- the other groups

shifting_kept : (kinds : List Kind) (o : BinOp) (a b r : Operand) → group_of o ≡ Shifting → IsOperand kinds a → IsOperand kinds b
    → rule.shifting kinds o a b ≡ Gives r → IsOperand kinds r
shifting_kept kinds o (Whole a) (Whole b) r is ha hb j = whole_kept kinds o a b r j
shifting_kept kinds o (Of a) (Of b) r is ha hb j =
    let f = unless_gives (sign_of kinds b) S10 _ r j in
    kept kinds _ r (made kinds _ _ _ (shift o a b _ _ _ is ha.typed (unsigned_as kinds b _ _ (f.0) hb.typed)) ha.least ha.most) (f.1)
shifting_kept kinds o (Of a) (Whole b) r is ha hb j =
    let f = unless_gives _ S11 _ r j in
    kept kinds _ r (made kinds _ _ _ (shift o a _ _ _ _ is ha.typed (constant_typed kinds 128 false b (lit≤ tt) (lit≤ tt))) ha.least ha.most) (f.1)
shifting_kept kinds o (Whole a) (Of b) r is ha hb j =
    let f = unless_gives (sign_of kinds b) S10 _ r j in
    let h = unless_gives (not (fits (width_of kinds b) a)) S11 _ r (f.1) in
    kept kinds _ r (made kinds _ _ _ (shift o _ b _ _ _ is (constant_typed kinds _ false a hb.least hb.most) (unsigned_as kinds b _ _ (f.0) hb.typed)) hb.least hb.most) (h.1)

joining_kept : (kinds : List Kind) (o : BinOp) (a b r : Operand) → group_of o ≡ Joining → IsOperand kinds a → IsOperand kinds b
    → rule.joining kinds o a b ≡ Gives r → IsOperand kinds r
joining_kept kinds o (Whole a) b r is ha hb j = absurd (cc)
joining_kept kinds o (Of a) (Whole b) r is ha hb j = absurd (cc)
joining_kept kinds o (Of a) (Of b) r is ha hb j =
    let f = unless_gives (nat_lt 128 (width_of kinds a + width_of kinds b)) S13 _ r j in
    let most : width_of kinds a + width_of kinds b ≤ 128 = ltb-false _ _ (f.0) in
    let least = ha.least in
    kept kinds _ r (made kinds _ _ _ (joining o a b _ _ _ _ is ha.typed hb.typed most) (omega arith) most) (f.1)

amount_is : (n : ℕ) → IsAmount (number_in 128 false (pos n))
amount_is n = record { number = number_is 128 false (pos n) (lit≤ tt) (lit≤ tt); width = refl; unsigned = refl }

taking_kept : (kinds : List Kind) (o : BinOp) (a b r : Operand) → group_of o ≡ Taking → IsOperand kinds a → IsOperand kinds b
    → rule.within kinds o (λ n w. nat_le 1 n && nat_le n w) a b ≡ Gives r → IsOperand kinds r
taking_kept kinds o (Whole a) b r is ha hb j = absurd (cc)
taking_kept kinds o (Of a) (Of b) r is ha hb j = absurd (cc)
taking_kept kinds o (Of a) (Whole (negsuc n)) r is ha hb j = absurd (cc)
taking_kept kinds o (Of a) (Whole (pos n)) r is ha hb j =
    let f = unless_gives (not (nat_le 1 n && nat_le n (width_of kinds a))) S14 _ r j in
    let plain : not (nat_le 1 n && nat_le n (width_of kinds a)) ≡ false = f.0 in
    let least : 1 ≤ n = grind (arith, nat_tests) in
    let most : n ≤ width_of kinds a = grind (arith, nat_tests) in
    let bound = ha.most in
    kept kinds _ r (made kinds _ _ _ (taking o a (number_in 128 false (pos n)) _ _ is ha.typed (amount_is n) (omega arith) (omega arith)) (omega arith) (omega arith)) (f.1)

dropping_kept : (kinds : List Kind) (o : BinOp) (a b r : Operand) → group_of o ≡ Dropping → IsOperand kinds a → IsOperand kinds b
    → rule.within kinds o (λ n w. nat_lt n w) a b ≡ Gives r → IsOperand kinds r
dropping_kept kinds o (Whole a) b r is ha hb j = absurd (cc)
dropping_kept kinds o (Of a) (Of b) r is ha hb j = absurd (cc)
dropping_kept kinds o (Of a) (Whole (negsuc n)) r is ha hb j = absurd (cc)
dropping_kept kinds o (Of a) (Whole (pos n)) r is ha hb j =
    let f = unless_gives (not (nat_lt n (width_of kinds a))) S14 _ r j in
    let plain : not (nat_lt n (width_of kinds a)) ≡ false = f.0 in
    let inside : n < width_of kinds a = grind (arith, nat_tests) in
    let bound = ha.most in
    kept kinds _ r (made kinds _ _ _ (dropping o a (number_in 128 false (pos n)) _ _ is ha.typed (amount_is n) (omega arith)) (omega arith) (omega arith)) (f.1)

logic_kept : (kinds : List Kind) (o : BinOp) (a b r : Operand) → group_of o ≡ Logic → IsOperand kinds a → IsOperand kinds b
    → rule.logic o a b ≡ Gives r → IsOperand kinds r
logic_kept kinds o (Whole a) (Whole b) r is ha hb j = whole_kept kinds o a b r j
logic_kept kinds o (Of a) (Of b) r is ha hb j =
    kept kinds _ r (made kinds _ _ _ (logic o a b _ _ _ _ is ha.typed hb.typed) (lit≤ tt) (lit≤ tt)) j
logic_kept kinds o (Of a) (Whole b) r is ha hb j =
    kept kinds _ r (made kinds _ _ _ (logic o a _ _ _ _ _ is ha.typed (condition_typed kinds b)) (lit≤ tt) (lit≤ tt)) j
logic_kept kinds o (Whole a) (Of b) r is ha hb j =
    kept kinds _ r (made kinds _ _ _ (logic o _ b _ _ _ _ is (condition_typed kinds a) hb.typed) (lit≤ tt) (lit≤ tt)) j

group_kept : (kinds : List Kind) (o : BinOp) (a b r : Operand) (g : Group) → group_of o ≡ g → IsOperand kinds a → IsOperand kinds b
    → by_group kinds g o a b ≡ Gives r → IsOperand kinds r
group_kept kinds o a b r Arithmetic is ha hb j = alike_kept kinds o a b r Arithmetic is tt ha hb j
group_kept kinds o a b r Division is ha hb j = alike_kept kinds o a b r Division is tt ha hb j
group_kept kinds o a b r Bitwise is ha hb j = alike_kept kinds o a b r Bitwise is tt ha hb j
group_kept kinds o a b r Comparison is ha hb j = alike_kept kinds o a b r Comparison is tt ha hb j
group_kept kinds o a b r Shifting is ha hb j = shifting_kept kinds o a b r is ha hb j
group_kept kinds o a b r Joining is ha hb j = joining_kept kinds o a b r is ha hb j
group_kept kinds o a b r Taking is ha hb j = taking_kept kinds o a b r is ha hb j
group_kept kinds o a b r Dropping is ha hb j = dropping_kept kinds o a b r is ha hb j
group_kept kinds o a b r Logic is ha hb j = logic_kept kinds o a b r is ha hb j

pub binary_kept : (kinds : List Kind) (o : BinOp) (a b r : Operand) → IsOperand kinds a → IsOperand kinds b → binary kinds o a b ≡ Gives r → IsOperand kinds r
unfolding binary
binary_kept kinds o a b r ha hb j = group_kept kinds o a b r (group_of o) refl ha hb j
