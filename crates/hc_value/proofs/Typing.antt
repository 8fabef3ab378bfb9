-- What the type of an expression says of its parts, and what the circuit of the whole gives those of its parts.
use Rattle.std.proofs.Common.{◌≡◌, ◌<◌, ◌≤◌, ℕ, zero, suc, ◌+◌, ◌-◌, ◌*◌, ◌^◌, List, length, Bool, true, false, Some, None, refl, ap, sym, ◌∙◌, subst, arith, inl, inr}
use Rattle.std.specs.Prelude.{slice_get, nat_le, if◌then◌else◌}
use Rattle.std.proofs.Math.Nat.{pow-suc}
use Rattle.std.proofs.lemmas.Bool.{cases_lt, lt-leb, le-leb}
use Rattle.hc_num.specs.Number.{Number}
use Rattle.hc_num.specs.Index.{first_from, index_width}
use Rattle.hc_num.specs.Parts.{low_part, high_part}
use Rattle.hc_num.specs.Shift.{shifted_left, shifted_right}
use Rattle.hc_core.specs.Program.{Expression, Constant, Register, Element, Word, Signal, Input, Unary, Binary, Slice, Choice}
use Rattle.hc_core.specs.Sound.{IsWidth, IsArray}
use Rattle.hc_core.specs.Typed.{IsNumber, Typed, constant, register, signal, input, element, ram_word, rom_word, negative, complement, is_zero, to_signed, to_unsigned, arithmetic, division, bitwise, comparison, shift, joining, taking, dropping, logic, slice, choice, HasSomeType, Group, Arithmetic, Division, Bitwise, Comparison, Shifting, Joining, Taking, Dropping, Logic, group_of, group_width, group_sign, width_of, sign_of, constant_of, kind_width}
use Rattle.hc_core.specs.Weight.{kind_length, is_constant, binary_weight}
use Rattle.hc_core.specs.Weigh.{AreSound}
use Rattle.hc_core.specs.declared.expr.UnOp.{UnOp}
use Rattle.hc_core.specs.declared.expr.BinOp.{BinOp}
use Rattle.hc_core.specs.declared.expr.BinOp.TheVariants.{Add, Sub, Mul, Div, Rem, And, Or, Xor, Eq, Ne, Lt, Le, Gt, Ge, Shl, Shr, Concat, Take, Drop, Both, Either}
use Rattle.hc_core.specs.declared.object.Kind.{Kind}
use Rattle.hc_core.proofs.Bounds.{narrow, array_at}
use Rattle.hc_core.proofs.Types.{widths_are, signs_are}
use Rattle.hc_meaning.specs.Value.{World, number_of, binary}
use Rattle.hc_value.specs.Moves.{amount, move_by, move_of}
use Rattle.hc_value.specs.Operands.{Alike, Fits}
use Rattle.hc_value.specs.declared.moved.Move.{Move}
use Rattle.hc_value.specs.declared.moved.Move.TheVariants.{Up, Down, Low, High}
use Rattle.hc_value.specs.declared.operand.Operand.{Operand}
use Rattle.hc_value.proofs.Places.{moved_number, IsWithin}

-- ---- parts have types

pub index_typed : (kinds : List Kind) (k : ℕ) (i : Expression) → HasSomeType kinds (Element k i) → HasSomeType kinds i
index_typed kinds _ _ (_, _, element k w n s init i is t) = (_, _, t)

pub operand_typed : (kinds : List Kind) (op : UnOp) (a : Expression) → HasSomeType kinds (Unary op a) → HasSomeType kinds a
operand_typed kinds _ _ (_, _, negative a w s t) = (w, s, t)
operand_typed kinds _ _ (_, _, complement a w s t) = (w, s, t)
operand_typed kinds _ _ (_, _, is_zero a w s t) = (w, s, t)
operand_typed kinds _ _ (_, _, to_signed a w s t) = (w, s, t)
operand_typed kinds _ _ (_, _, to_unsigned a w s t) = (w, s, t)

pub left_typed : (kinds : List Kind) (op : BinOp) (a b : Expression) → HasSomeType kinds (Binary op a b) → HasSomeType kinds a
left_typed kinds _ _ _ (_, _, arithmetic op a b w s is t u) = (w, s, t)
left_typed kinds _ _ _ (_, _, division op a b w is t u) = (w, false, t)
left_typed kinds _ _ _ (_, _, bitwise op a b w s is t u) = (w, s, t)
left_typed kinds _ _ _ (_, _, comparison op a b w s is t u) = (w, s, t)
left_typed kinds _ _ _ (_, _, shift op a b w v s is t u) = (w, s, t)
left_typed kinds _ _ _ (_, _, joining op a b w v s r is t u most) = (w, s, t)
left_typed kinds _ _ _ (_, _, taking op a n w s is t amount least most) = (w, s, t)
left_typed kinds _ _ _ (_, _, dropping op a n w s is t amount most) = (w, s, t)
left_typed kinds _ _ _ (_, _, logic op a b w v s r is t u) = (w, s, t)

pub right_typed : (kinds : List Kind) (op : BinOp) (a b : Expression) → HasSomeType kinds (Binary op a b) → HasSomeType kinds b
right_typed kinds _ _ _ (_, _, arithmetic op a b w s is t u) = (w, s, u)
right_typed kinds _ _ _ (_, _, division op a b w is t u) = (w, false, u)
right_typed kinds _ _ _ (_, _, bitwise op a b w s is t u) = (w, s, u)
right_typed kinds _ _ _ (_, _, comparison op a b w s is t u) = (w, s, u)
right_typed kinds _ _ _ (_, _, shift op a b w v s is t u) = (v, false, u)
right_typed kinds _ _ _ (_, _, joining op a b w v s r is t u most) = (v, r, u)
right_typed kinds _ _ _ (_, _, taking op a n w s is t amount least most) = (_, _, constant n amount.number)
right_typed kinds _ _ _ (_, _, dropping op a n w s is t amount most) = (_, _, constant n amount.number)
right_typed kinds _ _ _ (_, _, logic op a b w v s r is t u) = (v, r, u)

pub sliced_typed : (kinds : List Kind) (a : Expression) (high low : ℕ) → HasSomeType kinds (Slice a high low) → HasSomeType kinds a
sliced_typed kinds _ _ _ (_, _, slice a high low w s t least most) = (w, s, t)

pub sliced_order : (kinds : List Kind) (a : Expression) (high low : ℕ) → HasSomeType kinds (Slice a high low) → low ≤ high
sliced_order kinds _ _ _ (_, _, slice a high low w s t least most) = least

pub sliced_within : (kinds : List Kind) (a : Expression) (high low : ℕ) → HasSomeType kinds (Slice a high low) → high < width_of kinds a
sliced_within kinds _ _ _ (_, _, slice a high low w s t least most) = let p = widths_are kinds a w s t in omega arith

-- the condition and the sides of a choice
pub record ChoiceTyped (kinds : List Kind) (c a b : Expression) : Type 0 where
  pub condition : HasSomeType kinds c
  pub first : HasSomeType kinds a
  pub second : HasSomeType kinds b
  pub width : width_of kinds b ≡ width_of kinds a
  pub signed : sign_of kinds b ≡ sign_of kinds a

pub choice_typed : (kinds : List Kind) (c a b : Expression) → HasSomeType kinds (Choice c a b) → ChoiceTyped kinds c a b
choice_typed kinds _ _ _ (_, _, choice c a b v w r s x t u) = record {
  condition = (v, r, x);
  first = (w, s, t);
  second = (w, s, u);
  width = widths_are kinds b w s u ∙ sym (widths_are kinds a w s t);
  signed = signs_are kinds b w s u ∙ sym (signs_are kinds a w s t);
}

-- ---- widths

pub width_some : (kinds : List Kind) (e : Expression) → AreSound kinds → HasSomeType kinds e → 1 ≤ width_of kinds e
width_some kinds e sound (w, s, t) = let p = widths_are kinds e w s t in let h = (narrow kinds sound e w s t).least in omega arith

-- an index is wide enough for all numbers below a length
first_passes : (n start tries : ℕ) → n ≤ 2 ^ (start + tries) → n ≤ 2 ^ first_from (λ w. nat_le n (2 ^ w)) start tries
first_passes n start zero far = let e : start + 0 ≡ start = omega arith in subst (λ (k : ℕ). n ≤ 2 ^ k) e far
first_passes n start (suc tries) far = elim (cases_lt (2 ^ start) n) [
  | inl more ↦
      let e : start + suc tries ≡ start + 1 + tries = omega arith in
      subst (λ (c : Bool). n ≤ 2 ^ (if c then start else first_from (λ w. nat_le n (2 ^ w)) (start + 1) tries)) (sym (lt-leb n (2 ^ start) more))
      (first_passes n (start + 1) tries (subst (λ (k : ℕ). n ≤ 2 ^ k) e far))
  | inr less ↦ subst (λ (c : Bool). n ≤ 2 ^ (if c then start else first_from (λ w. nat_le n (2 ^ w)) (start + 1) tries)) (sym (le-leb n (2 ^ start) less)) less
]

below_power : (n : ℕ) → n < 2 ^ n
below_power zero = omega arith
below_power (suc n) = let h = below_power n in let e : 2 ^ suc n ≡ 2 ^ n * 2 = pow-suc 2 n in omega arith

pub index_covers : (n : ℕ) → n ≤ 2 ^ index_width n
unfolding index_width
index_covers n = first_passes n 1 n (let h = below_power (1 + n) in omega arith)

-- an array and its index
pub record ElementTyped (kinds : List Kind) (k : ℕ) (i : Expression) : Type 0 where
  pub index : HasSomeType kinds i
  pub index_is : width_of kinds i ≡ index_width (kind_length (slice_get kinds k))
  pub covers : kind_length (slice_get kinds k) ≤ 2 ^ width_of kinds i
  pub some : 1 ≤ kind_length (slice_get kinds k)

pub element_typed : (kinds : List Kind) (k : ℕ) (i : Expression) → AreSound kinds → HasSomeType kinds (Element k i) → ElementTyped kinds k i
element_typed kinds _ _ sound (_, _, element k w n s init i is t) =
    let size : kind_length (slice_get kinds k) ≡ n = ap kind_length is in
    let wide : width_of kinds i ≡ index_width n = widths_are kinds i (index_width n) false t in
    let array = array_at kinds sound k w n s init is in
    let least = array.least in
    record {
      index = (_, _, t);
      index_is = wide ∙ ap index_width (sym size);
      covers = rw (size, wide) (index_covers n);
      some = omega arith;
    }

-- ---- what an operator between two operands wants of them

same_type : (kinds : List Kind) (a b : Expression) (w : ℕ) (s : Bool) (x y : Operand) → Typed kinds a w s → Typed kinds b w s → length x.nets ≡ width_of kinds a → length y.nets ≡ width_of kinds b
    → x.signed ≡ sign_of kinds a → y.signed ≡ sign_of kinds b → Alike x y
same_type kinds a b w s x y t u xw yw xs ys = record {
  width = yw ∙ widths_are kinds b w s u ∙ sym (widths_are kinds a w s t) ∙ sym xw;
  signed = ys ∙ signs_are kinds b w s u ∙ sym (signs_are kinds a w s t) ∙ sym xs;
}

-- an operator with a constant that takes or drops makes a move
cuts_move : (op : BinOp) (n : ℕ) → move_by op n ≡ None → (group_of op ≡ Taking → ⊥) × (group_of op ≡ Dropping → ⊥)
cuts_move Add n none = (λ g. absurd cc, λ g. absurd cc)
cuts_move Sub n none = (λ g. absurd cc, λ g. absurd cc)
cuts_move Mul n none = (λ g. absurd cc, λ g. absurd cc)
cuts_move Div n none = (λ g. absurd cc, λ g. absurd cc)
cuts_move Rem n none = (λ g. absurd cc, λ g. absurd cc)
cuts_move And n none = (λ g. absurd cc, λ g. absurd cc)
cuts_move Or n none = (λ g. absurd cc, λ g. absurd cc)
cuts_move Xor n none = (λ g. absurd cc, λ g. absurd cc)
cuts_move Eq n none = (λ g. absurd cc, λ g. absurd cc)
cuts_move Ne n none = (λ g. absurd cc, λ g. absurd cc)
cuts_move Lt n none = (λ g. absurd cc, λ g. absurd cc)
cuts_move Le n none = (λ g. absurd cc, λ g. absurd cc)
cuts_move Gt n none = (λ g. absurd cc, λ g. absurd cc)
cuts_move Ge n none = (λ g. absurd cc, λ g. absurd cc)
cuts_move Shl n none = (λ g. absurd cc, λ g. absurd cc)
cuts_move Shr n none = (λ g. absurd cc, λ g. absurd cc)
cuts_move Concat n none = (λ g. absurd cc, λ g. absurd cc)
cuts_move Take n none = absurd cc
cuts_move Drop n none = absurd cc
cuts_move Both n none = (λ g. absurd cc, λ g. absurd cc)
cuts_move Either n none = (λ g. absurd cc, λ g. absurd cc)

of_group : (op : BinOp) (g : Group) (x y : Operand) → group_of op ≡ g → Fits g x y → Fits (group_of op) x y
of_group op g x y is fits = subst (λ k. Fits k x y) (sym is) fits

pub fits_typed : (kinds : List Kind) (op : BinOp) (a b : Expression) (x y : Operand) → HasSomeType kinds (Binary op a b) → move_of op b ≡ None
    → length x.nets ≡ width_of kinds a → length y.nets ≡ width_of kinds b → x.signed ≡ sign_of kinds a → y.signed ≡ sign_of kinds b → Fits (group_of op) x y
fits_typed kinds _ _ _ x y (_, _, arithmetic op a b w s is t u) none xw yw xs ys = of_group op Arithmetic x y is (same_type kinds a b w s x y t u xw yw xs ys)
fits_typed kinds _ _ _ x y (_, _, division op a b w is t u) none xw yw xs ys = of_group op Division x y is (same_type kinds a b w false x y t u xw yw xs ys)
fits_typed kinds _ _ _ x y (_, _, bitwise op a b w s is t u) none xw yw xs ys = of_group op Bitwise x y is (same_type kinds a b w s x y t u xw yw xs ys)
fits_typed kinds _ _ _ x y (_, _, comparison op a b w s is t u) none xw yw xs ys = of_group op Comparison x y is (same_type kinds a b w s x y t u xw yw xs ys)
fits_typed kinds _ _ _ x y (_, _, shift op a b w v s is t u) none xw yw xs ys = of_group op Shifting x y is tt
fits_typed kinds _ _ _ x y (_, _, joining op a b w v s r is t u most) none xw yw xs ys = of_group op Joining x y is tt
fits_typed kinds _ _ _ x y (_, _, taking op a n w s is t amount least most) none xw yw xs ys = absurd ((cuts_move op n.bits none).0 is)
fits_typed kinds _ _ _ x y (_, _, dropping op a n w s is t amount most) none xw yw xs ys = absurd ((cuts_move op n.bits none).1 is)
fits_typed kinds _ _ _ x y (_, _, logic op a b w v s r is t u) none xw yw xs ys = of_group op Logic x y is tt

-- ---- moves

-- no more bits are taken or dropped than the operand has
cut_within : (kinds : List Kind) (op : BinOp) (a b : Expression) → HasSomeType kinds (Binary op a b)
    → (group_of op ≡ Taking → constant_of b ≤ width_of kinds a) × (group_of op ≡ Dropping → constant_of b ≤ width_of kinds a)
cut_within kinds _ _ _ (_, _, arithmetic op a b w s is t u) = (λ g. absurd cc, λ g. absurd cc)
cut_within kinds _ _ _ (_, _, division op a b w is t u) = (λ g. absurd cc, λ g. absurd cc)
cut_within kinds _ _ _ (_, _, bitwise op a b w s is t u) = (λ g. absurd cc, λ g. absurd cc)
cut_within kinds _ _ _ (_, _, comparison op a b w s is t u) = (λ g. absurd cc, λ g. absurd cc)
cut_within kinds _ _ _ (_, _, shift op a b w v s is t u) = (λ g. absurd cc, λ g. absurd cc)
cut_within kinds _ _ _ (_, _, joining op a b w v s r is t u most) = (λ g. absurd cc, λ g. absurd cc)
cut_within kinds _ _ _ (_, _, taking op a n w s is t amount least most) = let p = widths_are kinds a w s t in (λ g. omega arith, λ g. absurd cc)
cut_within kinds _ _ _ (_, _, dropping op a n w s is t amount most) = let p = widths_are kinds a w s t in (λ g. absurd cc, λ g. omega arith)
cut_within kinds _ _ _ (_, _, logic op a b w v s r is t u) = (λ g. absurd cc, λ g. absurd cc)

-- what an operator that makes a move does to a number of w bits
pub record MoveFacts (op : BinOp) (n : ℕ) (by : Move) (w : ℕ) : Type 0 where
  pub within : IsWithin by w
  pub width : (x : Number) (v : ℕ) → x.width ≡ w → (moved_number by x).width ≡ group_width (group_of op) w v n
  pub signed : (s : Bool) → group_sign (group_of op) s ≡ s
  pub is : (x y : Number) → y.bits ≡ n → binary op x y ≡ moved_number by x

some_same : (m n : Move) → Some m ≡ Some n → m ≡ n
some_same m n e = cc

move_facts : (op : BinOp) (n : ℕ) (by : Move) (w : ℕ) → move_by op n ≡ Some by → (group_of op ≡ Taking → n ≤ w) → (group_of op ≡ Dropping → n ≤ w) → MoveFacts op n by w
move_facts Add n by w is take drop = absurd cc
move_facts Sub n by w is take drop = absurd cc
move_facts Mul n by w is take drop = absurd cc
move_facts Div n by w is take drop = absurd cc
move_facts Rem n by w is take drop = absurd cc
move_facts And n by w is take drop = absurd cc
move_facts Or n by w is take drop = absurd cc
move_facts Xor n by w is take drop = absurd cc
move_facts Eq n by w is take drop = absurd cc
move_facts Ne n by w is take drop = absurd cc
move_facts Lt n by w is take drop = absurd cc
move_facts Le n by w is take drop = absurd cc
move_facts Gt n by w is take drop = absurd cc
move_facts Ge n by w is take drop = absurd cc
move_facts Shl n by w is take drop =
    subst (λ m. MoveFacts Shl n m w) (some_same (Up n) by is)
    (record { within = tt; width = λ x v e. e; signed = λ s. refl; is = λ x y e. ap (λ k. shifted_left x k) e })
move_facts Shr n by w is take drop =
    subst (λ m. MoveFacts Shr n m w) (some_same (Down n) by is)
    (record { within = tt; width = λ x v e. e; signed = λ s. refl; is = λ x y e. ap (λ k. shifted_right x k) e })
move_facts Concat n by w is take drop = absurd cc
move_facts Take n by w is take drop =
    subst (λ m. MoveFacts Take n m w) (some_same (Low n) by is)
    (record { within = take refl; width = λ x v e. refl; signed = λ s. refl; is = λ x y e. ap (λ k. low_part x k) e })
move_facts Drop n by w is take drop =
    subst (λ m. MoveFacts Drop n m w) (some_same (High n) by is)
    (record { within = drop refl; width = λ x v e. ap (λ k. k - n) e; signed = λ s. refl; is = λ x y e. ap (λ k. high_part x k) e })
move_facts Both n by w is take drop = absurd cc
move_facts Either n by w is take drop = absurd cc

-- a move is by the number of a constant
moves_by : (op : BinOp) (by : Move) (b : Expression) → move_of op b ≡ Some by → (move_by op (constant_of b) ≡ Some by) × ((world : World) → (number_of world b).bits ≡ constant_of b)
moves_by op by (Constant n) is = (is, λ world. refl)
moves_by op by (Register k) is = absurd cc
moves_by op by (Element k i) is = absurd cc
moves_by op by (Word k i) is = absurd cc
moves_by op by (Signal k) is = absurd cc
moves_by op by (Input k) is = absurd cc
moves_by op by (Unary o a) is = absurd cc
moves_by op by (Binary o a c) is = absurd cc
moves_by op by (Slice a high low) is = absurd cc
moves_by op by (Choice c a d) is = absurd cc

-- an operator that makes a move with its second operand
pub record IsMove (kinds : List Kind) (op : BinOp) (a b : Expression) (by : Move) : Type 0 where
  pub facts : MoveFacts op (constant_of b) by (width_of kinds a)
  pub bits : (world : World) → (number_of world b).bits ≡ constant_of b

pub is_move : (kinds : List Kind) (op : BinOp) (a b : Expression) (by : Move) → HasSomeType kinds (Binary op a b) → move_of op b ≡ Some by → IsMove kinds op a b by
is_move kinds op a b by typed is =
    let cut = cut_within kinds op a b typed in
    let found = moves_by op by b is in
    record { facts = move_facts op (constant_of b) by (width_of kinds a) found.0 cut.0 cut.1; bits = found.1 }

-- an operator that makes no move weighs as one with no constant
no_constant : (b : Expression) (m : ℕ → Move) (op : BinOp) → ((n : ℕ) → move_by op n ≡ Some (m n)) → move_of op b ≡ None → is_constant b ≡ false
no_constant (Constant n) m op moves none = let e = moves n.bits in absurd cc
no_constant (Register k) m op moves none = refl
no_constant (Element k i) m op moves none = refl
no_constant (Word k i) m op moves none = refl
no_constant (Signal k) m op moves none = refl
no_constant (Input k) m op moves none = refl
no_constant (Unary o a) m op moves none = refl
no_constant (Binary o a c) m op moves none = refl
no_constant (Slice a high low) m op moves none = refl
no_constant (Choice c a d) m op moves none = refl

pub same_weight : (op : BinOp) (b : Expression) (w v : ℕ) → move_of op b ≡ None → binary_weight op (is_constant b) w v ≡ binary_weight op false w v
same_weight Add b w v none = refl
same_weight Sub b w v none = refl
same_weight Mul b w v none = refl
same_weight Div b w v none = refl
same_weight Rem b w v none = refl
same_weight And b w v none = refl
same_weight Or b w v none = refl
same_weight Xor b w v none = refl
same_weight Eq b w v none = refl
same_weight Ne b w v none = refl
same_weight Lt b w v none = refl
same_weight Le b w v none = refl
same_weight Gt b w v none = refl
same_weight Ge b w v none = refl
same_weight Shl b w v none = ap (λ c. binary_weight Shl c w v) (no_constant b (λ n. Up n) Shl (λ n. refl) none)
same_weight Shr b w v none = ap (λ c. binary_weight Shr c w v) (no_constant b (λ n. Down n) Shr (λ n. refl) none)
same_weight Concat b w v none = refl
same_weight Take b w v none = refl
same_weight Drop b w v none = refl
same_weight Both b w v none = refl
same_weight Either b w v none = refl

-- an index that is no constant
pub varies : (i : Expression) → amount i ≡ None → is_constant i ≡ false
varies (Constant n) none = absurd cc
varies (Register k) none = refl
varies (Element k i) none = refl
varies (Word k i) none = refl
varies (Signal k) none = refl
varies (Input k) none = refl
varies (Unary o a) none = refl
varies (Binary o a c) none = refl
varies (Slice a high low) none = refl
varies (Choice c a d) none = refl

-- and one that is
pub fixed_bits : (i : Expression) (n : ℕ) → amount i ≡ Some n → (world : World) → (number_of world i).bits ≡ n
fixed_bits (Constant c) n is world = cc
fixed_bits (Register k) n is world = absurd cc
fixed_bits (Element k i) n is world = absurd cc
fixed_bits (Word k i) n is world = absurd cc
fixed_bits (Signal k) n is world = absurd cc
fixed_bits (Input k) n is world = absurd cc
fixed_bits (Unary o a) n is world = absurd cc
fixed_bits (Binary o a c) n is world = absurd cc
fixed_bits (Slice a high low) n is world = absurd cc
fixed_bits (Choice c a d) n is world = absurd cc
