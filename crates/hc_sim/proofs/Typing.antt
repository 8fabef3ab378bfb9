-- The number of an expression has the type of the expression, and so operators have answers.
use Rattle.std.proofs.Common.{◌≡◌, ◌<◌, ◌≤◌, ℕ, ◌+◌, ◌-◌, ◌^◌, List, Bool, true, false, Some, refl, ap, sym, ◌∙◌, subst, arith}
use Rattle.std.specs.Prelude.{slice_get, slice_index_or, if◌then◌else◌, Option}
use Rattle.std.proofs.lemmas.Option.{slice_get_within}
use Rattle.hc_num.specs.Number.{Number}
use Rattle.hc_core.specs.Program.{Expression, Register, Element, Word, Signal, Input, Unary, Binary, Slice, Choice}
use Rattle.hc_core.specs.Typed.{Typed, constant, register, signal, input, element, ram_word, rom_word, negative, complement, is_zero, to_signed, to_unsigned, arithmetic, division, bitwise, comparison, shift, joining, taking, dropping, logic, slice, choice, HasSomeType, Group, group_of, group_width, group_sign, kind_width, kind_sign}
use Rattle.hc_core.specs.declared.expr.UnOp.{UnOp}
use Rattle.hc_core.specs.declared.expr.BinOp.{BinOp}
use Rattle.hc_core.specs.declared.expr.BinOp.TheVariants.{Add, Sub, Mul, Div, Rem, And, Or, Xor, Eq, Ne, Lt, Le, Gt, Ge, Shl, Shr, Concat, Take, Drop, Both, Either}
use Rattle.hc_core.specs.Sound.{HasType, IsWidth, IsKind}
use Rattle.hc_core.specs.Weigh.{AreSound}
use Rattle.hc_core.specs.declared.object.Kind.{Kind}
use Rattle.hc_core.specs.declared.object.Kind.TheVariants as kind
use Rattle.hc_meaning.specs.Value.{World, number_of, binary, holds, inputs_before}
use Rattle.hc_sim.specs.Fitting.{Fitting, Alike}
use Rattle.hc_sim.specs.Readable.{IsReadable, IsPlaced}

pub record OfType (w : ℕ) (s : Bool) (n : Number) : Type 0 where
  pub width : n.width ≡ w
  pub signed : n.signed ≡ s

-- the type of an operator's answer
binary_type : (op : BinOp) (a b : Number) → OfType (group_width (group_of op) a.width b.width b.bits) (group_sign (group_of op) a.signed) (binary op a b)
binary_type Add a b = record { width = refl; signed = refl }
binary_type Sub a b = record { width = refl; signed = refl }
binary_type Mul a b = record { width = refl; signed = refl }
binary_type Div a b = record { width = refl; signed = refl }
binary_type Rem a b = record { width = refl; signed = refl }
binary_type And a b = record { width = refl; signed = refl }
binary_type Or a b = record { width = refl; signed = refl }
binary_type Xor a b = record { width = refl; signed = refl }
binary_type Eq a b = record { width = refl; signed = refl }
binary_type Ne a b = record { width = refl; signed = refl }
binary_type Lt a b = record { width = refl; signed = refl }
binary_type Le a b = record { width = refl; signed = refl }
binary_type Gt a b = record { width = refl; signed = refl }
binary_type Ge a b = record { width = refl; signed = refl }
binary_type Shl a b = record { width = refl; signed = refl }
binary_type Shr a b = record { width = refl; signed = refl }
binary_type Concat a b = record { width = refl; signed = refl }
binary_type Take a b = record { width = refl; signed = refl }
binary_type Drop a b = record { width = refl; signed = refl }
binary_type Both a b = record { width = refl; signed = refl }
binary_type Either a b = record { width = refl; signed = refl }

by_group : (op : BinOp) (group : Group) (a b : Number) → group_of op ≡ group → OfType (group_width group a.width b.width b.bits) (group_sign group a.signed) (binary op a b)
by_group op group a b is = subst (λ g. OfType (group_width g a.width b.width b.bits) (group_sign g a.signed) (binary op a b)) is (binary_type op a b)

one_of : (c : Bool) (w : ℕ) (s : Bool) (a b : Number) → OfType w s a → OfType w s b → OfType w s (if c then a else b)
one_of true w s a b x y = x
one_of false w s a b x y = y

pub number_type : (x : World) (e : Expression) (w : ℕ) (s : Bool) → Typed x.kinds e w s → OfType w s (number_of x e)
number_type x _ _ _ (constant n is) = record { width = refl; signed = refl }
number_type x _ _ _ (register k w s init is) = record { width = ap kind_width is; signed = ap kind_sign is }
number_type x _ _ _ (signal k w s unset is) = record { width = ap kind_width is; signed = ap kind_sign is }
number_type x _ _ _ (input k w s pins is) = record { width = ap kind_width is; signed = ap kind_sign is }
number_type x _ _ _ (element k w n s init i is t) = record { width = ap kind_width is; signed = ap kind_sign is }
number_type x _ _ _ (ram_word k w n s init i is t) = record { width = ap kind_width is; signed = ap kind_sign is }
number_type x _ _ _ (rom_word k w n s init i is t) = record { width = ap kind_width is; signed = ap kind_sign is }
number_type x _ _ _ (negative a w s t) = let h = number_type x a w s t in record { width = h.width; signed = h.signed }
number_type x _ _ _ (complement a w s t) = let h = number_type x a w s t in record { width = h.width; signed = h.signed }
number_type x _ _ _ (is_zero a v r t) = record { width = refl; signed = refl }
number_type x _ _ _ (to_signed a w r t) = let h = number_type x a w r t in record { width = h.width; signed = refl }
number_type x _ _ _ (to_unsigned a w r t) = let h = number_type x a w r t in record { width = h.width; signed = refl }
number_type x _ _ _ (arithmetic op a b w s is t u) =
    let p = by_group op _ (number_of x a) (number_of x b) is in let h = number_type x a w s t in record { width = p.width ∙ h.width; signed = p.signed ∙ h.signed }
number_type x _ _ _ (division op a b w is t u) =
    let p = by_group op _ (number_of x a) (number_of x b) is in let h = number_type x a w false t in record { width = p.width ∙ h.width; signed = p.signed ∙ h.signed }
number_type x _ _ _ (bitwise op a b w s is t u) =
    let p = by_group op _ (number_of x a) (number_of x b) is in let h = number_type x a w s t in record { width = p.width ∙ h.width; signed = p.signed ∙ h.signed }
number_type x _ _ _ (comparison op a b v r is t u) = let p = by_group op _ (number_of x a) (number_of x b) is in record { width = p.width; signed = p.signed }
number_type x _ _ _ (shift op a b w v s is t u) =
    let p = by_group op _ (number_of x a) (number_of x b) is in let h = number_type x a w s t in record { width = p.width ∙ h.width; signed = p.signed ∙ h.signed }
number_type x _ _ _ (joining op a b y v s r is t u most) =
    let p = by_group op _ (number_of x a) (number_of x b) is in let h = number_type x a y s t in let k = number_type x b v r u in
    record { width = p.width ∙ ap (λ n. n + (number_of x b).width) h.width ∙ ap (λ n. y + n) k.width; signed = p.signed ∙ h.signed }
number_type x _ _ _ (taking op a n y s is t amount least most) =
    let p = by_group op _ (number_of x a) n is in let h = number_type x a y s t in record { width = p.width; signed = p.signed ∙ h.signed }
number_type x _ _ _ (dropping op a n y s is t amount most) =
    let p = by_group op _ (number_of x a) n is in let h = number_type x a y s t in record { width = p.width ∙ ap (λ m. m - n.bits) h.width; signed = p.signed ∙ h.signed }
number_type x _ _ _ (logic op a b y v p r is t u) = let q = by_group op _ (number_of x a) (number_of x b) is in record { width = q.width; signed = q.signed }
number_type x _ _ _ (slice a high low y r t least most) = record { width = refl; signed = refl }
number_type x _ _ _ (choice c a b v w r s y t u) = one_of (holds (number_of x c)) w s (number_of x a) (number_of x b) (number_type x a w s t) (number_type x b w s u)

-- ---- parts have types

pub element_index : (kinds : List Kind) (k : ℕ) (i : Expression) → HasSomeType kinds (Element k i) → HasSomeType kinds i
element_index kinds _ _ (_, _, element k w n s init i is t) = (_, _, t)

pub word_index : (kinds : List Kind) (k : ℕ) (i : Expression) → HasSomeType kinds (Word k i) → HasSomeType kinds i
word_index kinds _ _ (_, _, ram_word k w n s init i is t) = (_, _, t)
word_index kinds _ _ (_, _, rom_word k w n s init i is t) = (_, _, t)

pub operand : (kinds : List Kind) (op : UnOp) (a : Expression) → HasSomeType kinds (Unary op a) → HasSomeType kinds a
operand kinds _ _ (_, _, negative a w s t) = (w, s, t)
operand kinds _ _ (_, _, complement a w s t) = (w, s, t)
operand kinds _ _ (_, _, is_zero a w s t) = (w, s, t)
operand kinds _ _ (_, _, to_signed a w s t) = (w, s, t)
operand kinds _ _ (_, _, to_unsigned a w s t) = (w, s, t)

pub sliced : (kinds : List Kind) (a : Expression) (high low : ℕ) → HasSomeType kinds (Slice a high low) → HasSomeType kinds a
sliced kinds _ _ _ (_, _, slice a high low w s t least most) = (w, s, t)

pub sliced_order : (kinds : List Kind) (a : Expression) (high low : ℕ) → HasSomeType kinds (Slice a high low) → low ≤ high
sliced_order kinds _ _ _ (_, _, slice a high low w s t least most) = least

pub sliced_within : (x : World) (a : Expression) (high low : ℕ) → HasSomeType x.kinds (Slice a high low) → high < (number_of x a).width
sliced_within x _ _ _ (_, _, slice a high low w s t least most) = let p = number_type x a w s t in let q = p.width in omega arith

pub chosen_by : (kinds : List Kind) (c a b : Expression) → HasSomeType kinds (Choice c a b) → HasSomeType kinds c
chosen_by kinds _ _ _ (_, _, choice c a b v w r s y t u) = (v, r, y)

pub first_side : (kinds : List Kind) (c a b : Expression) → HasSomeType kinds (Choice c a b) → HasSomeType kinds a
first_side kinds _ _ _ (_, _, choice c a b v w r s y t u) = (w, s, t)

pub second_side : (kinds : List Kind) (c a b : Expression) → HasSomeType kinds (Choice c a b) → HasSomeType kinds b
second_side kinds _ _ _ (_, _, choice c a b v w r s y t u) = (w, s, u)

pub left : (kinds : List Kind) (op : BinOp) (a b : Expression) → HasSomeType kinds (Binary op a b) → HasSomeType kinds a
left kinds _ _ _ (_, _, arithmetic op a b w s is t u) = (w, s, t)
left kinds _ _ _ (_, _, division op a b w is t u) = (w, false, t)
left kinds _ _ _ (_, _, bitwise op a b w s is t u) = (w, s, t)
left kinds _ _ _ (_, _, comparison op a b w s is t u) = (w, s, t)
left kinds _ _ _ (_, _, shift op a b w v s is t u) = (w, s, t)
left kinds _ _ _ (_, _, joining op a b w v s r is t u most) = (w, s, t)
left kinds _ _ _ (_, _, taking op a n w s is t amount least most) = (w, s, t)
left kinds _ _ _ (_, _, dropping op a n w s is t amount most) = (w, s, t)
left kinds _ _ _ (_, _, logic op a b w v s r is t u) = (w, s, t)

pub right : (kinds : List Kind) (op : BinOp) (a b : Expression) → HasSomeType kinds (Binary op a b) → HasSomeType kinds b
right kinds _ _ _ (_, _, arithmetic op a b w s is t u) = (w, s, u)
right kinds _ _ _ (_, _, division op a b w is t u) = (w, false, u)
right kinds _ _ _ (_, _, bitwise op a b w s is t u) = (w, s, u)
right kinds _ _ _ (_, _, comparison op a b w s is t u) = (w, s, u)
right kinds _ _ _ (_, _, shift op a b w v s is t u) = (v, false, u)
right kinds _ _ _ (_, _, joining op a b w v s r is t u most) = (v, r, u)
right kinds _ _ _ (_, _, taking op a n w s is t amount least most) = (_, _, constant n amount.number)
right kinds _ _ _ (_, _, dropping op a n w s is t amount most) = (_, _, constant n amount.number)
right kinds _ _ _ (_, _, logic op a b w v s r is t u) = (v, r, u)

-- ---- what an operator wants of its operands

same_type : (x : World) (a b : Expression) (w : ℕ) (s : Bool) → Typed x.kinds a w s → Typed x.kinds b w s → Alike (number_of x a) (number_of x b)
same_type x a b w s t u =
    let h = number_type x a w s t in let k = number_type x b w s u in
    record { width = h.width ∙ sym k.width; signed = h.signed ∙ sym k.signed }

by_its_group : (op : BinOp) (group : Group) (a b : Number) → group_of op ≡ group → Fitting group a b → Fitting (group_of op) a b
by_its_group op group a b is fits = subst (λ g. Fitting g a b) (sym is) fits

pub operands_fit : (x : World) (op : BinOp) (a b : Expression) → HasSomeType x.kinds (Binary op a b) → Fitting (group_of op) (number_of x a) (number_of x b)
operands_fit x _ _ _ (_, _, arithmetic op a b w s is t u) = by_its_group op _ (number_of x a) (number_of x b) is (same_type x a b w s t u)
operands_fit x _ _ _ (_, _, division op a b w is t u) =
    let h = number_type x a w false t in let k = number_type x b w false u in
    by_its_group op _ (number_of x a) (number_of x b) is (record { width = h.width ∙ sym k.width; unsigned = h.signed; other_unsigned = k.signed })
operands_fit x _ _ _ (_, _, bitwise op a b w s is t u) = by_its_group op _ (number_of x a) (number_of x b) is (same_type x a b w s t u)
operands_fit x _ _ _ (_, _, comparison op a b w s is t u) = by_its_group op _ (number_of x a) (number_of x b) is (same_type x a b w s t u)
operands_fit x _ _ _ (_, _, shift op a b w v s is t u) = by_its_group op _ (number_of x a) (number_of x b) is tt
operands_fit x _ _ _ (_, _, joining op a b w v s r is t u most) =
    let h = number_type x a w s t in let k = number_type x b v r u in
    by_its_group op _ (number_of x a) (number_of x b) is (rw h.width (rw k.width most))
operands_fit x _ _ _ (_, _, taking op a n w s is t amount least most) =
    let h = number_type x a w s t in
    by_its_group op _ (number_of x a) n is (record { least = least; most = rw h.width most })
operands_fit x _ _ _ (_, _, dropping op a n w s is t amount most) =
    let h = number_type x a w s t in
    by_its_group op _ (number_of x a) n is (rw h.width most)
operands_fit x _ _ _ (_, _, logic op a b w v s r is t u) = by_its_group op _ (number_of x a) (number_of x b) is tt

-- ---- objects

of_type : (w : ℕ) (s : Bool) (n : Number) → HasType w s n → IsWidth w
of_type w s n h = subst IsWidth h.width (record { least = h.number.least; most = h.number.most })

kind_wide : (kinds : List Kind) (o : Kind) → IsKind kinds o → IsWidth (kind_width (Some o))
kind_wide kinds (kind.Reg w s init) h = of_type w s init h
kind_wide kinds (kind.Array w s n init) h = h.width
kind_wide kinds (kind.Ram w s n init) h = h.width
kind_wide kinds (kind.Rom w s n init) h = h.width
kind_wide kinds (kind.Signal w s unset) h = of_type w s unset h
kind_wide kinds (kind.Chan w s queue) h = h.width
kind_wide kinds (kind.Input w s pins) h = h.width
kind_wide kinds (kind.Output w s pins value) h = h.port.width

placed : (kinds : List Kind) → AreSound kinds → (k : ℕ) (o : Kind) → slice_get kinds k ≡ Some o → IsPlaced kinds k
placed kinds sound k o is =
    let wide = subst (λ (x : Option Kind). IsWidth (kind_width x)) (sym is) (kind_wide kinds o (sound k o is)) in
    record { there = slice_get_within kinds k o is; least = wide.least; most = wide.most }

pub register_placed : (kinds : List Kind) → AreSound kinds → (k : ℕ) → HasSomeType kinds (Register k) → IsPlaced kinds k
register_placed kinds sound _ (_, _, register k w s init is) = placed kinds sound k _ is

pub element_placed : (kinds : List Kind) → AreSound kinds → (k : ℕ) (i : Expression) → HasSomeType kinds (Element k i) → IsPlaced kinds k
element_placed kinds sound _ _ (_, _, element k w n s init i is t) = placed kinds sound k _ is

pub word_placed : (kinds : List Kind) → AreSound kinds → (k : ℕ) (i : Expression) → HasSomeType kinds (Word k i) → IsPlaced kinds k
word_placed kinds sound _ _ (_, _, ram_word k w n s init i is t) = placed kinds sound k _ is
word_placed kinds sound _ _ (_, _, rom_word k w n s init i is t) = placed kinds sound k _ is

pub signal_placed : (kinds : List Kind) → AreSound kinds → (k : ℕ) → HasSomeType kinds (Signal k) → IsPlaced kinds k
signal_placed kinds sound _ (_, _, signal k w s unset is) = placed kinds sound k _ is

pub input_placed : (kinds : List Kind) → AreSound kinds → (k : ℕ) → HasSomeType kinds (Input k) → IsPlaced kinds k
input_placed kinds sound _ (_, _, input k w s pins is) = placed kinds sound k _ is

pub input_fits : (x : World) → IsReadable x → (k : ℕ) → HasSomeType x.kinds (Input k) → slice_index_or x.inputs (inputs_before x.kinds k) 0 < 2 ^ kind_width (slice_get x.kinds k)
input_fits x r _ (_, _, input k w s pins is) = subst (λ (o : Option Kind). slice_index_or x.inputs (inputs_before x.kinds k) 0 < 2 ^ kind_width o) (sym is) (r.inputs k w s pins is)
