-- Worked rows of the width rules.
use Rattle.std.proofs.Common.{◌≡◌, ℕ, ◌+◌, ◌-◌, ◌^◌, List, [], ◌∷◌, true, false, pos, negsuc, refl}
use Rattle.hc_tree.specs.declared.refusal.Rule.TheVariants.{S8, S9, S10, S11, S12, S13, S14}
use Rattle.hc_tree.specs.declared.refusal.Detail.TheVariants.{Nothing, Pair}
use Rattle.hc_num.specs.Number.{Number}
use Rattle.hc_core.specs.Program.{Constant, Register, Unary, Binary, Slice, Choice}
use Rattle.hc_core.specs.declared.expr.UnOp.TheVariants as un
use Rattle.hc_core.specs.declared.expr.BinOp.TheVariants as op
use Rattle.hc_core.specs.declared.object.Kind.{Kind}
use Rattle.hc_core.specs.declared.object.Kind.TheVariants as kind
use Rattle.hc_width.specs.Operand.{Operand, Whole, Of}
use Rattle.hc_width.specs.Judged.{Gives, Breaks}
use Rattle.hc_width.specs.Unary.{unary, cast, fitted}
use Rattle.hc_width.specs.Binary.{binary, binary_whole}
use Rattle.hc_width.specs.Parts.{cut, choose}

abbrev number : ℕ → ℕ → Number
number width bits = record { width = width; signed = false; bits = bits }

-- registers x and y of 8 and 4 bits, s of 8 bits with a sign, and z of 128 bits
abbrev kinds : List Kind
kinds = kind.Reg 8 false (number 8 0) ∷ kind.Reg 4 false (number 4 0) ∷ kind.Reg 8 true (record { width = 8; signed = true; bits = 0 }) ∷ kind.Reg 128 false (number 128 0) ∷ []

abbrev x : Operand
x = Of (Register 0)

abbrev y : Operand
y = Of (Register 1)

abbrev s : Operand
s = Of (Register 2)

abbrev z : Operand
z = Of (Register 3)

abbrev plain : ℕ → Operand
plain n = Whole (pos n)

-- -1 - n
abbrev minus_one_less : ℕ → Operand
minus_one_less n = Whole (negsuc n)

-- ---- constants

-- 7 / 2 is 3, -7 / 2 is -3, 7 % 2 is 1, -7 % 2 is -1 and 7 % -2 is 1
quotients : binary_whole op.Div (pos 7) (pos 2) ∷ binary_whole op.Div (negsuc 6) (pos 2) ∷ binary_whole op.Rem (pos 7) (pos 2) ∷ binary_whole op.Rem (negsuc 6) (pos 2)
    ∷ binary_whole op.Rem (pos 7) (negsuc 1) ∷ []
    ≡ Gives (plain 3) ∷ Gives (minus_one_less 2) ∷ Gives (plain 1) ∷ Gives (minus_one_less 0) ∷ Gives (plain 1) ∷ []
unfolding binary_whole
quotients = refl

by_zero : binary_whole op.Div (pos 7) (pos 0) ∷ binary_whole op.Rem (negsuc 6) (pos 0) ∷ [] ≡ Breaks S8 Nothing ∷ Breaks S8 Nothing ∷ []
unfolding binary_whole
by_zero = refl

-- -7 >> 1 is -4, 7 >> 1 is 3, -7 >> 200 is -1, -3 << 2 is -12, and a negative amount breaks S11
shifts : binary_whole op.Shr (negsuc 6) (pos 1) ∷ binary_whole op.Shr (pos 7) (pos 1) ∷ binary_whole op.Shr (negsuc 6) (pos 200) ∷ binary_whole op.Shl (negsuc 2) (pos 2)
    ∷ binary_whole op.Shl (pos 1) (negsuc 0) ∷ binary_whole op.Shr (pos 1) (negsuc 0) ∷ []
    ≡ Gives (minus_one_less 3) ∷ Gives (plain 3) ∷ Gives (minus_one_less 0) ∷ Gives (minus_one_less 11) ∷ Breaks S11 Nothing ∷ Breaks S11 Nothing ∷ []
unfolding binary_whole
shifts = refl

-- 2^128 - 1 and -2^127 are constants, and 2^128 and -2^127 - 1 are none
ends : binary_whole op.Add (pos (2 ^ 128 - 2)) (pos 1) ∷ binary_whole op.Add (pos (2 ^ 128 - 1)) (pos 1) ∷ binary_whole op.Sub (negsuc (2 ^ 127 - 2)) (pos 1)
    ∷ binary_whole op.Sub (negsuc (2 ^ 127 - 1)) (pos 1) ∷ binary_whole op.Shl (pos 1) (pos 127) ∷ binary_whole op.Shl (pos 1) (pos 128) ∷ binary_whole op.Shl (negsuc 0) (pos 127)
    ∷ binary_whole op.Shl (negsuc 0) (pos 128) ∷ binary_whole op.Mul (negsuc 0) (pos (2 ^ 127 + 1)) ∷ unary un.Neg (Whole (negsuc (2 ^ 127 - 1))) ∷ unary un.Neg (plain (2 ^ 127 + 1)) ∷ []
    ≡ Gives (plain (2 ^ 128 - 1)) ∷ Breaks S11 Nothing ∷ Gives (minus_one_less (2 ^ 127 - 1)) ∷ Breaks S11 Nothing ∷ Gives (plain (2 ^ 127)) ∷ Breaks S11 Nothing
    ∷ Gives (minus_one_less (2 ^ 127 - 1)) ∷ Breaks S11 Nothing ∷ Breaks S11 Nothing ∷ Gives (plain (2 ^ 127)) ∷ Breaks S11 Nothing ∷ []
unfolding binary_whole unary
ends = refl

-- comparisons, bits and conditions
others : binary_whole op.Lt (negsuc 0) (pos 0) ∷ binary_whole op.Ge (negsuc 0) (pos 0) ∷ binary_whole op.Eq (pos 3) (pos 3) ∷ binary_whole op.Ne (pos 3) (negsuc 3)
    ∷ binary_whole op.And (pos 6) (pos 3) ∷ binary_whole op.Or (pos 6) (negsuc 0) ∷ binary_whole op.Both (negsuc 0) (pos 0) ∷ binary_whole op.Either (negsuc 0) (pos 0)
    ∷ unary un.IsZero (plain 0) ∷ unary un.IsZero (minus_one_less 4) ∷ unary un.Not (plain 0) ∷ []
    ≡ Gives (plain 1) ∷ Gives (plain 0) ∷ Gives (plain 1) ∷ Gives (plain 1) ∷ Gives (plain 2) ∷ Breaks S8 Nothing ∷ Gives (plain 0) ∷ Gives (plain 1)
    ∷ Gives (plain 1) ∷ Gives (plain 0) ∷ Breaks S12 Nothing ∷ []
unfolding binary_whole unary
others = refl

-- ---- constants that take a type

fits_1 : fitted 1 false (pos 1) ∷ fitted 1 true (pos 1) ∷ fitted 1 true (negsuc 0) ∷ fitted 1 false (pos 2) ∷ fitted 1 true (negsuc 1) ∷ []
    ≡ Gives (number 1 1) ∷ Gives (record { width = 1; signed = true; bits = 1 }) ∷ Gives (record { width = 1; signed = true; bits = 1 }) ∷ Breaks S11 Nothing ∷ Breaks S11 Nothing ∷ []
unfolding fitted
fits_1 = refl

fits_2 : fitted 2 false (pos 3) ∷ fitted 2 false (negsuc 1) ∷ fitted 2 false (pos 4) ∷ fitted 2 false (negsuc 2) ∷ []
    ≡ Gives (number 2 3) ∷ Gives (number 2 2) ∷ Breaks S11 Nothing ∷ Breaks S11 Nothing ∷ []
unfolding fitted
fits_2 = refl

fits_127 : fitted 127 false (pos (2 ^ 127 - 1)) ∷ fitted 127 false (negsuc (2 ^ 126 - 1)) ∷ fitted 127 false (pos (2 ^ 127)) ∷ fitted 127 false (negsuc (2 ^ 126)) ∷ []
    ≡ Gives (number 127 (2 ^ 127 - 1)) ∷ Gives (number 127 (2 ^ 126)) ∷ Breaks S11 Nothing ∷ Breaks S11 Nothing ∷ []
unfolding fitted
fits_127 = refl

fits_128 : fitted 128 false (pos (2 ^ 128 - 1)) ∷ fitted 128 false (negsuc (2 ^ 127 - 1)) ∷ []
    ≡ Gives (number 128 (2 ^ 128 - 1)) ∷ Gives (number 128 (2 ^ 127)) ∷ []
unfolding fitted
fits_128 = refl

-- ---- typed operands

-- 0 @ y breaks S12, widths 8 and 4 break S9, 300 beside 8 bits S11, and two signs S10, behind S9
alike_rows : binary kinds op.Concat (plain 0) y ∷ binary kinds op.Add x y ∷ binary kinds op.Add x (plain 300) ∷ binary kinds op.Eq (plain 300) x ∷ binary kinds op.Add x s
    ∷ binary kinds op.Add y s ∷ binary kinds op.Div s s ∷ binary kinds op.Div s y ∷ binary kinds op.Rem s (plain 300) ∷ binary kinds op.Sub x (minus_one_less 0) ∷ []
    ≡ Breaks S12 Nothing ∷ Breaks S9 (Pair 8 4) ∷ Breaks S11 Nothing ∷ Breaks S11 Nothing ∷ Breaks S10 Nothing
    ∷ Breaks S9 (Pair 4 8) ∷ Breaks S10 Nothing ∷ Breaks S9 (Pair 8 4) ∷ Breaks S10 Nothing ∷ Gives (Of (Binary op.Sub (Register 0) (Constant (number 8 255)))) ∷ []
unfolding binary binary_whole
alike_rows = refl

-- amounts of shifts
shift_rows : binary kinds op.Shl x y ∷ binary kinds op.Shl x s ∷ binary kinds op.Shr s (plain 9) ∷ binary kinds op.Shr x (minus_one_less 0) ∷ binary kinds op.Shl (plain 1) y
    ∷ binary kinds op.Shl (plain 16) y ∷ binary kinds op.Shl (plain 999) s ∷ []
    ≡ Gives (Of (Binary op.Shl (Register 0) (Register 1))) ∷ Breaks S10 Nothing ∷ Gives (Of (Binary op.Shr (Register 2) (Constant (number 128 9)))) ∷ Breaks S11 Nothing
    ∷ Gives (Of (Binary op.Shl (Constant (number 4 1)) (Register 1))) ∷ Breaks S11 Nothing ∷ Breaks S10 Nothing ∷ []
unfolding binary binary_whole
shift_rows = refl

-- joined, taken and dropped bits
bits_rows : binary kinds op.Concat s y ∷ binary kinds op.Concat x z ∷ binary kinds op.Take x (plain 8) ∷ binary kinds op.Take x (plain 0) ∷ binary kinds op.Take x (plain 9)
    ∷ binary kinds op.Drop x (plain 0) ∷ binary kinds op.Drop x (plain 8) ∷ binary kinds op.Drop x (minus_one_less 0) ∷ binary kinds op.Take x y ∷ binary kinds op.Take (plain 5) x ∷ []
    ≡ Gives (Of (Binary op.Concat (Register 2) (Register 1))) ∷ Breaks S13 Nothing ∷ Gives (Of (Binary op.Take (Register 0) (Constant (number 128 8)))) ∷ Breaks S14 Nothing ∷ Breaks S14 Nothing
    ∷ Gives (Of (Binary op.Drop (Register 0) (Constant (number 128 0)))) ∷ Breaks S14 Nothing ∷ Breaks S14 Nothing ∷ Breaks S8 Nothing ∷ Breaks S12 Nothing ∷ []
unfolding binary binary_whole
bits_rows = refl

-- a[7:0] and a[0:0] are there, and a[4:5], a[8:0], a[-1:-1] and 5[0:0] aren't
cut_rows : cut kinds x (pos 7) (pos 0) ∷ cut kinds x (pos 0) (pos 0) ∷ cut kinds x (pos 4) (pos 5) ∷ cut kinds x (pos 8) (pos 0) ∷ cut kinds x (negsuc 0) (negsuc 0)
    ∷ cut kinds (plain 5) (pos 0) (pos 0) ∷ []
    ≡ Gives (Of (Slice (Register 0) 7 0)) ∷ Gives (Of (Slice (Register 0) 0 0)) ∷ Breaks S14 Nothing ∷ Breaks S14 Nothing ∷ Breaks S14 Nothing ∷ Breaks S12 Nothing ∷ []
unfolding cut
cut_rows = refl

-- conditions that are constants, and choices
choice_rows : binary kinds op.Both (minus_one_less 4) x ∷ choose kinds (plain 5) x (plain 1) ∷ choose kinds y x s ∷ choose kinds y x y ∷ choose kinds y (plain 256) x
    ∷ choose kinds y (plain 1) (plain 2) ∷ choose kinds (plain 0) (plain 1) (plain 2) ∷ choose kinds (minus_one_less 0) (plain 1) (plain 2) ∷ []
    ≡ Gives (Of (Binary op.Both (Constant (number 1 1)) (Register 0))) ∷ Gives (Of (Choice (Constant (number 1 1)) (Register 0) (Constant (number 8 1)))) ∷ Breaks S10 Nothing
    ∷ Breaks S9 (Pair 8 4) ∷ Breaks S11 Nothing ∷ Breaks S12 Nothing ∷ Gives (plain 2) ∷ Gives (plain 1) ∷ []
unfolding binary binary_whole choose
choice_rows = refl

-- casts: the type's width is named first
cast_rows : cast kinds 8 true x ∷ cast kinds 8 false s ∷ cast kinds 4 false x ∷ cast kinds 4 false (plain 16) ∷ cast kinds 4 true (minus_one_less 7) ∷ []
    ≡ Gives (Of (Unary un.ToSigned (Register 0))) ∷ Gives (Of (Unary un.ToUnsigned (Register 2))) ∷ Breaks S9 (Pair 4 8) ∷ Breaks S11 Nothing
    ∷ Gives (Of (Constant (record { width = 4; signed = true; bits = 8 }))) ∷ []
unfolding cast
cast_rows = refl
