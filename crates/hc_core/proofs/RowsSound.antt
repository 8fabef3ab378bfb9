-- Worked rows of types and soundness.
use Rattle.std.proofs.Common.{◌≡◌, ◌<◌, ℕ, zero, suc, ◌^◌, List, [], ◌∷◌, map, true, false, Some, refl, subst, arith, lit<, lit≤}
use Rattle.std.specs.Prelude.{slice_get}
use Rattle.hc_num.specs.Number.{Number}
use Rattle.hc_tree.specs.declared.place.Place.{Place}
use Rattle.hc_core.specs.Program.{Expression, Constant, Register, Word, Unary, Binary, Slice, Choice}
use Rattle.hc_core.specs.Read.{expression, target, statement, statements_in}
use Rattle.hc_core.specs.Typed.{IsNumber, IsAmount, Typed, constant, register, arithmetic, taking, dropping, slice, width_of, sign_of}
use Rattle.hc_core.specs.Sound.{IsKind, IsSound}
use Rattle.hc_core.proofs.Types.{widths_are}
use Rattle.hc_core.specs.declared.expr.UnOp.TheVariants.{IsZero, ToSigned}
use Rattle.hc_core.specs.declared.expr.BinOp.TheVariants.{Add, Lt, Shl, Concat, Take, Drop, Both}
use Rattle.hc_core.specs.declared.expr.Expr.TheVariants as e
use Rattle.hc_core.specs.declared.expr.Expr.TheBlock as eb
use Rattle.hc_core.specs.declared.stmt.Stmt.TheVariants as s
use Rattle.hc_core.specs.declared.stmt.Case.TheBlock as sb
use Rattle.hc_core.specs.declared.stmt.Target.TheVariants as t
use Rattle.hc_core.specs.declared.object.Kind.{Kind}
use Rattle.hc_core.specs.declared.object.Kind.TheVariants as kind
use Rattle.hc_core.specs.declared.object.Core.{Core}

abbrev here : Place
here = record { line = 1; column = 1 }

abbrev number : ℕ → ℕ → Number
number width bits = record { width = width; signed = false; bits = bits }

-- registers x of 5 bits, signed, and c of 3, and a RAM of three times 7 bits
abbrev kinds : List Kind
kinds = kind.Reg 5 true (record { width = 5; signed = true; bits = 0 }) ∷ kind.Reg 3 false (number 3 0) ∷ kind.Ram 7 false 3 [] ∷ []

abbrev x : Expression
x = Register 0

abbrev c : Expression
c = Register 1

abbrev two : Expression
two = Constant (number 128 2)

abbrev samples : List Expression
samples = Binary Add x x ∷ Binary Lt x x ∷ Binary Shl x c ∷ Binary Concat x c ∷ Binary Take x two ∷ Binary Drop x two ∷ Binary Both x c ∷ Word 2 c
    ∷ Unary IsZero x ∷ Unary ToSigned c ∷ Slice x 3 1 ∷ Choice c x x ∷ []

sample_widths : map (width_of kinds) samples ≡ 5 ∷ 1 ∷ 5 ∷ 8 ∷ 2 ∷ 3 ∷ 1 ∷ 7 ∷ 1 ∷ 3 ∷ 3 ∷ 5 ∷ []
sample_widths = refl

sample_signs : map (sign_of kinds) samples ≡ true ∷ false ∷ true ∷ true ∷ true ∷ true ∷ false ∷ false ∷ false ∷ true ∷ false ∷ true ∷ []
sample_signs = refl

x_typed : Typed kinds x 5 true
x_typed = register 0 5 true _ refl

amount : IsAmount (number 128 2)
amount = record { number = record { least = lit≤ tt; most = lit≤ tt; fits = lit< tt }; width = refl; unsigned = refl }

lowest_typed : Typed kinds (Binary Take x two) 2 true
lowest_typed = taking Take x (number 128 2) 5 true refl x_typed amount (lit≤ tt) (lit≤ tt)

rest_typed : Typed kinds (Binary Drop x two) 3 true
rest_typed = dropping Drop x (number 128 2) 5 true refl x_typed amount (lit< tt)

bits_typed : Typed kinds (Slice x 3 1) 3 false
bits_typed = slice x 3 1 5 true x_typed (lit≤ tt) (lit< tt)

-- `unsigned 4 x;` with `x = 5; delay; x = x + 1;` is sound
abbrev first_core : Core
first_core = record {
  objects = record { name = 120 ∷ []; place = here; kind = kind.Reg 4 false (number 4 0) } ∷ [];
  main = s.Seq here (s.Assign here (t.Reg 0) (e.Const (number 4 5)) ∷ s.Delay here ∷ s.Assign here (t.Reg 0) (e.Binary Add (e.Reg 0) (e.Const (number 4 1))) ∷ []);
  clock = 99 ∷ [];
}

abbrev first_kinds : List Kind
first_kinds = kind.Reg 4 false (number 4 0) ∷ []

small : (n : ℕ) → n < 2 ^ 4 → IsNumber (number 4 n)
small n h = record { least = lit≤ tt; most = lit≤ tt; fits = h }

kind_sound : (k : ℕ) (found : Kind) → slice_get first_kinds k ≡ Some found → IsKind first_kinds found
kind_sound zero found h =
    let same : kind.Reg 4 false (number 4 0) ≡ found = cc in
    subst (λ (o : Kind). IsKind first_kinds o) same (record { number = small 0 (lit< tt); width = refl; signed = refl })
kind_sound (suc k) found h = absurd (let no : slice_get first_kinds (suc k) ≡ Some found = h in cc)

register_typed : Typed first_kinds (Register 0) 4 false
register_typed = register 0 4 false _ refl

sum_typed : Typed first_kinds (Binary Add (Register 0) (Constant (number 4 1))) 4 false
sum_typed = arithmetic Add _ _ 4 false refl register_typed (constant (number 4 1) (small 1 (lit< tt)))

first_sound : IsSound first_core
unfolding statement statements_in target expression eb.hidden-the_row-Expr-0 sb.hidden-the_row-Stmt-2 denote.Hole.Carrier.hidden
first_sound = record {
  kinds = kind_sound;
  main = (
    record { width = 4; signed = false; target = (number 4 0, refl); value = constant (number 4 5) (small 5 (lit< tt)) },
    (tt, (record { width = 4; signed = false; target = (number 4 0, refl); value = sum_typed }, tt)),
  );
  names_differ = λ i j d p q. absurd (omega arith);
  names = λ k d h. absurd (omega arith);
  clock = refl;
  few = lit< tt;
}

-- `y = 5;` where no object is y, and `x = 5;` by a constant of another width, are not sound
abbrev lost_core : Core
lost_core = record first_core { main = s.Assign here (t.Reg 1) (e.Const (number 4 5)) }

lost_is_unsound : IsSound lost_core → ⊥
unfolding statement target expression
lost_is_unsound sound = let there : slice_get first_kinds 1 ≡ Some _ = sound.main.target.1 in absurd cc

abbrev wide_core : Core
wide_core = record first_core { main = s.Assign here (t.Reg 0) (e.Const (number 5 5)) }

wide_is_unsound : IsSound wide_core → ⊥
unfolding statement target expression
wide_is_unsound sound =
    let there : Some (kind.Reg 4 false (number 4 0)) ≡ Some _ = sound.main.target.1 in
    let width : 5 ≡ sound.main.width = widths_are first_kinds (Constant (number 5 5)) _ _ sound.main.value in
    absurd cc
