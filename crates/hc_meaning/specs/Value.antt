-- What objects hold, and the number of an expression in a clock (the operators are those of the Handel-C manual; what an index
-- outside reads is this project's own).
use Rattle.std.specs.Prelude.{ℕ, zero, suc, ◌+◌, List, [], ◌∷◌, map, Bool, true, false, not, ◌&&◌, ◌||◌, ◌==◌, if◌then◌else◌, Option, slice_get, slice_index_or, slice_set}
use Rattle.hc_num.specs.Number.{Number}
use Rattle.hc_num.specs.Arithmetic.{sum, difference, product, negation, quotient, remainder}
use Rattle.hc_num.specs.Bits.{conjunction, disjunction, exclusive_or, complement}
use Rattle.hc_num.specs.Compare.{truth, is_equal, is_less}
use Rattle.hc_num.specs.Shift.{shifted_left, shifted_right}
use Rattle.hc_num.specs.Parts.{low_part, high_part, joined, bit_range}
use Rattle.hc_core.specs.Program.{Expression, Constant, Register, Element, Word, Signal, Input, Unary, Binary, Slice, Choice}
use Rattle.hc_core.specs.Typed.{kind_width, kind_sign}
use Rattle.hc_core.specs.declared.expr.UnOp.{UnOp}
use Rattle.hc_core.specs.declared.expr.UnOp.TheVariants.{Neg, Not, IsZero, ToSigned, ToUnsigned}
use Rattle.hc_core.specs.declared.expr.BinOp.{BinOp}
use Rattle.hc_core.specs.declared.expr.BinOp.TheVariants.{Add, Sub, Mul, Div, Rem, And, Or, Xor, Eq, Ne, Lt, Le, Gt, Ge, Shl, Shr, Concat, Take, Drop, Both, Either}
use Rattle.hc_core.specs.declared.object.Kind.{Kind}
use Rattle.hc_core.specs.declared.object.Kind.TheVariants as kind

-- What registers, arrays, RAMs and ROMs hold: for each object the list of its numbers without a sign, a register's being its one
-- number.
abbrev pub Store : Type 0
Store = List (List ℕ)

-- the numbers of one object
abbrev pub words : Store → ℕ → List ℕ
words store k = slice_index_or store k []

-- the number at an index of an object; 0 outside
abbrev pub word_in : Store → ℕ → ℕ → ℕ
word_in store k i = slice_index_or (words store k) i 0

-- so many numbers, those that are given first and then 0
abbrev pub padded : ℕ → List ℕ → List ℕ
padded zero first = []
padded (suc n) [] = 0 ∷ padded n []
padded (suc n) (bits ∷ first) = bits ∷ padded n first

-- numbers without their types
abbrev pub bits_of : List Number → List ℕ
bits_of numbers = map (λ n. n.bits) numbers

-- what an object holds at the start
abbrev pub first_words : Kind → List ℕ
first_words (kind.Reg w s init) = init.bits ∷ []
first_words (kind.Array w s n init) = padded n (bits_of init)
first_words (kind.Ram w s n init) = padded n (bits_of init)
first_words (kind.Rom w s n init) = padded n (bits_of init)
first_words (kind.Signal w s unset) = []
first_words (kind.Chan w s queue) = []
first_words (kind.Input w s pins) = []
first_words (kind.Output w s pins value) = []

-- the store at edge 0
abbrev pub initial : List Kind → Store
initial kinds = map first_words kinds

-- the store with this number at an index of an object; an index that isn't there changes nothing
abbrev pub with_word : Store → ℕ → ℕ → ℕ → Store
with_word store k i bits = slice_set store k (slice_set (words store k) i bits)

-- What has a value within a clock, by the number of its object: each signal's number without a sign, and whether a channel has a
-- plain send and a plain receive. What is no such object has 0 and no.
pub record Instant : Type 0 where
  pub signals : List ℕ
  pub sends : List Bool
  pub receives : List Bool

-- What expressions are read in: the kinds of the objects, what they hold, the inputs in order, the instant, and the number of
-- each RAM or ROM at each index.
pub record World : Type 0 where
  pub kinds : List Kind
  pub store : Store
  pub inputs : List ℕ
  pub instant : Instant
  pub word : ℕ → ℕ → ℕ

-- a number with the type of an object; what is no object has no type
abbrev pub typed : Option Kind → ℕ → Number
typed kind bits = record { width = kind_width kind; signed = kind_sign kind; bits = bits }

-- whether an object is an input
abbrev pub is_input : Kind → Bool
is_input (kind.Input w s pins) = true
is_input _ = false

-- how many of the first so many objects are inputs
abbrev pub inputs_before : List Kind → ℕ → ℕ
inputs_before [] k = 0
inputs_before (kind ∷ kinds) zero = 0
inputs_before (kind ∷ kinds) (suc k) = (if is_input kind then 1 else 0) + inputs_before kinds k

-- a number that isn't 0
abbrev pub holds : Number → Bool
holds n = not (n.bits == 0)

-- the operators of one operand, and of two
abbrev pub unary : UnOp → Number → Number
unary Neg a = negation a
unary Not a = complement a
unary IsZero a = truth (not (holds a))
unary ToSigned a = record a { signed = true }
unary ToUnsigned a = record a { signed = false }

abbrev pub binary : BinOp → Number → Number → Number
binary Add a b = sum a b
binary Sub a b = difference a b
binary Mul a b = product a b
binary Div a b = quotient a b
binary Rem a b = remainder a b
binary And a b = conjunction a b
binary Or a b = disjunction a b
binary Xor a b = exclusive_or a b
binary Eq a b = truth (is_equal a b)
binary Ne a b = truth (not (is_equal a b))
binary Lt a b = truth (is_less a b)
binary Le a b = truth (not (is_less b a))
binary Gt a b = truth (is_less b a)
binary Ge a b = truth (not (is_less a b))
binary Shl a b = shifted_left a b.bits
binary Shr a b = shifted_right a b.bits
binary Concat a b = joined a b
binary Take a b = low_part a b.bits
binary Drop a b = high_part a b.bits
binary Both a b = truth (holds a && holds b)
binary Either a b = truth (holds a || holds b)

-- the number of an expression; an element or word outside is 0
abbrev pub number_of : World → Expression → Number
number_of w (Constant n) = n
number_of w (Register k) = typed (slice_get w.kinds k) (slice_index_or (words w.store k) 0 0)
number_of w (Element k i) = typed (slice_get w.kinds k) (slice_index_or (words w.store k) (number_of w i).bits 0)
number_of w (Word k i) = typed (slice_get w.kinds k) (w.word k (number_of w i).bits)
number_of w (Signal k) = typed (slice_get w.kinds k) (slice_index_or w.instant.signals k 0)
number_of w (Input k) = typed (slice_get w.kinds k) (slice_index_or w.inputs (inputs_before w.kinds k) 0)
number_of w (Unary op a) = unary op (number_of w a)
number_of w (Binary op a b) = binary op (number_of w a) (number_of w b)
number_of w (Slice a high low) = bit_range (number_of w a) high low
number_of w (Choice c a b) = if holds (number_of w c) then number_of w a else number_of w b
