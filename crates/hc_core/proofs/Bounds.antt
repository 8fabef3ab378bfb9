-- The weight of each part of a sound core is at most 2^25, so that of a core of fewer than 2^32 parts is below 2^58.
use Rattle.std.proofs.Common.{◌≡◌, ℕ, zero, suc, ◌+◌, ◌*◌, ◌^◌, ◌≤◌, List, Bool, true, false, Some, arith, lit≤}
use Rattle.std.specs.Prelude.{slice_get, nat_le, if◌then◌else◌}
use Rattle.std.proofs.lemmas.Nat.{mul-le}
use Rattle.hc_num.specs.Number.{Number}
use Rattle.hc_num.specs.Index.{first_from, index_width}
use Rattle.hc_core.specs.Program.{Expression, Constant, Unary, Binary}
use Rattle.hc_core.specs.Typed.{Typed, constant, register, signal, input, element, ram_word, rom_word, negative, complement, is_zero, to_signed, to_unsigned, arithmetic, division, bitwise, comparison, shift, joining, taking, dropping, logic, slice, choice}
use Rattle.hc_core.specs.Parts.{expression_parts}
use Rattle.hc_core.specs.Sound.{HasType, IsWidth, IsArray, IsMemory, IsPort}
use Rattle.hc_core.specs.Weight.{is_constant, unary_weight, binary_weight, element_weight, word_weight, expression_weight}
use Rattle.hc_core.specs.Weigh.{AreSound}
use Rattle.hc_core.specs.declared.expr.UnOp.{UnOp}
use Rattle.hc_core.specs.declared.expr.UnOp.TheVariants.{Neg, Not, IsZero, ToSigned, ToUnsigned}
use Rattle.hc_core.specs.declared.expr.BinOp.{BinOp}
use Rattle.hc_core.specs.declared.expr.BinOp.TheVariants.{Add, Sub, Mul, Div, Rem, And, Or, Xor, Eq, Ne, Lt, Le, Gt, Ge, Shl, Shr, Concat, Take, Drop, Both, Either}
use Rattle.hc_core.specs.declared.object.Kind.{Kind}
use Rattle.hc_core.specs.declared.object.Kind.TheVariants as kind
use Rattle.hc_core.proofs.Types.{widths_are}

-- ---- widths and lengths

pub of_type : (w : ℕ) (s : Bool) (n : Number) → HasType w s n → IsWidth w
of_type w s n h = record { least = let l = h.number.least in omega (arith, h.width); most = let m = h.number.most in omega (arith, h.width) }

pub array_at : (kinds : List Kind) → AreSound kinds → (k w n : ℕ) (s : Bool) (init : List Number) → slice_get kinds k ≡ Some (kind.Array w s n init) → IsArray w s n init
array_at kinds sound k w n s init is = sound k (kind.Array w s n init) is

pub ram_at : (kinds : List Kind) → AreSound kinds → (k w n : ℕ) (s : Bool) (init : List Number) → slice_get kinds k ≡ Some (kind.Ram w s n init) → IsMemory w s n init
ram_at kinds sound k w n s init is = sound k (kind.Ram w s n init) is

rom_at : (kinds : List Kind) → AreSound kinds → (k w n : ℕ) (s : Bool) (init : List Number) → slice_get kinds k ≡ Some (kind.Rom w s n init) → IsMemory w s n init
rom_at kinds sound k w n s init is = sound k (kind.Rom w s n init) is

port_at : (kinds : List Kind) → AreSound kinds → (k w : ℕ) (s : Bool) (pins : List (List ℕ)) → slice_get kinds k ≡ Some (kind.Input w s pins) → IsPort w pins
port_at kinds sound k w s pins is = sound k (kind.Input w s pins) is

-- an expression has 1 to 128 bits
pub narrow : (kinds : List Kind) → AreSound kinds → (e : Expression) (w : ℕ) (s : Bool) → Typed kinds e w s → IsWidth w
narrow kinds sound _ _ _ (constant n is) = record { least = is.least; most = is.most }
narrow kinds sound _ _ _ (register k w s init is) = of_type w s init (sound k (kind.Reg w s init) is)
narrow kinds sound _ _ _ (signal k w s unset is) = of_type w s unset (sound k (kind.Signal w s unset) is)
narrow kinds sound _ _ _ (input k w s pins is) = (port_at kinds sound k w s pins is).width
narrow kinds sound _ _ _ (element k w n s init i is t) = (array_at kinds sound k w n s init is).width
narrow kinds sound _ _ _ (ram_word k w n s init i is t) = (ram_at kinds sound k w n s init is).width
narrow kinds sound _ _ _ (rom_word k w n s init i is t) = (rom_at kinds sound k w n s init is).width
narrow kinds sound _ _ _ (negative a w s t) = narrow kinds sound a w s t
narrow kinds sound _ _ _ (complement a w s t) = narrow kinds sound a w s t
narrow kinds sound _ _ _ (is_zero a v r t) = record { least = lit≤ tt; most = lit≤ tt }
narrow kinds sound _ _ _ (to_signed a w r t) = narrow kinds sound a w r t
narrow kinds sound _ _ _ (to_unsigned a w r t) = narrow kinds sound a w r t
narrow kinds sound _ _ _ (arithmetic op a b w s is t u) = narrow kinds sound a w s t
narrow kinds sound _ _ _ (division op a b w is t u) = narrow kinds sound a w false t
narrow kinds sound _ _ _ (bitwise op a b w s is t u) = narrow kinds sound a w s t
narrow kinds sound _ _ _ (comparison op a b v r is t u) = record { least = lit≤ tt; most = lit≤ tt }
narrow kinds sound _ _ _ (shift op a b w v s is t u) = narrow kinds sound a w s t
narrow kinds sound _ _ _ (joining op a b x v s r is t u most) =
    let h = narrow kinds sound a x s t in
    record { least = let l = h.least in omega arith; most = most }
narrow kinds sound _ _ _ (taking op a n x s is t amount least most) =
    let h = narrow kinds sound a x s t in
    record { least = least; most = let m = h.most in omega arith }
narrow kinds sound _ _ _ (dropping op a n x s is t amount below) =
    let h = narrow kinds sound a x s t in
    record { least = omega arith; most = let m = h.most in omega arith }
narrow kinds sound _ _ _ (logic op a b x v p r is t u) = record { least = lit≤ tt; most = lit≤ tt }
narrow kinds sound _ _ _ (slice a high low x r t least below) =
    let h = narrow kinds sound a x r t in
    record { least = omega arith; most = let m = h.most in omega arith }
narrow kinds sound _ _ _ (choice c a b v w r s x t u) = narrow kinds sound a w s t

tries_end : (test : ℕ → Bool) (start tries : ℕ) → first_from test start tries ≤ start + tries
tries_end test start zero = omega arith
tries_end test start (suc tries) =
    let h = tries_end test (start + 1) tries in
    elim (test start) as (λ b. (if b then start else first_from test (start + 1) tries) ≤ start + suc tries) [ true ↦ omega arith | false ↦ omega arith ]

-- an index is not wider than one bit more than the length
pub index_bound : (n : ℕ) → index_width n ≤ n + 1
unfolding index_width
index_bound n = let h = tries_end (λ w. nat_le n (2 ^ w)) 1 n in omega arith

-- ---- operators

unary_light : (op : UnOp) (w : ℕ) → w ≤ 128 → unary_weight op w ≤ 2048
unary_light Neg w h = omega arith
unary_light Not w h = omega arith
unary_light IsZero w h = omega arith
unary_light ToSigned w h = omega arith
unary_light ToUnsigned w h = omega arith

shift_light : (fixed : Bool) (w v : ℕ) → w ≤ 128 → v ≤ 128 → (if fixed then 0 else 4 * (w * v) + 4 * w) ≤ 1000000
shift_light true w v h k = omega arith
shift_light false w v h k = let p = mul-le w v 128 128 h k in omega arith

pub binary_light : (op : BinOp) (fixed : Bool) (w v : ℕ) → w ≤ 128 → v ≤ 128 → binary_weight op fixed w v ≤ 1000000
binary_light Add fixed w v h k = omega arith
binary_light Sub fixed w v h k = omega arith
binary_light Mul fixed w v h k = let p = mul-le w w 128 128 h h in omega arith
binary_light Div fixed w v h k = let p = mul-le w w 128 128 h h in omega arith
binary_light Rem fixed w v h k = let p = mul-le w w 128 128 h h in omega arith
binary_light And fixed w v h k = omega arith
binary_light Or fixed w v h k = omega arith
binary_light Xor fixed w v h k = omega arith
binary_light Eq fixed w v h k = omega arith
binary_light Ne fixed w v h k = omega arith
binary_light Lt fixed w v h k = omega arith
binary_light Le fixed w v h k = omega arith
binary_light Gt fixed w v h k = omega arith
binary_light Ge fixed w v h k = omega arith
binary_light Shl fixed w v h k = shift_light fixed w v h k
binary_light Shr fixed w v h k = shift_light fixed w v h k
binary_light Concat fixed w v h k = omega arith
binary_light Take fixed w v h k = omega arith
binary_light Drop fixed w v h k = omega arith
binary_light Both fixed w v h k = omega arith
binary_light Either fixed w v h k = omega arith

element_light : (fixed : Bool) (n w : ℕ) → n ≤ 4096 → w ≤ 128 → element_weight fixed n w ≤ 30000000
element_light true n w h k = omega arith
element_light false n w h k =
    let a = index_bound n in
    let p = mul-le n (index_width n + 2 * w) 4096 4353 h (omega arith) in
    omega arith

word_light : (n : ℕ) → n ≤ 65536 → word_weight n ≤ 30000000
word_light n h = let a = index_bound n in omega arith

-- a RAM or ROM has at most 65,536 words
pub few_words : (w n : ℕ) → 1 ≤ w → n * w ≤ 65536 → n ≤ 65536
few_words w n h k = let p = mul-le n 1 n w (omega arith) h in omega arith

-- ---- expressions

one_operand : (kinds : List Kind) → AreSound kinds → (op : UnOp) (a : Expression) (w : ℕ) (s : Bool) → Typed kinds a w s
    → expression_weight kinds a ≤ 2 ^ 25 * expression_parts a → expression_weight kinds (Unary op a) ≤ 2 ^ 25 * expression_parts (Unary op a)
one_operand kinds sound op a w s t rest =
    let h = narrow kinds sound a w s t in
    let own = unary_light op w h.most in
    rw (widths_are kinds a w s t) (omega arith)

two_operands : (kinds : List Kind) → AreSound kinds → (op : BinOp) (a b : Expression) (w v : ℕ) (s r : Bool) → Typed kinds a w s → Typed kinds b v r
    → expression_weight kinds a ≤ 2 ^ 25 * expression_parts a → expression_weight kinds b ≤ 2 ^ 25 * expression_parts b
    → expression_weight kinds (Binary op a b) ≤ 2 ^ 25 * expression_parts (Binary op a b)
two_operands kinds sound op a b w v s r t u first second =
    let h = narrow kinds sound a w s t in
    let k = narrow kinds sound b v r u in
    let own = binary_light op (is_constant b) w v h.most k.most in
    rw (widths_are kinds a w s t) (rw (widths_are kinds b v r u) (omega arith))

pub light : (kinds : List Kind) → AreSound kinds → (e : Expression) (w : ℕ) (s : Bool) → Typed kinds e w s → expression_weight kinds e ≤ 2 ^ 25 * expression_parts e
light kinds sound _ _ _ (constant n is) = omega arith
light kinds sound _ _ _ (register k w s init is) = omega arith
light kinds sound _ _ _ (signal k w s unset is) = omega arith
light kinds sound _ _ _ (input k w s pins is) = omega arith
light kinds sound _ _ _ (element k w n s init i is t) =
    let object = array_at kinds sound k w n s init is in
    let own = element_light (is_constant i) n w object.most object.width.most in
    let rest = light kinds sound i _ _ t in
    rw is (omega arith)
light kinds sound _ _ _ (ram_word k w n s init i is t) =
    let object = ram_at kinds sound k w n s init is in
    let own = word_light n (few_words w n object.width.least object.bits) in
    let rest = light kinds sound i _ _ t in
    rw is (omega arith)
light kinds sound _ _ _ (rom_word k w n s init i is t) =
    let object = rom_at kinds sound k w n s init is in
    let own = word_light n (few_words w n object.width.least object.bits) in
    let rest = light kinds sound i _ _ t in
    rw is (omega arith)
light kinds sound _ _ _ (negative a w s t) = one_operand kinds sound Neg a w s t (light kinds sound a w s t)
light kinds sound _ _ _ (complement a w s t) = one_operand kinds sound Not a w s t (light kinds sound a w s t)
light kinds sound _ _ _ (is_zero a v r t) = one_operand kinds sound IsZero a v r t (light kinds sound a v r t)
light kinds sound _ _ _ (to_signed a w r t) = one_operand kinds sound ToSigned a w r t (light kinds sound a w r t)
light kinds sound _ _ _ (to_unsigned a w r t) = one_operand kinds sound ToUnsigned a w r t (light kinds sound a w r t)
light kinds sound _ _ _ (arithmetic op a b w s is t u) = two_operands kinds sound op a b _ _ _ _ t u (light kinds sound a _ _ t) (light kinds sound b _ _ u)
light kinds sound _ _ _ (division op a b w is t u) = two_operands kinds sound op a b _ _ _ _ t u (light kinds sound a _ _ t) (light kinds sound b _ _ u)
light kinds sound _ _ _ (bitwise op a b w s is t u) = two_operands kinds sound op a b _ _ _ _ t u (light kinds sound a _ _ t) (light kinds sound b _ _ u)
light kinds sound _ _ _ (comparison op a b v r is t u) = two_operands kinds sound op a b _ _ _ _ t u (light kinds sound a _ _ t) (light kinds sound b _ _ u)
light kinds sound _ _ _ (shift op a b w v s is t u) = two_operands kinds sound op a b _ _ _ _ t u (light kinds sound a _ _ t) (light kinds sound b _ _ u)
light kinds sound _ _ _ (joining op a b x v s r is t u most) = two_operands kinds sound op a b _ _ _ _ t u (light kinds sound a _ _ t) (light kinds sound b _ _ u)
light kinds sound _ _ _ (taking op a n x s is t amount least most) =
    two_operands kinds sound op a (Constant n) _ _ _ _ t (constant n amount.number) (light kinds sound a _ _ t) (omega arith)
light kinds sound _ _ _ (dropping op a n x s is t amount below) =
    two_operands kinds sound op a (Constant n) _ _ _ _ t (constant n amount.number) (light kinds sound a _ _ t) (omega arith)
light kinds sound _ _ _ (logic op a b x v p r is t u) = two_operands kinds sound op a b _ _ _ _ t u (light kinds sound a _ _ t) (light kinds sound b _ _ u)
light kinds sound _ _ _ (slice a high low x r t least below) = let rest = light kinds sound a x r t in omega arith
light kinds sound _ _ _ (choice c a b v w r s x t u) =
    let one = narrow kinds sound c v r x in
    let two = narrow kinds sound a w s t in
    let first = light kinds sound c v r x in
    let second = light kinds sound a w s t in
    let third = light kinds sound b w s u in
    let m = one.most in
    let n = two.most in
    rw (widths_are kinds c v r x) (rw (widths_are kinds a w s t) (omega arith))
