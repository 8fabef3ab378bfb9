-- An expression of built forms: the nets that it reads are those of objects, and by these it reads what the objects are worth
-- in the world of a clock.
use Rattle.std.proofs.Common.{◌≡◌, ◌≤◌, ℕ, ◌*◌, List, [], ◌++◌, length, map, take, drop, Bool, true, false, ◌&&◌, Some, refl, ap, sym, ◌∙◌, subst, inl, inr, arith}
use Rattle.std.specs.Prelude.{slice_get, slice_index_or, All}
use Rattle.std.proofs.lemmas.Nat.{mul-le}
use Rattle.std.proofs.lemmas.Bool.{cases_lt, and_parts}
use Rattle.std.proofs.lemmas.List.{get_or_past, take_all, drop_all}
use Rattle.std.proofs.lemmas.List.Elements.{All-nil, All-append}
use Rattle.hc_num.specs.Number.{Number}
use Rattle.hc_num.specs.Index.{index_width}
use Rattle.hc_core.specs.Program.{Expression, Constant}
use Rattle.hc_core.specs.Typed.{Typed, constant, register, signal, input, element, ram_word, rom_word, negative, complement, is_zero, to_signed, to_unsigned, arithmetic, division, bitwise, comparison, shift, joining, taking, dropping, logic, slice, choice, kind_width}
use Rattle.hc_core.specs.Weight.{kind_length}
use Rattle.hc_core.specs.declared.object.Kind.{Kind}
use Rattle.hc_core.specs.declared.object.Kind.TheVariants as kind
use Rattle.hc_meaning.specs.Value.{World, words, number_of}
use Rattle.hc_meaning.specs.Clock.{register_cells}
use Rattle.hc_net.specs.Bits.{number}
use Rattle.hc_net.specs.declared.node.Node.{Node}
use Rattle.hc_bits.specs.Elements.{element_nets}
use Rattle.hc_value.specs.Objects.{nets_of, AreNets}
use Rattle.hc_value.specs.Reads.{HasNets, Reads, Holds, read_nets}
use Rattle.hc_value.specs.declared.objects.ObjectNets.{ObjectNets}
use Rattle.hc_control.specs.Built.{is_built_expression}
use Rattle.hc_control.specs.Right.{HasPlaces, AreAll, IsRead}

-- ---- which nets it reads

-- The nets that a typed expression of built forms reads are those of objects.
pub has_nets : (kinds : List Kind) (nodes : List Node) (at : ObjectNets) → HasPlaces kinds nodes at → (e : Expression) (w : ℕ) (s : Bool) → Typed kinds e w s → is_built_expression e ≡ true
    → HasNets kinds at (length nodes) e
has_nets kinds nodes at places _ _ _ (constant n is) built = tt
has_nets kinds nodes at places _ _ _ (register k w s init is) built =
    let nets : AreNets (length nodes) w (nets_of at k) = places.each k (kind.Reg w s init) is in
    subst (λ o. AreNets (length nodes) (kind_width o) (nets_of at k)) (sym is) nets
has_nets kinds nodes at places _ _ _ (signal k w s unset is) built = absurd cc
has_nets kinds nodes at places _ _ _ (input k w s pins is) built =
    let nets : AreNets (length nodes) w (nets_of at k) = places.each k (kind.Input w s pins) is in
    subst (λ o. AreNets (length nodes) (kind_width o) (nets_of at k)) (sym is) nets
has_nets kinds nodes at places _ _ _ (element k w n s init i is t) built =
    let nets : AreNets (length nodes) (n * w) (nets_of at k) = places.each k (kind.Array w s n init) is in
    (subst (λ o. AreNets (length nodes) (kind_length o * kind_width o) (nets_of at k)) (sym is) nets, has_nets kinds nodes at places i _ _ t built)
has_nets kinds nodes at places _ _ _ (ram_word k w n s init i is t) built = absurd cc
has_nets kinds nodes at places _ _ _ (rom_word k w n s init i is t) built = absurd cc
has_nets kinds nodes at places _ _ _ (negative a w s t) built = has_nets kinds nodes at places a _ _ t built
has_nets kinds nodes at places _ _ _ (complement a w s t) built = has_nets kinds nodes at places a _ _ t built
has_nets kinds nodes at places _ _ _ (is_zero a w s t) built = has_nets kinds nodes at places a _ _ t built
has_nets kinds nodes at places _ _ _ (to_signed a w s t) built = has_nets kinds nodes at places a _ _ t built
has_nets kinds nodes at places _ _ _ (to_unsigned a w s t) built = has_nets kinds nodes at places a _ _ t built
has_nets kinds nodes at places _ _ _ (arithmetic op a b w s is t u) built =
    let both = and_parts (is_built_expression a) (is_built_expression b) built in
    (has_nets kinds nodes at places a _ _ t both.0, has_nets kinds nodes at places b _ _ u both.1)
has_nets kinds nodes at places _ _ _ (division op a b w is t u) built =
    let both = and_parts (is_built_expression a) (is_built_expression b) built in
    (has_nets kinds nodes at places a _ _ t both.0, has_nets kinds nodes at places b _ _ u both.1)
has_nets kinds nodes at places _ _ _ (bitwise op a b w s is t u) built =
    let both = and_parts (is_built_expression a) (is_built_expression b) built in
    (has_nets kinds nodes at places a _ _ t both.0, has_nets kinds nodes at places b _ _ u both.1)
has_nets kinds nodes at places _ _ _ (comparison op a b w s is t u) built =
    let both = and_parts (is_built_expression a) (is_built_expression b) built in
    (has_nets kinds nodes at places a _ _ t both.0, has_nets kinds nodes at places b _ _ u both.1)
has_nets kinds nodes at places _ _ _ (shift op a b w v s is t u) built =
    let both = and_parts (is_built_expression a) (is_built_expression b) built in
    (has_nets kinds nodes at places a _ _ t both.0, has_nets kinds nodes at places b _ _ u both.1)
has_nets kinds nodes at places _ _ _ (joining op a b w v s r is t u most) built =
    let both = and_parts (is_built_expression a) (is_built_expression b) built in
    (has_nets kinds nodes at places a _ _ t both.0, has_nets kinds nodes at places b _ _ u both.1)
has_nets kinds nodes at places _ _ _ (taking op a n w s is t amount least most) built = (has_nets kinds nodes at places a _ _ t (and_parts (is_built_expression a) true built).0, tt)
has_nets kinds nodes at places _ _ _ (dropping op a n w s is t amount most) built = (has_nets kinds nodes at places a _ _ t (and_parts (is_built_expression a) true built).0, tt)
has_nets kinds nodes at places _ _ _ (logic op a b w v s r is t u) built =
    let both = and_parts (is_built_expression a) (is_built_expression b) built in
    (has_nets kinds nodes at places a _ _ t both.0, has_nets kinds nodes at places b _ _ u both.1)
has_nets kinds nodes at places _ _ _ (slice a high low w s t least most) built = has_nets kinds nodes at places a _ _ t built
has_nets kinds nodes at places _ _ _ (choice c a b v w r s t u x) built =
    let all = and_parts (is_built_expression c) (is_built_expression a && is_built_expression b) built in
    let both = and_parts (is_built_expression a) (is_built_expression b) all.1 in
    (has_nets kinds nodes at places c _ _ t all.0, (has_nets kinds nodes at places a _ _ u both.0, has_nets kinds nodes at places b _ _ x both.1))

pub reads_all : {P : ℕ → Type 0} {kinds : List Kind} {at : ObjectNets} → AreAll P kinds at → (e : Expression) (w : ℕ) (s : Bool) → Typed kinds e w s → is_built_expression e ≡ true → All P (read_nets at e)
reads_all {P} all _ _ _ (constant n is) built = All-nil P
reads_all {P} all _ _ _ (register k w s init is) built = all.register k w s init is
reads_all {P} all _ _ _ (signal k w s unset is) built = absurd cc
reads_all {P} all _ _ _ (input k w s pins is) built = all.input k w s pins is
reads_all {P} {at = at} all _ _ _ (element k w n s init i is t) built = All-append P (nets_of at k) (read_nets at i) (all.array k w n s init is) (reads_all all i _ _ t built)
reads_all {P} all _ _ _ (ram_word k w n s init i is t) built = absurd cc
reads_all {P} all _ _ _ (rom_word k w n s init i is t) built = absurd cc
reads_all {P} all _ _ _ (negative a w s t) built = reads_all all a _ _ t built
reads_all {P} all _ _ _ (complement a w s t) built = reads_all all a _ _ t built
reads_all {P} all _ _ _ (is_zero a w s t) built = reads_all all a _ _ t built
reads_all {P} all _ _ _ (to_signed a w s t) built = reads_all all a _ _ t built
reads_all {P} all _ _ _ (to_unsigned a w s t) built = reads_all all a _ _ t built
reads_all {P} {at = at} all _ _ _ (arithmetic op a b w s is t u) built =
    let both = and_parts (is_built_expression a) (is_built_expression b) built in
    All-append P (read_nets at a) (read_nets at b) (reads_all all a _ _ t both.0) (reads_all all b _ _ u both.1)
reads_all {P} {at = at} all _ _ _ (division op a b w is t u) built =
    let both = and_parts (is_built_expression a) (is_built_expression b) built in
    All-append P (read_nets at a) (read_nets at b) (reads_all all a _ _ t both.0) (reads_all all b _ _ u both.1)
reads_all {P} {at = at} all _ _ _ (bitwise op a b w s is t u) built =
    let both = and_parts (is_built_expression a) (is_built_expression b) built in
    All-append P (read_nets at a) (read_nets at b) (reads_all all a _ _ t both.0) (reads_all all b _ _ u both.1)
reads_all {P} {at = at} all _ _ _ (comparison op a b w s is t u) built =
    let both = and_parts (is_built_expression a) (is_built_expression b) built in
    All-append P (read_nets at a) (read_nets at b) (reads_all all a _ _ t both.0) (reads_all all b _ _ u both.1)
reads_all {P} {at = at} all _ _ _ (shift op a b w v s is t u) built =
    let both = and_parts (is_built_expression a) (is_built_expression b) built in
    All-append P (read_nets at a) (read_nets at b) (reads_all all a _ _ t both.0) (reads_all all b _ _ u both.1)
reads_all {P} {at = at} all _ _ _ (joining op a b w v s r is t u most) built =
    let both = and_parts (is_built_expression a) (is_built_expression b) built in
    All-append P (read_nets at a) (read_nets at b) (reads_all all a _ _ t both.0) (reads_all all b _ _ u both.1)
reads_all {P} {at = at} all _ _ _ (taking op a n w s is t amount least most) built =
    let both = and_parts (is_built_expression a) true built in
    All-append P (read_nets at a) [] (reads_all all a _ _ t both.0) (All-nil P)
reads_all {P} {at = at} all _ _ _ (dropping op a n w s is t amount most) built =
    let both = and_parts (is_built_expression a) true built in
    All-append P (read_nets at a) [] (reads_all all a _ _ t both.0) (All-nil P)
reads_all {P} {at = at} all _ _ _ (logic op a b w v s r is t u) built =
    let both = and_parts (is_built_expression a) (is_built_expression b) built in
    All-append P (read_nets at a) (read_nets at b) (reads_all all a _ _ t both.0) (reads_all all b _ _ u both.1)
reads_all {P} all _ _ _ (slice a high low w s t least most) built = reads_all all a _ _ t built
reads_all {P} {at = at} all _ _ _ (choice c a b v w r s t u x) built =
    let first = and_parts (is_built_expression c) (is_built_expression a && is_built_expression b) built in
    let sides = and_parts (is_built_expression a) (is_built_expression b) first.1 in
    All-append P (read_nets at c) (read_nets at a ++ read_nets at b) (reads_all all c _ _ t first.0)
    (All-append P (read_nets at a) (read_nets at b) (reads_all all a _ _ u sides.0) (reads_all all b _ _ x sides.1))

-- ---- what it reads from them

-- element 0 of the nets of one number is all of them
pub element_whole : (w : ℕ) (nets : List ℕ) → length nets ≡ w → element_nets w nets 0 ≡ nets
element_whole w nets size = ap (λ k. take w (drop k nets)) (let e : 0 * w ≡ 0 = omega arith in e) ∙ take_all w nets (omega (arith, size))

-- an element outside has no nets
pub element_outside : (n w j : ℕ) (nets : List ℕ) → length nets ≡ n * w → n ≤ j → element_nets w nets j ≡ []
element_outside n w j nets size high =
    let rows : n * w ≤ j * w = mul-le n w j w high (omega arith) in
    let none : drop (j * w) nets ≡ [] = drop_all (j * w) nets (omega (arith, size, rows)) in
    take_all w (drop (j * w) nets) (omega (arith, ap length none)) ∙ none

-- the nets of a register
pub register_read : (w : World) (at : ObjectNets) (v : ℕ → Bool) → IsRead w at v → (k m : ℕ) (s : Bool) (init : Number) → slice_get w.kinds k ≡ Some (kind.Reg m s init)
    → number (map v (nets_of at k)) ≡ slice_index_or (words w.store k) 0 0
register_read w at v read k m s init is =
    let width : kind_width (slice_get w.kinds k) ≡ m = ap kind_width is in
    let one : register_cells (slice_get w.kinds k) ≡ 1 = ap register_cells is in
    let whole : element_nets (kind_width (slice_get w.kinds k)) (nets_of at k) 0 ≡ nets_of at k = element_whole (kind_width (slice_get w.kinds k)) (nets_of at k) (read.count k (kind.Reg m s init) is ∙ sym width) in
    ap (λ l. number (map v l)) (sym whole) ∙ read.words_are k 0 (omega (arith, one))

-- each element of an array, those outside with them
pub element_read : (w : World) (at : ObjectNets) (v : ℕ → Bool) → IsRead w at v → (k m n : ℕ) (s : Bool) (init : List Number) → slice_get w.kinds k ≡ Some (kind.Array m s n init)
    → (j : ℕ) → number (map v (element_nets (kind_width (slice_get w.kinds k)) (nets_of at k) j)) ≡ slice_index_or (words w.store k) j 0
element_read w at v read k m n s init is j = elim (cases_lt j n) [
  | inl low ↦ let many : register_cells (slice_get w.kinds k) ≡ n = ap register_cells is in read.words_are k j (omega (arith, many, low))
  | inr high ↦
      let width : kind_width (slice_get w.kinds k) ≡ m = ap kind_width is in
      let none : element_nets (kind_width (slice_get w.kinds k)) (nets_of at k) j ≡ [] =
      element_outside n (kind_width (slice_get w.kinds k)) j (nets_of at k) (read.count k (kind.Array m s n init) is ∙ ap (λ x. n * x) (sym width)) high in
      let size = read.size k m n s init is in
      ap (λ l. number (map v l)) none ∙ sym (get_or_past (words w.store k) j 0 (omega (arith, size, high)))
]

not_built : {A : Type 0} → false ≡ true → A
not_built h = absurd cc

-- by the type of the expression
pub reads : (w : World) (at : ObjectNets) (v : ℕ → Bool) → IsRead w at v → (e : Expression) (m : ℕ) (s : Bool) → Typed w.kinds e m s → is_built_expression e ≡ true → Reads w at v e
reads w at v read _ _ _ (constant n is) built = tt
reads w at v read _ _ _ (register k m s init is) built = register_read w at v read k m s init is
reads w at v read _ _ _ (signal k m s unset is) built = not_built built
reads w at v read _ _ _ (input k m s pins is) built = read.inputs_are k m s pins is
reads w at v read _ _ _ (element k m n s init i is t) built = (element_read w at v read k m n s init is, reads w at v read i (index_width n) false t built)
reads w at v read _ _ _ (ram_word k m n s init i is t) built = not_built built
reads w at v read _ _ _ (rom_word k m n s init i is t) built = not_built built
reads w at v read _ _ _ (negative a m s t) built = reads w at v read a m s t built
reads w at v read _ _ _ (complement a m s t) built = reads w at v read a m s t built
reads w at v read _ _ _ (is_zero a m s t) built = reads w at v read a m s t built
reads w at v read _ _ _ (to_signed a m s t) built = reads w at v read a m s t built
reads w at v read _ _ _ (to_unsigned a m s t) built = reads w at v read a m s t built
reads w at v read _ _ _ (arithmetic op a b m s is t u) built =
    let both = and_parts (is_built_expression a) (is_built_expression b) built in (reads w at v read a m s t both.0, reads w at v read b m s u both.1)
reads w at v read _ _ _ (division op a b m is t u) built =
    let both = and_parts (is_built_expression a) (is_built_expression b) built in (reads w at v read a m false t both.0, reads w at v read b m false u both.1)
reads w at v read _ _ _ (bitwise op a b m s is t u) built =
    let both = and_parts (is_built_expression a) (is_built_expression b) built in (reads w at v read a m s t both.0, reads w at v read b m s u both.1)
reads w at v read _ _ _ (comparison op a b m s is t u) built =
    let both = and_parts (is_built_expression a) (is_built_expression b) built in (reads w at v read a m s t both.0, reads w at v read b m s u both.1)
reads w at v read _ _ _ (shift op a b m n s is t u) built =
    let both = and_parts (is_built_expression a) (is_built_expression b) built in (reads w at v read a m s t both.0, reads w at v read b n false u both.1)
reads w at v read _ _ _ (joining op a b m n s r is t u most) built =
    let both = and_parts (is_built_expression a) (is_built_expression b) built in (reads w at v read a m s t both.0, reads w at v read b n r u both.1)
reads w at v read _ _ _ (taking op a n m s is t amount least most) built =
    (reads w at v read a m s t (and_parts (is_built_expression a) (is_built_expression (Constant n)) built).0, tt)
reads w at v read _ _ _ (dropping op a n m s is t amount most) built =
    (reads w at v read a m s t (and_parts (is_built_expression a) (is_built_expression (Constant n)) built).0, tt)
reads w at v read _ _ _ (logic op a b m n s r is t u) built =
    let both = and_parts (is_built_expression a) (is_built_expression b) built in (reads w at v read a m s t both.0, reads w at v read b n r u both.1)
reads w at v read _ _ _ (slice a high low m s t least most) built = reads w at v read a m s t built
reads w at v read _ _ _ (choice c a b m n s r x t u) built =
    let all = and_parts (is_built_expression c) (is_built_expression a && is_built_expression b) built in
    let both = and_parts (is_built_expression a) (is_built_expression b) all.1 in
    (reads w at v read c m s x all.0, (reads w at v read a n r t both.0, reads w at v read b n r u both.1))

-- nets that hold an expression have its number
pub number_held : (w : World) (at : ObjectNets) (v : ℕ → Bool) → IsRead w at v → v at.zero ≡ false → v at.one ≡ true → (e : Expression) (m : ℕ) (s : Bool) → Typed w.kinds e m s → is_built_expression e ≡ true
    → (nets : List ℕ) → Holds w.kinds at e nets v → number (map v nets) ≡ (number_of w e).bits
number_held w at v read low high e m s typed built nets holds = ap (λ n. n.bits) (holds w refl low high (reads w at v read e m s typed built))
