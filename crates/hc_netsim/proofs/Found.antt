-- The word of an object, and what stands at a place of a list.
use Rattle.std.proofs.Common.{◌≡◌, ◌<◌, ◌≤◌, ℕ, zero, suc, ◌+◌, List, [], ◌∷◌, Bool, Option, Some, None, refl, ap, sym, ◌∙◌, subst, inl, inr, arith}
use Rattle.std.specs.Prelude.{map, slice_get, ◌≢◌, ◌↔◌, IfSome, IsNone}
use Rattle.std.specs.List.{range_with_len}
use Rattle.std.proofs.lemmas.Bool.{cases_lt}
use Rattle.hc_net.specs.Bits.{number}
use Rattle.hc_net.specs.Ram.{word_bit}
use Rattle.hc_net.specs.declared.ram.RamCell.{RamCell}
use Rattle.hc_netsim.specs.Held.{Held}
use Rattle.hc_netsim.specs.Running.{state_of, HoldsWord}

pub get_map : {X Y : Type 0} (f : X → Y) (xs : List X) (k : ℕ) (x : X) → slice_get xs k ≡ Some x → slice_get (map f xs) k ≡ Some (f x)
get_map f [] k x there = absurd cc
get_map f (y ∷ xs) zero x there = let same : y ≡ x = cc in ap (λ z. Some (f z)) same
get_map f (y ∷ xs) (suc k) x there = get_map f xs k x there

pub get_mapped : {X Y : Type 0} (f : X → Y) (xs : List X) (k : ℕ) (y : Y) → slice_get (map f xs) k ≡ Some y → (x : X) × (slice_get xs k ≡ Some x) × (f x ≡ y)
get_mapped f [] k y there = absurd cc
get_mapped f (x ∷ xs) zero y there = (x, refl, cc)
get_mapped f (x ∷ xs) (suc k) y there = get_mapped f xs k y there

some_alike : {X : Type 0} {x y : X} → Some x ≡ Some y → x ≡ y
some_alike e = cc

-- none before this place, and not this one
pub none_more : {X : Type 0} (P : X → Type 0) (xs : List X) (k : ℕ) (x : X) → ((j : ℕ) (y : X) → j < k → slice_get xs j ≡ Some y → P y) → slice_get xs k ≡ Some x → P x → (j : ℕ) (y : X) → j < k + 1 → slice_get xs j ≡ Some y → P y
none_more P xs k x before at here j y within there = elim (cases_lt j k) [
  | inl low ↦ before j y low there
  | inr high ↦ let place : j ≡ k = omega arith in let same : x ≡ y = let e = ap (slice_get xs) place in some_alike (sym at ∙ sym e ∙ there) in subst P same here
]

-- no two RAMs have one object
abbrev pub NamesDiffer : List RamCell → Type 0
NamesDiffer rams = (i j : ℕ) (r s : RamCell) → i < j → slice_get rams i ≡ Some r → slice_get rams j ≡ Some s → r.object ≢ s.object

same_place : (rams : List RamCell) (j k : ℕ) (r s : RamCell) → NamesDiffer rams → slice_get rams j ≡ Some r → slice_get rams k ≡ Some s → r.object ≡ s.object → j ≡ k
same_place rams j k r s differ one two same = elim (cases_lt j k) [
  | inl low ↦ absurd (differ j k r s low one two same)
  | inr high ↦ elim (cases_lt k j) [
    | inl low ↦ absurd (differ k j s r low two one (sym same))
    | inr low ↦ omega arith
  ]
]

module _ (rams : List RamCell) (bits : List Bool) (memories : List Held) (object index k : ℕ) (m : Held)
    (differ : NamesDiffer rams) (are : map (λ m. m.ram) memories ≡ rams) (at : slice_get memories k ≡ Some m) (named : m.ram.object ≡ object) where
  ram_there : slice_get rams k ≡ Some m.ram
  ram_there = sym (ap (λ l. slice_get l k) are) ∙ get_map (λ m. m.ram) memories k m at

  pub found_word : (n : ℕ) → index < m.ram.words → n ≡ number (map (word_bit m.bits m.ram.width index) (range_with_len 0 m.ram.width)) → HoldsWord rams (state_of bits memories) object index n
  found_word n inside word = record {
    ram = m.ram;
    bits = m.bits;
    holds = record {
      at = k;
      there = ram_there;
      only = λ j r there same. same_place rams j k r m.ram differ there ram_there same;
      holds = get_map (λ m. m.bits) memories k m at;
    };
    named = named;
    inside = inside;
    word = word;
  }

  pub some_word : (o : Option ℕ) → IfSome o (λ n. n ≡ number (map (word_bit m.bits m.ram.width index) (range_with_len 0 m.ram.width))) → (IsNone o ↔ (m.ram.words ≤ index)) → IfSome o (HoldsWord rams (state_of bits memories) object index)
  some_word None is none = is
  some_word (Some n) is none = found_word n (elim (cases_lt index m.ram.words) [ inl low ↦ low | inr high ↦ let e = none.1 high in absurd cc ]) is

  pub no_word : (o : Option ℕ) → (IsNone o ↔ (m.ram.words ≤ index)) → (IsNone o ↔ ((j : ℕ) (r : RamCell) → slice_get rams j ≡ Some r → r.object ≡ object → r.words ≤ index))
  no_word o none = (
    λ e j r there same.
        let here : j ≡ k = same_place rams j k r m.ram differ there ram_there (same ∙ sym named) in
        let one : r ≡ m.ram = some_alike (sym there ∙ ap (slice_get rams) here ∙ ram_there) in
        subst (λ (x : RamCell). x.words ≤ index) (sym one) (none.0 e),
    λ past. none.1 (past k m.ram ram_there named),
  )

-- where no RAM has the object
pub nothing_named : (rams : List RamCell) (memories : List Held) (object index : ℕ) → map (λ m. m.ram) memories ≡ rams → ((j : ℕ) (m : Held) → slice_get memories j ≡ Some m → m.ram.object ≢ object)
    → (j : ℕ) (r : RamCell) → slice_get rams j ≡ Some r → r.object ≡ object → r.words ≤ index
nothing_named rams memories object index are none j r there same =
    let m = get_mapped (λ (m : Held). m.ram) memories j r (ap (λ l. slice_get l j) are ∙ there) in
    absurd (none j m.0 m.1 (ap (λ (x : RamCell). x.object) m.2 ∙ same))
