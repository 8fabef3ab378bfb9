-- What is written to a store.
use Rattle.std.proofs.Common.{◌≡◌, ◌≢◌, ◌<◌, ℕ, zero, suc, List, [], ◌∷◌, length, Some, refl, ap, sym, ◌∙◌, subst, inl, inr, arith, get_or-set_same, get_or-set_other, length-set}
use Rattle.std.specs.Prelude.{◌⊎◌, slice_get, slice_set, slice_index_or}
use Rattle.std.proofs.lemmas.Bool.{cases_lt}
use Rattle.std.proofs.lemmas.Bool.Decides.{eqb_tells}
use Rattle.std.proofs.lemmas.List.{get_or_past, length-map}
use Rattle.hc_core.specs.declared.object.Kind.{Kind}
use Rattle.hc_meaning.specs.Value.{Store, words, with_word, first_words, initial}
use Rattle.hc_meaning.specs.Clock.{Write, after}

-- ---- the shape of a store

-- two stores with as many numbers of each object
pub record SameShape (a b : Store) : Type 0 where
  pub size : length a ≡ length b
  pub each : (k : ℕ) → length (words a k) ≡ length (words b k)

pub shape_self : (a : Store) → SameShape a a
shape_self a = record { size = refl; each = λ k. refl }

pub shape_then : (a b c : Store) → SameShape a b → SameShape b c → SameShape a c
shape_then a b c p q = record { size = p.size ∙ q.size; each = λ k. p.each k ∙ q.each k }

shape_written : (store : Store) (k i bits : ℕ) → SameShape (with_word store k i bits) store
shape_written store k i bits = record { size = length-set store k word; each = each }
  where
    word : List ℕ
    word = slice_set (words store k) i bits

    own : length (words (with_word store k i bits) k) ≡ length (words store k)
    own = elim (cases_lt k (length store)) [
      | inl low ↦ ap length (get_or-set_same store k (slice_set (words store k) i bits) [] low) ∙ length-set (words store k) i bits
      | inr high ↦
          let size = length-set store k (slice_set (words store k) i bits) in
          ap length (get_or_past (with_word store k i bits) k [] (omega (arith, high, size)) ∙ sym (get_or_past store k [] high))
    ]

    each : (j : ℕ) → length (words (with_word store k i bits) j) ≡ length (words store j)
    each j = elim (eqb_tells j k) [
      | inl alike ↦ subst (λ n. length (words (with_word store k i bits) n) ≡ length (words store n)) (sym alike.1) own
      | inr apart ↦ ap length (get_or-set_other store k j (slice_set (words store k) i bits) [] apart.1)
    ]

pub shape_after : (writes : List Write) (store : Store) → SameShape (after writes store) store
shape_after [] store = shape_self store
shape_after (x ∷ rest) store =
    shape_then (after rest (with_word store x.object x.index x.bits)) (with_word store x.object x.index x.bits) store
    (shape_after rest (with_word store x.object x.index x.bits)) (shape_written store x.object x.index x.bits)

-- ---- one element

-- an element that is there
pub record IsInside (store : Store) (k e : ℕ) : Type 0 where
  pub object : k < length store
  pub element : e < length (words store k)

pub inside_written : (store : Store) (x : Write) (k e : ℕ) → IsInside store k e → IsInside (with_word store x.object x.index x.bits) k e
inside_written store x k e inside =
    let same = shape_written store x.object x.index x.bits in
    let object = inside.object in
    let element = inside.element in
    let size = same.size in
    let each = same.each k in
    record { object = omega (arith, object, size); element = omega (arith, element, each) }

-- the write is to another object, or to another element
abbrev pub IsElsewhere : ℕ → ℕ → Write → Type 0
IsElsewhere k e x = (x.object ≢ k) ⊎ (x.index ≢ e)

-- an object that isn't written stays as it is
other_word : (store : Store) (j k i bits : ℕ) → j ≢ k → words (with_word store j i bits) k ≡ words store k
other_word store j k i bits apart = get_or-set_other store j k (slice_set (words store j) i bits) [] (λ e. apart (sym e))

-- what is written of an object that is there
own_word : (store : Store) (k i bits : ℕ) → k < length store → words (with_word store k i bits) k ≡ slice_set (words store k) i bits
own_word store k i bits inside = get_or-set_same store k (slice_set (words store k) i bits) [] inside

beside : (store : Store) (k e i bits : ℕ) → k < length store → i ≢ e → slice_index_or (words (with_word store k i bits) k) e 0 ≡ slice_index_or (words store k) e 0
beside store k e i bits inside apart = ap (λ l. slice_index_or l e 0) (own_word store k i bits inside) ∙ get_or-set_other (words store k) i e bits 0 (λ same. apart (sym same))

pub kept_word : (store : Store) (x : Write) (k e : ℕ) → IsInside store k e → IsElsewhere k e x
    → slice_index_or (words (with_word store x.object x.index x.bits) k) e 0 ≡ slice_index_or (words store k) e 0
kept_word store x k e inside (inl apart) = ap (λ l. slice_index_or l e 0) (other_word store x.object k x.index x.bits apart)
kept_word store x k e inside (inr apart) = elim (eqb_tells x.object k) [
  | inl alike ↦
      subst (λ j. slice_index_or (words (with_word store j x.index x.bits) k) e 0 ≡ slice_index_or (words store k) e 0) (sym alike.1)
      (beside store k e x.index x.bits inside.object apart)
  | inr other ↦ ap (λ l. slice_index_or l e 0) (other_word store x.object k x.index x.bits other.1)
]

written : (store : Store) (k e bits : ℕ) → IsInside store k e → slice_index_or (words (with_word store k e bits) k) e 0 ≡ bits
written store k e bits inside = ap (λ l. slice_index_or l e 0) (own_word store k e bits inside.object) ∙ get_or-set_same (words store k) e bits 0 inside.element

pub written_word : (store : Store) (x : Write) (k e : ℕ) → IsInside store k e → x.object ≡ k → x.index ≡ e
    → slice_index_or (words (with_word store x.object x.index x.bits) k) e 0 ≡ x.bits
written_word store x k e inside object index =
    ap (λ j. slice_index_or (words (with_word store j x.index x.bits) k) e 0) object ∙ ap (λ i. slice_index_or (words (with_word store k i x.bits) k) e 0) index
    ∙ written store k e x.bits inside

-- ---- what objects hold at the start

pub initial_words : (kinds : List Kind) (k : ℕ) (kind : Kind) → slice_get kinds k ≡ Some kind → words (initial kinds) k ≡ first_words kind
initial_words [] k kind is = absurd cc
initial_words (x ∷ kinds) zero kind is = ap first_words (let e : x ≡ kind = cc in e)
initial_words (x ∷ kinds) (suc k) kind is = initial_words kinds k kind is

pub initial_size : (kinds : List Kind) → length (initial kinds) ≡ length kinds
initial_size kinds = length-map kinds first_words
