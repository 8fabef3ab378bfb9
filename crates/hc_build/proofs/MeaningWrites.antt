-- The writes of an element among actions: in a clean clock at most one of those that are on is to the element, and it is what
-- the element takes.
use Rattle.std.proofs.Common.{◌≡◌, ◌≢◌, ◌<◌, ℕ, zero, suc, ◌+◌, List, [], ◌∷◌, ◌++◌, Bool, true, false, ◌&&◌, Some, if◌then◌else◌, refl, ap, sym, ◌∙◌, subst, inl, inr, arith}
use Rattle.std.specs.Prelude.{◌⊎◌, ◌==◌, nat_lt, slice_get, slice_index_or, AllPairs, All}
use Rattle.std.proofs.lemmas.Bool.Decides.{eqb_tells}
use Rattle.std.proofs.lemmas.Option.{same_Some, slice_get_within, get_or_from_slice_get}
use Rattle.hc_core.specs.Program.{Expression, Target, ToRegister, ToElement, ToWord, ToSignal}
use Rattle.hc_core.specs.declared.object.Kind.{Kind}
use Rattle.hc_meaning.specs.Residual.{Action, Assign, Delay, Send, Receive}
use Rattle.hc_meaning.specs.Value.{Store, World, words, with_word, number_of}
use Rattle.hc_meaning.specs.Clock.{Write as Change, after, register_cells, cells_written}
use Rattle.hc_control.specs.Uses.{Write, object_of, write_of, writes_from, IsBuiltAction}
use Rattle.hc_build.proofs.MeaningStores.{IsInside, IsElsewhere, inside_written, kept_word, written_word}
use Rattle.hc_build.proofs.MeaningFront.{wrote, wrote_from}

-- ---- the writes of an object

-- what an action writes of an object is nothing or one write
abbrev WritesOne : ℕ → ℕ → Action → Type 0
WritesOne k n a = (write_of k n a ≡ [])
    ⊎ ((t : Target) × (e : Expression) × (a ≡ Assign t e) × (object_of t ≡ k) × (write_of k n a ≡ record { action = n; target = t; value = e } ∷ []))

writes_one : (k n : ℕ) (a : Action) → WritesOne k n a
writes_one k n (Assign t e) = elim (eqb_tells (object_of t) k) [
  | inl alike ↦ inr (t, e, refl, alike.1, ap (λ b. if b then record { action = n; target = t; value = e } ∷ [] else []) alike.0)
  | inr apart ↦ inl (ap (λ b. if b then record { action = n; target = t; value = e } ∷ [] else []) apart.0)
]
writes_one k n Delay = inl refl
writes_one k n (Send chan e) = inl refl
writes_one k n (Receive chan t) = inl refl

-- A write of the object that is of built forms.
pub record IsBuiltWrite (kinds : List Kind) (k : ℕ) (x : Write) : Type 0 where
  pub object : object_of x.target ≡ k
  pub built : IsBuiltAction kinds (Assign x.target x.value)

built_first : (kinds : List Kind) (k : ℕ) (first : Write) (writes : List Write) → IsBuiltWrite kinds k first → ((i : ℕ) (x : Write) → slice_get writes i ≡ Some x → IsBuiltWrite kinds k x)
    → (i : ℕ) (x : Write) → slice_get (first ∷ writes) i ≡ Some x → IsBuiltWrite kinds k x
built_first kinds k first writes is behind zero x at = subst (IsBuiltWrite kinds k) (same_Some first x at) is
built_first kinds k first writes is behind (suc i) x at = behind i x at

built_more : (kinds : List Kind) (k n : ℕ) (a : Action) (writes : List Write) → IsBuiltAction kinds a → ((i : ℕ) (x : Write) → slice_get writes i ≡ Some x → IsBuiltWrite kinds k x)
    → (i : ℕ) (x : Write) → slice_get (write_of k n a ++ writes) i ≡ Some x → IsBuiltWrite kinds k x
built_more kinds k n a writes built behind i x at = elim (writes_one k n a) [
  | inl none ↦ behind i x (subst (λ l. slice_get (l ++ writes) i ≡ Some x) none at)
  | inr one ↦
      built_first kinds k (record { action = n; target = one.0; value = one.1 }) writes (record { object = one.3; built = subst (IsBuiltAction kinds) one.2 built }) behind i x
      (subst (λ l. slice_get (l ++ writes) i ≡ Some x) one.4 at)
]

pub built_writes : (kinds : List Kind) (k n : ℕ) (actions : List Action) → All (IsBuiltAction kinds) actions → (i : ℕ) (x : Write) → slice_get (writes_from k n actions) i ≡ Some x
    → IsBuiltWrite kinds k x
built_writes kinds k n [] all i x at = absurd cc
built_writes kinds k n (a ∷ rest) all i x at =
    built_more kinds k n a (writes_from k (n + 1) rest) (all 0 Delay (omega arith)) (built_writes kinds k (n + 1) rest (λ j d low. all (suc j) d (omega (arith, low)))) i x at

-- ---- which of them are on

-- whether a target is an element of its object by its number, a register being its own element 0
abbrev pub hits : World → ℕ → Target → Bool
hits w e (ToRegister k) = 0 == e
hits w e (ToElement k i) = (number_of w i).bits == e
hits w e (ToWord k i) = (number_of w i).bits == e
hits w e (ToSignal k) = false

-- whether a write is on, and to this element
abbrev pub is_on : World → (ℕ → Bool) → ℕ → Write → Bool
is_on w on e x = on x.action && hits w e x.target

-- No write is, and the element stays as it is.
pub record NoneOn (w : World) (on : ℕ → Bool) (k e : ℕ) (changes : List Change) (writes : List Write) : Type 0 where
  pub off : (i : ℕ) (x : Write) → slice_get writes i ≡ Some x → is_on w on e x ≡ false
  pub stays : (store : Store) → IsInside store k e → slice_index_or (words (after changes store) k) e 0 ≡ slice_index_or (words store k) e 0

-- One write is, and the element takes its value.
pub record OneOn (w : World) (on : ℕ → Bool) (k e : ℕ) (changes : List Change) (writes : List Write) : Type 0 where
  pub index : ℕ
  pub write : Write
  pub there : slice_get writes index ≡ Some write
  pub is : is_on w on e write ≡ true
  pub only : (i : ℕ) (x : Write) → slice_get writes i ≡ Some x → is_on w on e x ≡ true → i ≡ index
  pub takes : (store : Store) → IsInside store k e → slice_index_or (words (after changes store) k) e 0 ≡ (number_of w write.value).bits
  pub place : ℕ
  pub placed : slice_get (cells_written w.kinds changes) place ≡ Some (k, e)

abbrev pub Outcome : World → (ℕ → Bool) → ℕ → ℕ → List Change → List Write → Type 0
Outcome w on k e changes writes = NoneOn w on k e changes writes ⊎ OneOn w on k e changes writes

-- ---- one change more, or one write more

-- the places of one change more
place_behind : (kinds : List Kind) (x : Change) (changes : List Change) (p : ℕ × ℕ) (i : ℕ) → slice_get (cells_written kinds changes) i ≡ Some p
    → (j : ℕ) × (slice_get (cells_written kinds (x ∷ changes)) j ≡ Some p)
place_behind kinds x changes p i at = by (nat_lt x.index (register_cells (slice_get kinds x.object)))
  where
    by : (b : Bool) → (j : ℕ) × (slice_get (if b then (x.object, x.index) ∷ cells_written kinds changes else cells_written kinds changes) j ≡ Some p)
    by true = (suc i, at)
    by false = (i, at)

pairs_behind : (kinds : List Kind) (x : Change) (changes : List Change) → AllPairs ◌≢◌ (cells_written kinds (x ∷ changes)) → AllPairs ◌≢◌ (cells_written kinds changes)
pairs_behind kinds x changes pairs = by (nat_lt x.index (register_cells (slice_get kinds x.object))) pairs
  where
    by : (b : Bool) → AllPairs ◌≢◌ (if b then (x.object, x.index) ∷ cells_written kinds changes else cells_written kinds changes) → AllPairs ◌≢◌ (cells_written kinds changes)
    by true all = λ i j d below inside. all (suc i) (suc j) d (omega (arith, below)) (omega (arith, inside))
    by false all = all

-- a change elsewhere
change_elsewhere : (w : World) (on : ℕ → Bool) (k e : ℕ) (x : Change) (changes : List Change) (writes : List Write) → IsElsewhere k e x → Outcome w on k e changes writes
    → Outcome w on k e (x ∷ changes) writes
change_elsewhere w on k e x changes writes apart (inl none) = inl (record {
  off = none.off;
  stays = λ store inside. none.stays (with_word store x.object x.index x.bits) (inside_written store x k e inside) ∙ kept_word store x k e inside apart;
})
change_elsewhere w on k e x changes writes apart (inr one) =
    let place = place_behind w.kinds x changes (k, e) one.place one.placed in
    inr (record {
      index = one.index;
      write = one.write;
      there = one.there;
      is = one.is;
      only = one.only;
      takes = λ store inside. one.takes (with_word store x.object x.index x.bits) (inside_written store x k e inside);
      place = place.0;
      placed = place.1;
    })

-- what is known of the first and of the others
off_first : (w : World) (on : ℕ → Bool) (e : ℕ) (first : Write) (writes : List Write) → is_on w on e first ≡ false
    → ((i : ℕ) (x : Write) → slice_get writes i ≡ Some x → is_on w on e x ≡ false) → (i : ℕ) (x : Write) → slice_get (first ∷ writes) i ≡ Some x → is_on w on e x ≡ false
off_first w on e first writes off behind zero x at = subst (λ y. is_on w on e y ≡ false) (same_Some first x at) off
off_first w on e first writes off behind (suc i) x at = behind i x at

on_and_off : {A : Type 0} (b : Bool) → b ≡ true → b ≡ false → A
on_and_off true p q = absurd cc
on_and_off false p q = absurd cc

only_behind : (w : World) (on : ℕ → Bool) (e : ℕ) (first : Write) (writes : List Write) (index : ℕ) → is_on w on e first ≡ false
    → ((i : ℕ) (x : Write) → slice_get writes i ≡ Some x → is_on w on e x ≡ true → i ≡ index)
    → (i : ℕ) (x : Write) → slice_get (first ∷ writes) i ≡ Some x → is_on w on e x ≡ true → i ≡ suc index
only_behind w on e first writes index off behind zero x at is = on_and_off (is_on w on e x) is (subst (λ y. is_on w on e y ≡ false) (same_Some first x at) off)
only_behind w on e first writes index off behind (suc i) x at is = ap suc (behind i x at is)

only_first : (w : World) (on : ℕ → Bool) (e : ℕ) (first : Write) (writes : List Write) → ((i : ℕ) (x : Write) → slice_get writes i ≡ Some x → is_on w on e x ≡ false)
    → (i : ℕ) (x : Write) → slice_get (first ∷ writes) i ≡ Some x → is_on w on e x ≡ true → i ≡ 0
only_first w on e first writes off zero x at is = refl
only_first w on e first writes off (suc i) x at is = on_and_off (is_on w on e x) is (off i x at)

-- a write that is off
write_off : (w : World) (on : ℕ → Bool) (k e : ℕ) (x : Write) (changes : List Change) (writes : List Write) → is_on w on e x ≡ false → Outcome w on k e changes writes
    → Outcome w on k e changes (x ∷ writes)
write_off w on k e x changes writes off (inl none) = inl (record { off = off_first w on e x writes off none.off; stays = none.stays })
write_off w on k e x changes writes off (inr one) = inr (record {
  index = suc one.index;
  write = one.write;
  there = one.there;
  is = one.is;
  only = only_behind w on e x writes one.index off one.only;
  takes = one.takes;
  place = one.place;
  placed = one.placed;
})

-- what is written is inside
below_owned : (i n : ℕ) → i < n → nat_lt i n ≡ true
below_owned i n low = grind (arith)

place_first : (kinds : List Kind) (k e : ℕ) (x : Change) (changes : List Change) → x.object ≡ k → x.index ≡ e → e < register_cells (slice_get kinds k)
    → cells_written kinds (x ∷ changes) ≡ (k, e) ∷ cells_written kinds changes
place_first kinds k e x changes object index low =
    let owned : nat_lt x.index (register_cells (slice_get kinds x.object)) ≡ true =
    ap (λ i. nat_lt i (register_cells (slice_get kinds x.object))) index ∙ ap (λ j. nat_lt e (register_cells (slice_get kinds j))) object ∙ below_owned e (register_cells (slice_get kinds k)) low in
    ap (λ b. if b then (x.object, x.index) ∷ cells_written kinds changes else cells_written kinds changes) owned
    ∙ ap (λ j. (j, x.index) ∷ cells_written kinds changes) object ∙ ap (λ i. (k, i) ∷ cells_written kinds changes) index

-- a write that is on: those behind it are off, since nothing is written twice
twice : (p : ℕ × ℕ) (list : List (ℕ × ℕ)) (i : ℕ) → AllPairs ◌≢◌ (p ∷ list) → slice_get list i ≡ Some p → ⊥
twice p list i pairs at =
    let low = slice_get_within list i p at in
    pairs 0 (suc i) p (omega arith) (omega (arith, low)) (sym (get_or_from_slice_get list i p p at))

write_on : (w : World) (on : ℕ → Bool) (k e : ℕ) (c : Change) (x : Write) (changes : List Change) (writes : List Write) → e < register_cells (slice_get w.kinds k)
    → AllPairs ◌≢◌ (cells_written w.kinds (c ∷ changes)) → c.object ≡ k → c.index ≡ e → c.bits ≡ (number_of w x.value).bits → is_on w on e x ≡ true → Outcome w on k e changes writes
    → Outcome w on k e (c ∷ changes) (x ∷ writes)
write_on w on k e c x changes writes low pairs object index bits is (inl none) = inr (record {
  index = 0;
  write = x;
  there = refl;
  is = is;
  only = only_first w on e x writes none.off;
  takes = λ store inside. none.stays (with_word store c.object c.index c.bits) (inside_written store c k e inside) ∙ written_word store c k e inside object index ∙ bits;
  place = 0;
  placed = ap (λ l. slice_get l 0) (place_first w.kinds k e c changes object index low);
})
write_on w on k e c x changes writes low pairs object index bits is (inr one) =
    absurd (twice (k, e) (cells_written w.kinds changes) one.place (subst (AllPairs ◌≢◌) (place_first w.kinds k e c changes object index low) pairs) one.placed)

-- ---- one action more

-- an action that is off
action_off : (w : World) (on : ℕ → Bool) (k e n : ℕ) (a : Action) (changes : List Change) (writes : List Write) → on n ≡ false → Outcome w on k e changes writes
    → Outcome w on k e changes (write_of k n a ++ writes)
action_off w on k e n a changes writes off so = elim (writes_one k n a) [
  | inl none ↦ subst (λ l. Outcome w on k e changes (l ++ writes)) (sym none) so
  | inr one ↦
      let x : Write = record { action = n; target = one.0; value = one.1 } in
      subst (λ l. Outcome w on k e changes (l ++ writes)) (sym one.4) (write_off w on k e x changes writes (ap (λ b. b && hits w e one.0) off) so)
]

-- an assignment that is on, by what it writes
assignment_on : (w : World) (on : ℕ → Bool) (k e : ℕ) (c : Change) (x : Write) (changes : List Change) (writes : List Write) → e < register_cells (slice_get w.kinds k)
    → AllPairs ◌≢◌ (cells_written w.kinds (c ∷ changes)) → c.bits ≡ (number_of w x.value).bits → is_on w on e x ≡ (c.index == e) → Outcome w on k e changes writes
    → Outcome w on k e (c ∷ changes) ((if c.object == k then x ∷ [] else []) ++ writes)
assignment_on w on k e c x changes writes low pairs bits is so = elim (eqb_tells c.object k) [
  | inl own ↦ subst (λ b. Outcome w on k e (c ∷ changes) ((if b then x ∷ [] else []) ++ writes)) (sym own.0) (elim (eqb_tells c.index e) [
    | inl alike ↦ write_on w on k e c x changes writes low pairs own.1 alike.1 bits (is ∙ alike.0) so
    | inr apart ↦ write_off w on k e x (c ∷ changes) writes (is ∙ apart.0) (change_elsewhere w on k e c changes writes (inr apart.1) so)
  ])
  | inr other ↦ subst (λ b. Outcome w on k e (c ∷ changes) ((if b then x ∷ [] else []) ++ writes)) (sym other.0) (change_elsewhere w on k e c changes writes (inl other.1) so)
]

-- a signal is no part of the store
signal_on : (w : World) (on : ℕ → Bool) (k e j : ℕ) (x : Write) (changes : List Change) (writes : List Write) → is_on w on e x ≡ false → Outcome w on k e changes writes
    → Outcome w on k e changes ((if j == k then x ∷ [] else []) ++ writes)
signal_on w on k e j x changes writes off so = by (j == k)
  where
    by : (b : Bool) → Outcome w on k e changes ((if b then x ∷ [] else []) ++ writes)
    by true = write_off w on k e x changes writes off so
    by false = so

on_alone : (a b : Bool) → a ≡ true → (a && b) ≡ b
on_alone true b h = refl
on_alone false b h = absurd cc

none_hit : (a : Bool) → (a && false) ≡ false
none_hit true = refl
none_hit false = refl

action_on : (w : World) (on : ℕ → Bool) (k e n : ℕ) (a : Action) (changes : List Change) (writes : List Write) → e < register_cells (slice_get w.kinds k)
    → AllPairs ◌≢◌ (cells_written w.kinds (wrote w a ++ changes)) → on n ≡ true → Outcome w on k e changes writes → Outcome w on k e (wrote w a ++ changes) (write_of k n a ++ writes)
action_on w on k e n (Assign (ToRegister j) v) changes writes low pairs is so =
    assignment_on w on k e (record { object = j; index = 0; bits = (number_of w v).bits }) (record { action = n; target = ToRegister j; value = v }) changes writes low pairs refl
    (on_alone (on n) (0 == e) is) so
action_on w on k e n (Assign (ToElement j i) v) changes writes low pairs is so =
    assignment_on w on k e (record { object = j; index = (number_of w i).bits; bits = (number_of w v).bits }) (record { action = n; target = ToElement j i; value = v }) changes writes low pairs refl
    (on_alone (on n) ((number_of w i).bits == e) is) so
action_on w on k e n (Assign (ToWord j i) v) changes writes low pairs is so =
    assignment_on w on k e (record { object = j; index = (number_of w i).bits; bits = (number_of w v).bits }) (record { action = n; target = ToWord j i; value = v }) changes writes low pairs refl
    (on_alone (on n) ((number_of w i).bits == e) is) so
action_on w on k e n (Assign (ToSignal j) v) changes writes low pairs is so =
    signal_on w on k e j (record { action = n; target = ToSignal j; value = v }) changes writes (none_hit (on n)) so
action_on w on k e n Delay changes writes low pairs is so = so
action_on w on k e n (Send chan v) changes writes low pairs is so = so
action_on w on k e n (Receive chan t) changes writes low pairs is so = so

-- the places of what one action more writes
pairs_more : (w : World) (a : Action) (changes : List Change) → AllPairs ◌≢◌ (cells_written w.kinds (wrote w a ++ changes)) → AllPairs ◌≢◌ (cells_written w.kinds changes)
pairs_more w (Assign (ToRegister j) v) changes pairs = pairs_behind w.kinds (record { object = j; index = 0; bits = (number_of w v).bits }) changes pairs
pairs_more w (Assign (ToElement j i) v) changes pairs = pairs_behind w.kinds (record { object = j; index = (number_of w i).bits; bits = (number_of w v).bits }) changes pairs
pairs_more w (Assign (ToWord j i) v) changes pairs = pairs_behind w.kinds (record { object = j; index = (number_of w i).bits; bits = (number_of w v).bits }) changes pairs
pairs_more w (Assign (ToSignal j) v) changes pairs = pairs
pairs_more w Delay changes pairs = pairs
pairs_more w (Send chan v) changes pairs = pairs
pairs_more w (Receive chan t) changes pairs = pairs

-- what is known behind an action says what is known with it
action_more : (w : World) (on : ℕ → Bool) (k e n : ℕ) (a : Action) (changes : List Change) (writes : List Write) → e < register_cells (slice_get w.kinds k)
    → (AllPairs ◌≢◌ (cells_written w.kinds changes) → Outcome w on k e changes writes) → (b : Bool) → on n ≡ b → AllPairs ◌≢◌ (cells_written w.kinds ((if b then wrote w a else []) ++ changes))
    → Outcome w on k e ((if b then wrote w a else []) ++ changes) (write_of k n a ++ writes)
action_more w on k e n a changes writes low behind true is pairs = action_on w on k e n a changes writes low pairs is (behind (pairs_more w a changes pairs))
action_more w on k e n a changes writes low behind false is pairs = action_off w on k e n a changes writes is (behind pairs)

-- ---- all actions

-- In a clean clock at most one write that is on is to an element.
pub outcome : (w : World) (on : ℕ → Bool) (k e : ℕ) → e < register_cells (slice_get w.kinds k) → (n : ℕ) (actions : List Action) → AllPairs ◌≢◌ (cells_written w.kinds (wrote_from w on n actions))
    → Outcome w on k e (wrote_from w on n actions) (writes_from k n actions)
outcome w on k e low n [] pairs = inl (record { off = λ i x at. absurd cc; stays = λ store inside. refl })
outcome w on k e low n (a ∷ rest) pairs =
    action_more w on k e n a (wrote_from w on (n + 1) rest) (writes_from k (n + 1) rest) low (outcome w on k e low (n + 1) rest) (on n) refl pairs
