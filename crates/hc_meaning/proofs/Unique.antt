-- Exactly one instant agrees with the front of what is left, where the nodes have ranks that fall along what is needed.
use Rattle.std.proofs.Common.{◌≡◌, ℕ, zero, suc, ◌<◌, false, List, [], ◌∷◌, ◌++◌, slice_index_or, refl, sym, ap, ◌∙◌, subst, arith}
use Rattle.hc_num.specs.Number.{Number}
use Rattle.hc_num.specs.Parts.{bit_range}
use Rattle.hc_tree.specs.declared.refusal.Node.{Node}
use Rattle.hc_tree.specs.declared.refusal.Node.TheVariants as node
use Rattle.hc_core.specs.Program.{Expression, Constant, Register, Element, Word, Signal, Input, Unary, Binary, Slice, Choice}
use Rattle.hc_core.specs.Instant.{deps}
use Rattle.hc_core.specs.Depends.{Need, Access, accesses}
use Rattle.hc_core.specs.declared.object.Kind.{Kind}
use Rattle.hc_meaning.specs.Residual.{Sends, Receives, Residual, Cases, no_case, case_of}
use Rattle.hc_meaning.specs.Value.{Store, Instant, World, number_of, typed, words, word_in, unary}
use Rattle.std.specs.Prelude.{slice_get}
use Rattle.hc_meaning.specs.Control.{resolved, evaluated, front, some_ready, Condition, Leaf}
use Rattle.hc_meaning.specs.Clock.{shown_by}
use Rattle.hc_meaning.proofs.Sets.{Waits, partners, needs}
use Rattle.hc_meaning.proofs.Every.{Every, every_left, every_right, HoldsAt}
use Rattle.hc_meaning.proofs.Alike.{UsedIn}
use Rattle.hc_meaning.proofs.Nodes.{UsedLeaf, leaf_expressions, signal_shown, send_shown, receive_shown, all_shown}

-- the two worlds agree at a node; of a RAM or ROM they may agree on its words
abbrev pub SameAt : World → World → (ℕ → Type 0) → Node → Type 0
SameAt v w Words (node.Value k) = (slice_index_or v.instant.signals k 0 ≡ slice_index_or w.instant.signals k 0) × Words k
SameAt v w Words (node.Sends k) = slice_index_or v.instant.sends k false ≡ slice_index_or w.instant.sends k false
SameAt v w Words (node.Receives k) = slice_index_or v.instant.receives k false ≡ slice_index_or w.instant.receives k false

pub ready_same : (v w : World) (Words : ℕ → Type 0) (cases : Cases) → Every (SameAt v w Words) (partners cases) → some_ready v cases ≡ some_ready w cases
ready_same v w Words no_case h = refl
ready_same v w Words (case_of n (Sends chan e) body rest) h = rw (h.0, ready_same v w Words rest h.1) refl
ready_same v w Words (case_of n (Receives chan t) body rest) h = rw (h.0, ready_same v w Words rest h.1) refl

-- ranks that fall along what is needed
abbrev pub Falls : (Node → ℕ) → List Need → Type 0
Falls rank list = Every (λ x. Every (λ b. rank b < rank x.node) x.on) list

pub holds_below : (P : Node → Type 0) (rank : Node → ℕ) (m : Node) (list : List Need) → Falls rank list → ((o : Node) → rank o < rank m → P o) → HoldsAt P m list
holds_below P rank m [] f g = tt
holds_below P rank m (x ∷ list) f g = (λ e. all x.on (subst (λ n. Every (λ b. rank b < rank n) x.on) e f.0), holds_below P rank m list f.1 g)
  where
    all : (ns : List Node) → Every (λ b. rank b < rank m) ns → Every P ns
    all [] h = tt
    all (n ∷ ns) h = (g n h.0, all ns h.1)

abbrev Any : Expression → Type 0
Any e = Unit {0}

any_test : (list : List Condition) → UsedIn Any list
any_test [] = tt
any_test (c ∷ list) = (tt, any_test list)

any_one : (list : List Expression) → Every Any list
any_one [] = tt
any_one (e ∷ list) = (tt, any_one list)

any_leaf : (list : List Leaf) → Every (UsedLeaf Any) list
any_leaf [] = tt
any_leaf (l ∷ list) = (any_one (leaf_expressions l), any_leaf list)

any_access : (list : List Access) → Every (λ a. Any a.1) list
any_access [] = tt
any_access (a ∷ list) = (tt, any_access list)

abbrev no_words : ℕ → Type 0
no_words k = Unit {0}

module _ (kinds : List Kind) (store : Store) (inputs : List ℕ) where
  abbrev pub world : Instant → World
  world r = record { kinds = kinds; store = store; inputs = inputs; instant = r; word = word_in store }

  abbrev pub Same : Instant → Instant → Node → Type 0
  Same r q m = SameAt (world r) (world q) no_words m

  pub val_same : (r q : Instant) (e : Expression) → Any e → Every (Same r q) (deps e) → number_of (world r) e ≡ number_of (world q) e
  val_same r q (Constant n) u h = refl
  val_same r q (Register k) u h = refl
  val_same r q (Element k i) u h = ap (λ (n : Number). typed (slice_get kinds k) (slice_index_or (words store k) n.bits 0)) (val_same r q i tt h)
  val_same r q (Word k i) u h = ap (λ (n : Number). typed (slice_get kinds k) (word_in store k n.bits)) (val_same r q i tt h.1)
  val_same r q (Signal k) u h = ap (typed (slice_get kinds k)) h.0.0
  val_same r q (Input k) u h = refl
  val_same r q (Unary op a) u h = ap (unary op) (val_same r q a tt h)
  val_same r q (Binary op a b) u h = rw (val_same r q a tt (every_left (Same r q) (deps a) (deps b) h), val_same r q b tt (every_right (Same r q) (deps a) (deps b) h)) refl
  val_same r q (Slice a x y) u h = ap (λ n. bit_range n x y) (val_same r q a tt h)
  val_same r q (Choice c a b) u h =
      let g = every_left (Same r q) (deps c ++ deps a) (deps b) h in
      rw (val_same r q c tt (every_left (Same r q) (deps c) (deps a) g), val_same r q a tt (every_right (Same r q) (deps c) (deps a) g), val_same r q b tt (every_right (Same r q) (deps c ++ deps a) (deps b) h)) refl

  module _ (s : Residual) (waits : Waits s) where
    -- what the front gives at r
    abbrev pub again : Instant → Instant
    again r = shown_by (world r) (front (resolved (world r) s))

    pub step : (r q : Instant) (m : Node) → HoldsAt (Same r q) m (needs [] s) → Same (again r) (again q) m
    step r q (node.Value k) h =
        (signal_shown (world r) (world q) (Same r q) Any (val_same r q) (ready_same (world r) (world q) no_words) (λ e u. any_access (accesses e)) s waits (any_test (evaluated (world r) s)) (any_leaf (front (resolved (world r) s))) kinds k h, tt)
    step r q (node.Sends k) h =
        send_shown (world r) (world q) (Same r q) Any (val_same r q) (ready_same (world r) (world q) no_words) (λ e u. any_access (accesses e)) s waits (any_test (evaluated (world r) s)) (any_leaf (front (resolved (world r) s))) kinds k h
    step r q (node.Receives k) h =
        receive_shown (world r) (world q) (Same r q) Any (val_same r q) (ready_same (world r) (world q) no_words) (λ e u. any_access (accesses e)) s waits (any_test (evaluated (world r) s)) (any_leaf (front (resolved (world r) s))) kinds k h

    pub whole : (r q : Instant) → ((m : Node) → HoldsAt (Same r q) m (needs [] s)) → again r ≡ again q
    whole r q h =
        all_shown (world r) (world q) (Same r q) Any (val_same r q) (ready_same (world r) (world q) no_words) (λ e u. any_access (accesses e)) s waits (any_test (evaluated (world r) s)) (any_leaf (front (resolved (world r) s))) kinds h

    module _ (base : List Need) (needed : (P : Node → Type 0) (m : Node) → HoldsAt P m base → HoldsAt P m (needs [] s)) (rank : Node → ℕ) (falls : Falls rank base) where
      from_below : (r q : Instant) (m : Node) → ((o : Node) → rank o < rank m → Same r q o) → HoldsAt (Same r q) m (needs [] s)
      from_below r q m g = needed (Same r q) m (holds_below (Same r q) rank m base falls g)

      -- ---- at most one

      same_of : (r q : Instant) → r ≡ again r → q ≡ again q → (m : Node) → HoldsAt (Same r q) m (needs [] s) → Same r q m
      same_of r q a b m h = subst (λ x. Same x q m) (sym a) (subst (λ y. Same (again r) y m) (sym b) (step r q m h))

      below : (r q : Instant) → r ≡ again r → q ≡ again q → (n : ℕ) (m : Node) → rank m < n → Same r q m
      below r q a b zero m h = absurd (omega arith)
      below r q a b (suc n) m h = same_of r q a b m (from_below r q m (λ o lt. below r q a b n o (omega arith)))

      pub only : (r q : Instant) → r ≡ again r → q ≡ again q → r ≡ q
      only r q a b = a ∙ whole r q (λ m. from_below r q m (λ o lt. below r q a b (rank m) o lt)) ∙ sym b

      -- ---- at least one

      after : Instant → ℕ → Instant
      after r zero = r
      after r (suc n) = again (after r n)

      close : (r : Instant) (n : ℕ) (m : Node) → rank m < n → Same (after r n) (after r (suc n)) m
      unfolding after
      close r zero m h = absurd (omega arith)
      close r (suc n) m h = step (after r n) (after r (suc n)) m (from_below (after r n) (after r (suc n)) m (λ o lt. close r n o (omega arith)))

      pub some : (bound : ℕ) → ((m : Node) → rank m < bound) → (r : Instant) × (r ≡ again r)
      unfolding after
      some bound within =
          let r : Instant = record { signals = []; sends = []; receives = [] } in
          (after r (suc bound), whole (after r bound) (after r (suc bound)) (λ m. from_below (after r bound) (after r (suc bound)) m (λ o lt. close r bound o (within o))))
