-- A world that is made of nets is the clock's own.
use Rattle.std.proofs.Common.{◌≡◌, ◌⊎◌, inl, inr, ℕ, zero, suc, ◌<◌, ◌==◌, Bool, true, false, List, [], ◌∷◌, ◌++◌, map, flat_map, slice_index_or, slice_get, refl, sym, ap, ◌∙◌, subst, arith, eq-eqb}
use Rattle.std.specs.Prelude.{if◌then◌else◌}
use Rattle.hc_num.specs.Number.{Number}
use Rattle.hc_num.specs.Parts.{bit_range}
use Rattle.hc_tree.specs.declared.refusal.Node.{Node}
use Rattle.hc_tree.specs.declared.refusal.Node.TheVariants as node
use Rattle.hc_core.specs.Program.{Expression, Constant, Register, Element, Word, Signal, Input, Unary, Binary, Slice, Choice, Target, ToRegister, ToElement, ToWord, ToSignal}
use Rattle.hc_core.specs.Instant.{deps}
use Rattle.hc_core.specs.Depends.{Need, Access, accesses, target_accesses}
use Rattle.hc_meaning.specs.Residual.{Assign, Delay, Send, Receive, Residual}
use Rattle.hc_meaning.specs.Value.{Instant, World, number_of, typed, words, unary}
use Rattle.hc_meaning.specs.Control.{resolved, evaluated, front, Condition, Leaf, does, chooses_from}
use Rattle.hc_meaning.specs.Clock.{Agrees, behind_edge}
use Rattle.hc_meaning.proofs.Sets.{Waits, partners, needs}
use Rattle.hc_meaning.specs.Uses.{leaf_accesses, indexes, access_at, leaf_words, condition_words, words_used, clock_accesses}
use Rattle.hc_meaning.specs.Clock.{action_accesses}
use Rattle.hc_meaning.specs.Nets.{Member, but_for, IsUsed}
use Rattle.hc_meaning.proofs.Every.{Every, every_left, every_right, HoldsAt}
use Rattle.hc_meaning.proofs.Alike.{UsedIn}
use Rattle.hc_meaning.proofs.Nodes.{UsedLeaf, signal_shown, send_shown, receive_shown, all_shown, words_alike}
use Rattle.hc_meaning.proofs.Unique.{SameAt, ready_same, Falls, holds_below}
use Rattle.hc_meaning.proofs.SameControl.{same_control}
use Rattle.hc_meaning.proofs.EdgeSame.{next_same}

abbrev pub AllAre : {X : Type 0} → X → List X → Type 0
AllAre x [] = Unit {0}
AllAre x (y ∷ list) = (y ≡ x) × AllAre x list

-- Where all accesses of a RAM or ROM in the clock are of one action or condition at one index, the port shows the word that
-- the clock's own world has there.
pub record Ported (v : World) (r : Residual) (q : Instant) (word : ℕ → ℕ → ℕ) : Type 0 where
  pub agrees : Agrees (but_for v q word) (front (resolved (but_for v q word) r))
  pub ports : (k : ℕ) (u y : ℕ × ℕ) → AllAre u (words_used k (but_for v q word) r) → Member y (words_used k (but_for v q word) r) → (i : ℕ) → word k i ≡ v.word k u.1

-- each RAM and ROM has at most one use
abbrev pub OneUse : World → Residual → Type 0
OneUse v r = (k : ℕ) → (u : ℕ × ℕ) × AllAre u (words_used k v r)

-- The two worlds have one instant, one control and one rest.
pub record Found (v : World) (r : Residual) (q : Instant) (word : ℕ → ℕ → ℕ) : Type 0 where
  pub instant : q ≡ v.instant
  pub control : resolved (but_for v q word) r ≡ resolved v r
  pub tests : evaluated (but_for v q word) r ≡ evaluated v r
  pub values : (e : Expression) → IsUsed v r e → number_of (but_for v q word) e ≡ number_of v e
  pub rest : behind_edge (but_for v q word) (front (resolved (but_for v q word) r)) (resolved (but_for v q word) r) ≡ behind_edge v (front (resolved v r)) (resolved v r)

-- ---- members

pub in_left : {X : Type 0} (x : X) (a b : List X) → Member x a → Member x (a ++ b)
in_left x [] b h = absurd h
in_left x (y ∷ a) b (inl e) = inl e
in_left x (y ∷ a) b (inr h) = inr (in_left x a b h)

pub in_right : {X : Type 0} (x : X) (a b : List X) → Member x b → Member x (a ++ b)
in_right x [] b h = h
in_right x (y ∷ a) b h = inr (in_right x a b h)

pub in_either : {X : Type 0} (x : X) (a b : List X) → Member x (a ++ b) → Member x a ⊎ Member x b
in_either x [] b h = inr h
in_either x (y ∷ a) b (inl e) = inl (inl e)
in_either x (y ∷ a) b (inr h) = by (in_either x a b h)
  where
    by : Member x a ⊎ Member x b → Member x (y ∷ a) ⊎ Member x b
    by (inl h) = inl (inr h)
    by (inr h) = inr h

pub is_one : {X : Type 0} (u x : X) (list : List X) → AllAre u list → Member x list → x ≡ u
is_one u x [] h m = absurd m
is_one u x (y ∷ list) h (inl e) = sym e ∙ h.0
is_one u x (y ∷ list) h (inr m) = is_one u x list h.1 m

-- the index of an access is among those of its object
index_in : (k n : ℕ) (i : Expression) (v : World) (list : List Access) → Member (k, i) list → Member (access_at n v i) (map (access_at n v) (indexes k list))
index_in k n i v [] h = absurd h
index_in k n i v (a ∷ list) (inl e) = here (a.0 == k) (eq-eqb a.0 k (ap (λ (x : Access). x.0) e)) (ap (λ (x : Access). access_at n v x.1) e)
  where
    here : (t : Bool) → t ≡ true → access_at n v a.1 ≡ access_at n v i → Member (access_at n v i) (map (access_at n v) (if t then a.1 ∷ indexes k list else indexes k list))
    here true h e = inl e
    here false h e = absurd cc
index_in k n i v (a ∷ list) (inr h) = there (a.0 == k) (index_in k n i v list h)
  where
    there : (t : Bool) → Member (access_at n v i) (map (access_at n v) (indexes k list)) → Member (access_at n v i) (map (access_at n v) (if t then a.1 ∷ indexes k list else indexes k list))
    there true h = inr h
    there false h = h

-- an access in the clock is one of its uses
abbrev pub Use : ℕ → World → Expression → List (ℕ × ℕ) → Type 0
Use k v i list = (n : ℕ) × Member (access_at n v i) list

leaf_use : (k : ℕ) (i : Expression) (v : World) (leaves : List Leaf) → Member (k, i) (flat_map leaf_accesses leaves) → Use k v i (flat_map (leaf_words k v) leaves)
leaf_use k i v [] h = absurd h
leaf_use k i v (l ∷ leaves) h = by (in_either (k, i) (leaf_accesses l) (flat_map leaf_accesses leaves) h) (leaf_use k i v leaves)
  where
    one : (l : Leaf) → Member (k, i) (leaf_accesses l) → Use k v i (leaf_words k v l)
    one (does n a) h = (n, index_in k n i v (action_accesses a) h)
    one (chooses_from n cases) h = absurd h

    by : Member (k, i) (leaf_accesses l) ⊎ Member (k, i) (flat_map leaf_accesses leaves) → (Member (k, i) (flat_map leaf_accesses leaves) → Use k v i (flat_map (leaf_words k v) leaves))
        → Use k v i (leaf_words k v l ++ flat_map (leaf_words k v) leaves)
    by (inl h) f = let u = one l h in (u.0, in_left (access_at u.0 v i) (leaf_words k v l) (flat_map (leaf_words k v) leaves) u.1)
    by (inr h) f = let u = f h in (u.0, in_right (access_at u.0 v i) (leaf_words k v l) (flat_map (leaf_words k v) leaves) u.1)

condition_use : (k : ℕ) (i : Expression) (v : World) (list : List Condition) → Member (k, i) (flat_map (λ c. accesses c.value) list) → Use k v i (flat_map (condition_words k v) list)
condition_use k i v [] h = absurd h
condition_use k i v (c ∷ list) h = by (in_either (k, i) (accesses c.value) (flat_map (λ c. accesses c.value) list) h) (condition_use k i v list)
  where
    by : Member (k, i) (accesses c.value) ⊎ Member (k, i) (flat_map (λ c. accesses c.value) list) → (Member (k, i) (flat_map (λ c. accesses c.value) list) → Use k v i (flat_map (condition_words k v) list))
        → Use k v i (condition_words k v c ++ flat_map (condition_words k v) list)
    by (inl h) f = (c.number, in_left (access_at c.number v i) (condition_words k v c) (flat_map (condition_words k v) list) (index_in k c.number i v (accesses c.value) h))
    by (inr h) f = let u = f h in (u.0, in_right (access_at u.0 v i) (condition_words k v c) (flat_map (condition_words k v) list) u.1)

pub use_of : (k : ℕ) (i : Expression) (v : World) (r : Residual) → Member (k, i) (clock_accesses v r) → Use k v i (words_used k v r)
use_of k i v r h = by (in_either (k, i) (flat_map leaf_accesses (front (resolved v r))) (flat_map (λ c. accesses c.value) (evaluated v r)) h)
  where
    by : Member (k, i) (flat_map leaf_accesses (front (resolved v r))) ⊎ Member (k, i) (flat_map (λ c. accesses c.value) (evaluated v r)) → Use k v i (words_used k v r)
    by (inl h) =
        let u = leaf_use k i v (front (resolved v r)) h in
        (u.0, in_left (access_at u.0 v i) (flat_map (leaf_words k v) (front (resolved v r))) (flat_map (condition_words k v) (evaluated v r)) u.1)
    by (inr h) =
        let u = condition_use k i v (evaluated v r) h in
        (u.0, in_right (access_at u.0 v i) (flat_map (leaf_words k v) (front (resolved v r))) (flat_map (condition_words k v) (evaluated v r)) u.1)

-- the accesses of an index are accesses of its expression
inner_accesses : (Q : Access → Type 0) (e : Expression) → ((a : Access) → Member a (accesses e) → Q a) → Every (λ a. (b : Access) → Member b (accesses a.1) → Q b) (accesses e)
inner_accesses Q (Constant n) h = tt
inner_accesses Q (Register k) h = tt
inner_accesses Q (Element k i) h = inner_accesses Q i h
inner_accesses Q (Word k i) h = (λ b m. h b (inr m), inner_accesses Q i (λ b m. h b (inr m)))
inner_accesses Q (Signal k) h = tt
inner_accesses Q (Input k) h = tt
inner_accesses Q (Unary op a) h = inner_accesses Q a h
inner_accesses Q (Binary op a b) h =
    both (accesses a) (accesses b) (inner_accesses Q a (λ c m. h c (in_left c (accesses a) (accesses b) m))) (inner_accesses Q b (λ c m. h c (in_right c (accesses a) (accesses b) m)))
  where
    both : (x y : List Access) → Every (λ a. (b : Access) → Member b (accesses a.1) → Q b) x → Every (λ a. (b : Access) → Member b (accesses a.1) → Q b) y → Every (λ a. (b : Access) → Member b (accesses a.1) → Q b) (x ++ y)
    both [] y h k = k
    both (a ∷ x) y h k = (h.0, both x y h.1 k)
inner_accesses Q (Slice a high low) h = inner_accesses Q a h
inner_accesses Q (Choice c a b) h =
    both (accesses c ++ accesses a) (accesses b)
    (both (accesses c) (accesses a) (inner_accesses Q c (λ x m. h x (in_left x (accesses c ++ accesses a) (accesses b) (in_left x (accesses c) (accesses a) m))))
    (inner_accesses Q a (λ x m. h x (in_left x (accesses c ++ accesses a) (accesses b) (in_right x (accesses c) (accesses a) m)))))
    (inner_accesses Q b (λ x m. h x (in_right x (accesses c ++ accesses a) (accesses b) m)))
  where
    both : (x y : List Access) → Every (λ a. (b : Access) → Member b (accesses a.1) → Q b) x → Every (λ a. (b : Access) → Member b (accesses a.1) → Q b) y → Every (λ a. (b : Access) → Member b (accesses a.1) → Q b) (x ++ y)
    both [] y h k = k
    both (a ∷ x) y h k = (h.0, both x y h.1 k)

-- ---- what is used in the clock

module _ (v : World) (r : Residual) where
  -- each of these lists' accesses are the clock's
  abbrev Within : List Access → Type 0
  Within list = (a : Access) → Member a list → Member a (clock_accesses v r)

  tests_in : (list : List Condition) → Within (flat_map (λ c. accesses c.value) list) → UsedIn (IsUsed v r) list
  tests_in [] h = tt
  tests_in (c ∷ list) h =
      (λ a m. h a (in_left a (accesses c.value) (flat_map (λ c. accesses c.value) list) m), tests_in list (λ a m. h a (in_right a (accesses c.value) (flat_map (λ c. accesses c.value) list) m)))

  target_in : (t : Target) (e : Expression) → Within (target_accesses t ++ accesses e) → UsedLeaf (IsUsed v r) (does 0 (Assign t e))
  target_in (ToRegister k) e h = (λ a m. h a m, tt)
  target_in (ToElement k i) e h = (λ a m. h a (in_right a (accesses i) (accesses e) m), (λ a m. h a (in_left a (accesses i) (accesses e) m), tt))
  target_in (ToWord k i) e h = (λ a m. h a (inr (in_right a (accesses i) (accesses e) m)), (λ a m. h a (inr (in_left a (accesses i) (accesses e) m)), tt))
  target_in (ToSignal k) e h = (λ a m. h a m, tt)

  received_in : (t : Target) (n chan : ℕ) → Within (target_accesses t) → UsedLeaf (IsUsed v r) (does n (Receive chan t))
  received_in (ToRegister k) n chan h = tt
  received_in (ToElement k i) n chan h = (λ a m. h a m, tt)
  received_in (ToWord k i) n chan h = (λ a m. h a (inr m), tt)
  received_in (ToSignal k) n chan h = tt

  leaf_in : (l : Leaf) → Within (leaf_accesses l) → UsedLeaf (IsUsed v r) l
  leaf_in (does n (Assign t e)) h = target_in t e h
  leaf_in (does n Delay) h = tt
  leaf_in (does n (Send chan e)) h = (λ a m. h a m, tt)
  leaf_in (does n (Receive chan t)) h = received_in t n chan h
  leaf_in (chooses_from n cases) h = tt

  leaves_in : (list : List Leaf) → Within (flat_map leaf_accesses list) → Every (UsedLeaf (IsUsed v r)) list
  leaves_in [] h = tt
  leaves_in (l ∷ list) h =
      (leaf_in l (λ a m. h a (in_left a (leaf_accesses l) (flat_map leaf_accesses list) m)), leaves_in list (λ a m. h a (in_right a (leaf_accesses l) (flat_map leaf_accesses list) m)))

  pub tests_used : UsedIn (IsUsed v r) (evaluated v r)
  tests_used = tests_in (evaluated v r) (λ a m. in_right a (flat_map leaf_accesses (front (resolved v r))) (flat_map (λ c. accesses c.value) (evaluated v r)) m)

  pub leaves_used : Every (UsedLeaf (IsUsed v r)) (front (resolved v r))
  leaves_used = leaves_in (front (resolved v r)) (λ a m. in_left a (flat_map leaf_accesses (front (resolved v r))) (flat_map (λ c. accesses c.value) (evaluated v r)) m)

-- ---- the two worlds

module _ (v : World) (r : Residual) (q : Instant) (word : ℕ → ℕ → ℕ) where
  abbrev w : World
  w = but_for v q word

  -- the words of an object that are read in the clock are the same
  abbrev Words : ℕ → Type 0
  Words k = (i : Expression) → Member (k, i) (clock_accesses v r) → v.word k (number_of v i).bits ≡ word k (number_of w i).bits

  abbrev Same : Node → Type 0
  Same m = SameAt v w Words m

  left : (a b : List Node) → Every Same (a ++ b) → Every Same a
  left a b h = every_left Same a b h

  right : (a b : List Node) → Every Same (a ++ b) → Every Same b
  right a b h = every_right Same a b h

  values : (e : Expression) → IsUsed v r e → Every Same (deps e) → number_of v e ≡ number_of w e
  values (Constant n) u h = refl
  values (Register k) u h = refl
  values (Element k i) u h = ap (λ (n : Number). typed (slice_get v.kinds k) (slice_index_or (words v.store k) n.bits 0)) (values i u h)
  values (Word k i) u h = ap (typed (slice_get v.kinds k)) (h.0.1 i (u (k, i) (inl refl)))
  values (Signal k) u h = ap (typed (slice_get v.kinds k)) h.0.0
  values (Input k) u h = refl
  values (Unary op a) u h = ap (unary op) (values a u h)
  values (Binary op a b) u h =
      rw (values a (λ x m. u x (in_left x (accesses a) (accesses b) m)) (left (deps a) (deps b) h), values b (λ x m. u x (in_right x (accesses a) (accesses b) m)) (right (deps a) (deps b) h)) refl
  values (Slice a x y) u h = ap (λ n. bit_range n x y) (values a u h)
  values (Choice c a b) u h =
      let g = left (deps c ++ deps a) (deps b) h in
      rw (
        values c (λ x m. u x (in_left x (accesses c ++ accesses a) (accesses b) (in_left x (accesses c) (accesses a) m))) (left (deps c) (deps a) g),
        values a (λ x m. u x (in_left x (accesses c ++ accesses a) (accesses b) (in_right x (accesses c) (accesses a) m))) (right (deps c) (deps a) g),
        values b (λ x m. u x (in_right x (accesses c ++ accesses a) (accesses b) m)) (right (deps c ++ deps a) (deps b) h),
      ) refl

  pub inner : (e : Expression) → IsUsed v r e → Every (λ a. IsUsed v r a.1) (accesses e)
  inner e u = inner_accesses (λ b. Member b (clock_accesses v r)) e u

  module _ (waits : Waits r) (mine : Agrees v (front (resolved v r))) (one : OneUse v r) (p : Ported v r q word) where
    signals : (k : ℕ) → HoldsAt Same (node.Value k) (needs [] r) → slice_index_or v.instant.signals k 0 ≡ slice_index_or q.signals k 0
    signals k h =
        ap (λ (x : Instant). slice_index_or x.signals k 0) mine
        ∙ signal_shown v w Same (IsUsed v r) values (ready_same v w Words) inner r waits (tests_used v r) (leaves_used v r) v.kinds k h
        ∙ sym (ap (λ (x : Instant). slice_index_or x.signals k 0) p.agrees)

    -- the one use of an object is at the same index in both worlds, where its port shows the word
    shown : (k : ℕ) → HoldsAt Same (node.Value k) (needs [] r) → Words k
    shown k h i m =
        let e = words_alike v w Same (IsUsed v r) values (ready_same v w Words) inner r waits (tests_used v r) (leaves_used v r) k h in
        let u = one k in
        let at = use_of k i v r m in
        let same : access_at at.0 v i ≡ u.0 = is_one u.0 (access_at at.0 v i) (words_used k v r) u.1 at.1 in
        ap (λ (x : ℕ × ℕ). v.word k x.1) same ∙ sym (p.ports k u.0 (access_at at.0 v i) (subst (AllAre u.0) e u.1) (subst (Member (access_at at.0 v i)) e at.1) (number_of w i).bits)

    step : (m : Node) → HoldsAt Same m (needs [] r) → Same m
    step (node.Value k) h = (signals k h, shown k h)
    step (node.Sends k) h =
        ap (λ (x : Instant). slice_index_or x.sends k false) mine
        ∙ send_shown v w Same (IsUsed v r) values (ready_same v w Words) inner r waits (tests_used v r) (leaves_used v r) v.kinds k h
        ∙ sym (ap (λ (x : Instant). slice_index_or x.sends k false) p.agrees)
    step (node.Receives k) h =
        ap (λ (x : Instant). slice_index_or x.receives k false) mine
        ∙ receive_shown v w Same (IsUsed v r) values (ready_same v w Words) inner r waits (tests_used v r) (leaves_used v r) v.kinds k h
        ∙ sym (ap (λ (x : Instant). slice_index_or x.receives k false) p.agrees)

    module _ (base : List Need) (needed : (P : Node → Type 0) (m : Node) → HoldsAt P m base → HoldsAt P m (needs [] r)) (rank : Node → ℕ) (falls : Falls rank base) where
      below : (n : ℕ) (m : Node) → rank m < n → Same m
      below zero m h = absurd (omega arith)
      below (suc n) m h = step m (needed Same m (holds_below Same rank m base falls (λ o lt. below n o (omega arith))))

      all : (m : Node) → Same m
      all m = below (suc (rank m)) m (omega arith)

      everywhere : (list : List Node) → Every Same list
      everywhere [] = tt
      everywhere (m ∷ list) = (all m, everywhere list)

      pub identified : Found v r q word
      identified =
          let control = same_control v w (IsUsed v r) (λ e u. values e u (everywhere (deps e))) (λ cases. ready_same v w Words cases (everywhere (partners cases))) r (tests_used v r) in
          let instant : q ≡ v.instant = p.agrees
          ∙ sym (all_shown v w Same (IsUsed v r) values (ready_same v w Words) inner r waits (tests_used v r) (leaves_used v r) v.kinds
          (λ m. needed Same m (holds_below Same rank m base falls (λ o lt. all o))))
          ∙ sym mine in
          record {
            instant = instant;
            control = sym control.0;
            tests = sym control.1;
            values = λ e u. sym (values e u (everywhere (deps e)));
            rest = next_same v r q word (sym control.0) instant;
          }
