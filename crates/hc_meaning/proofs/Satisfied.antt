-- There is such a world: the premise of the identification can be met in each clock in which no RAM or ROM has two uses.
use Rattle.std.proofs.Common.{◌≡◌, inl, ℕ, ◌==◌, Bool, true, false, List, [], ◌∷◌, ◌++◌, map, flat_map, slice_index_or, slice_get, refl, sym, ap, ◌∙◌, subst}
use Rattle.std.specs.Prelude.{if◌then◌else◌}
use Rattle.hc_num.specs.Number.{Number}
use Rattle.hc_num.specs.Parts.{bit_range}
use Rattle.hc_core.specs.Program.{Expression, Constant, Register, Element, Word, Signal, Input, Unary, Binary, Slice, Choice, ToRegister, ToElement, ToWord, ToSignal}
use Rattle.hc_core.specs.Depends.{Access, accesses}
use Rattle.hc_meaning.specs.Residual.{Assign, Delay, Send, Receive, Sends, Receives, Residual, Cases, no_case, case_of}
use Rattle.hc_meaning.specs.Value.{World, number_of, typed, words, unary}
use Rattle.hc_meaning.specs.Control.{resolved, evaluated, front, some_ready, Condition, Leaf, does, chooses_from}
use Rattle.hc_meaning.specs.Clock.{shown_by, Agrees, assigned, signal_bits}
use Rattle.hc_meaning.specs.Uses.{indexes, access_at, leaf_words, condition_words, words_used}
use Rattle.hc_meaning.specs.Clock.{action_accesses}
use Rattle.hc_meaning.specs.Nets.{Member, but_for, IsUsed}
use Rattle.hc_meaning.proofs.Identify.{Ported, OneUse}
use Rattle.hc_meaning.proofs.Every.{Every}
use Rattle.hc_meaning.proofs.Alike.{UsedIn}
use Rattle.hc_meaning.proofs.Nodes.{UsedLeaf, action_used, each_all, bits_same}
use Rattle.hc_meaning.proofs.Identify.{in_left, in_right, is_one, use_of, inner, tests_used, leaves_used}
use Rattle.hc_meaning.proofs.SameControl.{same_control}

module _ (v : World) (r : Residual) (one : OneUse v r) where
  -- the port shows the word at the one use's index
  abbrev pub shows : ℕ → ℕ → ℕ
  shows k i = v.word k (one k).0.1

  abbrev w : World
  w = but_for v v.instant shows

  values : (e : Expression) → IsUsed v r e → number_of v e ≡ number_of w e
  values (Constant n) u = refl
  values (Register k) u = refl
  values (Element k i) u = ap (λ (n : Number). typed (slice_get v.kinds k) (slice_index_or (words v.store k) n.bits 0)) (values i u)
  values (Word k i) u =
      let at = use_of k i v r (u (k, i) (inl refl)) in
      ap (λ (x : ℕ × ℕ). typed (slice_get v.kinds k) (v.word k x.1)) (is_one (one k).0 (access_at at.0 v i) (words_used k v r) (one k).1 at.1)
  values (Signal k) u = refl
  values (Input k) u = refl
  values (Unary op a) u = ap (unary op) (values a u)
  values (Binary op a b) u = rw (values a (λ x m. u x (in_left x (accesses a) (accesses b) m)), values b (λ x m. u x (in_right x (accesses a) (accesses b) m))) refl
  values (Slice a x y) u = ap (λ n. bit_range n x y) (values a u)
  values (Choice c a b) u =
      rw (
        values c (λ x m. u x (in_left x (accesses c ++ accesses a) (accesses b) (in_left x (accesses c) (accesses a) m))),
        values a (λ x m. u x (in_left x (accesses c ++ accesses a) (accesses b) (in_right x (accesses c) (accesses a) m))),
        values b (λ x m. u x (in_right x (accesses c ++ accesses a) (accesses b) m)),
      ) refl

  ready : (cases : Cases) → some_ready v cases ≡ some_ready w cases
  ready no_case = refl
  ready (case_of n (Sends chan e) body rest) = rw (ready rest) refl
  ready (case_of n (Receives chan t) body rest) = rw (ready rest) refl

  indexes_same : (n k : ℕ) (list : List Access) → Every (λ a. IsUsed v r a.1) list → map (access_at n v) (indexes k list) ≡ map (access_at n w) (indexes k list)
  indexes_same n k [] u = refl
  indexes_same n k (a ∷ list) u = by (a.0 == k) (indexes_same n k list u.1)
    where
      by : (t : Bool) → map (access_at n v) (indexes k list) ≡ map (access_at n w) (indexes k list)
          → map (access_at n v) (if t then a.1 ∷ indexes k list else indexes k list) ≡ map (access_at n w) (if t then a.1 ∷ indexes k list else indexes k list)
      by true e = rw (values a.1 u.0, e) refl
      by false e = e

  leaf_same : (k : ℕ) (l : Leaf) → UsedLeaf (IsUsed v r) l → leaf_words k v l ≡ leaf_words k w l
  leaf_same k (does n a) u =
      indexes_same n k (action_accesses a) (action_used v w (λ m. Unit {0}) (IsUsed v r) (λ e u h. values e u) (λ cases h. ready cases) (λ e u. inner v r v.instant shows e u) a u)
  leaf_same k (chooses_from n cases) u = refl

  leaves_same : (k : ℕ) (list : List Leaf) → Every (UsedLeaf (IsUsed v r)) list → flat_map (leaf_words k v) list ≡ flat_map (leaf_words k w) list
  leaves_same k [] u = refl
  leaves_same k (l ∷ list) u = rw (leaf_same k l u.0, leaves_same k list u.1) refl

  tests_same : (k : ℕ) (list : List Condition) → UsedIn (IsUsed v r) list → flat_map (condition_words k v) list ≡ flat_map (condition_words k w) list
  tests_same k [] u = refl
  tests_same k (c ∷ list) u = rw (indexes_same c.number k (accesses c.value) (inner v r v.instant shows c.value u.0), tests_same k list u.1) refl

  assigned_same : (k : ℕ) (l : Leaf) → UsedLeaf (IsUsed v r) l → assigned v k l ≡ assigned w k l
  assigned_same k (does n (Assign (ToRegister j) e)) u = refl
  assigned_same k (does n (Assign (ToElement j i) e)) u = refl
  assigned_same k (does n (Assign (ToWord j i) e)) u = refl
  assigned_same k (does n (Assign (ToSignal j) e)) u = ap (λ (x : Number). if j == k then x.bits ∷ [] else []) (values e u.0)
  assigned_same k (does n Delay) u = refl
  assigned_same k (does n (Send chan e)) u = refl
  assigned_same k (does n (Receive chan t)) u = refl
  assigned_same k (chooses_from n cases) u = refl

  all_assigned : (k : ℕ) (list : List Leaf) → Every (UsedLeaf (IsUsed v r)) list → flat_map (assigned v k) list ≡ flat_map (assigned w k) list
  all_assigned k [] u = refl
  all_assigned k (l ∷ list) u = rw (assigned_same k l u.0, all_assigned k list u.1) refl

  control : (resolved v r ≡ resolved w r) × (evaluated v r ≡ evaluated w r)
  control = same_control v w (IsUsed v r) values ready r (tests_used v r)

  shown_same : shown_by v (front (resolved v r)) ≡ shown_by w (front (resolved v r))
  shown_same = rw (each_all (signal_bits v (front (resolved v r))) (signal_bits w (front (resolved v r))) v.kinds 0
      (λ i kind. bits_same v w (front (resolved v r)) (front (resolved v r)) i (all_assigned i (front (resolved v r)) (leaves_used v r)) kind)) refl

  pub words_same : (k : ℕ) → words_used k w r ≡ words_used k v r
  words_same k =
      ap (λ (x : Residual). flat_map (leaf_words k w) (front x) ++ flat_map (condition_words k w) (evaluated w r)) (sym control.0)
      ∙ ap (λ (c : List Condition). flat_map (leaf_words k w) (front (resolved v r)) ++ flat_map (condition_words k w) c) (sym control.1)
      ∙ rw (leaves_same k (front (resolved v r)) (leaves_used v r), tests_same k (evaluated v r) (tests_used v r)) refl

  pub satisfied : Agrees v (front (resolved v r)) → Ported v r v.instant shows
  satisfied mine = record {
    agrees = mine ∙ shown_same ∙ ap (λ (x : Residual). shown_by w (front x)) control.0;
    ports = λ k u y all m i.
        let n = subst (Member y) (words_same k) m in
        let a : y ≡ (one k).0 = is_one (one k).0 y (words_used k v r) (one k).1 n in
        let b : y ≡ u = is_one u y (words_used k w r) all m in
        ap (λ (x : ℕ × ℕ). v.word k x.1) (sym a ∙ b);
  }
