-- Where all uses of each RAM and ROM are one, by their numbers, and no action or condition accesses one twice, each has one use.
use Rattle.std.proofs.Common.{◌≡◌, ◌⊎◌, inl, inr, ℕ, suc, ◌<◌, ◌≤◌, Bool, true, false, ◌||◌, ◌==◌, nat_lt, ltb-true, ltb-false, slice_index_or, List, [], ◌∷◌, map, length, flat_map, refl, sym, ap, ◌∙◌, subst, arith}
use Rattle.hc_core.specs.Program.{Expression}
use Rattle.hc_core.specs.Depends.{accesses}
use Rattle.hc_core.specs.Read.{statement}
use Rattle.hc_core.specs.declared.object.Core.{Core}
use Rattle.hc_meaning.specs.Residual.{Residual, residual}
use Rattle.hc_meaning.specs.Value.{World}
use Rattle.std.specs.Prelude.{if◌then◌else◌, AllPairs}
use Rattle.std.specs.List.{list_any}
use Rattle.hc_core.specs.Depends.{Access}
use Rattle.hc_meaning.specs.Control.{resolved, evaluated, front, Condition, Leaf, does, chooses_from}
use Rattle.hc_meaning.specs.Clock.{leaf_uses, condition_uses, leaf_number, user, users}
use Rattle.hc_core.specs.Rules.{accessed}
use Rattle.hc_meaning.specs.Uses.{indexes, access_at, leaf_words, condition_words, words_used}
use Rattle.hc_meaning.specs.Clock.{action_accesses}
use Rattle.hc_meaning.specs.Nets.{Member}
use Rattle.hc_meaning.proofs.Identify.{AllAre, OneUse}
use Rattle.hc_meaning.proofs.Marks.{Mark, Does, Tests, marks, mark_accesses, AccessOnce}
use Rattle.hc_meaning.proofs.Every.{Every}
use Rattle.hc_meaning.proofs.Identify.{in_left, in_right, in_either}
use Rattle.hc_meaning.proofs.Law.{Reached, main_of}
use Rattle.hc_meaning.proofs.Numbers.{Rising, rising, one_number, from_marks, resolved_marks, front_marks, evaluated_marks, LeafIs, ConditionIs}

pub every_member : {X : Type 0} (P : X → Type 0) (list : List X) (x : X) → Every P list → Member x list → P x
every_member P [] x h m = absurd m
every_member P (y ∷ list) x h (inl e) = subst P e h.0
every_member P (y ∷ list) x h (inr m) = every_member P list x h.1 m

each_member : {X : Type 0} (list : List X) → Every (λ x. Member x list) list
each_member [] = tt
each_member (x ∷ list) = (inl refl, more list (each_member list))
  where
    more : (ys : List _) → Every (λ y. Member y list) ys → Every (λ y. Member y (x ∷ list)) ys
    more [] h = tt
    more (y ∷ ys) h = (inr h.0, more ys h.1)

pub flat_in : {A X : Type 0} (f : A → List X) (list : List A) (a : A) (x : X) → Member a list → Member x (f a) → Member x (flat_map f list)
flat_in f [] a x m h = absurd m
flat_in f (b ∷ list) a x (inl e) h = in_left x (f b) (flat_map f list) (subst (λ c. Member x (f c)) (sym e) h)
flat_in f (b ∷ list) a x (inr m) h = in_right x (f b) (flat_map f list) (flat_in f list a x m h)

pub flat_of : {A X : Type 0} (f : A → List X) (list : List A) (x : X) → Member x (flat_map f list) → (a : A) × Member a list × Member x (f a)
flat_of f [] x m = absurd m
flat_of f (b ∷ list) x m = by (in_either x (f b) (flat_map f list) m) (flat_of f list x)
  where
    by : Member x (f b) ⊎ Member x (flat_map f list) → (Member x (flat_map f list) → (a : _) × Member a list × Member x (f a)) → (a : _) × Member a (b ∷ list) × Member x (f a)
    by (inl h) g = (b, inl refl, h)
    by (inr h) g = let r = g h in (r.0, inr r.1, r.2)

-- an access is by the number of what accesses
pub some_user : (k n : ℕ) (v : World) (list : List Access) (x : ℕ × ℕ) → Member x (map (access_at n v) (indexes k list)) → (x.0 ≡ n) × Member n (user k n (accessed list))
some_user k n v [] x m = absurd m
some_user k n v (a ∷ list) x m = by (a.0 == k) m (some_user k n v list x)
  where
    first : (b : Bool) → Member n (if true || b then n ∷ [] else [])
    first b = inl refl

    of : Member x (access_at n v a.1 ∷ map (access_at n v) (indexes k list)) → (Member x (map (access_at n v) (indexes k list)) → (x.0 ≡ n) × Member n (user k n (accessed list))) → x.0 ≡ n
    of (inl e) f = sym (ap (λ (y : ℕ × ℕ). y.0) e)
    of (inr m) f = (f m).0

    by : (b : Bool) → Member x (map (access_at n v) (if b then a.1 ∷ indexes k list else indexes k list)) → (Member x (map (access_at n v) (indexes k list)) → (x.0 ≡ n) × Member n (user k n (accessed list)))
        → (x.0 ≡ n) × Member n (if b || list_any (λ j. j == k) (accessed list) then n ∷ [] else [])
    by true m f = (of m f, inl refl)
    by false m f = f m

leaf_user : (k : ℕ) (v : World) (l : Leaf) (x : ℕ × ℕ) → Member x (leaf_words k v l) → Member x.0 (user k (leaf_number l) (leaf_uses l))
leaf_user k v (does n a) x h =
    let u = some_user k n v (action_accesses a) x h in
    subst (λ m. Member m (user k n (accessed (action_accesses a)))) (sym u.0) u.1
leaf_user k v (chooses_from n cases) x h = absurd h

condition_user : (k : ℕ) (v : World) (c : Condition) (x : ℕ × ℕ) → Member x (condition_words k v c) → Member x.0 (user k c.number (condition_uses c))
condition_user k v c x h =
    let u = some_user k c.number v (accesses c.value) x h in
    subst (λ m. Member m (user k c.number (condition_uses c))) (sym u.0) u.1

-- an access is by a use
pub user_of : (k : ℕ) (w : World) (r : Residual) (x : ℕ × ℕ) → Member x (words_used k w r) → Member x.0 (users k (front (resolved w r)) (evaluated w r))
user_of k w r x m = by (in_either x (flat_map (leaf_words k w) (front (resolved w r))) (flat_map (condition_words k w) (evaluated w r)) m)
  where
    by : Member x (flat_map (leaf_words k w) (front (resolved w r))) ⊎ Member x (flat_map (condition_words k w) (evaluated w r)) → Member x.0 (users k (front (resolved w r)) (evaluated w r))
    by (inl h) =
        let a = flat_of (leaf_words k w) (front (resolved w r)) x h in
        in_left x.0 (flat_map (λ l. user k (leaf_number l) (leaf_uses l)) (front (resolved w r))) (flat_map (λ c. user k c.number (condition_uses c)) (evaluated w r))
        (flat_in (λ l. user k (leaf_number l) (leaf_uses l)) (front (resolved w r)) a.0 x.0 a.1 (leaf_user k w a.0 x a.2))
    by (inr h) =
        let a = flat_of (condition_words k w) (evaluated w r) x h in
        in_right x.0 (flat_map (λ l. user k (leaf_number l) (leaf_uses l)) (front (resolved w r))) (flat_map (λ c. user k c.number (condition_uses c)) (evaluated w r))
        (flat_in (λ c. user k c.number (condition_uses c)) (evaluated w r) a.0 x.0 a.1 (condition_user k w a.0 x a.2))

-- two members of a list of one
only_one : (n : ℕ) (v : World) (list : List Expression) (x y : ℕ × ℕ) → length list ≤ 1 → Member x (map (access_at n v) list) → Member y (map (access_at n v) list) → x ≡ y
only_one n v [] x y h m k = absurd m
only_one n v (i ∷ []) x y h (inl a) (inl b) = sym a ∙ b
only_one n v (i ∷ []) x y h (inl a) (inr k) = absurd k
only_one n v (i ∷ []) x y h (inr m) k = absurd m
only_one n v (i ∷ j ∷ list) x y h m k = absurd (omega arith)

all_of : {X : Type 0} (list : List X) (u : X) → ((x : X) → Member x list → x ≡ u) → AllAre u list
all_of [] u f = tt
all_of (x ∷ list) u f = (f x (inl refl), all_of list u (λ y m. f y (inr m)))

at_index : {X : Type 0} (list : List X) (x : X) → Member x list → (i : ℕ) × (i < length list) × ((d : X) → slice_index_or list i d ≡ x)
at_index [] x m = absurd m
at_index (y ∷ list) x (inl e) = (0, omega arith, λ d. e)
at_index (y ∷ list) x (inr m) = let r = at_index list x m in (suc r.0, omega arith, r.2)

-- all of a list are equal
equal_pair : {X : Type 0} (list : List X) (x y : X) → AllPairs ◌≡◌ list → Member x list → Member y list → x ≡ y
equal_pair list x y all m n =
    let a = at_index list x m in
    let b = at_index list y n in
    by a b (nat_lt a.0 b.0) (nat_lt b.0 a.0) refl refl
  where
    by : (a : (i : ℕ) × (i < length list) × ((d : _) → slice_index_or list i d ≡ x)) (b : (i : ℕ) × (i < length list) × ((d : _) → slice_index_or list i d ≡ y)) (s t : Bool)
        → nat_lt a.0 b.0 ≡ s → nat_lt b.0 a.0 ≡ t → x ≡ y
    by a b true t e f = sym (a.2 x) ∙ all a.0 b.0 x (ltb-true a.0 b.0 e) b.1 ∙ b.2 x
    by a b false true e f = sym (sym (b.2 x) ∙ all b.0 a.0 x (ltb-true b.0 a.0 f) a.1 ∙ a.2 x)
    by a b false false e f =
        let g : a.0 ≡ b.0 = (let h = ltb-false a.0 b.0 e in let i = ltb-false b.0 a.0 f in omega arith) in
        sym (a.2 x) ∙ ap (λ i. slice_index_or list i x) g ∙ b.2 x

module _ (main : Residual) (low high : ℕ) (rises : Rising low (marks main) high) (once : AccessOnce main) (v : World) (r : Residual)
    (mine : Every (λ x. Member x (marks main)) (marks r)) (k : ℕ) (used : AllPairs ◌≡◌ (users k (front (resolved v r)) (evaluated v r))) where
  abbrev Q : ℕ × Mark → Type 0
  Q x = Member x (marks main)

  -- an access is by an action or condition of main
  record Comes (x : ℕ × ℕ) : Type 0 where
    mark : ℕ × Mark
    there : Member mark (marks main)
    index : Member x (map (access_at mark.0 v) (indexes k (mark_accesses mark.1)))

  leaf_comes : (l : Leaf) (x : ℕ × ℕ) → LeafIs Q l → Member x (leaf_words k v l) → Comes x
  leaf_comes (does n a) x q h = record { mark = (n, Does a); there = q; index = h }
  leaf_comes (chooses_from n cases) x q h = absurd h

  comes : (x : ℕ × ℕ) → Member x (words_used k v r) → Comes x
  comes x m = by (in_either x (flat_map (leaf_words k v) (front (resolved v r))) (flat_map (condition_words k v) (evaluated v r)) m)
    where
      by : Member x (flat_map (leaf_words k v) (front (resolved v r))) ⊎ Member x (flat_map (condition_words k v) (evaluated v r)) → Comes x
      by (inl h) =
          let a = flat_of (leaf_words k v) (front (resolved v r)) x h in
          leaf_comes a.0 x (every_member (LeafIs Q) (front (resolved v r)) a.0 (front_marks Q (resolved v r) (resolved_marks Q v r mine)) a.1) a.2
      by (inr h) =
          let a = flat_of (condition_words k v) (evaluated v r) x h in
          record { mark = (a.0.number, Tests a.0.value); there = every_member (ConditionIs Q) (evaluated v r) a.0 (evaluated_marks Q v r mine) a.1; index = a.2 }

  number_is : (n : ℕ) (list : List Expression) (x : ℕ × ℕ) → Member x (map (access_at n v) list) → x.0 ≡ n
  number_is n [] x m = absurd m
  number_is n (i ∷ list) x (inl e) = sym (ap (λ (y : ℕ × ℕ). y.0) e)
  number_is n (i ∷ list) x (inr m) = number_is n list x m

  same : (x y : ℕ × ℕ) → Member x (words_used k v r) → Member y (words_used k v r) → x ≡ y
  same x y m n =
      let a = comes x m in
      let b = comes y n in
      let f = equal_pair (users k (front (resolved v r)) (evaluated v r)) x.0 y.0 used (user_of k v r x m) (user_of k v r y n) in
      let ea = number_is a.mark.0 (indexes k (mark_accesses a.mark.1)) x a.index in
      let eb = number_is b.mark.0 (indexes k (mark_accesses b.mark.1)) y b.index in
      let e = one_number low (marks main) high b.mark a.mark rises b.there a.there (sym eb ∙ sym f ∙ ea) in
      only_one a.mark.0 v (indexes k (mark_accesses a.mark.1)) x y (once a.mark a.there k) a.index
      (subst (λ (z : ℕ × Mark). Member y (map (access_at z.0 v) (indexes k (mark_accesses z.1)))) e b.index)

  pub one_use : (u : ℕ × ℕ) × AllAre u (words_used k v r)
  one_use = by (words_used k v r) same
    where
      by : (list : List (ℕ × ℕ)) → ((x y : ℕ × ℕ) → Member x list → Member y list → x ≡ y) → (u : ℕ × ℕ) × AllAre u list
      by [] f = ((0, 0), tt)
      by (x ∷ list) f = (x, all_of (x ∷ list) x (λ y m. f y x m (inl refl)))

pub reached_marks : (s r : Residual) → Reached s r → Every (λ x. Member x (marks s)) (marks r)
reached_marks s r (inl e) = rw e (each_member (marks s))
reached_marks s r (inr (inl d)) = from_marks (λ x. Member x (marks s)) s r d (each_member (marks s))
reached_marks s r (inr (inr e)) = rw e tt

pub used_once : (core : Core) (r : Residual) (v : World) → Reached (main_of core) r → AccessOnce (main_of core) → ((k : ℕ) → AllPairs ◌≡◌ (users k (front (resolved v r)) (evaluated v r))) → OneUse v r
used_once core r v h once used k =
    one_use (main_of core) 0 (residual (statement core.main) 0).1 (rising (statement core.main) 0) once v r (reached_marks (main_of core) r h) k (used k)
