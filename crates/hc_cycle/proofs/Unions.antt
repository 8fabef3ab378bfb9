-- How sets and dependencies are put together.
use Rattle.std.proofs.Common.{◌≡◌, ◌≢◌, ℕ, set, zero, suc, List, [], ◌∷◌, ◌++◌, Some, None, length, Bool, true, false, refl, sym, ap, ◌∙◌, subst, arith}
use Rattle.std.specs.Prelude.{slice_get}
use Rattle.std.proofs.lemmas.List.{append-nil, append_assoc}
use Rattle.std.proofs.lemmas.Option.{slice_get_within}
use Rattle.hc_tree.specs.declared.refusal.Node.{Node}
use Rattle.hc_core.specs.Depends.{Need}
use Rattle.hc_core.specs.Instant.{where_it}
use Rattle.hc_cycle.specs.declared.sets.Set.{Set}
use Rattle.hc_cycle.specs.declared.sets.Set.TheVariants.{Empty, One, Union}
use Rattle.hc_cycle.specs.declared.sets.Gather.{Gather}
use Rattle.hc_cycle.specs.Sets.{Table, Reads, no_member, one_member, members, ReadNeeds, no_need, one_need, both_needs, in_turn, Extends, Grows, Shows, Joins, Adds, Keeps, Fills}

pub get_pushed : {X : Type 0} (xs : List X) (y : X) → slice_get (xs ++ y ∷ []) (length xs) ≡ Some y
get_pushed [] y = refl
get_pushed (x ∷ xs) y = get_pushed xs y

pub get_kept : {X : Type 0} (xs : List X) (y : X) (k : ℕ) (x : X) → slice_get xs k ≡ Some x → slice_get (xs ++ y ∷ []) k ≡ Some x
get_kept [] y k x e = absurd cc
get_kept (a ∷ xs) y zero x e = e
get_kept (a ∷ xs) y (suc k) x e = get_kept xs y k x e

pub extends_itself : (t : Table) → Extends t t
extends_itself t k p e = e

pub extends_more : (a b c : Table) → Extends a b → Extends b c → Extends a c
extends_more a b c f g k p e = g k p (f k p e)

pub grows_itself : (t : Table) → Grows t t
grows_itself t = record { extends = extends_itself t; waits = λ k e. e }

pub grows_more : (a b c : Table) → Grows a b → Grows b c → Grows a c
grows_more a b c f g = record { extends = extends_more a b c f.extends g.extends; waits = λ k e. g.waits k (f.waits k e) }

-- ---- sets
pub shows_later : (g h : Gather) (s : Set) (xs : List Node) → Extends g.table h.table → Shows g s xs → Shows h s xs
shows_later g h s xs e r = record { shows = λ t f. r.shows t (extends_more g.table h.table t e f) }

pub shows_none : (g : Gather) → Shows g Empty []
shows_none g = record { shows = λ t f. no_member }

pub shows_one : (g : Gather) (n : Node) → Shows g (One n) (n ∷ [])
shows_one g n = record { shows = λ t f. one_member n }

pub shows_both : (g h : Gather) (a b s : Set) (xs ys : List Node) → Joins g h a b s → Shows g a xs → Shows g b ys → Shows h s (xs ++ ys)
shows_both g h a b s xs ys j p q = record {
  shows = λ t f. j.shows t xs ys f
      (p.shows t (extends_more g.table h.table t j.grows.extends f)) (q.shows t (extends_more g.table h.table t j.grows.extends f));
}

pub shows_as : (g : Gather) (s : Set) (xs ys : List Node) → xs ≡ ys → Shows g s xs → Shows g s ys
shows_as g s xs ys e h = subst (λ (l : List Node). Shows g s l) e h

pub shows_where : (g : Gather) (b : Bool) (s r : Set) (xs : List Node) → (b ≡ true → r ≡ s) → (b ≡ false → r ≡ Empty) → Shows g s xs → Shows g r (where_it b xs)
shows_where g true s r xs = λ yes no h. subst (λ (x : Set). Shows g x xs) (sym (yes refl)) h
shows_where g false s r xs = λ yes no h. subst (λ (x : Set). Shows g x []) (sym (no refl)) (shows_none g)

reads_none : (t : Table) (s : Set) (xs : List Node) → s ≡ Empty → Reads t s xs → xs ≡ []
reads_none t s _ e no_member = refl
reads_none t s _ e (one_member n) = absurd cc
reads_none t s _ e (members k a b ys zs is p q) = absurd cc

pub joins_left : (g : Gather) (b : Set) → Joins g g Empty b b
joins_left g b = record { grows = grows_itself g.table; same = refl; shows = λ t xs ys f p q. rw (reads_none t Empty xs refl p) q }

pub joins_right : (g : Gather) (a : Set) → Joins g g a Empty a
joins_right g a = record { grows = grows_itself g.table; same = refl; shows = λ t xs ys f p q. rw (reads_none t Empty ys refl q, append-nil xs) p }

-- ---- dependencies
pub adds_none : (g h : Gather) (start : Set) → Grows g.table h.table → h.needs ≡ g.needs → Adds g h start (λ xs. [])
adds_none g h start e same = record { grows = e; added = []; needs_are = same ∙ sym (append-nil g.needs); says = λ t xs f r. no_need }

pub adds_both : (a b c : Gather) (start : Set) (f g : List Node → List Need) → Adds a b start f → Adds b c start g → Adds a c start (λ xs. f xs ++ g xs)
adds_both a b c start f g p q = record {
  grows = grows_more a.table b.table c.table p.grows q.grows;
  added = p.added ++ q.added;
  needs_are = q.needs_are ∙ ap (λ l. l ++ q.added) p.needs_are ∙ rw append_assoc refl;
  says = λ t xs e r. both_needs p.added q.added (f xs) (g xs) (p.says t xs (extends_more b.table c.table t q.grows.extends e) r) (q.says t xs e r);
}

pub adds_turned : (a b : Gather) (start : Set) (f g : List Node → List Need) → Adds a b start (λ xs. f xs ++ g xs) → Adds a b start (λ xs. g xs ++ f xs)
adds_turned a b start f g p = record { grows = p.grows; added = p.added; needs_are = p.needs_are; says = λ t xs e r. in_turn p.added (f xs) (g xs) (p.says t xs e r) }

-- of another start, which is this one and more
pub adds_from : (a b : Gather) (start inner : Set) (h : List Node → List Node) (f : List Node → List Need)
    → ((t : Table) (xs : List Node) → Extends b.table t → Reads t start xs → Reads t inner (h xs)) → Adds a b inner f → Adds a b start (λ xs. f (h xs))
adds_from a b start inner h f turns p = record { grows = p.grows; added = p.added; needs_are = p.needs_are; says = λ t xs e r. p.says t (h xs) e (turns t xs e r) }

pub adds_after : (a b c : Gather) (start : Set) (f : List Node → List Need) → Adds a b start f → Grows b.table c.table → c.needs ≡ b.needs → Adds a c start f
adds_after a b c start f p e same = record {
  grows = grows_more a.table b.table c.table p.grows e;
  added = p.added;
  needs_are = same ∙ p.needs_are;
  says = λ t xs g r. p.says t xs (extends_more b.table c.table t e.extends g) r;
}

pub adds_before : (a b c : Gather) (start : Set) (f : List Node → List Need) → Grows a.table b.table → b.needs ≡ a.needs → Adds b c start f → Adds a c start f
adds_before a b c start f e same p = record {
  grows = grows_more a.table b.table c.table e p.grows;
  added = p.added;
  needs_are = p.needs_are ∙ ap (λ l. l ++ p.added) same;
  says = p.says;
}

pub adds_as : (a b : Gather) (start : Set) (f g : List Node → List Need) → ((xs : List Node) → f xs ≡ g xs) → Adds a b start f → Adds a b start g
adds_as a b start f g e p = record { grows = p.grows; added = p.added; needs_are = p.needs_are; says = λ t xs x r. subst (λ (l : List Need). ReadNeeds t p.added l) (e xs) (p.says t xs x r) }

-- a start and what more decides it
pub more_decides : (a b c : Gather) (start more inner : Set) (ys : List Node) → Joins a b start more inner → Shows a more ys → Extends b.table c.table
    → (t : Table) (xs : List Node) → Extends c.table t → Reads t start xs → Reads t inner (xs ++ ys)
more_decides a b c start more inner ys j s e t xs f r =
    let g = extends_more b.table c.table t e f in
    j.shows t xs ys g r (s.shows t (extends_more a.table b.table t j.grows.extends g))

pub entered : (g h : Gather) (a b : Set) → h.table ≡ g.table ++ Some (a, b) ∷ [] → h.needs ≡ g.needs → Joins g h a b (Union (length g.table))
entered g h a b is same = record {
  grows = record {
    extends = λ k p e. ap (λ (t : Table). slice_get t k) is ∙ get_kept g.table (Some (a, b)) k (Some p) e;
    waits = λ k e. ap (λ (t : Table). slice_get t k) is ∙ get_kept g.table (Some (a, b)) k None e;
  };
  same = same;
  shows = λ t xs ys f p q. members (length g.table) a b xs ys
      (f (length g.table) (a, b) (ap (λ (t : Table). slice_get t (length g.table)) is ∙ get_pushed g.table (Some (a, b)))) p q;
}

pub needed : (g h : Gather) (node : Node) (on : Set) → h.table ≡ g.table → h.needs ≡ g.needs ++ (node, on) ∷ [] → Adds g h on (λ xs. record { node = node; on = xs } ∷ [])
needed g h node on same is = record {
  grows = record { extends = λ k p e. ap (λ (t : Table). slice_get t k) same ∙ e; waits = λ k e. ap (λ (t : Table). slice_get t k) same ∙ e };
  added = (node, on) ∷ [];
  needs_are = is;
  says = λ t xs f r. one_need node on xs r;
}

-- a number is kept for a set
pub kept : (g h : Gather) → h.table ≡ g.table ++ None ∷ [] → h.needs ≡ g.needs → Keeps g h (length g.table)
kept g h is same = record {
  grows = record {
    extends = λ k p e. ap (λ (t : Table). slice_get t k) is ∙ get_kept g.table None k (Some p) e;
    waits = λ k e. ap (λ (t : Table). slice_get t k) is ∙ get_kept g.table None k None e;
  };
  same = same;
  fresh = omega arith;
  none = ap (λ (t : Table). slice_get t (length g.table)) is ∙ get_pushed g.table None;
}

pub get_set_same : {X : Type 0} (xs : List X) (k : ℕ) (x y : X) → slice_get xs k ≡ Some y → slice_get (set xs k x) k ≡ Some x
get_set_same [] k x y e = absurd cc
get_set_same (a ∷ xs) zero x y e = refl
get_set_same (a ∷ xs) (suc k) x y e = get_set_same xs k x y e

pub get_set_other : {X : Type 0} (xs : List X) (k j : ℕ) (x : X) → j ≢ k → slice_get (set xs k x) j ≡ slice_get xs j
get_set_other [] k j x ne = refl
get_set_other (a ∷ xs) zero zero x ne = absurd (ne refl)
get_set_other (a ∷ xs) zero (suc j) x ne = refl
get_set_other (a ∷ xs) (suc k) zero x ne = refl
get_set_other (a ∷ xs) (suc k) (suc j) x ne = get_set_other xs k j x (λ e. ne (ap suc e))

pub filled_extends : (g h : Gather) (at : ℕ) (a b : Set) → Fills g h at a b → slice_get g.table at ≡ Some None → Extends g.table h.table
filled_extends g h at a b f none k p is =
    let ne : k ≢ at = λ e. let bad : slice_get g.table k ≡ Some None = ap (slice_get g.table) e ∙ none in absurd cc in
    ap (λ (t : Table). slice_get t k) f.table_is ∙ get_set_other g.table at k (Some (a, b)) ne ∙ is

pub filled_at : (g h : Gather) (at : ℕ) (a b : Set) → Fills g h at a b → slice_get g.table at ≡ Some None → slice_get h.table at ≡ Some (Some (a, b))
filled_at g h at a b f none = ap (λ (t : Table). slice_get t at) f.table_is ∙ get_set_same g.table at (Some (a, b)) None none

filled_waits : (g h : Gather) (at : ℕ) (a b : Set) → Fills g h at a b → (k : ℕ) → k ≢ at → slice_get g.table k ≡ Some None → slice_get h.table k ≡ Some None
filled_waits g h at a b f k ne none = ap (λ (t : Table). slice_get t k) f.table_is ∙ get_set_other g.table at k (Some (a, b)) ne ∙ none

-- from where a number is kept to where it is filled, a table grows
pub grows_to_filled : (g h i j : Gather) (at : ℕ) (a b : Set) → Keeps g h at → Grows h.table i.table → Fills i j at a b → Grows g.table j.table
grows_to_filled g h i j at a b k w f = record {
  extends = extends_more g.table h.table j.table k.grows.extends (extends_more h.table i.table j.table w.extends (filled_extends i j at a b f (w.waits at k.none)));
  waits = λ n e.
      let low = slice_get_within g.table n None e in
      let high = k.fresh in
      let ne : n ≢ at = omega arith in
      filled_waits i j at a b f n ne (w.waits n (k.grows.waits n e));
}

-- ---- dependencies that are known once a table has more
pub record AddsUntil (old new : Gather) (until : Table) (start : Set) (gives : List Node → List Need) : Type 0 where
  pub added : List (Node × Set)
  pub needs_are : new.needs ≡ old.needs ++ added
  pub says : (table : Table) (xs : List Node) → Extends until table → Reads table start xs → ReadNeeds table added (gives xs)

pub until_of : (a b : Gather) (u : Table) (start : Set) (f : List Node → List Need) → Adds a b start f → Extends b.table u → AddsUntil a b u start f
until_of a b u start f p e = record { added = p.added; needs_are = p.needs_are; says = λ t xs g r. p.says t xs (extends_more b.table u t e g) r }

pub until_from : (a b : Gather) (u : Table) (start inner : Set) (h : List Node → List Node) (f : List Node → List Need)
    → ((t : Table) (xs : List Node) → Extends u t → Reads t start xs → Reads t inner (h xs)) → AddsUntil a b u inner f → AddsUntil a b u start (λ xs. f (h xs))
until_from a b u start inner h f turns p = record { added = p.added; needs_are = p.needs_are; says = λ t xs e r. p.says t (h xs) e (turns t xs e r) }

pub until_both : (a b c d : Gather) (u : Table) (start : Set) (f g : List Node → List Need) → AddsUntil a b u start f → c.needs ≡ b.needs → AddsUntil c d u start g
    → AddsUntil a d u start (λ xs. g xs ++ f xs)
until_both a b c d u start f g p same q = record {
  added = p.added ++ q.added;
  needs_are = q.needs_are ∙ ap (λ l. l ++ q.added) (same ∙ p.needs_are) ∙ rw append_assoc refl;
  says = λ t xs e r. in_turn (p.added ++ q.added) (f xs) (g xs) (both_needs p.added q.added (f xs) (g xs) (p.says t xs e r) (q.says t xs e r));
}

pub of_until : (a b c d : Gather) (start : Set) (f : List Node → List Need) → b.needs ≡ a.needs → AddsUntil b c d.table start f → d.needs ≡ c.needs → Grows a.table d.table → Adds a d start f
of_until a b c d start f before p after grows = record {
  grows = grows;
  added = p.added;
  needs_are = after ∙ p.needs_are ∙ ap (λ l. l ++ p.added) before;
  says = p.says;
}

pub reads_kept : (t : Table) (at : ℕ) (a b : Set) (xs ys : List Node) → slice_get t at ≡ Some (Some (a, b)) → Reads t a xs → Reads t b ys → Reads t (Union at) (xs ++ ys)
reads_kept t at a b xs ys is p q = members at a b xs ys is p q
