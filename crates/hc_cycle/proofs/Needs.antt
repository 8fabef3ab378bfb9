-- What a node depends on, from the pairs that are gathered.
use Rattle.std.proofs.Common.{◌≡◌, ◌⊎◌, inl, inr, zero, suc, List, [], ◌∷◌, ◌++◌, Bool, true, false, refl, sym, ap, ◌∙◌, subst, arith}
use Rattle.std.specs.List.{Contains}
use Rattle.std.proofs.lemmas.List.Elements.{Contains-append_left, Contains-append_right, Contains-append_cases}
use Rattle.hc_tree.specs.declared.refusal.Node.{Node}
use Rattle.hc_tree.specs.declared.refusal.Node.TheVariants.{Value, Sends, Receives}
use Rattle.hc_core.specs.Depends.{Need, needs_of}
use Rattle.hc_core.specs.Instant.{where_it}
use Rattle.hc_core.specs.declared.object.Core.{Core}
use Rattle.hc_cycle.specs.Ranks.{is_same, number_of}
use Rattle.hc_cycle.specs.Sets.{Table, ReadNeeds, no_need, one_need, both_needs, in_turn}
use Rattle.hc_cycle.specs.Links.{on_of, Aligned, AreNeeds}
use Rattle.hc_cycle.specs.declared.sets.Set.{Set}
use Rattle.hc_cycle.proofs.Halves.{same_by_number}

pub number_injective : (a b : Node) → number_of a ≡ number_of b → a ≡ b
number_injective (Value j) (Value k) e = let f : j ≡ k = omega arith in ap Value f
number_injective (Value j) (Sends k) e = absurd (omega arith)
number_injective (Value j) (Receives k) e = absurd (omega arith)
number_injective (Sends j) (Value k) e = absurd (omega arith)
number_injective (Sends j) (Sends k) e = let f : j ≡ k = omega arith in ap Sends f
number_injective (Sends j) (Receives k) e = absurd (omega arith)
number_injective (Receives j) (Value k) e = absurd (omega arith)
number_injective (Receives j) (Sends k) e = absurd (omega arith)
number_injective (Receives j) (Receives k) e = let f : j ≡ k = omega arith in ap Receives f

pub same_node : (a b : Node) → a ≡ b → is_same a b ≡ true
same_node a b e = (same_by_number a b).1 (ap number_of e)

pub node_same : (a b : Node) → is_same a b ≡ true → a ≡ b
node_same a b e = number_injective a b ((same_by_number a b).0 e)

-- ---- elements
pub in_none : {X : Type 0} (x : X) → Contains [] x → ⊥
in_none x (k, low, is) = omega arith

pub in_head : {X : Type 0} (x : X) (xs : List X) → Contains (x ∷ xs) x
in_head x xs = (0, omega arith, refl)

pub in_rest : {X : Type 0} (x y : X) (xs : List X) → Contains xs y → Contains (x ∷ xs) y
in_rest x y xs (k, low, is) = (suc k, omega arith, is)

pub in_cons : {X : Type 0} (x y : X) (xs : List X) → Contains (x ∷ xs) y → (x ≡ y) ⊎ Contains xs y
in_cons x y xs (zero, low, is) = inl is
in_cons x y xs (suc k, low, is) = inr (k, omega arith, is)

pub turned : {X : Type 0} (xs ys : List X) (x : X) → Contains (xs ++ ys) x → Contains (ys ++ xs) x
turned xs ys x h = elim (Contains-append_cases xs ys x h) [
  | inl i ↦ Contains-append_right ys xs x i
  | inr i ↦ Contains-append_left ys xs x i
]

where_there : (h : Bool) (xs : List Node) (b : Node) → h ≡ true → Contains xs b → Contains (where_it h xs) b
where_there true xs b e g = g
where_there false xs b e g = absurd cc

pub where_back : (h : Bool) (xs : List Node) (b : Node) → Contains (where_it h xs) b → (h ≡ true) × Contains xs b
where_back true xs b g = (refl, g)
where_back false xs b g = absurd (in_none b g)

-- ---- pairs in their order
pub record Listing (table : Table) (pairs : List (Node × Set)) (needs : List Need) : Type 0 where
  pub all : List Need
  pub aligned : Aligned table pairs all
  pub there : (m : Need) → Contains needs m → Contains all m
  pub back : (m : Need) → Contains all m → Contains needs m

aligned_both : (t : Table) (ps qs : List (Node × Set)) (xs ys : List Need) → Aligned t ps xs → Aligned t qs ys → Aligned t (ps ++ qs) (xs ++ ys)
aligned_both t [] qs [] ys h g = g
aligned_both t [] qs (x ∷ xs) ys h g = absurd h
aligned_both t (p ∷ ps) qs [] ys h g = absurd h
aligned_both t (p ∷ ps) qs (x ∷ xs) ys h g = (h.0, h.1, aligned_both t ps qs xs ys h.2 g)

pub listing_of : (t : Table) (pairs : List (Node × Set)) (needs : List Need) → ReadNeeds t pairs needs → Listing t pairs needs
listing_of t _ _ no_need = record { all = []; aligned = tt; there = λ m h. h; back = λ m h. h }
listing_of t _ _ (one_need n s on r) = record { all = record { node = n; on = on } ∷ []; aligned = (refl, r, tt); there = λ m h. h; back = λ m h. h }
listing_of t _ _ (both_needs l m xs ys p q) =
    let a = listing_of t l xs p in
    let b = listing_of t m ys q in
    record {
      all = a.all ++ b.all;
      aligned = aligned_both t l m a.all b.all a.aligned b.aligned;
      there = λ n h. elim (Contains-append_cases xs ys n h) [
        | inl i ↦ Contains-append_left a.all b.all n (a.there n i)
        | inr i ↦ Contains-append_right a.all b.all n (b.there n i)
      ];
      back = λ n h. elim (Contains-append_cases a.all b.all n h) [
        | inl i ↦ Contains-append_left xs ys n (a.back n i)
        | inr i ↦ Contains-append_right xs ys n (b.back n i)
      ];
    }
listing_of t _ _ (in_turn l xs ys p) =
    let a = listing_of t l (xs ++ ys) p in
    record {
      all = a.all;
      aligned = a.aligned;
      there = λ n h. a.there n (turned ys xs n h);
      back = λ n h. turned xs ys n (a.back n h);
    }

-- ---- what a node depends on
pub on_there : (n b : Node) (needs : List Need) (m : Need) → Contains needs m → m.node ≡ n → Contains m.on b → Contains (on_of n needs) b
on_there n b [] m h is g = absurd (in_none m h)
on_there n b (x ∷ xs) m h is g = elim (in_cons x m xs h) [
  | inl e ↦ Contains-append_left (where_it (is_same x.node n) x.on) (on_of n xs) b
      (where_there (is_same x.node n) x.on b (same_node x.node n (ap (λ (y : Need). y.node) e ∙ is)) (subst (λ (y : Need). Contains y.on b) (sym e) g))
  | inr i ↦ Contains-append_right (where_it (is_same x.node n) x.on) (on_of n xs) b (on_there n b xs m i is g)
]

pub record OnBack (n b : Node) (needs : List Need) : Type 0 where
  pub need : Need
  pub there : Contains needs need
  pub node_is : need.node ≡ n
  pub on_is : Contains need.on b

pub on_back : (n b : Node) (needs : List Need) → Contains (on_of n needs) b → OnBack n b needs
on_back n b [] h = absurd (in_none b h)
on_back n b (x ∷ xs) h = elim (Contains-append_cases (where_it (is_same x.node n) x.on) (on_of n xs) b h) [
  | inl i ↦ let w = where_back (is_same x.node n) x.on b i in record { need = x; there = in_head x xs; node_is = node_same x.node n w.0; on_is = w.1 }
  | inr i ↦ let r = on_back n b xs i in record { need = r.need; there = in_rest x r.need xs r.there; node_is = r.node_is; on_is = r.on_is }
]

pub are_needs : (core : Core) (table : Table) (pairs : List (Node × Set)) (l : Listing table pairs (needs_of core)) → AreNeeds core l.all
are_needs core table pairs l = record {
  there = λ a b d. on_there a b l.all d.need (l.there d.need d.uses) d.node_is d.on_is;
  back = λ a b h. let m = on_back a b l.all h in record { need = m.need; uses = l.back m.need m.there; node_is = m.node_is; on_is = m.on_is };
}
