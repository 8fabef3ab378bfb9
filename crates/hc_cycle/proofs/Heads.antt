-- The sets of nodes, pair by pair.
use Rattle.std.proofs.Common.{◌≡◌, ◌≢◌, inl, inr, ◌<◌, ◌≤◌, ℕ, zero, suc, ◌+◌, List, [], ◌∷◌, ◌++◌, length, get_or, drop, set, Some, Bool, true, false, refl, sym, ap, ◌∙◌, subst, arith, add-one}
use Rattle.std.specs.Prelude.{slice_get}
use Rattle.std.specs.List.{Contains}
use Rattle.std.proofs.lemmas.List.{append-nil, append_assoc, length-set}
use Rattle.std.proofs.lemmas.List.Elements.{Contains-append_cases}
use Rattle.std.proofs.lemmas.Option.{slice_get_within}
use Rattle.std.proofs.Math.Seq.{drop-cons}
use Rattle.hc_tree.specs.declared.refusal.Node.{Node}
use Rattle.hc_core.specs.Depends.{Need}
use Rattle.hc_core.specs.Instant.{where_it}
use Rattle.hc_cycle.specs.Ranks.{is_same, number_of}
use Rattle.hc_cycle.specs.Sets.{Table, Reads, no_member, one_member, members, Extends}
use Rattle.hc_cycle.specs.Links.{on_of, Aligned, AreHeads, AddsHead}
use Rattle.hc_cycle.specs.declared.sets.Set.{Set}
use Rattle.hc_cycle.specs.declared.sets.Set.TheVariants.{Empty}
use Rattle.hc_cycle.specs.declared.sets.Gather.{Gather}
use Rattle.hc_cycle.proofs.Halves.{same_by_number}
use Rattle.hc_cycle.proofs.Unions.{get_set_same, get_set_other, extends_itself, extends_more}
use Rattle.hc_cycle.proofs.Needs.{in_none, where_back}

pub reads_later : (t u : Table) (s : Set) (xs : List Node) → Extends t u → Reads t s xs → Reads u s xs
reads_later t u _ _ e no_member = no_member
reads_later t u _ _ e (one_member n) = one_member n
reads_later t u _ _ e (members k a b xs ys is p q) = members k a b xs ys (e k (a, b) is) (reads_later t u a xs e p) (reads_later t u b ys e q)

pub record HeadsPart (table now : Table) (heads : List Set) (rest : List (Node × Set)) (needs : List Need) : Type 0 where
  pub behind : List Need
  pub aligned : Aligned table rest behind
  pub known : Node → List Node
  pub reads : (n : Node) (s : Set) → slice_get heads (number_of n) ≡ Some s → Reads now s (known n)
  pub whole : (n : Node) → known n ++ on_of n behind ≡ on_of n needs
  pub inside : (n m : Node) → Contains (known n) m → number_of n < length heads

pub record HeadsLeft (old now : Gather) (heads : List Set) (size : ℕ) (all rest : List (Node × Set)) : Type 0 where
  pub extends : Extends old.table now.table
  pub size_is : length heads ≡ size
  pub left : (needs : List Need) → Aligned old.table all needs → HeadsPart old.table now.table heads rest needs

pub heads_start : (g : Gather) (heads : List Set) (size : ℕ) (all : List (Node × Set)) → length heads ≡ size → ((k : ℕ) (s : Set) → slice_get heads k ≡ Some s → s ≡ Empty)
    → HeadsLeft g g heads size all all
heads_start g heads size all size_is empty = record {
  extends = extends_itself g.table;
  size_is = size_is;
  left = λ needs aligned. record {
    behind = needs;
    aligned = aligned;
    known = λ n. [];
    reads = λ n s is. subst (λ (x : Set). Reads g.table x []) (sym (empty (number_of n) s is)) no_member;
    whole = λ n. refl;
    inside = λ n m h. absurd (in_none m h);
  };
}

-- one pair more
record AlignedNext (table : Table) (pair : Node × Set) (behind : List (Node × Set)) (needs : List Need) : Type 0 where
  need : Need
  others : List Need
  needs_are : needs ≡ need ∷ others
  node_is : pair.0 ≡ need.node
  reads : Reads table pair.1 need.on
  rest : Aligned table behind others

aligned_next : (t : Table) (pair : Node × Set) (behind : List (Node × Set)) (needs : List Need) → Aligned t (pair ∷ behind) needs → AlignedNext t pair behind needs
aligned_next t pair behind [] h = absurd h
aligned_next t pair behind (m ∷ ms) h = record { need = m; others = ms; needs_are = refl; node_is = h.0; reads = h.1; rest = h.2 }

head_read : (b : Bool) (t u : Table) (heads : List Set) (k i : ℕ) (before after s : Set) (xs ys : List Node) → (b ≡ true → i ≡ k) → (b ≡ false → i ≢ k) → slice_get heads k ≡ Some before
    → ((r : Set) → slice_get heads i ≡ Some r → Reads t r xs) → Extends t u → (Reads u before xs → Reads u after (xs ++ ys)) → slice_get (set heads k after) i ≡ Some s
    → Reads u s (xs ++ where_it b ys)
head_read true t u heads k i before after s xs ys same_if other_if at reads later joined is =
    let same : i ≡ k = same_if refl in
    let here : slice_get (set heads k after) k ≡ Some s = ap (slice_get (set heads k after)) (sym same) ∙ is in
    let there : slice_get (set heads k after) k ≡ Some after = get_set_same heads k after before at in
    let eq : after ≡ s = cc in
    subst (λ (x : Set). Reads u x (xs ++ ys)) eq (joined (reads_later t u before xs later (reads before (ap (slice_get heads) same ∙ at))))
head_read false t u heads k i before after s xs ys same_if other_if at reads later joined is =
    let other : slice_get (set heads k after) i ≡ slice_get heads i = get_set_other heads k i after (other_if refl) in
    subst (λ (l : List Node). Reads u s l) (sym (append-nil xs)) (reads_later t u s xs later (reads s (sym other ∙ is)))

same_false : (a b : Node) → is_same a b ≡ false → number_of b ≢ number_of a
same_false a b e same = let yes : is_same a b ≡ true = (same_by_number a b).1 (sym same) in absurd cc

heads_next : (old now next : Gather) (heads heads' : List Set) (size : ℕ) (all behind : List (Node × Set)) (pair : Node × Set) → HeadsLeft old now heads size all (pair ∷ behind)
    → AddsHead now next heads heads' pair → HeadsLeft old next heads' size all behind
heads_next old now next heads heads' size all behind pair left add =
    let later = add.joins.grows.extends in
    let long : length heads' ≡ length heads = ap length add.heads_are ∙ length-set heads (number_of pair.0) add.after in
    record {
      extends = extends_more old.table now.table next.table left.extends later;
      size_is = long ∙ left.size_is;
      left = λ needs all_aligned.
          let part = left.left needs all_aligned in
          let first = aligned_next old.table pair behind part.behind part.aligned in
          let more : Node → List Node = λ n. where_it (is_same first.need.node n) first.need.on in
          let on_next : Reads next.table pair.1 first.need.on = reads_later old.table next.table pair.1 first.need.on (extends_more old.table now.table next.table left.extends later) first.reads in
          let number_is : number_of pair.0 ≡ number_of first.need.node = ap number_of first.node_is in
          record {
            behind = first.others;
            aligned = first.rest;
            known = λ n. part.known n ++ more n;
            reads = λ n s is. head_read (is_same first.need.node n) now.table next.table heads (number_of pair.0) (number_of n) add.before add.after s (part.known n) first.need.on
                (λ e. sym ((same_by_number first.need.node n).0 e) ∙ sym number_is)
                (λ e f. same_false first.need.node n e (f ∙ number_is))
                add.before_is (part.reads n) later (λ r. add.joins.shows next.table (part.known n) first.need.on (extends_itself next.table) r on_next)
                (ap (λ (l : List Set). slice_get l (number_of n)) (sym add.heads_are) ∙ is);
            whole = λ n. append_assoc (part.known n) (more n) (on_of n first.others) ∙ ap (λ l. part.known n ++ on_of n l) (sym first.needs_are) ∙ part.whole n;
            inside = λ n m h. elim (Contains-append_cases (part.known n) (more n) m h) [
              | inl i ↦ let low = part.inside n m i in omega arith
              | inr i ↦
                  let same = (where_back (is_same first.need.node n) first.need.on m i).0 in
                  let number = (same_by_number first.need.node n).0 same in
                  let low = slice_get_within heads (number_of pair.0) add.before add.before_is in
                  omega arith
            ];
          };
    }

pub heads_step : (old now next : Gather) (heads heads' : List Set) (size i : ℕ) (all : List (Node × Set)) (d : Node × Set) → i < length all → HeadsLeft old now heads size all (drop i all)
    → AddsHead now next heads heads' (get_or all i d) → HeadsLeft old next heads' size all (drop (i + 1) all)
heads_step old now next heads heads' size i all d low left add =
    let split : drop i all ≡ get_or all i d ∷ drop (i + 1) all = drop-cons all i d low ∙ ap (λ n. get_or all i d ∷ drop n all) (sym (add-one i)) in
    heads_next old now next heads heads' size all (drop (i + 1) all) (get_or all i d) (subst (λ r. HeadsLeft old now heads size all r) split left) add

drop_past : {X : Type 0} (xs : List X) (i : ℕ) → length xs ≤ i → drop i xs ≡ []
drop_past [] zero h = refl
drop_past [] (suc i) h = refl
drop_past (x ∷ xs) zero h = absurd (omega arith)
drop_past (x ∷ xs) (suc i) h = drop_past xs i (omega arith)

aligned_end : (t : Table) (needs : List Need) → Aligned t [] needs → needs ≡ []
aligned_end t [] h = refl
aligned_end t (m ∷ ms) h = absurd h

pub heads_end : (old now : Gather) (heads : List Set) (size i : ℕ) (all : List (Node × Set)) → length all ≤ i → HeadsLeft old now heads size all (drop i all)
    → (needs : List Need) → Aligned old.table all needs → AreHeads now.table heads needs
heads_end old now heads size i all far left needs aligned =
    let last = subst (λ r. HeadsLeft old now heads size all r) (drop_past all i far) left in
    let part = last.left needs aligned in
    let none = aligned_end old.table part.behind part.aligned in
    let whole : (n : Node) → part.known n ≡ on_of n needs = λ n. sym (append-nil (part.known n)) ∙ ap (λ l. part.known n ++ on_of n l) (sym none) ∙ part.whole n in
    record {
      reads = λ n s is. subst (λ (l : List Node). Reads now.table s l) (whole n) (part.reads n s is);
      inside = λ n m h. part.inside n m (subst (λ (l : List Node). Contains l m) (sym (whole n)) h);
    }
