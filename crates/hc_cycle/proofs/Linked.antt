-- The graph of a core: its numbers order the nodes, and its cycles are cycles of nodes.
use Rattle.std.proofs.Common.{◌≡◌, ◌≢◌, inl, inr, ◌<◌, ◌≤◌, ℕ, zero, suc, ◌+◌, ◌-◌, ◌*◌, ◌%◌, ◌^◌, List, [], ◌∷◌, ◌++◌, length, map, get_or, Option, Some, None, refl, sym, ap, ◌∙◌, subst, arith}
use Rattle.std.specs.Prelude.{All, AllPairs, slice_get}
use Rattle.std.specs.List.{Contains}
use Rattle.std.proofs.Math.Nat.{mul-add-mod_self_left}
use Rattle.std.proofs.lemmas.Bool.{cases_lt}
use Rattle.std.proofs.lemmas.List.{get_or-map, length-map}
use Rattle.std.proofs.lemmas.List.Elements.{Contains-append_left, Contains-append_right, Contains-append_cases, All-map}
use Rattle.std.proofs.lemmas.Option.{slice_get_within, slice_get-get_or}
use Rattle.hc_tree.specs.declared.refusal.Node.{Node}
use Rattle.hc_core.specs.Depends as core_spec
use Rattle.hc_core.specs.Depends.{Need, Depends, Reaches, directly, through, Cyclic, IsOrder, IsCycle, nodes_of, needs_of}
use Rattle.hc_core.specs.Read.{statement}
use Rattle.hc_core.specs.Instant.{nodes_from}
use Rattle.hc_core.specs.Typed.{kinds_of}
use Rattle.hc_core.specs.declared.object.Object.{Object}
use Rattle.hc_core.specs.declared.object.Core.{Core}
use Rattle.hc_graph.specs.declared.graph.Fork.{Fork}
use Rattle.hc_graph.specs.Graph as graphs
use Rattle.hc_graph.specs.Graph.{Leads, AreRanks, Along}
use Rattle.hc_cycle.specs.Ranks.{number_of, AreInOrder}
use Rattle.hc_cycle.specs.Found.{IsFound}
use Rattle.hc_cycle.specs.declared.ordering.Found.TheVariants as found
use Rattle.hc_cycle.specs.declared.sets.Ends.{Ends}
use Rattle.hc_cycle.specs.declared.sets.Gather.{Gather}
use Rattle.hc_cycle.specs.Sets.{Table, Reads, no_member, one_member, members, ReadNeeds, Visits}
use Rattle.hc_cycle.specs.Links.{on_of, AreHeads, number_in, head_fork, union_fork, IsBelow, IsGraphOf, node_of, nodes_in, ranked, AreNeeds, HasHeads, Aligned}
use Rattle.hc_cycle.specs.declared.sets.Set.{Set}
use Rattle.hc_cycle.specs.declared.sets.Set.TheVariants.{Empty, One, Union}
use Rattle.hc_cycle.proofs.Needs.{in_none, in_cons, listing_of, are_needs}
use Rattle.hc_cycle.proofs.Unions.{extends_itself}
use Rattle.hc_cycle.proofs.Numbers.{Rising, number_of_node, node_of_number, rising_from, rising_pairs, rising_differ, in_front, not_in_front, nodes_differ, least_place}

-- ---- items of a list
get_left : {X : Type 0} (xs ys : List X) (k : ℕ) (x : X) → slice_get xs k ≡ Some x → slice_get (xs ++ ys) k ≡ Some x
get_left [] ys k x e = absurd cc
get_left (a ∷ xs) ys zero x e = e
get_left (a ∷ xs) ys (suc k) x e = get_left xs ys k x e

get_right : {X : Type 0} (xs ys : List X) (k i : ℕ) → i ≡ length xs + k → slice_get (xs ++ ys) i ≡ slice_get ys k
get_right [] ys k i e = let f : i ≡ k = omega arith in ap (slice_get ys) f
get_right (x ∷ xs) ys k zero e = absurd (omega arith)
get_right (x ∷ xs) ys k (suc i) e = get_right xs ys k i (omega arith)

get_map : {X Y : Type 0} (f : X → Y) (xs : List X) (k : ℕ) (x : X) → slice_get xs k ≡ Some x → slice_get (map f xs) k ≡ Some (f x)
get_map f [] k x e = absurd cc
get_map f (a ∷ xs) zero x e = let is : a ≡ x = cc in ap (λ y. Some (f y)) is
get_map f (a ∷ xs) (suc k) x e = get_map f xs k x e

some_none : {X : Type 0} (x : X) → None ≡ Some x → ⊥
some_none x e = absurd cc

module _ (heads : List Set) (table : Table) (graph : List Fork) (g : IsGraphOf heads table graph) where
  abbrev base : ℕ
  base = length heads

  head_at : (k : ℕ) (s : Set) → slice_get heads k ≡ Some s → slice_get graph k ≡ Some (head_fork base s)
  head_at k s is = ap (λ (l : List Fork). slice_get l k) g.graph_is
      ∙ get_left (map (head_fork base) heads) (map (union_fork base) table) k (head_fork base s) (get_map (head_fork base) heads k s is)

  union_at : (k : ℕ) (u : Option (Set × Set)) → slice_get table k ≡ Some u → slice_get graph (base + k) ≡ Some (union_fork base u)
  union_at k u is =
      let long = length-map heads (head_fork base) in
      ap (λ (l : List Fork). slice_get l (base + k)) g.graph_is
      ∙ get_right (map (head_fork base) heads) (map (union_fork base) table) k (base + k) (omega arith)
      ∙ get_map (union_fork base) table k u is

  -- ---- numbers
  module _ (ranks : List ℕ) (r : AreRanks graph ranks) where
    abbrev rank : ℕ → ℕ
    rank v = get_or ranks v 0

    rank_at : (v : ℕ) → v < length graph → slice_get ranks v ≡ Some (rank v)
    rank_at v h = slice_get-get_or ranks v 0 (let size = r.size in omega arith)

    rank_falls : (v w : ℕ) → Leads graph v w → v < length graph → w < length graph → rank w < rank v
    rank_falls v w leads h i = r.falls v w (rank v) (rank w) leads (rank_at v h) (rank_at w i)

    record Shown (s : Set) (b : Node) : Type 0 where
      v : ℕ
      v_is : number_in base s ≡ Some v
      within : v < length graph
      inside : number_of b < base
      at_most : rank (number_of b) ≤ rank v

    base_within : base ≤ length graph
    base_within =
        let whole = ap (λ (l : List Fork). length l) g.graph_is in
        let parts = Rattle.std.proofs.Math.ListN.length-append (map (head_fork base) heads) (map (union_fork base) table) in
        let long = length-map heads (head_fork base) in
        omega arith

    shown : (s : Set) (xs : List Node) → Reads table s xs → IsBelow base s → (b : Node) → Contains xs b → Shown s b
    shown _ _ no_member low b h = absurd (in_none b h)
    shown _ _ (one_member n) low b h = elim (in_cons n b [] h) [
      | inl e ↦
          let same : number_of n ≡ number_of b = ap number_of e in
          let under : number_of n < base = low in
          let long = base_within in
          record { v = number_of n; v_is = refl; within = omega arith; inside = omega arith; at_most = subst (λ (x : ℕ). rank x ≤ rank (number_of n)) same (omega arith) }
      | inr i ↦ absurd (in_none b i)
    ]
    shown _ _ (members k a c xs ys is p q) low b h =
        let below = g.unions_below k (Some (a, c)) is in
        let of = union_at k (Some (a, c)) is in
        let within = slice_get_within graph (base + k) (union_fork base (Some (a, c))) of in
        elim (Contains-append_cases xs ys b h) [
          | inl i ↦
              let w = shown a xs p below.0 b i in
              let falls = rank_falls (base + k) w.v (record { fork = union_fork base (Some (a, c)); of = of; to = inl w.v_is }) within w.within in
              let most = w.at_most in
              record { v = base + k; v_is = refl; within = within; inside = w.inside; at_most = omega arith }
          | inr i ↦
              let w = shown c ys q below.1 b i in
              let falls = rank_falls (base + k) w.v (record { fork = union_fork base (Some (a, c)); of = of; to = inr w.v_is }) within w.within in
              let most = w.at_most in
              record { v = base + k; v_is = refl; within = within; inside = w.inside; at_most = omega arith }
        ]

    pub on_falls : (needs : List Need) → AreHeads table heads needs → (n m : Node) → Contains (on_of n needs) m → rank (number_of m) < rank (number_of n)
    on_falls needs h n m c =
        let inside : number_of n < base = h.inside n m c in
        let there : slice_get heads (number_of n) ≡ Some (get_or heads (number_of n) Empty) = slice_get-get_or heads (number_of n) Empty inside in
        let s : Set = get_or heads (number_of n) Empty in
        let w = shown s (on_of n needs) (h.reads n s there) (g.heads_below (number_of n) s there) m c in
        let long = base_within in
        let falls = rank_falls (number_of n) w.v (record { fork = head_fork base s; of = head_at (number_of n) s there; to = inl w.v_is }) (omega arith) w.within in
        let most = w.at_most in
        omega arith

    pub reach_falls : (core : Core) (needs : List Need) → AreNeeds core needs → AreHeads table heads needs → (n m : Node) → Reaches core n m → rank (number_of m) < rank (number_of n)
    reach_falls core needs are h _ _ (directly a b d) = on_falls needs h a b (are.there a b d)
    reach_falls core needs are h _ _ (through a b c d more) =
        let first = on_falls needs h a b (are.there a b d) in
        let rest = reach_falls core needs are h b c more in
        omega arith

    pub not_cyclic : (core : Core) (needs : List Need) → AreNeeds core needs → AreHeads table heads needs → Cyclic core → ⊥
    not_cyclic core needs are h c = let falls = reach_falls core needs are h c.0 c.0 c.1 in omega arith

    pub rank_small : (v : ℕ) → length graph < 2 ^ 31 - 1 → rank v < 2 ^ 31 - 1
    rank_small v few = elim (cases_lt v (length graph)) [
      | inl low ↦ let less = r.below v (rank v) (rank_at v low) in omega arith
      | inr high ↦
          let none : rank v ≡ 0 = Rattle.std.proofs.lemmas.List.get_or_past ranks v 0 (let size = r.size in omega arith) in
          omega arith
    ]

    first_parts : (nodes : List Node) → map (λ (p : Node × ℕ). p.0) (map (ranked ranks) nodes) ≡ nodes
    first_parts [] = refl
    first_parts (n ∷ ns) = ap (λ l. n ∷ l) (first_parts ns)

    rank_is : (nodes : List Node) (a : Node) (x : ℕ) → Contains (map (ranked ranks) nodes) (a, x) → x ≡ 2 * rank (number_of a) + 1
    rank_is [] a x h = absurd (in_none (a, x) h)
    rank_is (n ∷ ns) a x h = elim (in_cons (ranked ranks n) (a, x) (map (ranked ranks) ns) h) [
      | inl e ↦
          let same : n ≡ a = ap (λ (p : Node × ℕ). p.0) e in
          let is : 2 * rank (number_of n) + 1 ≡ x = ap (λ (p : Node × ℕ). p.1) e in
          sym is ∙ ap (λ (m : Node). 2 * rank (number_of m) + 1) same
      | inr i ↦ rank_is ns a x i
    ]

    in_order_with : (nodes : List Node) → Rising 0 nodes → AreInOrder (map (ranked ranks) nodes)
    in_order_with nodes rises i j d lt h =
        let long = length-map nodes (ranked ranks) in
        let less = rising_pairs 0 nodes rises i j d.0 lt (omega arith) in
        let first : number_of (get_or (map (ranked ranks) nodes) i d).0 ≡ number_of (get_or nodes i d.0) = ap (λ (p : Node × ℕ). number_of p.0) (get_or-map (ranked ranks) nodes i d.0 d (omega arith)) in
        let second : number_of (get_or (map (ranked ranks) nodes) j d).0 ≡ number_of (get_or nodes j d.0) = ap (λ (p : Node × ℕ). number_of p.0) (get_or-map (ranked ranks) nodes j d.0 d (omega arith)) in
        omega arith

    pub in_order : (core : Core) → AreInOrder (map (ranked ranks) (nodes_of core))
    in_order core = in_order_with (nodes_of core) (rising_from 0 (kinds_of core.objects))

    differ_with : (nodes : List Node) → Rising 0 nodes → AllPairs ◌≢◌ (map (λ (p : Node × ℕ). p.0) (map (ranked ranks) nodes))
    differ_with nodes rises = subst (λ (l : List Node). AllPairs ◌≢◌ l) (sym (first_parts nodes)) (rising_differ 0 nodes rises)

    odd_with : (nodes : List Node) → All (λ (p : Node × ℕ). p.1 % 2 ≡ 1) (map (ranked ranks) nodes)
    odd_with nodes = All-map (λ (p : Node × ℕ). p.1 % 2 ≡ 1) (ranked ranks) nodes (λ k d low. mul-add-mod_self_left 2 (rank (number_of (get_or nodes k d))) 1)

    small_rank : (n : Node) → length graph < 2 ^ 31 - 1 → 2 * rank (number_of n) + 1 < 2 ^ 32 - 1
    small_rank n few = let small = rank_small (number_of n) few in omega arith

    below_with : (nodes : List Node) → length graph < 2 ^ 31 - 1 → All (λ (p : Node × ℕ). p.1 < 2 ^ 32 - 1) (map (ranked ranks) nodes)
    below_with nodes few = All-map (λ (p : Node × ℕ). p.1 < 2 ^ 32 - 1) (ranked ranks) nodes (λ k d low. small_rank (get_or nodes k d) few)

    pub order_is : (core : Core) (needs : List Need) → AreNeeds core needs → AreHeads table heads needs → length graph < 2 ^ 31 - 1 → IsOrder core (map (ranked ranks) (nodes_of core))
    order_is core needs are h few = record {
      all = λ n i. subst (λ (l : List Node). Contains l n) (sym (first_parts (nodes_of core))) i;
      no_other = λ n i. subst (λ (l : List Node). Contains l n) (first_parts (nodes_of core)) i;
      once = differ_with (nodes_of core) (rising_from 0 (kinds_of core.objects));
      odd = odd_with (nodes_of core);
      below = below_with (nodes_of core) few;
      above = λ a b x y p q d.
          let high = rank_is (nodes_of core) a x p in
          let low = rank_is (nodes_of core) b y q in
          let falls = on_falls needs h a b (are.there a b d) in
          omega arith;
    }

  -- ---- cycles
  module _ (core : Core) (needs : List Need) (are : AreNeeds core needs) (h : AreHeads table heads needs) where
    -- a set of nodes that a node depends on
    record IsOn (a : Node) (s : Set) : Type 0 where
      nodes : List Node
      reads : Reads table s nodes
      on : (b : Node) → Contains nodes b → Contains (on_of a needs) b
      below : IsBelow base s

    record Step (a : Node) (w : ℕ) : Type 0 where
      set : Set
      number_is : number_in base set ≡ Some w
      on : IsOn a set

    step_head : (a : Node) (w : ℕ) → number_of a < base → Leads graph (number_of a) w → Step a w
    step_head a w low leads =
        let s : Set = get_or heads (number_of a) Empty in
        let there : slice_get heads (number_of a) ≡ Some s = slice_get-get_or heads (number_of a) Empty low in
        let of = head_at (number_of a) s there in
        let of_fork = leads.of in
        let fork_is : head_fork base s ≡ leads.fork = cc in
        let on : IsOn a s = record { nodes = on_of a needs; reads = h.reads a s there; on = λ b c. c; below = g.heads_below (number_of a) s there } in
        elim leads.to [
          | inl e ↦ record { set = s; number_is = ap (λ (f : Fork). f.first) fork_is ∙ e; on = on }
          | inr e ↦ absurd (some_none w (ap (λ (f : Fork). f.second) fork_is ∙ e))
        ]

    record Parts (k : ℕ) (xs : List Node) : Type 0 where
      left : Set
      right : Set
      is : slice_get table k ≡ Some (Some (left, right))
      left_nodes : List Node
      right_nodes : List Node
      left_reads : Reads table left left_nodes
      right_reads : Reads table right right_nodes
      both : left_nodes ++ right_nodes ≡ xs

    parts_of : (k : ℕ) (s : Set) (xs : List Node) → s ≡ Union k → Reads table s xs → Parts k xs
    parts_of k _ _ e no_member = absurd cc
    parts_of k _ _ e (one_member n) = absurd cc
    parts_of k _ _ e (members j a c xs ys is p q) =
        let same : j ≡ k = cc in
        record {
          left = a;
          right = c;
          is = ap (slice_get table) (sym same) ∙ is;
          left_nodes = xs;
          right_nodes = ys;
          left_reads = p;
          right_reads = q;
          both = refl;
        }

    step_union : (a : Node) (k w : ℕ) → IsOn a (Union k) → Leads graph (base + k) w → Step a w
    step_union a k w at leads =
        let parts = parts_of k (Union k) at.nodes refl at.reads in
        let of = union_at k (Some (parts.left, parts.right)) parts.is in
        let of_fork = leads.of in
        let fork_is : union_fork base (Some (parts.left, parts.right)) ≡ leads.fork = cc in
        let below = g.unions_below k (Some (parts.left, parts.right)) parts.is in
        elim leads.to [
          | inl e ↦ record {
            set = parts.left;
            number_is = ap (λ (f : Fork). f.first) fork_is ∙ e;
            on = record {
              nodes = parts.left_nodes;
              reads = parts.left_reads;
              on = λ b c. at.on b (subst (λ (l : List Node). Contains l b) parts.both (Contains-append_left parts.left_nodes parts.right_nodes b c));
              below = below.0;
            };
          }
          | inr e ↦ record {
            set = parts.right;
            number_is = ap (λ (f : Fork). f.second) fork_is ∙ e;
            on = record {
              nodes = parts.right_nodes;
              reads = parts.right_reads;
              on = λ b c. at.on b (subst (λ (l : List Node). Contains l b) parts.both (Contains-append_right parts.left_nodes parts.right_nodes b c));
              below = below.1;
            };
          }
        ]

    -- where a path stands behind a node: at the node, or at a union that the node depends on
    data At (a : Node) : ℕ → Type 0 where
      at_node : number_of a < base → At a (number_of a)
      at_union : (k : ℕ) → IsOn a (Union k) → At a (base + k)

    step : (a : Node) (v w : ℕ) → At a v → Leads graph v w → Step a w
    step a _ w (at_node low) leads = step_head a w low leads
    step a _ w (at_union k on) leads = step_union a k w on leads

    -- the set that a path comes to is a node or a union
    to_node : (a : Node) (s : Set) (xs : List Node) (w : ℕ) → Reads table s xs → ((b : Node) → Contains xs b → Contains (on_of a needs) b) → number_in base s ≡ Some w → w < base
        → Contains (on_of a needs) (node_of w)
    to_node a _ _ w no_member on is low = absurd cc
    to_node a _ _ w (one_member n) on is low =
        let same : number_of n ≡ w = cc in
        on (node_of w) (0, omega arith, sym (node_of_number n) ∙ ap node_of same)
    to_node a _ _ w (members k b c xs ys at p q) on is low = let same : base + k ≡ w = cc in absurd (omega arith)

    record Further (a : Node) (w : ℕ) : Type 0 where
      k : ℕ
      w_is : base + k ≡ w
      on : IsOn a (Union k)

    further : (a : Node) (s : Set) (w : ℕ) → IsOn a s → number_in base s ≡ Some w → base ≤ w → Further a w
    further a Empty w on is high = absurd cc
    further a (One n) w on is high = let same : number_of n ≡ w = cc in let low : number_of n < base = on.below in absurd (omega arith)
    further a (Union k) w on is high = let same : base + k ≡ w = cc in record { k = k; w_is = same; on = on }

    depends : (a : Node) (w : ℕ) → Step a w → w < base → Depends core a (node_of w)
    depends a w s low = are.back a (node_of w) (to_node a s.set s.on.nodes w s.on.reads s.on.on s.number_is low)

    follow : (rest : List ℕ) (a : Node) (v to : ℕ) → At a v → to < base → Along graph v rest to → core_spec.Leads core a (nodes_in base rest) (node_of to)
    follow [] a v to at low along = depends a to (step a v to at along) low
    follow (w ∷ rest) a v to at low along =
        let s = step a v w at along.0 in
        elim (cases_lt w base) [
          | inl front ↦
              let here : At (node_of w) w = subst (λ (x : ℕ). At (node_of w) x) (number_of_node w) (at_node (subst (λ (x : ℕ). x < base) (sym (number_of_node w)) front)) in
              subst (λ (l : List Node). core_spec.Leads core a l (node_of to)) (sym (in_front base w rest front))
              (depends a w s front, follow rest (node_of w) w to here low along.1)
          | inr high ↦
              let f = further a s.set w s.on s.number_is high in
              let here : At a w = subst (λ (x : ℕ). At a x) f.w_is (at_union f.k f.on) in
              subst (λ (l : List Node). core_spec.Leads core a l (node_of to)) (sym (not_in_front base w rest high)) (follow rest a w to here low along.1)
        ]

    pub cycle_is : (v : ℕ) (others : List ℕ) → graphs.IsCycle graph (v ∷ others) → v < base → IsCycle core (nodes_in base (v ∷ others))
    cycle_is v others c low =
        let here : At (node_of v) v = subst (λ (x : ℕ). At (node_of v) x) (number_of_node v) (at_node (subst (λ (x : ℕ). x < base) (sym (number_of_node v)) low)) in
        let front = in_front base v others low in
        subst (λ (l : List Node). IsCycle core l) (sym front) (record {
          leads = follow others (node_of v) v v here low c.along;
          distinct = subst (λ (l : List Node). AllPairs ◌≢◌ l) front (nodes_differ base (v ∷ others) c.distinct);
          least = least_place base v others c.least;
        })

-- ---- what is found
pub found_order : (core : Core) (heads : List Set) (table : Table) (graph : List Fork) (ranks : List ℕ) → HasHeads core table heads → IsGraphOf heads table graph → length graph < 2 ^ 31 - 1 → AreRanks graph ranks
    → IsFound core (found.Order (map (ranked ranks) (nodes_of core)))
found_order core heads table graph ranks h g few r = (
  order_is heads table graph g ranks r core h.needs h.are h.heads_are few,
  in_order heads table graph g ranks r core,
  not_cyclic heads table graph g ranks r core h.needs h.are h.heads_are,
)

pub found_cycle : (core : Core) (heads : List Set) (table : Table) (graph : List Fork) (cycle : List ℕ) → HasHeads core table heads → IsGraphOf heads table graph → graphs.IsCycle graph cycle
    → get_or cycle 0 0 < length heads → IsFound core (found.Cycle (nodes_in (length heads) cycle))
found_cycle core heads table graph [] h g c low = absurd c
found_cycle core heads table graph (v ∷ others) h g c low = cycle_is heads table graph g core h.needs h.are h.heads_are v others c low

pub links_of : (old new last : Gather) (e : Ends) (core : Core) (heads : List Set) → old.needs ≡ [] → Visits old new Empty e (statement core.main)
    → ((needs : List Need) → Aligned new.table new.needs needs → AreHeads last.table heads needs) → HasHeads core last.table heads
links_of old new last e core heads none v heads_are =
    let added_is : new.needs ≡ v.adds.added = v.adds.needs_are ∙ ap (λ l. l ++ v.adds.added) none in
    let reads : ReadNeeds new.table new.needs (needs_of core) =
    subst (λ (l : List (Node × Set)). ReadNeeds new.table l (needs_of core)) (sym added_is) (v.adds.says new.table [] (extends_itself new.table) no_member) in
    let l = listing_of new.table new.needs (needs_of core) reads in
    record { needs = l.all; are = are_needs core new.table new.needs l; heads_are = heads_are l.all l.aligned }

-- ---- with the lists as slices of them
pub small_by : (heads heads' : List Set) (table table' : Table) (graph graph' : List Fork) (ranks ranks' : List ℕ) → heads' ≡ heads → table' ≡ table → graph' ≡ graph → ranks' ≡ ranks
    → IsGraphOf heads' table' graph → length graph < 2 ^ 31 - 1 → AreRanks graph' ranks → (k : ℕ) → get_or ranks' k 0 < 2 ^ 31 - 1
small_by heads heads' table table' graph graph' ranks ranks' h_is t_is g_is r_is g few r k =
    let r_of = subst (λ (x : List Fork). AreRanks x ranks) g_is r in
    subst (λ (x : List ℕ). get_or x k 0 < 2 ^ 31 - 1) (sym r_is) (rank_small heads' table' graph g ranks r_of k few)

pub order_by : (core : Core) (heads heads' : List Set) (table table' : Table) (graph graph' : List Fork) (ranks ranks' : List ℕ) (objects : List Object) (nodes nodes' : List Node) (pairs : List (Node × ℕ))
    → heads' ≡ heads → table' ≡ table → graph' ≡ graph → ranks' ≡ ranks → objects ≡ core.objects → nodes' ≡ nodes → HasHeads core table heads → IsGraphOf heads' table' graph
    → length graph < 2 ^ 31 - 1 → AreRanks graph' ranks → nodes ≡ nodes_from 0 (kinds_of objects) → pairs ≡ map (ranked ranks') nodes' → IsFound core (found.Order pairs)
order_by core heads heads' table table' graph graph' ranks ranks' objects nodes nodes' pairs h_is t_is g_is r_is o_is n_is h g few r nodes_are pairs_are =
    let g_heads = subst (λ (x : List Set). IsGraphOf x table' graph) h_is g in
    let g_of = subst (λ (x : Table). IsGraphOf heads x graph) t_is g_heads in
    let r_of = subst (λ (x : List Fork). AreRanks x ranks) g_is r in
    let all : nodes' ≡ nodes_of core = n_is ∙ nodes_are ∙ ap (λ (x : List Object). nodes_from 0 (kinds_of x)) o_is in
    let is : pairs ≡ map (ranked ranks) (nodes_of core) = pairs_are ∙ ap (λ (x : List ℕ). map (ranked x) nodes') r_is ∙ ap (λ (x : List Node). map (ranked ranks) x) all in
    subst (λ (x : List (Node × ℕ)). IsFound core (found.Order x)) (sym is) (found_order core heads table graph ranks h g_of few r_of)

pub cycle_by : (core : Core) (heads heads' : List Set) (table table' : Table) (graph graph' : List Fork) (cycle cycle' : List ℕ) (base : ℕ) (nodes : List Node) → heads' ≡ heads → table' ≡ table
    → graph' ≡ graph → cycle' ≡ cycle → base ≡ length heads → HasHeads core table heads → IsGraphOf heads' table' graph → graphs.IsCycle graph' cycle → nodes ≡ nodes_in base cycle' → get_or cycle' 0 0 < base
    → IsFound core (found.Cycle nodes)
cycle_by core heads heads' table table' graph graph' cycle cycle' base nodes h_is t_is g_is c_is b_is h g c nodes_are low =
    let g_heads = subst (λ (x : List Set). IsGraphOf x table' graph) h_is g in
    let g_of = subst (λ (x : Table). IsGraphOf heads x graph) t_is g_heads in
    let c_of = subst (λ (x : List Fork). graphs.IsCycle x cycle) g_is c in
    let low_of = subst (λ (x : List ℕ). get_or x 0 0 < base) c_is low in
    let is : nodes ≡ nodes_in (length heads) cycle = nodes_are ∙ ap (λ (x : List ℕ). nodes_in base x) c_is ∙ ap (λ (x : ℕ). nodes_in x cycle) b_is in
    subst (λ (x : List Node). IsFound core (found.Cycle x)) (sym is) (found_cycle core heads table graph cycle h g_of c_of (omega arith))
