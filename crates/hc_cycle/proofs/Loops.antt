-- What the loops of the graph keep.
use Rattle.std.proofs.Common.{◌≡◌, inl, inr, ◌<◌, ◌≤◌, ℕ, zero, suc, ◌+◌, ◌*◌, List, [], ◌∷◌, ◌++◌, length, map, get_or, take, drop, Some, true, refl, sym, ap, ◌∙◌, subst, arith, add-one}
use Rattle.std.specs.Prelude.{All, slice_get, nat_lt}
use Rattle.std.proofs.Math.Seq.{drop-cons}
use Rattle.std.proofs.lemmas.List.{append-nil, append_assoc, map-append, take_more, take_all, length_push}
use Rattle.std.specs.List.{Contains}
use Rattle.std.proofs.lemmas.List.Elements.{All-append, Contains-append_left, Contains-append_right}
use Rattle.std.proofs.lemmas.Option.{slice_get-get_or, slice_get_within}
use Rattle.std.proofs.lemmas.Bool.{cases_lt}
use Rattle.hc_tree.specs.declared.refusal.Node.{Node}
use Rattle.hc_tree.specs.declared.refusal.Node.TheVariants.{Value, Sends, Receives}
use Rattle.hc_core.specs.Instant.{kind_nodes, nodes_from, where_it}
use Rattle.hc_core.specs.Typed.{kinds_of}
use Rattle.hc_core.specs.declared.object.Kind.{Kind}
use Rattle.hc_core.specs.declared.object.Kind.TheVariants as kind
use Rattle.hc_core.specs.declared.object.Object.{Object}
use Rattle.hc_core.specs.declared.object.Core.{Core}
use Rattle.hc_graph.specs.declared.graph.Fork.{Fork}
use Rattle.hc_cycle.specs.Links.{node_of, nodes_in}
use Rattle.hc_cycle.specs.Order.{object_of}
use Rattle.hc_cycle.specs.Found.{AddsName, has_node, IsNamed}
use Rattle.hc_cycle.specs.declared.sets.Set.{Set}
use Rattle.hc_cycle.specs.declared.sets.Set.TheVariants.{Empty}
use Rattle.hc_cycle.proofs.Needs.{in_head, in_rest}

-- ---- empty sets
abbrev pub AreEmpty : List Set → Type 0
AreEmpty sets = (k : ℕ) (s : Set) → slice_get sets k ≡ Some s → s ≡ Empty

empty_more : (sets : List Set) → AreEmpty sets → AreEmpty (sets ++ Empty ∷ [])
empty_more [] h zero s e = cc
empty_more [] h (suc k) s e = absurd cc
empty_more (x ∷ xs) h zero s e = h zero s e
empty_more (x ∷ xs) h (suc k) s e = empty_more xs (λ j r f. h (suc j) r f) k s e

pub record NoSets (sets : List Set) (i : ℕ) : Type 0 where
  pub size : length sets ≡ 3 * i
  pub empty : AreEmpty sets

empty_next : (sets more : List Set) → AreEmpty sets → more ≡ sets ++ Empty ∷ [] → AreEmpty more
empty_next sets more h is = subst (λ (l : List Set). AreEmpty l) (sym is) (empty_more sets h)

long_next : (sets more : List Set) → more ≡ sets ++ Empty ∷ [] → length more ≡ length sets + 1
long_next sets more is = ap length is ∙ length_push sets Empty

pub no_sets_next : (a b c d : List Set) (i : ℕ) → NoSets a i → b ≡ a ++ Empty ∷ [] → c ≡ b ++ Empty ∷ [] → d ≡ c ++ Empty ∷ [] → NoSets d (i + 1)
no_sets_next a b c d i h p q r = record {
  size =
      let size = h.size in
      let first = long_next a b p in
      let second = long_next b c q in
      let third = long_next c d r in
      omega arith;
  empty = empty_next c d (empty_next b c (empty_next a b h.empty p) q) r;
}

-- ---- forks
pub record ForksLeft {X : Type 0} (f : X → Fork) (P : X → Type 0) (xs : List X) (i : ℕ) (old now : List Fork) : Type 0 where
  pub forks_are : now ≡ old ++ map f (take i xs)
  pub holds : (k : ℕ) (x : X) → k < i → slice_get xs k ≡ Some x → P x

pub forks_start : {X : Type 0} (f : X → Fork) (P : X → Type 0) (xs : List X) (old : List Fork) → ForksLeft f P xs 0 old old
forks_start f P xs old = record { forks_are = sym (append-nil old); holds = λ k x low is. absurd (omega arith) }

pub forks_next : {X : Type 0} (f : X → Fork) (P : X → Type 0) (xs : List X) (i : ℕ) (d : X) (old now next : List Fork) (fork : Fork) → i < length xs → ForksLeft f P xs i old now
    → next ≡ now ++ fork ∷ [] → fork ≡ f (get_or xs i d) → P (get_or xs i d) → ForksLeft f P xs (i + 1) old next
forks_next {X} f P xs i d old now next fork low left is fork_is here = record {
  forks_are =
      is ∙ ap (λ x. now ++ x ∷ []) fork_is ∙ ap (λ l. l ++ f (get_or xs i d) ∷ []) left.forks_are ∙ append_assoc old (map f (take i xs)) (f (get_or xs i d) ∷ [])
      ∙ ap (λ l. old ++ l) (sym (map-append f (take i xs) (get_or xs i d ∷ []))) ∙ ap (λ l. old ++ map f l) (sym (take_more xs i d low));
  holds = λ k x less at. elim (cases_lt k i) [
    | inl before ↦ left.holds k x before at
    | inr behind ↦
        let same : k ≡ i = omega arith in
        let there : slice_get xs i ≡ Some (get_or xs i d) = slice_get-get_or xs i d low in
        let at_i : slice_get xs i ≡ Some x = ap (slice_get xs) (sym same) ∙ at in
        let is_x : get_or xs i d ≡ x = cc in
        subst P is_x here
  ];
}

pub forks_end : {X : Type 0} (f : X → Fork) (P : X → Type 0) (xs : List X) (i : ℕ) (old now : List Fork) → length xs ≤ i → ForksLeft f P xs i old now
    → (now ≡ old ++ map f xs) × ((k : ℕ) (x : X) → slice_get xs k ≡ Some x → P x)
forks_end f P xs i old now far left = (
  left.forks_are ∙ ap (λ l. old ++ map f l) (take_all i xs far),
  λ k x at. left.holds k x (let within = slice_get_within xs k x at in omega arith) at,
)

-- ---- the nodes of objects
pub record NodesLeft (objects : List Object) (i k : ℕ) (nodes : List Node) : Type 0 where
  pub number_is : k ≡ i
  pub whole : nodes ++ nodes_from k (kinds_of (drop i objects)) ≡ nodes_from 0 (kinds_of objects)

pub nodes_next : (objects : List Object) (i k : ℕ) (o : Object) (nodes next : List Node) → i < length objects → o ≡ get_or objects i o → NodesLeft objects i k nodes
    → next ≡ nodes ++ kind_nodes k o.kind → NodesLeft objects (i + 1) (k + 1) next
nodes_next objects i k o nodes next low item left is =
    let split : drop i objects ≡ o ∷ drop (i + 1) objects =
    drop-cons objects i o low ∙ ap (λ x. x ∷ drop (suc i) objects) (sym item) ∙ ap (λ n. o ∷ drop n objects) (sym (add-one i)) in
    record {
      number_is = let e = left.number_is in omega arith;
      whole = ap (λ l. l ++ nodes_from (k + 1) (kinds_of (drop (i + 1) objects))) is
          ∙ append_assoc nodes (kind_nodes k o.kind) (nodes_from (k + 1) (kinds_of (drop (i + 1) objects)))
          ∙ sym (ap (λ l. nodes ++ nodes_from k (kinds_of l)) split) ∙ left.whole;
    }

drop_past : {X : Type 0} (xs : List X) (i : ℕ) → length xs ≤ i → drop i xs ≡ []
drop_past [] zero h = refl
drop_past [] (suc i) h = refl
drop_past (x ∷ xs) zero h = absurd (omega arith)
drop_past (x ∷ xs) (suc i) h = drop_past xs i (omega arith)

pub nodes_end : (objects : List Object) (i k : ℕ) (nodes : List Node) → length objects ≤ i → NodesLeft objects i k nodes → nodes ≡ nodes_from 0 (kinds_of objects)
nodes_end objects i k nodes far left = sym (append-nil nodes) ∙ sym (ap (λ l. nodes ++ nodes_from k (kinds_of l)) (drop_past objects i far)) ∙ left.whole

-- ---- the nodes of a cycle
pub nodes_in_both : (base : ℕ) (xs ys : List ℕ) → nodes_in base (xs ++ ys) ≡ nodes_in base xs ++ nodes_in base ys
nodes_in_both base [] ys = refl
nodes_in_both base (x ∷ xs) ys =
    ap (λ l. where_it (nat_lt x base) (node_of x ∷ []) ++ l) (nodes_in_both base xs ys)
    ∙ sym (append_assoc (where_it (nat_lt x base) (node_of x ∷ [])) (nodes_in base xs) (nodes_in base ys))

pub cycle_next : (base : ℕ) (cycle : List ℕ) (i d : ℕ) (nodes next : List Node) → i < length cycle → nodes ≡ nodes_in base (take i cycle) → next ≡ nodes ++ nodes_in base (get_or cycle i d ∷ [])
    → next ≡ nodes_in base (take (i + 1) cycle)
cycle_next base cycle i d nodes next low left is =
    is ∙ ap (λ l. l ++ nodes_in base (get_or cycle i d ∷ [])) left ∙ sym (nodes_in_both base (take i cycle) (get_or cycle i d ∷ [])) ∙ ap (nodes_in base) (sym (take_more cycle i d low))

pub cycle_end : (base : ℕ) (cycle : List ℕ) (i : ℕ) (nodes : List Node) → length cycle ≤ i → nodes ≡ nodes_in base (take i cycle) → nodes ≡ nodes_in base cycle
cycle_end base cycle i nodes far left = left ∙ ap (nodes_in base) (take_all i cycle far)

-- ---- names
pub record NamesLeft (core : Core) (nodes : List Node) (i : ℕ) (named : List (Node × List ℕ)) : Type 0 where
  pub nodes_are : map (λ (n : Node × List ℕ). n.0) named ≡ take i nodes
  pub names : All (IsNamed core) named

all_one : (core : Core) (n : Node × List ℕ) → IsNamed core n → All (IsNamed core) (n ∷ [])
all_one core n h zero d low = h
all_one core n h (suc k) d low = absurd (omega arith)

pub names_start : (core : Core) (nodes : List Node) → NamesLeft core nodes 0 []
names_start core nodes = record { nodes_are = refl; names = λ k d low. absurd (omega arith) }

pub names_next : (core : Core) (nodes : List Node) (i : ℕ) (d : Node) (named next : List (Node × List ℕ)) → i < length nodes → NamesLeft core nodes i named → AddsName core named next (get_or nodes i d)
    → NamesLeft core nodes (i + 1) next
names_next core nodes i d named next low left add = record {
  nodes_are =
      ap (map (λ (n : Node × List ℕ). n.0)) add.new_is ∙ map-append (λ (n : Node × List ℕ). n.0) named ((get_or nodes i d, add.name) ∷ [])
      ∙ ap (λ l. l ++ get_or nodes i d ∷ []) left.nodes_are ∙ sym (take_more nodes i d low);
  names = subst (λ (l : List (Node × List ℕ)). All (IsNamed core) l) (sym add.new_is)
      (All-append (IsNamed core) named ((get_or nodes i d, add.name) ∷ []) left.names (all_one core (get_or nodes i d, add.name) add.named));
}

pub names_end : (core : Core) (nodes : List Node) (i : ℕ) (named : List (Node × List ℕ)) → length nodes ≤ i → NamesLeft core nodes i named → map (λ (n : Node × List ℕ). n.0) named ≡ nodes
names_end core nodes i named far left = left.nodes_are ∙ take_all i nodes far

-- ---- the nodes that an object has
kind_has : (x : Kind) (n : Node) → has_node x n ≡ true → Contains (kind_nodes (object_of n) x) n
kind_has (kind.Reg w s init) n e = absurd cc
kind_has (kind.Array w s l init) n e = absurd cc
kind_has (kind.Ram w s l init) (Value k) e = in_head (Value k) []
kind_has (kind.Ram w s l init) (Sends k) e = absurd cc
kind_has (kind.Ram w s l init) (Receives k) e = absurd cc
kind_has (kind.Rom w s l init) (Value k) e = in_head (Value k) []
kind_has (kind.Rom w s l init) (Sends k) e = absurd cc
kind_has (kind.Rom w s l init) (Receives k) e = absurd cc
kind_has (kind.Signal w s unset) (Value k) e = in_head (Value k) []
kind_has (kind.Signal w s unset) (Sends k) e = absurd cc
kind_has (kind.Signal w s unset) (Receives k) e = absurd cc
kind_has (kind.Chan w s queue) (Value k) e = absurd cc
kind_has (kind.Chan w s queue) (Sends k) e = in_head (Sends k) (Receives k ∷ [])
kind_has (kind.Chan w s queue) (Receives k) e = in_rest (Sends k) (Receives k) (Receives k ∷ []) (in_head (Receives k) [])
kind_has (kind.Input w s pins) n e = absurd cc
kind_has (kind.Output w s pins value) n e = absurd cc

node_from : (b i : ℕ) (objects : List Object) (o : Object) (n : Node) → slice_get objects i ≡ Some o → object_of n ≡ b + i → Contains (kind_nodes (object_of n) o.kind) n
    → Contains (nodes_from b (kinds_of objects)) n
node_from b i [] o n e at h = absurd cc
node_from b zero (x ∷ xs) o n e at h =
    let is : x ≡ o = cc in
    let k : object_of n ≡ b = omega arith in
    Contains-append_left (kind_nodes b x.kind) (nodes_from (b + 1) (kinds_of xs)) n
    (subst (λ (y : Object). Contains (kind_nodes b y.kind) n) (sym is) (subst (λ (j : ℕ). Contains (kind_nodes j o.kind) n) k h))
node_from b (suc i) (x ∷ xs) o n e at h =
    Contains-append_right (kind_nodes b x.kind) (nodes_from (b + 1) (kinds_of xs)) n (node_from (b + 1) i xs o n e (omega arith) h)

pub named_more : (core : Core) (o : Object) (n : Node) (name : List ℕ) (old new : List (Node × List ℕ)) → slice_get core.objects (object_of n) ≡ Some o → has_node o.kind n ≡ true → name ≡ o.name
    → new ≡ old ++ (n, name) ∷ [] → AddsName core old new n
named_more core o n name old new at has name_is new_is = record {
  name = name;
  new_is = new_is;
  named = record { node_is = node_from 0 (object_of n) core.objects o n at (omega arith) (kind_has o.kind n has); object = o; object_is = at; name_is = name_is };
}
