-- The numbers of nodes, and the nodes of a core in their order.
use Rattle.std.proofs.Common.{◌≡◌, ◌≢◌, inl, inr, ◌<◌, ◌≤◌, ℕ, zero, suc, ◌+◌, ◌*◌, ◌/◌, ◌%◌, ltb, List, [], ◌∷◌, ◌++◌, length, get_or, Bool, true, false, refl, sym, ap, ◌∙◌, subst, arith}
use Rattle.std.specs.Prelude.{All, AllPairs}
use Rattle.std.specs.List.{Contains}
use Rattle.std.proofs.Math.Nat.{mod-lt, div-add-mod}
use Rattle.std.proofs.lemmas.Bool.{cases_lt, lt-ltb, ltb-true}
use Rattle.std.proofs.lemmas.List.{get_or_default}
use Rattle.hc_tree.specs.declared.refusal.Node.{Node}
use Rattle.hc_tree.specs.declared.refusal.Node.TheVariants.{Value, Sends, Receives}
use Rattle.hc_core.specs.Depends.{place_of}
use Rattle.hc_core.specs.Instant.{nodes_from, where_it}
use Rattle.hc_core.specs.declared.object.Kind.{Kind}
use Rattle.hc_core.specs.declared.object.Kind.TheVariants as kind
use Rattle.hc_cycle.specs.Ranks.{number_of}
use Rattle.hc_cycle.specs.Links.{node_at, node_of, nodes_in}
use Rattle.hc_cycle.proofs.Needs.{number_injective, in_none, in_head, in_rest, in_cons}

-- ---- the node that has a number
number_at : (k r : ℕ) → r < 3 → number_of (node_at k r) ≡ 3 * k + r
number_at k zero h = omega arith
number_at k (suc zero) h = omega arith
number_at k (suc (suc zero)) h = omega arith
number_at k (suc (suc (suc r))) h = absurd (omega arith)

pub number_of_node : (v : ℕ) → number_of (node_of v) ≡ v
number_of_node v = number_at (v / 3) (v % 3) (mod-lt v {m = 3} (omega arith)) ∙ div-add-mod v 3

pub node_of_number : (n : Node) → node_of (number_of n) ≡ n
node_of_number n = number_injective (node_of (number_of n)) n (number_of_node (number_of n))

pub places_rise : (a b : Node) → number_of a ≤ number_of b → place_of a ≤ place_of b
places_rise (Value j) (Value k) h = omega arith
places_rise (Value j) (Sends k) h = omega arith
places_rise (Value j) (Receives k) h = omega arith
places_rise (Sends j) (Value k) h = omega arith
places_rise (Sends j) (Sends k) h = omega arith
places_rise (Sends j) (Receives k) h = omega arith
places_rise (Receives j) (Value k) h = omega arith
places_rise (Receives j) (Sends k) h = omega arith
places_rise (Receives j) (Receives k) h = omega arith

-- ---- lists whose numbers rise from a least one
abbrev pub Rising : ℕ → List Node → Type 0
Rising b [] = Unit {0}
Rising b (n ∷ ns) = (b ≤ number_of n) × Rising (number_of n + 1) ns

rising_lower : (b c : ℕ) (ns : List Node) → b ≤ c → Rising c ns → Rising b ns
rising_lower b c [] h r = tt
rising_lower b c (n ∷ ns) h r = (let low = r.0 in omega arith, r.1)

pub rising_from : (k : ℕ) (kinds : List Kind) → Rising (3 * k) (nodes_from k kinds)
rising_from k [] = tt
rising_from k (kind.Reg w s init ∷ kinds) = rising_lower (3 * k) (3 * (k + 1)) (nodes_from (k + 1) kinds) (omega arith) (rising_from (k + 1) kinds)
rising_from k (kind.Array w s n init ∷ kinds) = rising_lower (3 * k) (3 * (k + 1)) (nodes_from (k + 1) kinds) (omega arith) (rising_from (k + 1) kinds)
rising_from k (kind.Ram w s n init ∷ kinds) = (omega arith, rising_lower (3 * k + 1) (3 * (k + 1)) (nodes_from (k + 1) kinds) (omega arith) (rising_from (k + 1) kinds))
rising_from k (kind.Rom w s n init ∷ kinds) = (omega arith, rising_lower (3 * k + 1) (3 * (k + 1)) (nodes_from (k + 1) kinds) (omega arith) (rising_from (k + 1) kinds))
rising_from k (kind.Signal w s unset ∷ kinds) = (omega arith, rising_lower (3 * k + 1) (3 * (k + 1)) (nodes_from (k + 1) kinds) (omega arith) (rising_from (k + 1) kinds))
rising_from k (kind.Chan w s queue ∷ kinds) =
    (omega arith, (omega arith, rising_lower (3 * k + 2 + 1) (3 * (k + 1)) (nodes_from (k + 1) kinds) (omega arith) (rising_from (k + 1) kinds)))
rising_from k (kind.Input w s pins ∷ kinds) = rising_lower (3 * k) (3 * (k + 1)) (nodes_from (k + 1) kinds) (omega arith) (rising_from (k + 1) kinds)
rising_from k (kind.Output w s pins value ∷ kinds) = rising_lower (3 * k) (3 * (k + 1)) (nodes_from (k + 1) kinds) (omega arith) (rising_from (k + 1) kinds)

rising_least : (b : ℕ) (ns : List Node) → Rising b ns → (j : ℕ) (d : Node) → j < length ns → b ≤ number_of (get_or ns j d)
rising_least b [] r j d h = absurd (omega arith)
rising_least b (n ∷ ns) r zero d h = r.0
rising_least b (n ∷ ns) r (suc j) d h =
    let rest = rising_least (number_of n + 1) ns r.1 j d (omega arith) in
    let low = r.0 in
    omega arith

pub rising_pairs : (b : ℕ) (ns : List Node) → Rising b ns → (i j : ℕ) (d : Node) → i < j → j < length ns → number_of (get_or ns i d) < number_of (get_or ns j d)
rising_pairs b [] r i j d lt h = absurd (omega arith)
rising_pairs b (n ∷ ns) r i zero d lt h = absurd (omega arith)
rising_pairs b (n ∷ ns) r zero (suc j) d lt h = let rest = rising_least (number_of n + 1) ns r.1 j d (omega arith) in omega arith
rising_pairs b (n ∷ ns) r (suc i) (suc j) d lt h = rising_pairs (number_of n + 1) ns r.1 i j d (omega arith) (omega arith)

pub rising_differ : (b : ℕ) (ns : List Node) → Rising b ns → AllPairs ◌≢◌ ns
rising_differ b ns r i j d lt h e =
    let less = rising_pairs b ns r i j d lt h in
    let same : number_of (get_or ns i d) ≡ number_of (get_or ns j d) = ap number_of e in
    omega arith

-- ---- the nodes among nodes of a graph
false_of : (x : Bool) → (x ≡ true → ⊥) → x ≡ false
false_of true h = absurd (h refl)
false_of false h = refl

pub in_front : (base v : ℕ) (rest : List ℕ) → v < base → nodes_in base (v ∷ rest) ≡ node_of v ∷ nodes_in base rest
in_front base v rest h = ap (λ b. where_it b (node_of v ∷ []) ++ nodes_in base rest) (lt-ltb v base h)

pub not_in_front : (base v : ℕ) (rest : List ℕ) → base ≤ v → nodes_in base (v ∷ rest) ≡ nodes_in base rest
not_in_front base v rest h = ap (λ b. where_it b (node_of v ∷ []) ++ nodes_in base rest) (false_of (ltb v base) (λ e. let less = ltb-true v base e in omega arith))

pub node_among : (base : ℕ) (vs : List ℕ) (n : Node) → Contains (nodes_in base vs) n → Contains vs (number_of n)
node_among base [] n h = absurd (in_none n h)
node_among base (v ∷ vs) n h = elim (cases_lt v base) [
  | inl low ↦ elim (in_cons (node_of v) n (nodes_in base vs) (subst (λ (l : List Node). Contains l n) (in_front base v vs low) h)) [
    | inl e ↦ subst (λ (w : ℕ). Contains (v ∷ vs) w) (sym (number_of_node v) ∙ ap number_of e) (in_head v vs)
    | inr i ↦ in_rest v (number_of n) vs (node_among base vs n i)
  ]
  | inr high ↦ in_rest v (number_of n) vs (node_among base vs n (subst (λ (l : List Node). Contains l n) (not_in_front base v vs high) h))
]

differ_first : (v : ℕ) (vs : List ℕ) → AllPairs ◌≢◌ (v ∷ vs) → Contains vs v → ⊥
differ_first v vs h (k, low, is) = h 0 (suc k) v (omega arith) (omega arith) (sym is)

differ_rest : {X : Type 0} (v : X) (vs : List X) → AllPairs ◌≢◌ (v ∷ vs) → AllPairs ◌≢◌ vs
differ_rest v vs h i j d lt low = h (suc i) (suc j) d (omega arith) (omega arith)

differ_more : (n : Node) (ns : List Node) → (Contains ns n → ⊥) → AllPairs ◌≢◌ ns → AllPairs ◌≢◌ (n ∷ ns)
differ_more n ns fresh h i zero d lt low = absurd (omega arith)
differ_more n ns fresh h zero (suc j) d lt low = λ e. fresh (j, omega arith, get_or_default ns j n d (omega arith) ∙ sym e)
differ_more n ns fresh h (suc i) (suc j) d lt low = h i j d (omega arith) (omega arith)

pub nodes_differ : (base : ℕ) (vs : List ℕ) → AllPairs ◌≢◌ vs → AllPairs ◌≢◌ (nodes_in base vs)
nodes_differ base [] h = λ i j d lt low. absurd (omega arith)
nodes_differ base (v ∷ vs) h = elim (cases_lt v base) [
  | inl low ↦ subst (λ (l : List Node). AllPairs ◌≢◌ l) (sym (in_front base v vs low))
      (differ_more (node_of v) (nodes_in base vs)
      (λ c. differ_first v vs h (subst (λ (w : ℕ). Contains vs w) (number_of_node v) (node_among base vs (node_of v) c)))
      (nodes_differ base vs (differ_rest v vs h)))
  | inr high ↦ subst (λ (l : List Node). AllPairs ◌≢◌ l) (sym (not_in_front base v vs high)) (nodes_differ base vs (differ_rest v vs h))
]

all_of : {X : Type 0} (P : X → Type 0) (xs : List X) → ((x : X) → Contains xs x → P x) → All P xs
all_of P xs h k d low = h (get_or xs k d) (k, low, get_or_default xs k (get_or xs k d) d low)

at_of : (P : ℕ → Type 0) (xs : List ℕ) (x : ℕ) → All P xs → Contains xs x → P x
at_of P xs x h (k, low, is) = subst P is (h k x low)

-- the first of a cycle is the least of its nodes
pub least_place : (base v : ℕ) (others : List ℕ) → All (λ n. v ≤ n) others → All (λ n. place_of (node_of v) ≤ place_of n) (nodes_in base others)
least_place base v others h = all_of (λ n. place_of (node_of v) ≤ place_of n) (nodes_in base others) (λ n c.
    let low : v ≤ number_of n = at_of (λ w. v ≤ w) others (number_of n) h (node_among base others n c) in
    places_rise (node_of v) n (subst (λ (w : ℕ). w ≤ number_of n) (sym (number_of_node v)) low))
