-- The levels of nets, and that in their order each net stands after those that it reads.
use Rattle.std.proofs.Common.{◌≡◌, ◌<◌, ◌≤◌, ℕ, zero, ◌+◌, ◌⊎◌, List, [], ◌∷◌, ◌++◌, length, true, Option, Some, None, get_or, refl, ap, ap₂, sym, ◌∙◌, subst, inl, inr, arith, max, Ordering}
use Rattle.std.specs.List.{All}
use Rattle.std.specs.List.Sorted.{IsPermutation, IsSorted}
use Rattle.std.specs.Ordering.{nat_cmp, is_lt, on, then_cmp}
use Rattle.std.specs.Cmp.{IsTotalOrder}
use Rattle.std.proofs.lemmas.Cmp.{then_total, on_total, nat_cmp_total}
use Rattle.std.proofs.lemmas.List.{get_or_append_left, get_or_push, get_or_past, length_push, get_or_default}
use Rattle.std.proofs.lemmas.List.Elements.{Contains-get_or}
use Rattle.std.proofs.lemmas.List.Sorted.{ranks_by, sorted_far, All-permutation, Contains-permutation}
use Rattle.std.proofs.lemmas.Bool.{cases_lt, lt-ltb, le-ltb, eq-eqb, false≢true}
use Rattle.hc_net.specs.Circuit.{node_at, AreRams}
use Rattle.hc_net.specs.Seal.{Within}
use Rattle.hc_net.specs.Seal.Within.{input, flop, wire, ram, zero, one, negation, conjunction, disjunction, exclusion}
use Rattle.hc_net.specs.Order.{GateReads, Reads, entry_at, level_at, gate_level, node_level, AreLevels, IsOrder, AreDriven, IfGate, GatesReadEarlier, HasRank, HaveRanks}
use Rattle.hc_net.specs.declared.node.Node.{Node}
use Rattle.hc_net.specs.declared.node.Node.TheVariants.{Input, Flop, Wire, Gate, Ram}
use Rattle.hc_net.specs.declared.ram.RamCell.{RamCell}
use Rattle.hc_net.specs.declared.gate.GateKind.{GateKind}
use Rattle.hc_net.specs.declared.gate.GateKind.TheVariants as kind
use Rattle.hc_net.specs.declared.seal.order.Leveled.{Leveled}

pub gate_reads_weaker : (P Q : ℕ → Type 0) (g : GateKind) (a b : ℕ) → ((x : ℕ) → P x → Q x) → GateReads P g a b → GateReads Q g a b
gate_reads_weaker P Q kind.Zero a b w r = tt
gate_reads_weaker P Q kind.One a b w r = tt
gate_reads_weaker P Q kind.Not a b w r = w a r
gate_reads_weaker P Q kind.And a b w r = (w a r.0, w b r.1)
gate_reads_weaker P Q kind.Or a b w r = (w a r.0, w b r.1)
gate_reads_weaker P Q kind.Xor a b w r = (w a r.0, w b r.1)

pub reads_weaker : (P Q : ℕ → Type 0) (n : Node) → ((x : ℕ) → P x → Q x) → Reads P n → Reads Q n
reads_weaker P Q (Input p i) w r = tt
reads_weaker P Q (Flop name init d) w r = tt
reads_weaker P Q (Wire rank None) w r = tt
reads_weaker P Q (Wire rank (Some d)) w r = w d r
reads_weaker P Q (Gate g a b) w r = gate_reads_weaker P Q g a b w r
reads_weaker P Q (Ram rank first None) w r = w first r
reads_weaker P Q (Ram rank first (Some m)) w r = λ i d within. w _ (r i d within)

pub if_gate_weaker : (P Q : ℕ → Type 0) (n : Node) → ((x : ℕ) → P x → Q x) → IfGate (GateReads P) n → IfGate (GateReads Q) n
if_gate_weaker P Q (Input p i) w r = tt
if_gate_weaker P Q (Flop name init d) w r = tt
if_gate_weaker P Q (Wire rank from) w r = tt
if_gate_weaker P Q (Gate g a b) w r = gate_reads_weaker P Q g a b w r
if_gate_weaker P Q (Ram rank first m) w r = tt

abbrev leveled : ℕ → ℕ → Leveled
leveled level net = record { level = level; net = net }

-- a new entry leaves the levels of the others
level_push : (levels : List Leveled) (e : Leveled) (k : ℕ) → k < length levels → level_at (levels ++ e ∷ []) k ≡ level_at levels k
level_push levels e k h = ap (λ (x : Leveled). x.level) (get_or_append_left levels (e ∷ []) _ k h)

node_level_push : (levels : List Leveled) (e : Leveled) (n : Node) → IfGate (GateReads (λ k. k < length levels)) n → node_level (levels ++ e ∷ []) n ≡ node_level levels n
node_level_push levels e (Input p i) r = refl
node_level_push levels e (Flop name init d) r = refl
node_level_push levels e (Wire rank from) r = refl
node_level_push levels e (Ram rank first m) r = refl
node_level_push levels e (Gate kind.Zero a b) r = refl
node_level_push levels e (Gate kind.One a b) r = refl
node_level_push levels e (Gate kind.Not a b) r = level_push levels e a r
node_level_push levels e (Gate kind.And a b) r = ap₂ max (level_push levels e a r.0) (level_push levels e b r.1)
node_level_push levels e (Gate kind.Or a b) r = ap₂ max (level_push levels e a r.0) (level_push levels e b r.1)
node_level_push levels e (Gate kind.Xor a b) r = ap₂ max (level_push levels e a r.0) (level_push levels e b r.1)

pub levels_more : (nodes : List Node) (levels : List Leveled) (i : ℕ) (e : Leveled) → GatesReadEarlier nodes → i < length nodes → length levels ≡ i → ((k : ℕ) → k < i → entry_at levels k ≡ record { level = node_level levels (node_at nodes k); net = k }) → e ≡ record { level = node_level levels (node_at nodes i); net = i } → (k : ℕ) → k < i + 1 → entry_at (levels ++ e ∷ []) k ≡ record { level = node_level (levels ++ e ∷ []) (node_at nodes k); net = k }
levels_more nodes levels i e gates within size each is k below =
    let same : node_level (levels ++ e ∷ []) (node_at nodes k) ≡ node_level levels (node_at nodes k) = node_level_push levels e (node_at nodes k) (if_gate_weaker (λ x. x < k) (λ x. x < length levels) (node_at nodes k) (λ x h. omega arith) (gates k (omega arith))) in
    let at = ap (λ (n : ℕ). leveled n k) (sym same) in
    elim (cases_lt k i) [
      | inl low ↦ get_or_append_left levels (e ∷ []) _ k (omega arith) ∙ each k low ∙ at
      | inr high ↦
          let here : k ≡ i = omega arith in
          get_or_push levels e _ k (omega arith) ∙ is ∙ ap (λ (m : ℕ). leveled (node_level levels (node_at nodes m)) m) (sym here) ∙ at
    ]

-- the step of the loop, with the node read at any default, and the level from a slice of the levels
pub levels_pushed : (nodes : List Node) (levels more : List Leveled) (i net : ℕ) (d : Node) (slice : List Leveled) (level : ℕ) → GatesReadEarlier nodes → i < length nodes → length levels ≡ i → ((k : ℕ) → k < i → entry_at levels k ≡ record { level = node_level levels (node_at nodes k); net = k }) → slice ≡ levels → level ≡ node_level slice (get_or nodes i d) → net ≡ i → more ≡ levels ++ leveled level net ∷ [] → (length more ≡ i + 1) × ((k : ℕ) → k < i + 1 → entry_at more k ≡ record { level = node_level more (node_at nodes k); net = k })
levels_pushed nodes levels more i net d slice level gates within size each read is at to =
    let lev : level ≡ node_level levels (node_at nodes i) = is ∙ ap (λ (l : List Leveled). node_level l (get_or nodes i d)) read ∙ ap (node_level levels) (get_or_default nodes i d _ within) in
    let e : leveled level net ≡ leveled (node_level levels (node_at nodes i)) i = ap₂ leveled lev at in
    let longer = length_push levels (leveled level net) in
    subst (λ (l : List Leveled). (length l ≡ i + 1) × ((k : ℕ) → k < i + 1 → entry_at l k ≡ record { level = node_level l (node_at nodes k); net = k })) (sym to) (omega arith, levels_more nodes levels i (leveled level net) gates within size each e)

max_le : (a b r : ℕ) → a ≤ r → b ≤ r → max a b ≤ r
max_le a b r h g = omega arith

-- a net reaches back to ranks below r alone, so its level is r at most
level_is : (nodes : List Node) (levels : List Leveled) → AreLevels nodes levels → (k : ℕ) (n : Node) → node_at nodes k ≡ n → (level_at levels k ≡ node_level levels n) ⊎ ((length nodes ≤ k) × (n ≡ Wire 0 None) × (level_at levels k ≡ 0))
level_is nodes levels l k n e = elim (cases_lt k (length nodes)) [
  | inl low ↦ inl (ap (λ (x : Leveled). x.level) (l.each k low) ∙ ap (node_level levels) e)
  | inr high ↦ inr (high, sym e ∙ get_or_past nodes k _ high, ap (λ (x : Leveled). x.level) (get_or_past levels k (leveled 0 0) (let s = l.size in omega arith)))
]

at_most : (nodes : List Node) (levels : List Leveled) → AreLevels nodes levels → (k r : ℕ) (n : Node) → node_at nodes k ≡ n → node_level levels n ≤ r → level_at levels k ≤ r
at_most nodes levels l k r n e h = elim (level_is nodes levels l k n e) [
  | inl is ↦ omega arith
  | inr past ↦ let p = past.2 in omega arith
]

level_within : (nodes : List Node) (levels : List Leveled) (r : ℕ) → AreLevels nodes levels → (k : ℕ) → Within nodes r k → level_at levels k ≤ r
level_within nodes levels r l _ (input k p i e) = at_most nodes levels l k r (Input p i) e (omega arith)
level_within nodes levels r l _ (flop k name init d e) = at_most nodes levels l k r (Flop name init d) e (omega arith)
level_within nodes levels r l _ (wire k q from e below) = at_most nodes levels l k r (Wire q from) e (omega arith)
level_within nodes levels r l _ (ram k q first m e below) = at_most nodes levels l k r (Ram q first m) e (omega arith)
level_within nodes levels r l _ (zero k a b e) = at_most nodes levels l k r (Gate kind.Zero a b) e (omega arith)
level_within nodes levels r l _ (one k a b e) = at_most nodes levels l k r (Gate kind.One a b) e (omega arith)
level_within nodes levels r l _ (negation k a b e w) = at_most nodes levels l k r (Gate kind.Not a b) e (level_within nodes levels r l a w)
level_within nodes levels r l _ (conjunction k a b e w v) = at_most nodes levels l k r (Gate kind.And a b) e (max_le _ _ r (level_within nodes levels r l a w) (level_within nodes levels r l b v))
level_within nodes levels r l _ (disjunction k a b e w v) = at_most nodes levels l k r (Gate kind.Or a b) e (max_le _ _ r (level_within nodes levels r l a w) (level_within nodes levels r l b v))
level_within nodes levels r l _ (exclusion k a b e w v) = at_most nodes levels l k r (Gate kind.Xor a b) e (max_le _ _ r (level_within nodes levels r l a w) (level_within nodes levels r l b v))

-- what a node reads comes before it: at a lower level, or at its level or lower with a smaller number
abbrev Before : List Leveled → ℕ → ℕ → Type 0
Before levels x k = (level_at levels x < level_at levels k) ⊎ ((level_at levels x ≤ level_at levels k) × (x < k))

gate_before : (levels : List Leveled) (k : ℕ) (g : GateKind) (a b : ℕ) → level_at levels k ≡ gate_level levels g a b → GateReads (λ x. x < k) g a b → GateReads (λ x. Before levels x k) g a b
gate_before levels k kind.Zero a b at r = tt
gate_before levels k kind.One a b at r = tt
gate_before levels k kind.Not a b at r = inr (omega arith, r)
gate_before levels k kind.And a b at r = (inr (omega arith, r.0), inr (omega arith, r.1))
gate_before levels k kind.Or a b at r = (inr (omega arith, r.0), inr (omega arith, r.1))
gate_before levels k kind.Xor a b at r = (inr (omega arith, r.0), inr (omega arith, r.1))

gate_both : (P Q : ℕ → Type 0) (g : GateKind) (a b : ℕ) → GateReads P g a b → GateReads Q g a b → GateReads (λ x. P x × Q x) g a b
gate_both P Q kind.Zero a b p q = tt
gate_both P Q kind.One a b p q = tt
gate_both P Q kind.Not a b p q = (p, q)
gate_both P Q kind.And a b p q = ((p.0, q.0), (p.1, q.1))
gate_both P Q kind.Or a b p q = ((p.0, q.0), (p.1, q.1))
gate_both P Q kind.Xor a b p q = ((p.0, q.0), (p.1, q.1))

-- a net whose node is a placeholder has its level, also one that isn't there
level_of : (nodes : List Node) (levels : List Leveled) (k : ℕ) (n : Node) → AreLevels nodes levels → k < length nodes → node_at nodes k ≡ n → level_at levels k ≡ node_level levels n
level_of nodes levels k n l within is = ap (λ (x : Leveled). x.level) (l.each k within) ∙ ap (node_level levels) is

-- an address net comes before the RAM's outputs, and the first of these before the others
pin_before : (nodes : List Node) (levels : List Leveled) (k rank x : ℕ) → AreLevels nodes levels → k < length nodes → level_at levels k ≡ rank + 1 → (x < k) × ((from : Option ℕ) × (node_at nodes x ≡ Wire rank from)) → (x < length nodes) × Before levels x k
pin_before nodes levels k rank x l within at pin =
    let low = pin.0 in
    let here : x < length nodes = omega arith in
    let level = level_of nodes levels x (Wire rank pin.1.0) l here pin.1.1 in
    (here, inr (omega arith, low))

node_before : (nodes : List Node) (levels : List Leveled) (k : ℕ) (n : Node) → AreLevels nodes levels → AreDriven nodes → AreRams nodes → k < length nodes → node_at nodes k ≡ n → level_at levels k ≡ node_level levels n → IfGate (GateReads (λ x. x < k)) n → Reads (λ x. (x < length nodes) × Before levels x k) n
node_before nodes levels k (Input p i) l driven rams within is at r = tt
node_before nodes levels k (Flop name init d) l driven rams within is at r = tt
node_before nodes levels k (Wire rank None) l driven rams within is at r = tt
node_before nodes levels k (Wire rank (Some d)) l driven rams within is at r =
    let w = driven k rank (Some d) within is in
    let same : d ≡ w.0 = cc in
    let low = level_within nodes levels rank l w.0 w.3 in
    subst (λ (x : ℕ). (x < length nodes) × Before levels x k) (sym same) (w.2, inl (omega arith))
node_before nodes levels k (Gate g a b) l driven rams within is at r =
    gate_reads_weaker (λ x. (x < k) × Before levels x k) (λ x. (x < length nodes) × Before levels x k) g a b (λ x p. (omega arith, p.1)) (gate_both (λ x. x < k) (λ x. Before levels x k) g a b r (gate_before levels k g a b at r))
node_before nodes levels k (Ram rank first None) l driven rams within is at r =
    let o = rams.other k rank first is in
    let low = o.2 in
    let here : first < length nodes = omega arith in
    let level = level_of nodes levels first (Ram rank first (Some o.0)) l here o.1 in
    (here, inr (omega arith, low))
node_before nodes levels k (Ram rank first (Some m)) l driven rams within is at r =
    λ i d inside. pin_before nodes levels k rank _ l within at ((rams.first k rank first m is).2 i d inside)

-- the order of entries
abbrev cmp : Leveled → Leveled → Ordering
cmp = then_cmp (on (λ (e : Leveled). e.level) nat_cmp) (on (λ (e : Leveled). e.net) nat_cmp)

total : IsTotalOrder cmp
total = then_total (on_total (λ (e : Leveled). e.level) nat_cmp_total) (on_total (λ (e : Leveled). e.net) nat_cmp_total)

less_before : (x y : Leveled) → (x.level < y.level) ⊎ ((x.level ≤ y.level) × (x.net < y.net)) → is_lt (cmp x y) ≡ true
less_before x y (inl low) = let e = lt-ltb x.level y.level low in rw e refl
less_before x y (inr (level, net)) = elim (cases_lt x.level y.level) [
  | inl low ↦ let e = lt-ltb x.level y.level low in rw e refl
  | inr high ↦
      let not_less = le-ltb x.level y.level high in
      let same = eq-eqb x.level y.level (omega arith) in
      let less = lt-ltb x.net y.net net in
      rw (not_less, same, less) refl
]

module _ (nodes : List Node) (levels order : List Leveled) (l : AreLevels nodes levels) (driven : AreDriven nodes) (rams : AreRams nodes) (gates : GatesReadEarlier nodes) (moved : IsPermutation levels order) (sorted : IsSorted cmp order) where
  -- an entry has its net's level
  abbrev IsEntry : Leveled → Type 0
  IsEntry e = (e.net < length nodes) × (e.level ≡ level_at levels e.net)

  entries_first : All IsEntry levels
  entries_first k d within =
      let size = l.size in
      let here : k < length nodes = omega arith in
      let is : get_or levels k d ≡ leveled (node_level levels (node_at nodes k)) k = get_or_default levels k d _ within ∙ l.each k here in
      subst IsEntry (sym is) (here, sym (ap (λ (x : Leveled). x.level) (l.each k here)))

  entries : All IsEntry order
  entries = All-permutation IsEntry levels order moved entries_first

  found : (k : ℕ) → k < length nodes → (i : ℕ) × (i < length order) × (entry_at order i ≡ entry_at levels k)
  found k within =
      let size = l.size in
      let c = Contains-permutation levels order (entry_at levels k) moved (Contains-get_or levels k (leveled 0 0) (omega arith)) in
      (c.0, c.1, get_or_default order c.0 _ (entry_at levels k) c.1 ∙ c.2)

  net_of : (k : ℕ) → k < length nodes → (entry_at levels k).net ≡ k
  net_of k within = ap (λ (x : Leveled). x.net) (l.each k within)

  earlier : (i x : ℕ) → i < length order → x < length nodes → Before levels x (entry_at order i).net → (j : ℕ) × (j < i) × ((entry_at order j).net ≡ x)
  earlier i x within there before =
      let f = found x there in
      let net : (entry_at order f.0).net ≡ x = ap (λ (e : Leveled). e.net) f.2 ∙ net_of x there in
      let level : (entry_at order f.0).level ≡ level_at levels x = ap (λ (e : Leveled). e.level) f.2 in
      let e = entries i (leveled 0 0) within in
      let less : ((entry_at order f.0).level < (entry_at order i).level) ⊎ (((entry_at order f.0).level ≤ (entry_at order i).level) × ((entry_at order f.0).net < (entry_at order i).net)) = elim before [
        | inl low ↦ inl (omega arith)
        | inr both ↦ inr (let low = both.0 in omega arith, let low = both.1 in omega arith)
      ] in
      elim (cases_lt f.0 i) [
        | inl low ↦ (f.0, low, net)
        | inr high ↦ absurd (false≢true (sym (sorted_far (λ x y. is_lt (cmp x y)) (ranks_by total (λ (e : Leveled). e)) order sorted i f.0 (leveled 0 0) high f.1) ∙ less_before (entry_at order f.0) (entry_at order i) less))
      ]

  pub is_order : IsOrder nodes order
  is_order = record {
    bound = λ i within. (entries i (leveled 0 0) within).0;
    all = λ k within. let f = found k within in (f.0, f.1, ap (λ (e : Leveled). e.net) f.2 ∙ net_of k within);
    after = λ i within.
        let k = (entry_at order i).net in
        let here = (entries i (leveled 0 0) within).0 in
        reads_weaker (λ x. (x < length nodes) × Before levels x k) (λ x. (j : ℕ) × (j < i) × ((entry_at order j).net ≡ x)) (node_at nodes k) (λ x p. earlier i x within p.0 p.1) (node_before nodes levels k (node_at nodes k) l driven rams here refl (ap (λ (x : Leveled). x.level) (l.each k here)) (gates k here));
  }

-- the rank of a placeholder is at most the last one
rank_of : (nodes : List Node) (k : ℕ) (n : Node) → AreRams nodes → node_at nodes k ≡ n → HasRank n
rank_of nodes k (Input p i) rams is = tt
rank_of nodes k (Flop name init d) rams is = tt
rank_of nodes k (Wire rank from) rams is = rams.ranks k rank from is
rank_of nodes k (Gate g a b) rams is = tt
rank_of nodes k (Ram rank first m) rams is = tt

pub have_ranks : (nodes : List Node) → AreRams nodes → HaveRanks nodes
have_ranks nodes rams k within = rank_of nodes k (node_at nodes k) rams refl
