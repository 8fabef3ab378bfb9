-- What stays of a circuit where nodes are added behind its own, a flip-flop of it is fed or a placeholder of it driven.
use Rattle.std.proofs.Common.{◌≡◌, ◌<◌, ◌≤◌, ℕ, ◌+◌, ◌⊎◌, List, [], ◌∷◌, ◌++◌, length, set, Bool, true, false, Option, Some, None, refl, ap, sym, ◌∙◌, subst, inl, inr, arith, length-append}
use Rattle.std.proofs.lemmas.List.{get_or_append_left, get_or_past, get_or-set_other, get_or-set_same, length-set}
use Rattle.std.proofs.lemmas.Bool.{cases_lt, cases_eq}
use Rattle.hc_net.specs.Circuit.{Circuit, Does, Explains, Extends, constant_at, node_at, reading, with_node, with_node_at}
use Rattle.hc_net.specs.Made as made
use Rattle.hc_net.specs.Made.{Adds, Over}
use Rattle.hc_net.specs.Seal as seal
use Rattle.hc_net.specs.Seal.{Within}
use Rattle.hc_net.specs.declared.gate.GateKind.{GateKind}
use Rattle.hc_net.specs.declared.gate.GateKind.TheVariants as kind
use Rattle.hc_net.specs.declared.net.FlopName.{FlopName}
use Rattle.hc_net.specs.declared.node.Node.{Node}
use Rattle.hc_net.specs.declared.node.Node.TheVariants.{Input, Flop, Wire, Gate, Ram}
use Rattle.hc_net.specs.declared.ram.RamCell.{RamCell}

-- ---- reach

-- net k reaches back through gates only placeholders and RAMs of rank below this one, and those are there
pub data Low (nodes : List Node) (rank : ℕ) : ℕ → Type 0 where
  input : (k p i : ℕ) → node_at nodes k ≡ Input p i → Low nodes rank k
  flop : (k : ℕ) (name : FlopName) (init : Bool) (d : Option ℕ) → node_at nodes k ≡ Flop name init d → Low nodes rank k
  wire : (k r : ℕ) (from : Option ℕ) → k < length nodes → node_at nodes k ≡ Wire r from → r < rank → Low nodes rank k
  ram : (k r first : ℕ) (ram : Option RamCell) → node_at nodes k ≡ Ram r first ram → r < rank → Low nodes rank k
  zero : (k a b : ℕ) → node_at nodes k ≡ Gate kind.Zero a b → Low nodes rank k
  one : (k a b : ℕ) → node_at nodes k ≡ Gate kind.One a b → Low nodes rank k
  negation : (k a b : ℕ) → node_at nodes k ≡ Gate kind.Not a b → Low nodes rank a → Low nodes rank k
  conjunction : (k a b : ℕ) → node_at nodes k ≡ Gate kind.And a b → Low nodes rank a → Low nodes rank b → Low nodes rank k
  disjunction : (k a b : ℕ) → node_at nodes k ≡ Gate kind.Or a b → Low nodes rank a → Low nodes rank b → Low nodes rank k
  exclusion : (k a b : ℕ) → node_at nodes k ≡ Gate kind.Xor a b → Low nodes rank a → Low nodes rank b → Low nodes rank k

pub low_within : {nodes : List Node} {rank k : ℕ} → Low nodes rank k → Within nodes rank k
low_within (input k p i is) = seal.input k p i is
low_within (flop k name init d is) = seal.flop k name init d is
low_within (wire k r from there is lt) = seal.wire k r from is lt
low_within (ram k r first r_cell is lt) = seal.ram k r first r_cell is lt
low_within (zero k a b is) = seal.zero k a b is
low_within (one k a b is) = seal.one k a b is
low_within (negation k a b is x) = seal.negation k a b is (low_within x)
low_within (conjunction k a b is x y) = seal.conjunction k a b is (low_within x) (low_within y)
low_within (disjunction k a b is x y) = seal.disjunction k a b is (low_within x) (low_within y)
low_within (exclusion k a b is x y) = seal.exclusion k a b is (low_within x) (low_within y)

-- what reaches no placeholder reaches, for each rank, only what is there
pub within_low : {nodes : List Node} {rank k : ℕ} → Within nodes 0 k → Low nodes rank k
within_low (seal.input k p i is) = input k p i is
within_low (seal.flop k name init d is) = flop k name init d is
within_low (seal.wire k r from is lt) = absurd (omega (arith, lt))
within_low (seal.ram k r first r_cell is lt) = absurd (omega (arith, lt))
within_low (seal.zero k a b is) = zero k a b is
within_low (seal.one k a b is) = one k a b is
within_low (seal.negation k a b is x) = negation k a b is (within_low x)
within_low (seal.conjunction k a b is x y) = conjunction k a b is (within_low x) (within_low y)
within_low (seal.disjunction k a b is x y) = disjunction k a b is (within_low x) (within_low y)
within_low (seal.exclusion k a b is x y) = exclusion k a b is (within_low x) (within_low y)

-- ---- what stays

-- The nets of the old nodes are among the new ones, where they do what they did and reach what they reached.
pub record Keeps (old new : List Node) : Type 0 where
  pub longer : length old ≤ length new
  pub constant : (k : ℕ) (b : Bool) → constant_at (node_at old k) ≡ Some b → constant_at (node_at new k) ≡ Some b
  pub low : (rank k : ℕ) → Low old rank k → Low new rank k
  pub over : (args : List ℕ) (k : ℕ) → Over old args k → Over new args k
  pub earlier : Extends old new

-- what reaches no placeholder reaches none then
pub keeps_within : {old new : List Node} → Keeps old new → (k : ℕ) → Within old 0 k → Within new 0 k
keeps_within keeps k h = low_within (keeps.low 0 k (within_low h))

-- a node stays by its net, but for what a flip-flop or a placeholder reads
record Stays (old new : List Node) : Type 0 where
  input : (k p i : ℕ) → node_at old k ≡ Input p i → node_at new k ≡ Input p i
  flop : (k : ℕ) (name : FlopName) (init : Bool) (d : Option ℕ) → node_at old k ≡ Flop name init d → (e : Option ℕ) × (node_at new k ≡ Flop name init e)
  wire : (k rank : ℕ) (d : Option ℕ) → k < length old → node_at old k ≡ Wire rank d → (e : Option ℕ) × (node_at new k ≡ Wire rank e)
  gate : (k : ℕ) (g : GateKind) (a b : ℕ) → node_at old k ≡ Gate g a b → node_at new k ≡ Gate g a b
  ram : (k rank first : ℕ) (r : Option RamCell) → node_at old k ≡ Ram rank first r → node_at new k ≡ Ram rank first r

low_stays : {old new : List Node} {rank k : ℕ} → Stays old new → length old ≤ length new → Low old rank k → Low new rank k
low_stays s le (input k p i is) = input k p i (s.input k p i is)
low_stays s le (flop k name init d is) = let f = s.flop k name init d is in flop k name init f.0 f.1
low_stays s le (wire k r from there is lt) = let w = s.wire k r from there is in wire k r w.0 (omega (arith, le, there)) w.1 lt
low_stays s le (ram k r first r_cell is lt) = ram k r first r_cell (s.ram k r first r_cell is) lt
low_stays s le (zero k a b is) = zero k a b (s.gate k _ a b is)
low_stays s le (one k a b is) = one k a b (s.gate k _ a b is)
low_stays s le (negation k a b is x) = negation k a b (s.gate k _ a b is) (low_stays s le x)
low_stays s le (conjunction k a b is x y) = conjunction k a b (s.gate k _ a b is) (low_stays s le x) (low_stays s le y)
low_stays s le (disjunction k a b is x y) = disjunction k a b (s.gate k _ a b is) (low_stays s le x) (low_stays s le y)
low_stays s le (exclusion k a b is x y) = exclusion k a b (s.gate k _ a b is) (low_stays s le x) (low_stays s le y)

over_stays : {old new : List Node} {args : List ℕ} {k : ℕ} → Stays old new → Over old args k → Over new args k
over_stays s (made.argument k i within is) = made.argument k i within is
over_stays s (made.zero k a b is) = made.zero k a b (s.gate k _ a b is)
over_stays s (made.one k a b is) = made.one k a b (s.gate k _ a b is)
over_stays s (made.negation k a b is x) = made.negation k a b (s.gate k _ a b is) (over_stays s x)
over_stays s (made.conjunction k a b is x y) = made.conjunction k a b (s.gate k _ a b is) (over_stays s x) (over_stays s y)
over_stays s (made.disjunction k a b is x y) = made.disjunction k a b (s.gate k _ a b is) (over_stays s x) (over_stays s y)
over_stays s (made.exclusion k a b is x y) = made.exclusion k a b (s.gate k _ a b is) (over_stays s x) (over_stays s y)

constant_stays : {old new : List Node} → Stays old new → (k : ℕ) (n : Node) (b : Bool) → node_at old k ≡ n → constant_at n ≡ Some b → constant_at (node_at new k) ≡ Some b
constant_stays s k (Input p i) b is at = absurd cc
constant_stays s k (Flop name init d) b is at = absurd cc
constant_stays s k (Wire rank from) b is at = absurd cc
constant_stays s k (Gate g x y) b is at = ap constant_at (s.gate k g x y is) ∙ at
constant_stays s k (Ram rank first r) b is at = absurd cc

keeps_stays : {old new : List Node} → Stays old new → length old ≤ length new → Extends old new → Keeps old new
keeps_stays {old} s longer earlier = record {
  longer = longer;
  constant = λ k b. constant_stays s k (node_at old k) b refl;
  low = λ rank k. low_stays s longer;
  over = λ args k. over_stays s;
  earlier = earlier;
}

pub keeps_same : (nodes : List Node) → Keeps nodes nodes
keeps_same nodes = record { longer = omega arith; constant = λ k b is. is; low = λ rank k h. h; over = λ args k h. h; earlier = λ trace h e. e }

pub keeps_then : {old mid new : List Node} → Keeps old mid → Keeps mid new → Keeps old new
keeps_then f g = record {
  longer = let a = f.longer in let b = g.longer in omega arith;
  constant = λ k b is. g.constant k b (f.constant k b is);
  low = λ rank k h. g.low rank k (f.low rank k h);
  over = λ args k h. g.over args k (f.over args k h);
  earlier = λ trace h e. f.earlier trace h (g.earlier trace h e);
}

-- ---- nodes behind the others

module _ (old more : List Node) where
  there_front : (k : ℕ) (n : Node) → node_at old k ≡ n → n ≡ Wire 0 None ⊎ (node_at (old ++ more) k ≡ n)
  there_front k n is = elim (cases_lt k (length old)) [
    | inl low ↦ inr (get_or_append_left old more _ k low ∙ is)
    | inr high ↦ inl (sym is ∙ get_or_past old k _ high)
  ]

  stays_front : Stays old (old ++ more)
  stays_front = record {
    input = λ k p i is. elim (there_front k (Input p i) is) [ inl gone ↦ absurd cc | inr same ↦ same ];
    flop = λ k name init d is. elim (there_front k (Flop name init d) is) [ inl gone ↦ absurd cc | inr same ↦ (d, same) ];
    wire = λ k rank d there is. (d, get_or_append_left old more _ k there ∙ is);
    gate = λ k g a b is. elim (there_front k (Gate g a b) is) [ inl gone ↦ absurd cc | inr same ↦ same ];
    ram = λ k rank first r is. elim (there_front k (Ram rank first r) is) [ inl gone ↦ absurd cc | inr same ↦ same ];
  }

  -- histories that explain more nodes explain the first ones
  explains_front : Extends old (old ++ more)
  explains_front trace h e = record {
    each = λ k. elim (cases_lt k (length old)) [
      | inl low ↦ subst (λ (n : Node). Does trace h k n) (get_or_append_left old more _ k low) (e.each k)
      | inr high ↦ subst (λ (n : Node). Does trace h k n) (sym (get_or_past old k _ high)) tt
    ];
  }

  pub keeps_front : Keeps old (old ++ more)
  keeps_front = keeps_stays stays_front (omega (arith, length-append old more)) explains_front

pub keeps_behind : {old new : List Node} (more : List Node) → new ≡ old ++ more → Keeps old new
keeps_behind {old} more is = subst (λ (l : List Node). Keeps old l) (sym is) (keeps_front old more)

pub keeps_gates : {most : ℕ} {old new : Circuit} → Adds most old new → Keeps old.nodes new.nodes
keeps_gates a = keeps_behind a.gates a.nodes

pub keeps_node : {old new : Circuit} (node : Node) → new ≡ with_node old node → Keeps old.nodes new.nodes
keeps_node node is = keeps_behind (node ∷ []) (ap (λ (c : Circuit). c.nodes) is)

-- ---- a flip-flop that is fed, or a placeholder that is driven

module _ (old : List Node) (at d : ℕ) where
  abbrev pub connected : List Node
  connected = set old at (reading d (node_at old at))

  -- a node is as it was, or reads that net
  now : (k : ℕ) → (node_at connected k ≡ node_at old k) ⊎ (node_at connected k ≡ reading d (node_at old k))
  now k = elim (cases_eq k at) [
    | inl same ↦ elim (cases_lt k (length old)) [
      | inl low ↦ inr (subst (λ (n : ℕ). node_at (set old n (reading d (node_at old n))) k ≡ reading d (node_at old k)) same (get_or-set_same old k (reading d (node_at old k)) (Wire 0 None) low))
      | inr high ↦ inl (get_or_past connected k _ (omega (arith, length-set old at (reading d (node_at old at)))) ∙ sym (get_or_past old k _ high))
    ]
    | inr other ↦ inl (get_or-set_other old at k (reading d (node_at old at)) _ other)
  ]

  stays_connected : Stays old connected
  stays_connected = record {
    input = λ k p i is. elim (now k) [ inl same ↦ same ∙ is | inr reads ↦ reads ∙ ap (reading d) is ];
    flop = λ k name init e is. elim (now k) [ inl same ↦ (e, same ∙ is) | inr reads ↦ (Some d, reads ∙ ap (reading d) is) ];
    wire = λ k rank e there is. elim (now k) [ inl same ↦ (e, same ∙ is) | inr reads ↦ (Some d, reads ∙ ap (reading d) is) ];
    gate = λ k g a b is. elim (now k) [ inl same ↦ same ∙ is | inr reads ↦ reads ∙ ap (reading d) is ];
    ram = λ k rank first r is. elim (now k) [ inl same ↦ same ∙ is | inr reads ↦ reads ∙ ap (reading d) is ];
  }

pub keeps_connected : {old new : Circuit} (at d : ℕ) → new ≡ with_node_at old at (reading d (node_at old.nodes at)) → Extends old.nodes new.nodes → Keeps old.nodes new.nodes
keeps_connected {old} {new} at d is earlier =
    let nodes : new.nodes ≡ connected old.nodes at d = ap (λ (c : Circuit). c.nodes) is in
    keeps_stays (subst (λ (l : List Node). Stays old.nodes l) (sym nodes) (stays_connected old.nodes at d))
    (omega (arith, ap length nodes, length-set old.nodes at (reading d (node_at old.nodes at)))) earlier
