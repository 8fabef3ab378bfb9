-- A circuit that grows: a node that is put behind its own, a flip-flop of it that is fed, what stays where this is done again and
-- again, and what a net reaches then.
use Rattle.std.proofs.Common.{◌≡◌, ◌≢◌, ◌<◌, ℕ, ◌+◌, List, [], ◌∷◌, ◌++◌, length, set, None, refl, ap, sym, ◌∙◌, subst, inl, inr, arith}
use Rattle.std.proofs.lemmas.List.{get_or_append_left, get_or_past, get_or_push, get_or-set_other, get_or-set_same, length_push, length-set}
use Rattle.std.proofs.lemmas.List.Elements.{All-nil, All-cons}
use Rattle.std.proofs.lemmas.Bool.{cases_lt, cases_eq}
use Rattle.hc_net.specs.Circuit.{Circuit, Extends, node_at, reading, with_node, with_node_at}
use Rattle.hc_net.specs.Frame.{Keeps, keeps_then, keeps_behind, keeps_connected}
use Rattle.hc_net.specs.Made.{Over, argument}
use Rattle.hc_net.specs.declared.node.Node.{Node}
use Rattle.hc_net.specs.declared.node.Node.TheVariants.{Input, Flop, Wire, Gate, Ram}
use Rattle.hc_token.specs.Control.{IsFlop, Reaches}

-- ---- what stays

-- What `Keeps` says, and that flip-flops stay flip-flops.
pub record Grows (old new : List Node) : Type 0 where
  pub keeps : Keeps old new
  pub flops : (k : ℕ) → IsFlop (node_at old k) → IsFlop (node_at new k)

pub grows_then : {old mid new : List Node} → Grows old mid → Grows mid new → Grows old new
grows_then f g = record { keeps = keeps_then f.keeps g.keeps; flops = λ k is. g.flops k (f.flops k is) }

flop_front : (old more : List Node) (k : ℕ) → IsFlop (node_at old k) → IsFlop (node_at (old ++ more) k)
flop_front old more k is = elim (cases_lt k (length old)) [
  | inl low ↦ subst IsFlop (sym (get_or_append_left old more _ k low)) is
  | inr high ↦ absurd (subst IsFlop (get_or_past old k _ high) is)
]

pub grows_behind : {old new : List Node} (more : List Node) → new ≡ old ++ more → Grows old new
grows_behind {old} {new} more is = record {
  keeps = keeps_behind more is;
  flops = λ k flop. subst (λ (l : List Node). IsFlop (node_at l k)) (sym is) (flop_front old more k flop);
}

pub grows_node : {old new : Circuit} (node : Node) → new ≡ with_node old node → Grows old.nodes new.nodes
grows_node node is = grows_behind (node ∷ []) (ap (λ (c : Circuit). c.nodes) is)

flop_reading : (d : ℕ) (n : Node) → IsFlop n → IsFlop (reading d n)
flop_reading d (Input p i) is = absurd is
flop_reading d (Flop name init old) is = tt
flop_reading d (Wire rank old) is = absurd is
flop_reading d (Gate g a b) is = absurd is
flop_reading d (Ram rank first ram) is = absurd is

flop_connected : (old : List Node) (at d k : ℕ) → IsFlop (node_at old k) → IsFlop (node_at (set old at (reading d (node_at old at))) k)
flop_connected old at d k is = elim (cases_eq k at) [
  | inl same ↦ elim (cases_lt k (length old)) [
    | inl low ↦ subst (λ (n : ℕ). IsFlop (node_at (set old n (reading d (node_at old n))) k)) same
        (subst IsFlop (sym (get_or-set_same old k (reading d (node_at old k)) (Wire 0 None) low)) (flop_reading d (node_at old k) is))
    | inr high ↦ absurd (subst IsFlop (get_or_past old k _ high) is)
  ]
  | inr other ↦ subst IsFlop (sym (get_or-set_other old at k (reading d (node_at old at)) _ other)) is
]

pub grows_connected : {old new : Circuit} (at d : ℕ) → new ≡ with_node_at old at (reading d (node_at old.nodes at)) → Extends old.nodes new.nodes → Grows old.nodes new.nodes
grows_connected {old} {new} at d is earlier = record {
  keeps = keeps_connected at d is earlier;
  flops = λ k flop. subst (λ (l : List Node). IsFlop (node_at l k)) (sym (ap (λ (c : Circuit). c.nodes) is)) (flop_connected old.nodes at d k flop);
}

-- ---- where a node stands

-- what is added: a node at the end, and a net that is its place
abbrev pub Puts : Node → Circuit → Circuit → ℕ → Type 0
Puts node old new net = (net ≡ length old.nodes) × (new ≡ with_node old node)

-- what is fed: a flip-flop reads this net
abbrev pub Feeds : ℕ → ℕ → Circuit → Circuit → Type 0
Feeds net d old new = new ≡ with_node_at old net (reading d (node_at old.nodes net))

pub put_size : (node : Node) (old : Circuit) {new : Circuit} {net : ℕ} → Puts node old new net → length new.nodes ≡ length old.nodes + 1
put_size node old p = ap (λ (c : Circuit). length c.nodes) p.1 ∙ length_push old.nodes node

pub put_there : (node : Node) (old : Circuit) {new : Circuit} {net : ℕ} → Puts node old new net → net < length new.nodes
put_there node old p = let at = p.0 in omega (arith, put_size node old p)

pub put_at : {node : Node} (old : Circuit) {new : Circuit} {net : ℕ} → Puts node old new net → node_at new.nodes net ≡ node
put_at {node} old {new} {net} p = ap (λ (c : Circuit). node_at c.nodes net) p.1 ∙ get_or_push old.nodes node _ net (sym p.0)

pub put_front : (node : Node) (old : Circuit) {new : Circuit} {net : ℕ} (k : ℕ) → Puts node old new net → k < length old.nodes → node_at new.nodes k ≡ node_at old.nodes k
put_front node old k p low = ap (λ (c : Circuit). node_at c.nodes k) p.1 ∙ get_or_append_left old.nodes (node ∷ []) _ k low

pub fed_size : (old : Circuit) {new : Circuit} (net d : ℕ) → Feeds net d old new → length new.nodes ≡ length old.nodes
fed_size old net d fed = ap (λ (c : Circuit). length c.nodes) fed ∙ length-set old.nodes net _

pub fed_other : (old : Circuit) {new : Circuit} (net d k : ℕ) → Feeds net d old new → k ≢ net → node_at new.nodes k ≡ node_at old.nodes k
fed_other old net d k fed other = ap (λ (c : Circuit). node_at c.nodes k) fed ∙ get_or-set_other old.nodes net k _ _ other

-- ---- what a net reaches

-- a net that is over others reaches them, and one that is a flip-flop reaches flip-flops alone
pub reach_over : (nodes : List Node) (args : List ℕ) (net : ℕ) → Over nodes args net → Reaches nodes args net
reach_over nodes args net over = record { own = []; flops = All-nil _; over = over }

pub reach_flop : (nodes : List Node) (args : List ℕ) (flop net : ℕ) → IsFlop (node_at nodes flop) → Over nodes (flop ∷ args) net → Reaches nodes args net
reach_flop nodes args flop net is over = record { own = flop ∷ []; flops = All-cons (λ k. IsFlop (node_at nodes k)) flop [] is (All-nil _); over = over }

pub flop_reach : (nodes : List Node) (net : ℕ) → IsFlop (node_at nodes net) → Reaches nodes [] net
flop_reach nodes net is = reach_flop nodes [] net net is (argument net 0 (omega arith) refl)
