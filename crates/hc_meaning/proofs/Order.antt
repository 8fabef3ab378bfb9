-- The numbers of an order, as ranks of all nodes.
use Rattle.std.proofs.Common.{◌≡◌, ℕ, zero, suc, ◌<◌, ◌==◌, Bool, true, false, List, [], ◌∷◌, map, All, Contains, refl, sym, ap, subst, arith, eqb-true, eq-eqb}
use Rattle.std.specs.Prelude.{if◌then◌else◌}
use Rattle.hc_tree.specs.declared.refusal.Node.{Node}
use Rattle.hc_tree.specs.declared.refusal.Node.TheVariants as node
use Rattle.hc_core.specs.Depends.{needs_of, nodes_of, IsOrder}
use Rattle.hc_core.specs.declared.object.Core.{Core}
use Rattle.hc_meaning.proofs.Every.{Every}
use Rattle.hc_meaning.proofs.Unique.{Falls}

abbrev same_node : Node → Node → Bool
same_node (node.Value j) (node.Value k) = j == k
same_node (node.Value j) (node.Sends k) = false
same_node (node.Value j) (node.Receives k) = false
same_node (node.Sends j) (node.Value k) = false
same_node (node.Sends j) (node.Sends k) = j == k
same_node (node.Sends j) (node.Receives k) = false
same_node (node.Receives j) (node.Value k) = false
same_node (node.Receives j) (node.Sends k) = false
same_node (node.Receives j) (node.Receives k) = j == k

same_is : (a b : Node) → same_node a b ≡ true → a ≡ b
same_is (node.Value j) (node.Value k) e = ap node.Value (eqb-true j k e)
same_is (node.Value j) (node.Sends k) e = absurd cc
same_is (node.Value j) (node.Receives k) e = absurd cc
same_is (node.Sends j) (node.Value k) e = absurd cc
same_is (node.Sends j) (node.Sends k) e = ap node.Sends (eqb-true j k e)
same_is (node.Sends j) (node.Receives k) e = absurd cc
same_is (node.Receives j) (node.Value k) e = absurd cc
same_is (node.Receives j) (node.Sends k) e = absurd cc
same_is (node.Receives j) (node.Receives k) e = ap node.Receives (eqb-true j k e)

itself : (k : ℕ) → (k == k) ≡ true
itself k = eq-eqb k k refl

same_self : (a : Node) → same_node a a ≡ true
same_self (node.Value j) = itself j
same_self (node.Sends j) = itself j
same_self (node.Receives j) = itself j

pub rank_in : List (Node × ℕ) → Node → ℕ
rank_in [] m = 0
rank_in (r ∷ ranks) m = if same_node r.0 m then r.1 else rank_in ranks m

-- a node that has a pair stands in one with its rank
pub found : (ranks : List (Node × ℕ)) (m : Node) → Contains (map (λ r. r.0) ranks) m → Contains ranks (m, rank_in ranks m)
unfolding rank_in
found [] m (k, within, is) = absurd (omega arith)
found (r ∷ ranks) m (zero, within, is) = here (same_node r.0 m) (subst (λ x. same_node x m ≡ true) (sym is) (same_self m))
  where
    here : (b : Bool) → b ≡ true → Contains (r ∷ ranks) (m, if b then r.1 else rank_in ranks m)
    here true e = (zero, omega arith, ap (λ n. (n, r.1)) is)
    here false e = absurd cc
found (r ∷ ranks) m (suc k, within, is) = by (same_node r.0 m) refl (found ranks m (k, omega arith, is))
  where
    by : (b : Bool) → same_node r.0 m ≡ b → Contains ranks (m, rank_in ranks m) → Contains (r ∷ ranks) (m, if b then r.1 else rank_in ranks m)
    by true e h = (zero, omega arith, ap (λ n. (n, r.1)) (same_is r.0 m e))
    by false e h = (suc h.0, omega arith, h.2)

pub rank_below : (bound : ℕ) (ranks : List (Node × ℕ)) → 0 < bound → All (λ r. r.1 < bound) ranks → (m : Node) → rank_in ranks m < bound
unfolding rank_in
rank_below bound [] z h m = z
rank_below bound (r ∷ ranks) z h m = by (same_node r.0 m) (h 0 r (omega arith)) (rank_below bound ranks z (λ k d within. h (suc k) d (omega arith)) m)
  where
    by : (b : Bool) → r.1 < bound → rank_in ranks m < bound → (if b then r.1 else rank_in ranks m) < bound
    by true x y = x
    by false x y = y

-- each node of a need is one of the core
abbrev pub AreThere : Core → Type 0
AreThere core = Every (λ x. Contains (nodes_of core) x.node × Every (λ b. Contains (nodes_of core) b) x.on) (needs_of core)

-- what holds of each element that a list contains, holds of all
each : {X : Type 0} (P : X → Type 0) (list : List X) → ((x : X) → Contains list x → P x) → Every P list
each P [] f = tt
each P (x ∷ list) f = (f x (0, omega arith, refl), each P list (λ y c. f y (suc c.0, omega arith, c.2)))

every_at : {X : Type 0} (P : X → Type 0) (list : List X) → Every P list → (x : X) → Contains list x → P x
every_at P [] h x (k, within, is) = absurd (omega arith)
every_at P (y ∷ list) h x (zero, within, is) = subst P is h.0
every_at P (y ∷ list) h x (suc k, within, is) = every_at P list h.1 x (k, omega arith, is)

pub falls_of : (core : Core) (ranks : List (Node × ℕ)) → AreThere core → IsOrder core ranks → Falls (rank_in ranks) (needs_of core)
falls_of core ranks there o =
    each (λ x. Every (λ b. rank_in ranks b < rank_in ranks x.node) x.on) (needs_of core)
    (λ x c. each (λ b. rank_in ranks b < rank_in ranks x.node) x.on
    (λ b d. let t = every_at (λ x. Contains (nodes_of core) x.node × Every (λ b. Contains (nodes_of core) b) x.on) (needs_of core) there x c in
    o.above x.node b (rank_in ranks x.node) (rank_in ranks b) (found ranks x.node (o.all x.node t.0)) (found ranks b (o.all b (every_at (λ b. Contains (nodes_of core) b) x.on t.1 b d)))
    (record { need = x; uses = c; node_is = refl; on_is = d })))
