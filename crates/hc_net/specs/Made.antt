-- What a circuit adds to a builder, and what holds of its nets.
use Rattle.std.specs.Prelude.{◌≡◌, ◌<◌, ◌≤◌, ℕ, List, ◌++◌, length, Bool, slice_index, All}
use Rattle.hc_net.specs.Run.{Trace}
use Rattle.hc_net.specs.Circuit.{Circuit, History, Explains, node_at}
use Rattle.hc_net.specs.declared.node.Node.{Node}
use Rattle.hc_net.specs.declared.node.Node.TheVariants.{Input, Flop, Wire, Gate, Ram}
use Rattle.hc_net.specs.declared.gate.GateKind.TheVariants as kind

-- net k is one of these nets, or a gate that reads such nets alone: what it reaches back to, these nets name
pub data Over (nodes : List Node) (args : List ℕ) : ℕ → Type 0 where
  argument : (k i : ℕ) → i < length args → slice_index args i ≡ k → Over nodes args k
  zero : (k a b : ℕ) → node_at nodes k ≡ Gate kind.Zero a b → Over nodes args k
  one : (k a b : ℕ) → node_at nodes k ≡ Gate kind.One a b → Over nodes args k
  negation : (k a b : ℕ) → node_at nodes k ≡ Gate kind.Not a b → Over nodes args a → Over nodes args k
  conjunction : (k a b : ℕ) → node_at nodes k ≡ Gate kind.And a b → Over nodes args a → Over nodes args b → Over nodes args k
  disjunction : (k a b : ℕ) → node_at nodes k ≡ Gate kind.Or a b → Over nodes args a → Over nodes args b → Over nodes args k
  exclusion : (k a b : ℕ) → node_at nodes k ≡ Gate kind.Xor a b → Over nodes args a → Over nodes args b → Over nodes args k

-- a node that is a gate
abbrev pub IsGate : Node → Type 0
IsGate (Input p i) = ⊥
IsGate (Flop name init d) = ⊥
IsGate (Wire rank from) = ⊥
IsGate (Gate g a b) = Unit {0}
IsGate (Ram rank first ram) = ⊥

-- gates alone are added, at most so many, and nothing else changes
pub record Adds (most : ℕ) (old new : Circuit) : Type 0 where
  pub gates : List Node
  pub nodes : new.nodes ≡ old.nodes ++ gates
  pub only : All IsGate gates
  pub few : length gates ≤ most
  pub clock : new.clock ≡ old.clock
  pub ports : new.ports ≡ old.ports

-- in each clock of each history that explains the nodes this holds of the bits of the nets
abbrev pub Always : List Node → ((ℕ → Bool) → Type 0) → Type 0
Always nodes holds = (trace : Trace) (h : History) → Explains nodes trace h → (t : ℕ) → holds (h t)

-- A circuit over the nets `args` is added, of at most so many gates. Its nets are there and reach what `args` names
-- alone, and this holds of the bits.
pub record Makes (most : ℕ) (args : List ℕ) (old new : Circuit) (nets : List ℕ) (holds : (ℕ → Bool) → Type 0) : Type 0 where
  pub adds : Adds most old new
  pub there : All (λ k. k < length new.nodes) nets
  pub reach : All (Over new.nodes args) nets
  pub value : Always new.nodes holds
