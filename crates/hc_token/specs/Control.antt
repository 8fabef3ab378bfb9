-- What a circuit of control adds to a builder, and what its nets reach.
use Rattle.std.specs.Prelude.{◌≡◌, ◌<◌, ◌≤◌, ℕ, ◌+◌, List, ◌++◌, map, length, Bool, true, false, Some, None, All}
use Rattle.std.specs.List.{range_with_len}
use Rattle.hc_net.specs.Run.{Trace}
use Rattle.hc_net.specs.Circuit.{Circuit, History, Explains, node_at, constant_at, flops_of, gates_of}
use Rattle.hc_net.specs.Made.{Over}
use Rattle.hc_net.specs.declared.net.FlopName.{FlopName}
use Rattle.hc_net.specs.declared.net.FlopName.TheVariants.{Token}
use Rattle.hc_net.specs.declared.node.Node.{Node}
use Rattle.hc_net.specs.declared.node.Node.TheVariants.{Input, Flop, Wire, Gate, Ram}
use Rattle.hc_token.specs.declared.ends.Ends.{Ends}

-- a gate, or a flip-flop that is fed
abbrev pub IsPart : Node → Type 0
IsPart (Input p i) = ⊥
IsPart (Flop name init None) = ⊥
IsPart (Flop name init (Some d)) = Unit {0}
IsPart (Wire rank from) = ⊥
IsPart (Gate g a b) = Unit {0}
IsPart (Ram rank first ram) = ⊥

abbrev pub IsFlop : Node → Type 0
IsFlop (Input p i) = ⊥
IsFlop (Flop name init d) = Unit {0}
IsFlop (Wire rank from) = ⊥
IsFlop (Gate g a b) = ⊥
IsFlop (Ram rank first ram) = ⊥

-- the flip-flops of so many tokens from this number on, each 0 at edge 0
abbrev pub tokens_from : (token count : ℕ) → List (FlopName × Bool)
tokens_from token count = map (λ i. (Token (token + i), false)) (range_with_len 0 count)

-- At most so many gates, and so many tokens from this number on, are added, each flip-flop fed, and nothing else changes.
pub record AddsControl (most token count : ℕ) (old new : Circuit) : Type 0 where
  pub added : List Node
  pub nodes : new.nodes ≡ old.nodes ++ added
  pub parts : All IsPart added
  pub gates : gates_of added ≤ most
  pub tokens : flops_of added ≡ tokens_from token count
  pub clock : new.clock ≡ old.clock
  pub ports : new.ports ≡ old.ports

-- A net reaches what these nets and some flip-flops name alone.
pub record Reaches (nodes : List Node) (args : List ℕ) (net : ℕ) : Type 0 where
  pub own : List ℕ
  pub flops : All (λ k. IsFlop (node_at nodes k)) own
  pub over : Over nodes (own ++ args) net

-- the net is the constant 0 by its gate
abbrev pub IsNever : List Node → ℕ → Type 0
IsNever nodes net = constant_at (node_at nodes net) ≡ Some false

-- the net is the constant 1 by its gate
abbrev pub IsAlways : List Node → ℕ → Type 0
IsAlways nodes net = constant_at (node_at nodes net) ≡ Some true

-- Control is added, of at most so many gates and of so many tokens. Its nets are there; its pass reaches what `passes` names
-- alone, and its finish what `finishes` and flip-flops name; and this holds of each history that explains the nodes.
pub record Controls (most token count : ℕ) (passes finishes : List ℕ) (old new : Circuit) (ends : Ends) (holds : History → Type 0) : Type 0 where
  pub adds : AddsControl most token count old new
  pub there : (ends.pass < length new.nodes) × (ends.finish < length new.nodes)
  pub pass : Over new.nodes passes ends.pass
  pub finish : Reaches new.nodes finishes ends.finish
  pub value : (trace : Trace) (h : History) → Explains new.nodes trace h → holds h

-- both nets of an end are there
abbrev pub AreThere : Circuit → Ends → Type 0
AreThere c ends = (ends.pass < length c.nodes) × (ends.finish < length c.nodes)
