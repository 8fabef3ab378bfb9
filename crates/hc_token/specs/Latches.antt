-- The flip-flops of latches, before they are fed and after.
use Rattle.std.specs.Prelude.{◌≡◌, ℕ, ◌+◌, List, ◌++◌, map, length, false, Some, None, slice_index}
use Rattle.std.specs.List.{range_with_len}
use Rattle.hc_net.specs.Circuit.{Circuit}
use Rattle.hc_net.specs.declared.net.FlopName.TheVariants.{Token}
use Rattle.hc_net.specs.declared.node.Node.{Node}
use Rattle.hc_net.specs.declared.node.Node.TheVariants.{Flop}

abbrev pub open_latch : ℕ → ℕ → Node
open_latch token i = Flop (Token (token + i)) false None

abbrev pub fed_latch : ℕ → List ℕ → ℕ → Node
fed_latch token sources i = Flop (Token (token + i)) false (Some (slice_index sources i))

-- so many latches that aren't fed
abbrev pub open_latches : ℕ → ℕ → List Node
open_latches token count = map (open_latch token) (range_with_len 0 count)

-- so many latches, each fed by the net in its place
abbrev pub fed_latches : ℕ → List ℕ → ℕ → List Node
fed_latches token sources count = map (fed_latch token sources) (range_with_len 0 count)

abbrev pub with_latches : Circuit → ℕ → ℕ → Circuit
with_latches c token count = record { clock = c.clock; ports = c.ports; nodes = c.nodes ++ open_latches token count }

-- the latches stand in a row between these nodes, and none is fed
pub record StandOpen (token : ℕ) (front back : List Node) (latches : List ℕ) (nodes : List Node) : Type 0 where
  pub nets : latches ≡ range_with_len (length front) (length latches)
  pub nodes_are : nodes ≡ front ++ (open_latches token (length latches) ++ back)

pub record AreOpen (latches : List ℕ) (nodes : List Node) : Type 0 where
  pub token : ℕ
  pub front : List Node
  pub back : List Node
  pub stand : StandOpen token front back latches nodes
