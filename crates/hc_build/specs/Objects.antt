-- The nodes and ports that stand for the objects of a core, object by object.
use Rattle.std.specs.Prelude.{◌≡◌, ◌<◌, ℕ, ◌+◌, ◌-◌, ◌^◌, true, List, [], ◌∷◌, ◌++◌, length, map, replicate, if◌then◌else◌, None}
use Rattle.std.specs.List.{range_with_len}
use Rattle.hc_core.specs.Sound.{HasLabelBytes, IsKind, is_port}
use Rattle.hc_core.specs.Typed.{kinds_of}
use Rattle.hc_core.specs.declared.object.Kind.{Kind}
use Rattle.hc_core.specs.declared.object.Kind.TheVariants as kind
use Rattle.hc_core.specs.declared.object.Object.{Object}
use Rattle.hc_core.specs.declared.object.Core.{Core}
use Rattle.hc_meaning.specs.Value.{first_words, is_input}
use Rattle.hc_net.specs.Bits.{bit}
use Rattle.hc_net.specs.Circuit.{Circuit, input_count, input_nodes}
use Rattle.hc_net.specs.declared.gate.GateKind.TheVariants as gate
use Rattle.hc_net.specs.declared.net.Port.{Port}
use Rattle.hc_net.specs.declared.net.Port.TheVariants.{Input, Output}
use Rattle.hc_net.specs.declared.net.FlopName.TheVariants.{Bit}
use Rattle.hc_net.specs.declared.node.Node.{Node}
use Rattle.hc_net.specs.declared.node.Node.TheVariants.{Flop, Wire, Gate}
use Rattle.hc_value.specs.declared.objects.ObjectNets.{ObjectNets}
use Rattle.hc_control.specs.Right.{net_count}

-- Flip-flops for w bits of object k, bit `from` of the object the first. They start with this number and aren't fed yet.
abbrev pub word_flops : (k from w bits : ℕ) → List Node
word_flops k from w bits = map (λ i. Flop (Bit k (from + i)) (bit bits i) None) (range_with_len 0 w)

-- those for numbers of w bits each, one behind another
abbrev pub words_flops : (k from w : ℕ) → List ℕ → List Node
words_flops k from w [] = []
words_flops k from w (bits ∷ rest) = word_flops k from w bits ++ words_flops k (from + w) w rest

-- a placeholder for a bit of an output: no net reaches it, so what drives it may reach placeholders of every lower rank
abbrev pub output_wire : Node
output_wire = Wire (2 ^ 32 - 1) None

-- The nodes of object k, before which so many inputs stand: flip-flops of a register or an array, the bits of an input, and
-- a placeholder for each bit of an output.
abbrev pub object_nodes : (k inputs : ℕ) → Kind → List Node
object_nodes k inputs (kind.Reg w s init) = words_flops k 0 w (first_words (kind.Reg w s init))
object_nodes k inputs (kind.Array w s n init) = words_flops k 0 w (first_words (kind.Array w s n init))
object_nodes k inputs (kind.Ram w s n init) = []
object_nodes k inputs (kind.Rom w s n init) = []
object_nodes k inputs (kind.Signal w s unset) = []
object_nodes k inputs (kind.Chan w s queue) = []
object_nodes k inputs (kind.Input w s pins) = input_nodes inputs w
object_nodes k inputs (kind.Output w s pins value) = replicate w output_wire

-- those of all objects, numbered from k on
abbrev pub nodes_from : (k inputs : ℕ) → List Kind → List Node
nodes_from k inputs [] = []
nodes_from k inputs (kind ∷ kinds) = object_nodes k inputs kind ++ nodes_from (k + 1) (inputs + (if is_input kind then 1 else 0)) kinds

-- the nets of each object, where the first is the net `base`
abbrev pub nets_from : ℕ → List Kind → List (List ℕ)
nets_from base [] = []
nets_from base (kind ∷ kinds) = range_with_len base (net_count kind) ∷ nets_from (base + net_count kind) kinds

-- the port of an object whose first net is this one, if it is a port
abbrev pub ports_by : List ℕ → ℕ → Kind → List Port
ports_by name base (kind.Reg w s init) = []
ports_by name base (kind.Array w s n init) = []
ports_by name base (kind.Ram w s n init) = []
ports_by name base (kind.Rom w s n init) = []
ports_by name base (kind.Signal w s unset) = []
ports_by name base (kind.Chan w s queue) = []
ports_by name base (kind.Input w s pins) = Input name w pins ∷ []
ports_by name base (kind.Output w s pins value) = Output name w pins (range_with_len base w) ∷ []

-- the ports of all objects, the first net of the first object being `base`
abbrev pub ports_from : ℕ → List Object → List Port
ports_from base [] = []
ports_from base (o ∷ rest) = ports_by o.name base o.kind ++ ports_from (base + net_count o.kind) rest

-- Nodes were added and nothing else, and their nets stand behind those of a list.
pub record AddsNodes (nodes : List Node) (before : List ℕ) (old new : Circuit) (nets : List ℕ) : Type 0 where
  pub adds : new ≡ record { clock = old.clock; ports = old.ports; nodes = old.nodes ++ nodes }
  pub nets_are : nets ≡ before ++ range_with_len (length old.nodes) (length nodes)

-- What it takes to place an object.
pub record CanPlace (kinds : List Kind) (o : Object) (c : Circuit) : Type 0 where
  pub is : IsKind kinds o.kind
  pub label : is_port o.kind ≡ true → HasLabelBytes o.name
  pub room : length c.nodes + net_count o.kind < 2 ^ 32
  pub few : length c.ports + 1 < 2 ^ 32

-- The nodes and the port of object k were added.
pub record AddsObject (k : ℕ) (o : Object) (old new : Circuit) (nets : List ℕ) : Type 0 where
  pub clock : new.clock ≡ old.clock
  pub ports : new.ports ≡ old.ports ++ ports_by o.name (length old.nodes) o.kind
  pub nodes : new.nodes ≡ old.nodes ++ object_nodes k (input_count old.ports) o.kind
  pub nets_are : nets ≡ range_with_len (length old.nodes) (net_count o.kind)

-- The objects of a core stand in a circuit, and behind them the constants 0 and 1; nothing else stands in it.
pub record Places (core : Core) (c : Circuit) (at : ObjectNets) : Type 0 where
  pub clock : c.clock ≡ core.clock
  pub ports : c.ports ≡ ports_from 0 core.objects
  pub nodes : c.nodes ≡ nodes_from 0 0 (kinds_of core.objects) ++ Gate gate.Zero 0 0 ∷ Gate gate.One 0 0 ∷ []
  pub objects : at.objects ≡ nets_from 0 (kinds_of core.objects)
  pub zero : at.zero ≡ length (nodes_from 0 0 (kinds_of core.objects))
  pub one : at.one ≡ length (nodes_from 0 0 (kinds_of core.objects)) + 1
