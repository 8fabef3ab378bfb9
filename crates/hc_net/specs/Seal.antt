-- When a builder can be sealed, and what its netlist is.
use Rattle.std.specs.Prelude.{◌≡◌, ◌≢◌, ◌<◌, ◌≤◌, ℕ, List, length, map, Bool, Option, Some, None, slice_get, All}
use Rattle.hc_net.specs.Ram.{held_at, moved}
use Rattle.hc_net.specs.Run.{Trace, net_bit, values_at, state_at, rams_of, ram_count, gate_count, HoldsBit, HoldsWords}
use Rattle.hc_net.specs.Valid.{IsValid, PortHasSizes, RamHasSizes, port_name}
use Rattle.hc_net.specs.Circuit.{Circuit, node_at, Explains, flops_of, gates_of, memories_of}
use Rattle.hc_net.specs.declared.net.Port.{Port}
use Rattle.hc_net.specs.declared.net.Port.TheVariants as port
use Rattle.hc_net.specs.declared.net.FlopName.{FlopName}
use Rattle.hc_net.specs.declared.net.RawNet.{RawNet}
use Rattle.hc_net.specs.declared.node.Node.{Node}
use Rattle.hc_net.specs.declared.node.Node.TheVariants.{Input, Flop, Wire, Gate, Ram}
use Rattle.hc_net.specs.declared.ram.RamCell.{RamCell}
use Rattle.hc_net.specs.declared.gate.GateKind.TheVariants as kind

-- net k reaches back through gates only placeholders and RAMs of rank below this one
pub data Within (nodes : List Node) (rank : ℕ) : ℕ → Type 0 where
  input : (k p i : ℕ) → node_at nodes k ≡ Input p i → Within nodes rank k
  flop : (k : ℕ) (name : FlopName) (init : Bool) (d : Option ℕ) → node_at nodes k ≡ Flop name init d → Within nodes rank k
  wire : (k r : ℕ) (from : Option ℕ) → node_at nodes k ≡ Wire r from → r < rank → Within nodes rank k
  ram : (k r first : ℕ) (ram : Option RamCell) → node_at nodes k ≡ Ram r first ram → r < rank → Within nodes rank k
  zero : (k a b : ℕ) → node_at nodes k ≡ Gate kind.Zero a b → Within nodes rank k
  one : (k a b : ℕ) → node_at nodes k ≡ Gate kind.One a b → Within nodes rank k
  negation : (k a b : ℕ) → node_at nodes k ≡ Gate kind.Not a b → Within nodes rank a → Within nodes rank k
  conjunction : (k a b : ℕ) → node_at nodes k ≡ Gate kind.And a b → Within nodes rank a → Within nodes rank b → Within nodes rank k
  disjunction : (k a b : ℕ) → node_at nodes k ≡ Gate kind.Or a b → Within nodes rank a → Within nodes rank b → Within nodes rank k
  exclusion : (k a b : ℕ) → node_at nodes k ≡ Gate kind.Xor a b → Within nodes rank a → Within nodes rank b → Within nodes rank k

-- flip-flops are fed, placeholders are driven by what reaches smaller ranks alone, names differ, and ports and RAMs have their
-- sizes
pub record IsSealable (c : Circuit) : Type 0 where
  pub fed : (k : ℕ) (name : FlopName) (init : Bool) → slice_get c.nodes k ≢ Some (Flop name init None)
  pub driven : (k rank : ℕ) (from : Option ℕ) → slice_get c.nodes k ≡ Some (Wire rank from) → (d : ℕ) × (from ≡ Some d) × Within c.nodes rank d
  pub flop_names : (i j : ℕ) (f g : FlopName × Bool) → i < j → slice_get (flops_of c.nodes) i ≡ Some f → slice_get (flops_of c.nodes) j ≡ Some g → f.0 ≢ g.0
  pub port_names : (i j : ℕ) (p q : Port) → i < j → slice_get c.ports i ≡ Some p → slice_get c.ports j ≡ Some q → port_name p ≢ port_name q
  pub ram_names : (i j : ℕ) (r s : RamCell) → i < j → slice_get (memories_of c.nodes) i ≡ Some r → slice_get (memories_of c.nodes) j ≡ Some s → r.object ≢ s.object
  pub sizes : All PortHasSizes c.ports
  pub ram_sizes : All RamHasSizes (memories_of c.nodes)

-- a port whose nets are renamed
abbrev pub placed : (ℕ → ℕ) → Port → Port
placed place (port.Input name width pins) = port.Input name width pins
placed place (port.Output name width pins from) = port.Output name width pins (map place from)

-- The netlist has the circuit's ports, flip-flops and RAMs and no more gates, and each net of the circuit has a net of the
-- netlist, so that every run of the netlist explains the circuit.
pub record Seals (c : Circuit) (raw : RawNet) : Type 0 where
  pub place : ℕ → ℕ
  pub clock : raw.clock ≡ c.clock
  pub ports : raw.ports ≡ map (placed place) c.ports
  pub flops : map (λ f. (f.name, f.init)) raw.flops ≡ flops_of c.nodes
  pub explains : (trace : Trace) → Explains c.nodes trace (λ t k. net_bit (values_at raw trace t) (place k))
  pub holds : (k : ℕ) (name : FlopName) (init : Bool) (d : Option ℕ) → slice_get c.nodes k ≡ Some (Flop name init d) → (trace : Trace) (t : ℕ) → HoldsBit raw.flops (state_at raw trace t) name (net_bit (values_at raw trace t) (place k))
  pub words : (j : ℕ) (r : RamCell) → slice_get (memories_of c.nodes) j ≡ Some r → (trace : Trace) (t : ℕ) → HoldsWords (rams_of raw.cells) (state_at raw trace t) (moved place r) (held_at r (λ t k. net_bit (values_at raw trace t) (place k)) t)
  pub rams : ram_count raw.cells ≡ length (memories_of c.nodes)
  pub gates : gate_count raw.cells ≤ gates_of c.nodes
  pub valid : IsValid raw
