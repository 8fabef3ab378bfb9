-- What drives the pins of a RAM (that at most one use a clock counts is this project's own).
use Rattle.std.specs.Prelude.{◌≡◌, ◌<◌, ◌≤◌, ℕ, suc, ◌+◌, ◌*◌, List, [], ◌∷◌, ◌++◌, length, map, Bool, true, false, Option, Some, None, slice_index, slice_index_or, All}
use Rattle.std.specs.List.{range_with_len, sum_by}
use Rattle.hc_net.specs.Circuit.{Circuit, IsUndriven, constant_at, node_at, reading, with_node_at}
use Rattle.hc_net.specs.Frame.{Keeps}
use Rattle.hc_net.specs.Made.{Over, Adds, Always}
use Rattle.hc_net.specs.declared.node.Node.{Node}
use Rattle.hc_net.specs.declared.ram.RamWires.{RamWires}
use Rattle.hc_ram.specs.Enabled.{all_nets}

-- the number of a RAM's pins
abbrev pub pin_count : RamWires → ℕ
pin_count ram = length ram.addr + 1 + length ram.d

-- The pins of a RAM stand in a row: address, write net, data. They are placeholders that nothing drives yet.
pub record ArePins (nodes : List Node) (ram : RamWires) : Type 0 where
  pub first : ℕ
  pub addr : ram.addr ≡ range_with_len first (length ram.addr)
  pub we : ram.we ≡ first + length ram.addr
  pub d : ram.d ≡ range_with_len (first + length ram.addr + 1) (length ram.d)
  pub there : first + pin_count ram ≤ length nodes
  pub undriven : (i : ℕ) → i < pin_count ram → IsUndriven (node_at nodes (first + i))

-- the gates for a use by its write net: two for each bit of the index, and where it is no read two for each bit of the value and
-- two for the write net
abbrev pub use_gates : ℕ → ℕ → Option Bool → ℕ
use_gates a w None = 2 * a + (2 * w + 2)
use_gates a w (Some true) = 2 * a + (2 * w + 2)
use_gates a w (Some false) = 2 * a

abbrev pub port_gates : List Node → ℕ → ℕ → List ℕ → ℕ
port_gates nodes a w writes = 1 + sum_by (λ k. use_gates a w (constant_at (node_at nodes k))) writes

-- this use is on, and no other is
pub record IsOnly (v : ℕ → Bool) (enables : List ℕ) (i : ℕ) : Type 0 where
  pub within : i < length enables
  pub holds : v (slice_index enables i) ≡ true
  pub only : (j : ℕ) → j < length enables → v (slice_index enables j) ≡ true → j ≡ i

-- The pins serve the one use that is on: they are its index, its write net and, where that is 1, its value. Where none is on,
-- nothing is written.
pub record ServesOne (v : ℕ → Bool) (ram : RamWires) (enables : List ℕ) (indexes : List (List ℕ)) (writes : List ℕ) (values : List (List ℕ)) : Type 0 where
  pub idle : ((i : ℕ) → i < length enables → v (slice_index enables i) ≡ false) → v ram.we ≡ false
  pub index : (i : ℕ) → IsOnly v enables i → map v ram.addr ≡ map v (slice_index_or indexes i [])
  pub write : (i : ℕ) → IsOnly v enables i → v ram.we ≡ v (slice_index writes i)
  pub value : (i : ℕ) → IsOnly v enables i → v (slice_index writes i) ≡ true → map v ram.d ≡ map v (slice_index_or values i [])

-- placeholders in a row from this net on, each driven by the net in its place
abbrev pub with_driven : Circuit → ℕ → List ℕ → Circuit
with_driven c net [] = c
with_driven c net (k ∷ ks) = with_driven (with_node_at c net (reading k (node_at c.nodes net))) (suc net) ks

-- Gates are added, and the pins of a RAM are driven; all else stays. What drives the address reaches the enables and the indexes
-- alone.
pub record DrivesPins (ram : RamWires) (enables : List ℕ) (indexes : List (List ℕ)) (writes : List ℕ) (values : List (List ℕ)) (old new : Circuit) : Type 0 where
  pub mid : Circuit
  pub sources : List ℕ
  pub adds : Adds (port_gates old.nodes (length ram.addr) (length ram.d) writes) old mid
  pub count : length sources ≡ pin_count ram
  pub there : All (λ k. k < length mid.nodes) sources
  pub address : (i : ℕ) → i < length ram.addr → Over mid.nodes (enables ++ all_nets indexes) (slice_index sources i)
  pub reach : All (Over mid.nodes (enables ++ (all_nets indexes ++ (writes ++ all_nets values)))) sources
  pub driven : (first : ℕ) → ram.we ≡ first + length ram.addr → new ≡ with_driven mid first sources
  pub kept : Keeps mid.nodes new.nodes
  pub value : Always new.nodes (λ v. ServesOne v ram enables indexes writes values)
