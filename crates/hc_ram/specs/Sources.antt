-- What drives the pins of a RAM, and the uses that may write.
use Rattle.std.specs.Prelude.{◌≡◌, ◌<◌, ℕ, ◌+◌, List, [], ◌∷◌, ◌++◌, length, take, drop, Bool, true, false, Option, Some, None, slice_index, All}
use Rattle.hc_net.specs.Circuit.{Circuit, constant_at, node_at}
use Rattle.hc_net.specs.Made.{Over, Adds, Always}
use Rattle.hc_net.specs.declared.node.Node.{Node}
use Rattle.hc_net.specs.declared.ram.RamWires.{RamWires}
use Rattle.hc_ram.specs.Enabled.{all_nets}
use Rattle.hc_ram.specs.Ports.{ServesOne, pin_count, port_gates}

-- ---- the uses that may write

-- whether a use may write: the constant of its write net isn't 0
abbrev pub may_write : Option Bool → Bool
may_write (Some bit) = bit
may_write None = true

abbrev pub kept : {X : Type 0} → Bool → X → List X → List X
kept true x xs = x ∷ xs
kept false x xs = xs

-- of a list with an entry for each use, by the write nets, the entries of those that may write
abbrev pub writing : {X : Type 0} → List Node → List ℕ → List X → List X
writing nodes [] xs = []
writing nodes (k ∷ ks) [] = []
writing nodes (k ∷ ks) (x ∷ xs) = kept (may_write (constant_at (node_at nodes k))) x (writing nodes ks xs)

-- the write net of each use, and above it its value
abbrev pub write_words : List ℕ → List (List ℕ) → List (List ℕ)
write_words [] values = []
write_words (k ∷ ks) [] = []
write_words (k ∷ ks) (x ∷ xs) = (k ∷ x) ∷ write_words ks xs

-- ---- the sources

-- nets in the order of a RAM's pins, as its pins
abbrev pub as_pins : ℕ → List ℕ → RamWires
as_pins a sources = record { q = []; addr = take a sources; we = slice_index sources a; d = drop (a + 1) sources }

-- Gates are added, and some of their nets would serve as the pins of a RAM.
pub record MakesSources (ram : RamWires) (enables : List ℕ) (indexes : List (List ℕ)) (writes : List ℕ) (values : List (List ℕ)) (old new : Circuit) (sources : List ℕ) : Type 0 where
  pub adds : Adds (port_gates old.nodes (length ram.addr) (length ram.d) writes) old new
  pub count : length sources ≡ pin_count ram
  pub there : All (λ k. k < length new.nodes) sources
  pub address : (i : ℕ) → i < length ram.addr → Over new.nodes (enables ++ all_nets indexes) (slice_index sources i)
  pub reach : All (Over new.nodes (enables ++ (all_nets indexes ++ (writes ++ all_nets values)))) sources
  pub value : Always new.nodes (λ v. ServesOne v (as_pins (length ram.addr) sources) enables indexes writes values)
