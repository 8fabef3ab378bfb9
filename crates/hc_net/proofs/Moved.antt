-- RAMs whose nets are renamed, and what RAMs hold from clock to clock.
use Rattle.std.proofs.Common.{◌≡◌, ◌<◌, ◌≤◌, ℕ, zero, suc, ◌+◌, ◌*◌, List, [], ◌∷◌, ◌++◌, length, map, take, drop, get_or, Bool, Option, Some, None, refl, ap, ap₂, sym, ◌∙◌, subst, arith, ◌&&◌, if◌then◌else◌, nat_lt}
use Rattle.std.specs.Prelude.{slice_get, All}
use Rattle.std.proofs.lemmas.List.{length-map, get_or-drop}
use Rattle.hc_net.specs.Bits.{number}
use Rattle.hc_net.specs.Ram.{address, written, moved, put_at}
use Rattle.hc_net.specs.Run.{cell_width, cell_nets, gate_in, gate_count, ram_in, ram_count, rams_of, first_held, next_words}
use Rattle.hc_net.specs.Place.{with_moved_ram}
use Rattle.hc_net.specs.Valid.{RamHasSizes}
use Rattle.hc_net.specs.Circuit.{node_at, memories_of}
use Rattle.hc_net.specs.declared.net.Cell.{Cell}
use Rattle.hc_net.specs.declared.net.Cell.TheVariants as cell
use Rattle.hc_net.specs.declared.ram.RamCell.{RamCell}
use Rattle.hc_net.specs.declared.node.Node.{Node}
use Rattle.hc_net.specs.declared.node.Node.TheVariants.{Input, Flop, Wire, Gate, Ram}

-- ---- cells with RAMs renamed

width_same : (f : ℕ → ℕ) (c : Cell) → cell_width (with_moved_ram f c) ≡ cell_width c
width_same f cell.Zero = refl
width_same f cell.One = refl
width_same f (cell.Not a) = refl
width_same f (cell.And a b) = refl
width_same f (cell.Or a b) = refl
width_same f (cell.Xor a b) = refl
width_same f (cell.Ram r) = refl

gate_same : (f : ℕ → ℕ) (c : Cell) → gate_in (with_moved_ram f c) ≡ gate_in c
gate_same f cell.Zero = refl
gate_same f cell.One = refl
gate_same f (cell.Not a) = refl
gate_same f (cell.And a b) = refl
gate_same f (cell.Or a b) = refl
gate_same f (cell.Xor a b) = refl
gate_same f (cell.Ram r) = refl

ram_same : (f : ℕ → ℕ) (c : Cell) → ram_in (with_moved_ram f c) ≡ ram_in c
ram_same f cell.Zero = refl
ram_same f cell.One = refl
ram_same f (cell.Not a) = refl
ram_same f (cell.And a b) = refl
ram_same f (cell.Or a b) = refl
ram_same f (cell.Xor a b) = refl
ram_same f (cell.Ram r) = refl

pub nets_moved : (f : ℕ → ℕ) (cells : List Cell) → cell_nets (map (with_moved_ram f) cells) ≡ cell_nets cells
nets_moved f [] = refl
nets_moved f (c ∷ cells) = ap₂ ◌+◌ (width_same f c) (nets_moved f cells)

pub gates_moved : (f : ℕ → ℕ) (cells : List Cell) → gate_count (map (with_moved_ram f) cells) ≡ gate_count cells
gates_moved f [] = refl
gates_moved f (c ∷ cells) = ap₂ ◌+◌ (gate_same f c) (gates_moved f cells)

pub rams_moved : (f : ℕ → ℕ) (cells : List Cell) → ram_count (map (with_moved_ram f) cells) ≡ ram_count cells
rams_moved f [] = refl
rams_moved f (c ∷ cells) = ap₂ ◌+◌ (ram_same f c) (rams_moved f cells)

pub rams_of-moved : (f : ℕ → ℕ) (cells : List Cell) → rams_of (map (with_moved_ram f) cells) ≡ map (moved f) (rams_of cells)
rams_of-moved f [] = refl
rams_of-moved f (cell.Zero ∷ cells) = rams_of-moved f cells
rams_of-moved f (cell.One ∷ cells) = rams_of-moved f cells
rams_of-moved f (cell.Not a ∷ cells) = rams_of-moved f cells
rams_of-moved f (cell.And a b ∷ cells) = rams_of-moved f cells
rams_of-moved f (cell.Or a b ∷ cells) = rams_of-moved f cells
rams_of-moved f (cell.Xor a b ∷ cells) = rams_of-moved f cells
rams_of-moved f (cell.Ram r ∷ cells) = ap (λ l. moved f r ∷ l) (rams_of-moved f cells)

pub take_mapped : {X Y : Type 0} (f : X → Y) (xs : List X) (n : ℕ) → take n (map f xs) ≡ map f (take n xs)
take_mapped f [] zero = refl
take_mapped f [] (suc n) = refl
take_mapped f (x ∷ xs) zero = refl
take_mapped f (x ∷ xs) (suc n) = ap (λ l. f x ∷ l) (take_mapped f xs n)

none_more : (cells : List Cell) (j : ℕ) → 0 + ram_count (take j cells) ≡ ram_count (take j cells)
none_more cells j = omega arith

one_more : (cells : List Cell) (j : ℕ) → 1 + ram_count (take j cells) ≡ suc (ram_count (take j cells))
one_more cells j = omega arith

-- the RAM that is cell j, among the RAMs
pub ram_there : (cells : List Cell) (j : ℕ) (r : RamCell) → slice_get cells j ≡ Some (cell.Ram r) → slice_get (rams_of cells) (ram_count (take j cells)) ≡ Some r
ram_there [] j r there = absurd cc
ram_there (c ∷ cells) zero r there = let same : c ≡ cell.Ram r = cc in ap (λ (x : Cell). slice_get (rams_of (x ∷ cells)) 0) same
ram_there (cell.Zero ∷ cells) (suc j) r there = ap (slice_get (rams_of cells)) (none_more cells j) ∙ ram_there cells j r there
ram_there (cell.One ∷ cells) (suc j) r there = ap (slice_get (rams_of cells)) (none_more cells j) ∙ ram_there cells j r there
ram_there (cell.Not a ∷ cells) (suc j) r there = ap (slice_get (rams_of cells)) (none_more cells j) ∙ ram_there cells j r there
ram_there (cell.And a b ∷ cells) (suc j) r there = ap (slice_get (rams_of cells)) (none_more cells j) ∙ ram_there cells j r there
ram_there (cell.Or a b ∷ cells) (suc j) r there = ap (slice_get (rams_of cells)) (none_more cells j) ∙ ram_there cells j r there
ram_there (cell.Xor a b ∷ cells) (suc j) r there = ap (slice_get (rams_of cells)) (none_more cells j) ∙ ram_there cells j r there
ram_there (cell.Ram m ∷ cells) (suc j) r there = ap (slice_get (m ∷ rams_of cells)) (one_more cells j) ∙ ram_there cells j r there

pub sizes_moved : (f : ℕ → ℕ) (r : RamCell) → RamHasSizes r → RamHasSizes (moved f r)
sizes_moved f r s = record {
  least = s.least;
  most = s.most;
  some = s.some;
  few = s.few;
  addr = length-map r.addr f ∙ s.addr;
  d = length-map r.d f ∙ s.d;
  init = s.init;
}

-- ---- the RAMs of nodes

pub memory_there : (nodes : List Node) (k rank first : ℕ) (r : RamCell) → node_at nodes k ≡ Ram rank first (Some r) → slice_get (memories_of nodes) (length (memories_of (take k nodes))) ≡ Some r
memory_there [] k rank first r e = absurd cc
memory_there (n ∷ nodes) zero rank first r e = ap (λ (x : Node). slice_get (memories_of (x ∷ nodes)) 0) e
memory_there (Input q j ∷ nodes) (suc k) rank first r e = memory_there nodes k rank first r e
memory_there (Flop name init d ∷ nodes) (suc k) rank first r e = memory_there nodes k rank first r e
memory_there (Wire q from ∷ nodes) (suc k) rank first r e = memory_there nodes k rank first r e
memory_there (Gate g a b ∷ nodes) (suc k) rank first r e = memory_there nodes k rank first r e
memory_there (Ram q f None ∷ nodes) (suc k) rank first r e = memory_there nodes k rank first r e
memory_there (Ram q f (Some m) ∷ nodes) (suc k) rank first r e = memory_there nodes k rank first r e

-- of two RAMs the earlier one is earlier among the RAMs
pub memories_apart : (nodes : List Node) (k l rank first : ℕ) (r : RamCell) → k < l → node_at nodes k ≡ Ram rank first (Some r) → length (memories_of (take k nodes)) < length (memories_of (take l nodes))
memories_apart [] k l rank first r lt e = absurd cc
memories_apart (n ∷ nodes) k zero rank first r lt e = absurd (omega (arith, lt))
memories_apart (n ∷ nodes) zero (suc l) rank first r lt e = let more = ap (λ (x : Node). length (memories_of (x ∷ take l nodes))) e in omega arith
memories_apart (Input q j ∷ nodes) (suc k) (suc l) rank first r lt e = memories_apart nodes k l rank first r (omega (arith, lt)) e
memories_apart (Flop name init d ∷ nodes) (suc k) (suc l) rank first r lt e = memories_apart nodes k l rank first r (omega (arith, lt)) e
memories_apart (Wire q from ∷ nodes) (suc k) (suc l) rank first r lt e = memories_apart nodes k l rank first r (omega (arith, lt)) e
memories_apart (Gate g a b ∷ nodes) (suc k) (suc l) rank first r lt e = memories_apart nodes k l rank first r (omega (arith, lt)) e
memories_apart (Ram q f None ∷ nodes) (suc k) (suc l) rank first r lt e = memories_apart nodes k l rank first r (omega (arith, lt)) e
memories_apart (Ram q f (Some m) ∷ nodes) (suc k) (suc l) rank first r lt e = let rest = memories_apart nodes k l rank first r (omega (arith, lt)) e in omega arith

-- the node of a RAM
pub record IsMemory (nodes : List Node) (r : RamCell) : Type 0 where
  pub k : ℕ
  pub rank : ℕ
  pub first : ℕ
  pub node : node_at nodes k ≡ Ram rank first (Some r)

behind_memory : (n : Node) (nodes : List Node) (r : RamCell) → IsMemory nodes r → IsMemory (n ∷ nodes) r
behind_memory n nodes r m = record { k = suc m.k; rank = m.rank; first = m.first; node = m.node }

pub memory_node : (nodes : List Node) (j : ℕ) (r : RamCell) → slice_get (memories_of nodes) j ≡ Some r → IsMemory nodes r
memory_node [] j r there = absurd cc
memory_node (Input q i ∷ nodes) j r there = behind_memory _ nodes r (memory_node nodes j r there)
memory_node (Flop name init d ∷ nodes) j r there = behind_memory _ nodes r (memory_node nodes j r there)
memory_node (Wire q from ∷ nodes) j r there = behind_memory _ nodes r (memory_node nodes j r there)
memory_node (Gate g a b ∷ nodes) j r there = behind_memory _ nodes r (memory_node nodes j r there)
memory_node (Ram q f None ∷ nodes) j r there = behind_memory _ nodes r (memory_node nodes j r there)
memory_node (Ram q f (Some m) ∷ nodes) zero r there = record { k = 0; rank = q; first = f; node = let same : m ≡ r = cc in ap (λ (x : RamCell). Ram q f (Some x)) same }
memory_node (Ram q f (Some m) ∷ nodes) (suc j) r there = behind_memory _ nodes r (memory_node nodes j r there)

-- ---- what RAMs hold

map_twice : (f : ℕ → Bool) (g : ℕ → ℕ) (xs : List ℕ) → map f (map g xs) ≡ map (λ x. f (g x)) xs
map_twice f g [] = refl
map_twice f g (x ∷ xs) = ap (λ l. f (g x) ∷ l) (map_twice f g xs)

pub address_moved : (g : ℕ → ℕ) (r : RamCell) (f : ℕ → Bool) → address (moved g r) f ≡ address r (λ k. f (g k))
address_moved g r f = ap number (map_twice f g r.addr)

pub written_moved : (g : ℕ → ℕ) (r : RamCell) (held : List Bool) (f : ℕ → Bool) → written (moved g r) held f ≡ written r held (λ k. f (g k))
written_moved g r held f = ap₂ (λ (a : ℕ) (bits : List Bool). if f (g r.we) && nat_lt a r.words then put_at held (a * r.width) bits else held) (address_moved g r f) (map_twice f g r.d)

pub next_there : (rams : List RamCell) (words : List (List Bool)) (v : ℕ → Bool) (j : ℕ) (r : RamCell) → slice_get rams j ≡ Some r → slice_get (next_words rams words v) j ≡ Some (written r (get_or words j []) v)
next_there [] words v j r there = absurd cc
next_there (m ∷ rams) words v zero r there = let same : m ≡ r = cc in ap (λ (x : RamCell). Some (written x (first_held words) v)) same
next_there (m ∷ rams) words v (suc j) r there = next_there rams (drop 1 words) v j r there ∙ ap (λ (held : List Bool). Some (written r held v)) (get_or-drop 1 words j [] ∙ ap (λ (n : ℕ). get_or words n []) (let e : 1 + j ≡ suc j = omega arith in e))
