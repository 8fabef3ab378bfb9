-- Lists of nodes: those of two lists together, and those of which one is connected.
use Rattle.std.proofs.Common.{◌≡◌, ◌<◌, ◌≤◌, ℕ, zero, suc, ◌+◌, List, [], ◌∷◌, ◌++◌, length, set, refl, ap, arith}
use Rattle.std.proofs.lemmas.List.{get_or_append_left, get_or_past}
use Rattle.hc_net.specs.Circuit.{node_at, input_bits_of, flops_of, nets_of_cells, reading}
use Rattle.hc_net.specs.declared.node.Node.{Node}
use Rattle.std.proofs.Common.{None, Some}
use Rattle.hc_net.specs.declared.node.Node.TheVariants.{Input, Flop, Wire, Gate, Ram}

pub input_bits_of-append : (xs ys : List Node) → input_bits_of (xs ++ ys) ≡ input_bits_of xs ++ input_bits_of ys
input_bits_of-append [] ys = refl
input_bits_of-append (Input p i ∷ xs) ys = ap (λ l. (p, i) ∷ l) (input_bits_of-append xs ys)
input_bits_of-append (Flop name init d ∷ xs) ys = input_bits_of-append xs ys
input_bits_of-append (Wire rank from ∷ xs) ys = input_bits_of-append xs ys
input_bits_of-append (Gate g a b ∷ xs) ys = input_bits_of-append xs ys
input_bits_of-append (Ram rank first ram ∷ xs) ys = input_bits_of-append xs ys

-- the node of a net after an append
pub node_at-append : (xs ys : List Node) (k : ℕ) → k < length xs → node_at (xs ++ ys) k ≡ node_at xs k
node_at-append xs ys k h = get_or_append_left xs ys _ k h

pub node_at_past : (xs : List Node) (k : ℕ) → length xs ≤ k → node_at xs k ≡ Wire 0 None
node_at_past xs k h = get_or_past xs k _ h

pub input_bits_of-connected : (xs : List Node) (k d : ℕ) → input_bits_of (set xs k (reading d (node_at xs k))) ≡ input_bits_of xs
input_bits_of-connected [] k d = refl
input_bits_of-connected (Input p i ∷ xs) zero d = refl
input_bits_of-connected (Flop name init x ∷ xs) zero d = refl
input_bits_of-connected (Wire rank x ∷ xs) zero d = refl
input_bits_of-connected (Gate g a b ∷ xs) zero d = refl
input_bits_of-connected (Ram rank first ram ∷ xs) zero d = refl
input_bits_of-connected (Input p i ∷ xs) (suc k) d = ap (λ l. (p, i) ∷ l) (input_bits_of-connected xs k d)
input_bits_of-connected (Flop name init x ∷ xs) (suc k) d = input_bits_of-connected xs k d
input_bits_of-connected (Wire rank x ∷ xs) (suc k) d = input_bits_of-connected xs k d
input_bits_of-connected (Gate g a b ∷ xs) (suc k) d = input_bits_of-connected xs k d
input_bits_of-connected (Ram rank first ram ∷ xs) (suc k) d = input_bits_of-connected xs k d

pub flops_of-append : (xs ys : List Node) → flops_of (xs ++ ys) ≡ flops_of xs ++ flops_of ys
flops_of-append [] ys = refl
flops_of-append (Input p i ∷ xs) ys = flops_of-append xs ys
flops_of-append (Flop name init d ∷ xs) ys = ap (λ l. (name, init) ∷ l) (flops_of-append xs ys)
flops_of-append (Wire rank from ∷ xs) ys = flops_of-append xs ys
flops_of-append (Gate g a b ∷ xs) ys = flops_of-append xs ys
flops_of-append (Ram rank first ram ∷ xs) ys = flops_of-append xs ys

pub nets_of_cells-append : (xs ys : List Node) → nets_of_cells (xs ++ ys) ≡ nets_of_cells xs + nets_of_cells ys
nets_of_cells-append [] ys = omega arith
nets_of_cells-append (Input p i ∷ xs) ys = nets_of_cells-append xs ys
nets_of_cells-append (Flop name init d ∷ xs) ys = nets_of_cells-append xs ys
nets_of_cells-append (Wire rank from ∷ xs) ys = nets_of_cells-append xs ys
nets_of_cells-append (Gate g a b ∷ xs) ys = omega (arith, nets_of_cells-append xs ys)
nets_of_cells-append (Ram rank first None ∷ xs) ys = nets_of_cells-append xs ys
nets_of_cells-append (Ram rank first (Some r) ∷ xs) ys = omega (arith, nets_of_cells-append xs ys)

pub flops_of-connected : (xs : List Node) (k d : ℕ) → length (flops_of (set xs k (reading d (node_at xs k)))) ≡ length (flops_of xs)
flops_of-connected [] k d = refl
flops_of-connected (Input p i ∷ xs) zero d = refl
flops_of-connected (Flop name init x ∷ xs) zero d = refl
flops_of-connected (Wire rank x ∷ xs) zero d = refl
flops_of-connected (Gate g a b ∷ xs) zero d = refl
flops_of-connected (Ram rank first ram ∷ xs) zero d = refl
flops_of-connected (Input p i ∷ xs) (suc k) d = flops_of-connected xs k d
flops_of-connected (Flop name init x ∷ xs) (suc k) d = ap suc (flops_of-connected xs k d)
flops_of-connected (Wire rank x ∷ xs) (suc k) d = flops_of-connected xs k d
flops_of-connected (Gate g a b ∷ xs) (suc k) d = flops_of-connected xs k d
flops_of-connected (Ram rank first ram ∷ xs) (suc k) d = flops_of-connected xs k d

pub nets_of_cells-connected : (xs : List Node) (k d : ℕ) → nets_of_cells (set xs k (reading d (node_at xs k))) ≡ nets_of_cells xs
nets_of_cells-connected [] k d = refl
nets_of_cells-connected (Input p i ∷ xs) zero d = refl
nets_of_cells-connected (Flop name init x ∷ xs) zero d = refl
nets_of_cells-connected (Wire rank x ∷ xs) zero d = refl
nets_of_cells-connected (Gate g a b ∷ xs) zero d = refl
nets_of_cells-connected (Ram rank first None ∷ xs) zero d = refl
nets_of_cells-connected (Ram rank first (Some r) ∷ xs) zero d = refl
nets_of_cells-connected (Input p i ∷ xs) (suc k) d = nets_of_cells-connected xs k d
nets_of_cells-connected (Flop name init x ∷ xs) (suc k) d = nets_of_cells-connected xs k d
nets_of_cells-connected (Wire rank x ∷ xs) (suc k) d = nets_of_cells-connected xs k d
nets_of_cells-connected (Gate g a b ∷ xs) (suc k) d = ap (λ n. 1 + n) (nets_of_cells-connected xs k d)
nets_of_cells-connected (Ram rank first None ∷ xs) (suc k) d = nets_of_cells-connected xs k d
nets_of_cells-connected (Ram rank first (Some r) ∷ xs) (suc k) d = ap (λ n. r.width + n) (nets_of_cells-connected xs k d)
