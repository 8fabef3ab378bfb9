-- Lists of cells.
use Rattle.std.proofs.Common.{◌≡◌, ◌≤◌, ◌<◌, ℕ, zero, suc, ◌+◌, ◌⊎◌, List, [], ◌∷◌, ◌++◌, length, take, Some, refl, ap, inl, inr, arith}
use Rattle.std.specs.Prelude.{slice_get}
use Rattle.hc_net.specs.Run.{cell_width, cell_nets, gate_count, gate_in, ram_count, ram_in, rams_of}
use Rattle.hc_net.specs.declared.net.Cell.{Cell}
use Rattle.hc_net.specs.declared.net.Cell.TheVariants.{Zero, One, Not, And, Or, Xor, Ram}

pub slice_get_more : {X : Type 0} (xs ys : List X) (j : ℕ) (x : X) → slice_get xs j ≡ Some x → slice_get (xs ++ ys) j ≡ Some x
slice_get_more [] ys j x e = absurd cc
slice_get_more (a ∷ xs) ys zero x e = e
slice_get_more (a ∷ xs) ys (suc j) x e = slice_get_more xs ys j x e

pub slice_get_last : {X : Type 0} (xs : List X) (x : X) → slice_get (xs ++ x ∷ []) (length xs) ≡ Some x
slice_get_last [] x = refl
slice_get_last (a ∷ xs) x = slice_get_last xs x

pub slice_get_push : {X : Type 0} (xs : List X) (x : X) (j : ℕ) (y : X) → slice_get (xs ++ x ∷ []) j ≡ Some y → (slice_get xs j ≡ Some y) ⊎ ((j ≡ length xs) × (x ≡ y))
slice_get_push [] x zero y e = inr (refl, cc)
slice_get_push [] x (suc j) y e = absurd cc
slice_get_push (a ∷ xs) x zero y e = inl e
slice_get_push (a ∷ xs) x (suc j) y e = elim (slice_get_push xs x j y e) [
  | inl old ↦ inl old
  | inr new ↦ inr (ap suc new.0, new.1)
]

pub take_front : {X : Type 0} (xs ys : List X) (n : ℕ) → n ≤ length xs → take n (xs ++ ys) ≡ take n xs
take_front [] ys zero le = refl
take_front [] ys (suc n) le = absurd (omega arith)
take_front (x ∷ xs) ys zero le = refl
take_front (x ∷ xs) ys (suc n) le = ap (λ l. x ∷ l) (take_front xs ys n (omega arith))

pub take_whole : {X : Type 0} (xs : List X) → take (length xs) xs ≡ xs
take_whole [] = refl
take_whole (x ∷ xs) = ap (λ l. x ∷ l) (take_whole xs)

pub cell_nets-append : (xs ys : List Cell) → cell_nets (xs ++ ys) ≡ cell_nets xs + cell_nets ys
cell_nets-append [] ys = omega arith
cell_nets-append (c ∷ xs) ys = omega (arith, cell_nets-append xs ys)

pub gate_count-append : (xs ys : List Cell) → gate_count (xs ++ ys) ≡ gate_count xs + gate_count ys
gate_count-append [] ys = omega arith
gate_count-append (c ∷ xs) ys = omega (arith, gate_count-append xs ys)

pub ram_count-append : (xs ys : List Cell) → ram_count (xs ++ ys) ≡ ram_count xs + ram_count ys
ram_count-append [] ys = omega arith
ram_count-append (c ∷ xs) ys = omega (arith, ram_count-append xs ys)

pub rams_of-append : (xs ys : List Cell) → rams_of (xs ++ ys) ≡ rams_of xs ++ rams_of ys
rams_of-append [] ys = refl
rams_of-append (Zero ∷ xs) ys = rams_of-append xs ys
rams_of-append (One ∷ xs) ys = rams_of-append xs ys
rams_of-append (Not a ∷ xs) ys = rams_of-append xs ys
rams_of-append (And a b ∷ xs) ys = rams_of-append xs ys
rams_of-append (Or a b ∷ xs) ys = rams_of-append xs ys
rams_of-append (Xor a b ∷ xs) ys = rams_of-append xs ys
rams_of-append (Ram r ∷ xs) ys = ap (λ l. r ∷ l) (rams_of-append xs ys)

pub length-rams_of : (xs : List Cell) → length (rams_of xs) ≡ ram_count xs
length-rams_of [] = refl
length-rams_of (Zero ∷ xs) = omega (arith, length-rams_of xs)
length-rams_of (One ∷ xs) = omega (arith, length-rams_of xs)
length-rams_of (Not a ∷ xs) = omega (arith, length-rams_of xs)
length-rams_of (And a b ∷ xs) = omega (arith, length-rams_of xs)
length-rams_of (Or a b ∷ xs) = omega (arith, length-rams_of xs)
length-rams_of (Xor a b ∷ xs) = omega (arith, length-rams_of xs)
length-rams_of (Ram r ∷ xs) = omega (arith, length-rams_of xs)

-- the nets before a cell and its own are among those of all cells
pub nets_through : (xs : List Cell) (j : ℕ) (c : Cell) → slice_get xs j ≡ Some c → cell_nets (take j xs) + cell_width c ≤ cell_nets xs
nets_through [] j c there = absurd cc
nets_through (d ∷ xs) zero c there = let same : d ≡ c = cc in let width = ap cell_width same in omega arith
nets_through (d ∷ xs) (suc j) c there = omega (arith, nets_through xs j c there)
