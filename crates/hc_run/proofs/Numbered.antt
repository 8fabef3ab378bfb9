-- Elements one after the other, with their numbers.
use Rattle.std.specs.Prelude.{◌≡◌, ◌+◌, ◌-◌, ◌<◌, ◌++◌, ◌∷◌, ℕ, suc, List, length, drop, map}
use Rattle.std.specs.List.{flat_map, range_with_len}
use Rattle.std.proofs.Common.{get_or, sym, ◌∙◌, ap, arith}
use Rattle.std.proofs.lemmas.List.{at_drop_more}
use Rattle.hc_net.specs.declared.net.Cell.{Cell}
use Rattle.hc_net.specs.Run.{cell_width}
use Rattle.hc_run.specs.Edif.{each_from, each_cell}

-- the element at i, and those after it
pub flat_map_more : {X A : Type 0} (f : X → List A) (xs : List X) (i : ℕ) (d : X) → i < length xs
    → flat_map f (drop i xs) ≡ f (get_or xs i d) ++ flat_map f (drop (i + 1) xs)
flat_map_more f xs i d h = at_drop_more (flat_map f) xs i d h

pub each_from_more : {X A : Type 0} (f : ℕ → X → List A) (n : ℕ) (xs : List X) (i : ℕ) (d : X) → i < length xs
    → each_from f (n + i) (drop i xs) ≡ f (n + i) (get_or xs i d) ++ each_from f (n + (i + 1)) (drop (i + 1) xs)
each_from_more f n xs i d h =
    let next : n + i + 1 ≡ n + (i + 1) = omega arith in
    at_drop_more (each_from f (n + i)) xs i d h ∙ ap (λ m. f (n + i) (get_or xs i d) ++ each_from f m (drop (i + 1) xs)) next

-- the same counted from 0
pub each_from_0_more : {X A : Type 0} (f : ℕ → X → List A) (xs : List X) (i : ℕ) (d : X) → i < length xs
    → each_from f i (drop i xs) ≡ f i (get_or xs i d) ++ each_from f (i + 1) (drop (i + 1) xs)
each_from_0_more f xs i d h = at_drop_more (each_from f i) xs i d h

-- the number i, and those after it
pub range_more : {A : Type 0} (f : ℕ → List A) (i n : ℕ) → i < n
    → flat_map f (range_with_len i (n - i)) ≡ f i ++ flat_map f (range_with_len (i + 1) (n - (i + 1)))
range_more f i n h =
    let one : n - i ≡ suc (n - (i + 1)) = omega arith in
    ap (λ m. flat_map f (range_with_len i m)) one

-- the same where x is the element at i
pub each_from_0_at : {X A : Type 0} (f : ℕ → X → List A) (xs : List X) (i : ℕ) (x : X) → i < length xs → x ≡ get_or xs i x
    → each_from f i (drop i xs) ≡ f i x ++ each_from f (i + 1) (drop (i + 1) xs)
each_from_0_at f xs i x h is =
    each_from_0_more f xs i x h ∙ ap (λ y. f i y ++ each_from f (i + 1) (drop (i + 1) xs)) (sym is)

-- all numbers below n
pub range_all : {A : Type 0} (f : ℕ → List A) (n m : ℕ) → n ≡ m → flat_map f (range_with_len 0 (n - 0)) ≡ flat_map f (range_with_len 0 m)
range_all f n m is =
    let same : n - 0 ≡ m = omega arith in
    ap (λ k. flat_map f (range_with_len 0 k)) same

-- the same of a map
pub map_more : {X A : Type 0} (f : X → A) (xs : List X) (i : ℕ) (d : X) → i < length xs
    → map f (drop i xs) ≡ f (get_or xs i d) ∷ map f (drop (i + 1) xs)
map_more f xs i d h = at_drop_more (map f) xs i d h

pub range_map_more : {A : Type 0} (f : ℕ → A) (i n : ℕ) → i < n
    → map f (range_with_len i (n - i)) ≡ f i ∷ map f (range_with_len (i + 1) (n - (i + 1)))
range_map_more f i n h =
    let one : n - i ≡ suc (n - (i + 1)) = omega arith in
    ap (λ m. map f (range_with_len i m)) one

-- the cell at i, of width w, and those after it
pub each_cell_more : {A : Type 0} (f : ℕ → Cell → List A) (n w : ℕ) (xs : List Cell) (i : ℕ) (d c : Cell) → i < length xs → c ≡ get_or xs i d → w ≡ cell_width c
    → each_cell f n (drop i xs) ≡ f n c ++ each_cell f (n + w) (drop (i + 1) xs)
each_cell_more f n w xs i d c h is width =
    at_drop_more (each_cell f n) xs i d h ∙ ap (λ x. f n x ++ each_cell f (n + cell_width x) (drop (i + 1) xs)) (sym is)
    ∙ ap (λ m. f n c ++ each_cell f (n + m) (drop (i + 1) xs)) (sym width)
