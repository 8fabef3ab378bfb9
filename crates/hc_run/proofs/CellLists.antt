-- Gates and RAMs among cells.
use Rattle.std.specs.Prelude.{◌≡◌, ◌+◌, ◌<◌, ◌≤◌, Bool, true, false, if◌then◌else◌, ◌++◌, ◌∷◌, [], ℕ, zero, suc, List, length, drop, All, refl}
use Rattle.std.proofs.Common.{get_or, ◌∙◌, ap, sym, subst, arith}
use Rattle.std.proofs.lemmas.List.{at_drop_more}
use Rattle.std.proofs.lemmas.List.Elements.{All-nil, All-cons, All-head, All-tail}
use Rattle.hc_num.specs.Index.{first_from, index_width}
use Rattle.hc_net.specs.declared.net.Cell.{Cell}
use Rattle.hc_net.specs.declared.net.Cell.TheVariants.{Zero, One, Not, And, Or, Xor, Ram}
use Rattle.hc_net.specs.Run.{cell_width, cell_nets, ram_in, ram_count, gate_in, gate_count, rams_of}
use Rattle.hc_net.specs.Valid.{RamHasSizes}

-- each cell is a gate or a RAM
one_kind : (c : Cell) → gate_in c + ram_in c ≡ 1
one_kind Zero = refl
one_kind One = refl
one_kind (Not a) = refl
one_kind (And a b) = refl
one_kind (Or a b) = refl
one_kind (Xor a b) = refl
one_kind (Ram r) = refl

pub all_cells : (cells : List Cell) → gate_count cells + ram_count cells ≡ length cells
all_cells [] = refl
all_cells (c ∷ cells) = let one = one_kind c in let rest = all_cells cells in omega arith

pub ram_count_more : (cells : List Cell) (i : ℕ) (d c : Cell) → i < length cells → c ≡ get_or cells i d → ram_count (drop i cells) ≡ ram_in c + ram_count (drop (i + 1) cells)
ram_count_more cells i d c h is = at_drop_more ram_count cells i d h ∙ ap (λ x. ram_in x + ram_count (drop (i + 1) cells)) (sym is)

pub cell_nets_more : (cells : List Cell) (i : ℕ) (d c : Cell) → i < length cells → c ≡ get_or cells i d → cell_nets (drop i cells) ≡ cell_width c + cell_nets (drop (i + 1) cells)
cell_nets_more cells i d c h is = at_drop_more cell_nets cells i d h ∙ ap (λ x. cell_width x + cell_nets (drop (i + 1) cells)) (sym is)

rams_of_first : (c : Cell) (cells : List Cell) → rams_of (c ∷ cells) ≡ rams_of (c ∷ []) ++ rams_of cells
rams_of_first Zero cells = refl
rams_of_first One cells = refl
rams_of_first (Not a) cells = refl
rams_of_first (And a b) cells = refl
rams_of_first (Or a b) cells = refl
rams_of_first (Xor a b) cells = refl
rams_of_first (Ram r) cells = refl

pub rams_of_more : (cells : List Cell) (i : ℕ) (d c : Cell) → i < length cells → c ≡ get_or cells i d → rams_of (drop i cells) ≡ rams_of (c ∷ []) ++ rams_of (drop (i + 1) cells)
rams_of_more cells i d c h is =
    at_drop_more rams_of cells i d h ∙ rams_of_first (get_or cells i d) (drop (i + 1) cells) ∙ ap (λ x. rams_of (x ∷ []) ++ rams_of (drop (i + 1) cells)) (sym is)

-- what holds of all RAMs holds of the one that a cell is
first_sizes : (c : Cell) (cells : List Cell) → All RamHasSizes (rams_of (c ∷ cells)) → All RamHasSizes (rams_of (c ∷ [])) × All RamHasSizes (rams_of cells)
first_sizes Zero cells h = (All-nil RamHasSizes, h)
first_sizes One cells h = (All-nil RamHasSizes, h)
first_sizes (Not a) cells h = (All-nil RamHasSizes, h)
first_sizes (And a b) cells h = (All-nil RamHasSizes, h)
first_sizes (Or a b) cells h = (All-nil RamHasSizes, h)
first_sizes (Xor a b) cells h = (All-nil RamHasSizes, h)
first_sizes (Ram r) cells h = (All-cons RamHasSizes r [] (All-head RamHasSizes r (rams_of cells) h) (All-nil RamHasSizes), All-tail RamHasSizes r (rams_of cells) h)

pub sizes_at : (cells : List Cell) (i : ℕ) (d c : Cell) → i < length cells → c ≡ get_or cells i d → All RamHasSizes (rams_of cells) → All RamHasSizes (rams_of (c ∷ []))
sizes_at [] i d c within is h = absurd (omega arith)
sizes_at (x ∷ cells) zero d c within is h = subst (λ y. All RamHasSizes (rams_of (y ∷ []))) (sym is) (first_sizes x cells h).0
sizes_at (x ∷ cells) (suc i) d c within is h = sizes_at cells i d c (omega arith) is (first_sizes x cells h).1

-- at most one more than the first number, which passes or is the last that is tried
first_from-most : (test : ℕ → Bool) (start tries : ℕ) → first_from test start tries ≤ start + tries
first_from-most test start zero = omega arith
first_from-most test start (suc tries) =
    elim (test start) as (λ b. (if b then start else first_from test (start + 1) tries) ≤ start + suc tries) [
      | true ↦ omega arith
      | false ↦ let rest = first_from-most test (start + 1) tries in omega arith
    ]

pub index_width-most : (n : ℕ) → index_width n ≤ 1 + n
unfolding index_width
index_width-most n = first_from-most _ 1 n
