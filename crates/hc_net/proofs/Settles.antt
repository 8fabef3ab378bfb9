-- The valuation that goes through the cells in order settles, and no other does.
use Rattle.std.proofs.Common.{◌≡◌, ◌<◌, ℕ, zero, suc, ◌+◌, ◌*◌, ◌-◌, List, [], ◌∷◌, ◌++◌, length, map, take, drop, get_or, Bool, false, not, ◌&&◌, ◌||◌, Some, refl, ap, ap₂, sym, ◌∙◌, subst, inl, inr, arith, length-append}
use Rattle.std.specs.Prelude.{slice_get, slice_index, option_map, All}
use Rattle.std.specs.List.{range_with_len}
use Rattle.hc_net.specs.Bits.{number}
use Rattle.std.proofs.lemmas.List.{get_or_append_left, get_or-append-add, get_or-drop, length-map, same_lists, get_or_default}
use Rattle.std.proofs.lemmas.List.FromFn.{length-map-range_with_len}
use Rattle.std.proofs.lemmas.Option.{get_or_from_slice_get, slice_get_within, slice_get-map, slice_get-get_or}
use Rattle.std.proofs.lemmas.Bool.{cases_lt}
use Rattle.hc_net.specs.Bits.{bit}
use Rattle.hc_net.specs.Gate.{differ}
use Rattle.hc_net.specs.Ram.{address, read_bits, word_bit}
use Rattle.hc_net.specs.Run.{State, input_bits, flop_base, cell_base, cell_width, cell_nets, cell_net, ram_in, ram_count, first_held, held_of, net_bit, cell_bits, Settles, with_cells, settled}
use Rattle.hc_net.specs.Valid.{CellReadsBelow, IsValid}
use Rattle.hc_net.specs.declared.net.Cell.{Cell}
use Rattle.hc_net.specs.declared.net.Cell.TheVariants.{Zero, One, Not, And, Or, Xor, Ram}
use Rattle.hc_net.specs.declared.net.RawNet.{RawNet}

-- the bits of nets that agree, as a list
same_map : (f g : ℕ → Bool) (xs : List ℕ) → All (λ k. f k ≡ g k) xs → map f xs ≡ map g xs
same_map f g [] all = refl
same_map f g (x ∷ xs) all = ap₂ ◌∷◌ (all 0 0 (omega arith)) (same_map f g xs (λ i d within. all (suc i) d (omega arith)))

-- two valuations that agree below n give a cell that reads below n the same bits
pub same_cell_bits : (n : ℕ) (v w held : List Bool) → ((k : ℕ) → k < n → net_bit v k ≡ net_bit w k) → (c : Cell) → CellReadsBelow n c → cell_bits v held c ≡ cell_bits w held c
same_cell_bits n v w held same Zero r = refl
same_cell_bits n v w held same One r = refl
same_cell_bits n v w held same (Not a) r = ap (λ b. not b ∷ []) (same a r)
same_cell_bits n v w held same (And a b) r = ap₂ (λ x y. (x && y) ∷ []) (same a r.0) (same b r.1)
same_cell_bits n v w held same (Or a b) r = ap₂ (λ x y. (x || y) ∷ []) (same a r.0) (same b r.1)
same_cell_bits n v w held same (Xor a b) r = ap₂ (λ x y. differ x y ∷ []) (same a r.0) (same b r.1)
same_cell_bits n v w held same (Ram m) r = ap (λ bits. map (word_bit held m.width (number bits)) (range_with_len 0 m.width)) (same_map (net_bit v) (net_bit w) m.addr (λ i d within. same _ (r i d within)))

pub length-cell_bits : (v held : List Bool) (c : Cell) → length (cell_bits v held c) ≡ cell_width c
length-cell_bits v held Zero = refl
length-cell_bits v held One = refl
length-cell_bits v held (Not a) = refl
length-cell_bits v held (And a b) = refl
length-cell_bits v held (Or a b) = refl
length-cell_bits v held (Xor a b) = refl
length-cell_bits v held (Ram m) = length-map-range_with_len (word_bit held m.width (address m (net_bit v))) 0 m.width

pub length-with_cells : (cells : List Cell) (words : List (List Bool)) (v : List Bool) → length (with_cells cells words v) ≡ length v + cell_nets cells
length-with_cells [] words v = omega arith
length-with_cells (c ∷ cells) words v =
    let bits = cell_bits v (first_held words) c in
    omega (arith, length-with_cells cells (drop (ram_in c) words) (v ++ bits), length-append v bits, length-cell_bits v (first_held words) c)

pub with_cells_keeps : (cells : List Cell) (words : List (List Bool)) (v : List Bool) (k : ℕ) → k < length v → net_bit (with_cells cells words v) k ≡ net_bit v k
with_cells_keeps [] words v k h = refl
with_cells_keeps (c ∷ cells) words v k h =
    let bits = cell_bits v (first_held words) c in
    with_cells_keeps cells (drop (ram_in c) words) (v ++ bits) k (omega (arith, length-append v bits)) ∙ get_or_append_left v bits false k h

-- cells of which each reads nets before its own
ReadEarlier : ℕ → List Cell → Type 0
ReadEarlier base cells = (j : ℕ) (c : Cell) → slice_get cells j ≡ Some c → CellReadsBelow (base + cell_nets (take j cells)) c

earlier_tail : (base next : ℕ) (c : Cell) (cells : List Cell) → next ≡ base + cell_width c → ReadEarlier base (c ∷ cells) → ReadEarlier next cells
unfolding ReadEarlier
earlier_tail base next c cells at r = λ j d there. subst (λ (n : ℕ). CellReadsBelow n d) (omega arith) (r (suc j) d there)

earlier_head : (base : ℕ) (c : Cell) (cells : List Cell) → ReadEarlier base (c ∷ cells) → CellReadsBelow base c
unfolding ReadEarlier
earlier_head base c cells r = subst (λ (n : ℕ). CellReadsBelow n c) (omega arith) (r 0 c refl)

-- what the first RAM holds, and what a RAM behind it holds
first_is : (c : Cell) (cells : List Cell) (words : List (List Bool)) → held_of (c ∷ cells) words 0 ≡ first_held words
first_is c cells words = refl

dropped : (words : List (List Bool)) (m n : ℕ) → get_or (drop m words) n [] ≡ get_or words (m + n) []
dropped words m n = get_or-drop m words n []

held_tail : (c : Cell) (cells : List Cell) (words : List (List Bool)) (j : ℕ) → held_of cells (drop (ram_in c) words) j ≡ held_of (c ∷ cells) words (suc j)
held_tail c cells words j = dropped words (ram_in c) (ram_count (take j cells))

with_cells_at : (cells : List Cell) (words : List (List Bool)) (v : List Bool) → ReadEarlier (length v) cells → (j i : ℕ) (c : Cell) → slice_get cells j ≡ Some c → i < cell_width c
    → net_bit (with_cells cells words v) (length v + cell_nets (take j cells) + i) ≡ get_or (cell_bits (with_cells cells words v) (held_of cells words j) c) i false
with_cells_at [] words v r j i c there within = absurd cc
with_cells_at (d ∷ cells) words v r zero i c there within =
    let bits = cell_bits v (first_held words) d in
    let same : d ≡ c = cc in
    let size = length-append v bits in
    let wide : length bits ≡ cell_width c = length-cell_bits v (first_held words) d ∙ ap cell_width same in
    let at : length v + 0 + i ≡ length v + i = omega arith in
    ap (λ k. net_bit (with_cells cells (drop (ram_in d) words) (v ++ bits)) k) at
    ∙ with_cells_keeps cells (drop (ram_in d) words) (v ++ bits) (length v + i) (omega arith)
    ∙ get_or-append-add v bits i false
    ∙ ap (λ (l : List Bool). get_or l i false) (same_cell_bits (length v) v (with_cells (d ∷ cells) words v) (first_held words) (λ k h. sym (with_cells_keeps (d ∷ cells) words v k h)) d (earlier_head (length v) d cells r))
    ∙ ap (λ (x : Cell). get_or (cell_bits (with_cells (d ∷ cells) words v) (first_held words) x) i false) same
with_cells_at (d ∷ cells) words v r (suc j) i c there within =
    let bits = cell_bits v (first_held words) d in
    let size = length-append v bits in
    let wide = length-cell_bits v (first_held words) d in
    let at : length v + (cell_width d + cell_nets (take j cells)) + i ≡ length (v ++ bits) + cell_nets (take j cells) + i = omega arith in
    ap (λ k. net_bit (with_cells cells (drop (ram_in d) words) (v ++ bits)) k) at
    ∙ with_cells_at cells (drop (ram_in d) words) (v ++ bits) (earlier_tail (length v) _ d cells (omega arith) r) j i c there within
    ∙ ap (λ (held : List Bool). get_or (cell_bits (with_cells (d ∷ cells) words v) held c) i false) (held_tail d cells words j)

-- a list of the right length that has the first bits and is settled at each cell
with_cells_alone : (cells : List Cell) (words : List (List Bool)) (v w : List Bool) → ReadEarlier (length v) cells → length w ≡ length v + cell_nets cells → ((k : ℕ) → k < length v → net_bit w k ≡ net_bit v k)
    → ((j i : ℕ) (c : Cell) → slice_get cells j ≡ Some c → i < cell_width c → net_bit w (length v + cell_nets (take j cells) + i) ≡ get_or (cell_bits w (held_of cells words j) c) i false) → w ≡ with_cells cells words v
with_cells_alone [] words v w r size first rest =
    same_lists w v (omega arith) (λ k d h. get_or_default w k d false h ∙ first k (omega arith) ∙ get_or_default v k false d (omega arith))
with_cells_alone (c ∷ cells) words v w r size first rest =
    let held = first_held words in
    let bits = cell_bits v held c in
    let longer = length-append v bits in
    let wide = length-cell_bits v held c in
    let here : (i : ℕ) → i < cell_width c → net_bit w (length v + i) ≡ get_or bits i false = λ i h.
    ap (λ k. net_bit w k) (let e : length v + i ≡ length v + 0 + i = omega arith in e)
    ∙ rest 0 i c refl h
    ∙ ap (λ (l : List Bool). get_or l i false) (same_cell_bits (length v) w v held first c (earlier_head (length v) c cells r)) in
    with_cells_alone cells (drop (ram_in c) words) (v ++ bits) w (earlier_tail (length v) _ c cells (omega arith) r) (omega arith) (λ k h. elim (cases_lt k (length v)) [
      | inl low ↦ first k low ∙ sym (get_or_append_left v bits false k low)
      | inr high ↦
          let at : k ≡ length v + (k - length v) = omega arith in
          ap (λ n. net_bit w n) at ∙ here (k - length v) (omega arith) ∙ sym (ap (λ n. net_bit (v ++ bits) n) at ∙ get_or-append-add v bits (k - length v) false)
    ]) (λ j i d there within.
    let at : length (v ++ bits) + cell_nets (take j cells) + i ≡ length v + (cell_width c + cell_nets (take j cells)) + i = omega arith in
    ap (λ k. net_bit w k) at ∙ rest (suc j) i d there within ∙ ap (λ (h : List Bool). get_or (cell_bits w h d) i false) (sym (held_tail c cells words j)))

-- the bits before the cells
start : RawNet → List Bool → List ℕ → List Bool
start raw state inputs = map (λ b. bit (slice_index inputs b.0) b.1) (input_bits raw.ports) ++ state

length-start : (raw : RawNet) (state : List Bool) (inputs : List ℕ) → length state ≡ length raw.flops → length (start raw state inputs) ≡ cell_base raw
unfolding start
length-start raw state inputs size = length-append (map (λ b. bit (slice_index inputs b.0) b.1) (input_bits raw.ports)) state ∙ ap₂ ◌+◌ (length-map (input_bits raw.ports) (λ b. bit (slice_index inputs b.0) b.1)) size

start_input : (raw : RawNet) (state : List Bool) (inputs : List ℕ) (j : ℕ) (b : ℕ × ℕ) → slice_get (input_bits raw.ports) j ≡ Some b → net_bit (start raw state inputs) j ≡ bit (slice_index inputs b.0) b.1
unfolding start
start_input raw state inputs j b there =
    let f : ℕ × ℕ → Bool = λ b. bit (slice_index inputs b.0) b.1 in
    let within = slice_get_within (input_bits raw.ports) j b there in
    let size = length-map (input_bits raw.ports) f in
    get_or_append_left (map f (input_bits raw.ports)) state false j (omega arith) ∙ get_or_from_slice_get (map f (input_bits raw.ports)) j (f b) false (slice_get-map f (input_bits raw.ports) j ∙ ap (option_map f) there)

start_flop : (raw : RawNet) (state : List Bool) (inputs : List ℕ) (j : ℕ) (b : Bool) → slice_get state j ≡ Some b → net_bit (start raw state inputs) (flop_base raw + j) ≡ b
unfolding start
start_flop raw state inputs j b there =
    let f : ℕ × ℕ → Bool = λ b. bit (slice_index inputs b.0) b.1 in
    let size = length-map (input_bits raw.ports) f in
    ap (λ n. net_bit (map f (input_bits raw.ports) ++ state) (n + j)) (sym size) ∙ get_or-append-add (map f (input_bits raw.ports)) state j false ∙ get_or_from_slice_get state j b false there

valid_earlier : (raw : RawNet) (n : ℕ) → n ≡ cell_base raw → IsValid raw → ReadEarlier n raw.cells
unfolding ReadEarlier
valid_earlier raw n at valid = λ j c there. subst (λ (m : ℕ). CellReadsBelow (m + cell_nets (take j raw.cells)) c) (sym at) (valid.v3.earlier j c there)

pub settles : (raw : RawNet) (state : State) (inputs : List ℕ) → IsValid raw → length state.flops ≡ length raw.flops → Settles raw state inputs (settled raw state inputs)
unfolding start
settles raw state inputs valid size =
    let v = start raw state.flops inputs in
    let base = length-start raw state.flops inputs size in
    record {
      size = length-with_cells raw.cells state.words v ∙ ap (λ n. n + cell_nets raw.cells) base;
      input = λ j b there. let within = slice_get_within (input_bits raw.ports) j b there in with_cells_keeps raw.cells state.words v j (omega arith) ∙ start_input raw state.flops inputs j b there;
      flop = λ j b there. let within = slice_get_within state.flops j b there in with_cells_keeps raw.cells state.words v (flop_base raw + j) (omega arith) ∙ start_flop raw state.flops inputs j b there;
      cell = λ j i c there within. ap (λ n. net_bit (with_cells raw.cells state.words v) (n + cell_nets (take j raw.cells) + i)) (sym base) ∙ with_cells_at raw.cells state.words v (valid_earlier raw (length v) base valid) j i c there within;
    }

pub alone : (raw : RawNet) (state : State) (inputs : List ℕ) (w : List Bool) → IsValid raw → length state.flops ≡ length raw.flops → Settles raw state inputs w → w ≡ settled raw state inputs
unfolding start
alone raw state inputs w valid size s =
    let v = start raw state.flops inputs in
    let base = length-start raw state.flops inputs size in
    with_cells_alone raw.cells state.words v w (valid_earlier raw (length v) base valid) (s.size ∙ ap (λ n. n + cell_nets raw.cells) (sym base)) (λ k h. elim (cases_lt k (flop_base raw)) [
      | inl low ↦
          let there = slice_get-get_or (input_bits raw.ports) k (0, 0) low in
          s.input k _ there ∙ sym (start_input raw state.flops inputs k _ there)
      | inr high ↦
          let at : k ≡ flop_base raw + (k - flop_base raw) = omega arith in
          let there = slice_get-get_or state.flops (k - flop_base raw) false (omega arith) in
          ap (λ n. net_bit w n) at ∙ s.flop (k - flop_base raw) _ there ∙ sym (ap (λ n. net_bit v n) at ∙ start_flop raw state.flops inputs (k - flop_base raw) _ there)
    ]) (λ j i c there within. ap (λ n. net_bit w (n + cell_nets (take j raw.cells) + i)) base ∙ s.cell j i c there within)
