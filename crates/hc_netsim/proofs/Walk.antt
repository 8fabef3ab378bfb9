-- A walk over the cells, and the RAMs beside it.
use Rattle.std.proofs.Common.{◌≡◌, ◌<◌, ◌≤◌, ℕ, zero, suc, ◌+◌, List, [], ◌∷◌, ◌++◌, length, drop, take, get_or, set, Bool, Some, None, refl, ap, ap₂, sym, ◌∙◌, subst, inl, inr, arith, add-one, length-append, length-drop, length-set}
use Rattle.std.specs.Prelude.{map, slice_get, All}
use Rattle.std.proofs.lemmas.List.{drop_all, drop_more, length-map, take_at, take_more_set, length-take-le}
use Rattle.std.proofs.lemmas.List.FromFn.{length-map-range_with_len}
use Rattle.std.proofs.lemmas.Bool.{cases_lt}
use Rattle.std.proofs.lemmas.List.Elements.{All-cons, All-nil}
use Rattle.hc_net.specs.Ram.{address, read_bits, word_bit}
use Rattle.hc_net.specs.Run.{State, first_state, net_count, next_state, net_bit, cell_nets, cell_width, gate_in, next_words, rams_of, with_cells}
use Rattle.hc_net.specs.Valid.{CellReadsWithin, IsValid}
use Rattle.hc_net.specs.declared.net.Flop.{Flop}
use Rattle.hc_net.specs.declared.net.RawNet.{RawNet}
use Rattle.hc_net.specs.declared.net.Cell.{Cell}
use Rattle.hc_net.specs.declared.net.Cell.TheVariants.{Zero, One, Not, And, Or, Xor, Ram}
use Rattle.hc_net.specs.declared.ram.RamCell.{RamCell}
use Rattle.hc_netsim.specs.Held.{Held, first_held, after_edge}
use Rattle.hc_netsim.specs.Running.{state_of, HasRoom}
use Rattle.hc_netsim.specs.Pass.{gate_output, ReadEarlier, RamReadsWithin}

abbrev state_from : List Bool → List (List Bool) → State
state_from flops words = record { flops = flops; words = words }

-- a gate has one net and is no RAM
pub gate_width : (c : Cell) → gate_in c ≡ 1 → cell_width c ≡ 1
gate_width Zero g = refl
gate_width One g = refl
gate_width (Not a) g = refl
gate_width (And a b) g = refl
gate_width (Or a b) g = refl
gate_width (Xor a b) g = refl
gate_width (Ram r) g = absurd (omega arith)

pub no_ram : (c : Cell) (cells : List Cell) → gate_in c ≡ 1 → rams_of (c ∷ cells) ≡ rams_of cells
no_ram Zero cells g = refl
no_ram One cells g = refl
no_ram (Not a) cells g = refl
no_ram (And a b) cells g = refl
no_ram (Or a b) cells g = refl
no_ram (Xor a b) cells g = refl
no_ram (Ram r) cells g = absurd (omega arith)

pub has_output : (v : List Bool) (c : Cell) (b : Bool) → gate_output v c ≡ Some b → gate_in c ≡ 1
has_output v Zero b is = refl
has_output v One b is = refl
has_output v (Not a) b is = refl
has_output v (And x y) b is = refl
has_output v (Or x y) b is = refl
has_output v (Xor x y) b is = refl
has_output v (Ram r) b is = absurd cc

pub is_ram : (v : List Bool) (c : Cell) → gate_output v c ≡ None → (r : RamCell) × (c ≡ Ram r)
is_ram v Zero is = absurd cc
is_ram v One is = absurd cc
is_ram v (Not a) is = absurd cc
is_ram v (And x y) is = absurd cc
is_ram v (Or x y) is = absurd cc
is_ram v (Xor x y) is = absurd cc
is_ram v (Ram r) is = (r, refl)

pub gate_step : (c : Cell) (cells : List Cell) (words : List (List Bool)) (v : List Bool) (b : Bool) → gate_output v c ≡ Some b → with_cells (c ∷ cells) words v ≡ with_cells cells words (v ++ b ∷ [])
gate_step Zero cells words v b is = let same : Some _ ≡ Some b = is in ap (λ x. with_cells cells words (v ++ x ∷ [])) cc
gate_step One cells words v b is = ap (λ x. with_cells cells words (v ++ x ∷ [])) cc
gate_step (Not a) cells words v b is = ap (λ x. with_cells cells words (v ++ x ∷ [])) cc
gate_step (And x y) cells words v b is = ap (λ z. with_cells cells words (v ++ z ∷ [])) cc
gate_step (Or x y) cells words v b is = ap (λ z. with_cells cells words (v ++ z ∷ [])) cc
gate_step (Xor x y) cells words v b is = ap (λ z. with_cells cells words (v ++ z ∷ [])) cc
gate_step (Ram r) cells words v b is = absurd cc

-- the nets before a cell
nets_next : (cells : List Cell) (i : ℕ) (c : Cell) (rest : List Cell) → drop i cells ≡ c ∷ rest → cell_nets (take (suc i) cells) ≡ cell_nets (take i cells) + cell_width c
nets_next [] zero c rest at = absurd cc
nets_next [] (suc i) c rest at = absurd cc
nets_next (x ∷ cells) zero c rest at = let same : x ≡ c = cc in let e = ap cell_width same in omega arith
nets_next (x ∷ cells) (suc i) c rest at = let e = nets_next cells i c rest at in omega arith

pub nets_before : (cells : List Cell) (i : ℕ) (c : Cell) (rest : List Cell) → drop i cells ≡ c ∷ rest → cell_nets (take (i + 1) cells) ≡ cell_nets (take i cells) + cell_width c
nets_before cells i c rest at = ap (λ n. cell_nets (take n cells)) (add-one i) ∙ nets_next cells i c rest at

pub there : {X : Type 0} (xs : List X) (i : ℕ) (x : X) (rest : List X) → drop i xs ≡ x ∷ rest → slice_get xs i ≡ Some x
there [] zero x rest at = absurd cc
there [] (suc i) x rest at = absurd cc
there (y ∷ xs) zero x rest at = let same : y ≡ x = cc in ap Some same
there (y ∷ xs) (suc i) x rest at = there xs i x rest at

-- what each RAM holds after an edge, one by one
pub words_after : (v : ℕ → Bool) (memories : List Held) → next_words (map (λ m. m.ram) memories) (map (λ m. m.bits) memories) v ≡ map (λ m. m.bits) (map (after_edge v) memories)
words_after v [] = refl
words_after v (m ∷ memories) = ap (λ words. (after_edge v m).bits ∷ words) (words_after v memories)

pub rams_after : (v : ℕ → Bool) (memories : List Held) → map (λ m. m.ram) (map (after_edge v) memories) ≡ map (λ m. m.ram) memories
rams_after v [] = refl
rams_after v (m ∷ memories) = ap (λ rams. m.ram ∷ rams) (rams_after v memories)

pub rams_first : (rams : List RamCell) → map (λ m. m.ram) (map first_held rams) ≡ rams
rams_first [] = refl
rams_first (r ∷ rams) = ap (λ rams. r ∷ rams) (rams_first rams)

pub words_first : (rams : List RamCell) → map (λ m. m.bits) (map first_held rams) ≡ map (λ r. r.init) rams
words_first [] = refl
words_first (r ∷ rams) = ap (λ words. r.init ∷ words) (words_first rams)

-- the RAMs read nets that are there
pub rams_read : (n : ℕ) (cells : List Cell) → All (CellReadsWithin n) cells → All (RamReadsWithin n) (rams_of cells)
rams_read n [] h = All-nil (RamReadsWithin n)
rams_read n (Zero ∷ cells) h = rams_read n cells (λ i d within. h (suc i) d (omega arith))
rams_read n (One ∷ cells) h = rams_read n cells (λ i d within. h (suc i) d (omega arith))
rams_read n (Not a ∷ cells) h = rams_read n cells (λ i d within. h (suc i) d (omega arith))
rams_read n (And a b ∷ cells) h = rams_read n cells (λ i d within. h (suc i) d (omega arith))
rams_read n (Or a b ∷ cells) h = rams_read n cells (λ i d within. h (suc i) d (omega arith))
rams_read n (Xor a b ∷ cells) h = rams_read n cells (λ i d within. h (suc i) d (omega arith))
rams_read n (Ram r ∷ cells) h =
    let reads = h 0 (Ram r) (omega arith) in
    All-cons (RamReadsWithin n) r (rams_of cells) (record { addr = reads.0; we = reads.1; d = reads.2 }) (rams_read n cells (λ i d within. h (suc i) d (omega arith)))

-- RAMs of which the first ones have written
edge_next : (v : ℕ → Bool) (memories : List Held) (k : ℕ) (d : Held) → k < length memories
    → set (map (after_edge v) (take k memories) ++ drop k memories) k (after_edge v (get_or (map (after_edge v) (take k memories) ++ drop k memories) k d)) ≡ map (after_edge v) (take (suc k) memories) ++ drop (suc k) memories
edge_next v [] k d within = absurd (omega arith)
edge_next v (m ∷ memories) zero d within = refl
edge_next v (m ∷ memories) (suc k) d within = ap (λ ms. after_edge v m ∷ ms) (edge_next v memories k d (omega arith))

pub edge_more : (v : ℕ → Bool) (memories now : List Held) (k : ℕ) (m new : Held) → k < length memories → now ≡ map (after_edge v) (take k memories) ++ drop k memories → m ≡ get_or now k m → new ≡ after_edge v m
    → set now k new ≡ map (after_edge v) (take (k + 1) memories) ++ drop (k + 1) memories
edge_more v memories now k m new within is at wrote =
    let half = map (after_edge v) (take k memories) ++ drop k memories in
    ap (λ x. set now k x) (wrote ∙ ap (after_edge v) (at ∙ ap (λ ms. get_or ms k m) is))
    ∙ ap (λ ms. set ms k (after_edge v (get_or half k m))) is
    ∙ edge_next v memories k m within
    ∙ sym (ap (λ n. map (after_edge v) (take n memories) ++ drop n memories) (add-one k))

pub edge_ram : (v : ℕ → Bool) (memories : List Held) (k : ℕ) (d : Held) → k < length memories → get_or (map (after_edge v) (take k memories) ++ drop k memories) k d ≡ get_or memories k d
edge_ram v [] k d within = absurd (omega arith)
edge_ram v (m ∷ memories) zero d within = refl
edge_ram v (m ∷ memories) (suc k) d within = edge_ram v memories k d (omega arith)

-- an element of the RAMs
pub ram_at : (P : RamCell → Type 0) (memories : List Held) (k : ℕ) (d : Held) → k < length memories → All P (map (λ m. m.ram) memories) → P (get_or memories k d).ram
ram_at P [] k d within all = absurd (omega arith)
ram_at P (m ∷ memories) zero d within all = all 0 d.ram (omega arith)
ram_at P (m ∷ memories) (suc k) d within all = ram_at P memories k d (omega arith) (λ i e inside. all (suc i) e (omega arith))

no_more : {r : RamCell} {rest : List RamCell} → [] ≡ r ∷ rest → ⊥
no_more e = cc

-- the next RAM of those that are left
pub next_ram : (memories : List Held) (k : ℕ) (r : RamCell) (rest : List RamCell) (m : Held) → map (λ m. m.ram) (drop k memories) ≡ r ∷ rest → m ≡ get_or memories k m
    → (m.ram ≡ r) × (map (λ m. m.ram) (drop (k + 1) memories) ≡ rest) × (drop k memories ≡ m ∷ drop (k + 1) memories)
next_ram memories k r rest m are at = elim (cases_lt k (length memories)) [
  | inl low ↦
      let here : drop k memories ≡ m ∷ drop (k + 1) memories = drop_more memories k m low ∙ ap (λ x. x ∷ drop (k + 1) memories) (sym at) in
      let both : m.ram ∷ map (λ m. m.ram) (drop (k + 1) memories) ≡ r ∷ rest = sym (ap (map (λ m. m.ram)) here) ∙ are in
      (cc, cc, here)
  | inr high ↦ let none : drop k memories ≡ [] = drop_all k memories high in absurd (no_more (sym (ap (map (λ m. m.ram)) none) ∙ are))
]

-- a RAM's address is read before its own nets
pub address_before : (cells : List Cell) (first net i : ℕ) (r : RamCell) (rest : List Cell) → ReadEarlier first cells → drop i cells ≡ Ram r ∷ rest → net ≡ first + cell_nets (take i cells) → All (λ k. k < net) r.addr
address_before cells first net i r rest earlier at before = subst (λ (n : ℕ). All (λ k. k < n) r.addr) (sym before) (earlier.each i (Ram r) (there cells i (Ram r) rest at))

-- what a pass keeps: where it stands, the RAMs that are left, and the valuation that it comes to
pub record Walks (cells : List Cell) (memories : List Held) (first i k net : ℕ) (nets target : List Bool) : Type 0 where
  pub before : net ≡ first + cell_nets (take i cells)
  pub behind : net + cell_nets (drop i cells) ≡ length nets
  pub rams : map (λ m. m.ram) (drop k memories) ≡ rams_of (drop i cells)
  pub values : with_cells (drop i cells) (map (λ m. m.bits) (drop k memories)) (take net nets) ≡ target

pub gate_walks : (cells : List Cell) (memories : List Held) (first i k net : ℕ) (values target : List Bool) (c : Cell) (b : Bool) → Walks cells memories first i k net values target
    → drop i cells ≡ c ∷ drop (i + 1) cells → gate_output (take net values) c ≡ Some b → Walks cells memories first (i + 1) k (net + 1) (set values net b) target
gate_walks cells memories first i k net values target c b w at is =
    let rest = drop (i + 1) cells in
    let gate = has_output (take net values) c b is in
    let wide = gate_width c gate in
    let nets = ap cell_nets at in
    let next = nets_before cells i c rest at in
    let low = w.before in
    let behind = w.behind in
    let within : net < length values = omega arith in
    record {
      before = omega arith;
      behind = omega (arith, length-set values net b);
      rams = w.rams ∙ ap rams_of at ∙ no_ram c rest gate;
      values =
          ap (with_cells rest (map (λ m. m.bits) (drop k memories))) (take_more_set values net b within)
          ∙ sym (gate_step c rest (map (λ m. m.bits) (drop k memories)) (take net values) b is)
          ∙ sym (ap (λ cs. with_cells cs (map (λ m. m.bits) (drop k memories)) (take net values)) at)
          ∙ w.values;
    }

front : (xs ys zs : List Bool) (n : ℕ) → n ≡ length xs + length ys → take n ((xs ++ ys) ++ zs) ≡ xs ++ ys
front xs ys zs n is = take_at (xs ++ ys) zs n (length-append xs ys ∙ sym is)

pub ram_walks : (cells : List Cell) (memories : List Held) (first i k net next : ℕ) (values new target : List Bool) (c : Cell) (m : Held) → Walks cells memories first i k net values target
    → drop i cells ≡ c ∷ drop (i + 1) cells → gate_output (take net values) c ≡ None → m ≡ get_or memories k m → next ≡ net + m.ram.width
    → new ≡ (take net values ++ read_bits m.ram m.bits (net_bit (take net values))) ++ drop (net + m.ram.width) values → Walks cells memories first (i + 1) (k + 1) next new target
ram_walks cells memories first i k net next values new target c m w at is ram next_is new_is =
    let v = take net values in
    let rest = drop (i + 1) cells in
    let found = is_ram v c is in
    let r = found.0 in
    let here : drop i cells ≡ Ram r ∷ rest = at ∙ ap (λ x. x ∷ rest) found.1 in
    let left = next_ram memories k r (rams_of rest) m (w.rams ∙ ap rams_of here) ram in
    let word = read_bits m.ram m.bits (net_bit v) in
    let wide : m.ram.width ≡ r.width = ap (λ x. x.width) left.0 in
    let nets = ap cell_nets here in
    let steps = nets_before cells i (Ram r) rest here in
    let low = w.before in
    let behind = w.behind in
    let size : length word ≡ m.ram.width = length-map-range_with_len (word_bit m.bits m.ram.width (address m.ram (net_bit v))) 0 m.ram.width in
    let size_before : length v ≡ net = length-take-le net values (omega arith) in
    let whole : length new ≡ length values = ap length new_is ∙ length-append (v ++ word) (drop (net + m.ram.width) values) ∙ omega (arith, length-append v word, length-drop (net + m.ram.width) values) in
    record {
      before = omega arith;
      behind = omega arith;
      rams = left.1;
      values =
          ap (λ l. with_cells rest (map (λ m. m.bits) (drop (k + 1) memories)) (take next l)) new_is
          ∙ ap (with_cells rest (map (λ m. m.bits) (drop (k + 1) memories))) (front v word (drop (net + m.ram.width) values) next (omega arith))
          ∙ ap (λ x. with_cells rest (map (λ m. m.bits) (drop (k + 1) memories)) (v ++ read_bits x m.bits (net_bit v))) left.0
          ∙ sym (ap (λ ms. with_cells (Ram r ∷ rest) (map (λ m. m.bits) ms) v) left.2)
          ∙ sym (ap (λ cs. with_cells cs (map (λ m. m.bits) (drop k memories)) v) here)
          ∙ w.values;
    }

-- a RAM's address and its own nets
pub ram_reads : (cells : List Cell) (memories : List Held) (first i k net : ℕ) (values target : List Bool) (c : Cell) (m : Held) → ReadEarlier first cells → Walks cells memories first i k net values target
    → drop i cells ≡ c ∷ drop (i + 1) cells → gate_output (take net values) c ≡ None → m ≡ get_or memories k m → (All (λ x. x < net) m.ram.addr) × (net + m.ram.width ≤ length values)
ram_reads cells memories first i k net values target c m earlier w at is ram =
    let rest = drop (i + 1) cells in
    let found = is_ram (take net values) c is in
    let r = found.0 in
    let here : drop i cells ≡ Ram r ∷ rest = at ∙ ap (λ x. x ∷ rest) found.1 in
    let left = next_ram memories k r (rams_of rest) m (w.rams ∙ ap rams_of here) ram in
    let wide : m.ram.width ≡ r.width = ap (λ x. x.width) left.0 in
    let nets = ap cell_nets here in
    let behind = w.behind in
    (subst (λ (x : RamCell). All (λ k. k < net) x.addr) (sym left.0) (address_before cells first net i r rest earlier here w.before), omega arith)

pub all_behind : (P : RamCell → Type 0) (r : RamCell) (rest : List RamCell) → All P (r ∷ rest) → All P rest
all_behind P r rest all = λ i d within. all (suc i) d (omega arith)

-- the state after an edge
pub state_next : (raw : RawNet) (state new values target : List Bool) (flops : List Flop) (memories after : List Held) → map (λ m. m.ram) memories ≡ rams_of raw.cells → flops ≡ raw.flops
    → new ≡ map (λ f. net_bit values f.d) flops → after ≡ map (after_edge (net_bit values)) memories → values ≡ target → state_of new after ≡ next_state raw (state_of state memories) target
state_next raw state new values target flops memories after rams flops_are new_is after_is is =
    let words : map (λ m. m.bits) after ≡ next_words (rams_of raw.cells) (map (λ m. m.bits) memories) (net_bit values) =
    ap (map (λ m. m.bits)) after_is ∙ sym (words_after (net_bit values) memories) ∙ ap (λ rams. next_words rams (map (λ m. m.bits) memories) (net_bit values)) rams in
    let bits : new ≡ map (λ f. net_bit values f.d) raw.flops = new_is ∙ ap (map (λ f. net_bit values f.d)) flops_are in
    ap₂ state_from bits words ∙ ap (next_state raw (state_of state memories)) is

-- a netlist at its start
pub starts : (raw given : RawNet) (flops : List Flop) (cells : List Cell) (bits values : List Bool) (memories : List Held) → given ≡ raw → IsValid given → flops ≡ given.flops → cells ≡ given.cells
    → bits ≡ map (λ f. f.init) flops → memories ≡ map first_held (rams_of cells) → length values ≡ net_count given → HasRoom raw bits memories values × (state_of bits memories ≡ first_state raw)
starts raw given flops cells bits values memories is valid flops_are cells_are bits_are memories_are nets =
    let same_flops : flops ≡ raw.flops = flops_are ∙ ap (λ n. n.flops) is in
    let same_cells : cells ≡ raw.cells = cells_are ∙ ap (λ n. n.cells) is in
    let held : memories ≡ map first_held (rams_of raw.cells) = memories_are ∙ ap (λ cs. map first_held (rams_of cs)) same_cells in
    let start : bits ≡ map (λ f. f.init) raw.flops = bits_are ∙ ap (map (λ f. f.init)) same_flops in (
      record {
        valid = subst IsValid is valid;
        flops = ap length start ∙ length-map raw.flops (λ f. f.init);
        rams = ap (map (λ m. m.ram)) held ∙ rams_first (rams_of raw.cells);
        nets = nets ∙ ap net_count is;
      },
      ap₂ state_from start (ap (map (λ m. m.bits)) held ∙ words_first (rams_of raw.cells)),
    )
