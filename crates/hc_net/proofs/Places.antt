-- A net more with a place.
use Rattle.std.proofs.Common.{◌≡◌, ◌<◌, ◌≤◌, ℕ, zero, suc, ◌+◌, ◌⊎◌, List, [], ◌∷◌, ◌++◌, length, Option, Some, None, get_or, set, refl, ap, ap₂, sym, ◌∙◌, subst, inl, inr, arith, Bool, false, length-set, take, ◌-◌, ◌≢◌}
use Rattle.std.specs.Prelude.{slice_get, IsSome, is_some, unwrap_or, All}
use Rattle.std.proofs.lemmas.List.{get_or-set_same, get_or-set_other, length_push, get_or_default, append-nil}
use Rattle.std.proofs.lemmas.Option.{slice_get_within, slice_get-get_or}
use Rattle.std.proofs.lemmas.Bool.{cases_eq}
use Rattle.hc_net.specs.Circuit.{node_at, gates_of, memories_of, nets_of_cells, AreRams}
use Rattle.hc_net.specs.Order.{Reads, GateReads, IsDriven, IsOrder, entry_at}
use Rattle.hc_net.specs.Place.{place_at, place_of, base_of, cell_of, IsPlace, HasRam, over_placed, ReadsPlaced, IsFrom, AreFrom, ArePlaces, AllPlaced}
use Rattle.hc_net.specs.Run.{cell_width, cell_nets, gate_in, gate_count, ram_in, ram_count, rams_of}
use Rattle.hc_net.specs.declared.ram.RamCell.{RamCell}
use Rattle.hc_net.specs.declared.net.Cell.{Cell}
use Rattle.hc_net.specs.declared.net.Cell.TheVariants as cell
use Rattle.hc_net.specs.declared.node.Node.{Node}
use Rattle.hc_net.specs.declared.node.Node.TheVariants.{Input, Flop, Wire, Gate, Ram}
use Rattle.hc_net.specs.declared.gate.GateKind.{GateKind}
use Rattle.hc_net.specs.declared.gate.GateKind.TheVariants as kind
use Rattle.hc_net.specs.declared.seal.order.Leveled.{Leveled}
use Rattle.hc_net.proofs.Cells.{slice_get_more, slice_get_last, slice_get_push, take_front, take_whole, cell_nets-append, gate_count-append, ram_count-append, rams_of-append, nets_through}
use Rattle.hc_net.proofs.Levels.{gate_reads_weaker}

pub some_of : {X : Type 0} (o : Option X) → IsSome o → (x : X) × (o ≡ Some x)
some_of None s = absurd cc
some_of (Some x) s = (x, refl)

pub is_some_from : {X : Type 0} (o : Option X) (x : X) → o ≡ Some x → IsSome o
is_some_from o x e = rw e refl

-- a place that is given to a net without one leaves the others
module _ (places : List (Option ℕ)) (k p : ℕ) (none : place_at places k ≡ None) where
  pub place_stays : (x q : ℕ) → place_at places x ≡ Some q → place_at (set places k (Some p)) x ≡ Some q
  place_stays x q there = elim (cases_eq x k) [
    | inl same ↦ let e : place_at places x ≡ None = ap (place_at places) same ∙ none in absurd cc
    | inr other ↦ get_or-set_other places k x (Some p) None other ∙ there
  ]

  pub place_same : (x : ℕ) → IsSome (place_at places x) → place_of (set places k (Some p)) x ≡ place_of places x
  place_same x there =
      let s = some_of (place_at places x) there in
      ap (λ o. unwrap_or o 0) (place_stays x s.0 s.1 ∙ sym s.1)

  pub is_some_stays : (x : ℕ) → IsSome (place_at places x) → IsSome (place_at (set places k (Some p)) x)
  is_some_stays x there =
      let s = some_of (place_at places x) there in
      is_some_from (place_at (set places k (Some p)) x) s.0 (place_stays x s.0 s.1)

  pub cell_same : (g : GateKind) (a b : ℕ) → GateReads (λ x. IsSome (place_at places x)) g a b → cell_of g (place_of (set places k (Some p)) a) (place_of (set places k (Some p)) b) ≡ cell_of g (place_of places a) (place_of places b)
  cell_same kind.Zero a b r = refl
  cell_same kind.One a b r = refl
  cell_same kind.Not a b r = ap cell.Not (place_same a r)
  cell_same kind.And a b r = ap₂ cell.And (place_same a r.0) (place_same b r.1)
  cell_same kind.Or a b r = ap₂ cell.Or (place_same a r.0) (place_same b r.1)
  cell_same kind.Xor a b r = ap₂ cell.Xor (place_same a r.0) (place_same b r.1)

  net_stays : (nodes : List Node) (cells extra : List Cell) (at q : ℕ) (c : Cell) → slice_get cells at ≡ Some c → q ≡ base_of nodes + cell_nets (take at cells) → q ≡ base_of nodes + cell_nets (take at (cells ++ extra))
  net_stays nodes cells extra at q c there net =
      let within = slice_get_within cells at c there in
      net ∙ ap (λ l. base_of nodes + cell_nets l) (sym (take_front cells extra at (omega arith)))

  pub is_place_stays : (nodes : List Node) (cells extra : List Cell) (x q : ℕ) (n : Node) → IsPlace nodes places cells x q n → IsPlace nodes (set places k (Some p)) (cells ++ extra) x q n
  is_place_stays nodes cells extra x q (Input s i) h = h
  is_place_stays nodes cells extra x q (Flop name init d) h = h
  is_place_stays nodes cells extra x q (Wire rank None) h = h
  is_place_stays nodes cells extra x q (Wire rank (Some d)) h = place_stays d q h
  is_place_stays nodes cells extra x q (Gate g a b) h = record {
    at = h.at;
    net = net_stays nodes cells extra h.at q _ h.there h.net;
    there = slice_get_more cells extra h.at _ h.there ∙ ap Some (sym (cell_same g a b h.reads));
    reads = gate_reads_weaker (λ x. IsSome (place_at places x)) (λ x. IsSome (place_at (set places k (Some p)) x)) g a b is_some_stays h.reads;
  }
  is_place_stays nodes cells extra x q (Ram rank first None) h = (h.0, place_stays first h.0 h.1, h.2)
  is_place_stays nodes cells extra x q (Ram rank first (Some r)) h = record {
    at = h.at;
    net = net_stays nodes cells extra h.at q _ h.there h.net;
    there = slice_get_more cells extra h.at _ h.there;
  }

  pub reads_stay : (n : ℕ) (c : Cell) → ReadsPlaced places n c → ReadsPlaced (set places k (Some p)) n c
  reads_stay n cell.Zero h = h
  reads_stay n cell.One h = h
  reads_stay n (cell.Not a) h = h
  reads_stay n (cell.And a b) h = h
  reads_stay n (cell.Or a b) h = h
  reads_stay n (cell.Xor a b) h = h
  reads_stay n (cell.Ram r) h = λ i d within. let a = h i d within in (a.0, place_stays _ a.0 a.1, a.2)

  pub from_stays : (nodes : List Node) (rams : List RamCell) → AreFrom nodes places rams → AreFrom nodes (set places k (Some p)) rams
  from_stays nodes rams f = record {
    sources = f.sources;
    size = f.size;
    each = λ i x r source ram. let e = f.each i x r source ram in record { rank = e.rank; first = e.first; node = e.node; placed = is_some_stays x e.placed };
    apart = f.apart;
  }

-- ---- sums over the nodes that have a place

abbrev pub total : (Node → ℕ) → List Node → ℕ
total f [] = 0
total f (n ∷ nodes) = f n + total f nodes

abbrev pub gates_in : Node → ℕ
gates_in n = gates_of (n ∷ [])

abbrev pub rams_in : Node → ℕ
rams_in n = length (memories_of (n ∷ []))

abbrev pub nets_in : Node → ℕ
nets_in n = nets_of_cells (n ∷ [])

pub total_gates : (nodes : List Node) → total gates_in nodes ≡ gates_of nodes
total_gates [] = refl
total_gates (Input p i ∷ nodes) = omega (arith, total_gates nodes)
total_gates (Flop name init d ∷ nodes) = omega (arith, total_gates nodes)
total_gates (Wire rank from ∷ nodes) = omega (arith, total_gates nodes)
total_gates (Gate g a b ∷ nodes) = omega (arith, total_gates nodes)
total_gates (Ram rank first r ∷ nodes) = omega (arith, total_gates nodes)

pub total_rams : (nodes : List Node) → total rams_in nodes ≡ length (memories_of nodes)
total_rams [] = refl
total_rams (Input p i ∷ nodes) = omega (arith, total_rams nodes)
total_rams (Flop name init d ∷ nodes) = omega (arith, total_rams nodes)
total_rams (Wire rank from ∷ nodes) = omega (arith, total_rams nodes)
total_rams (Gate g a b ∷ nodes) = omega (arith, total_rams nodes)
total_rams (Ram rank first None ∷ nodes) = omega (arith, total_rams nodes)
total_rams (Ram rank first (Some r) ∷ nodes) = omega (arith, total_rams nodes)

pub total_nets : (nodes : List Node) → total nets_in nodes ≡ nets_of_cells nodes
total_nets [] = refl
total_nets (Input p i ∷ nodes) = omega (arith, total_nets nodes)
total_nets (Flop name init d ∷ nodes) = omega (arith, total_nets nodes)
total_nets (Wire rank from ∷ nodes) = omega (arith, total_nets nodes)
total_nets (Gate g a b ∷ nodes) = omega (arith, total_nets nodes)
total_nets (Ram rank first None ∷ nodes) = omega (arith, total_nets nodes)
total_nets (Ram rank first (Some r) ∷ nodes) = omega (arith, total_nets nodes)

pub over_placed_le : (f : Node → ℕ) (nodes : List Node) (places : List (Option ℕ)) → over_placed f nodes places ≤ total f nodes
over_placed_le f [] places = omega arith
over_placed_le f (n ∷ nodes) [] = omega arith
over_placed_le f (n ∷ nodes) (None ∷ places) = omega (arith, over_placed_le f nodes places)
over_placed_le f (n ∷ nodes) (Some p ∷ places) = omega (arith, over_placed_le f nodes places)

pub over_placed-set : (f : Node → ℕ) (nodes : List Node) (places : List (Option ℕ)) (k p : ℕ) → k < length places → length places ≡ length nodes → place_at places k ≡ None → over_placed f nodes (set places k (Some p)) ≡ over_placed f nodes places + f (node_at nodes k)
over_placed-set f nodes [] k p within size none = absurd (omega arith)
over_placed-set f [] (o ∷ places) k p within size none = absurd (omega arith)
over_placed-set f (n ∷ nodes) (None ∷ places) zero p within size none = omega arith
over_placed-set f (n ∷ nodes) (Some q ∷ places) zero p within size none = absurd cc
over_placed-set f (n ∷ nodes) (o ∷ places) (suc k) p within size none = omega (arith, over_placed-set f nodes places k p (omega arith) (omega arith) none)

pub over_none : (f : Node → ℕ) (nodes : List Node) (places : List (Option ℕ)) → ((k p : ℕ) → place_at places k ≡ Some p → f (node_at nodes k) ≡ 0) → over_placed f nodes places ≡ 0
over_none f [] places free = refl
over_none f (n ∷ nodes) [] free = refl
over_none f (n ∷ nodes) (None ∷ places) free = omega (arith, over_none f nodes places (λ k p e. free (suc k) p e))
over_none f (n ∷ nodes) (Some p ∷ places) free = omega (arith, free 0 p refl, over_none f nodes places (λ k p e. free (suc k) p e))

pub over_all : (f : Node → ℕ) (nodes : List Node) (places : List (Option ℕ)) → length places ≡ length nodes → AllPlaced nodes places → over_placed f nodes places ≡ total f nodes
over_all f [] places size all = refl
over_all f (n ∷ nodes) [] size all = absurd (omega arith)
over_all f (n ∷ nodes) (None ∷ places) size all = absurd (let s = some_of (place_at (None ∷ places) 0) (all 0 (omega arith)) in let e = s.1 in cc)
over_all f (n ∷ nodes) (Some p ∷ places) size all = omega (arith, over_all f nodes places (omega arith) (λ k within. all (suc k) (omega arith)))

-- ---- a net more

module _ (nodes : List Node) (places : List (Option ℕ)) (cells : List Cell) (k : ℕ) (rams : AreRams nodes) (l : ArePlaces nodes places cells) (within : k < length nodes) (none : place_at places k ≡ None) where
  abbrev node : Node
  node = node_at nodes k

  placed : (p : ℕ) (extra : List Cell) → gate_count extra ≡ gates_in node → ram_count extra ≡ rams_in node → cell_nets extra ≡ nets_in node
      → p < base_of nodes + cell_nets (cells ++ extra) → IsPlace nodes (set places k (Some p)) (cells ++ extra) k p node
      → ((j : ℕ) (c : Cell) → slice_get (cells ++ extra) j ≡ Some c → ReadsPlaced (set places k (Some p)) (base_of nodes + cell_nets (take j (cells ++ extra))) c)
      → AreFrom nodes (set places k (Some p)) (rams_of (cells ++ extra)) → ArePlaces nodes (set places k (Some p)) (cells ++ extra)
  placed p extra gates_are rams_are nets_are below here earlier from =
      let size = l.size in
      let longer = length-set places k (Some p) in
      let at : place_at (set places k (Some p)) k ≡ Some p = get_or-set_same places k (Some p) None (omega arith) in
      record {
        size = omega arith;
        below = λ x q there. elim (cases_eq x k) [
          | inl same ↦ let e : Some p ≡ Some q = sym (ap (place_at (set places k (Some p))) same ∙ at) ∙ there in let f : p ≡ q = cc in omega arith
          | inr other ↦ let old = l.below x q (sym (get_or-set_other places k x (Some p) None other) ∙ there) in omega (arith, cell_nets-append cells extra)
        ];
        each = λ x q there. elim (cases_eq x k) [
          | inl same ↦
              let e : Some p ≡ Some q = sym (ap (place_at (set places k (Some p))) same ∙ at) ∙ there in
              let f : p ≡ q = cc in
              subst (λ (y : ℕ). IsPlace nodes (set places k (Some p)) (cells ++ extra) y q (node_at nodes y)) (sym same) (subst (λ (r : ℕ). IsPlace nodes (set places k (Some p)) (cells ++ extra) k r node) f here)
          | inr other ↦ is_place_stays places k p none nodes cells extra x q (node_at nodes x) (l.each x q (sym (get_or-set_other places k x (Some p) None other) ∙ there))
        ];
        first = λ x low is. is_some_stays places k p none x (l.first x low is);
        count = gate_count-append cells extra ∙ ap₂ ◌+◌ l.count gates_are ∙ sym (over_placed-set gates_in nodes places k p (omega arith) l.size none);
        rams = ram_count-append cells extra ∙ ap₂ ◌+◌ l.rams rams_are ∙ sym (over_placed-set rams_in nodes places k p (omega arith) l.size none);
        nets = cell_nets-append cells extra ∙ ap₂ ◌+◌ l.nets nets_are ∙ sym (over_placed-set nets_in nodes places k p (omega arith) l.size none);
        earlier = earlier;
        from = from;
      }

  -- the nets so far leave room for those of a node without a place
  pub room : base_of nodes + cell_nets cells + nets_in node ≤ length nodes
  room =
      let size = l.size in
      let nets = l.nets in
      omega (arith, over_placed-set nets_in nodes places k 0 (omega arith) l.size none, over_placed_le nets_in nodes (set places k (Some 0)), total_nets nodes, rams.few)

  -- a net that takes the place of another
  other_placed : (p : ℕ) → gates_in node ≡ 0 → rams_in node ≡ 0 → nets_in node ≡ 0 → p < base_of nodes + cell_nets cells → IsPlace nodes (set places k (Some p)) (cells ++ []) k p node → ArePlaces nodes (set places k (Some p)) cells
  other_placed p no_gates no_rams no_nets below here =
      let same : cells ++ [] ≡ cells = append-nil cells in
      subst (λ (c : List Cell). ArePlaces nodes (set places k (Some p)) c) same (placed p [] (sym no_gates) (sym no_rams) (sym no_nets) (subst (λ (c : List Cell). p < base_of nodes + cell_nets c) (sym same) below) here (λ j c there. subst (λ (m : List Cell). ReadsPlaced (set places k (Some p)) (base_of nodes + cell_nets (take j m)) c) (sym same) (reads_stay places k p none _ c (l.earlier j c (ap (λ (m : List Cell). slice_get m j) (sym same) ∙ there))))
      (subst (λ (m : List Cell). AreFrom nodes (set places k (Some p)) (rams_of m)) (sym same) (from_stays places k p none nodes (rams_of cells) l.from)))

  pub wire_placed : (rank : ℕ) (from : Option ℕ) → node_at nodes k ≡ Wire rank from → IsDriven (Wire rank from) → Reads (λ x. IsSome (place_at places x)) (Wire rank from) → ArePlaces nodes (set places k (Some (place_of places (unwrap_or from 0)))) cells
  wire_placed rank None is driven ready = absurd driven
  wire_placed rank (Some d) is driven ready =
      let s = some_of (place_at places d) ready in
      let at : place_at places d ≡ Some (place_of places d) = s.1 ∙ ap Some (sym (ap (λ o. unwrap_or o 0) s.1)) in
      other_placed (place_of places d) (ap gates_in is) (ap rams_in is) (ap nets_in is) (l.below d _ at) (subst (λ (n : Node). IsPlace nodes (set places k (Some (place_of places d))) (cells ++ []) k (place_of places d) n) (sym is) (place_stays places k (place_of places d) none d _ at))

  -- a further bit of a RAM
  pub bit_below : (rank first : ℕ) → node_at nodes k ≡ Ram rank first None → IsSome (place_at places first) → (first < k) × (place_of places first + (k - first) < base_of nodes + cell_nets cells)
  bit_below rank first is ready =
      let o = rams.other k rank first is in
      let s = some_of (place_at places first) ready in
      let value : place_of places first ≡ s.0 = ap (λ o. unwrap_or o 0) s.1 in
      let has : HasRam nodes cells s.0 o.0 = subst (λ (n : Node). IsPlace nodes places cells first s.0 n) o.1 (l.each first s.0 s.1) in
      let net = has.net in
      let low = o.2 in
      let high = o.3 in
      (low, omega (arith, nets_through cells has.at _ has.there))

  pub bit_placed : (rank first : ℕ) → node_at nodes k ≡ Ram rank first None → IsSome (place_at places first) → ArePlaces nodes (set places k (Some (place_of places first + (k - first)))) cells
  bit_placed rank first is ready =
      let s = some_of (place_at places first) ready in
      let p : ℕ = place_of places first + (k - first) in
      let at : place_at places first ≡ Some (place_of places first) = s.1 ∙ ap Some (sym (ap (λ o. unwrap_or o 0) s.1)) in
      other_placed p (ap gates_in is) (ap rams_in is) (ap nets_in is) (bit_below rank first is ready).1 (subst (λ (n : Node). IsPlace nodes (set places k (Some p)) (cells ++ []) k p n) (sym is) (place_of places first, place_stays places k p none first _ at, refl))

  below_of : (x : ℕ) → IsSome (place_at places x) → place_of places x < base_of nodes + cell_nets cells
  below_of x there =
      let s = some_of (place_at places x) there in
      let e = ap (λ o. unwrap_or o 0) s.1 in
      let b = l.below x s.0 s.1 in
      omega arith

  -- a new cell, behind the others
  new_earlier : (p : ℕ) (c : Cell) → ReadsPlaced (set places k (Some p)) (base_of nodes + cell_nets cells) c → (j : ℕ) (x : Cell) → slice_get (cells ++ c ∷ []) j ≡ Some x → ReadsPlaced (set places k (Some p)) (base_of nodes + cell_nets (take j (cells ++ c ∷ []))) x
  new_earlier p c reads j x e = elim (slice_get_push cells c j x e) [
    | inl old ↦
        let inside = slice_get_within cells j x old in
        subst (λ (m : List Cell). ReadsPlaced (set places k (Some p)) (base_of nodes + cell_nets m) x) (sym (take_front cells (c ∷ []) j (omega arith))) (reads_stay places k p none _ x (l.earlier j x old))
    | inr new ↦
        let at : take j (cells ++ c ∷ []) ≡ cells = ap (λ (n : ℕ). take n (cells ++ c ∷ [])) new.0 ∙ take_front cells (c ∷ []) (length cells) (omega arith) ∙ take_whole cells in
        subst (λ (m : List Cell). ReadsPlaced (set places k (Some p)) (base_of nodes + cell_nets m) x) (sym at) (subst (λ (y : Cell). ReadsPlaced (set places k (Some p)) (base_of nodes + cell_nets cells) y) new.1 reads)
  ]

  new_net : (c : Cell) (p : ℕ) → p ≡ base_of nodes + cell_nets cells → p ≡ base_of nodes + cell_nets (take (length cells) (cells ++ c ∷ []))
  new_net c p at = at ∙ ap (λ m. base_of nodes + cell_nets m) (sym (take_front cells (c ∷ []) (length cells) (omega arith) ∙ take_whole cells))

  cell_below : (p : ℕ) (g : GateKind) (a b : ℕ) → GateReads (λ x. IsSome (place_at places x)) g a b → ReadsPlaced (set places k (Some p)) (base_of nodes + cell_nets cells) (cell_of g (place_of places a) (place_of places b))
  cell_below p kind.Zero a b r = tt
  cell_below p kind.One a b r = tt
  cell_below p kind.Not a b r = below_of a r
  cell_below p kind.And a b r = (below_of a r.0, below_of b r.1)
  cell_below p kind.Or a b r = (below_of a r.0, below_of b r.1)
  cell_below p kind.Xor a b r = (below_of a r.0, below_of b r.1)

  gate_sizes : (g : GateKind) (a b : ℕ) → (gate_count (cell_of g a b ∷ []) ≡ 1) × (ram_count (cell_of g a b ∷ []) ≡ 0) × (cell_nets (cell_of g a b ∷ []) ≡ 1) × (rams_of (cell_of g a b ∷ []) ≡ [])
  gate_sizes kind.Zero a b = (refl, refl, refl, refl)
  gate_sizes kind.One a b = (refl, refl, refl, refl)
  gate_sizes kind.Not a b = (refl, refl, refl, refl)
  gate_sizes kind.And a b = (refl, refl, refl, refl)
  gate_sizes kind.Or a b = (refl, refl, refl, refl)
  gate_sizes kind.Xor a b = (refl, refl, refl, refl)

  pub gate_placed : (g : GateKind) (a b p : ℕ) (c : Cell) (more : List Cell) → node_at nodes k ≡ Gate g a b → GateReads (λ x. IsSome (place_at places x)) g a b → p ≡ base_of nodes + cell_nets cells → c ≡ cell_of g (place_of places a) (place_of places b) → more ≡ cells ++ c ∷ [] → ArePlaces nodes (set places k (Some p)) more × (p + 1 ≡ base_of nodes + cell_nets more)
  gate_placed g a b p c more is ready at this to =
      let d : Cell = cell_of g (place_of places a) (place_of places b) in
      let sizes = gate_sizes g (place_of places a) (place_of places b) in
      let wide : cell_nets (cells ++ d ∷ []) ≡ cell_nets cells + 1 = cell_nets-append cells (d ∷ []) ∙ ap (λ n. cell_nets cells + n) sizes.2 in
      let made : ArePlaces nodes (set places k (Some p)) (cells ++ d ∷ []) = placed p (d ∷ []) (sizes.0 ∙ sym (ap gates_in is)) (sizes.1 ∙ sym (ap rams_in is)) (sizes.2 ∙ sym (ap nets_in is)) (omega arith) (subst (λ (n : Node). IsPlace nodes (set places k (Some p)) (cells ++ d ∷ []) k p n) (sym is) (record {
        at = length cells;
        net = new_net d p at;
        there = slice_get_last cells d ∙ ap Some (sym (cell_same places k p none g a b ready));
        reads = gate_reads_weaker (λ x. IsSome (place_at places x)) (λ x. IsSome (place_at (set places k (Some p)) x)) g a b (is_some_stays places k p none) ready;
      })) (new_earlier p d (cell_below p g a b ready)) (subst (λ (m : List RamCell). AreFrom nodes (set places k (Some p)) m) (sym (rams_of-append cells (d ∷ []) ∙ ap (λ m. rams_of cells ++ m) sizes.3 ∙ append-nil _)) (from_stays places k p none nodes (rams_of cells) l.from)) in
      let is_more : more ≡ cells ++ d ∷ [] = to ∙ ap (λ (x : Cell). cells ++ x ∷ []) this in
      (subst (λ (m : List Cell). ArePlaces nodes (set places k (Some p)) m) (sym is_more) made, omega (arith, ap cell_nets is_more))

  -- the sources of the RAMs with one more
  from_more : (p rank first : ℕ) (r : RamCell) → node_at nodes k ≡ Ram rank first (Some r) → AreFrom nodes (set places k (Some p)) (rams_of cells ++ r ∷ [])
  from_more p rank first r is =
      let size = l.from.size in
      let inside = l.size in
      let here : IsSome (place_at (set places k (Some p)) k) = is_some_from _ p (get_or-set_same places k (Some p) None (omega arith)) in
      let not_yet : (i x : ℕ) → slice_get l.from.sources i ≡ Some x → x ≢ k = λ i x there same.
      let low = slice_get_within l.from.sources i x there in
      let e = l.from.each i x _ there (slice_get-get_or (rams_of cells) i r (omega arith)) in
      let s = some_of (place_at places x) e.placed in
      let gone : place_at places x ≡ None = ap (place_at places) same ∙ none in
      absurd cc in
      record {
        sources = l.from.sources ++ k ∷ [];
        size = omega (arith, length_push l.from.sources k, length_push (rams_of cells) r);
        each = λ i x m source ram. elim (slice_get_push l.from.sources k i x source) [
          | inl old ↦ elim (slice_get_push (rams_of cells) r i m ram) [
            | inl before ↦ let e = l.from.each i x m old before in record { rank = e.rank; first = e.first; node = e.node; placed = is_some_stays places k p none x e.placed }
            | inr after ↦ absurd (let low = slice_get_within l.from.sources i x old in let e = after.0 in omega arith)
          ]
          | inr new ↦ elim (slice_get_push (rams_of cells) r i m ram) [
            | inl before ↦ absurd (let low = slice_get_within (rams_of cells) i m before in let e = new.0 in omega arith)
            | inr after ↦ record {
              rank = rank;
              first = first;
              node = ap (node_at nodes) (sym new.1) ∙ is ∙ ap (λ (y : RamCell). Ram rank first (Some y)) after.1;
              placed = subst (λ (y : ℕ). IsSome (place_at (set places k (Some p)) y)) new.1 here;
            }
          ]
        ];
        apart = λ i j x y low one two. elim (slice_get_push l.from.sources k j y two) [
          | inl old ↦ elim (slice_get_push l.from.sources k i x one) [
            | inl before ↦ l.from.apart i j x y low before old
            | inr after ↦ absurd (let high = slice_get_within l.from.sources j y old in let e = after.0 in omega arith)
          ]
          | inr new ↦ elim (slice_get_push l.from.sources k i x one) [
            | inl before ↦ λ same. not_yet i x before (same ∙ sym new.1)
            | inr after ↦ absurd (let e = after.0 in let f = new.0 in omega arith)
          ]
        ];
      }

  pub ram_placed : (rank first p : ℕ) (r m : RamCell) (more : List Cell) → node_at nodes k ≡ Ram rank first (Some r) → All (λ x. IsSome (place_at places x)) r.addr → p ≡ base_of nodes + cell_nets cells → m ≡ r → more ≡ cells ++ cell.Ram m ∷ [] → ArePlaces nodes (set places k (Some p)) more × (p + r.width ≡ base_of nodes + cell_nets more)
  ram_placed rank first p r m more is ready at this to =
      let d : Cell = cell.Ram r in
      let wide : cell_nets (cells ++ d ∷ []) ≡ cell_nets cells + r.width = let e : r.width + 0 ≡ r.width = omega arith in cell_nets-append cells (d ∷ []) ∙ ap (λ n. cell_nets cells + n) e in
      let some = (rams.first k rank first r is).1 in
      let made : ArePlaces nodes (set places k (Some p)) (cells ++ d ∷ []) = placed p (d ∷ []) (sym (ap gates_in is)) (sym (ap rams_in is)) (sym (ap nets_in is)) (omega arith) (subst (λ (n : Node). IsPlace nodes (set places k (Some p)) (cells ++ d ∷ []) k p n) (sym is) (record {
        at = length cells;
        net = new_net d p at;
        there = slice_get_last cells d;
      })) (new_earlier p d (λ i e within. let s = some_of (place_at places _) (ready i e within) in (s.0, place_stays places k p none _ s.0 s.1, l.below _ s.0 s.1))) (subst (λ (x : List RamCell). AreFrom nodes (set places k (Some p)) x) (sym (rams_of-append cells (d ∷ []))) (from_more p rank first r is)) in
      let is_more : more ≡ cells ++ d ∷ [] = to ∙ ap (λ (x : RamCell). cells ++ cell.Ram x ∷ []) this in
      (subst (λ (x : List Cell). ArePlaces nodes (set places k (Some p)) x) (sym is_more) made, omega (arith, ap cell_nets is_more))

-- what is read at an index, at any default
none_of : (o : Option ℕ) → is_some o ≡ false → o ≡ None
none_of None e = refl
none_of (Some x) e = absurd cc

pub none_at : (places : List (Option ℕ)) (k : ℕ) (d : Option ℕ) (b : Bool) → k < length places → b ≡ is_some (get_or places k d) → b ≡ false → place_at places k ≡ None
none_at places k d b within is no_place = none_of (place_at places k) (ap is_some (sym (get_or_default places k d None within)) ∙ sym is ∙ no_place)

pub node_is : (nodes : List Node) (k : ℕ) (d n : Node) → k < length nodes → get_or nodes k d ≡ n → node_at nodes k ≡ n
node_is nodes k d n within is = get_or_default nodes k _ d within ∙ is

pub all_done : (nodes : List Node) (order : List Leveled) (places : List (Option ℕ)) (i : ℕ) → IsOrder nodes order → length order ≤ i → ((j : ℕ) → j < i → IsSome (place_at places (entry_at order j).net)) → AllPlaced nodes places
all_done nodes order places i o past done k within =
    let f = o.all k within in
    subst (λ (m : ℕ). IsSome (place_at places m)) f.2 (done f.0 (let g = f.1 in omega arith))
