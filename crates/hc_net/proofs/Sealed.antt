-- The netlist with these cells, and with the flip-flops and ports renamed, does what the builder's nodes say.
use Rattle.std.proofs.Common.{◌≡◌, ◌≢◌, ◌<◌, ℕ, zero, suc, ◌+◌, ◌-◌, ◌^◌, List, [], ◌∷◌, ◌++◌, length, take, drop, Option, Some, None, get_or, refl, ap, ap₂, sym, ◌∙◌, subst, inl, inr, arith, Bool, false}
use Rattle.std.specs.Prelude.{slice_get, unwrap_or, map, min, All, option_map}
use Rattle.std.specs.List.{range_with_len}
use Rattle.std.proofs.lemmas.List.{get_or_past, length-map, take_at}
use Rattle.std.proofs.lemmas.List.FromFn.{get_or-map-range_with_len}
use Rattle.std.proofs.lemmas.List.Elements.{All-map, All-cons, All-nil}
use Rattle.std.proofs.lemmas.Option.{slice_get-get_or, slice_get-map, slice_get_within, get_or_from_slice_get}
use Rattle.std.proofs.lemmas.Bool.{cases_lt, cases_order}
use Rattle.hc_net.specs.Gate.{gate_bit}
use Rattle.hc_net.specs.Run.{Trace, input_bits, input_bits_from, flop_base, cell_base, cell_width, cell_nets, cell_net, net_count, gate_count, ram_count, rams_of, held_of, net_bit, cell_bits, Settles, settled, state_at, values_at, HoldsBit, HoldsWords}
use Rattle.hc_net.specs.Ram.{address, held_at, moved, word_bit, written}
use Rattle.hc_net.specs.Circuit.{Circuit, History, Does, Explains, node_at, input_bits_of, flops_of, memories_of, IsBuilt, NodeReadsWithin}
use Rattle.hc_net.specs.Place.{place_at, place_of, base_of, cell_of, IsPlace, IsFrom, ReadsPlaced, ArePlaces, AllPlaced, flops_with, with_moved_ram}
use Rattle.hc_net.specs.Seal.{IsSealable, Seals, placed}
use Rattle.hc_net.specs.Valid.{IsValid, PortHasSizes, PortReadsBelow, CellReadsBelow, CellReadsWithin, RamHasSizes, port_name}
use Rattle.hc_net.specs.declared.net.Port.{Port}
use Rattle.hc_net.specs.declared.net.Port.TheVariants as port
use Rattle.hc_net.specs.declared.net.Cell.{Cell}
use Rattle.hc_net.specs.declared.net.Flop.{Flop as FlopData}
use Rattle.hc_net.specs.declared.net.FlopName.{FlopName}
use Rattle.hc_net.specs.declared.net.RawNet.{RawNet}
use Rattle.hc_net.specs.declared.node.Node.{Node}
use Rattle.hc_net.specs.declared.node.Node.TheVariants.{Input, Flop, Wire, Gate, Ram}
use Rattle.hc_net.specs.declared.ram.RamCell.{RamCell}
use Rattle.hc_net.specs.declared.net.Cell.TheVariants as cell
use Rattle.hc_net.specs.declared.gate.GateKind.{GateKind}
use Rattle.hc_net.specs.declared.gate.GateKind.TheVariants as kind
use Rattle.hc_net.proofs.Counts.{input_there, flop_there, flops_with_are}
use Rattle.hc_net.proofs.Places.{some_of, gates_in, rams_in, nets_in, total_gates, total_rams, total_nets, over_placed_le, over_all}
use Rattle.hc_net.proofs.Cells.{nets_through}
use Rattle.hc_net.proofs.Rams.{ram_inside}
use Rattle.hc_net.proofs.Moved.{nets_moved, gates_moved, rams_moved, rams_of-moved, take_mapped, ram_there, sizes_moved, memory_there, memories_apart, memory_node, address_moved, written_moved, next_there}
use Rattle.hc_net.proofs.Settles.{settles}

-- renamed ports
input_bits_renamed : (f : ℕ → ℕ) (p : ℕ) (ports : List Port) → input_bits_from p (map (placed f) ports) ≡ input_bits_from p ports
input_bits_renamed f p [] = refl
input_bits_renamed f p (port.Input name width pins ∷ ports) = ap (λ l. map (λ i. (p, i)) (range_with_len 0 width) ++ l) (input_bits_renamed f (p + 1) ports)
input_bits_renamed f p (port.Output name width pins from ∷ ports) = input_bits_renamed f p ports

name_renamed : (f : ℕ → ℕ) (p : Port) → port_name (placed f p) ≡ port_name p
name_renamed f (port.Input name width pins) = refl
name_renamed f (port.Output name width pins from) = refl

sizes_renamed : (f : ℕ → ℕ) (p : Port) → PortHasSizes p → PortHasSizes (placed f p)
sizes_renamed f (port.Input name width pins) s = s
sizes_renamed f (port.Output name width pins from) s = s

reads_renamed : (f : ℕ → ℕ) (n m : ℕ) (p : Port) → ((k : ℕ) → k < n → f k < m) → PortHasSizes p → ((name : List ℕ) (width : ℕ) (pins : List (List ℕ)) (from : List ℕ) → p ≡ port.Output name width pins from → (width ≡ min (length from) (2 ^ 32 - 1)) × All (λ k. k < n) from) → PortReadsBelow m (placed f p)
reads_renamed f n m (port.Input name width pins) low s o = tt
reads_renamed f n m (port.Output name width pins from) low s o =
    let w = o name width pins from refl in
    let most = s.most in
    let wide = w.0 in
    (length-map from f ∙ (let e : length from ≡ width = omega arith in e), All-map (λ k. k < m) f from (λ i d within. low (get_or from i d) (w.1 i d within)))

-- an element of a list that is mapped
mapped_there : {X Y : Type 0} (f : X → Y) (xs : List X) (i : ℕ) (y : Y) → slice_get (map f xs) i ≡ Some y → (x : X) × (slice_get xs i ≡ Some x) × (f x ≡ y)
mapped_there f [] i y e = absurd cc
mapped_there f (x ∷ xs) zero y e = (x, refl, cc)
mapped_there f (x ∷ xs) (suc i) y e = mapped_there f xs i y e

there_mapped : {X Y : Type 0} (f : X → Y) (xs : List X) (i : ℕ) (x : X) → slice_get xs i ≡ Some x → slice_get (map f xs) i ≡ Some (f x)
there_mapped f xs i x e = slice_get-map f xs i ∙ ap (option_map f) e

-- what holds of each flip-flop of the nodes
flops_all : (P : FlopData → Type 0) (f : ℕ → ℕ) (nodes : List Node) → ((k : ℕ) (name : FlopName) (init : Bool) (d : Option ℕ) → slice_get nodes k ≡ Some (Flop name init d) → P (record { name = name; init = init; d = f (unwrap_or d 0) })) → All P (flops_with f nodes)
flops_all P f [] h = All-nil P
flops_all P f (Input p i ∷ nodes) h = flops_all P f nodes (λ k. h (suc k))
flops_all P f (Flop name init d ∷ nodes) h = All-cons P _ (flops_with f nodes) (h 0 name init d refl) (flops_all P f nodes (λ k. h (suc k)))
flops_all P f (Wire rank from ∷ nodes) h = flops_all P f nodes (λ k. h (suc k))
flops_all P f (Gate g a b ∷ nodes) h = flops_all P f nodes (λ k. h (suc k))
flops_all P f (Ram rank first ram ∷ nodes) h = flops_all P f nodes (λ k. h (suc k))

cell_is_gate : (f : ℕ → ℕ) (v held : List Bool) (g : GateKind) (a b : ℕ) → get_or (cell_bits v held (with_moved_ram f (cell_of g a b))) 0 false ≡ gate_bit g (net_bit v a) (net_bit v b)
cell_is_gate f v held kind.Zero a b = refl
cell_is_gate f v held kind.One a b = refl
cell_is_gate f v held kind.Not a b = refl
cell_is_gate f v held kind.And a b = refl
cell_is_gate f v held kind.Or a b = refl
cell_is_gate f v held kind.Xor a b = refl

gate_width : (f : ℕ → ℕ) (g : GateKind) (a b : ℕ) → cell_width (with_moved_ram f (cell_of g a b)) ≡ 1
gate_width f kind.Zero a b = refl
gate_width f kind.One a b = refl
gate_width f kind.Not a b = refl
gate_width f kind.And a b = refl
gate_width f kind.Or a b = refl
gate_width f kind.Xor a b = refl

pub length-state_at : (raw : RawNet) (trace : Trace) (t : ℕ) → length (state_at raw trace t).flops ≡ length raw.flops
length-state_at raw trace zero = length-map raw.flops (λ f. f.init)
length-state_at raw trace (suc t) = length-map raw.flops (λ f. net_bit (settled raw (state_at raw trace t) (trace t)) f.d)

abbrev pub netlist : Circuit → List (Option ℕ) → List Cell → RawNet
netlist c places cells = record { clock = c.clock; ports = map (placed (place_of places)) c.ports; flops = flops_with (place_of places) c.nodes; cells = map (with_moved_ram (place_of places)) cells }

module _ (c : Circuit) (places : List (Option ℕ)) (cells : List Cell) (b : IsBuilt c) (s : IsSealable c) (l : ArePlaces c.nodes places cells) (all : AllPlaced c.nodes places) where
  abbrev raw : RawNet
  raw = netlist c places cells

  place_is : (k : ℕ) → k < length c.nodes → place_at places k ≡ Some (place_of places k)
  place_is k within =
      let w = some_of (place_at places k) (all k within) in
      w.1 ∙ ap Some (sym (ap (λ o. unwrap_or o 0) w.1))

  inputs_are : input_bits raw.ports ≡ input_bits_of c.nodes
  inputs_are = input_bits_renamed (place_of places) 0 c.ports ∙ sym b.inputs

  flop_base_is : flop_base raw ≡ length (input_bits_of c.nodes)
  flop_base_is = ap length inputs_are

  flops_length : length raw.flops ≡ length (flops_of c.nodes)
  flops_length = sym (length-map raw.flops (λ f. (f.name, f.init))) ∙ ap length (flops_with_are (place_of places) c.nodes)

  cell_base_is : cell_base raw ≡ base_of c.nodes
  cell_base_is = ap₂ ◌+◌ flop_base_is flops_length

  net_count_is : net_count raw ≡ base_of c.nodes + cell_nets cells
  net_count_is = ap₂ ◌+◌ cell_base_is (nets_moved (place_of places) cells)

  -- the first net of a cell
  cell_net_is : (j : ℕ) → cell_net raw j ≡ base_of c.nodes + cell_nets (take j cells)
  cell_net_is j = ap₂ ◌+◌ cell_base_is (ap cell_nets (take_mapped (with_moved_ram (place_of places)) cells j) ∙ nets_moved (place_of places) (take j cells))

  index_is : (j : ℕ) → ram_count (take j raw.cells) ≡ ram_count (take j cells)
  index_is j = ap ram_count (take_mapped (with_moved_ram (place_of places)) cells j) ∙ rams_moved (place_of places) (take j cells)

  rams_are : rams_of raw.cells ≡ map (moved (place_of places)) (rams_of cells)
  rams_are = rams_of-moved (place_of places) cells

  below : (k : ℕ) → k < length c.nodes → place_of places k < net_count raw
  below k within = let p = l.below k (place_of places k) (place_is k within) in omega (arith, net_count_is)

  outputs_below : All (PortReadsBelow (net_count raw)) raw.ports
  outputs_below = All-map (PortReadsBelow (net_count raw)) (placed (place_of places)) c.ports (λ j d within. reads_renamed (place_of places) (length c.nodes) (net_count raw) (get_or c.ports j d) below (s.sizes j d within) (λ name width pins from is. b.outputs j name width pins from (slice_get-get_or c.ports j d within ∙ ap Some is)))

  -- each flip-flop reads a net that is there
  fed_is : (k : ℕ) (name : FlopName) (init : Bool) (d : Option ℕ) → slice_get c.nodes k ≡ Some (Flop name init d) → (x : ℕ) × (d ≡ Some x) × (x < length c.nodes)
  fed_is k name init None there = absurd (s.fed k name init there)
  fed_is k name init (Some x) there =
      let within = slice_get_within c.nodes k _ there in
      let is = get_or_from_slice_get c.nodes k _ (Wire 0 None) there in
      (x, refl, subst (λ (n : Node). NodeReadsWithin (length c.nodes) k n) is (b.reads k within))

  fed_below : All (λ f. f.d < net_count raw) raw.flops
  fed_below = flops_all (λ f. f.d < net_count raw) (place_of places) c.nodes (λ k name init d there.
      let w = fed_is k name init d there in
      subst (λ (o : Option ℕ). place_of places (unwrap_or o 0) < net_count raw) (sym w.1) (below w.0 w.2))

  names_differ : (i j : ℕ) (f g : FlopData) → i < j → slice_get raw.flops i ≡ Some f → slice_get raw.flops j ≡ Some g → f.name ≢ g.name
  names_differ i j f g lt first second same =
      let h : FlopData → FlopName × Bool = λ f. (f.name, f.init) in
      let are = flops_with_are (place_of places) c.nodes in
      s.flop_names i j (h f) (h g) lt (subst (λ (l : List (FlopName × Bool)). slice_get l i ≡ Some (h f)) are (there_mapped h raw.flops i f first)) (subst (λ (l : List (FlopName × Bool)). slice_get l j ≡ Some (h g)) are (there_mapped h raw.flops j g second)) same

  -- the node that RAM i is from
  source_of : (i : ℕ) (r : RamCell) → slice_get (rams_of cells) i ≡ Some r → (k : ℕ) × (slice_get l.from.sources i ≡ Some k) × IsFrom c.nodes places k r
  source_of i r there =
      let within = slice_get_within (rams_of cells) i r there in
      let size = l.from.size in
      let source = slice_get-get_or l.from.sources i 0 (omega arith) in
      (get_or l.from.sources i 0, source, l.from.each i _ r source there)

  pins_within : (k rank first : ℕ) (r : RamCell) → node_at c.nodes k ≡ Ram rank first (Some r) → All (λ x. x < length c.nodes) r.addr × (r.we < length c.nodes) × All (λ x. x < length c.nodes) r.d
  pins_within k rank first r is =
      let within = ram_inside c.nodes k rank first (Some r) is in
      let reads : NodeReadsWithin (length c.nodes) k (Ram rank first (Some r)) = subst (λ (n : Node). NodeReadsWithin (length c.nodes) k n) is (b.reads k within) in
      let we = reads.1 in
      (λ i d inside. let low = reads.0 i d inside in omega arith, omega arith, λ i d inside. let low = reads.2 i d inside in omega arith)

  -- what a cell reads is there
  cell_within : (j : ℕ) (x : Cell) → slice_get cells j ≡ Some x → ReadsPlaced places (base_of c.nodes + cell_nets (take j cells)) x → CellReadsWithin (net_count raw) (with_moved_ram (place_of places) x)
  cell_within j cell.Zero there reads = tt
  cell_within j cell.One there reads = tt
  cell_within j (cell.Not x) there reads = omega (arith, net_count_is, nets_through cells j _ there)
  cell_within j (cell.And x y) there reads = let u = reads.0 in let v = reads.1 in (omega (arith, net_count_is, nets_through cells j _ there), omega (arith, net_count_is, nets_through cells j _ there))
  cell_within j (cell.Or x y) there reads = let u = reads.0 in let v = reads.1 in (omega (arith, net_count_is, nets_through cells j _ there), omega (arith, net_count_is, nets_through cells j _ there))
  cell_within j (cell.Xor x y) there reads = let u = reads.0 in let v = reads.1 in (omega (arith, net_count_is, nets_through cells j _ there), omega (arith, net_count_is, nets_through cells j _ there))
  cell_within j (cell.Ram r) there reads =
      let e = (source_of _ r (ram_there cells j r there)).2 in
      let pins = pins_within _ e.rank e.first r e.node in
      (All-map (λ k. k < net_count raw) (place_of places) r.addr (λ i d inside. below _ (pins.0 i d inside)), below r.we pins.1, All-map (λ k. k < net_count raw) (place_of places) r.d (λ i d inside. below _ (pins.2 i d inside)))

  cell_earlier : (n : ℕ) (x : Cell) → ReadsPlaced places n x → CellReadsBelow n (with_moved_ram (place_of places) x)
  cell_earlier n cell.Zero reads = reads
  cell_earlier n cell.One reads = reads
  cell_earlier n (cell.Not x) reads = reads
  cell_earlier n (cell.And x y) reads = reads
  cell_earlier n (cell.Or x y) reads = reads
  cell_earlier n (cell.Xor x y) reads = reads
  cell_earlier n (cell.Ram r) reads = All-map (λ k. k < n) (place_of places) r.addr (λ i d inside. let a = reads i d inside in let value = ap (λ o. unwrap_or o 0) a.1 in let low = a.2 in omega arith)

  ram_sizes : All RamHasSizes (rams_of raw.cells)
  ram_sizes = subst (λ (x : List RamCell). All RamHasSizes x) (sym rams_are) (All-map RamHasSizes (moved (place_of places)) (rams_of cells) (λ i d within.
      let there = slice_get-get_or (rams_of cells) i d within in
      let e = (source_of i _ there).2 in
      let m = memory_there c.nodes _ e.rank e.first _ e.node in
      let inside = slice_get_within (memories_of c.nodes) _ _ m in
      sizes_moved (place_of places) _ (subst RamHasSizes (get_or_from_slice_get (memories_of c.nodes) _ _ d m) (s.ram_sizes _ d inside))))

  -- RAMs of different nodes have different objects
  objects_differ : (k l : ℕ) (r m : RamCell) → k ≢ l → IsFrom c.nodes places k r → IsFrom c.nodes places l m → r.object ≢ m.object
  objects_differ k l r m apart e f same = elim (cases_order k l) [
    | inl equal ↦ apart equal
    | inr other ↦ elim other [
      | inl low ↦ s.ram_names _ _ r m (memories_apart c.nodes k l e.rank e.first r low e.node) (memory_there c.nodes k e.rank e.first r e.node) (memory_there c.nodes l f.rank f.first m f.node) same
      | inr high ↦ s.ram_names _ _ m r (memories_apart c.nodes l k f.rank f.first m high f.node) (memory_there c.nodes l f.rank f.first m f.node) (memory_there c.nodes k e.rank e.first r e.node) (sym same)
    ]
  ]

  rams_differ : (i j : ℕ) (r m : RamCell) → i < j → slice_get (rams_of raw.cells) i ≡ Some r → slice_get (rams_of raw.cells) j ≡ Some m → r.object ≢ m.object
  rams_differ i j r m lt first second same =
      let x = mapped_there (moved (place_of places)) (rams_of cells) i r (ap (λ (y : List RamCell). slice_get y i) (sym rams_are) ∙ first) in
      let y = mapped_there (moved (place_of places)) (rams_of cells) j m (ap (λ (z : List RamCell). slice_get z j) (sym rams_are) ∙ second) in
      let e = source_of i x.0 x.1 in
      let f = source_of j y.0 y.1 in
      objects_differ e.0 f.0 x.0 y.0 (l.from.apart i j e.0 f.0 lt e.1 f.1) e.2 f.2 (ap (λ (z : RamCell). z.object) x.2 ∙ same ∙ sym (ap (λ (z : RamCell). z.object) y.2))

  pub valid : IsValid raw
  valid = record {
    v1 = record {
      outputs = outputs_below;
      fed = fed_below;
      cells = All-map (CellReadsWithin (net_count raw)) (with_moved_ram (place_of places)) cells (λ j d within. let there = slice_get-get_or cells j d within in cell_within j _ there (l.earlier j _ there));
      few_nets = let few = b.few_nets in let nets = l.nets in omega (arith, net_count_is, over_placed_le nets_in c.nodes places, total_nets c.nodes, b.rams.few);
      few_ports = subst (λ (n : ℕ). n < 2 ^ 32) (sym (length-map c.ports (placed (place_of places)))) b.few_ports;
    };
    v3 = record {
      earlier = λ j d there.
          let x = mapped_there (with_moved_ram (place_of places)) cells j d there in
          subst (λ (n : ℕ). CellReadsBelow n d) (sym (cell_net_is j)) (subst (λ (y : Cell). CellReadsBelow (base_of c.nodes + cell_nets (take j cells)) y) x.2 (cell_earlier _ x.0 (l.earlier j x.0 x.1)));
    };
    v4 = record { rams = ram_sizes };
    v5 = record {
      sizes = All-map PortHasSizes (placed (place_of places)) c.ports (λ j d within. sizes_renamed (place_of places) (get_or c.ports j d) (s.sizes j d within));
      port_names = λ i j p q lt first second same.
          let x = mapped_there (placed (place_of places)) c.ports i p first in
          let y = mapped_there (placed (place_of places)) c.ports j q second in
          s.port_names i j x.0 y.0 lt x.1 y.1 (sym (name_renamed (place_of places) x.0) ∙ ap port_name x.2 ∙ same ∙ sym (ap port_name y.2) ∙ name_renamed (place_of places) y.0);
      flop_names = names_differ;
      ram_names = rams_differ;
    };
  }

  -- each clock's values settle
  settle : (trace : Trace) (t : ℕ) → Settles raw (state_at raw trace t) (trace t) (values_at raw trace t)
  settle trace t = settles raw (state_at raw trace t) (trace t) valid (length-state_at raw trace t)

  abbrev shown : Trace → History
  shown trace t k = net_bit (values_at raw trace t) (place_of places k)

  each_is : (k : ℕ) (n : Node) → k < length c.nodes → node_at c.nodes k ≡ n → IsPlace c.nodes places cells k (place_of places k) n
  each_is k n within is = subst (λ (m : Node). IsPlace c.nodes places cells k (place_of places k) m) is (l.each k (place_of places k) (place_is k within))

  -- the flip-flop of a node, where it stands
  flop_at : (k : ℕ) (name : FlopName) (init : Bool) (d : ℕ) → node_at c.nodes k ≡ Flop name init (Some d) → slice_get raw.flops (length (flops_of (take k c.nodes))) ≡ Some (record { name = name; init = init; d = place_of places d })
  flop_at k name init d is = flop_there (place_of places) c.nodes k name init d is

  flop_shown : (k : ℕ) (name : FlopName) (init : Bool) (d : Option ℕ) → k < length c.nodes → node_at c.nodes k ≡ Flop name init d → (trace : Trace) (t : ℕ) (x : Bool) → slice_get (state_at raw trace t).flops (length (flops_of (take k c.nodes))) ≡ Some x → shown trace t k ≡ x
  flop_shown k name init d within is trace t x there =
      let at : place_of places k ≡ flop_base raw + length (flops_of (take k c.nodes)) = each_is k (Flop name init d) within is ∙ ap (λ n. n + length (flops_of (take k c.nodes))) (sym flop_base_is) in
      ap (net_bit (values_at raw trace t)) at ∙ (settle trace t).flop (length (flops_of (take k c.nodes))) x there

  -- the RAM of a node, among the RAMs of the netlist
  abbrev ram_number : (k rank first : ℕ) (r : RamCell) → node_at c.nodes k ≡ Ram rank first (Some r) → ℕ
  ram_number k rank first r is = ram_count (take (each_is k (Ram rank first (Some r)) (ram_inside c.nodes k rank first (Some r) is) is).at cells)

  ram_at_number : (k rank first : ℕ) (r : RamCell) (is : node_at c.nodes k ≡ Ram rank first (Some r)) → slice_get (rams_of raw.cells) (ram_number k rank first r is) ≡ Some (moved (place_of places) r)
  ram_at_number k rank first r is =
      let p = each_is k (Ram rank first (Some r)) (ram_inside c.nodes k rank first (Some r) is) is in
      ap (λ (x : List RamCell). slice_get x (ram_count (take p.at cells))) rams_are ∙ there_mapped (moved (place_of places)) (rams_of cells) _ r (ram_there cells p.at r p.there)

  -- it holds what its node says
  ram_holds : (k rank first : ℕ) (r : RamCell) (is : node_at c.nodes k ≡ Ram rank first (Some r)) (trace : Trace) (t : ℕ) → slice_get (state_at raw trace t).words (ram_number k rank first r is) ≡ Some (held_at r (shown trace) t)
  ram_holds k rank first r is trace zero = there_mapped (λ (m : RamCell). m.init) (rams_of raw.cells) _ _ (ram_at_number k rank first r is)
  ram_holds k rank first r is trace (suc t) =
      let before = get_or_from_slice_get (state_at raw trace t).words _ _ [] (ram_holds k rank first r is trace t) in
      next_there (rams_of raw.cells) (state_at raw trace t).words (net_bit (values_at raw trace t)) _ _ (ram_at_number k rank first r is)
      ∙ ap (λ (held : List Bool). Some (written (moved (place_of places) r) held (net_bit (values_at raw trace t)))) before
      ∙ ap Some (written_moved (place_of places) r (held_at r (shown trace) t) (net_bit (values_at raw trace t)))

  -- the outputs of a RAM have places one behind another
  bit_place : (k rank first : ℕ) (r : RamCell) → node_at c.nodes k ≡ Ram rank first (Some r) → (i : ℕ) → i < r.width → place_of places (k + i) ≡ place_of places k + i
  bit_place k rank first r is zero within = ap (place_of places) (let e : k + 0 ≡ k = omega arith in e) ∙ (let e : place_of places k ≡ place_of places k + 0 = omega arith in e)
  bit_place k rank first r is (suc i) within =
      let at = b.rams.all k rank first r (suc i) is (omega arith) within in
      let p = each_is (k + suc i) (Ram rank k None) (ram_inside c.nodes (k + suc i) rank k None at) at in
      let value : place_of places k ≡ p.0 = ap (λ o. unwrap_or o 0) p.1 in
      let number = p.2 in
      omega arith

  ram_does : (trace : Trace) (k rank first : ℕ) (r : RamCell) → node_at c.nodes k ≡ Ram rank first (Some r) → Does trace (shown trace) k (Ram rank first (Some r))
  ram_does trace k rank first r is t i within =
      let p = each_is k (Ram rank first (Some r)) (ram_inside c.nodes k rank first (Some r) is) is in
      let v : List Bool = values_at raw trace t in
      let m : RamCell = moved (place_of places) r in
      let at : place_of places (k + i) ≡ cell_net raw p.at + i = bit_place k rank first r is i within ∙ ap (λ n. n + i) (p.net ∙ sym (cell_net_is p.at)) in
      let there = there_mapped (with_moved_ram (place_of places)) cells p.at (cell.Ram r) p.there in
      let held : held_of raw.cells (state_at raw trace t).words p.at ≡ held_at r (shown trace) t = ap (λ (n : ℕ). get_or (state_at raw trace t).words n []) (index_is p.at) ∙ get_or_from_slice_get (state_at raw trace t).words _ _ [] (ram_holds k rank first r is trace t) in
      ap (net_bit v) at
      ∙ (settle trace t).cell p.at i (cell.Ram m) there within
      ∙ get_or-map-range_with_len (word_bit (held_of raw.cells (state_at raw trace t).words p.at) r.width (address m (net_bit v))) 0 r.width i i false within (let e : 0 + i ≡ i = omega arith in e)
      ∙ ap₂ (λ (h : List Bool) (a : ℕ). word_bit h r.width a i) held (address_moved (place_of places) r (net_bit v))

  does : (trace : Trace) (k : ℕ) (n : Node) → k < length c.nodes → node_at c.nodes k ≡ n → Does trace (shown trace) k n
  does trace k (Input p i) within is = λ t.
      let j = length (input_bits_of (take k c.nodes)) in
      let there = ap (λ l. slice_get l j) inputs_are ∙ input_there c.nodes k p i is in
      ap (net_bit (values_at raw trace t)) (each_is k (Input p i) within is) ∙ (settle trace t).input j (p, i) there
  does trace k (Flop name init None) within is = absurd (s.fed k name init (slice_get-get_or c.nodes k (Wire 0 None) within ∙ ap Some is))
  does trace k (Flop name init (Some d)) within is =
      let at = flop_at k name init d is in
      (flop_shown k name init (Some d) within is trace 0 init (there_mapped (λ f. f.init) raw.flops _ _ at), λ t. flop_shown k name init (Some d) within is trace (suc t) _ (there_mapped (λ f. net_bit (settled raw (state_at raw trace t) (trace t)) f.d) raw.flops _ _ at))
  does trace k (Wire rank None) within is = tt
  does trace k (Wire rank (Some d)) within is = λ t.
      let p = each_is k (Wire rank (Some d)) within is in
      ap (net_bit (values_at raw trace t)) (sym (ap (λ o. unwrap_or o 0) p))
  does trace k (Gate g x y) within is = λ t.
      let p = each_is k (Gate g x y) within is in
      let f : ℕ → ℕ = place_of places in
      let at : f k ≡ cell_net raw p.at + 0 = p.net ∙ sym (cell_net_is p.at) ∙ (let e : cell_net raw p.at ≡ cell_net raw p.at + 0 = omega arith in e) in
      let there = there_mapped (with_moved_ram f) cells p.at (cell_of g (f x) (f y)) p.there in
      let one : 0 < cell_width (with_moved_ram f (cell_of g (f x) (f y))) = let w = gate_width f g (f x) (f y) in omega arith in
      ap (net_bit (values_at raw trace t)) at ∙ (settle trace t).cell p.at 0 _ there one ∙ cell_is_gate f (values_at raw trace t) _ g (f x) (f y)
  does trace k (Ram rank first None) within is = tt
  does trace k (Ram rank first (Some r)) within is = ram_does trace k rank first r is

  explained : (trace : Trace) → Explains c.nodes trace (shown trace)
  explained trace = record {
    each = λ k. elim (cases_lt k (length c.nodes)) [
      | inl low ↦ does trace k (node_at c.nodes k) low refl
      | inr high ↦ subst (λ (n : Node). Does trace (shown trace) k n) (sym (get_or_past c.nodes k (Wire 0 None) high)) tt
    ];
  }

  held : (k : ℕ) (name : FlopName) (init : Bool) (d : Option ℕ) → slice_get c.nodes k ≡ Some (Flop name init d) → (trace : Trace) (t : ℕ) → HoldsBit raw.flops (state_at raw trace t) name (shown trace t k)
  held k name init d there trace t =
      let within = slice_get_within c.nodes k _ there in
      let w = fed_is k name init d there in
      let is = get_or_from_slice_get c.nodes k _ (Wire 0 None) there in
      let j = length (flops_of (take k c.nodes)) in
      let at = flop_at k name init w.0 (is ∙ ap (Flop name init) w.1) in
      let inside = slice_get_within raw.flops j _ at in
      let state = slice_get-get_or (state_at raw trace t).flops j false (omega (arith, length-state_at raw trace t)) in
      record {
        at = j;
        flop = record { name = name; init = init; d = place_of places w.0 };
        there = at;
        named = refl;
        only = λ i f other same. elim (cases_order i j) [
          | inl here ↦ here
          | inr apart ↦ absurd (elim apart [
            | inl low ↦ names_differ i j f _ low other at same
            | inr high ↦ names_differ j i _ f high at other (sym same)
          ])
        ];
        holds = state ∙ ap Some (sym (flop_shown k name init d within is trace t _ state));
      }

  words_held : (j : ℕ) (r : RamCell) → slice_get (memories_of c.nodes) j ≡ Some r → (trace : Trace) (t : ℕ) → HoldsWords (rams_of raw.cells) (state_at raw trace t) (moved (place_of places) r) (held_at r (shown trace) t)
  words_held j r there trace t =
      let m = memory_node c.nodes j r there in
      let at : ℕ = ram_number m.k m.rank m.first r m.node in
      let here = ram_at_number m.k m.rank m.first r m.node in
      record {
        at = at;
        there = here;
        only = λ i x other same. elim (cases_order i at) [
          | inl equal ↦ equal
          | inr apart ↦ absurd (elim apart [
            | inl low ↦ rams_differ i at x _ low other here same
            | inr high ↦ rams_differ at i _ x high here other (sym same)
          ])
        ];
        holds = ram_holds m.k m.rank m.first r m.node trace t;
      }

  pub seals : Seals c raw
  seals = record {
    place = place_of places;
    clock = refl;
    ports = refl;
    flops = flops_with_are (place_of places) c.nodes;
    explains = explained;
    holds = held;
    words = words_held;
    rams = rams_moved (place_of places) cells ∙ l.rams ∙ over_all rams_in c.nodes places l.size all ∙ total_rams c.nodes;
    gates = let count = l.count in omega (arith, gates_moved (place_of places) cells, over_placed_le gates_in c.nodes places, total_gates c.nodes);
    valid = valid;
  }

-- the same with nodes and places behind slices
pub sealed : (c : Circuit) (nodes : List Node) (places first second third : List (Option ℕ)) (cells last : List Cell) (ports : List Port) (flops : List FlopData) → nodes ≡ c.nodes → IsBuilt c → IsSealable c → ArePlaces nodes places cells → AllPlaced nodes places → first ≡ places → second ≡ places → third ≡ places → last ≡ map (with_moved_ram (place_of first)) cells → flops ≡ flops_with (place_of second) nodes → ports ≡ map (placed (place_of third)) c.ports → Seals c (record { clock = c.clock; ports = ports; flops = flops; cells = last })
sealed c nodes places first second third cells last ports flops same built sealable l all first_is second_is third_is last_is flops_are ports_are =
    let f : flops ≡ flops_with (place_of places) c.nodes = flops_are ∙ ap₂ (λ p n. flops_with (place_of p) n) second_is same in
    let p : ports ≡ map (placed (place_of places)) c.ports = ports_are ∙ ap (λ p. map (placed (place_of p)) c.ports) third_is in
    let here = seals c places cells built sealable (subst (λ (n : List Node). ArePlaces n places cells) same l) (subst (λ (n : List Node). AllPlaced n places) same all) in
    let q : last ≡ map (with_moved_ram (place_of places)) cells = last_is ∙ ap (λ p. map (with_moved_ram (place_of p)) cells) first_is in
    subst (λ (y : List Cell). Seals c (record { clock = c.clock; ports = ports; flops = flops; cells = y })) (sym q) (subst (λ (x : List Port). Seals c (record { clock = c.clock; ports = x; flops = flops; cells = map (with_moved_ram (place_of places)) cells })) (sym p) (subst (λ (x : List FlopData). Seals c (record { clock = c.clock; ports = map (placed (place_of places)) c.ports; flops = x; cells = map (with_moved_ram (place_of places)) cells })) (sym f) here))

pub written_back : (n : ℕ) (new old : List (Option ℕ)) → length new ≡ n → take n (new ++ drop (length new) old) ≡ new
written_back n new old size = take_at new (drop (length new) old) n size
