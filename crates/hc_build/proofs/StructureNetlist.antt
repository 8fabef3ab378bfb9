-- The netlist of a sealed circuit does what the core does, where its nets hold what a run of the core holds and shows.
use Rattle.std.proofs.Common.{◌≡◌, ◌<◌, ◌≤◌, ℕ, suc, ◌+◌, ◌*◌, List, [], ◌∷◌, ◌++◌, length, map, Bool, true, false, Option, Some, None, refl, sym, ap, ◌∙◌, subst, arith}
use Rattle.std.specs.Prelude.{slice_get, slice_index, slice_index_or}
use Rattle.std.specs.List.{range_with_len, flat_map, sum_by}
use Rattle.std.proofs.lemmas.List.{map-append, get_or-map, length-map}
use Rattle.std.proofs.lemmas.List.Sums.{sum_by-cons}
use Rattle.hc_core.specs.Read.{expression}
use Rattle.hc_core.specs.Typed.{kinds_of, kind_width}
use Rattle.hc_core.specs.declared.expr.Expr.{Expr}
use Rattle.hc_core.specs.declared.object.Core.{Core}
use Rattle.hc_core.specs.declared.object.Kind.{Kind}
use Rattle.hc_core.specs.declared.object.Kind.TheVariants as kind
use Rattle.hc_core.specs.declared.object.Object.{Object}
use Rattle.hc_meaning.specs.Clock.{register_cells, memory_words, output_of}
use Rattle.hc_meaning.specs.Run.{Run, world_of}
use Rattle.hc_meaning.specs.Value.{World, words, number_of}
use Rattle.hc_net.specs.Bits.{bit, number}
use Rattle.hc_net.specs.Circuit.{Circuit, History, flops_of}
use Rattle.hc_net.specs.Run.{Trace, HoldsBit, net_bit, values_at, state_at, output_numbers}
use Rattle.hc_net.specs.Seal as seal
use Rattle.hc_net.specs.Seal.{Seals}
use Rattle.hc_net.specs.declared.net.FlopName.TheVariants.{Bit}
use Rattle.hc_net.specs.declared.net.Flop.{Flop}
use Rattle.hc_net.specs.declared.net.Port.{Port}
use Rattle.hc_net.specs.declared.net.Port.TheVariants as port
use Rattle.hc_net.specs.declared.net.RawNet.{RawNet}
use Rattle.hc_bits.specs.Elements.{element_nets}
use Rattle.hc_value.specs.Objects.{nets_of}
use Rattle.hc_value.specs.declared.objects.ObjectNets.{ObjectNets}
use Rattle.hc_control.specs.Right.{net_count}
use Rattle.hc_build.specs.Built.{is_built_kind}
use Rattle.hc_build.specs.Implements.{Implements, IsNetlistOf, shape_of, memory_in}
use Rattle.hc_build.specs.Objects.{ports_by, ports_from}
use Rattle.hc_control.specs.declared.uses.ObjectUses.{ObjectUses}
use Rattle.hc_build.proofs.Stages.{Stages}
use Rattle.hc_build.proofs.StructureNodes.{base_of, nets_are}
use Rattle.hc_build.proofs.Program.{core_kinds}
use Rattle.hc_build.proofs.StructureSealed.{same_clock, same_placed_shapes, last_ports, few_flops, few_gates, no_memories}
use Rattle.hc_build.proofs.StructureRuns.{bit_flop}
use Rattle.hc_build.proofs.StructureBits.{bit-number}

-- The nets hold what a run holds at each edge, and show what its outputs are in each clock.
pub record Follows (core : Core) (at : ObjectNets) (trace : Trace) (h : History) (n : ℕ) (run : Run core trace n) : Type 0 where
  pub holds : (t : ℕ) → t ≤ n → (k e : ℕ) → e < register_cells (slice_get (kinds_of core.objects) k)
      → number (map (h t) (element_nets (kind_width (slice_get (kinds_of core.objects) k)) (nets_of at k) e)) ≡ slice_index_or (words (run.state t).store k) e 0
  pub shows : (t : ℕ) (within : t < n) (k w : ℕ) (s : Bool) (pins : List (List ℕ)) (value : Expr) → slice_get (kinds_of core.objects) k ≡ Some (kind.Output w s pins value)
      → number (map (h t) (nets_of at k)) ≡ (number_of (world_of (kinds_of core.objects) (trace t) (run.state t) (run.clock t within).settled.instant) (expression value)).bits

-- ---- the numbers of output ports

numbers-append : (a b : List Port) (v : ℕ → Bool) → output_numbers (a ++ b) v ≡ output_numbers a v ++ output_numbers b v
numbers-append [] b v = refl
numbers-append (port.Input name width pins ∷ a) b v = numbers-append a b v
numbers-append (port.Output name width pins from ∷ a) b v = ap (λ l. number (map v from) ∷ l) (numbers-append a b v)

map_twice : (v : ℕ → Bool) (place : ℕ → ℕ) (nets : List ℕ) → map v (map place nets) ≡ map (λ n. v (place n)) nets
map_twice v place [] = refl
map_twice v place (n ∷ nets) = ap (λ l. v (place n) ∷ l) (map_twice v place nets)

number_by : (world : World) (v : ℕ → Bool) (place : ℕ → ℕ) (name : List ℕ) (base : ℕ) (x : Kind)
    → ((w : ℕ) (s : Bool) (pins : List (List ℕ)) (value : Expr) → x ≡ kind.Output w s pins value → number (map (λ n. v (place n)) (range_with_len base w)) ≡ (number_of world (expression value)).bits)
    → output_numbers (map (seal.placed place) (ports_by name base x)) v ≡ output_of world x
number_by world v place name base (kind.Reg w s init) is = refl
number_by world v place name base (kind.Array w s n init) is = refl
number_by world v place name base (kind.Ram w s n init) is = refl
number_by world v place name base (kind.Rom w s n init) is = refl
number_by world v place name base (kind.Signal w s unset) is = refl
number_by world v place name base (kind.Chan w s queue) is = refl
number_by world v place name base (kind.Input w s pins) is = refl
number_by world v place name base (kind.Output w s pins value) is =
    ap (λ n. n ∷ []) (ap number (map_twice v place (range_with_len base w)) ∙ is w s pins value refl)

numbers_are : (world : World) (v : ℕ → Bool) (place : ℕ → ℕ) (base : ℕ) (objects : List Object)
    → ((k w : ℕ) (s : Bool) (pins : List (List ℕ)) (value : Expr) → slice_get (kinds_of objects) k ≡ Some (kind.Output w s pins value)
    → number (map (λ n. v (place n)) (range_with_len (base + base_of (kinds_of objects) k) w)) ≡ (number_of world (expression value)).bits)
    → output_numbers (map (seal.placed place) (ports_from base objects)) v ≡ flat_map (output_of world) (kinds_of objects)
numbers_are world v place base [] are = refl
numbers_are world v place base (o ∷ objects) are =
    let own : List Port = ports_by o.name base o.kind in
    let others : List Port = ports_from (base + net_count o.kind) objects in
    ap (λ l. output_numbers l v) (map-append (seal.placed place) own others)
    ∙ numbers-append (map (seal.placed place) own) (map (seal.placed place) others) v
    ∙ ap (λ l. l ++ output_numbers (map (seal.placed place) others) v) (number_by world v place o.name base o.kind (λ w s pins value is.
    ap (λ b. number (map (λ n. v (place n)) (range_with_len b w))) (let e : base ≡ base + 0 = omega arith in e) ∙ are 0 w s pins value (ap Some is)))
    ∙ ap (λ l. output_of world o.kind ++ l) (numbers_are world v place (base + net_count o.kind) objects (λ k w s pins value is.
    ap (λ b. number (map (λ n. v (place n)) (range_with_len b w))) (let e : base + net_count o.kind + base_of (kinds_of objects) k ≡ base + (net_count o.kind + base_of (kinds_of objects) k) = omega arith in e)
    ∙ are (suc k) w s pins value is))

-- ---- memories, which no core of built forms has

memory_words_none : (x : Kind) → is_built_kind x ≡ true → (memory_words (Some x) ≡ 0) × (memory_in x ≡ 0)
memory_words_none (kind.Reg w s init) built = (refl, refl)
memory_words_none (kind.Array w s n init) built = (refl, refl)
memory_words_none (kind.Ram w s n init) built = absurd cc
memory_words_none (kind.Rom w s n init) built = absurd cc
memory_words_none (kind.Signal w s unset) built = absurd cc
memory_words_none (kind.Chan w s queue) built = absurd cc
memory_words_none (kind.Input w s pins) built = (refl, refl)
memory_words_none (kind.Output w s pins value) built = (refl, refl)

memory_words_built : (kinds : List Kind) → ((k : ℕ) (x : Kind) → slice_get kinds k ≡ Some x → is_built_kind x ≡ true) → (k : ℕ) → memory_words (slice_get kinds k) ≡ 0
memory_words_built kinds built k = by (slice_get kinds k) refl where
  by : (o : Option Kind) → slice_get kinds k ≡ o → memory_words o ≡ 0
  by None at = refl
  by (Some x) at = (memory_words_none x (built k x at)).0

no_memory_kinds : (kinds : List Kind) → ((k : ℕ) (x : Kind) → slice_get kinds k ≡ Some x → is_built_kind x ≡ true) → sum_by memory_in kinds ≡ 0
no_memory_kinds [] built = refl
no_memory_kinds (x ∷ kinds) built =
    let own = (memory_words_none x (built 0 x refl)).1 in
    let rest = no_memory_kinds kinds (λ k y at. built (suc k) y at) in
    sum_by-cons memory_in x kinds ∙ (let e : memory_in x + sum_by memory_in kinds ≡ 0 = omega arith in e)

-- ---- the netlist

module _ {core : Core} {at : ObjectNets} {uses : List ObjectUses} {sources : List (List ℕ)} {placed used read last : Circuit} (s : Stages core at uses sources placed used read last) (raw : RawNet) (seals : Seals last raw) where
  -- the bit of each net of the circuit in a run of the netlist
  abbrev pub history : Trace → History
  history trace = λ t k. net_bit (values_at raw trace t) (seals.place k)

  -- a flip-flop of the netlist holds each bit of a number on nets
  holds_bit : (trace : Trace) (t k e i word : ℕ) → e < register_cells (slice_get (kinds_of core.objects) k) → i < kind_width (slice_get (kinds_of core.objects) k)
      → number (map (history trace t) (element_nets (kind_width (slice_get (kinds_of core.objects) k)) (nets_of at k) e)) ≡ word
      → HoldsBit raw.flops (state_at raw trace t) (Bit k (e * kind_width (slice_get (kinds_of core.objects) k) + i)) (bit word i)
  holds_bit trace t k e i word inside low is =
      let w : ℕ = kind_width (slice_get (kinds_of core.objects) k) in
      let f = bit_flop s k e i inside low in
      let nets : List ℕ = element_nets w (nets_of at k) e in
      let net : ℕ = slice_index (nets_of at k) (e * w + i) in
      let size = f.size in
      let known : i < length nets = omega arith in
      let long : i < length (map (history trace t) nets) = let m = length-map nets (history trace t) in omega arith in
      let same : history trace t net ≡ bit word i =
      ap (history trace t) (sym f.element)
      ∙ sym (get_or-map (history trace t) nets i 0 false known)
      ∙ sym (bit-number (map (history trace t) nets) i long)
      ∙ ap (λ n. bit n i) is in
      subst (λ (x : Bool). HoldsBit raw.flops (state_at raw trace t) (Bit k (e * w + i)) x) same (seals.holds net (Bit k (e * w + i)) f.init f.from f.flop trace t)

  -- The netlist does what the core does.
  pub implements : ((trace : Trace) (n : ℕ) (run : Run core trace n) → Follows core at trace (history trace) n run) → Implements core raw
  implements follows = record {
    same_ports = record {
      clock = seals.clock ∙ same_clock s;
      ports = ap (map shape_of) seals.ports ∙ same_placed_shapes s seals.place;
    };
    same = λ trace n run t le. record {
      bits = λ k e i inside low. holds_bit trace t k e i _ inside low ((follows trace n run).holds t le k e inside);
      memories = λ k some. let none = memory_words_built (kinds_of core.objects) (core_kinds core s.buildable) k in absurd (omega (arith, some));
    };
    outputs = λ trace n run t within.
        let world : World = world_of (kinds_of core.objects) (trace t) (run.state t) (run.clock t within).settled.instant in
        let v : ℕ → Bool = net_bit (values_at raw trace t) in
        let numbers : output_numbers (map (seal.placed seals.place) (ports_from 0 core.objects)) v ≡ flat_map (output_of world) (kinds_of core.objects) =
        numbers_are world v seals.place 0 core.objects (λ k w sign pins value is.
        let nets : nets_of at k ≡ range_with_len (0 + base_of (kinds_of core.objects) k) w =
        ap (λ (l : List (List ℕ)). slice_index_or l k []) s.places.objects
        ∙ nets_are (kinds_of core.objects) k (kind.Output w sign pins value) is
        ∙ ap (λ b. range_with_len b w) (let e : base_of (kinds_of core.objects) k ≡ 0 + base_of (kinds_of core.objects) k = omega arith in e) in
        ap (λ (l : List ℕ). number (map (history trace t) l)) (sym nets) ∙ (follows trace n run).shows t within k w sign pins value is) in
        (run.clock t within).shows ∙ sym (ap (λ (l : List Port). output_numbers l v) (seals.ports ∙ ap (map (seal.placed seals.place)) (last_ports s)) ∙ numbers);
  }

  -- It is a netlist of the core, with few gates and flip-flops.
  pub is_netlist : ((trace : Trace) (n : ℕ) (run : Run core trace n) → Follows core at trace (history trace) n run) → IsNetlistOf core raw
  is_netlist follows = record {
    implements = implements follows;
    gates = let cells = seals.gates in let few = few_gates s in omega arith;
    rams = seals.rams ∙ ap length (no_memories s) ∙ sym (no_memory_kinds (kinds_of core.objects) (core_kinds core s.buildable));
    flops = let many : length raw.flops ≡ length (flops_of last.nodes) = sym (length-map raw.flops (λ (f : Flop). (f.name, f.init))) ∙ ap length seals.flops in let few = few_flops s in omega arith;
  }
