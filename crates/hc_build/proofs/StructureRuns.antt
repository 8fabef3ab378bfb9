-- What the nets of objects do in each history that explains the finished circuit.
use Rattle.std.proofs.Common.{◌≡◌, ◌<◌, ℕ, zero, suc, ◌+◌, ◌-◌, ◌*◌, ◌^◌, List, [], length, map, Bool, true, false, Option, Some, None, refl, sym, ap, ◌∙◌, subst, arith}
use Rattle.std.specs.Prelude.{slice_get, slice_index, slice_index_or}
use Rattle.std.specs.List.{range_with_len}
use Rattle.std.proofs.lemmas.List.{get_or-map}
use Rattle.std.proofs.lemmas.Option.{slice_get-get_or, slice_get_within, get_or_from_slice_get}
use Rattle.hc_core.specs.Sound.{IsKind}
use Rattle.hc_core.specs.Typed.{kinds_of, kind_width}
use Rattle.hc_core.specs.declared.expr.Expr.{Expr}
use Rattle.hc_core.specs.declared.object.Core.{Core}
use Rattle.hc_core.specs.declared.object.Kind.{Kind}
use Rattle.hc_core.specs.declared.object.Kind.TheVariants as kind
use Rattle.hc_meaning.specs.Clock.{register_cells}
use Rattle.hc_meaning.specs.Value.{words, initial, first_words, inputs_before}
use Rattle.hc_net.specs.Bits.{bit, number}
use Rattle.hc_net.specs.Circuit.{Circuit, History, Explains, Does, node_at, reading}
use Rattle.hc_net.specs.Run.{Trace}
use Rattle.hc_net.specs.declared.net.FlopName.TheVariants.{Bit}
use Rattle.hc_net.specs.declared.gate.GateKind.TheVariants as gate
use Rattle.hc_net.specs.declared.node.Node.{Node}
use Rattle.hc_net.specs.declared.node.Node.TheVariants.{Input, Flop, Wire, Gate}
use Rattle.hc_bits.specs.Elements.{element_nets}
use Rattle.hc_value.specs.Objects.{nets_of}
use Rattle.hc_value.specs.declared.objects.ObjectNets.{ObjectNets}
use Rattle.hc_control.specs.Right.{net_count}
use Rattle.hc_control.specs.declared.uses.ObjectUses.{ObjectUses}
use Rattle.hc_build.specs.Runs.{ObjectsRun}
use Rattle.hc_build.proofs.Stages.{Stages}
use Rattle.hc_build.proofs.StructureNodes.{holder, word_node, bit_within}
use Rattle.hc_build.proofs.StructureJoined.{Joined, IsFed, ReadsSource, register, array, output, same_size, own_nets, source_length, last_node, input_last, output_last, register_last, array_last, gate_last}
use Rattle.hc_build.proofs.StructureSealed.{joined}
use Rattle.hc_build.proofs.StructureBits.{number-bits, bits_below, array_below, same_maps, same_bits, element_net, element_size}

-- ---- the flip-flop of each bit

some_kind : (o : Option Kind) (e : ℕ) → e < register_cells o → (x : Kind) × (o ≡ Some x)
some_kind None e inside = absurd (omega arith)
some_kind (Some x) e inside = (x, refl)

holds_reads : (x : Kind) → 0 < register_cells (Some x) → ReadsSource x
holds_reads (kind.Reg w s init) some = register w s init
holds_reads (kind.Array w s n init) some = array w s n init
holds_reads (kind.Ram w s n init) some = absurd (omega arith)
holds_reads (kind.Rom w s n init) some = absurd (omega arith)
holds_reads (kind.Signal w s unset) some = absurd (omega arith)
holds_reads (kind.Chan w s queue) some = absurd (omega arith)
holds_reads (kind.Input w s pins) some = absurd (omega arith)
holds_reads (kind.Output w s pins value) some = absurd (omega arith)

first_below : (kinds : List Kind) (x : Kind) (e : ℕ) → IsKind kinds x → e < register_cells (Some x) → slice_index (first_words x) e < 2 ^ kind_width (Some x)
first_below kinds (kind.Reg w s init) zero is inside = bits_below w s init is
first_below kinds (kind.Reg w s init) (suc e) is inside = absurd (omega arith)
first_below kinds (kind.Array w s n init) e is inside = array_below w s n init e is.typed
first_below kinds (kind.Ram w s n init) e is inside = absurd (omega arith)
first_below kinds (kind.Rom w s n init) e is inside = absurd (omega arith)
first_below kinds (kind.Signal w s unset) e is inside = absurd (omega arith)
first_below kinds (kind.Chan w s queue) e is inside = absurd (omega arith)
first_below kinds (kind.Input w s pins) e is inside = absurd (omega arith)
first_below kinds (kind.Output w s pins value) e is inside = absurd (omega arith)

module _ {kinds : List Kind} {at : ObjectNets} {sources : List (List ℕ)} {old last : Circuit} (j : Joined kinds at sources old last) where
  bit_place : (k e i : ℕ) (x : Kind) → e < register_cells (Some x) → i < kind_width (Some x) → e * kind_width (Some x) + i < net_count x
  bit_place k e i x inside low =
      let h = holder k 0 x (omega arith) in
      let bits = h.bits in
      let within = bit_within (register_cells (Some x)) (kind_width (Some x)) e i inside low in
      omega arith

  bit_last : (k e i : ℕ) (x : Kind) → slice_get kinds k ≡ Some x → e < register_cells (Some x) → i < kind_width (Some x)
      → node_at last.nodes (slice_index (nets_of at k) (e * kind_width (Some x) + i))
      ≡ Flop (Bit k (e * kind_width (Some x) + i)) (bit (slice_index (first_words x) e) i) (Some (slice_index (slice_index_or sources k []) (e * kind_width (Some x) + i)))
  bit_last k e i x is inside low =
      let w : ℕ = kind_width (Some x) in
      let p : ℕ = inputs_before kinds k in
      let h = holder k p x (omega arith) in
      let many = h.words in
      let d : ℕ = slice_index (slice_index_or sources k []) (e * w + i) in
      last_node j k (e * w + i) x is (holds_reads x (omega arith)) (bit_place k e i x inside low)
      ∙ ap (λ l. reading d (node_at l (e * w + i))) h.nodes
      ∙ ap (reading d) (word_node k 0 w (first_words x) e i (omega arith) low)
      ∙ ap (λ n. Flop (Bit k n) (bit (slice_index (first_words x) e) i) (Some d)) (let z : 0 + (e * w + i) ≡ e * w + i = omega arith in z)

  element_long : (k e : ℕ) (x : Kind) → slice_get kinds k ≡ Some x → e < register_cells (Some x) → length (element_nets (kind_width (Some x)) (nets_of at k) e) ≡ kind_width (Some x)
  element_long k e x is inside =
      element_size (register_cells (Some x)) (kind_width (Some x)) (nets_of at k) e ((own_nets j k x is).count ∙ (holder k 0 x (omega arith)).bits) inside

  net_inside : (k i : ℕ) (x : Kind) → slice_get kinds k ≡ Some x → i < net_count x → slice_index (nets_of at k) i < length last.nodes
  net_inside k i x is low =
      let nets = own_nets j k x is in
      let count = nets.count in
      let size = same_size j in
      let there = nets.there i 0 (omega arith) in
      omega arith

  bit_there : (k e i : ℕ) (x : Kind) → slice_get kinds k ≡ Some x → e < register_cells (Some x) → i < kind_width (Some x)
      → slice_get last.nodes (slice_index (nets_of at k) (e * kind_width (Some x) + i))
      ≡ Some (Flop (Bit k (e * kind_width (Some x) + i)) (bit (slice_index (first_words x) e) i) (Some (slice_index (slice_index_or sources k []) (e * kind_width (Some x) + i))))
  bit_there k e i x is inside low =
      slice_get-get_or last.nodes (slice_index (nets_of at k) (e * kind_width (Some x) + i)) (Wire 0 None) (net_inside k (e * kind_width (Some x) + i) x is (bit_place k e i x inside low))
      ∙ ap Some (bit_last k e i x is inside low)

-- A bit of an element has its flip-flop at its net.
pub record HasFlop (at : ObjectNets) (nodes : List Node) (w k e i : ℕ) : Type 0 where
  pub init : Bool
  pub from : Option ℕ
  pub flop : slice_get nodes (slice_index (nets_of at k) (e * w + i)) ≡ Some (Flop (Bit k (e * w + i)) init from)
  pub element : slice_index (element_nets w (nets_of at k) e) i ≡ slice_index (nets_of at k) (e * w + i)
  pub size : length (element_nets w (nets_of at k) e) ≡ w

joined_flop : {kinds : List Kind} {at : ObjectNets} {sources : List (List ℕ)} {old last : Circuit} → Joined kinds at sources old last
    → (k e i : ℕ) → e < register_cells (slice_get kinds k) → i < kind_width (slice_get kinds k) → HasFlop at last.nodes (kind_width (slice_get kinds k)) k e i
joined_flop {kinds} {at} {sources} {last = last} j k e i inside low =
    let x = some_kind (slice_get kinds k) e inside in
    subst (λ (o : Option Kind). HasFlop at last.nodes (kind_width o) k e i) (sym x.1) (record {
      init = bit (slice_index (first_words x.0) e) i;
      from = Some (slice_index (slice_index_or sources k []) (e * kind_width (Some x.0) + i));
      flop = bit_there j k e i x.0 x.1 (subst (λ (o : Option Kind). e < register_cells o) x.1 inside) (subst (λ (o : Option Kind). i < kind_width o) x.1 low);
      element = element_net (kind_width (Some x.0)) (nets_of at k) e i (subst (λ (o : Option Kind). i < kind_width o) x.1 low);
      size = element_long j k e x.0 x.1 (subst (λ (o : Option Kind). e < register_cells o) x.1 inside);
    })

-- ---- histories

does_at : {nodes : List Node} {trace : Trace} {h : History} (k : ℕ) (x : Node) → Explains nodes trace h → node_at nodes k ≡ x → Does trace h k x
does_at {trace = trace} {h = h} k x e is = subst (λ (n : Node). Does trace h k n) is (e.each k)

word_of : (kinds : List Kind) (k : ℕ) (x : Kind) → slice_get kinds k ≡ Some x → words (initial kinds) k ≡ first_words x
word_of kinds k x is = get_or-map first_words kinds k x [] (slice_get_within kinds k x is) ∙ ap first_words (get_or_from_slice_get kinds k x x is)

module _ {kinds : List Kind} {at : ObjectNets} {sources : List (List ℕ)} {old last : Circuit} (j : Joined kinds at sources old last) {trace : Trace} {h : History} (e : Explains last.nodes trace h) where
  -- a register or an array starts with its numbers
  first_number : (sound : (k : ℕ) (x : Kind) → slice_get kinds k ≡ Some x → IsKind kinds x) (k n : ℕ) (x : Kind) → slice_get kinds k ≡ Some x → n < register_cells (Some x)
      → number (map (h 0) (element_nets (kind_width (Some x)) (nets_of at k) n)) ≡ slice_index_or (words (initial kinds) k) n 0
  first_number sound k n x is inside =
      let w : ℕ = kind_width (Some x) in
      let bits = (holder k 0 x (omega arith)).bits in
      let size : length (nets_of at k) ≡ register_cells (Some x) * w = (own_nets j k x is).count ∙ bits in
      let first : ℕ = slice_index (first_words x) n in
      ap number (same_bits (h 0) (bit first) (element_nets w (nets_of at k) n) w (element_size (register_cells (Some x)) w (nets_of at k) n size inside) (λ i low.
      ap (h 0) (element_net w (nets_of at k) n i low)
      ∙ (does_at (slice_index (nets_of at k) (n * w + i)) (Flop (Bit k (n * w + i)) (bit first i) (Some (slice_index (slice_index_or sources k []) (n * w + i)))) e (bit_last j k n i x is inside low)).0))
      ∙ number-bits first w (first_below kinds x n (sound k x is) inside)
      ∙ ap (λ (l : List ℕ). slice_index l n) (sym (word_of kinds k x is))

  holder_last : (k i : ℕ) (x : Kind) → slice_get kinds k ≡ Some x → 0 < register_cells (Some x) → i < net_count x
      → IsFed (node_at last.nodes (slice_index (nets_of at k) i)) (slice_index (slice_index_or sources k []) i)
  holder_last k i (kind.Reg w s init) is some low = register_last j k i w s init is low
  holder_last k i (kind.Array w s n init) is some low = array_last j k i w n s init is low
  holder_last k i (kind.Ram w s n init) is some low = absurd (omega arith)
  holder_last k i (kind.Rom w s n init) is some low = absurd (omega arith)
  holder_last k i (kind.Signal w s unset) is some low = absurd (omega arith)
  holder_last k i (kind.Chan w s queue) is some low = absurd (omega arith)
  holder_last k i (kind.Input w s pins) is some low = absurd (omega arith)
  holder_last k i (kind.Output w s pins value) is some low = absurd (omega arith)

  -- it holds after an edge what its source held before it
  next_bits : (k t : ℕ) (x : Kind) → slice_get kinds k ≡ Some x → 0 < register_cells (Some x) → map (h (suc t)) (nets_of at k) ≡ map (h t) (slice_index_or sources k [])
  next_bits k t x is some =
      let count = (own_nets j k x is).count in
      same_maps (h (suc t)) (h t) (nets_of at k) (slice_index_or sources k []) (count ∙ sym (source_length j k x is (holds_reads x some))) (λ i low.
      let fed = holder_last k i x is some (omega arith) in
      (does_at (slice_index (nets_of at k) i) (Flop fed.name fed.init (Some (slice_index (slice_index_or sources k []) i))) e fed.is).1 t)

  input_bits : (k w t : ℕ) (s : Bool) (pins : List (List ℕ)) → slice_get kinds k ≡ Some (kind.Input w s pins)
      → map (h t) (nets_of at k) ≡ map (λ i. bit (slice_index (trace t) (inputs_before kinds k)) i) (range_with_len 0 w)
  input_bits k w t s pins is =
      same_bits (h t) (λ i. bit (slice_index (trace t) (inputs_before kinds k)) i) (nets_of at k) w (own_nets j k (kind.Input w s pins) is).count (λ i low.
      does_at (slice_index (nets_of at k) i) (Input (inputs_before kinds k) i) e (input_last j k i w s pins is low) t)

  output_bits : (k w t : ℕ) (s : Bool) (pins : List (List ℕ)) (value : Expr) → slice_get kinds k ≡ Some (kind.Output w s pins value)
      → map (h t) (nets_of at k) ≡ map (h t) (slice_index_or sources k [])
  output_bits k w t s pins value is =
      let x : Kind = kind.Output w s pins value in
      let count = (own_nets j k x is).count in
      same_maps (h t) (h t) (nets_of at k) (slice_index_or sources k []) (count ∙ sym (source_length j k x is (output w s pins value))) (λ i low.
      does_at (slice_index (nets_of at k) i) (Wire (2 ^ 32 - 1) (Some (slice_index (slice_index_or sources k []) i))) e (output_last j k i w s pins value is (omega arith)) t)

  zero_holds : (t : ℕ) → h t at.zero ≡ false
  zero_holds t = does_at at.zero (Gate gate.Zero 0 0) e (gate_last j at.zero gate.Zero 0 0 j.stand.zero) t

  one_holds : (t : ℕ) → h t at.one ≡ true
  one_holds t = does_at at.one (Gate gate.One 0 0) e (gate_last j at.one gate.One 0 0 j.stand.one) t

  joined_run : ((k : ℕ) (x : Kind) → slice_get kinds k ≡ Some x → IsKind kinds x) → ObjectsRun kinds at sources trace h
  joined_run sound = record {
    zero_is = zero_holds;
    one_is = one_holds;
    first = λ k n inside.
        let x = some_kind (slice_get kinds k) n inside in
        subst (λ (o : Option Kind). number (map (h 0) (element_nets (kind_width o) (nets_of at k) n)) ≡ slice_index_or (words (initial kinds) k) n 0) (sym x.1)
        (first_number sound k n x.0 x.1 (subst (λ (o : Option Kind). n < register_cells o) x.1 inside));
    next = λ k t some.
        let x = some_kind (slice_get kinds k) 0 some in
        next_bits k t x.0 x.1 (subst (λ (o : Option Kind). 0 < register_cells o) x.1 some);
    input = input_bits;
    output = output_bits;
  }

-- ---- the theorems

module _ {core : Core} {at : ObjectNets} {uses : List ObjectUses} {sources : List (List ℕ)} {placed used read last : Circuit} (s : Stages core at uses sources placed used read last) where
  -- What the objects do.
  pub objects_run : (trace : Trace) (h : History) → Explains last.nodes trace h → ObjectsRun (kinds_of core.objects) at sources trace h
  objects_run trace h e = joined_run (joined s) e s.buildable.sound.kinds

  -- The flip-flop of each bit of registers and arrays.
  pub bit_flop : (k e i : ℕ) → e < register_cells (slice_get (kinds_of core.objects) k) → i < kind_width (slice_get (kinds_of core.objects) k)
      → HasFlop at last.nodes (kind_width (slice_get (kinds_of core.objects) k)) k e i
  bit_flop k e i inside low = joined_flop (joined s) k e i inside low
