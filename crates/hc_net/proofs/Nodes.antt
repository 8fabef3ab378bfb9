-- What a builder keeps when nodes are added or connected, and the histories that explain them.
use Rattle.std.proofs.Common.{◌≡◌, ◌<◌, ◌≤◌, ℕ, zero, suc, ◌+◌, ◌-◌, ◌^◌, ◌⊎◌, List, [], ◌∷◌, ◌++◌, length, map, Option, Some, None, set, take, refl, ap, sym, ◌∙◌, subst, inl, inr, arith, append_assoc, length-append}
use Rattle.std.specs.Prelude.{slice_get, min, All, MatchOption}
use Rattle.std.specs.List.{range_with_len}
use Rattle.std.proofs.lemmas.List.{append-nil, get_or_append_left, get_or-append_right, get_or_past, get_or_push, length_push, get_or-set_same, get_or-set_other, length-set, length-map, take_at, take-take, map-id, length-take-le}
use Rattle.std.proofs.lemmas.List.FromFn.{length-range_with_len, map-range_with_len_more}
use Rattle.std.proofs.lemmas.Bool.{cases_lt, cases_eq}
use Rattle.hc_net.specs.Run.{Trace, input_bits, input_bits_from}
use Rattle.hc_net.specs.Circuit.{Circuit, History, Does, Explains, Extends, node_at, input_count, input_nodes, input_bits_of, NodeReadsWithin, IsBuilt, IsAlone, with_node, with_node_at, with_input, with_output, reading, IsUnfed, IsUndriven}
use Rattle.hc_net.specs.declared.net.Port.{Port}
use Rattle.hc_net.specs.declared.net.Port.TheVariants as port
use Rattle.hc_net.specs.declared.node.Node.{Node}
use Rattle.hc_net.specs.declared.node.Node.TheVariants.{Input, Flop, Wire, Gate, Ram}
use Rattle.hc_net.proofs.Lists.{input_bits_of-append, node_at-append, node_at_past, input_bits_of-connected}
use Rattle.hc_net.proofs.Rams.{Plain, AreRams-alone, AreRams-connected, AreRams-plain}

zero_plus : (n : ℕ) → 0 + n ≡ n
zero_plus n = omega arith

pub input_bits_of-inputs : (p : ℕ) (xs : List ℕ) → input_bits_of (map (λ i. Input p i) xs) ≡ map (λ i. (p, i)) xs
input_bits_of-inputs p [] = refl
input_bits_of-inputs p (x ∷ xs) = ap (λ l. (p, x) ∷ l) (input_bits_of-inputs p xs)

input_bits_from-input : (p : ℕ) (ps : List Port) (name : List ℕ) (width : ℕ) (pins : List (List ℕ)) → input_bits_from p (ps ++ port.Input name width pins ∷ []) ≡ input_bits_from p ps ++ map (λ i. (p + input_count ps, i)) (range_with_len 0 width)
input_bits_from-input p [] name width pins =
    let e : p + 0 ≡ p = omega arith in
    append-nil _ ∙ ap (λ q. map (λ i. (q, i)) (range_with_len 0 width)) (sym e)
input_bits_from-input p (port.Input n w s ∷ ps) name width pins =
    let e : (p + 1) + input_count ps ≡ p + (1 + input_count ps) = omega arith in
    let ih = input_bits_from-input (p + 1) ps name width pins in
    let front = map (λ i. (p, i)) (range_with_len 0 w) in
    ap (λ l. front ++ l) ih ∙ sym (append_assoc front (input_bits_from (p + 1) ps) _) ∙ ap (λ q. (front ++ input_bits_from (p + 1) ps) ++ map (λ i. (q, i)) (range_with_len 0 width)) e
input_bits_from-input p (port.Output n w s from ∷ ps) name width pins = input_bits_from-input p ps name width pins

input_bits_from-output : (p : ℕ) (ps : List Port) (name : List ℕ) (width : ℕ) (pins : List (List ℕ)) (from : List ℕ) → input_bits_from p (ps ++ port.Output name width pins from ∷ []) ≡ input_bits_from p ps
input_bits_from-output p [] name width pins from = refl
input_bits_from-output p (port.Input n w s ∷ ps) name width pins from =
    ap (λ l. map (λ i. (p, i)) (range_with_len 0 w) ++ l) (input_bits_from-output (p + 1) ps name width pins from)
input_bits_from-output p (port.Output n w s f ∷ ps) name width pins from = input_bits_from-output p ps name width pins from

pub input_count-input : (ps : List Port) (name : List ℕ) (width : ℕ) (pins : List (List ℕ)) → input_count (ps ++ port.Input name width pins ∷ []) ≡ input_count ps + 1
input_count-input [] name width pins = refl
input_count-input (port.Input n w s ∷ ps) name width pins = omega (arith, input_count-input ps name width pins)
input_count-input (port.Output n w s f ∷ ps) name width pins = input_count-input ps name width pins

pub input_count-output : (ps : List Port) (name : List ℕ) (width : ℕ) (pins : List (List ℕ)) (from : List ℕ) → input_count (ps ++ port.Output name width pins from ∷ []) ≡ input_count ps
input_count-output [] name width pins from = refl
input_count-output (port.Input n w s ∷ ps) name width pins from = omega (arith, input_count-output ps name width pins from)
input_count-output (port.Output n w s f ∷ ps) name width pins from = input_count-output ps name width pins from

pub input_count_le : (ps : List Port) → input_count ps ≤ length ps
input_count_le [] = omega arith
input_count_le (port.Input n w s ∷ ps) = omega (arith, input_count_le ps)
input_count_le (port.Output n w s f ∷ ps) = omega (arith, input_count_le ps)

pub extends_append : (xs ys : List Node) → Extends xs (xs ++ ys)
extends_append xs ys trace h e = record {
  each = λ k. elim (cases_lt k (length xs)) [
    | inl low ↦ subst (λ (n : Node). Does trace h k n) (node_at-append xs ys k low) (e.each k)
    | inr high ↦ subst (λ (n : Node). Does trace h k n) (sym (node_at_past xs k high)) tt
  ];
}

-- a node that is connected does what it did, and what it reads
does_reading : (trace : Trace) (h : History) (k d : ℕ) (n : Node) → IsUnfed n ⊎ IsUndriven n → Does trace h k (reading d n) → Does trace h k n
does_reading trace h k d (Input p i) u e = e
does_reading trace h k d (Flop name init None) u e = e.0
does_reading trace h k d (Flop name init (Some x)) (inl u) e = absurd u
does_reading trace h k d (Flop name init (Some x)) (inr u) e = absurd u
does_reading trace h k d (Wire rank None) u e = tt
does_reading trace h k d (Wire rank (Some x)) (inl u) e = absurd u
does_reading trace h k d (Wire rank (Some x)) (inr u) e = absurd u
does_reading trace h k d (Gate g a b) u e = e
does_reading trace h k d (Ram rank first ram) u e = e

pub extends_set : (xs : List Node) (k d : ℕ) → k < length xs → IsUnfed (node_at xs k) ⊎ IsUndriven (node_at xs k) → Extends xs (set xs k (reading d (node_at xs k)))
extends_set xs k d within u trace h e = record {
  each = λ j. elim (cases_eq j k) [
    | inl same ↦
        let at : node_at (set xs k (reading d (node_at xs k))) j ≡ reading d (node_at xs j) = subst (λ (m : ℕ). node_at (set xs m (reading d (node_at xs m))) j ≡ reading d (node_at xs j)) same (get_or-set_same xs j _ _ (omega arith)) in
        does_reading trace h j d (node_at xs j) (subst (λ (m : ℕ). IsUnfed (node_at xs m) ⊎ IsUndriven (node_at xs m)) (sym same) u) (subst (λ (n : Node). Does trace h j n) at (e.each j))
    | inr other ↦ subst (λ (n : Node). Does trace h j n) (get_or-set_other xs k j _ _ other) (e.each j)
  ];
}

-- an unfed flip-flop and an undriven placeholder are nodes that are there
fed_value : (trace : Trace) (h : History) (k d : ℕ) (n : Node) → IsUnfed n → Does trace h k (reading d n) → (t : ℕ) → h (suc t) k ≡ h t d
fed_value trace h k d (Flop name init None) u e t = e.1 t
fed_value trace h k d (Flop name init (Some x)) u e t = absurd u
fed_value trace h k d (Input p i) u e t = absurd u
fed_value trace h k d (Wire rank from) u e t = absurd u
fed_value trace h k d (Gate g a b) u e t = absurd u
fed_value trace h k d (Ram rank first ram) u e t = absurd u

driven_value : (trace : Trace) (h : History) (k d : ℕ) (n : Node) → IsUndriven n → Does trace h k (reading d n) → (t : ℕ) → h t k ≡ h t d
driven_value trace h k d (Wire rank None) u e t = e t
driven_value trace h k d (Wire rank (Some x)) u e t = absurd u
driven_value trace h k d (Input p i) u e t = absurd u
driven_value trace h k d (Flop name init x) u e t = absurd u
driven_value trace h k d (Gate g a b) u e t = absurd u
driven_value trace h k d (Ram rank first ram) u e t = absurd u

pub set_node_at : (xs : List Node) (k : ℕ) (n : Node) → k < length xs → node_at (set xs k n) k ≡ n
set_node_at xs k n within = get_or-set_same xs k n _ within

pub fed_bit : (xs : List Node) (k d : ℕ) → k < length xs → IsUnfed (node_at xs k) → (trace : Trace) (h : History) → Explains (set xs k (reading d (node_at xs k))) trace h → (t : ℕ) → h (suc t) k ≡ h t d
fed_bit xs k d within u trace h e = fed_value trace h k d (node_at xs k) u (subst (λ (n : Node). Does trace h k n) (set_node_at xs k _ within) (e.each k))

pub driven_bit : (xs : List Node) (k d : ℕ) → k < length xs → IsUndriven (node_at xs k) → (trace : Trace) (h : History) → Explains (set xs k (reading d (node_at xs k))) trace h → (t : ℕ) → h t k ≡ h t d
driven_bit xs k d within u trace h e = driven_value trace h k d (node_at xs k) u (subst (λ (n : Node). Does trace h k n) (set_node_at xs k _ within) (e.each k))

-- the node that was added last
pub does_last : (xs : List Node) (n : Node) (trace : Trace) (h : History) (k : ℕ) → k ≡ length xs → Explains (xs ++ n ∷ []) trace h → Does trace h k n
does_last xs n trace h k at e = subst (λ (m : Node). Does trace h k m) (get_or_push xs n _ k (sym at)) (e.each k)

-- what is there stays there in a longer list
pub reads_longer : (m n k : ℕ) (node : Node) → m ≤ n → NodeReadsWithin m k node → NodeReadsWithin n k node
reads_longer m n k (Input p i) le r = tt
reads_longer m n k (Flop name init None) le r = tt
reads_longer m n k (Flop name init (Some d)) le r = omega arith
reads_longer m n k (Wire rank None) le r = tt
reads_longer m n k (Wire rank (Some d)) le r = omega arith
reads_longer m n k (Gate g a b) le r = r
reads_longer m n k (Ram rank first None) le r = r
reads_longer m n k (Ram rank first (Some ram)) le r = r

pub all_longer : (m n : ℕ) (xs : List ℕ) → m ≤ n → All (λ k. k < m) xs → All (λ k. k < n) xs
all_longer m n xs le all = λ i d within. let h = all i d within in omega arith

reads_append : (k : ℕ) (xs : List Node) (node : Node) → ((j : ℕ) → j < length xs → NodeReadsWithin (length xs) j (node_at xs j)) → NodeReadsWithin (length xs) (length xs) node → k < length (xs ++ node ∷ []) → NodeReadsWithin (length (xs ++ node ∷ [])) k (node_at (xs ++ node ∷ []) k)
reads_append k xs node each last within =
    let size = length_push xs node in
    elim (cases_lt k (length xs)) [
      | inl low ↦ subst (λ (m : Node). NodeReadsWithin (length (xs ++ node ∷ [])) k m) (sym (node_at-append xs (node ∷ []) k low)) (reads_longer (length xs) _ k (node_at xs k) (omega arith) (each k low))
      | inr high ↦
          let at : k ≡ length xs = omega arith in
          subst (λ (m : Node). NodeReadsWithin (length (xs ++ node ∷ [])) k m) (sym (get_or_push xs node _ k (sym at))) (reads_longer (length xs) _ k node (omega arith) (subst (λ (j : ℕ). NodeReadsWithin (length xs) j node) (sym at) last))
    ]

alone_no_input : (node : Node) → IsAlone node → input_bits_of (node ∷ []) ≡ []
alone_no_input (Input p i) a = absurd a
alone_no_input (Flop name init d) a = refl
alone_no_input (Wire rank from) a = refl
alone_no_input (Gate g x y) a = refl
alone_no_input (Ram rank first ram) a = absurd a

pub IsBuilt-node : (c : Circuit) (node : Node) → IsBuilt c → IsAlone node → NodeReadsWithin (length c.nodes) (length c.nodes) node → length c.nodes + 1 < 2 ^ 32 → IsBuilt (with_node c node)
IsBuilt-node c node b alone last room =
    let other : input_bits_of (node ∷ []) ≡ [] = alone_no_input node alone in
    let size = length_push c.nodes node in
    record {
      reads = λ k within. reads_append k c.nodes node b.reads last within;
      inputs = input_bits_of-append c.nodes (node ∷ []) ∙ ap (λ l. input_bits_of c.nodes ++ l) other ∙ append-nil _ ∙ b.inputs;
      outputs = λ j name width pins from there. let o = b.outputs j name width pins from there in (o.0, all_longer _ _ from (omega arith) o.1);
      few_nets = omega arith;
      few_ports = b.few_ports;
      rams = AreRams-alone c.nodes node b.rams alone;
    }

reads_connected : (n k d : ℕ) (node : Node) → d < n → NodeReadsWithin n k node → NodeReadsWithin n k (reading d node)
reads_connected n k d (Input p i) le r = tt
reads_connected n k d (Flop name init x) le r = le
reads_connected n k d (Wire rank x) le r = le
reads_connected n k d (Gate g a b) le r = r
reads_connected n k d (Ram rank first ram) le r = r

pub IsBuilt-connected : (c : Circuit) (k d : ℕ) → IsBuilt c → k < length c.nodes → d < length c.nodes → IsBuilt (with_node_at c k (reading d (node_at c.nodes k)))
IsBuilt-connected c k d b within there =
    let size = length-set c.nodes k (reading d (node_at c.nodes k)) in
    record {
      reads = λ j at. subst (λ (n : ℕ). NodeReadsWithin n j (node_at (set c.nodes k (reading d (node_at c.nodes k))) j)) (sym size) (elim (cases_eq j k) [
        | inl same ↦ subst (λ (m : ℕ). NodeReadsWithin (length c.nodes) m (node_at (set c.nodes k (reading d (node_at c.nodes k))) m)) (sym same) (subst (λ (m : Node). NodeReadsWithin (length c.nodes) k m) (sym (set_node_at c.nodes k _ within)) (reads_connected _ k d (node_at c.nodes k) there (b.reads k within)))
        | inr other ↦ subst (λ (m : Node). NodeReadsWithin (length c.nodes) j m) (sym (get_or-set_other c.nodes k j _ _ other)) (b.reads j (omega arith))
      ]);
      inputs = input_bits_of-connected c.nodes k d ∙ b.inputs;
      outputs = λ j name width pins from at. let o = b.outputs j name width pins from at in (o.0, all_longer _ _ from (omega arith) o.1);
      few_nets = omega arith;
      few_ports = b.few_ports;
      rams = AreRams-connected c.nodes k d b.rams;
    }

-- input ports
inputs_plain : (p : ℕ) (xs : List ℕ) (k : ℕ) → Plain (node_at (map (λ i. Input p i) xs) k)
inputs_plain p [] k = omega arith
inputs_plain p (x ∷ xs) zero = tt
inputs_plain p (x ∷ xs) (suc k) = inputs_plain p xs k

inputs_read : (n k p : ℕ) (xs : List ℕ) (i : ℕ) → NodeReadsWithin n k (node_at (map (λ i. Input p i) xs) i)
inputs_read n k p [] i = tt
inputs_read n k p (x ∷ xs) zero = tt
inputs_read n k p (x ∷ xs) (suc i) = inputs_read n k p xs i

output_before : (ps : List Port) (q p : Port) (j : ℕ) → slice_get (ps ++ q ∷ []) j ≡ Some p → (slice_get ps j ≡ Some p) ⊎ (Some q ≡ Some p)
output_before [] q p zero e = inr e
output_before [] q p (suc j) e = inl e
output_before (x ∷ ps) q p zero e = inl e
output_before (x ∷ ps) q p (suc j) e = output_before ps q p j e

pub length-input_nodes : (p width : ℕ) → length (input_nodes p width) ≡ width
length-input_nodes p width = length-map (range_with_len 0 width) (λ i. Input p i) ∙ length-range_with_len 0 width

pub IsBuilt-input : (c : Circuit) (name : List ℕ) (width : ℕ) (pins : List (List ℕ)) → IsBuilt c → length c.nodes + width < 2 ^ 32 → length c.ports + 1 < 2 ^ 32 → IsBuilt (with_input c name width pins)
IsBuilt-input c name width pins b nets ports =
    let p = input_count c.ports in
    let more = input_nodes p width in
    let added = length-input_nodes p width in
    let size = length-append c.nodes more in
    let shown = length_push c.ports (port.Input name width pins) in
    record {
      reads = λ k within. elim (cases_lt k (length c.nodes)) [
        | inl low ↦ subst (λ (m : Node). NodeReadsWithin (length (c.nodes ++ more)) k m) (sym (node_at-append c.nodes more k low)) (reads_longer (length c.nodes) _ k (node_at c.nodes k) (omega arith) (b.reads k low))
        | inr high ↦ subst (λ (m : Node). NodeReadsWithin (length (c.nodes ++ more)) k m) (sym (get_or-append_right c.nodes more (length c.nodes) k _ refl high)) (inputs_read _ k p (range_with_len 0 width) (k - length c.nodes))
      ];
      inputs = input_bits_of-append c.nodes more ∙ ap (λ l. input_bits_of c.nodes ++ l) (input_bits_of-inputs p (range_with_len 0 width)) ∙ ap (λ l. l ++ map (λ i. (p, i)) (range_with_len 0 width)) b.inputs ∙ sym (input_bits_from-input 0 c.ports name width pins ∙ ap (λ q. input_bits c.ports ++ map (λ i. (q, i)) (range_with_len 0 width)) (zero_plus p));
      outputs = λ j n w s from there. elim (output_before c.ports (port.Input name width pins) (port.Output n w s from) j there) [
        | inl old ↦ let o = b.outputs j n w s from old in (o.0, all_longer _ _ from (omega arith) o.1)
        | inr new ↦ absurd cc
      ];
      few_nets = omega arith;
      few_ports = omega arith;
      rams = AreRams-plain c.nodes more b.rams (inputs_plain p (range_with_len 0 width));
    }

pub IsBuilt-output : (c : Circuit) (name : List ℕ) (pins : List (List ℕ)) (from : List ℕ) → IsBuilt c → All (λ k. k < length c.nodes) from → length c.ports + 1 < 2 ^ 32 → IsBuilt (with_output c name pins from)
IsBuilt-output c name pins from b nets ports =
    let shown = length_push c.ports (port.Output name (min (length from) (2 ^ 32 - 1)) pins from) in
    record {
      reads = b.reads;
      inputs = b.inputs ∙ sym (input_bits_from-output 0 c.ports name _ pins from);
      outputs = λ j n w s f there. elim (output_before c.ports _ (port.Output n w s f) j there) [
        | inl old ↦ b.outputs j n w s f old
        | inr new ↦
            let width : w ≡ min (length f) (2 ^ 32 - 1) = cc in
            let same : from ≡ f = cc in
            (width, subst (λ (l : List ℕ). All (λ k. k < length c.nodes) l) same nets)
      ];
      few_nets = b.few_nets;
      few_ports = omega arith;
      rams = b.rams;
    }

-- the loops over nodes
pub popped : {X : Type 0} (xs ys zs : List X) (x : X) (n : ℕ) → zs ≡ take n xs → n ≤ length xs → zs ≡ ys ++ x ∷ [] → ys ≡ take (n - 1) xs
popped xs ys zs x n is within parts =
    let size = length_push ys x in
    let taken = length-take-le n xs within in
    let one : length ys ≡ n - 1 = omega (arith, ap length is, ap length parts) in
    sym (take_at ys (x ∷ []) (n - 1) one) ∙ ap (λ l. take (n - 1) l) (sym parts ∙ is) ∙ take-take (n - 1) n xs (omega arith)

pub input_nodes_more : (p n : ℕ) → input_nodes p (n + 1) ≡ input_nodes p n ++ Input p n ∷ []
input_nodes_more p n = map-range_with_len_more (λ i. Input p i) 0 n n (omega arith)

pub input_nodes_dropped : (xs : List Node) (p n : ℕ) → take (length (xs ++ input_nodes p n) - n) (xs ++ input_nodes p n) ≡ xs
input_nodes_dropped xs p n = take_at xs (input_nodes p n) _ (omega (arith, length-append xs (input_nodes p n), length-input_nodes p n))

pub range_more : (a n : ℕ) → range_with_len a (n + 1) ≡ range_with_len a n ++ (a + n) ∷ []
range_more a n = sym (map-id _) ∙ map-range_with_len_more (λ (x : ℕ). x) a n (a + n) refl ∙ ap (λ l. l ++ (a + n) ∷ []) (map-id _)

pub unfed_within : (xs : List Node) (k : ℕ) → IsUnfed (node_at xs k) → k < length xs
unfed_within xs k u = elim (cases_lt k (length xs)) [
  | inl low ↦ low
  | inr high ↦ absurd (subst IsUnfed (node_at_past xs k high) u)
]

pub dropped_more : {X : Type 0} (xs ys zs : List X) (last : Option X) (n : ℕ) → zs ≡ take (length xs - n) xs → MatchOption last ((zs ≡ []) × (ys ≡ [])) (λ x. zs ≡ ys ++ x ∷ []) → ys ≡ take (length xs - (n + 1)) xs
dropped_more xs ys zs None n is parts =
    let none : length xs - n ≡ 0 = let size = length-take-le (length xs - n) xs (omega arith) in omega (arith, ap length is, ap length parts.0) in
    let to : length xs - (n + 1) ≡ 0 = omega arith in
    rw to parts.1
dropped_more xs ys zs (Some x) n is parts =
    let to : (length xs - n) - 1 ≡ length xs - (n + 1) = omega arith in
    popped xs ys zs x (length xs - n) is (omega arith) parts ∙ ap (λ m. take m xs) to

pub inputs_pushed : (xs ys zs : List Node) (p n : ℕ) → ys ≡ xs ++ input_nodes p n → zs ≡ ys ++ Input p n ∷ [] → zs ≡ xs ++ input_nodes p (n + 1)
inputs_pushed xs ys zs p n before after =
    after ∙ ap (λ l. l ++ Input p n ∷ []) before ∙ append_assoc xs (input_nodes p n) _ ∙ ap (λ l. xs ++ l) (sym (input_nodes_more p n))
