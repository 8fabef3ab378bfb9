-- The nodes that a RAM adds, and what its outputs show.
use Rattle.std.proofs.Common.{◌≡◌, ◌<◌, ◌≤◌, ℕ, zero, suc, ◌+◌, ◌*◌, ◌-◌, ◌^◌, List, [], ◌∷◌, ◌++◌, length, map, replicate, take, Option, Some, None, Bool, refl, ap, ap₂, sym, ◌∙◌, subst, inl, inr, arith, append_assoc, length-append, get_or}
use Rattle.std.specs.Prelude.{All}
use Rattle.std.specs.List.{range_with_len}
use Rattle.std.proofs.lemmas.List.{append-nil, get_or-append_right, get_or-replicate, length-replicate, get_or_past, get_or_default, take_at, take-take, replicate_more}
use Rattle.std.proofs.lemmas.List.FromFn.{length-range_with_len, get_or-range_with_len}
use Rattle.std.proofs.lemmas.Bool.{cases_lt}
use Rattle.hc_num.specs.Index.{index_width}
use Rattle.hc_net.specs.Ram.{address, held_at, read_bits, word_bit}
use Rattle.hc_net.specs.Run.{Trace}
use Rattle.hc_net.specs.Circuit.{Circuit, History, Does, Explains, Extends, node_at, input_bits_of, flops_of, nets_of_cells, last_rank, ram_at, ram_pins, ram_outputs, with_ram, HasAddress, AreRams, IsBuilt, NodeReadsWithin}
use Rattle.hc_net.specs.declared.ram.RamCell.{RamCell}
use Rattle.hc_net.specs.declared.node.Node.{Node}
use Rattle.hc_net.specs.declared.node.Node.TheVariants.{Wire, Ram}
use Rattle.hc_net.proofs.Lists.{input_bits_of-append, node_at-append, node_at_past}
use Rattle.hc_net.proofs.Rams.{Plain, AreRams-plain, ram_kept, few_both, behind, address_kept}
use Rattle.hc_net.proofs.Nodes.{reads_longer, all_longer, extends_append}

-- ---- the outputs behind other nodes

no_inputs : (n rank first : ℕ) → input_bits_of (replicate n (Ram rank first None)) ≡ []
no_inputs zero rank first = refl
no_inputs (suc n) rank first = no_inputs n rank first

no_flops : (n rank first : ℕ) → flops_of (replicate n (Ram rank first None)) ≡ []
no_flops zero rank first = refl
no_flops (suc n) rank first = no_flops n rank first

no_nets : (n rank first : ℕ) → nets_of_cells (replicate n (Ram rank first None)) ≡ 0
no_nets zero rank first = refl
no_nets (suc n) rank first = no_nets n rank first

module _ (ys : List Node) (rank width : ℕ) (r : RamCell) (size : r.width ≡ width) (some : 1 ≤ width) where
  abbrev outs : List Node
  outs = ram_outputs width rank (length ys) r

  length_outs : length outs ≡ width
  length_outs = omega (arith, length-replicate (width - 1) (Ram rank (length ys) None))

  -- the node of output i
  out_at : (i : ℕ) → 1 ≤ i → i < width → node_at outs i ≡ Ram rank (length ys) None
  out_at zero one within = absurd (omega (arith, one))
  out_at (suc i) one within = get_or-replicate (width - 1) i (Ram rank (length ys) None) _ (omega arith)

  all_at : (k : ℕ) → length ys ≤ k → node_at (ys ++ outs) k ≡ node_at outs (k - length ys)
  all_at k high = behind ys outs k high

  pub output_at : (i : ℕ) → 1 ≤ i → i < width → node_at (ys ++ outs) (length ys + i) ≡ Ram rank (length ys) None
  output_at i one within = all_at (length ys + i) (omega arith) ∙ ap (node_at outs) (let e : length ys + i - length ys ≡ i = omega arith in e) ∙ out_at i one within

  pub first_output : node_at (ys ++ outs) (length ys) ≡ Ram rank (length ys) (Some r)
  first_output = all_at (length ys) (omega arith) ∙ ap (node_at outs) (let e : length ys - length ys ≡ 0 = omega arith in e)

  -- a node behind the first ones is an output or isn't there
  data Out (n : Node) (i : ℕ) : Type 0 where
    out_first : i ≡ 0 → n ≡ Ram rank (length ys) (Some r) → Out n i
    out_other : 1 ≤ i → i < width → n ≡ Ram rank (length ys) None → Out n i
    out_none : n ≡ Wire 0 None → Out n i

  out_cases : (i : ℕ) → Out (node_at outs i) i
  out_cases zero = out_first refl refl
  out_cases (suc i) = elim (cases_lt (suc i) width) [
    | inl low ↦ out_other (omega arith) low (out_at (suc i) (omega arith) low)
    | inr high ↦ out_none (get_or_past outs (suc i) _ (omega (arith, length_outs)))
  ]

  behind_cases : (k : ℕ) → length ys ≤ k → Out (node_at (ys ++ outs) k) (k - length ys)
  behind_cases k high = subst (λ (n : Node). Out n (k - length ys)) (sym (all_at k high)) (out_cases (k - length ys))

  first_from : (k i q first : ℕ) (m : RamCell) (n : Node) → length ys ≤ k → k - length ys ≡ i → Out n i → n ≡ Ram q first (Some m) → (k ≡ length ys) × (q ≡ rank) × (first ≡ length ys) × (m ≡ r)
  first_from k i q first m n high at (out_first zero_is is) e = (omega arith, cc, cc, cc)
  first_from k i q first m n high at (out_other one within is) e = absurd cc
  first_from k i q first m n high at (out_none is) e = absurd cc

  other_from : (k i q first : ℕ) (n : Node) → length ys ≤ k → k - length ys ≡ i → Out n i → n ≡ Ram q first None → (length ys < k) × (k < length ys + width) × (q ≡ rank) × (first ≡ length ys)
  other_from k i q first n high at (out_first zero_is is) e = absurd cc
  other_from k i q first n high at (out_other one within is) e = (omega arith, omega arith, cc, cc)
  other_from k i q first n high at (out_none is) e = absurd cc

  rank_from : (i q : ℕ) (from : Option ℕ) (n : Node) → Out n i → n ≡ Wire q from → q ≤ last_rank
  rank_from i q from n (out_first zero_is is) e = absurd cc
  rank_from i q from n (out_other one within is) e = absurd cc
  rank_from i q from n (out_none is) e = let none : q ≡ 0 = cc in omega arith

  few_outs : length (input_bits_of outs) + length (flops_of outs) + nets_of_cells outs ≤ length outs
  few_outs = omega (arith, length_outs, ap length (no_inputs (width - 1) rank (length ys)), ap length (no_flops (width - 1) rank (length ys)), no_nets (width - 1) rank (length ys))

  pub AreRams-outputs : AreRams ys → HasAddress ys (length ys) rank r.addr → AreRams (ys ++ outs)
  AreRams-outputs old has = record {
    first = λ k q first m is. elim (cases_lt k (length ys)) [
      | inl low ↦
          let f = old.first k q first m (sym (node_at-append ys outs k low) ∙ is) in
          (f.0, f.1, address_kept ys outs k q m.addr (omega arith) f.2)
      | inr high ↦
          let f = first_from k _ q first m _ high refl (behind_cases k high) is in
          let address : HasAddress (ys ++ outs) (length ys) rank r.addr = address_kept ys outs (length ys) rank r.addr (omega arith) has in
          (f.2 ∙ sym f.0, subst (λ (x : RamCell). 1 ≤ x.width) (sym f.3) (omega arith), subst (λ (x : RamCell). HasAddress (ys ++ outs) k q x.addr) (sym f.3) (subst (λ (x : ℕ). HasAddress (ys ++ outs) k x r.addr) (sym f.1) (subst (λ (x : ℕ). HasAddress (ys ++ outs) x rank r.addr) (sym f.0) address)))
    ];
    other = λ k q first is. elim (cases_lt k (length ys)) [
      | inl low ↦
          let o = old.other k q first (sym (node_at-append ys outs k low) ∙ is) in
          (o.0, ram_kept ys outs first q first (Some o.0) o.1, o.2, o.3)
      | inr high ↦
          let o = other_from k _ q first _ high refl (behind_cases k high) is in
          let at : node_at (ys ++ outs) first ≡ Ram q first (Some r) = ap (node_at (ys ++ outs)) o.3 ∙ first_output ∙ ap (λ (x : ℕ). Ram x (length ys) (Some r)) (sym o.2) ∙ ap (λ (x : ℕ). Ram q x (Some r)) (sym o.3) in
          (r, at, (let a = o.0 in let e = o.3 in omega arith), (let a = o.1 in let e = o.3 in omega arith))
    ];
    all = λ k q first m i is one within. elim (cases_lt k (length ys)) [
      | inl low ↦ ram_kept ys outs (k + i) q k None (old.all k q first m i (sym (node_at-append ys outs k low) ∙ is) one within)
      | inr high ↦
          let f = first_from k _ q first m _ high refl (behind_cases k high) is in
          let inside : i < width = let e = ap (λ (x : RamCell). x.width) f.3 in omega arith in
          let at = output_at i one inside in
          ap (λ (x : ℕ). node_at (ys ++ outs) (x + i)) f.0 ∙ at ∙ ap (λ (x : ℕ). Ram x (length ys) None) (sym f.1) ∙ ap (λ (x : ℕ). Ram q x None) (sym f.0)
    ];
    ranks = λ k q from is. elim (cases_lt k (length ys)) [
      | inl low ↦ old.ranks k q from (sym (node_at-append ys outs k low) ∙ is)
      | inr high ↦ rank_from _ q from _ (behind_cases k high) is
    ];
    few = few_both ys outs old.few few_outs;
  }

-- ---- the pins

wires_plain : (n rank : ℕ) → rank ≤ last_rank → (k : ℕ) → Plain (node_at (replicate n (Wire rank None)) k)
wires_plain zero rank le k = omega arith
wires_plain (suc n) rank le zero = le
wires_plain (suc n) rank le (suc k) = wires_plain n rank le k

plain_both : (xs ys : List Node) → ((k : ℕ) → Plain (node_at xs k)) → ((k : ℕ) → Plain (node_at ys k)) → (k : ℕ) → Plain (node_at (xs ++ ys) k)
plain_both [] ys p q k = q k
plain_both (x ∷ xs) ys p q zero = p 0
plain_both (x ∷ xs) ys p q (suc k) = plain_both xs ys (λ j. p (suc j)) q k

pins_plain : (words width rank : ℕ) → rank ≤ last_rank → (k : ℕ) → Plain (node_at (ram_pins words width rank) k)
pins_plain words width rank le = plain_both (replicate (index_width words) (Wire rank None)) (replicate (width + 1) (Wire last_rank None)) (wires_plain (index_width words) rank le) (wires_plain (width + 1) last_rank (omega arith))

length_pins : (words width rank : ℕ) → length (ram_pins words width rank) ≡ index_width words + 1 + width
length_pins words width rank =
    omega (arith, length-append (replicate (index_width words) (Wire rank None)) (replicate (width + 1) (Wire last_rank None)), length-replicate (index_width words) (Wire rank None), length-replicate (width + 1) (Wire last_rank None))

no_pin_inputs : (n rank : ℕ) → input_bits_of (replicate n (Wire rank None)) ≡ []
no_pin_inputs zero rank = refl
no_pin_inputs (suc n) rank = no_pin_inputs n rank

pins_no_inputs : (words width rank : ℕ) → input_bits_of (ram_pins words width rank) ≡ []
pins_no_inputs words width rank = input_bits_of-append (replicate (index_width words) (Wire rank None)) (replicate (width + 1) (Wire last_rank None)) ∙ ap (λ l. l ++ input_bits_of (replicate (width + 1) (Wire last_rank None))) (no_pin_inputs (index_width words) rank) ∙ no_pin_inputs (width + 1) last_rank

all_range : (P : ℕ → Type 0) (a n : ℕ) → ((i : ℕ) → i < n → P (a + i)) → All P (range_with_len a n)
all_range P a n p i d within =
    let inside : i < n = omega (arith, length-range_with_len a n) in
    subst P (sym (get_or-range_with_len a n i d inside)) (p i inside)

-- ---- a RAM behind the nodes of a builder

module _ (c : Circuit) (object words width : ℕ) (init : List Bool) (rank : ℕ) (b : IsBuilt c) (some : 1 ≤ width) (low : rank ≤ last_rank) (room : length c.nodes + (index_width words + 1 + 2 * width) < 2 ^ 32) where
  abbrev net : ℕ
  net = length c.nodes

  abbrev pins : List Node
  pins = ram_pins words width rank

  abbrev ys : List Node
  ys = c.nodes ++ pins

  abbrev ram : RamCell
  ram = ram_at net object words width init

  length_ys : length ys ≡ net + index_width words + 1 + width
  length_ys = omega (arith, length-append c.nodes pins, length_pins words width rank)

  abbrev all : List Node
  all = ys ++ ram_outputs width rank (length ys) ram

  pub made_is : (with_ram c object words width init rank).nodes ≡ all
  made_is = ap (λ (k : ℕ). ys ++ ram_outputs width rank k ram) (sym length_ys)

  pin_at : (i : ℕ) → i < index_width words → node_at ys (net + i) ≡ Wire rank None
  pin_at i within =
      behind c.nodes pins (net + i) (omega arith) ∙ ap (node_at pins) (let e : net + i - net ≡ i = omega arith in e)
      ∙ node_at-append (replicate (index_width words) (Wire rank None)) (replicate (width + 1) (Wire last_rank None)) i (omega (arith, length-replicate (index_width words) (Wire rank None)))
      ∙ get_or-replicate (index_width words) i (Wire rank None) _ within

  has_address : HasAddress ys (length ys) rank ram.addr
  has_address = all_range (λ a. (a < length ys) × ((from : Option ℕ) × (node_at ys a ≡ Wire rank from))) net (index_width words) (λ i within. (omega (arith, length_ys), (None, pin_at i within)))

  rams : AreRams all
  rams = AreRams-outputs ys rank width ram refl some (AreRams-plain c.nodes pins b.rams (pins_plain words width rank low)) has_address

  length_all : length all ≡ net + index_width words + 1 + 2 * width
  length_all = omega (arith, length-append ys (ram_outputs width rank (length ys) ram), length_outs ys rank width ram refl some, length_ys)

  pin_reads : (n k : ℕ) (node : Node) → Plain node → node ≡ Wire rank None → NodeReadsWithin n k node
  pin_reads n k node p is = rw is tt

  wire_reads : (m n k r : ℕ) → (i : ℕ) → NodeReadsWithin n k (node_at (replicate m (Wire r None)) i)
  wire_reads zero n k r i = tt
  wire_reads (suc m) n k r zero = tt
  wire_reads (suc m) n k r (suc i) = wire_reads m n k r i

  both_read : (xs zs : List Node) (n k : ℕ) → ((i : ℕ) → NodeReadsWithin n k (node_at xs i)) → ((i : ℕ) → NodeReadsWithin n k (node_at zs i)) → (i : ℕ) → NodeReadsWithin n k (node_at (xs ++ zs) i)
  both_read [] zs n k p q i = q i
  both_read (x ∷ xs) zs n k p q zero = p 0
  both_read (x ∷ xs) zs n k p q (suc i) = both_read xs zs n k (λ j. p (suc j)) q i

  pins_read : (n k i : ℕ) → NodeReadsWithin n k (node_at pins i)
  pins_read n k = both_read (replicate (index_width words) (Wire rank None)) (replicate (width + 1) (Wire last_rank None)) n k (wire_reads (index_width words) n k rank) (wire_reads (width + 1) n k last_rank)

  ram_reads : (n k : ℕ) → length ys ≤ k → NodeReadsWithin n k (Ram rank (length ys) (Some ram))
  ram_reads n k high = (all_range (λ x. x < k) net (index_width words) (λ i within. omega (arith, length_ys)), omega (arith, length_ys), all_range (λ x. x < k) (net + index_width words + 1) width (λ i within. omega (arith, length_ys)))

  out_reads : (n k i : ℕ) (node : Node) → length ys ≤ k → k - length ys ≡ i → Out ys rank width ram refl some node i → NodeReadsWithin n k node
  out_reads n k i node high at (out_first zero_is is) = subst (λ (x : Node). NodeReadsWithin n k x) (sym is) (ram_reads n k high)
  out_reads n k i node high at (out_other one within is) = subst (λ (x : Node). NodeReadsWithin n k x) (sym is) (omega arith)
  out_reads n k i node high at (out_none is) = subst (λ (x : Node). NodeReadsWithin n k x) (sym is) tt

  reads : (k : ℕ) → k < length all → NodeReadsWithin (length all) k (node_at all k)
  reads k within = elim (cases_lt k (length ys)) [
    | inl inside ↦ subst (λ (m : Node). NodeReadsWithin (length all) k m) (sym (node_at-append ys _ k inside)) (elim (cases_lt k net) [
      | inl low ↦ subst (λ (m : Node). NodeReadsWithin (length all) k m) (sym (node_at-append c.nodes pins k low)) (reads_longer net _ k (node_at c.nodes k) (omega (arith, length_all)) (b.reads k low))
      | inr high ↦ subst (λ (m : Node). NodeReadsWithin (length all) k m) (sym (behind c.nodes pins k high)) (pins_read (length all) k (k - net))
    ])
    | inr outside ↦ out_reads (length all) k _ (node_at all k) outside refl (behind_cases ys rank width ram refl some k outside)
  ]

  inputs : input_bits_of all ≡ input_bits_of c.nodes
  inputs =
      input_bits_of-append ys (ram_outputs width rank (length ys) ram) ∙ ap (λ l. input_bits_of ys ++ l) (no_inputs (width - 1) rank (length ys)) ∙ append-nil _
      ∙ input_bits_of-append c.nodes pins ∙ ap (λ l. input_bits_of c.nodes ++ l) (pins_no_inputs words width rank) ∙ append-nil _

  pub extends_is : (nodes : List Node) → nodes ≡ all → nodes ≡ c.nodes ++ (pins ++ ram_outputs width rank (length ys) ram)
  extends_is nodes is = is ∙ append_assoc c.nodes pins (ram_outputs width rank (length ys) ram)

  pub IsBuilt-ram : IsBuilt (record { clock = c.clock; ports = c.ports; nodes = all })
  IsBuilt-ram = record {
    reads = reads;
    inputs = inputs ∙ b.inputs;
    outputs = λ j name width pins from there. let o = b.outputs j name width pins from there in (o.0, all_longer _ _ from (omega (arith, length_all)) o.1);
    few_nets = omega (arith, length_all);
    few_ports = b.few_ports;
    rams = rams;
  }

  ranges : (f g : ℕ → Bool) (a e n : ℕ) → ((i : ℕ) → i < n → f (a + i) ≡ g (e + i)) → map f (range_with_len a n) ≡ map g (range_with_len e n)
  ranges f g a e zero same = refl
  ranges f g a e (suc n) same =
      let here : f a ≡ g e = ap f (let x : a ≡ a + 0 = omega arith in x) ∙ same 0 (omega arith) ∙ ap g (let x : e + 0 ≡ e = omega arith in x) in
      let rest = ranges f g (a + 1) (e + 1) n (λ i within. ap f (let x : a + 1 + i ≡ a + suc i = omega arith in x) ∙ same (suc i) (omega arith) ∙ ap g (let x : e + suc i ≡ e + 1 + i = omega arith in x)) in
      ap (λ x. x ∷ map f (range_with_len (a + 1) n)) here ∙ ap (λ l. g e ∷ l) rest

  -- the outputs show the word at the address
  pub ram_value : (nodes : List Node) → nodes ≡ all → (trace : Trace) (h : History) → Explains nodes trace h → (t : ℕ) → map (h t) (range_with_len (net + index_width words + 1 + width) width) ≡ read_bits ram (held_at ram h t) (h t)
  ram_value nodes is trace h e t =
      let at : node_at nodes (length ys) ≡ Ram rank (length ys) (Some ram) = ap (λ (l : List Node). node_at l (length ys)) is ∙ first_output ys rank width ram refl some in
      let does : Does trace h (length ys) (Ram rank (length ys) (Some ram)) = subst (λ (n : Node). Does trace h (length ys) n) at (e.each (length ys)) in
      ranges (h t) (word_bit (held_at ram h t) ram.width (address ram (h t))) (net + index_width words + 1 + width) 0 width (λ i within. ap (λ (k : ℕ). h t (k + i)) (sym length_ys) ∙ does t i within ∙ ap (word_bit (held_at ram h t) ram.width (address ram (h t))) (let x : i ≡ 0 + i = omega arith in x))

-- ---- the loops

pub wires_pushed : (xs mid zs : List Node) (rank n : ℕ) → mid ≡ xs ++ replicate n (Wire rank None) → zs ≡ mid ++ Wire rank None ∷ [] → zs ≡ xs ++ replicate (n + 1) (Wire rank None)
wires_pushed xs mid zs rank n before after = after ∙ ap (λ l. l ++ Wire rank None ∷ []) before ∙ append_assoc xs (replicate n (Wire rank None)) _ ∙ ap (λ l. xs ++ l) (replicate_more n (Wire rank None))

pub bits_pushed : (xs mid zs : List Node) (rank first n : ℕ) → mid ≡ xs ++ replicate n (Ram rank first None) → zs ≡ mid ++ Ram rank first None ∷ [] → zs ≡ xs ++ replicate (n + 1) (Ram rank first None)
bits_pushed xs mid zs rank first n before after = after ∙ ap (λ l. l ++ Ram rank first None ∷ []) before ∙ append_assoc xs (replicate n (Ram rank first None)) _ ∙ ap (λ l. xs ++ l) (replicate_more n (Ram rank first None))

-- what stands before more nodes
pub front_of : (xs mid zs : List Node) → mid ≡ xs ++ zs → take (length xs) mid ≡ xs
front_of xs mid zs is = ap (take (length xs)) is ∙ take_at xs zs (length xs) refl

pub front_then : (xs mid zs more : List Node) → mid ≡ xs ++ more → take (length mid) zs ≡ mid → take (length xs) zs ≡ xs
front_then xs mid zs more is front =
    let size = ap length is ∙ length-append xs more in
    sym (take-take (length xs) (length mid) zs (omega arith)) ∙ ap (take (length xs)) front ∙ front_of xs mid more is

pub front_thrice : (xs a b c zs r s t : List Node) → a ≡ xs ++ r → b ≡ a ++ s → c ≡ b ++ t → take (length c) zs ≡ c → take (length xs) zs ≡ xs
front_thrice xs a b c zs r s t one two three front = front_then xs a zs r one (front_then a b zs s two (front_then b c zs t three front))

-- ---- the call, with the builder by its fields: b is what stands in it, and c is what its callers see
module _ (b c : Circuit) (object words width rank net bits again : ℕ) (init bare : List Bool) (addr d : List ℕ) (made : RamCell) (nodes : List Node)
    (same : b ≡ c) (net_is : net ≡ length b.nodes) (bits_are : bits ≡ index_width words) (again_are : again ≡ index_width words) (bare_is : bare ≡ init)
    (addr_is : addr ≡ range_with_len net again) (d_is : d ≡ range_with_len (net + bits + 1) width)
    (made_as : made ≡ record { object = object; words = words; width = width; init = bare; addr = addr; we = net + bits; d = d })
    (to : nodes ≡ b.nodes ++ ram_pins made.words made.width rank ++ ram_outputs made.width rank (net + bits + 1 + width) made) where
  net_of : net ≡ length c.nodes
  net_of = net_is ∙ ap (λ (x : Circuit). length x.nodes) same

  we_of : net + bits ≡ length c.nodes + index_width words
  we_of = ap₂ ◌+◌ net_of bits_are

  ram_of : made ≡ ram_at (length c.nodes) object words width init
  ram_of = made_as ∙ (λ i. record {
    object = object;
    words = words;
    width = width;
    init = bare_is i;
    addr = (addr_is ∙ ap₂ range_with_len net_of again_are) i;
    we = we_of i;
    d = (d_is ∙ ap (λ (k : ℕ). range_with_len (k + 1) width) we_of) i;
  })

  pub nodes_are : nodes ≡ (with_ram c object words width init rank).nodes
  nodes_are = to
      ∙ ap (λ (m : RamCell). b.nodes ++ ram_pins m.words m.width rank ++ ram_outputs m.width rank (net + bits + 1 + width) m) ram_of
      ∙ ap (λ (k : ℕ). b.nodes ++ ram_pins words width rank ++ ram_outputs width rank (k + 1 + width) (ram_at (length c.nodes) object words width init)) we_of
      ∙ ap (λ (x : Circuit). x.nodes ++ ram_pins words width rank ++ ram_outputs width rank (length c.nodes + index_width words + 1 + width) (ram_at (length c.nodes) object words width init)) same

  module _ (built : IsBuilt b) (some : 1 ≤ width) (low : rank ≤ last_rank) (room : length c.nodes + (index_width words + 1 + 2 * width) < 2 ^ 32) where
    built_c : IsBuilt c
    built_c = subst IsBuilt same built

    all_are : nodes ≡ all c object words width init rank built_c some low room
    all_are = nodes_are ∙ made_is c object words width init rank built_c some low room

    pub built_ram : IsBuilt (record { clock = b.clock; ports = b.ports; nodes = nodes })
    built_ram = subst (λ (x : Circuit). IsBuilt (record { clock = x.clock; ports = x.ports; nodes = nodes })) (sym same) (subst (λ (l : List Node). IsBuilt (record { clock = c.clock; ports = c.ports; nodes = l })) (sym all_are) (IsBuilt-ram c object words width init rank built_c some low room))

    pub extends_ram : Extends c.nodes nodes
    extends_ram = subst (λ (l : List Node). Extends c.nodes l) (sym (extends_is c object words width init rank built_c some low room nodes all_are)) (extends_append c.nodes _)

    pub value_ram : (q : List ℕ) → q ≡ range_with_len (net + bits + 1 + width) width → (trace : Trace) (h : History) → Explains nodes trace h → (t : ℕ) → map (h t) q ≡ read_bits (ram_at (length c.nodes) object words width init) (held_at (ram_at (length c.nodes) object words width init) h t) (h t)
    value_ram q q_is trace h e t = ap (map (h t)) (q_is ∙ ap (λ (k : ℕ). range_with_len (k + 1 + width) width) we_of) ∙ ram_value c object words width init rank built_c some low room nodes all_are trace h e t
