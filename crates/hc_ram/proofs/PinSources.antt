-- The sources of a RAM's pins, from the circuits of their parts.
use Rattle.std.proofs.Common.{◌≡◌, ◌<◌, ◌≤◌, ℕ, ◌+◌, ◌*◌, ◌^◌, List, [], ◌++◌, length, map, Bool, true, false, Some, ap, sym, ◌∙◌, subst, arith, length-append}
use Rattle.std.specs.Prelude.{All, replicate}
use Rattle.std.specs.List.{range_with_len}
use Rattle.std.proofs.lemmas.List.{get_or_append_left, get_or-map, length-map, length-replicate}
use Rattle.std.proofs.lemmas.List.Elements.{All-append, All-nil, All-replicate}
use Rattle.std.proofs.lemmas.List.FromFn.{fill_by_all}
use Rattle.hc_net.specs.Run.{Trace}
use Rattle.hc_net.specs.Circuit.{Circuit, History, Explains, Does, constant_at, node_at, with_node}
use Rattle.hc_net.specs.Made.{Over, Adds, Makes}
use Rattle.hc_net.specs.MadeLemmas.{Adds-most, Adds-then, Adds-extends, Adds-there, Adds-over, Adds-longer, Adds-room, Over-left, Over-over, Makes-as, Makes-gate, Makes-holds}
use Rattle.hc_net.specs.declared.gate.GateKind.TheVariants as kind
use Rattle.hc_net.specs.declared.node.Node.{Node}
use Rattle.hc_net.specs.declared.node.Node.TheVariants.{Input, Flop, Wire, Gate, Ram}
use Rattle.hc_net.specs.declared.ram.RamWires.{RamWires}
use Rattle.hc_bits.proofs.Parts.{Over-right, Makes-wider}
use Rattle.hc_ram.specs.Enabled.{IsList, AreLists, all_nets, any_enabled}
use Rattle.hc_ram.specs.Ports.{port_gates, pin_count}
use Rattle.hc_ram.specs.Sources.{MakesSources, writing, write_words}
use Rattle.hc_ram.proofs.Serves.{row_serves, none_enabled}
use Rattle.hc_ram.proofs.Writing.{All-writing, writing_length, words_length, words_lists, words_nets, gates_sum}

-- ---- constants

-- a net with a constant 0 is 0
does_zero : (trace : Trace) (h : History) (k : ℕ) (node : Node) → Does trace h k node → constant_at node ≡ Some false → (t : ℕ) → h t k ≡ false
does_zero trace h k (Input p i) does is t = absurd cc
does_zero trace h k (Flop name init d) does is t = absurd cc
does_zero trace h k (Wire rank from) does is t = absurd cc
does_zero trace h k (Gate kind.Zero x y) does is t = does t
does_zero trace h k (Gate kind.One x y) does is t = absurd cc
does_zero trace h k (Gate kind.Not x y) does is t = absurd cc
does_zero trace h k (Gate kind.And x y) does is t = absurd cc
does_zero trace h k (Gate kind.Or x y) does is t = absurd cc
does_zero trace h k (Gate kind.Xor x y) does is t = absurd cc
does_zero trace h k (Ram rank first ram) does is t = absurd cc

-- ---- one gate for all

pub zeros_made : (c d : Circuit) (net count : ℕ) (nets : List ℕ) → net ≡ length c.nodes → d ≡ with_node c (Gate kind.Zero 0 0) → nets ≡ replicate count net
    → Makes 1 [] c d nets (λ v. All (λ k. v k ≡ false) nets)
zeros_made c d net count nets net_is is nets_are =
    let gate = Makes-gate [] c d kind.Zero 0 0 net net_is is tt in
    subst (λ (l : List ℕ). Makes 1 [] c d l (λ v. All (λ k. v k ≡ false) l)) (sym nets_are)
    (Makes-as gate (omega arith)
    (All-replicate (λ k. k < length d.nodes) count net (gate.there 0 0 (omega arith)))
    (All-replicate (Over d.nodes []) count net (gate.reach 0 0 (omega arith)))
    (λ v off. All-replicate (λ k. v k ≡ false) count net off))

pub zeros_width : (count net : ℕ) (nets : List ℕ) → nets ≡ replicate count net → length nets ≡ count
zeros_width count net nets is = ap (λ (l : List ℕ). length l) is ∙ length-replicate count net

-- ---- no use

pub sources_none : (ram : RamWires) (n : ℕ) (enables writes z : List ℕ) (indexes values : List (List ℕ)) (old new : Circuit) → length enables ≡ 0 → n ≡ length ram.addr + 1 + length ram.d → length z ≡ n
    → Makes 1 [] old new z (λ v. All (λ k. v k ≡ false) z) → MakesSources ram enables indexes writes values old new z
sources_none ram n enables writes z indexes values old new none whole width made = let size : length z ≡ pin_count ram = width ∙ whole in record {
  adds = Adds-most (omega arith) made.adds;
  count = size;
  there = made.there;
  address = λ i within. Over-over (All-nil (Over new.nodes (enables ++ all_nets indexes))) (made.reach i 0 (omega (arith, size, within)));
  reach = λ i d within. Over-over (All-nil (Over new.nodes (enables ++ (all_nets indexes ++ (writes ++ all_nets values))))) (made.reach i d within);
  value = λ trace h e t. record {
    idle = λ off. made.value trace h e t (length ram.addr) 0 (omega (arith, size));
    index = λ i one. absurd (let within = one.within in omega (arith, none));
    write = λ i one. absurd (let within = one.within in omega (arith, none));
    value = λ i one on. absurd (let within = one.within in omega (arith, none));
  };
}

-- no use may write
pub written_none : (width : ℕ) (ons z : List ℕ) (words : List (List ℕ)) (old new : Circuit) → length ons ≡ 0 → length z ≡ width
    → Makes 1 [] old new z (λ v. All (λ k. v k ≡ false) z)
    → Makes (1 + width * (2 * length ons)) (ons ++ all_nets words) old new z (λ v. map v z ≡ map (any_enabled v ons words) (range_with_len 0 width))
written_none width ons z words old new none size made =
    Makes-holds (Makes-wider made (All-nil (Over new.nodes (ons ++ all_nets words)))) (omega arith)
    (λ v off. fill_by_all (any_enabled v ons words) (map v z) width true (length-map z v ∙ size)
    (λ k within. get_or-map v z k 0 true (omega (arith, size, within)) ∙ off k 0 (omega (arith, size, within)) ∙ sym (none_enabled v ons words k (λ i d low. absurd (omega (arith, low, none))))))

-- some may
pub written_some : (width : ℕ) (ons z : List ℕ) (slice words : List (List ℕ)) (old new : Circuit) → slice ≡ words
    → Makes (width * (2 * length ons)) (ons ++ all_nets slice) old new z (λ v. map v z ≡ map (any_enabled v ons slice) (range_with_len 0 width))
    → Makes (1 + width * (2 * length ons)) (ons ++ all_nets words) old new z (λ v. map v z ≡ map (any_enabled v ons words) (range_with_len 0 width))
written_some width ons z slice words old new same made =
    let own = subst (λ (l : List (List ℕ)). Makes (width * (2 * length ons)) (ons ++ all_nets l) old new z (λ v. map v z ≡ map (any_enabled v ons l) (range_with_len 0 width))) same made in
    Makes-holds own (omega arith) (λ v is. is)

-- ---- the uses that may write, among more nodes

pub writers_there : {most : ℕ} (enables writes ons : List ℕ) (old mid : Circuit) → All (λ k. k < length old.nodes) enables → ons ≡ writing old.nodes writes enables → Adds most old mid
    → All (λ k. k < length mid.nodes) ons
writers_there enables writes ons old mid there is adds =
    subst (λ (l : List ℕ). All (λ k. k < length mid.nodes) l) (sym is)
    (Adds-there (writing old.nodes writes enables) adds (All-writing (λ k. k < length old.nodes) old.nodes writes enables there))

lists_stay : (m n width : ℕ) (lists : List (List ℕ)) → m ≤ n → AreLists m width lists → AreLists n width lists
lists_stay m n width lists le all j d at = record {
  width = (all j d at).width;
  there = λ k e within. let there = (all j d at).there k e within in omega (arith, le, there);
}

pub writers_words : {most : ℕ} (w m : ℕ) (writes : List ℕ) (values words : List (List ℕ)) (old mid : Circuit) → All (λ k. k < length old.nodes) writes → AreLists (length old.nodes) w values
    → m ≡ w → words ≡ writing old.nodes writes (write_words writes values) → Adds most old mid → AreLists (length mid.nodes) (m + 1) words
writers_words w m writes values words old mid there all width is adds =
    subst (λ k. AreLists (length mid.nodes) (k + 1) words) (sym width)
    (subst (λ (l : List (List ℕ)). AreLists (length mid.nodes) (w + 1) l) (sym is)
    (lists_stay (length old.nodes) (length mid.nodes) (w + 1) (writing old.nodes writes (write_words writes values)) (Adds-longer adds)
    (All-writing (IsList (length old.nodes) (w + 1)) old.nodes writes (write_words writes values) (words_lists (length old.nodes) w writes values there all))))

pub writers_same : (enables writes ons : List ℕ) (values words : List (List ℕ)) (nodes : List Node) → length writes ≡ length enables → length values ≡ length enables
    → ons ≡ writing nodes writes enables → words ≡ writing nodes writes (write_words writes values) → length words ≡ length ons
writers_same enables writes ons values words nodes of_write of_value ons_are words_are =
    ap (λ (l : List (List ℕ)). length l) words_are
    ∙ writing_length nodes writes (write_words writes values) enables (words_length writes values (of_value ∙ sym of_write)) (sym of_write)
    ∙ ap (λ (l : List ℕ). length l) (sym ons_are)

-- ---- some use

pub sources_made : (ram : RamWires) (n m : ℕ) (enables writes address word ons sources : List ℕ) (indexes values words : List (List ℕ)) (old mid new : Circuit)
    → length indexes ≡ length enables → length writes ≡ length enables → length values ≡ length enables
    → AreLists (length old.nodes) (length ram.addr) indexes → AreLists (length old.nodes) (length ram.d) values
    → n ≡ length ram.addr → m ≡ length ram.d → length address ≡ n → length word ≡ m + 1 → sources ≡ address ++ word
    → ons ≡ writing old.nodes writes enables → words ≡ writing old.nodes writes (write_words writes values)
    → Makes (n * (2 * length enables)) (enables ++ all_nets indexes) old mid address (λ v. map v address ≡ map (any_enabled v enables indexes) (range_with_len 0 n))
    → Makes (1 + (m + 1) * (2 * length ons)) (ons ++ all_nets words) mid new word (λ v. map v word ≡ map (any_enabled v ons words) (range_with_len 0 (m + 1)))
    → MakesSources ram enables indexes writes values old new sources
sources_made ram n m enables writes address word ons sources indexes values words old mid new of_index of_write of_value index_lists value_lists n_is m_is of_n of_m joined ons_are words_are by_n by_m =
    let a = length ram.addr in
    let w = length ram.d in
    let args = enables ++ (all_nets indexes ++ (writes ++ all_nets values)) in
    let P = Over new.nodes args in
    let ours = writing old.nodes writes enables in
    let own = writing old.nodes writes (write_words writes values) in
    let width : length address ≡ a = of_n ∙ n_is in
    let size : length word ≡ w + 1 = of_m ∙ ap (λ k. k + 1) m_is in
    let first = subst (λ k. Makes (k * (2 * length enables)) (enables ++ all_nets indexes) old mid address (λ v. map v address ≡ map (any_enabled v enables indexes) (range_with_len 0 k))) n_is by_n in
    let second = subst (λ k. Makes (1 + (k + 1) * (2 * length ons)) (ons ++ all_nets words) mid new word (λ v. map v word ≡ map (any_enabled v ons words) (range_with_len 0 (k + 1)))) m_is by_m in
    let at_ons = subst (λ (l : List ℕ). Makes (1 + (w + 1) * (2 * length l)) (l ++ all_nets words) mid new word (λ v. map v word ≡ map (any_enabled v l words) (range_with_len 0 (w + 1)))) ons_are second in
    let last = subst (λ (l : List (List ℕ)). Makes (1 + (w + 1) * (2 * length ours)) (ours ++ all_nets l) mid new word (λ v. map v word ≡ map (any_enabled v ours l) (range_with_len 0 (w + 1)))) words_are at_ons in
    let gates = gates_sum old.nodes a w writes enables (sym of_write) in
    let uses : a * (2 * length writes) ≡ a * (2 * length enables) = ap (λ n. a * (2 * n)) of_write in
    let of_enables : All P enables = Over-left enables (all_nets indexes ++ (writes ++ all_nets values)) in
    let rest : All P (all_nets indexes ++ (writes ++ all_nets values)) = Over-right enables (all_nets indexes ++ (writes ++ all_nets values)) in
    let of_indexes : All P (all_nets indexes) = λ i d at. Over-over rest (Over-left (all_nets indexes) (writes ++ all_nets values) i d at) in
    let behind : All P (writes ++ all_nets values) = λ i d at. Over-over rest (Over-right (all_nets indexes) (writes ++ all_nets values) i d at) in
    let of_writes : All P writes = λ i d at. Over-over behind (Over-left writes (all_nets values) i d at) in
    let of_values : All P (all_nets values) = λ i d at. Over-over behind (Over-right writes (all_nets values) i d at) in
    let near = Adds-over address last.adds first.reach in
    subst (λ (l : List ℕ). MakesSources ram enables indexes writes values old new l) (sym joined) (record {
      adds = Adds-most (omega (arith, gates, uses)) (Adds-then first.adds last.adds);
      count = length-append address word ∙ omega (arith, width, size);
      there = All-append (λ k. k < length new.nodes) address word (Adds-there address last.adds first.there) last.there;
      address = λ i within.
          subst (Over new.nodes (enables ++ all_nets indexes)) (sym (get_or_append_left address word 0 i (omega (arith, within, width)))) (near i 0 (omega (arith, within, width)));
      reach = All-append P address word
          (λ i d at. Over-over (All-append P enables (all_nets indexes) of_enables of_indexes) (near i d at))
          (λ i d at. Over-over (All-append P ours (all_nets own) (All-writing P old.nodes writes enables of_enables) (words_nets P old.nodes writes values of_writes of_values)) (last.reach i d at));
      value = λ trace h e t.
          let before : Explains mid.nodes trace h = Adds-extends last.adds trace h e in
          let start : Explains old.nodes trace h = Adds-extends first.adds trace h before in
          row_serves (h t) old.nodes (length old.nodes) a w enables writes address word indexes values
          (λ j is. does_zero trace h j (node_at old.nodes j) (start.each j) is t)
          of_index of_write of_value index_lists value_lists width size (first.value trace h before t) (last.value trace h e t);
    })

-- ---- room

pub address_room : (a w n : ℕ) (nodes : List Node) (enables writes : List ℕ) → n ≡ a → length writes ≡ length enables → length nodes + port_gates nodes a w writes < 2 ^ 32
    → length nodes + n * (2 * length enables) < 2 ^ 32
address_room a w n nodes enables writes is same room =
    let gates = gates_sum nodes a w writes enables (sym same) in
    let uses : a * (2 * length writes) ≡ n * (2 * length enables) = ap (λ k. a * (2 * k)) same ∙ ap (λ k. k * (2 * length enables)) (sym is) in
    omega (arith, gates, uses, room)

pub word_room : (a w n m : ℕ) (enables writes ons address : List ℕ) (indexes : List (List ℕ)) (old mid : Circuit) {holds : (ℕ → Bool) → Type 0} → n ≡ a → m ≡ w
    → length writes ≡ length enables → length old.nodes + port_gates old.nodes a w writes < 2 ^ 32 → ons ≡ writing old.nodes writes enables
    → Makes (n * (2 * length enables)) (enables ++ all_nets indexes) old mid address holds
    → length mid.nodes + (1 + (m + 1) * (2 * length ons)) < 2 ^ 32
word_room a w n m enables writes ons address indexes old mid n_is m_is same room is made =
    let gates = gates_sum old.nodes a w writes enables (sym same) in
    let uses : a * (2 * length writes) ≡ n * (2 * length enables) = ap (λ k. a * (2 * k)) same ∙ ap (λ k. k * (2 * length enables)) (sym n_is) in
    let few : (w + 1) * (2 * length (writing old.nodes writes enables)) ≡ (m + 1) * (2 * length ons) =
    ap (λ k. (k + 1) * (2 * length (writing old.nodes writes enables))) (sym m_is) ∙ ap (λ (l : List ℕ). (m + 1) * (2 * length l)) (sym is) in
    let grown = Adds-room made.adds in
    omega (arith, gates, uses, grown, few, room)
