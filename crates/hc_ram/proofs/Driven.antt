-- Placeholders in a row that are driven one after another, and the pins of a RAM among them.
use Rattle.std.proofs.Common.{◌≡◌, ◌<◌, ◌≤◌, ℕ, suc, ◌+◌, ◌^◌, List, [], ◌∷◌, ◌++◌, length, map, take, drop, get_or, set, Bool, refl, ap, sym, ◌∙◌, subst, arith, inl, inr}
use Rattle.std.specs.List.{range_with_len}
use Rattle.std.proofs.lemmas.Bool.{cases_lt}
use Rattle.std.proofs.lemmas.List.{length-drop, length-map, length-set, length-take-le, take_more, take_all, get_or-map, get_or-set_other, get_or-take, get_or-drop, get_or_append_left, same_lists}
use Rattle.std.proofs.lemmas.List.FromFn.{get_or-map-range_with_len, length-map-range_with_len}
use Rattle.hc_net.specs.Run.{Trace}
use Rattle.hc_net.specs.Circuit.{Circuit, History, Explains, Extends, IsUndriven, node_at, reading, with_node_at}
use Rattle.hc_net.specs.Frame.{Keeps, keeps_same, keeps_then, keeps_connected}
use Rattle.hc_net.specs.Made.{Always}
use Rattle.hc_net.specs.MadeLemmas.{Adds-longer, Adds-room}
use Rattle.hc_net.specs.declared.node.Node.{Node}
use Rattle.hc_net.specs.declared.ram.RamWires.{RamWires}
use Rattle.hc_ram.specs.Ports.{ArePins, DrivesPins, ServesOne, pin_count, port_gates, with_driven}
use Rattle.hc_ram.specs.Sources.{MakesSources, as_pins}
use Rattle.hc_ram.proofs.Serves.{serves_as}

-- ---- one more

-- a placeholder that is driven
abbrev driven_at : Circuit → ℕ → ℕ → Circuit
driven_at c net k = with_node_at c net (reading k (node_at c.nodes net))

driven_push : (c : Circuit) (net : ℕ) (ks : List ℕ) (k : ℕ) → with_driven c net (ks ++ k ∷ []) ≡ driven_at (with_driven c net ks) (net + length ks) k
driven_push c net [] k = let same : net ≡ net + 0 = omega arith in ap (λ n. driven_at c n k) same
driven_push c net (j ∷ ks) k =
    let same : suc net + length ks ≡ net + suc (length ks) = omega arith in
    driven_push (driven_at c net j) (suc net) ks k ∙ ap (λ n. driven_at (with_driven (driven_at c net j) (suc net) ks) n k) same

-- the first i of them are driven, and the others are as they were
pub record Driven (first : ℕ) (sources : List ℕ) (i : ℕ) (old new : Circuit) : Type 0 where
  pub driven : new ≡ with_driven old first (take i sources)
  pub size : length new.nodes ≡ length old.nodes
  pub rest : (j : ℕ) → i ≤ j → node_at new.nodes (first + j) ≡ node_at old.nodes (first + j)
  pub kept : Keeps old.nodes new.nodes
  pub value : Always new.nodes (λ v. (j : ℕ) → j < i → v (first + j) ≡ v (get_or sources j 0))

pub Driven-none : (first : ℕ) (sources : List ℕ) (c : Circuit) → Driven first sources 0 c c
Driven-none first sources c = record {
  driven = refl;
  size = refl;
  rest = λ j low. refl;
  kept = keeps_same c.nodes;
  value = λ trace h e t j low. absurd (omega (arith, low));
}

pub Driven-more : (first : ℕ) (sources : List ℕ) (i net k : ℕ) (old mid new : Circuit) → i < length sources → net ≡ first + i → k ≡ get_or sources i 0
    → Driven first sources i old mid → new ≡ with_node_at mid net (reading k (node_at mid.nodes net)) → Extends mid.nodes new.nodes
    → ((trace : Trace) (h : History) → Explains new.nodes trace h → (t : ℕ) → h t net ≡ h t k)
    → Driven first sources (i + 1) old new
Driven-more first sources i net k old mid new within net_is k_is so is earlier value =
    let node = reading k (node_at mid.nodes net) in
    let nodes : new.nodes ≡ set mid.nodes net node = ap (λ (c : Circuit). c.nodes) is in
    let some : length (take i sources) ≡ i = length-take-le i sources (omega arith) in
    let at : net ≡ first + length (take i sources) = omega (arith, net_is, some) in
    let front : take (i + 1) sources ≡ take i sources ++ k ∷ [] = take_more sources i 0 within ∙ ap (λ n. take i sources ++ n ∷ []) (sym k_is) in
    let before : mid ≡ with_driven old first (take i sources) = so.driven in
    record {
      driven = is ∙ ap (λ (c : Circuit). driven_at c net k) before ∙ ap (λ n. driven_at (with_driven old first (take i sources)) n k) at
          ∙ sym (driven_push old first (take i sources) k) ∙ ap (λ (l : List ℕ). with_driven old first l) (sym front);
      size = ap (λ (l : List Node). length l) nodes ∙ length-set mid.nodes net node ∙ so.size;
      rest = λ j low.
          ap (λ (l : List Node). node_at l (first + j)) nodes ∙ get_or-set_other mid.nodes net (first + j) node _ (λ e. omega (arith, low, e, net_is)) ∙ so.rest j (omega arith);
      kept = keeps_then so.kept (keeps_connected net k is earlier);
      value = λ trace h e t j low. elim (cases_lt j i) [
        | inl below ↦ so.value trace h (earlier trace h e) t j below
        | inr past ↦
            let same : first + j ≡ net = omega (arith, low, past, net_is) in
            let number : i ≡ j = omega (arith, low, past) in
            ap (h t) same ∙ value trace h e t ∙ ap (h t) k_is ∙ ap (λ n. h t (get_or sources n 0)) number
      ];
    }

pub Driven-open : (first i net : ℕ) (sources : List ℕ) (old mid : Circuit) → i < length sources → net ≡ first + i → Driven first sources i old mid
    → ((j : ℕ) → j < length sources → IsUndriven (node_at old.nodes (first + j))) → IsUndriven (node_at mid.nodes net)
Driven-open first i net sources old mid within net_is so undriven =
    subst (λ (n : Node). IsUndriven n) (sym (so.rest i (omega arith)) ∙ ap (λ n. node_at mid.nodes n) (sym net_is)) (undriven i within)

pub Driven-all : (first i : ℕ) (sources : List ℕ) (old new : Circuit) → i ≡ length sources → Driven first sources i old new → new ≡ with_driven old first sources
Driven-all first i sources old new all so = so.driven ∙ ap (λ (l : List ℕ). with_driven old first l) (take_all i sources (omega arith))

pub Driven-bits : (first i : ℕ) (sources : List ℕ) (old new : Circuit) → i ≡ length sources → Driven first sources i old new
    → Always new.nodes (λ v. (j : ℕ) → j < length sources → v (first + j) ≡ v (get_or sources j 0))
Driven-bits first i sources old new all so = λ trace h e t j low. so.value trace h e t j (omega (arith, all, low))

-- ---- the pins of a RAM

-- a row of nets, each with the bit of the net in its place
row_bits : (v : ℕ → Bool) (start n : ℕ) (nets : List ℕ) → length nets ≡ n → ((j : ℕ) → j < n → v (start + j) ≡ v (get_or nets j 0)) → map v (range_with_len start n) ≡ map v nets
row_bits v start n nets size same =
    same_lists (map v (range_with_len start n)) (map v nets) (length-map-range_with_len v start n ∙ sym size ∙ sym (length-map nets v))
    (λ j d within.
    let low : j < n = omega (arith, within, length-map-range_with_len v start n) in
    get_or-map-range_with_len v start n j (start + j) d low refl ∙ same j low ∙ sym (get_or-map v nets j 0 d (omega arith)))

pins_hold : (v : ℕ → Bool) (ram : RamWires) (sources : List ℕ) (enables : List ℕ) (indexes : List (List ℕ)) (writes : List ℕ) (values : List (List ℕ))
    (first : ℕ) → ram.addr ≡ range_with_len first (length ram.addr) → ram.we ≡ first + length ram.addr → ram.d ≡ range_with_len (first + length ram.addr + 1) (length ram.d)
    → length sources ≡ pin_count ram → ((j : ℕ) → j < length sources → v (first + j) ≡ v (get_or sources j 0))
    → ServesOne v (as_pins (length ram.addr) sources) enables indexes writes values → ServesOne v ram enables indexes writes values
pins_hold v ram sources enables indexes writes values first addr we d count same serves =
    let a = length ram.addr in
    let w = length ram.d in
    let above : length (drop (a + 1) sources) ≡ w = length-drop (a + 1) sources ∙ omega (arith, count) in
    serves_as v ram (as_pins a sources) enables indexes writes values
    (ap (λ (l : List ℕ). map v l) addr ∙ row_bits v first a (take a sources) (length-take-le a sources (omega arith))
    (λ j low. same j (omega arith) ∙ ap v (sym (get_or-take a sources j 0 low))))
    (ap v we ∙ same a (omega arith))
    (ap (λ (l : List ℕ). map v l) d ∙ row_bits v (first + a + 1) w (drop (a + 1) sources) above
    (λ j low.
    let next : first + a + 1 + j ≡ first + (a + 1 + j) = omega arith in
    ap v next ∙ same (a + 1 + j) (omega arith) ∙ ap v (sym (get_or-drop (a + 1) sources j 0))))
    serves

pub pins_driven : (ram : RamWires) (enables : List ℕ) (indexes : List (List ℕ)) (writes : List ℕ) (values : List (List ℕ)) (sources : List ℕ) (first : ℕ) (old mid new : Circuit)
    → ArePins old.nodes ram → first + length ram.addr ≡ ram.we → MakesSources ram enables indexes writes values old mid sources
    → new ≡ with_driven mid first sources → Keeps mid.nodes new.nodes
    → Always new.nodes (λ v. (j : ℕ) → j < length sources → v (first + j) ≡ v (get_or sources j 0))
    → DrivesPins ram enables indexes writes values old new
pins_driven ram enables indexes writes values sources first old mid new pins at made driven kept value =
    let we : ram.we ≡ pins.first + length ram.addr = pins.we in
    let start : pins.first ≡ first = omega (arith, at, we) in
    record {
      mid = mid;
      sources = sources;
      adds = made.adds;
      count = made.count;
      there = made.there;
      address = made.address;
      reach = made.reach;
      driven = λ f is. let same : first ≡ f = omega (arith, at, is) in driven ∙ ap (λ n. with_driven mid n sources) same;
      kept = kept;
      value = λ trace h e t.
          pins_hold (h t) ram sources enables indexes writes values first
          (pins.addr ∙ ap (λ n. range_with_len n (length ram.addr)) start) (sym at)
          (pins.d ∙ ap (λ n. range_with_len (n + length ram.addr + 1) (length ram.d)) start)
          made.count (value trace h e t) (made.value trace h (kept.earlier trace h e) t);
    }

-- ---- what the row wants

pub row_there : (ram : RamWires) (enables : List ℕ) (indexes : List (List ℕ)) (writes : List ℕ) (values : List (List ℕ)) (sources : List ℕ) (first : ℕ) (old mid : Circuit)
    → ArePins old.nodes ram → first + length ram.addr ≡ ram.we → MakesSources ram enables indexes writes values old mid sources → first + length sources ≤ length mid.nodes
row_there ram enables indexes writes values sources first old mid pins at made =
    let we : ram.we ≡ pins.first + length ram.addr = pins.we in
    let there : pins.first + pin_count ram ≤ length old.nodes = pins.there in
    let count : length sources ≡ pin_count ram = made.count in
    let longer = Adds-longer made.adds in
    omega (arith, at, we, there, count, longer)

pub row_few : (ram : RamWires) (enables : List ℕ) (indexes : List (List ℕ)) (writes : List ℕ) (values : List (List ℕ)) (sources : List ℕ) (old mid : Circuit)
    → length old.nodes + port_gates old.nodes (length ram.addr) (length ram.d) writes < 2 ^ 32 → MakesSources ram enables indexes writes values old mid sources → length mid.nodes < 2 ^ 32
row_few ram enables indexes writes values sources old mid room made = let grown = Adds-room made.adds in omega (arith, grown, room)

pub row_open : (ram : RamWires) (enables : List ℕ) (indexes : List (List ℕ)) (writes : List ℕ) (values : List (List ℕ)) (sources : List ℕ) (first : ℕ) (old mid : Circuit)
    → ArePins old.nodes ram → first + length ram.addr ≡ ram.we → MakesSources ram enables indexes writes values old mid sources
    → (i : ℕ) → i < length sources → IsUndriven (node_at mid.nodes (first + i))
row_open ram enables indexes writes values sources first old mid pins at made i within =
    let we : ram.we ≡ pins.first + length ram.addr = pins.we in
    let there : pins.first + pin_count ram ≤ length old.nodes = pins.there in
    let count : length sources ≡ pin_count ram = made.count in
    let start : pins.first ≡ first = omega (arith, at, we) in
    let gates = made.adds.gates in
    let same : node_at mid.nodes (first + i) ≡ node_at old.nodes (first + i) =
    ap (λ (l : List Node). node_at l (first + i)) made.adds.nodes ∙ get_or_append_left old.nodes gates _ (first + i) (omega (arith, at, we, there, count, within)) in
    subst (λ (n : Node). IsUndriven n) (ap (λ n. node_at old.nodes (n + i)) start ∙ sym same) (pins.undriven i (omega (arith, count, within)))
