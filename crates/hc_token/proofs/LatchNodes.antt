-- Latches that are added and fed one after another.
use Rattle.std.proofs.Common.{◌≡◌, ◌<◌, ℕ, suc, ◌+◌, ◌-◌, List, [], ◌∷◌, ◌++◌, length, map, set, get_or, false, Some, refl, ap, sym, ◌∙◌, subst, arith, append_assoc, length-append}
use Rattle.std.specs.List.{range_with_len}
use Rattle.std.proofs.lemmas.List.{get_or_at, set_at, length-set, map-id}
use Rattle.std.proofs.lemmas.List.FromFn.{length-map-range_with_len, map-range_with_len_more, get_or-range_with_len}
use Rattle.hc_net.specs.Circuit.{Circuit, Extends, IsUnfed, node_at, reading, with_node, with_node_at}
use Rattle.hc_net.specs.declared.net.FlopName.TheVariants.{Token}
use Rattle.hc_net.specs.declared.node.Node.{Node}
use Rattle.hc_net.specs.declared.node.Node.TheVariants.{Flop}
use Rattle.hc_token.specs.Latches.{open_latch, fed_latch, open_latches, fed_latches, with_latches, StandOpen, AreOpen}

pub range_more : (a n : ℕ) → range_with_len a (n + 1) ≡ range_with_len a n ++ (a + n) ∷ []
range_more a n = sym (map-id _) ∙ map-range_with_len_more (λ (x : ℕ). x) a n (a + n) refl ∙ ap (λ l. l ++ (a + n) ∷ []) (map-id _)

-- ---- added

pub latches_size : (token i : ℕ) (old now : Circuit) → now ≡ with_latches old token i → length now.nodes ≡ length old.nodes + i
latches_size token i old now is =
    ap (λ (c : Circuit). length c.nodes) is ∙ length-append old.nodes (open_latches token i) ∙ ap (λ n. length old.nodes + n) (length-map-range_with_len (open_latch token) 0 i)

-- one latch more
pub nets_more : (nets more : List ℕ) (latch i : ℕ) (old now : Circuit) (token : ℕ) → nets ≡ range_with_len (length old.nodes) i → now ≡ with_latches old token i
    → latch ≡ length now.nodes → more ≡ nets ++ latch ∷ [] → more ≡ range_with_len (length old.nodes) (i + 1)
nets_more nets more latch i old now token nets_are now_is latch_is pushed =
    pushed ∙ ap (λ l. l ++ latch ∷ []) nets_are ∙ ap (λ k. range_with_len (length old.nodes) i ++ k ∷ []) (latch_is ∙ latches_size token i old now now_is) ∙ sym (range_more (length old.nodes) i)

pub latches_more : (token i : ℕ) (old now new : Circuit) → now ≡ with_latches old token i → new ≡ with_node now (open_latch token i) → new ≡ with_latches old token (i + 1)
latches_more token i old now new now_is new_is =
    new_is ∙ ap (λ (c : Circuit). with_node c (open_latch token i)) now_is
    ∙ ap (λ l. record { clock = old.clock; ports = old.ports; nodes = l }) (append_assoc old.nodes (open_latches token i) (open_latch token i ∷ []))
    ∙ ap (λ l. record { clock = old.clock; ports = old.ports; nodes = old.nodes ++ l }) (sym (map-range_with_len_more (open_latch token) 0 i i (omega arith)))

-- ---- fed

-- the latches from i on, of n
abbrev pub rest : ℕ → ℕ → ℕ → List Node
rest token i n = map (open_latch token) (range_with_len i (n - i))

-- the first i latches are fed
pub record FeedsTo (i : ℕ) (latches sources : List ℕ) (old now : Circuit) : Type 0 where
  pub clock : now.clock ≡ old.clock
  pub ports : now.ports ≡ old.ports
  pub size : length now.nodes ≡ length old.nodes
  pub fed : (token : ℕ) (front back : List Node) → StandOpen token front back latches old.nodes
      → now.nodes ≡ front ++ (fed_latches token sources i ++ (rest token i (length latches) ++ back))
  pub earlier : Extends old.nodes now.nodes

rest_more : (token i n : ℕ) → i < n → rest token i n ≡ open_latch token i ∷ rest token (i + 1) n
rest_more token i n within =
    let e : n - i ≡ suc (n - (i + 1)) = omega arith in
    ap (λ m. map (open_latch token) (range_with_len i m)) e

-- where the next latch stands
next_stands : (token i n : ℕ) (front back nodes : List Node) (sources : List ℕ) → i < n
    → nodes ≡ front ++ (fed_latches token sources i ++ (rest token i n ++ back))
    → nodes ≡ (front ++ fed_latches token sources i) ++ (open_latch token i ∷ (rest token (i + 1) n ++ back))
next_stands token i n front back nodes sources within is =
    is ∙ ap (λ l. front ++ (fed_latches token sources i ++ (l ++ back))) (rest_more token i n within)
    ∙ sym (append_assoc front (fed_latches token sources i) (open_latch token i ∷ (rest token (i + 1) n ++ back)))

place_size : (token i : ℕ) (front : List Node) (sources : List ℕ) → length (front ++ fed_latches token sources i) ≡ length front + i
place_size token i front sources =
    length-append front (fed_latches token sources i) ∙ ap (λ n. length front + n) (length-map-range_with_len (fed_latch token sources) 0 i)

-- the number of a latch
pub latch_place : (latches : List ℕ) (first n i d : ℕ) → latches ≡ range_with_len first n → i < n → get_or latches i d ≡ first + i
latch_place latches first n i d are within = ap (λ l. get_or l i d) are ∙ get_or-range_with_len first n i d within

pub feeds_none : (latches sources : List ℕ) (c : Circuit) → FeedsTo 0 latches sources c c
feeds_none latches sources c = record {
  clock = refl;
  ports = refl;
  size = refl;
  fed = λ token front back stand. let e : length latches ≡ length latches - 0 = omega arith in
      stand.nodes_are ∙ ap (λ n. front ++ (map (open_latch token) (range_with_len 0 n) ++ back)) e;
  earlier = λ trace h e. e;
}

-- the next latch isn't fed
pub next_unfed : (i latch : ℕ) (latches sources : List ℕ) (old now : Circuit) → AreOpen latches old.nodes → FeedsTo i latches sources old now → i < length latches
    → latch ≡ get_or latches i 0 → IsUnfed (node_at now.nodes latch)
next_unfed i latch latches sources old now unfed feeds within latch_is =
    let token = unfed.token in
    let front = unfed.front in
    let back = unfed.back in
    let place : length (front ++ fed_latches token sources i) ≡ latch = place_size token i front sources ∙ sym (latch_is ∙ latch_place latches (length front) (length latches) i 0 unfed.stand.nets within) in
    let stands = next_stands token i (length latches) front back now.nodes sources within (feeds.fed token front back unfed.stand) in
    subst IsUnfed (sym (ap (λ l. node_at l latch) stands ∙ get_or_at (front ++ fed_latches token sources i) (open_latch token i) (rest token (i + 1) (length latches) ++ back) _ latch place)) tt

-- one latch more
pub feeds_more : (i latch source : ℕ) (latches sources : List ℕ) (old now new : Circuit) → FeedsTo i latches sources old now → i < length latches
    → latch ≡ get_or latches i 0 → source ≡ get_or sources i 0
    → new ≡ with_node_at now latch (reading source (node_at now.nodes latch)) → Extends now.nodes new.nodes → FeedsTo (i + 1) latches sources old new
feeds_more i latch source latches sources old now new feeds within latch_is source_is is earlier =
    record {
      clock = ap (λ (c : Circuit). c.clock) is ∙ feeds.clock;
      ports = ap (λ (c : Circuit). c.ports) is ∙ feeds.ports;
      size = ap (λ (c : Circuit). length c.nodes) is ∙ length-set now.nodes latch _ ∙ feeds.size;
      fed = λ token front back stand.
          let before : List Node = front ++ fed_latches token sources i in
          let after : List Node = rest token (i + 1) (length latches) ++ back in
          let place : length before ≡ latch = place_size token i front sources ∙ sym (latch_is ∙ latch_place latches (length front) (length latches) i 0 stand.nets within) in
          let stands : now.nodes ≡ before ++ (open_latch token i ∷ after) = next_stands token i (length latches) front back now.nodes sources within (feeds.fed token front back stand) in
          let node : reading source (node_at now.nodes latch) ≡ fed_latch token sources i =
          ap (reading source) (ap (λ l. node_at l latch) stands ∙ get_or_at before (open_latch token i) after _ latch place)
          ∙ ap (λ d. Flop (Token (token + i)) false (Some d)) source_is in
          ap (λ (c : Circuit). c.nodes) is
          ∙ ap (λ n. set now.nodes latch n) node
          ∙ ap (λ l. set l latch (fed_latch token sources i)) stands
          ∙ set_at before (open_latch token i) after (fed_latch token sources i) latch place
          ∙ append_assoc front (fed_latches token sources i) (fed_latch token sources i ∷ after)
          ∙ ap (λ l. front ++ l) (sym (append_assoc (fed_latches token sources i) (fed_latch token sources i ∷ []) after))
          ∙ ap (λ l. front ++ (l ++ after)) (sym (map-range_with_len_more (fed_latch token sources) 0 i i (omega arith)));
      earlier = λ trace h e. feeds.earlier trace h (earlier trace h e);
    }

pub feeds_all : (i : ℕ) (latches sources : List ℕ) (old now : Circuit) → i ≡ length latches → FeedsTo i latches sources old now
    → (token : ℕ) (front back : List Node) → StandOpen token front back latches old.nodes → now.nodes ≡ front ++ (fed_latches token sources (length latches) ++ back)
feeds_all i latches sources old now end feeds token front back stand =
    let none : length latches - i ≡ 0 = omega arith in
    feeds.fed token front back stand
    ∙ ap (λ n. front ++ (fed_latches token sources i ++ (map (open_latch token) (range_with_len i n) ++ back))) none
    ∙ ap (λ n. front ++ (fed_latches token sources n ++ back)) end
