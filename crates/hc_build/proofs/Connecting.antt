-- Objects that are connected one after another.
use Rattle.std.proofs.Common.{◌≡◌, ◌<◌, ◌≤◌, ℕ, zero, suc, ◌+◌, ◌-◌, ◌*◌, append_assoc, List, [], ◌∷◌, ◌++◌, length, map, take, set, get_or, Bool, true, false, Some, None, refl, sym, ap, ◌∙◌, subst, inl, inr, arith, length-append}
use Rattle.std.specs.Prelude.{All, slice_get, slice_index, slice_index_or, if◌then◌else◌}
use Rattle.std.specs.List.{range_with_len}
use Rattle.std.proofs.lemmas.Bool.{cases_lt, cases_eq}
use Rattle.std.proofs.lemmas.List.{length-map, get_or-set_same, get_or-set_other, get_or_append_left, get_or-append-add, get_or-replicate, get_or_read}
use Rattle.std.proofs.lemmas.List.FromFn.{get_or-range_with_len, get_or-map-range_with_len, length-map-range_with_len, length-range_with_len}
use Rattle.std.proofs.lemmas.Option.{slice_get_within}
use Rattle.hc_core.specs.Typed.{kinds_of}
use Rattle.hc_core.specs.declared.object.Kind.{Kind}
use Rattle.hc_core.specs.declared.object.Kind.TheVariants as kind
use Rattle.hc_core.specs.declared.object.Object.{Object}
use Rattle.hc_meaning.specs.Value.{padded, is_input}
use Rattle.hc_net.specs.Bits.{bit}
use Rattle.hc_net.specs.Circuit.{Circuit, Extends, IsUnfed, IsUndriven, node_at, reading, with_node_at}
use Rattle.hc_net.specs.Frame.{Keeps, keeps_connected, keeps_same, keeps_then}
use Rattle.hc_net.specs.declared.net.FlopName.TheVariants.{Bit}
use Rattle.hc_net.specs.declared.node.Node.{Node}
use Rattle.hc_net.specs.declared.node.Node.TheVariants.{Input, Flop, Wire, Gate, Ram}
use Rattle.hc_value.specs.Objects.{nets_of}
use Rattle.hc_value.specs.declared.objects.ObjectNets.{ObjectNets}
use Rattle.hc_control.specs.Right.{net_count}
use Rattle.hc_build.specs.Objects.{output_wire, word_flops, words_flops, object_nodes, nodes_from, nets_from}
use Rattle.hc_build.specs.Sources.{IsSourceOf, is_open, bare, is_placeholder, CanRead, ReadsFirst, CanConnect}
use Rattle.hc_build.proofs.Placing.{total, length-words, length-padded, length-object, length-nodes, length-nets, kind_at}

-- ---- the nets of a list

-- what a node reads isn't part of it bare
bare-reading : (d : ℕ) (n : Node) → bare (reading d n) ≡ bare n
bare-reading d (Input p i) = refl
bare-reading d (Flop name init x) = refl
bare-reading d (Wire rank x) = refl
bare-reading d (Gate g a b) = refl
bare-reading d (Ram rank first ram) = refl

map_bare : (nodes : List Node) (k d : ℕ) → map bare (set nodes k (reading d (node_at nodes k))) ≡ map bare nodes
map_bare [] k d = refl
map_bare (n ∷ nodes) zero d = ap (λ x. x ∷ map bare nodes) (bare-reading d n)
map_bare (n ∷ nodes) (suc k) d = ap (λ l. bare n ∷ l) (map_bare nodes k d)

pub same_size : (old new : List Node) → map bare new ≡ map bare old → length new ≡ length old
same_size old new same = sym (length-map new bare) ∙ ap length same ∙ length-map old bare

-- the next net of a list is as it was
pub reads_next : (n : ℕ) (nets from : List ℕ) (old now : Circuit) → CanRead nets from old → ReadsFirst n nets from old now → n < length from
    → node_at now.nodes (slice_index nets n) ≡ node_at old.nodes (slice_index nets n)
reads_next n nets from old now can r inside = r.others (slice_index nets n) (λ i low. can.differ i n low inside)

pub reads_size : (n : ℕ) (nets from : List ℕ) (old now : Circuit) → ReadsFirst n nets from old now → length now.nodes ≡ length old.nodes
reads_size n nets from old now r = same_size old.nodes now.nodes r.bare

-- no net yet
pub reads_none : (nets from : List ℕ) (c : Circuit) → ReadsFirst 0 nets from c c
reads_none nets from c = record {
  clock = refl;
  ports = refl;
  read = λ i low. absurd (omega (arith, low));
  others = λ j other. refl;
  bare = refl;
  keeps = keeps_same c.nodes;
}

-- one net more
pub reads_more : (n net d : ℕ) (nets from : List ℕ) (old now new : Circuit) → CanRead nets from old → ReadsFirst n nets from old now → n < length from
    → net ≡ slice_index nets n → d ≡ slice_index from n
    → new ≡ with_node_at now net (reading d (node_at now.nodes net)) → Extends now.nodes new.nodes → ReadsFirst (n + 1) nets from old new
reads_more n net d nets from old now new can r inside net_is d_is is earlier =
    let nodes : new.nodes ≡ set now.nodes net (reading d (node_at now.nodes net)) = ap (λ (c : Circuit). c.nodes) is in
    let size = reads_size n nets from old now r in
    let there = can.there n inside in
    let same : node_at now.nodes net ≡ node_at old.nodes net = subst (λ (m : ℕ). node_at now.nodes m ≡ node_at old.nodes m) (sym net_is) (reads_next n nets from old now can r inside) in
    let here : node_at new.nodes net ≡ reading d (node_at old.nodes net) =
    ap (λ l. node_at l net) nodes ∙ get_or-set_same now.nodes net _ _ (omega arith) ∙ ap (reading d) same in
    let here_is : node_at new.nodes (slice_index nets n) ≡ reading (slice_index from n) (node_at old.nodes (slice_index nets n)) =
    subst (λ (m : ℕ). node_at new.nodes m ≡ reading (slice_index from n) (node_at old.nodes m)) net_is (here ∙ ap (λ x. reading x (node_at old.nodes net)) d_is) in
    record {
      clock = ap (λ (c : Circuit). c.clock) is ∙ r.clock;
      ports = ap (λ (c : Circuit). c.ports) is ∙ r.ports;
      read = λ i low. elim (cases_eq i n) [
        | inl at ↦ subst (λ (m : ℕ). node_at new.nodes (slice_index nets m) ≡ reading (slice_index from m) (node_at old.nodes (slice_index nets m))) (sym at) here_is
        | inr other ↦
            let below : i < n = omega arith in
            let differ = can.differ i n below inside in
            ap (λ l. node_at l (slice_index nets i)) nodes ∙ get_or-set_other now.nodes net (slice_index nets i) _ _ (λ e. differ (e ∙ net_is)) ∙ r.read i below
      ];
      others = λ j other.
          ap (λ l. node_at l j) nodes ∙ get_or-set_other now.nodes net j _ _ (λ e. other n (omega arith) (sym (e ∙ net_is))) ∙ r.others j (λ i low. other i (omega arith));
      bare = ap (map bare) nodes ∙ map_bare now.nodes net d ∙ r.bare;
      keeps = keeps_then r.keeps (keeps_connected net d is earlier);
    }

-- ---- where an object stands

-- the nets before an object, and before later ones
total_next : (kinds : List Kind) (k : ℕ) (kind : Kind) → slice_get kinds k ≡ Some kind → total (take (k + 1) kinds) ≡ total (take k kinds) + net_count kind
total_next [] k kind at = absurd cc
total_next (x ∷ kinds) zero kind at = let same : x ≡ kind = cc in let e : net_count x ≡ net_count kind = ap net_count same in omega arith
total_next (x ∷ kinds) (suc k) kind at =
    let e : suc k + 1 ≡ suc (k + 1) = omega arith in
    let rest = total_next kinds k kind at in
    ap (λ n. total (take n (x ∷ kinds))) e ∙ (let s : net_count x + total (take (k + 1) kinds) ≡ net_count x + total (take k kinds) + net_count kind = omega arith in s)

total_longer : (kinds : List Kind) (m n : ℕ) → m ≤ n → total (take m kinds) ≤ total (take n kinds)
total_longer kinds zero n le = omega arith
total_longer kinds (suc m) zero le = absurd (omega arith)
total_longer [] (suc m) (suc n) le = omega arith
total_longer (x ∷ kinds) (suc m) (suc n) le = let rest = total_longer kinds m n (omega arith) in omega arith

total_whole : (kinds : List Kind) (n : ℕ) → total (take n kinds) ≤ total kinds
total_whole kinds zero = omega arith
total_whole [] (suc n) = omega arith
total_whole (x ∷ kinds) (suc n) = let rest = total_whole kinds n in omega arith

-- the nets of an object are in a row
pub nets_at : (base : ℕ) (kinds : List Kind) (k : ℕ) (kind : Kind) → slice_get kinds k ≡ Some kind
    → get_or (nets_from base kinds) k [] ≡ range_with_len (base + total (take k kinds)) (net_count kind)
nets_at base [] k kind at = absurd cc
nets_at base (x ∷ kinds) zero kind at =
    let same : x ≡ kind = cc in
    ap (λ y. range_with_len base (net_count y)) same ∙ ap (λ n. range_with_len n (net_count kind)) (let e : base ≡ base + 0 = omega arith in e)
nets_at base (x ∷ kinds) (suc k) kind at =
    nets_at (base + net_count x) kinds k kind at
    ∙ ap (λ n. range_with_len n (net_count kind)) (let e : base + net_count x + total (take k kinds) ≡ base + (net_count x + total (take k kinds)) = omega arith in e)

-- the node of a net of object k, by the object
pub record StandsAt (kinds : List Kind) (nodes : List Node) (k : ℕ) (kind : Kind) : Type 0 where
  pub number : ℕ
  pub inputs : ℕ
  pub node : (i : ℕ) → i < net_count kind → node_at nodes (total (take k kinds) + i) ≡ node_at (object_nodes number inputs kind) i

pub stands_at : (number inputs : ℕ) (kinds : List Kind) (more : List Node) (k : ℕ) (kind : Kind) → slice_get kinds k ≡ Some kind → StandsAt kinds (nodes_from number inputs kinds ++ more) k kind
stands_at number inputs [] more k kind at = absurd cc
stands_at number inputs (x ∷ kinds) more zero kind at =
    let same : x ≡ kind = cc in
    let rest : List Node = nodes_from (number + 1) (inputs + (if is_input x then 1 else 0)) kinds in
    let size : length (object_nodes number inputs x) ≡ net_count kind = length-object number inputs x ∙ ap net_count same in
    let both : length (object_nodes number inputs x ++ rest) ≡ length (object_nodes number inputs x) + length rest = length-append (object_nodes number inputs x) rest in
    record {
      number = number;
      inputs = inputs;
      node = λ i low.
          ap (λ n. node_at ((object_nodes number inputs x ++ rest) ++ more) n) (let e : 0 + i ≡ i = omega arith in e)
          ∙ get_or_append_left (object_nodes number inputs x ++ rest) more _ i (omega arith)
          ∙ get_or_append_left (object_nodes number inputs x) rest _ i (omega arith)
          ∙ ap (λ y. node_at (object_nodes number inputs y) i) same;
    }
stands_at number inputs (x ∷ kinds) more (suc k) kind at =
    let inputs' : ℕ = inputs + (if is_input x then 1 else 0) in
    let front : List Node = object_nodes number inputs x in
    let rest : List Node = nodes_from (number + 1) inputs' kinds in
    let there = stands_at (number + 1) inputs' kinds more k kind at in
    let size : length front ≡ net_count x = length-object number inputs x in
    record {
      number = there.number;
      inputs = there.inputs;
      node = λ i low.
          ap (λ l. node_at l (net_count x + total (take k kinds) + i)) (append_assoc front rest more)
          ∙ ap (λ n. node_at (front ++ (rest ++ more)) n) (let e : net_count x + total (take k kinds) + i ≡ length front + (total (take k kinds) + i) = omega arith in e)
          ∙ get_or-append-add front (rest ++ more) (total (take k kinds) + i) _
          ∙ there.node i low;
    }

-- the flip-flops of words aren't fed
words_unfed : (k from w : ℕ) (words : List ℕ) (i : ℕ) → i < length (words_flops k from w words) → IsUnfed (node_at (words_flops k from w words) i)
words_unfed k from w [] i inside = absurd (omega arith)
words_unfed k from w (x ∷ words) i inside =
    let first : List Node = word_flops k from w x in
    let rest : List Node = words_flops k (from + w) w words in
    let size : length first ≡ w = length-map-range_with_len (λ j. Flop (Bit k (from + j)) (bit x j) None) 0 w in
    let both : length (first ++ rest) ≡ length first + length rest = length-append first rest in
    elim (cases_lt i w) [
      | inl low ↦
          let at : node_at (first ++ rest) i ≡ Flop (Bit k (from + i)) (bit x i) None =
          get_or_append_left first rest _ i (omega arith) ∙ get_or-map-range_with_len (λ j. Flop (Bit k (from + j)) (bit x j) None) 0 w i i _ low (omega arith) in
          subst (λ (n : Node). IsUnfed n) (sym at) tt
      | inr high ↦
          let at : node_at (first ++ rest) i ≡ node_at rest (i - w) =
          ap (λ n. node_at (first ++ rest) n) (let e : i ≡ length first + (i - w) = omega arith in e) ∙ get_or-append-add first rest (i - w) _ in
          subst (λ (n : Node). IsUnfed n) (sym at) (words_unfed k (from + w) w words (i - w) (omega arith))
    ]

-- an object has a net for each net of its source, and each is open
source_count : (n : ℕ) (kind : Kind) (source : List ℕ) → IsSourceOf n kind source → length source ≤ net_count kind
source_count n (kind.Reg w s init) source is = let e = is.count in omega arith
source_count n (kind.Array w s m init) source is = let e = is.count in omega arith
source_count n (kind.Ram w s m init) source is = let e = ap length is in omega arith
source_count n (kind.Rom w s m init) source is = let e = ap length is in omega arith
source_count n (kind.Signal w s unset) source is = let e = ap length is in omega arith
source_count n (kind.Chan w s queue) source is = let e = ap length is in omega arith
source_count n (kind.Input w s pins) source is = let e = ap length is in omega arith
source_count n (kind.Output w s pins value) source is = let e = is.count in omega arith

none_there : (n : ℕ) (source : List ℕ) → source ≡ [] → All (λ k. k < n) source
none_there n source none = λ i d inside. let e = ap length none in absurd (omega arith)

source_there : (n : ℕ) (kind : Kind) (source : List ℕ) → IsSourceOf n kind source → All (λ k. k < n) source
source_there n (kind.Reg w s init) source is = is.there
source_there n (kind.Array w s m init) source is = is.there
source_there n (kind.Ram w s m init) source is = none_there n source is
source_there n (kind.Rom w s m init) source is = none_there n source is
source_there n (kind.Signal w s unset) source is = none_there n source is
source_there n (kind.Chan w s queue) source is = none_there n source is
source_there n (kind.Input w s pins) source is = none_there n source is
source_there n (kind.Output w s pins value) source is = is.there

-- the nodes that read are open: fed or driven by nothing
object_unfed : (k inputs n : ℕ) (kind : Kind) (source : List ℕ) (i : ℕ) → IsSourceOf n kind source → is_placeholder kind ≡ false → i < length source → IsUnfed (node_at (object_nodes k inputs kind) i)
object_unfed k inputs n (kind.Reg w s init) source i is plain inside =
    let count = is.count in
    let size : length (words_flops k 0 w (init.bits ∷ [])) ≡ 1 * w = length-words k 0 w (init.bits ∷ []) in
    words_unfed k 0 w (init.bits ∷ []) i (omega arith)
object_unfed k inputs n (kind.Array w s m init) source i is plain inside =
    let words : List ℕ = padded m (map (λ x. x.bits) init) in
    let count = is.count in
    let size : length (words_flops k 0 w words) ≡ m * w = length-words k 0 w words ∙ ap (λ q. q * w) (length-padded m (map (λ x. x.bits) init)) in
    words_unfed k 0 w words i (omega arith)
object_unfed k inputs n (kind.Ram w s m init) source i is plain inside = let e = ap length is in absurd (omega arith)
object_unfed k inputs n (kind.Rom w s m init) source i is plain inside = let e = ap length is in absurd (omega arith)
object_unfed k inputs n (kind.Signal w s unset) source i is plain inside = let e = ap length is in absurd (omega arith)
object_unfed k inputs n (kind.Chan w s queue) source i is plain inside = let e = ap length is in absurd (omega arith)
object_unfed k inputs n (kind.Input w s pins) source i is plain inside = let e = ap length is in absurd (omega arith)
object_unfed k inputs n (kind.Output w s pins value) source i is plain inside = absurd (let e : true ≡ false = plain in cc)

object_undriven : (k inputs n : ℕ) (kind : Kind) (source : List ℕ) (i : ℕ) → IsSourceOf n kind source → is_placeholder kind ≡ true → i < length source → IsUndriven (node_at (object_nodes k inputs kind) i)
object_undriven k inputs n (kind.Output w s pins value) source i is placed inside =
    let count = is.count in
    subst (λ (x : Node). IsUndriven x) (sym (get_or-replicate w i output_wire _ (omega arith))) tt
object_undriven k inputs n (kind.Reg w s init) source i is placed inside = absurd (let e : false ≡ true = placed in cc)
object_undriven k inputs n (kind.Array w s m init) source i is placed inside = absurd (let e : false ≡ true = placed in cc)
object_undriven k inputs n (kind.Ram w s m init) source i is placed inside = absurd (let e : false ≡ true = placed in cc)
object_undriven k inputs n (kind.Rom w s m init) source i is placed inside = absurd (let e : false ≡ true = placed in cc)
object_undriven k inputs n (kind.Signal w s unset) source i is placed inside = absurd (let e : false ≡ true = placed in cc)
object_undriven k inputs n (kind.Chan w s queue) source i is placed inside = absurd (let e : false ≡ true = placed in cc)
object_undriven k inputs n (kind.Input w s pins) source i is placed inside = absurd (let e : false ≡ true = placed in cc)

-- what isn't fed or driven is open
open_unfed : (n : Node) → IsUnfed n → is_open n ≡ true
open_unfed (Input p i) u = absurd u
open_unfed (Flop name init None) u = refl
open_unfed (Flop name init (Some d)) u = absurd u
open_unfed (Wire rank x) u = absurd u
open_unfed (Gate g a b) u = absurd u
open_unfed (Ram rank first ram) u = absurd u

open_undriven : (n : Node) → IsUndriven n → is_open n ≡ true
open_undriven (Input p i) u = absurd u
open_undriven (Flop name init x) u = absurd u
open_undriven (Wire rank None) u = refl
open_undriven (Wire rank (Some d)) u = absurd u
open_undriven (Gate g a b) u = absurd u
open_undriven (Ram rank first ram) u = absurd u

-- Where an object stands, and what its source is: the nets that read are in a row behind those of the objects before it,
-- and open.
pub record ObjectAt (kinds : List Kind) (at : ObjectNets) (sources : List (List ℕ)) (c : Circuit) (k : ℕ) (kind : Kind) : Type 0 where
  pub next : total (take (k + 1) kinds) ≡ total (take k kinds) + net_count kind
  pub size : total (take (k + 1) kinds) ≤ length c.nodes
  pub count : length (slice_index_or sources k []) ≤ net_count kind
  pub length_is : length (nets_of at k) ≡ net_count kind
  pub net : (i : ℕ) → i < net_count kind → slice_index (nets_of at k) i ≡ total (take k kinds) + i
  pub from : All (λ j. j < length c.nodes) (slice_index_or sources k [])
  pub unfed : is_placeholder kind ≡ false → (i : ℕ) → i < length (slice_index_or sources k []) → IsUnfed (node_at c.nodes (total (take k kinds) + i))
  pub undriven : is_placeholder kind ≡ true → (i : ℕ) → i < length (slice_index_or sources k []) → IsUndriven (node_at c.nodes (total (take k kinds) + i))

pub object_at : (kinds : List Kind) (at : ObjectNets) (sources : List (List ℕ)) (c : Circuit) (k : ℕ) (kind : Kind) → CanConnect kinds at sources c → slice_get kinds k ≡ Some kind → ObjectAt kinds at sources c k kind
object_at kinds at sources c k kind can there =
    let base : ℕ = total (take k kinds) in
    let source : List ℕ = slice_index_or sources k [] in
    let is : IsSourceOf (length c.nodes) kind source = can.each k kind there in
    let count = source_count (length c.nodes) kind source is in
    let next = total_next kinds k kind there in
    let whole = total_whole kinds (k + 1) in
    let front : length (nodes_from 0 0 kinds) ≡ total kinds = length-nodes 0 0 kinds in
    let size : length c.nodes ≡ length (nodes_from 0 0 kinds) + length can.more = ap length can.nodes ∙ length-append (nodes_from 0 0 kinds) can.more in
    let nets : nets_of at k ≡ range_with_len (0 + base) (net_count kind) = ap (λ (l : List (List ℕ)). get_or l k []) can.objects ∙ nets_at 0 kinds k kind there in
    let stands = stands_at 0 0 kinds can.more k kind there in
    let node : (i : ℕ) → i < length source → node_at (object_nodes stands.number stands.inputs kind) i ≡ node_at c.nodes (base + i) =
    λ i low. sym (ap (λ l. node_at l (base + i)) can.nodes ∙ stands.node i (omega arith)) in
    record {
      next = next;
      size = omega arith;
      count = count;
      length_is = ap length nets ∙ length-range_with_len (0 + base) (net_count kind);
      net = λ i low. ap (λ l. slice_index l i) nets ∙ get_or-range_with_len (0 + base) (net_count kind) i 0 low ∙ (let e : 0 + base + i ≡ base + i = omega arith in e);
      from = source_there (length c.nodes) kind source is;
      unfed = λ plain i low. subst (λ (n : Node). IsUnfed n) (node i low) (object_unfed stands.number stands.inputs (length c.nodes) kind source i is plain low);
      undriven = λ placed i low. subst (λ (n : Node). IsUndriven n) (node i low) (object_undriven stands.number stands.inputs (length c.nodes) kind source i is placed low);
    }

-- each net that reads is open
open_at : (kinds : List Kind) (at : ObjectNets) (sources : List (List ℕ)) (c : Circuit) (k : ℕ) (kind : Kind) (i : ℕ) → ObjectAt kinds at sources c k kind → i < length (slice_index_or sources k [])
    → is_open (node_at c.nodes (slice_index (nets_of at k) i)) ≡ true
open_at kinds at sources c k kind i o inside =
    let count = o.count in
    let net = o.net i (omega arith) in
    ap (λ n. is_open (node_at c.nodes n)) net ∙ each (is_placeholder kind) refl
  where
    each : (b : Bool) → is_placeholder kind ≡ b → is_open (node_at c.nodes (total (take k kinds) + i)) ≡ true
    each false plain = open_unfed _ (o.unfed plain i inside)
    each true placed = open_undriven _ (o.undriven placed i inside)

-- ---- one object more

-- The first k objects are connected, and the nets of the later ones are as they were.
pub record ConnectsFirst (k : ℕ) (kinds : List Kind) (at : ObjectNets) (sources : List (List ℕ)) (old new : Circuit) : Type 0 where
  pub clock : new.clock ≡ old.clock
  pub ports : new.ports ≡ old.ports
  pub read : (n i : ℕ) → n < k → i < length (slice_index_or sources n [])
      → node_at new.nodes (slice_index (nets_of at n) i) ≡ reading (slice_index (slice_index_or sources n []) i) (node_at old.nodes (slice_index (nets_of at n) i))
  pub later : (j : ℕ) → total (take k kinds) ≤ j → node_at new.nodes j ≡ node_at old.nodes j
  pub kept : (j : ℕ) → is_open (node_at old.nodes j) ≡ false → node_at new.nodes j ≡ node_at old.nodes j
  pub bare : map bare new.nodes ≡ map bare old.nodes
  pub keeps : Keeps old.nodes new.nodes

-- no object yet
pub connects_none : (kinds : List Kind) (at : ObjectNets) (sources : List (List ℕ)) (c : Circuit) → ConnectsFirst 0 kinds at sources c c
connects_none kinds at sources c = record {
  clock = refl;
  ports = refl;
  read = λ n i low inside. absurd (omega (arith, low));
  later = λ j past. refl;
  kept = λ j shut. refl;
  bare = refl;
  keeps = keeps_same c.nodes;
}

-- an object that is there has a kind
kind_of : (kinds : List Kind) (k : ℕ) → k < length kinds → (kind : Kind) × (slice_get kinds k ≡ Some kind)
kind_of [] k inside = absurd (omega arith)
kind_of (x ∷ kinds) zero inside = (x, refl)
kind_of (x ∷ kinds) (suc k) inside = kind_of kinds k (omega arith)

-- the nets of the next object can read its source
pub can_read : (kinds : List Kind) (at : ObjectNets) (sources : List (List ℕ)) (old now : Circuit) (k : ℕ) (kind : Kind) (nets source : List ℕ)
    → CanConnect kinds at sources old → ConnectsFirst k kinds at sources old now → slice_get kinds k ≡ Some kind
    → nets ≡ nets_of at k → source ≡ slice_index_or sources k [] → CanRead nets source now
can_read kinds at sources old now k kind nets source can c there nets_are source_is =
    let o = object_at kinds at sources old k kind can there in
    let same = same_size old.nodes now.nodes c.bare in
    let next = o.next in
    let size = o.size in
    let count = o.count in
    subst (λ (l : List ℕ). CanRead l source now) (sym nets_are) (subst (λ (l : List ℕ). CanRead (nets_of at k) l now) (sym source_is) (record {
      count = let long = o.length_is in omega arith;
      differ = λ i j less inside e.
          let a = o.net i (omega arith) in
          let b = o.net j (omega arith) in
          omega arith;
      there = λ i inside. let a = o.net i (omega arith) in omega arith;
      within = λ i d inside. let x = o.from i d inside in omega arith;
    }))

-- the nodes of the next object are as they were
next_node : (kinds : List Kind) (at : ObjectNets) (sources : List (List ℕ)) (old now : Circuit) (k : ℕ) (kind : Kind) (i : ℕ)
    → ObjectAt kinds at sources old k kind → ConnectsFirst k kinds at sources old now → i < length (slice_index_or sources k [])
    → node_at old.nodes (total (take k kinds) + i) ≡ node_at now.nodes (slice_index (nets_of at k) i)
next_node kinds at sources old now k kind i o c inside =
    let count = o.count in
    sym (ap (node_at now.nodes) (o.net i (omega arith)) ∙ c.later (total (take k kinds) + i) (omega arith))

-- the next object can be fed or driven
pub can_feed : (kinds : List Kind) (at : ObjectNets) (sources : List (List ℕ)) (old now : Circuit) (k : ℕ) (kind : Kind) (nets source : List ℕ)
    → CanConnect kinds at sources old → ConnectsFirst k kinds at sources old now → slice_get kinds k ≡ Some kind
    → nets ≡ nets_of at k → source ≡ slice_index_or sources k [] → is_placeholder kind ≡ false
    → (i : ℕ) → i < length source → IsUnfed (node_at now.nodes (slice_index nets i))
can_feed kinds at sources old now k kind nets source can c there nets_are source_is plain i inside =
    let o = object_at kinds at sources old k kind can there in
    let low : i < length (slice_index_or sources k []) = let e = ap length source_is in omega arith in
    subst (λ (l : List ℕ). IsUnfed (node_at now.nodes (slice_index l i))) (sym nets_are)
    (subst (λ (n : Node). IsUnfed n) (next_node kinds at sources old now k kind i o c low) (o.unfed plain i low))

pub can_drive : (kinds : List Kind) (at : ObjectNets) (sources : List (List ℕ)) (old now : Circuit) (k : ℕ) (kind : Kind) (nets source : List ℕ)
    → CanConnect kinds at sources old → ConnectsFirst k kinds at sources old now → slice_get kinds k ≡ Some kind
    → nets ≡ nets_of at k → source ≡ slice_index_or sources k [] → is_placeholder kind ≡ true
    → (i : ℕ) → i < length source → IsUndriven (node_at now.nodes (slice_index nets i))
can_drive kinds at sources old now k kind nets source can c there nets_are source_is placed i inside =
    let o = object_at kinds at sources old k kind can there in
    let low : i < length (slice_index_or sources k []) = let e = ap length source_is in omega arith in
    subst (λ (l : List ℕ). IsUndriven (node_at now.nodes (slice_index l i))) (sym nets_are)
    (subst (λ (n : Node). IsUndriven n) (next_node kinds at sources old now k kind i o c low) (o.undriven placed i low))

-- one object more, by its own nets and source
connects_next : (kinds : List Kind) (at : ObjectNets) (sources : List (List ℕ)) (old now new : Circuit) (k : ℕ) (kind : Kind)
    → CanConnect kinds at sources old → ConnectsFirst k kinds at sources old now → slice_get kinds k ≡ Some kind
    → ReadsFirst (length (slice_index_or sources k [])) (nets_of at k) (slice_index_or sources k []) now new → ConnectsFirst (k + 1) kinds at sources old new
connects_next kinds at sources old now new k kind can c there r =
    let o = object_at kinds at sources old k kind can there in
    let count = o.count in
    let next = o.next in
    record {
      clock = r.clock ∙ c.clock;
      ports = r.ports ∙ c.ports;
      read = λ n i low inside. elim (cases_eq n k) [
        | inl same ↦ subst (λ (m : ℕ). node_at new.nodes (slice_index (nets_of at m) i) ≡ reading (slice_index (slice_index_or sources m []) i) (node_at old.nodes (slice_index (nets_of at m) i))) (sym same)
            (here i (subst (λ (m : ℕ). i < length (slice_index_or sources m [])) same inside))
        | inr other ↦ before n i (omega arith) inside
      ];
      later = λ j high. r.others j (λ i low. let a = o.net i (omega arith) in λ e. omega arith) ∙ c.later j (omega arith);
      kept = λ j shut. r.others j (λ i low e. closed i low (subst (λ (m : ℕ). is_open (node_at old.nodes m) ≡ false) (sym e) shut)) ∙ c.kept j shut;
      bare = r.bare ∙ c.bare;
      keeps = keeps_then c.keeps r.keeps;
    }
  where
    own : ObjectAt kinds at sources old k kind
    own = object_at kinds at sources old k kind can there

    here : (i : ℕ) → i < length (slice_index_or sources k []) → node_at new.nodes (slice_index (nets_of at k) i) ≡ reading (slice_index (slice_index_or sources k []) i) (node_at old.nodes (slice_index (nets_of at k) i))
    here i inside =
        let count = own.count in
        let net = own.net i (omega arith) in
        r.read i inside ∙ ap (reading (slice_index (slice_index_or sources k []) i)) (c.later (slice_index (nets_of at k) i) (omega arith))

    before : (n i : ℕ) → n < k → i < length (slice_index_or sources n []) → node_at new.nodes (slice_index (nets_of at n) i) ≡ reading (slice_index (slice_index_or sources n []) i) (node_at old.nodes (slice_index (nets_of at n) i))
    before n i low inside =
        let within : k < length kinds = slice_get_within kinds k kind there in
        let first = kind_of kinds n (omega arith) in
        let p = object_at kinds at sources old n first.0 can first.1 in
        let few = p.count in
        let net = p.net i (omega arith) in
        let end = p.next in
        let apart = total_longer kinds (n + 1) k (omega arith) in
        let count = own.count in
        r.others (slice_index (nets_of at n) i) (λ j inner. let a = own.net j (omega arith) in λ e. omega arith) ∙ c.read n i low inside

    closed : (i : ℕ) → i < length (slice_index_or sources k []) → is_open (node_at old.nodes (slice_index (nets_of at k) i)) ≡ false → ⊥
    closed i inside shut = let is = open_at kinds at sources old k kind i own inside in let e : true ≡ false = sym is ∙ shut in absurd cc

-- the same by the nets and the source that the code has
pub connects_more : (kinds : List Kind) (at : ObjectNets) (sources : List (List ℕ)) (old now new : Circuit) (k : ℕ) (kind : Kind) (nets source : List ℕ)
    → CanConnect kinds at sources old → ConnectsFirst k kinds at sources old now → slice_get kinds k ≡ Some kind
    → nets ≡ nets_of at k → source ≡ slice_index_or sources k [] → ReadsFirst (length source) nets source now new → ConnectsFirst (k + 1) kinds at sources old new
connects_more kinds at sources old now new k kind nets source can c there nets_are source_is r =
    connects_next kinds at sources old now new k kind can c there
    (subst (λ (l : List ℕ). ReadsFirst (length l) (nets_of at k) l now new) source_is (subst (λ (l : List ℕ). ReadsFirst (length source) l source now new) nets_are r))

-- ---- what the code takes from its lists

-- an object's nets are there, and its kind, nets and source are those by its number
pub objects_there : (kinds : List Kind) (at : ObjectNets) (sources : List (List ℕ)) (c : Circuit) (objects : List Object) (k : ℕ) (all : List (List ℕ)) → CanConnect kinds at sources c
    → kinds ≡ kinds_of objects → k < length objects → all ≡ at.objects → k < length all
objects_there kinds at sources c objects k all can kinds_are inside same =
    let count : length all ≡ length kinds = ap length same ∙ ap length can.objects ∙ length-nets 0 kinds in
    let number : length kinds ≡ length objects = ap length kinds_are ∙ length-map objects (λ (o : Object). o.kind) in
    omega arith

pub kind_item : (objects all : List Object) (k : ℕ) (o : Object) → all ≡ objects → k < length all → o ≡ get_or all k o → slice_get (kinds_of objects) k ≡ Some o.kind
kind_item objects all k o same inside at = ap (λ l. slice_get (kinds_of l) k) (sym same) ∙ kind_at all k o inside at

pub nets_item : (kinds : List Kind) (at : ObjectNets) (sources : List (List ℕ)) (c : Circuit) (k : ℕ) (kind : Kind) (all : List (List ℕ)) (x : List ℕ) → CanConnect kinds at sources c
    → slice_get kinds k ≡ Some kind → all ≡ at.objects → x ≡ get_or all k x → x ≡ nets_of at k
nets_item kinds at sources c k kind all x can there same is =
    let inside : k < length kinds = slice_get_within kinds k kind there in
    let count : length at.objects ≡ length kinds = ap length can.objects ∙ length-nets 0 kinds in
    get_or_read at.objects k x (omega arith) (is ∙ ap (λ l. get_or l k x) same) []

pub source_item : (kinds : List Kind) (at : ObjectNets) (sources : List (List ℕ)) (c : Circuit) (k : ℕ) (kind : Kind) (all : List (List ℕ)) (x : List ℕ) → CanConnect kinds at sources c
    → slice_get kinds k ≡ Some kind → all ≡ sources → x ≡ get_or all k x → x ≡ slice_index_or sources k []
source_item kinds at sources c k kind all x can there same is =
    let inside : k < length kinds = slice_get_within kinds k kind there in
    let count = can.count in
    get_or_read sources k x (omega arith) (is ∙ ap (λ l. get_or l k x) same) []
