-- The nodes of the objects, one object behind another: how many there are, and which node stands at each net.
use Rattle.std.proofs.Common.{◌≡◌, ◌<◌, ◌≤◌, ℕ, zero, suc, ◌+◌, ◌-◌, ◌*◌, List, [], ◌∷◌, ◌++◌, length, map, Some, None, refl, sym, ap, ◌∙◌, ⊎_elim, arith, append_assoc, length-append}
use Rattle.std.specs.Prelude.{slice_get, slice_index, slice_index_or, All, if◌then◌else◌}
use Rattle.std.specs.List.{range_with_len, sum_by}
use Rattle.std.proofs.lemmas.Bool.{cases_lt}
use Rattle.std.proofs.lemmas.List.{get_or_append_left, get_or-append-add}
use Rattle.std.proofs.lemmas.List.Elements.{All-nil, All-append}
use Rattle.std.proofs.lemmas.List.Sums.{sum_by-cons}
use Rattle.std.proofs.lemmas.List.FromFn.{get_or-range_with_len, get_or-map-range_with_len, length-map-range_with_len}
use Rattle.hc_core.specs.Typed.{kind_width}
use Rattle.hc_core.specs.declared.object.Kind.{Kind}
use Rattle.hc_core.specs.declared.object.Kind.TheVariants as kind
use Rattle.hc_meaning.specs.Clock.{register_cells}
use Rattle.hc_meaning.specs.Value.{bits_of, first_words, is_input, inputs_before}
use Rattle.hc_net.specs.Bits.{bit}
use Rattle.hc_net.specs.Circuit.{IsUnfed, node_at}
use Rattle.hc_net.specs.declared.net.FlopName.TheVariants.{Bit}
use Rattle.hc_net.specs.declared.node.Node.{Node}
use Rattle.hc_net.specs.declared.node.Node.TheVariants.{Flop, Wire}
use Rattle.hc_control.specs.Right.{net_count}
use Rattle.hc_build.specs.Objects.{word_flops, words_flops, object_nodes, nodes_from, nets_from}
use Rattle.hc_build.proofs.Placing.{length-padded, length-object}

-- ---- how many there are

length-word_flops : (k from w bits : ℕ) → length (word_flops k from w bits) ≡ w
length-word_flops k from w bits = length-map-range_with_len (λ i. Flop (Bit k (from + i)) (bit bits i) None) 0 w

pub length-nodes_from : (k inputs : ℕ) (kinds : List Kind) → length (nodes_from k inputs kinds) ≡ sum_by net_count kinds
length-nodes_from k inputs [] = refl
length-nodes_from k inputs (x ∷ kinds) =
    let next : ℕ = inputs + (if is_input x then 1 else 0) in
    length-append (object_nodes k inputs x) (nodes_from (k + 1) next kinds)
    ∙ ap (λ n. n + length (nodes_from (k + 1) next kinds)) (length-object k inputs x)
    ∙ ap (λ n. net_count x + n) (length-nodes_from (k + 1) next kinds)
    ∙ sym (sum_by-cons net_count x kinds)

-- ---- the nets of each object

-- how many nets stand before those of object k
abbrev pub base_of : List Kind → ℕ → ℕ
base_of [] k = 0
base_of (x ∷ kinds) zero = 0
base_of (x ∷ kinds) (suc k) = net_count x + base_of kinds k

nets_behind : (base : ℕ) (kinds : List Kind) (k : ℕ) (x : Kind) → slice_get kinds k ≡ Some x
    → slice_index_or (nets_from base kinds) k [] ≡ range_with_len (base + base_of kinds k) (net_count x)
nets_behind base [] k x is = absurd cc
nets_behind base (y ∷ kinds) zero x is =
    let same : y ≡ x = cc in
    ap (λ b. range_with_len b (net_count y)) (let e : base ≡ base + 0 = omega arith in e) ∙ ap (λ (z : Kind). range_with_len (base + 0) (net_count z)) same
nets_behind base (y ∷ kinds) (suc k) x is =
    nets_behind (base + net_count y) kinds k x is
    ∙ ap (λ b. range_with_len b (net_count x)) (let e : base + net_count y + base_of kinds k ≡ base + (net_count y + base_of kinds k) = omega arith in e)

pub nets_are : (kinds : List Kind) (k : ℕ) (x : Kind) → slice_get kinds k ≡ Some x → slice_index_or (nets_from 0 kinds) k [] ≡ range_with_len (base_of kinds k) (net_count x)
nets_are kinds k x is = nets_behind 0 kinds k x is ∙ ap (λ b. range_with_len b (net_count x)) (let e : 0 + base_of kinds k ≡ base_of kinds k = omega arith in e)

pub net_is : (kinds : List Kind) (k i : ℕ) (x : Kind) → slice_get kinds k ≡ Some x → i < net_count x → slice_index (slice_index_or (nets_from 0 kinds) k []) i ≡ base_of kinds k + i
net_is kinds k i x is low = ap (λ (l : List ℕ). slice_index l i) (nets_are kinds k x is) ∙ get_or-range_with_len (base_of kinds k) (net_count x) i 0 low

-- the nets of an object are among those of all objects
pub base_within : (kinds : List Kind) (k : ℕ) (x : Kind) → slice_get kinds k ≡ Some x → base_of kinds k + net_count x ≤ sum_by net_count kinds
base_within [] k x is = absurd cc
base_within (y ∷ kinds) zero x is =
    let same : net_count y ≡ net_count x = (let e : y ≡ x = cc in ap net_count e) in
    omega (arith, sum_by-cons net_count y kinds)
base_within (y ∷ kinds) (suc k) x is =
    let rest = base_within kinds k x is in
    omega (arith, sum_by-cons net_count y kinds)

-- a net is one of an object
pub record Stands (kinds : List Kind) (j : ℕ) : Type 0 where
  pub object : ℕ
  pub kind_of : Kind
  pub place : ℕ
  pub is : slice_get kinds object ≡ Some kind_of
  pub within : place < net_count kind_of
  pub net : j ≡ base_of kinds object + place

pub stands : (kinds : List Kind) (j : ℕ) → j < sum_by net_count kinds → Stands kinds j
stands [] j low = absurd (omega arith)
stands (x ∷ kinds) j low = ⊎_elim
    (λ here. record { object = 0; kind_of = x; place = j; is = refl; within = here; net = omega arith })
    (λ past.
    let behind : j - net_count x < sum_by net_count kinds = omega (arith, sum_by-cons net_count x kinds) in
    let s = stands kinds (j - net_count x) behind in
    let at = s.net in
    record { object = suc s.object; kind_of = s.kind_of; place = s.place; is = s.is; within = s.within; net = omega arith })
    (cases_lt j (net_count x))

-- ---- the node at each net

node_behind : (kinds : List Kind) (first inputs : ℕ) (more : List Node) (k i : ℕ) (x : Kind) → slice_get kinds k ≡ Some x → i < net_count x
    → node_at (nodes_from first inputs kinds ++ more) (base_of kinds k + i) ≡ node_at (object_nodes (first + k) (inputs + inputs_before kinds k) x) i
node_behind [] first inputs more k i x is low = absurd cc
node_behind (y ∷ kinds) first inputs more zero i x is low =
    let same : y ≡ x = cc in
    let own : List Node = object_nodes first inputs y in
    let others : List Node = nodes_from (first + 1) (inputs + (if is_input y then 1 else 0)) kinds in
    let size = length-object first inputs y in
    let few : i < net_count y = rw same low in
    ap (λ l. node_at l (0 + i)) (append_assoc own others more)
    ∙ ap (node_at (own ++ (others ++ more))) (let e : 0 + i ≡ i = omega arith in e)
    ∙ get_or_append_left own (others ++ more) (Wire 0 None) i (omega arith)
    ∙ ap (λ (z : Kind). node_at (object_nodes first inputs z) i) same
    ∙ ap (λ n. node_at (object_nodes n inputs x) i) (let e : first ≡ first + 0 = omega arith in e)
    ∙ ap (λ n. node_at (object_nodes (first + 0) n x) i) (let e : inputs ≡ inputs + 0 = omega arith in e)
node_behind (y ∷ kinds) first inputs more (suc k) i x is low =
    let own : List Node = object_nodes first inputs y in
    let step : ℕ = if is_input y then 1 else 0 in
    let others : List Node = nodes_from (first + 1) (inputs + step) kinds in
    let size = length-object first inputs y in
    ap (λ l. node_at l (net_count y + base_of kinds k + i)) (append_assoc own others more)
    ∙ ap (node_at (own ++ (others ++ more))) (let e : net_count y + base_of kinds k + i ≡ length own + (base_of kinds k + i) = omega arith in e)
    ∙ get_or-append-add own (others ++ more) (base_of kinds k + i) (Wire 0 None)
    ∙ node_behind kinds (first + 1) (inputs + step) more k i x is low
    ∙ ap (λ n. node_at (object_nodes n (inputs + step + inputs_before kinds k) x) i) (let e : first + 1 + k ≡ first + suc k = omega arith in e)
    ∙ ap (λ n. node_at (object_nodes (first + suc k) n x) i) (let e : inputs + step + inputs_before kinds k ≡ inputs + (step + inputs_before kinds k) = omega arith in e)

pub node_is : (kinds : List Kind) (more : List Node) (k i : ℕ) (x : Kind) → slice_get kinds k ≡ Some x → i < net_count x
    → node_at (nodes_from 0 0 kinds ++ more) (base_of kinds k + i) ≡ node_at (object_nodes k (inputs_before kinds k) x) i
node_is kinds more k i x is low =
    node_behind kinds 0 0 more k i x is low
    ∙ ap (λ n. node_at (object_nodes n (0 + inputs_before kinds k) x) i) (let e : 0 + k ≡ k = omega arith in e)
    ∙ ap (λ n. node_at (object_nodes k n x) i) (let e : 0 + inputs_before kinds k ≡ inputs_before kinds k = omega arith in e)

-- bit i of element e
pub word_node : (k from w : ℕ) (numbers : List ℕ) (e i : ℕ) → e < length numbers → i < w
    → node_at (words_flops k from w numbers) (e * w + i) ≡ Flop (Bit k (from + (e * w + i))) (bit (slice_index numbers e) i) None
word_node k from w [] e i inside low = absurd (omega arith)
word_node k from w (bits ∷ rest) zero i inside low =
    let own : List Node = word_flops k from w bits in
    let size = length-word_flops k from w bits in
    let at : 0 * w + i ≡ i = omega arith in
    ap (node_at (own ++ words_flops k (from + w) w rest)) at
    ∙ get_or_append_left own (words_flops k (from + w) w rest) (Wire 0 None) i (omega arith)
    ∙ get_or-map-range_with_len (λ j. Flop (Bit k (from + j)) (bit bits j) None) 0 w i i (Wire 0 None) low (let e : 0 + i ≡ i = omega arith in e)
    ∙ ap (λ j. Flop (Bit k (from + j)) (bit bits i) None) (sym at)
word_node k from w (bits ∷ rest) (suc e) i inside low =
    let own : List Node = word_flops k from w bits in
    let size = length-word_flops k from w bits in
    let at : suc e * w + i ≡ length own + (e * w + i) = omega arith in
    ap (node_at (own ++ words_flops k (from + w) w rest)) at
    ∙ get_or-append-add own (words_flops k (from + w) w rest) (e * w + i) (Wire 0 None)
    ∙ word_node k (from + w) w rest e i (omega arith) low
    ∙ ap (λ j. Flop (Bit k j) (bit (slice_index rest e) i) None) (let e' : from + w + (e * w + i) ≡ from + (suc e * w + i) = omega arith in e')

-- ---- registers and arrays

-- An object of flip-flops: its nodes, its first numbers and its bits.
pub record Holder (k inputs : ℕ) (x : Kind) : Type 0 where
  pub nodes : object_nodes k inputs x ≡ words_flops k 0 (kind_width (Some x)) (first_words x)
  pub words : length (first_words x) ≡ register_cells (Some x)
  pub bits : net_count x ≡ register_cells (Some x) * kind_width (Some x)

pub holder : (k inputs : ℕ) (x : Kind) → 0 < register_cells (Some x) → Holder k inputs x
holder k inputs (kind.Reg w s init) some = record { nodes = refl; words = refl; bits = omega arith }
holder k inputs (kind.Array w s n init) some = record { nodes = refl; words = length-padded n (bits_of init); bits = refl }
holder k inputs (kind.Ram w s n init) some = absurd (omega arith)
holder k inputs (kind.Rom w s n init) some = absurd (omega arith)
holder k inputs (kind.Signal w s unset) some = absurd (omega arith)
holder k inputs (kind.Chan w s queue) some = absurd (omega arith)
holder k inputs (kind.Input w s pins) some = absurd (omega arith)
holder k inputs (kind.Output w s pins value) some = absurd (omega arith)

-- a bit of an element is one of the object's
pub bit_within : (n w e i : ℕ) → e < n → i < w → e * w + i < n * w
bit_within zero w e i inside low = absurd (omega arith)
bit_within (suc n) w zero i inside low = let product : suc n * w ≡ w + n * w = omega arith in let none : 0 * w + i ≡ i = omega arith in omega arith
bit_within (suc n) w (suc e) i inside low =
    let rest = bit_within n w e i (omega arith) low in
    let product : suc n * w ≡ w + n * w = omega arith in
    let at : suc e * w + i ≡ w + (e * w + i) = omega arith in
    omega arith

-- flip-flops of words aren't fed
word_unfed : (k from bits : ℕ) (xs : List ℕ) → All IsUnfed (map (λ i. Flop (Bit k (from + i)) (bit bits i) None) xs)
word_unfed k from bits [] i d inside = absurd (omega arith)
word_unfed k from bits (x ∷ xs) zero d inside = tt
word_unfed k from bits (x ∷ xs) (suc i) d inside = word_unfed k from bits xs i d (omega arith)

pub words_unfed : (k from w : ℕ) (numbers : List ℕ) → All IsUnfed (words_flops k from w numbers)
words_unfed k from w [] = All-nil IsUnfed
words_unfed k from w (bits ∷ rest) =
    All-append IsUnfed (word_flops k from w bits) (words_flops k (from + w) w rest) (word_unfed k from bits (range_with_len 0 w)) (words_unfed k (from + w) w rest)
