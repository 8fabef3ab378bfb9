-- The finished circuit: each net of an object reads its source, and all else is as it was made.
use Rattle.std.proofs.Common.{◌≡◌, ◌<◌, ◌≤◌, ℕ, ◌+◌, ◌-◌, ◌*◌, ◌^◌, List, [], ◌∷◌, ◌++◌, length, Bool, false, Some, None, refl, sym, ap, ◌∙◌, subst, ⊎_elim, arith}
use Rattle.std.specs.Prelude.{slice_get, slice_index, slice_index_or, All}
use Rattle.std.specs.List.{sum_by}
use Rattle.std.proofs.lemmas.Bool.{cases_lt}
use Rattle.std.proofs.lemmas.List.{get_or-append_right, get_or-replicate, length-map, length-append}
use Rattle.std.proofs.lemmas.List.Elements.{All-nil, All-cons, All-append}
use Rattle.std.proofs.lemmas.List.FromFn.{get_or-map-range_with_len}
use Rattle.std.proofs.lemmas.Option.{slice_get_within}
use Rattle.hc_num.specs.Number.{Number}
use Rattle.hc_core.specs.declared.expr.Expr.{Expr}
use Rattle.hc_core.specs.declared.object.Kind.{Kind}
use Rattle.hc_core.specs.declared.object.Kind.TheVariants as kind
use Rattle.hc_meaning.specs.Value.{first_words, inputs_before}
use Rattle.hc_net.specs.Circuit.{Circuit, IsUnfed, node_at, reading}
use Rattle.hc_net.specs.declared.net.FlopName.{FlopName}
use Rattle.hc_net.specs.declared.gate.GateKind.{GateKind}
use Rattle.hc_net.specs.declared.gate.GateKind.TheVariants as gate
use Rattle.hc_net.specs.declared.node.Node.{Node}
use Rattle.hc_net.specs.declared.node.Node.TheVariants.{Input, Flop, Wire, Gate, Ram}
use Rattle.hc_token.specs.Part.{IsClosed, closed_kept}
use Rattle.hc_value.specs.Objects.{nets_of, AreNets}
use Rattle.hc_value.specs.declared.objects.ObjectNets.{ObjectNets}
use Rattle.hc_control.specs.Right.{net_count}
use Rattle.hc_build.specs.Objects.{output_wire, object_nodes, nodes_from, nets_from}
use Rattle.hc_build.specs.Sources.{IsSourceOf, Connects, bare, is_open}
use Rattle.hc_build.proofs.Placing.{length-object}
use Rattle.hc_build.proofs.StructureNodes.{length-nodes_from, base_of, net_is, stands, node_is, words_unfed}
use Rattle.hc_build.proofs.StructureStages.{constants, nets_placed, HasGates}

-- ---- nodes that are done

constants_done : (nodes : List Node) → All (IsClosed nodes) constants
constants_done nodes =
    All-cons (IsClosed nodes) (Gate gate.Zero 0 0) (Gate gate.One 0 0 ∷ []) tt (All-cons (IsClosed nodes) (Gate gate.One 0 0) [] tt (All-nil (IsClosed nodes)))

done_closed : (nodes : List Node) (x : Node) → IsClosed nodes x → is_open x ≡ false
done_closed nodes (Input p i) is = absurd is
done_closed nodes (Flop name init None) is = absurd is
done_closed nodes (Flop name init (Some d)) is = refl
done_closed nodes (Wire rank None) is = absurd is
done_closed nodes (Wire rank (Some d)) is = refl
done_closed nodes (Gate g a b) is = refl
done_closed nodes (Ram rank first ram) is = absurd is

reading_closed : (d : ℕ) (x : Node) → is_open (reading d x) ≡ false
reading_closed d (Input p i) = refl
reading_closed d (Flop name init old) = refl
reading_closed d (Wire rank old) = refl
reading_closed d (Gate g a b) = refl
reading_closed d (Ram rank first ram) = refl

-- a flip-flop that is fed by this net
pub record IsFed (x : Node) (d : ℕ) : Type 0 where
  pub name : FlopName
  pub init : Bool
  pub is : x ≡ Flop name init (Some d)

reading_fed : (d : ℕ) (x : Node) → IsUnfed x → IsFed (reading d x) d
reading_fed d (Input p i) unfed = absurd unfed
reading_fed d (Flop name init None) unfed = record { name = name; init = init; is = refl }
reading_fed d (Flop name init (Some old)) unfed = absurd unfed
reading_fed d (Wire rank from) unfed = absurd unfed
reading_fed d (Gate g a b) unfed = absurd unfed
reading_fed d (Ram rank first ram) unfed = absurd unfed

-- ---- the circuit

-- The objects stand in a circuit with the constants and with control and gates behind them, and were connected with their sources.
pub record Joined (kinds : List Kind) (at : ObjectNets) (sources : List (List ℕ)) (old last : Circuit) : Type 0 where
  pub behind : List Node
  pub nodes : old.nodes ≡ nodes_from 0 0 kinds ++ (constants ++ behind)
  pub parts : All (IsClosed old.nodes) behind
  pub objects : at.objects ≡ nets_from 0 kinds
  pub stand : HasGates old.nodes at
  pub sized : (k : ℕ) (x : Kind) → slice_get kinds k ≡ Some x → IsSourceOf (length old.nodes) x (slice_index_or sources k [])
  pub connects : Connects kinds at sources old last

-- an object that reads a source: a register, an array or an output
pub data ReadsSource : Kind → Type 0 where
  register : (w : ℕ) (s : Bool) (init : Number) → ReadsSource (kind.Reg w s init)
  array : (w : ℕ) (s : Bool) (n : ℕ) (init : List Number) → ReadsSource (kind.Array w s n init)
  output : (w : ℕ) (s : Bool) (pins : List (List ℕ)) (value : Expr) → ReadsSource (kind.Output w s pins value)

source_size : (n : ℕ) (x : Kind) (nets : List ℕ) → ReadsSource x → IsSourceOf n x nets → length nets ≡ net_count x
source_size n _ nets (register w s init) is = is.count
source_size n _ nets (array w s m init) is = is.count
source_size n _ nets (output w s pins value) is = is.count

module _ {kinds : List Kind} {at : ObjectNets} {sources : List (List ℕ)} {old last : Circuit} (j : Joined kinds at sources old last) where
  -- no node was added or taken away
  pub same_size : length last.nodes ≡ length old.nodes
  same_size = sym (length-map last.nodes bare) ∙ ap length j.connects.bare ∙ length-map old.nodes bare

  pub objects_size : sum_by net_count kinds ≤ length old.nodes
  objects_size =
      let all = ap length j.nodes in
      let parts = length-append (nodes_from 0 0 kinds) (constants ++ j.behind) in
      let own = length-nodes_from 0 0 kinds in
      omega arith

  -- the nets of an object
  pub own_nets : (k : ℕ) (x : Kind) → slice_get kinds k ≡ Some x → AreNets (length old.nodes) (net_count x) (nets_of at k)
  own_nets k x is = nets_placed kinds at.objects (length old.nodes) j.objects objects_size k x is

  pub own_net : (k i : ℕ) (x : Kind) → slice_get kinds k ≡ Some x → i < net_count x → slice_index (nets_of at k) i ≡ base_of kinds k + i
  own_net k i x is low = ap (λ (l : List (List ℕ)). slice_index (slice_index_or l k []) i) j.objects ∙ net_is kinds k i x is low

  -- before they were connected
  pub own_node : (k i : ℕ) (x : Kind) → slice_get kinds k ≡ Some x → i < net_count x
      → node_at old.nodes (slice_index (nets_of at k) i) ≡ node_at (object_nodes k (inputs_before kinds k) x) i
  own_node k i x is low =
      ap (node_at old.nodes) (own_net k i x is low)
      ∙ ap (λ l. node_at l (base_of kinds k + i)) j.nodes
      ∙ node_is kinds (constants ++ j.behind) k i x is low

  -- and after it, where the object reads a source
  pub source_length : (k : ℕ) (x : Kind) → slice_get kinds k ≡ Some x → ReadsSource x → length (slice_index_or sources k []) ≡ net_count x
  source_length k x is reads = source_size (length old.nodes) x (slice_index_or sources k []) reads (j.sized k x is)

  pub last_node : (k i : ℕ) (x : Kind) → slice_get kinds k ≡ Some x → ReadsSource x → i < net_count x
      → node_at last.nodes (slice_index (nets_of at k) i) ≡ reading (slice_index (slice_index_or sources k []) i) (node_at (object_nodes k (inputs_before kinds k) x) i)
  last_node k i x is reads low =
      let inside : k < length kinds = slice_get_within kinds k x is in
      let size = source_length k x is reads in
      j.connects.read k i inside (omega arith)
      ∙ ap (reading (slice_index (slice_index_or sources k []) i)) (own_node k i x is low)

  -- gates stay
  pub gate_last : (n : ℕ) (g : GateKind) (a b : ℕ) → node_at old.nodes n ≡ Gate g a b → node_at last.nodes n ≡ Gate g a b
  gate_last n g a b is = j.connects.kept n (ap is_open is) ∙ is

  -- a node behind the objects is done, and stays
  behind_done : (n : ℕ) → sum_by net_count kinds ≤ n → n < length old.nodes → IsClosed old.nodes (node_at old.nodes n)
  behind_done n past inside =
      let more : List Node = constants ++ j.behind in
      let own = length-nodes_from 0 0 kinds in
      let all = ap length j.nodes in
      let parts = length-append (nodes_from 0 0 kinds) more in
      let done : All (IsClosed old.nodes) more = All-append (IsClosed old.nodes) constants j.behind (constants_done old.nodes) j.parts in
      let at_end : node_at old.nodes n ≡ node_at more (n - sum_by net_count kinds) = ap (λ l. node_at l n) j.nodes ∙ get_or-append_right (nodes_from 0 0 kinds) more (sum_by net_count kinds) n (Wire 0 None) own past in
      subst (IsClosed old.nodes) (sym at_end) (done (n - sum_by net_count kinds) (Wire 0 None) (omega arith))

  pub behind_last : (n : ℕ) → sum_by net_count kinds ≤ n → n < length last.nodes → IsClosed last.nodes (node_at last.nodes n)
  behind_last n past inside =
      let size = same_size in
      let done = behind_done n past (omega arith) in
      subst (IsClosed last.nodes) (sym (j.connects.kept n (done_closed old.nodes (node_at old.nodes n) done)))
      (closed_kept j.connects.keeps (node_at old.nodes n) done)

  -- an input stays
  pub input_last : (k i w : ℕ) (s : Bool) (pins : List (List ℕ)) → slice_get kinds k ≡ Some (kind.Input w s pins) → i < w
      → node_at last.nodes (slice_index (nets_of at k) i) ≡ Input (inputs_before kinds k) i
  input_last k i w s pins is low =
      let p : ℕ = inputs_before kinds k in
      let before : node_at old.nodes (slice_index (nets_of at k) i) ≡ Input p i =
      own_node k i (kind.Input w s pins) is low ∙ get_or-map-range_with_len (λ n. Input p n) 0 w i i (Wire 0 None) low (let e : 0 + i ≡ i = omega arith in e) in
      j.connects.kept (slice_index (nets_of at k) i) (ap is_open before) ∙ before

  -- an output is driven
  pub output_last : (k i w : ℕ) (s : Bool) (pins : List (List ℕ)) (value : Expr) → slice_get kinds k ≡ Some (kind.Output w s pins value) → i < w
      → node_at last.nodes (slice_index (nets_of at k) i) ≡ Wire (2 ^ 32 - 1) (Some (slice_index (slice_index_or sources k []) i))
  output_last k i w s pins value is low =
      last_node k i (kind.Output w s pins value) is (output w s pins value) low
      ∙ ap (reading (slice_index (slice_index_or sources k []) i)) (get_or-replicate w i output_wire (Wire 0 None) low)

  -- a register or an array is fed
  pub register_last : (k i w : ℕ) (s : Bool) (init : Number) → slice_get kinds k ≡ Some (kind.Reg w s init) → i < w
      → IsFed (node_at last.nodes (slice_index (nets_of at k) i)) (slice_index (slice_index_or sources k []) i)
  register_last k i w s init is low =
      let x : Kind = kind.Reg w s init in
      let size = length-object k (inputs_before kinds k) x in
      let d : ℕ = slice_index (slice_index_or sources k []) i in
      let unfed : IsUnfed (node_at (object_nodes k (inputs_before kinds k) x) i) = words_unfed k 0 w (first_words x) i (Wire 0 None) (omega arith) in
      subst (λ (n : Node). IsFed n d) (sym (last_node k i x is (register w s init) low)) (reading_fed d _ unfed)

  pub array_last : (k i w n : ℕ) (s : Bool) (init : List Number) → slice_get kinds k ≡ Some (kind.Array w s n init) → i < n * w
      → IsFed (node_at last.nodes (slice_index (nets_of at k) i)) (slice_index (slice_index_or sources k []) i)
  array_last k i w n s init is low =
      let x : Kind = kind.Array w s n init in
      let size = length-object k (inputs_before kinds k) x in
      let d : ℕ = slice_index (slice_index_or sources k []) i in
      let unfed : IsUnfed (node_at (object_nodes k (inputs_before kinds k) x) i) = words_unfed k 0 w (first_words x) i (Wire 0 None) (omega arith) in
      subst (λ (m : Node). IsFed m d) (sym (last_node k i x is (array w s n init) low)) (reading_fed d _ unfed)

-- ---- each node of it

-- What a node of the finished circuit is: part of the control or a gate, an object's flip-flop, an input, or a placeholder of an
-- output that is driven.
pub data Finished (kinds : List Kind) (nodes : List Node) (sources : List (List ℕ)) : Node → Type 0 where
  done : (x : Node) → IsClosed nodes x → Finished kinds nodes sources x
  input : (p i : ℕ) → Finished kinds nodes sources (Input p i)
  driven : (k i w : ℕ) (s : Bool) (pins : List (List ℕ)) (value : Expr) → slice_get kinds k ≡ Some (kind.Output w s pins value) → i < w
      → Finished kinds nodes sources (Wire (2 ^ 32 - 1) (Some (slice_index (slice_index_or sources k []) i)))

fed_done : (nodes : List Node) (x : Node) (d : ℕ) → IsFed x d → IsClosed nodes x
fed_done nodes x d fed = rw fed.is tt

finished_object : {kinds : List Kind} {at : ObjectNets} {sources : List (List ℕ)} {old last : Circuit} → Joined kinds at sources old last
    → (k i : ℕ) (x : Kind) → slice_get kinds k ≡ Some x → i < net_count x → Finished kinds last.nodes sources (node_at last.nodes (slice_index (nets_of at k) i))
finished_object {last = last} j k i (kind.Reg w s init) is low = done _ (fed_done last.nodes _ _ (register_last j k i w s init is low))
finished_object {last = last} j k i (kind.Array w s n init) is low = done _ (fed_done last.nodes _ _ (array_last j k i w n s init is low))
finished_object j k i (kind.Ram w s n init) is low = absurd (omega arith)
finished_object j k i (kind.Rom w s n init) is low = absurd (omega arith)
finished_object j k i (kind.Signal w s unset) is low = absurd (omega arith)
finished_object j k i (kind.Chan w s queue) is low = absurd (omega arith)
finished_object {kinds} {at} {sources} {last = last} j k i (kind.Input w s pins) is low =
    subst (λ (n : Node). Finished kinds last.nodes sources n) (sym (input_last j k i w s pins is low)) (input (inputs_before kinds k) i)
finished_object {kinds} {at} {sources} {last = last} j k i (kind.Output w s pins value) is low =
    subst (λ (n : Node). Finished kinds last.nodes sources n) (sym (output_last j k i w s pins value is low)) (driven k i w s pins value is low)

pub finished : {kinds : List Kind} {at : ObjectNets} {sources : List (List ℕ)} {old last : Circuit} → Joined kinds at sources old last
    → (n : ℕ) → n < length last.nodes → Finished kinds last.nodes sources (node_at last.nodes n)
finished {kinds} {at} {sources} {last = last} j n inside = ⊎_elim
    (λ own.
    let s = stands kinds n own in
    let net : slice_index (nets_of at s.object) s.place ≡ n = own_net j s.object s.place s.kind_of s.is s.within ∙ sym s.net in
    subst (λ m. Finished kinds last.nodes sources (node_at last.nodes m)) net (finished_object j s.object s.place s.kind_of s.is s.within))
    (λ past. done _ (behind_last j n past inside))
    (cases_lt n (sum_by net_count kinds))
