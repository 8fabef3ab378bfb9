-- The nodes after each stage, the places of the objects among them, and the room that is left.
use Rattle.std.proofs.Common.{◌≡◌, ◌<◌, ◌≤◌, ℕ, ◌+◌, ◌^◌, List, [], ◌∷◌, ◌++◌, length, get_or, Some, None, refl, sym, ap, ◌∙◌, subst, arith, append_assoc, length-append}
use Rattle.std.specs.Prelude.{slice_get, slice_index, slice_index_or, All}
use Rattle.std.specs.List.{range_with_len, sum_by}
use Rattle.std.proofs.lemmas.List.{append-nil, get_or_at}
use Rattle.std.proofs.lemmas.List.FromFn.{length-range_with_len, get_or-range_with_len, get_or-map-range_with_len}
use Rattle.std.proofs.lemmas.List.Elements.{All-from_get_or}
use Rattle.std.proofs.lemmas.Option.{slice_get-get_or, slice_get_within}
use Rattle.hc_core.specs.Read.{statement}
use Rattle.hc_core.specs.Typed.{kinds_of}
use Rattle.hc_core.specs.Weight.{weight_of, kind_weight, statement_weight, statement_flops}
use Rattle.hc_core.specs.declared.object.Core.{Core}
use Rattle.hc_core.specs.declared.object.Kind.{Kind}
use Rattle.hc_core.specs.declared.object.Kind.TheVariants as kind
use Rattle.hc_meaning.specs.Residual.{Action}
use Rattle.hc_meaning.specs.Value.{first_words, inputs_before}
use Rattle.hc_net.specs.Circuit.{Circuit, IsUnfed, node_at, constant_at}
use Rattle.hc_net.specs.Seal as seal
use Rattle.hc_net.specs.Seal.{Within}
use Rattle.hc_net.specs.declared.gate.GateKind.TheVariants as gate
use Rattle.hc_net.specs.declared.node.Node.{Node}
use Rattle.hc_net.specs.declared.node.Node.TheVariants.{Input, Flop, Wire, Gate, Ram}
use Rattle.hc_rules.specs.Weight.{most_weight}
use Rattle.hc_value.specs.Objects.{nets_of, AreNets}
use Rattle.hc_value.specs.declared.objects.ObjectNets.{ObjectNets}
use Rattle.hc_control.specs.Controlled.{AddsTokens, IsControlled, most_control}
use Rattle.hc_control.specs.Listing.{actions_in}
use Rattle.hc_control.specs.Right.{AreAll, HasPlaces, net_count}
use Rattle.hc_control.specs.Uses.{no_use}
use Rattle.hc_control.specs.declared.uses.ObjectUses.{ObjectUses}
use Rattle.hc_build.specs.Built.{IsBuildable}
use Rattle.hc_build.specs.Objects.{Places, nodes_from, nets_from, object_nodes, words_flops}
use Rattle.hc_build.specs.Sources.{MakesSources, CanConnect, IsSource, IsSourceOf, output_gates}
use Rattle.hc_build.specs.Uses.{HasUses, all_next_gates, next_weight}
use Rattle.hc_build.proofs.Placing.{length-nets, length-object}
use Rattle.hc_build.proofs.Program.{core_actions}
use Rattle.hc_build.proofs.StructureNodes.{length-nodes_from, base_of, nets_are, net_is, node_is, base_within, words_unfed}
use Rattle.hc_build.proofs.UsesGates.{few}
use Rattle.hc_build.proofs.Weights.{actions_light, all_nets_light, all_next_light, flops_light, statement_weighs}

-- the gates of the two constants
abbrev pub constants : List Node
constants = Gate gate.Zero 0 0 ∷ Gate gate.One 0 0 ∷ []

-- ---- sizes

pub placed_size : (core : Core) (c : Circuit) (at : ObjectNets) → Places core c at → length c.nodes ≡ sum_by net_count (kinds_of core.objects) + 2
placed_size core c at p =
    ap length p.nodes
    ∙ length-append (nodes_from 0 0 (kinds_of core.objects)) constants
    ∙ ap (λ n. n + 2) (length-nodes_from 0 0 (kinds_of core.objects))

-- ---- the nodes

-- the nodes of objects and constants with control behind them
pub used_nodes : (core : Core) (placed used : Circuit) (at : ObjectNets) → Places core placed at → (a : AddsTokens core placed used)
    → used.nodes ≡ nodes_from 0 0 (kinds_of core.objects) ++ (constants ++ a.added)
used_nodes core placed used at p a =
    a.nodes ∙ ap (λ l. l ++ a.added) p.nodes ∙ append_assoc (nodes_from 0 0 (kinds_of core.objects)) constants a.added

-- and with gates behind these
pub grown_nodes : (a b c more : List Node) → (a ++ (b ++ c)) ++ more ≡ a ++ (b ++ (c ++ more))
grown_nodes a b c more = append_assoc a (b ++ c) more ∙ ap (λ l. a ++ l) (append_assoc b c more)

-- ---- the places of the objects

range_there : (base n m : ℕ) → base + n ≤ m → All (λ k. k < m) (range_with_len base n)
range_there base n m le i d inside =
    let low : i < n = let e = length-range_with_len base n in omega arith in
    let at = get_or-range_with_len base n i d low in
    omega arith

pub nets_placed : (kinds : List Kind) (objects : List (List ℕ)) (n : ℕ) → objects ≡ nets_from 0 kinds → sum_by net_count kinds ≤ n
    → (k : ℕ) (x : Kind) → slice_get kinds k ≡ Some x → AreNets n (net_count x) (slice_index_or objects k [])
nets_placed kinds objects n are le k x is =
    let nets : slice_index_or objects k [] ≡ range_with_len (base_of kinds k) (net_count x) = ap (λ (l : List (List ℕ)). slice_index_or l k []) are ∙ nets_are kinds k x is in
    let within = base_within kinds k x is in
    record {
      count = ap length nets ∙ length-range_with_len (base_of kinds k) (net_count x);
      there = subst (λ (l : List ℕ). All (λ j. j < n) l) (sym nets) (range_there (base_of kinds k) (net_count x) n (omega arith));
    }

-- the constants stand behind the objects
zero_node : (before more : List Node) (n : ℕ) → n ≡ length before → node_at (before ++ (constants ++ more)) n ≡ Gate gate.Zero 0 0
zero_node before more n at = get_or_at before (Gate gate.Zero 0 0) (Gate gate.One 0 0 ∷ more) _ n (sym at)

one_node : (before more : List Node) (n : ℕ) → n ≡ length before + 1 → node_at (before ++ (constants ++ more)) n ≡ Gate gate.One 0 0
one_node before more n at =
    ap (λ l. node_at l n) (sym (append_assoc before (Gate gate.Zero 0 0 ∷ []) (Gate gate.One 0 0 ∷ more)))
    ∙ get_or_at (before ++ Gate gate.Zero 0 0 ∷ []) (Gate gate.One 0 0) more _ n (length-append before (Gate gate.Zero 0 0 ∷ []) ∙ sym at)

-- where the constants stand
pub record HasGates (nodes : List Node) (at : ObjectNets) : Type 0 where
  pub zero : node_at nodes at.zero ≡ Gate gate.Zero 0 0
  pub one : node_at nodes at.one ≡ Gate gate.One 0 0

pub constants_stand : (core : Core) (placed : Circuit) (at : ObjectNets) (more nodes : List Node) → Places core placed at
    → nodes ≡ nodes_from 0 0 (kinds_of core.objects) ++ (constants ++ more) → HasGates nodes at
constants_stand core placed at more nodes p are = record {
  zero = ap (λ l. node_at l at.zero) are ∙ zero_node (nodes_from 0 0 (kinds_of core.objects)) more at.zero p.zero;
  one = ap (λ l. node_at l at.one) are ∙ one_node (nodes_from 0 0 (kinds_of core.objects)) more at.one p.one;
}

-- Each object has its nets, and the constants are there.
pub has_places : (core : Core) (placed : Circuit) (at : ObjectNets) (more nodes : List Node) → Places core placed at
    → nodes ≡ nodes_from 0 0 (kinds_of core.objects) ++ (constants ++ more) → HasPlaces (kinds_of core.objects) nodes at
has_places core placed at more nodes p are =
    let kinds : List Kind = kinds_of core.objects in
    let bits = length-nodes_from 0 0 kinds in
    let all = ap length are in
    let outer = length-append (nodes_from 0 0 kinds) (constants ++ more) in
    let inner = length-append constants more in
    let zero_at = p.zero in
    let one_at = p.one in
    let gates = constants_stand core placed at more nodes p are in
    record {
      count = ap length p.objects ∙ length-nets 0 kinds;
      each = nets_placed kinds at.objects (length nodes) p.objects (omega arith);
      zero = ap constant_at gates.zero;
      one = ap constant_at gates.one;
      constants = record { zero = omega arith; one = omega arith };
    }

-- where the objects alone stand with the constants
placed_nodes : (core : Core) (placed : Circuit) (at : ObjectNets) → Places core placed at → placed.nodes ≡ nodes_from 0 0 (kinds_of core.objects) ++ (constants ++ [])
placed_nodes core placed at p = p.nodes ∙ ap (λ l. nodes_from 0 0 (kinds_of core.objects) ++ l) (sym (append-nil constants))

pub placed_places : (core : Core) (placed : Circuit) (at : ObjectNets) → Places core placed at → HasPlaces (kinds_of core.objects) placed.nodes at
placed_places core placed at p = has_places core placed at [] placed.nodes p (placed_nodes core placed at p)

pub used_places : (core : Core) (placed used : Circuit) (at : ObjectNets) → Places core placed at → AddsTokens core placed used → HasPlaces (kinds_of core.objects) used.nodes at
used_places core placed used at p a = has_places core placed at a.added used.nodes p (used_nodes core placed used at p a)

-- ---- what the objects reach where they are placed

-- the node of each net of an object
placed_node : (core : Core) (placed : Circuit) (at : ObjectNets) → Places core placed at → (k i : ℕ) (x : Kind) → slice_get (kinds_of core.objects) k ≡ Some x → i < net_count x
    → node_at placed.nodes (slice_index (nets_of at k) i) ≡ node_at (object_nodes k (inputs_before (kinds_of core.objects) k) x) i
placed_node core placed at p k i x is low =
    let kinds : List Kind = kinds_of core.objects in
    let net : slice_index (nets_of at k) i ≡ base_of kinds k + i = ap (λ (l : List (List ℕ)). slice_index (slice_index_or l k []) i) p.objects ∙ net_is kinds k i x is low in
    ap (node_at placed.nodes) net ∙ ap (λ l. node_at l (base_of kinds k + i)) p.nodes ∙ node_is kinds constants k i x is low

unfed_within : (nodes : List Node) (k : ℕ) (x : Node) → node_at nodes k ≡ x → IsUnfed x → Within nodes 0 k
unfed_within nodes k (Input p i) is unfed = absurd unfed
unfed_within nodes k (Flop name init None) is unfed = seal.flop k name init None is
unfed_within nodes k (Flop name init (Some d)) is unfed = absurd unfed
unfed_within nodes k (Wire rank from) is unfed = absurd unfed
unfed_within nodes k (Gate g a b) is unfed = absurd unfed
unfed_within nodes k (Ram rank first ram) is unfed = absurd unfed

-- the nets of a register or an array are those of flip-flops
holder_low : (core : Core) (placed : Circuit) (at : ObjectNets) → Places core placed at → (k w : ℕ) (x : Kind) (numbers : List ℕ) → slice_get (kinds_of core.objects) k ≡ Some x
    → object_nodes k (inputs_before (kinds_of core.objects) k) x ≡ words_flops k 0 w numbers → All (Within placed.nodes 0) (nets_of at k)
holder_low core placed at p k w x numbers is are =
    let kinds : List Kind = kinds_of core.objects in
    let own : List Node = object_nodes k (inputs_before kinds k) x in
    let size = length-object k (inputs_before kinds k) x in
    let unfed : All IsUnfed own = subst (λ (l : List Node). All IsUnfed l) (sym are) (words_unfed k 0 w numbers) in
    All-from_get_or (Within placed.nodes 0) (nets_of at k) 0 (λ i within.
    let count = ((placed_places core placed at p).each k x is).count in
    let low : i < net_count x = omega arith in
    unfed_within placed.nodes (slice_index (nets_of at k) i) (node_at own i) (placed_node core placed at p k i x is low) (unfed i (Wire 0 None) (omega arith)))

-- Registers, arrays and inputs reach no placeholder.
pub placed_low : (core : Core) (placed : Circuit) (at : ObjectNets) → Places core placed at → AreAll (Within placed.nodes 0) (kinds_of core.objects) at
placed_low core placed at p = record {
  register = λ k w s init is. holder_low core placed at p k w (kind.Reg w s init) (first_words (kind.Reg w s init)) is refl;
  array = λ k w n s init is. holder_low core placed at p k w (kind.Array w s n init) (first_words (kind.Array w s n init)) is refl;
  input = λ k w s pins is. All-from_get_or (Within placed.nodes 0) (nets_of at k) 0 (λ i within.
      let count = ((placed_places core placed at p).each k (kind.Input w s pins) is).count in
      let low : i < w = omega arith in
      let port : ℕ = inputs_before (kinds_of core.objects) k in
      seal.input (slice_index (nets_of at k) i) port i
      (placed_node core placed at p k i (kind.Input w s pins) is low
      ∙ get_or-map-range_with_len (λ n. Input port n) 0 w i i (Wire 0 None) low (let e : 0 + i ≡ i = omega arith in e)));
}

-- ---- uses and sources

-- the uses of an object that is there
pub uses_of : (kinds : List Kind) (uses : List ObjectUses) (k : ℕ) (x : Kind) → length uses ≡ length kinds → slice_get kinds k ≡ Some x → (u : ObjectUses) × (slice_get uses k ≡ Some u)
uses_of kinds uses k x size is =
    let inside : k < length kinds = slice_get_within kinds k x is in
    (get_or uses k (no_use), slice_get-get_or uses k (no_use) (omega arith))

pub has_uses : {core : Core} {at : ObjectNets} {placed used : Circuit} {uses : List ObjectUses} → IsControlled core at placed used uses → HasUses (kinds_of core.objects) used.nodes uses
has_uses c = record { count = c.count; each = λ k x u is found. (c.each k x u is found).there }

source_of : (kinds : List Kind) (at : ObjectNets) (nodes : List Node) (k : ℕ) (u : ObjectUses) (nets : List ℕ) (x : Kind) → IsSource kinds at nodes k u nets x → IsSourceOf (length nodes) x nets
source_of kinds at nodes k u nets (kind.Reg w s init) is = is.0
source_of kinds at nodes k u nets (kind.Array w s n init) is = is.0
source_of kinds at nodes k u nets (kind.Ram w s n init) is = is
source_of kinds at nodes k u nets (kind.Rom w s n init) is = is
source_of kinds at nodes k u nets (kind.Signal w s unset) is = is
source_of kinds at nodes k u nets (kind.Chan w s queue) is = is
source_of kinds at nodes k u nets (kind.Input w s pins) is = is
source_of kinds at nodes k u nets (kind.Output w s pins value) is = is.0

-- The objects can be connected with their sources.
pub can_connect : (core : Core) (at : ObjectNets) (uses : List ObjectUses) (sources : List (List ℕ)) (placed used read : Circuit) → Places core placed at
    → IsControlled core at placed used uses → MakesSources (kinds_of core.objects) at uses used read sources → CanConnect (kinds_of core.objects) at sources read
can_connect core at uses sources placed used read p c s =
    let kinds : List Kind = kinds_of core.objects in
    let own : List Node = c.adds.added in
    record {
      more = constants ++ (own ++ s.adds.gates);
      nodes = s.adds.nodes ∙ ap (λ l. l ++ s.adds.gates) (used_nodes core placed used at p c.adds) ∙ grown_nodes (nodes_from 0 0 kinds) constants own s.adds.gates;
      objects = p.objects;
      count = s.count;
      each = λ k x is.
          let u = uses_of kinds uses k x c.count is in
          source_of kinds at read.nodes k u.0 (slice_index_or sources k []) x (s.each k x u.0 is u.1);
    }

-- ---- gates and room

-- what the parts of a core may weigh together
weights : (core : Core) → weight_of core ≤ most_weight → 100 + sum_by (kind_weight (kinds_of core.objects)) (kinds_of core.objects) + statement_weight (kinds_of core.objects) (statement core.main) ≤ 2000000
weights core light = light

-- there is room for control
pub control_room : (core : Core) (placed : Circuit) (at : ObjectNets) → weight_of core ≤ most_weight → Places core placed at
    → length placed.nodes + (1 + statement_flops (statement core.main) + most_control core) < 2 ^ 32
control_room core placed at light p =
    let kinds : List Kind = kinds_of core.objects in
    let size = placed_size core placed at p in
    let nets = all_nets_light kinds kinds in
    let actions = actions_light kinds (actions_in (statement core.main)) in
    let main = statement_weighs kinds (statement core.main) in
    let flops = flops_light kinds (statement core.main) in
    let most = weights core light in
    omega arith

-- Control with the next bits of the objects takes no more gates than the objects and `main` weigh.
pub few_next : {core : Core} {at : ObjectNets} {placed used : Circuit} {uses : List ObjectUses} → IsBuildable core → Places core placed at → IsControlled core at placed used uses
    → most_control core + all_next_gates used.nodes (kinds_of core.objects) uses ≤ sum_by next_weight (kinds_of core.objects) + statement_weight (kinds_of core.objects) (statement core.main)
few_next {core} {at} {placed} {used} {uses} b p c =
    let kinds : List Kind = kinds_of core.objects in
    let actions : List Action = actions_in (statement core.main) in
    let next = few kinds at c.starts used.nodes actions uses b.sound.kinds (used_places core placed used at p c.adds) (core_actions core b) c.each in
    let main = statement_weighs kinds (statement core.main) in
    omega arith

-- and for what the objects read
pub sources_room : {core : Core} {at : ObjectNets} {placed used : Circuit} {uses : List ObjectUses} → IsBuildable core → Places core placed at → IsControlled core at placed used uses
    → length used.nodes + (all_next_gates used.nodes (kinds_of core.objects) uses + sum_by (output_gates (kinds_of core.objects)) (kinds_of core.objects)) < 2 ^ 32
sources_room {core} {at} {placed} {used} {uses} b p c =
    let kinds : List Kind = kinds_of core.objects in
    let size = placed_size core placed at p in
    let grown = ap length c.adds.nodes in
    let parts = length-append placed.nodes c.adds.added in
    let added = c.adds.size in
    let nets = all_nets_light kinds kinds in
    let next = all_next_light kinds kinds in
    let gates = few_next b p c in
    let flops = flops_light kinds (statement core.main) in
    let most = weights core b.light in
    omega arith
