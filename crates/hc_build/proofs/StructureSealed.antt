-- The circuit of a core that went through all stages can be sealed, has the core's ports, and few flip-flops and gates.
use Rattle.std.proofs.Common.{◌≡◌, ◌≢◌, ◌<◌, ◌≤◌, ℕ, suc, ◌+◌, ◌-◌, ◌*◌, ◌^◌, List, [], ◌∷◌, ◌++◌, length, map, Bool, true, false, Option, Some, None, refl, sym, ap, ◌∙◌, subst, arith, length-append}
use Rattle.std.specs.Prelude.{slice_get, slice_index, slice_index_or, All}
use Rattle.std.specs.List.{sum_by}
use Rattle.std.proofs.lemmas.List.{append-nil}
use Rattle.std.proofs.lemmas.List.Elements.{All-nil, All-cons, All-append, All-weaker, All-from_get_or}
use Rattle.std.proofs.lemmas.Option.{slice_get_within, get_or_from_slice_get}
use Rattle.hc_core.specs.Read.{expression, statement}
use Rattle.hc_core.specs.Typed.{kinds_of}
use Rattle.hc_core.specs.Weight as weight
use Rattle.hc_core.specs.Weight.{weight_of, statement_flops}
use Rattle.hc_core.specs.declared.expr.Expr.{Expr}
use Rattle.hc_core.specs.declared.object.Core.{Core}
use Rattle.hc_core.specs.declared.object.Kind.{Kind}
use Rattle.hc_core.specs.declared.object.Kind.TheVariants as kind
use Rattle.hc_net.specs.Circuit.{Circuit, node_at, flops_of, gates_of, memories_of}
use Rattle.hc_net.specs.Frame.{keeps_gates, low_within, within_low}
use Rattle.hc_net.specs.Made.{Over, IsGate}
use Rattle.hc_net.specs.MadeLemmas.{Over-within}
use Rattle.hc_net.specs.Seal as seal
use Rattle.hc_net.specs.Seal.{IsSealable, Within}
use Rattle.hc_net.specs.Valid.{PortHasSizes, RamHasSizes, port_name}
use Rattle.hc_net.specs.declared.net.FlopName.{FlopName}
use Rattle.hc_net.specs.declared.net.FlopName.TheVariants.{Token}
use Rattle.hc_net.specs.declared.net.Port.{Port}
use Rattle.hc_net.specs.declared.node.Node.{Node}
use Rattle.hc_net.specs.declared.ram.RamCell.{RamCell}
use Rattle.hc_net.specs.declared.node.Node.TheVariants.{Input, Flop, Wire, Gate, Ram}
use Rattle.hc_token.specs.Control.{tokens_from}
use Rattle.hc_token.specs.Counting.{flops_append, gates_append, gates_most, no_flops}
use Rattle.hc_token.specs.Part.{IsClosed, closed_gate, closed_kept}
use Rattle.hc_value.specs.Objects.{nets_of}
use Rattle.hc_value.specs.Reads.{reached, read_nets}
use Rattle.hc_value.specs.declared.objects.ObjectNets.{ObjectNets}
use Rattle.hc_control.specs.Built.{is_built_expression}
use Rattle.hc_control.specs.Controlled.{most_control}
use Rattle.hc_control.specs.Right.{AreAll}
use Rattle.hc_control.specs.declared.uses.ObjectUses.{ObjectUses}
use Rattle.hc_build.specs.Implements.{shape_of, shapes_of}
use Rattle.hc_build.specs.Objects.{nodes_from, ports_from}
use Rattle.hc_build.specs.Sources.{output_gates}
use Rattle.hc_build.specs.Uses.{all_next_gates}
use Rattle.hc_build.proofs.Program.{built_outputs}
use Rattle.hc_build.proofs.Stages.{Stages}
use Rattle.hc_build.proofs.StructureNames.{flops_of-bare, gates_of-bare, objects_flops, objects_gates, tokens_many, distinct_names}
use Rattle.hc_build.proofs.StructurePorts.{shapes_are, shapes_placed, names_are, names_differ, sizes_are}
use Rattle.hc_build.proofs.StructureStages.{constants, used_nodes, grown_nodes, uses_of, constants_stand, can_connect, few_next}
use Rattle.hc_build.proofs.StructureWithin.{reads_all}
use Rattle.hc_build.proofs.StructureJoined.{IsFed, Joined, Finished, done, input, driven, finished, own_nets, register_last, array_last, input_last, gate_last}
use Rattle.hc_build.proofs.Weights.{all_next_light}

-- ---- from the stages

module _ {core : Core} {at : ObjectNets} {uses : List ObjectUses} {sources : List (List ℕ)} {placed used read last : Circuit} (s : Stages core at uses sources placed used read last) where
  -- control, and the gates behind it
  pub behind : List Node
  behind = s.controlled.adds.added ++ s.makes_sources.adds.gates

  pub read_nodes : read.nodes ≡ nodes_from 0 0 (kinds_of core.objects) ++ (constants ++ behind)
  unfolding behind
  read_nodes =
      s.makes_sources.adds.nodes
      ∙ ap (λ l. l ++ s.makes_sources.adds.gates) (used_nodes core placed used at s.places s.controlled.adds)
      ∙ grown_nodes (nodes_from 0 0 (kinds_of core.objects)) constants s.controlled.adds.added s.makes_sources.adds.gates

  behind_parts : All (IsClosed read.nodes) behind
  unfolding behind
  behind_parts =
      All-append (IsClosed read.nodes) s.controlled.adds.added s.makes_sources.adds.gates
      (All-weaker (IsClosed used.nodes) (IsClosed read.nodes) (closed_kept (keeps_gates s.makes_sources.adds)) s.controlled.adds.added s.controlled.adds.parts)
      (All-weaker IsGate (IsClosed read.nodes) (closed_gate read.nodes) s.makes_sources.adds.gates s.makes_sources.adds.only)

  pub joined : Joined (kinds_of core.objects) at sources read last
  joined = record {
    behind = behind;
    nodes = read_nodes;
    parts = behind_parts;
    objects = s.places.objects;
    stand = constants_stand core placed at behind read.nodes s.places read_nodes;
    sized = (can_connect core at uses sources placed used read s.places s.controlled s.makes_sources).each;
    connects = s.connects;
  }

  -- the source of an output reaches what its expression reads
  pub output_over : (k w : ℕ) (sign : Bool) (pins : List (List ℕ)) (value : Expr) → slice_get (kinds_of core.objects) k ≡ Some (kind.Output w sign pins value)
      → All (Over read.nodes (reached at (expression value))) (slice_index_or sources k [])
  output_over k w sign pins value is =
      let u = uses_of (kinds_of core.objects) uses k (kind.Output w sign pins value) s.controlled.count is in
      (s.makes_sources.each k (kind.Output w sign pins value) u.0 is u.1).1.0

  -- it has the core's ports and clock pin
  pub last_ports : last.ports ≡ ports_from 0 core.objects
  last_ports = s.connects.ports ∙ s.makes_sources.adds.ports ∙ s.controlled.adds.ports ∙ s.places.ports

  pub same_clock : last.clock ≡ core.clock
  same_clock = s.connects.clock ∙ s.makes_sources.adds.clock ∙ s.controlled.adds.clock ∙ s.places.clock

  pub same_shapes : map shape_of last.ports ≡ shapes_of core.objects
  same_shapes = ap (map shape_of) last_ports ∙ shapes_are 0 core.objects

  pub same_placed_shapes : (place : ℕ → ℕ) → map shape_of (map (seal.placed place) last.ports) ≡ shapes_of core.objects
  same_placed_shapes place = shapes_placed place last.ports ∙ same_shapes

  -- what it reads is no matter for the flip-flops and the gates
  last_flops : flops_of last.nodes ≡ flops_of (nodes_from 0 0 (kinds_of core.objects) ++ (constants ++ behind))
  last_flops = sym (flops_of-bare last.nodes) ∙ ap flops_of s.connects.bare ∙ flops_of-bare read.nodes ∙ ap flops_of read_nodes

  last_gates : gates_of last.nodes ≡ gates_of (nodes_from 0 0 (kinds_of core.objects) ++ (constants ++ behind))
  last_gates = sym (gates_of-bare last.nodes) ∙ ap gates_of s.connects.bare ∙ gates_of-bare read.nodes ∙ ap gates_of read_nodes

  -- the flip-flops behind the objects are the tokens
  behind_flops : flops_of (constants ++ behind) ≡ (Token 0, true) ∷ tokens_from 1 (statement_flops (statement core.main))
  unfolding behind
  behind_flops =
      flops_append constants (s.controlled.adds.added ++ s.makes_sources.adds.gates)
      ∙ flops_append s.controlled.adds.added s.makes_sources.adds.gates
      ∙ ap (λ l. flops_of s.controlled.adds.added ++ l) (no_flops s.makes_sources.adds.gates s.makes_sources.adds.only)
      ∙ append-nil (flops_of s.controlled.adds.added)
      ∙ s.controlled.adds.tokens

  behind_gates : gates_of (constants ++ behind) ≤ 2 + (most_control core + (all_next_gates used.nodes (kinds_of core.objects) uses + sum_by (output_gates (kinds_of core.objects)) (kinds_of core.objects)))
  unfolding behind
  behind_gates =
      let both = gates_append s.controlled.adds.added s.makes_sources.adds.gates in
      let control = s.controlled.adds.gates in
      let most = gates_most s.makes_sources.adds.gates in
      let made = s.makes_sources.adds.few in
      omega arith

  pub few_flops : length (flops_of last.nodes) ≤ weight.flops_of core
  few_flops =
      let own : List Node = nodes_from 0 0 (kinds_of core.objects) in
      let more : List Node = constants ++ behind in
      let all : length (flops_of last.nodes) ≡ length (flops_of own ++ flops_of more) = ap length (last_flops ∙ flops_append own more) in
      let outer = length-append (flops_of own) (flops_of more) in
      let objects = objects_flops 0 0 (kinds_of core.objects) in
      let tokens = ap length behind_flops in
      let many = tokens_many 1 (statement_flops (statement core.main)) in
      omega arith

  pub few_gates : gates_of last.nodes ≤ weight_of core
  few_gates =
      let own : List Node = nodes_from 0 0 (kinds_of core.objects) in
      let outer = gates_append own (constants ++ behind) in
      let all = last_gates in
      let objects = objects_gates 0 0 (kinds_of core.objects) in
      let most = behind_gates in
      let next = few_next s.buildable s.places s.controlled in
      let light = all_next_light (kinds_of core.objects) (kinds_of core.objects) in
      omega arith

-- ---- what a net reaches

over_nets : (P : ℕ → Type 0) (nets : List ℕ) (n : ℕ) → length nets ≡ n → ((i : ℕ) → i < n → P (slice_index nets i)) → All P nets
over_nets P nets n size each = All-from_get_or P nets 0 (λ i low. each i (omega arith))

fed_within : {nodes : List Node} {k d : ℕ} → IsFed (node_at nodes k) d → Within nodes 0 k
fed_within {k = k} {d = d} fed = seal.flop k fed.name fed.init (Some d) fed.is

reads_within : {kinds : List Kind} {at : ObjectNets} {sources : List (List ℕ)} {old last : Circuit} → Joined kinds at sources old last → AreAll (Within last.nodes 0) kinds at
reads_within {kinds} {at} {last = last} j = record {
  register = λ k w s init is. over_nets (Within last.nodes 0) (nets_of at k) w (own_nets j k (kind.Reg w s init) is).count (λ i low. fed_within (register_last j k i w s init is low));
  array = λ k w n s init is. over_nets (Within last.nodes 0) (nets_of at k) (n * w) (own_nets j k (kind.Array w s n init) is).count (λ i low. fed_within (array_last j k i w n s init is low));
  input = λ k w s pins is. over_nets (Within last.nodes 0) (nets_of at k) w (own_nets j k (kind.Input w s pins) is).count (λ i low. seal.input _ _ i (input_last j k i w s pins is low));
}

-- ---- sealable

-- no flip-flop is left that reads nothing
not_unfed : {kinds : List Kind} {nodes : List Node} {sources : List (List ℕ)} (x : Node) → Finished kinds nodes sources x → (name : FlopName) (init : Bool) → x ≢ Flop name init None
not_unfed {nodes = nodes} x (done y is) name init = λ same. subst (IsClosed nodes) same is
not_unfed _ (input p i) name init = λ same. absurd cc
not_unfed _ (driven k i w s pins value is low) name init = λ same. absurd cc

-- a placeholder is driven by what reaches smaller ranks alone
done_driven : (nodes : List Node) (x : Node) → IsClosed nodes x → (rank : ℕ) (from : Option ℕ) → x ≡ Wire rank from → (d : ℕ) × (from ≡ Some d) × Within nodes rank d
done_driven nodes (Input p i) is rank from same = absurd is
done_driven nodes (Flop name init d) is rank from same = absurd cc
done_driven nodes (Wire r None) is rank from same = absurd is
done_driven nodes (Wire r (Some d)) is rank from same =
    let ranks : r ≡ rank = cc in
    let drivers : Some d ≡ from = cc in
    (d, sym drivers, subst (λ n. Within nodes n d) ranks (low_within is))
done_driven nodes (Gate g a b) is rank from same = absurd cc
done_driven nodes (Ram r first ram) is rank from same = absurd cc

is_driven : {kinds : List Kind} {nodes : List Node} {sources : List (List ℕ)} (x : Node) → Finished kinds nodes sources x
    → ((k i w : ℕ) (sign : Bool) (pins : List (List ℕ)) (value : Expr) → slice_get kinds k ≡ Some (kind.Output w sign pins value) → i < w → Within nodes 0 (slice_index (slice_index_or sources k []) i))
    → (rank : ℕ) (from : Option ℕ) → x ≡ Wire rank from → (d : ℕ) × (from ≡ Some d) × Within nodes rank d
is_driven {nodes = nodes} x (done y is) outputs rank from same = done_driven nodes x is rank from same
is_driven _ (input p i) outputs rank from same = absurd cc
is_driven {nodes = nodes} {sources = sources} _ (driven k i w s pins value is low) outputs rank from same =
    let net : ℕ = slice_index (slice_index_or sources k []) i in
    let ranks : 2 ^ 32 - 1 ≡ rank = cc in
    let drivers : Some net ≡ from = cc in
    (net, sym drivers, subst (λ n. Within nodes n net) ranks (low_within (within_low (outputs k i w s pins value is low))))

-- no node is part of a RAM
abbrev is_ram : Node → Bool
is_ram (Input p i) = false
is_ram (Flop name init d) = false
is_ram (Wire rank from) = false
is_ram (Gate g a b) = false
is_ram (Ram rank first ram) = true

control_no_ram : (nodes : List Node) (x : Node) → IsClosed nodes x → is_ram x ≡ false
control_no_ram nodes (Input p i) is = refl
control_no_ram nodes (Flop name init d) is = refl
control_no_ram nodes (Wire rank from) is = refl
control_no_ram nodes (Gate g a b) is = refl
control_no_ram nodes (Ram rank first ram) is = absurd is

no_ram : {kinds : List Kind} {nodes : List Node} {sources : List (List ℕ)} (x : Node) → Finished kinds nodes sources x → is_ram x ≡ false
no_ram {nodes = nodes} x (done y is) = control_no_ram nodes x is
no_ram _ (input p i) = refl
no_ram _ (driven k i w s pins value is low) = refl

none_of : (nodes : List Node) → ((n : ℕ) (x : Node) → slice_get nodes n ≡ Some x → is_ram x ≡ false) → memories_of nodes ≡ []
none_of [] none = refl
none_of (Input p i ∷ nodes) none = none_of nodes (λ n x is. none (suc n) x is)
none_of (Flop name init d ∷ nodes) none = none_of nodes (λ n x is. none (suc n) x is)
none_of (Wire rank from ∷ nodes) none = none_of nodes (λ n x is. none (suc n) x is)
none_of (Gate g a b ∷ nodes) none = none_of nodes (λ n x is. none (suc n) x is)
none_of (Ram rank first ram ∷ nodes) none = let wrong : true ≡ false = none 0 (Ram rank first ram) refl in absurd cc

module _ {core : Core} {at : ObjectNets} {uses : List ObjectUses} {sources : List (List ℕ)} {placed used read last : Circuit} (s : Stages core at uses sources placed used read last) where
  -- what an output's source reaches
  output_within : (k i w : ℕ) (sign : Bool) (pins : List (List ℕ)) (value : Expr) → slice_get (kinds_of core.objects) k ≡ Some (kind.Output w sign pins value) → i < w
      → Within last.nodes 0 (slice_index (slice_index_or sources k []) i)
  output_within k i w sign pins value is low =
      let j = joined s in
      let kinds : List Kind = kinds_of core.objects in
      let nets : List ℕ = slice_index_or sources k [] in
      let size : length nets ≡ w = (j.sized k (kind.Output w sign pins value) is).count in
      let over : Over read.nodes (reached at (expression value)) (slice_index nets i) = output_over s k w sign pins value is i 0 (omega arith) in
      let sound = s.buildable.sound.kinds k (kind.Output w sign pins value) is in
      let built : is_built_expression (expression value) ≡ true = built_outputs core s.buildable k (kind.Output w sign pins value) is in
      let names : All (Within last.nodes 0) (read_nets at (expression value)) = reads_all (reads_within j) (expression value) w sign sound.typed built in
      let zero : Within last.nodes 0 at.zero = seal.zero at.zero 0 0 (gate_last j at.zero _ 0 0 j.stand.zero) in
      let one : Within last.nodes 0 at.one = seal.one at.one 0 0 (gate_last j at.one _ 0 0 j.stand.one) in
      let all : All (Within last.nodes 0) (reached at (expression value)) =
      All-cons (Within last.nodes 0) at.zero (at.one ∷ read_nets at (expression value)) zero (All-cons (Within last.nodes 0) at.one (read_nets at (expression value)) one names) in
      Over-within all (j.connects.keeps.over (reached at (expression value)) (slice_index nets i) over)

  node_finished : (n : ℕ) (x : Node) → slice_get last.nodes n ≡ Some x → Finished (kinds_of core.objects) last.nodes sources x
  node_finished n x is =
      subst (λ (y : Node). Finished (kinds_of core.objects) last.nodes sources y) (get_or_from_slice_get last.nodes n x (Wire 0 None) is)
      (finished (joined s) n (slice_get_within last.nodes n x is))

  -- It has no RAM.
  pub no_memories : memories_of last.nodes ≡ []
  no_memories = none_of last.nodes (λ n x is. no_ram x (node_finished n x is))

  -- The circuit can be sealed.
  pub sealable : IsSealable last
  sealable = record {
    fed = λ n name init is. not_unfed (Flop name init None) (node_finished n (Flop name init None) is) name init refl;
    driven = λ n rank from is. is_driven (Wire rank from) (node_finished n (Wire rank from) is) output_within rank from refl;
    flop_names = λ i j f g lower at_i at_j.
        distinct_names (kinds_of core.objects) (statement_flops (statement core.main)) (constants ++ behind s) (behind_flops s) i j f g lower
        (subst (λ (l : List (FlopName × Bool)). slice_get l i ≡ Some f) (last_flops s) at_i)
        (subst (λ (l : List (FlopName × Bool)). slice_get l j ≡ Some g) (last_flops s) at_j);
    port_names = names_differ last.ports _ (ap (map port_name) (last_ports s) ∙ names_are 0 core.objects) s.buildable.sound.names_differ;
    ram_names = λ i j r t lower at_i at_j. let none : slice_get [] i ≡ Some r = subst (λ (l : List RamCell). slice_get l i ≡ Some r) no_memories at_i in absurd cc;
    ram_sizes = subst (All RamHasSizes) (sym no_memories) (All-nil RamHasSizes);
    sizes = subst (λ (l : List Port). All PortHasSizes l) (sym (last_ports s)) (sizes_are (kinds_of core.objects) 0 core.objects s.buildable.sound.kinds);
  }
