-- The steps of a builder's calls, from what is known of the builder to what it keeps.
use Rattle.std.proofs.Common.{◌≡◌, ◌<◌, ℕ, ◌+◌, ◌-◌, ◌^◌, ◌⊎◌, List, [], ◌∷◌, ◌++◌, length, get_or, set, ap, sym, ◌∙◌, subst}
use Rattle.std.specs.Prelude.{All, min}
use Rattle.std.proofs.lemmas.List.{get_or_default}
use Rattle.hc_net.specs.Circuit.{Circuit, Extends, node_at, input_count, input_nodes, NodeReadsWithin, IsBuilt, IsAlone, reading, IsUnfed, IsUndriven}
use Rattle.hc_net.specs.declared.net.Port.{Port}
use Rattle.hc_net.specs.declared.net.Port.TheVariants as port
use Rattle.hc_net.specs.declared.node.Node.{Node}
use Rattle.hc_net.proofs.Nodes.{IsBuilt-node, IsBuilt-connected, IsBuilt-input, IsBuilt-output, extends_append, extends_set, input_count-input, input_count-output}

-- b is the builder by its fields, and c is what its callers see
pub built_added : (b c : Circuit) (node : Node) (nodes : List Node) → b ≡ c → IsBuilt b → IsAlone node → NodeReadsWithin (length c.nodes) (length c.nodes) node → length c.nodes + 1 < 2 ^ 32 → nodes ≡ b.nodes ++ node ∷ [] → IsBuilt (record { clock = b.clock; ports = b.ports; nodes = nodes })
built_added b c node nodes same built other last room is =
    let at : NodeReadsWithin (length b.nodes) (length b.nodes) node = subst (λ (d : Circuit). NodeReadsWithin (length d.nodes) (length d.nodes) node) (sym same) last in
    let free : length b.nodes + 1 < 2 ^ 32 = subst (λ (d : Circuit). length d.nodes + 1 < 2 ^ 32) (sym same) room in
    subst (λ (l : List Node). IsBuilt (record { clock = b.clock; ports = b.ports; nodes = l })) (sym is) (IsBuilt-node b node built other at free)

pub extends_added : (b c : Circuit) (node : Node) (nodes : List Node) → b ≡ c → nodes ≡ b.nodes ++ node ∷ [] → Extends c.nodes nodes
extends_added b c node nodes same is =
    subst (λ (l : List Node). Extends c.nodes l) (sym (is ∙ ap (λ (d : Circuit). d.nodes ++ node ∷ []) same)) (extends_append c.nodes (node ∷ []))

module _ (b c : Circuit) (k d : ℕ) (nodes : List Node) (same : b ≡ c) (within : k < length c.nodes) (connected_inside : nodes ≡ set b.nodes k (reading d (node_at b.nodes k))) where
  here : k < length b.nodes
  here = subst (λ (x : Circuit). k < length x.nodes) (sym same) within

  connected_is : nodes ≡ set c.nodes k (reading d (node_at c.nodes k))
  connected_is = connected_inside ∙ ap (λ (x : Circuit). set x.nodes k (reading d (node_at x.nodes k))) same

  pub built_connected : IsBuilt b → d < length c.nodes → IsBuilt (record { clock = b.clock; ports = b.ports; nodes = nodes })
  built_connected built there =
      let from : d < length b.nodes = subst (λ (x : Circuit). d < length x.nodes) (sym same) there in
      subst (λ (l : List Node). IsBuilt (record { clock = b.clock; ports = b.ports; nodes = l })) (sym connected_inside) (IsBuilt-connected b k d built here from)

  pub extends_connected : IsUnfed (node_at c.nodes k) ⊎ IsUndriven (node_at c.nodes k) → Extends c.nodes nodes
  extends_connected unread = subst (λ (l : List Node). Extends c.nodes l) (sym connected_is) (extends_set c.nodes k d within unread)

pub built_output : (b c : Circuit) (name : List ℕ) (width : ℕ) (pins : List (List ℕ)) (from : List ℕ) (ports : List Port) → b ≡ c → IsBuilt b → All (λ k. k < length c.nodes) from → length c.ports + 1 < 2 ^ 32 → width ≡ min (length from) (2 ^ 32 - 1) → ports ≡ b.ports ++ port.Output name width pins from ∷ [] → IsBuilt (record { clock = b.clock; ports = ports; nodes = b.nodes })
built_output b c name width pins from ports same built nets room wide is =
    let there : All (λ k. k < length b.nodes) from = subst (λ (e : Circuit). All (λ k. k < length e.nodes) from) (sym same) nets in
    let free : length b.ports + 1 < 2 ^ 32 = subst (λ (e : Circuit). length e.ports + 1 < 2 ^ 32) (sym same) room in
    subst (λ (l : List Port). IsBuilt (record { clock = b.clock; ports = l; nodes = b.nodes })) (sym (is ∙ ap (λ w. b.ports ++ port.Output name w pins from ∷ []) wide)) (IsBuilt-output b name pins from built there free)

pub counted_output : (n : ℕ) (old : List Port) (name : List ℕ) (width : ℕ) (pins : List (List ℕ)) (from : List ℕ) (ports : List Port) → n ≡ input_count old → ports ≡ old ++ port.Output name width pins from ∷ [] → n ≡ input_count ports
counted_output n old name width pins from ports count is = count ∙ sym (ap input_count is ∙ input_count-output old name width pins from)

pub built_input : (b c : Circuit) (name : List ℕ) (width : ℕ) (pins : List (List ℕ)) (number : ℕ) (ports : List Port) (nodes : List Node) → b ≡ c → IsBuilt b → length c.nodes + width < 2 ^ 32 → length c.ports + 1 < 2 ^ 32 → number ≡ input_count b.ports → ports ≡ b.ports ++ port.Input name width pins ∷ [] → nodes ≡ b.nodes ++ input_nodes number width → IsBuilt (record { clock = b.clock; ports = ports; nodes = nodes })
built_input b c name width pins number ports nodes same built nets room count ports_are nodes_are =
    let free : length b.nodes + width < 2 ^ 32 = subst (λ (e : Circuit). length e.nodes + width < 2 ^ 32) (sym same) nets in
    let open_ports : length b.ports + 1 < 2 ^ 32 = subst (λ (e : Circuit). length e.ports + 1 < 2 ^ 32) (sym same) room in
    let to : nodes ≡ b.nodes ++ input_nodes (input_count b.ports) width = nodes_are ∙ ap (λ n. b.nodes ++ input_nodes n width) count in
    subst (λ (l : List Port). IsBuilt (record { clock = b.clock; ports = l; nodes = nodes })) (sym ports_are) (subst (λ (l : List Node). IsBuilt (record { clock = b.clock; ports = b.ports ++ port.Input name width pins ∷ []; nodes = l })) (sym to) (IsBuilt-input b name width pins built free open_ports))

pub counted_input : (n : ℕ) (old : List Port) (name : List ℕ) (width : ℕ) (pins : List (List ℕ)) (ports : List Port) → n ≡ input_count old → ports ≡ old ++ port.Input name width pins ∷ [] → n + 1 ≡ input_count ports
counted_input n old name width pins ports count is = ap (λ m. m + 1) count ∙ sym (ap input_count is ∙ input_count-input old name width pins)

pub extends_input : (b c : Circuit) (number width : ℕ) (nodes : List Node) → b ≡ c → nodes ≡ b.nodes ++ input_nodes number width → Extends c.nodes nodes
extends_input b c number width nodes same is =
    subst (λ (l : List Node). Extends c.nodes l) (sym (is ∙ ap (λ (d : Circuit). d.nodes ++ input_nodes number width) same)) (extends_append c.nodes (input_nodes number width))
