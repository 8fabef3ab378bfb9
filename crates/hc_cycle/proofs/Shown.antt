-- A refusal that shows a cycle with the objects' names is the one that names this cycle.
use Rattle.std.proofs.Common.{◌≡◌, ℕ, List, [], ◌∷◌, map, refl, sym, ap, ◌∙◌}
use Rattle.std.specs.Prelude.{All}
use Rattle.std.specs.List.{Contains}
use Rattle.std.proofs.lemmas.List.Elements.{All-head, All-tail, All-weaker}
use Rattle.hc_tree.specs.declared.place.Place.{Place}
use Rattle.hc_tree.specs.declared.refusal.Node.{Node}
use Rattle.hc_tree.specs.declared.refusal.Rule.{Rule}
use Rattle.hc_tree.specs.declared.refusal.Detail.{Detail}
use Rattle.hc_tree.specs.declared.refusal.Detail.TheVariants.{Cycle}
use Rattle.hc_tree.specs.declared.refusal.Refusal.{Refusal}
use Rattle.hc_core.specs.Depends.{nodes_of}
use Rattle.hc_core.specs.declared.object.Core.{Core}
use Rattle.hc_cycle.specs.Order.{NamesCycle, NamesNodes, cycle_refusal, declared_at, name_of, named, place_of_first}
use Rattle.hc_cycle.specs.Found.{IsDeclaredAt, IsNamed, ShowsCycle}

names_of : (core : Core) (list : List (Node × List ℕ)) → All (IsNamed core) list → list ≡ map (named core) (map (λ n. n.0) list)
names_of core [] all = refl
names_of core (n ∷ list) all =
    let is = All-head (IsNamed core) n list all in
    let first : n ≡ named core n.0 = ap (λ name. (n.0, name)) (is.name_is ∙ sym (ap name_of is.object_is)) in
    ap (λ x. x ∷ list) first ∙ ap (λ l. named core n.0 ∷ l) (names_of core list (All-tail (IsNamed core) n list all))

place_is : (core : Core) (nodes : List Node) (place : Place) → IsDeclaredAt core nodes place → place ≡ place_of_first core nodes
place_is core [] place h = absurd h
place_is core (first ∷ others) place h = h.2 ∙ sym (ap declared_at h.1)

abbrev refusal_by : Rule → Place → Detail → Refusal
refusal_by rule place detail = record { rule = rule; place = place; detail = detail }

pub names_shown : (core : Core) (refusal : Refusal) → ShowsCycle core refusal → NamesCycle core refusal
names_shown core refusal s =
    let nodes : List Node = map (λ n. n.0) s.named in
    record {
      nodes = nodes;
      cycle = s.cycle;
      is = is refusal nodes s.rule_is (place_is core nodes refusal.place s.declared) (s.detail_is ∙ ap Cycle (names_of core s.named s.names));
    }
  where
    is : (r : Refusal) (nodes : List Node) → r.rule ≡ (cycle_refusal core nodes).rule → r.place ≡ (cycle_refusal core nodes).place → r.detail ≡ (cycle_refusal core nodes).detail → r ≡ cycle_refusal core nodes
    is r nodes a b c =
        ap (λ x. refusal_by x r.place r.detail) a ∙ ap (λ x. refusal_by (cycle_refusal core nodes).rule x r.detail) b ∙ ap (λ x. refusal_by (cycle_refusal core nodes).rule (cycle_refusal core nodes).place x) c

pub nodes_shown : (core : Core) (refusal : Refusal) → ShowsCycle core refusal → NamesNodes core refusal
nodes_shown core refusal s = record {
  nodes = s.named;
  detail_is = s.detail_is;
  are = All-weaker (IsNamed core) (λ n. Contains (nodes_of core) n.0) (λ n is. is.node_is) s.named s.names;
}
