use Rattle.std.proofs.Common.{◌≡◌, ◌≤◌, ◌<◌, ℕ, ◌+◌, ◌-◌, ◌∙◌, List, [], ◌∷◌, length, sym, ap, ap₂, subst, arith, unwrap_or, IsSome, Some, None, set, Option}
use Rattle.std.specs.Prelude.{All}
use Rattle.hc_net.specs.Order.{Reads, IsDriven}
use Rattle.hc_net.specs.Place.{place_at, place_of, cell_of, ArePlaces}
use Rattle.hc_net.specs.declared.node.Node.{Node}
use Rattle.hc_net.specs.declared.node.Node.TheVariants.{Ram}
use Rattle.hc_net.specs.declared.ram.RamCell.{RamCell}
use Rattle.hc_net.proofs.Places.{wire_placed, gate_placed, bit_below, bit_placed, ram_placed, room, none_at, node_is, nets_in}
use Rattle.hc_net.proofs.seal.cells.place_net.Goals as goal

pub overflow_add-result : goal.overflow_add-result
overflow_add-result c =
    let size = c.requires.places.size in
    let none = none_at c.args.places.now c.args.net _ _ (omega arith) c.is_some.ensures c.if-is_some.false in
    let is = node_is c.args.nodes.now c.args.net _ _ c.requires.net (sym c.index-nodes-net.is ∙ c.in-Gate.is) in
    let one : nets_in _ ≡ 1 = ap nets_in is in
    omega (arith, room c.args.nodes.now c.args.places.now c.args.cells.now c.args.net c.requires.rams c.requires.places c.requires.net none)

pub overflow_sub-place : goal.overflow_sub-place
overflow_sub-place c =
    let size = c.requires.places.size in
    let none = none_at c.args.places.now c.args.net _ _ (omega arith) c.is_some.ensures c.if-is_some.false in
    let is = node_is c.args.nodes.now c.args.net _ _ c.requires.net (sym c.index-nodes-net.is ∙ c.in-Ram.is ∙ ap (Ram c.in-Ram.rank c.in-Ram.first) c.in-None.is) in
    let low = (bit_below c.args.nodes.now c.args.places.now c.args.cells.now c.args.net c.requires.rams c.requires.places c.requires.net none _ _ is (subst (λ (n : Node). Reads (λ k. IsSome (place_at c.args.places.now k)) n) is c.requires.ready)).0 in
    omega arith

pub overflow_add-place : goal.overflow_add-place
overflow_add-place c =
    let size = c.requires.places.size in
    let none = none_at c.args.places.now c.args.net _ _ (omega arith) c.is_some.ensures c.if-is_some.false in
    let is = node_is c.args.nodes.now c.args.net _ _ c.requires.net (sym c.index-nodes-net.is ∙ c.in-Ram.is ∙ ap (Ram c.in-Ram.rank c.in-Ram.first) c.in-None.is) in
    let below = (bit_below c.args.nodes.now c.args.places.now c.args.cells.now c.args.net c.requires.rams c.requires.places c.requires.net none _ _ is (subst (λ (n : Node). Reads (λ k. IsSome (place_at c.args.places.now k)) n) is c.requires.ready)).1 in
    let value = c.place_of-in-None.ensures in
    omega (arith, room c.args.nodes.now c.args.places.now c.args.cells.now c.args.net c.requires.rams c.requires.places c.requires.net none)

pub overflow_add-result-in-Some : goal.overflow_add-result-in-Some
overflow_add-result-in-Some c =
    let size = c.requires.places.size in
    let none = none_at c.args.places.now c.args.net _ _ (omega arith) c.is_some.ensures c.if-is_some.false in
    let is = node_is c.args.nodes.now c.args.net _ _ c.requires.net (sym c.index-nodes-net.is ∙ c.in-Ram.is ∙ ap (Ram c.in-Ram.rank c.in-Ram.first) c.in-Some.is) in
    let width : nets_in _ ≡ c.in-Some.ram.width + 0 = ap nets_in is in
    let got = ap (λ (r : RamCell). r.width) c.get.ensures in
    omega (arith, room c.args.nodes.now c.args.places.now c.args.cells.now c.args.net c.requires.rams c.requires.places c.requires.net none)

pub returns-in-Wire-clause-places : goal.returns-in-Wire-clause-places
returns-in-Wire-clause-places c =
    let size = c.requires.places.size in
    let none = none_at c.args.places.now c.args.net _ _ (omega arith) c.is_some.ensures c.if-is_some.false in
    let is = node_is c.args.nodes.now c.args.net _ _ c.requires.net (sym c.index-nodes-net.is ∙ c.in-Wire.is) in
    let to : c.place_of-place.result ≡ place_of c.args.places.now (unwrap_or c.in-Wire.from 0) = c.place_of-place.ensures ∙ ap (place_of c.args.places.now) c.unwrap_or.ensures in
    subst (λ (p : ℕ). ArePlaces c.args.nodes.now (set c.args.places.now c.args.net (Some p)) c.args.cells.now) (sym to) (wire_placed c.args.nodes.now c.args.places.now c.args.cells.now c.args.net c.requires.rams c.requires.places c.requires.net none c.in-Wire.rank c.in-Wire.from is (subst IsDriven is c.requires.driven) (subst (λ (n : Node). Reads (λ k. IsSome (place_at c.args.places.now k)) n) is c.requires.ready))

pub returns-in_ok-push-in-Gate-clause-places : goal.returns-in_ok-push-in-Gate-clause-places
returns-in_ok-push-in-Gate-clause-places c =
    let size = c.requires.places.size in
    let none = none_at c.args.places.now c.args.net _ _ (omega arith) c.is_some.ensures c.if-is_some.false in
    let is = node_is c.args.nodes.now c.args.net _ _ c.requires.net (sym c.index-nodes-net.is ∙ c.in-Gate.is) in
    let this = c.cell_of-cell.ensures ∙ ap₂ (cell_of c.in-Gate.kind) c.place_of.ensures c.place_of-in-Gate.ensures in
    (gate_placed c.args.nodes.now c.args.places.now c.args.cells.now c.args.net c.requires.rams c.requires.places c.requires.net none c.in-Gate.kind c.in-Gate.a c.in-Gate.b _ c.cell_of-cell.result c.push.new.cells is (subst (λ (n : Node). Reads (λ k. IsSome (place_at c.args.places.now k)) n) is c.requires.ready) c.requires.next this c.in_ok-push-in-Gate.ensures).0

pub returns-in_ok-push-in-Gate-clause-next : goal.returns-in_ok-push-in-Gate-clause-next
returns-in_ok-push-in-Gate-clause-next c =
    let size = c.requires.places.size in
    let none = none_at c.args.places.now c.args.net _ _ (omega arith) c.is_some.ensures c.if-is_some.false in
    let is = node_is c.args.nodes.now c.args.net _ _ c.requires.net (sym c.index-nodes-net.is ∙ c.in-Gate.is) in
    let this = c.cell_of-cell.ensures ∙ ap₂ (cell_of c.in-Gate.kind) c.place_of.ensures c.place_of-in-Gate.ensures in
    (gate_placed c.args.nodes.now c.args.places.now c.args.cells.now c.args.net c.requires.rams c.requires.places c.requires.net none c.in-Gate.kind c.in-Gate.a c.in-Gate.b _ c.cell_of-cell.result c.push.new.cells is (subst (λ (n : Node). Reads (λ k. IsSome (place_at c.args.places.now k)) n) is c.requires.ready) c.requires.next this c.in_ok-push-in-Gate.ensures).1

pub returns-in-None-clause-places : goal.returns-in-None-clause-places
returns-in-None-clause-places c =
    let size = c.requires.places.size in
    let none = none_at c.args.places.now c.args.net _ _ (omega arith) c.is_some.ensures c.if-is_some.false in
    let is = node_is c.args.nodes.now c.args.net _ _ c.requires.net (sym c.index-nodes-net.is ∙ c.in-Ram.is ∙ ap (Ram c.in-Ram.rank c.in-Ram.first) c.in-None.is) in
    subst (λ (p : ℕ). ArePlaces c.args.nodes.now (set c.args.places.now c.args.net (Some (p + (c.args.net - c.in-Ram.first)))) c.args.cells.now) (sym c.place_of-in-None.ensures) (bit_placed c.args.nodes.now c.args.places.now c.args.cells.now c.args.net c.requires.rams c.requires.places c.requires.net none _ _ is (subst (λ (n : Node). Reads (λ k. IsSome (place_at c.args.places.now k)) n) is c.requires.ready))

pub returns-in_ok-push-in-Some-clause-places : goal.returns-in_ok-push-in-Some-clause-places
returns-in_ok-push-in-Some-clause-places c =
    let size = c.requires.places.size in
    let none = none_at c.args.places.now c.args.net _ _ (omega arith) c.is_some.ensures c.if-is_some.false in
    let is = node_is c.args.nodes.now c.args.net _ _ c.requires.net (sym c.index-nodes-net.is ∙ c.in-Ram.is ∙ ap (Ram c.in-Ram.rank c.in-Ram.first) c.in-Some.is) in
    (ram_placed c.args.nodes.now c.args.places.now c.args.cells.now c.args.net c.requires.rams c.requires.places c.requires.net none _ _ _ c.in-Some.ram _ c.push-in-Some.new.cells is (subst (λ (n : Node). Reads (λ k. IsSome (place_at c.args.places.now k)) n) is c.requires.ready) c.requires.next (c.in_ok-copy-in-Some-2.ensures ∙ c.in_ok-copy-in-Some.ensures ∙ c.get-in-Some.ensures) c.in_ok-push-in-Some.ensures).0

pub returns-in_ok-push-in-Some-clause-next : goal.returns-in_ok-push-in-Some-clause-next
returns-in_ok-push-in-Some-clause-next c =
    let size = c.requires.places.size in
    let none = none_at c.args.places.now c.args.net _ _ (omega arith) c.is_some.ensures c.if-is_some.false in
    let is = node_is c.args.nodes.now c.args.net _ _ c.requires.net (sym c.index-nodes-net.is ∙ c.in-Ram.is ∙ ap (Ram c.in-Ram.rank c.in-Ram.first) c.in-Some.is) in
    ap (λ (r : RamCell). c.args.next + r.width) c.get.ensures
    ∙ (ram_placed c.args.nodes.now c.args.places.now c.args.cells.now c.args.net c.requires.rams c.requires.places c.requires.net none _ _ _ c.in-Some.ram _ c.push-in-Some.new.cells is (subst (λ (n : Node). Reads (λ k. IsSome (place_at c.args.places.now k)) n) is c.requires.ready) c.requires.next (c.in_ok-copy-in-Some-2.ensures ∙ c.in_ok-copy-in-Some.ensures ∙ c.get-in-Some.ensures) c.in_ok-push-in-Some.ensures).1
