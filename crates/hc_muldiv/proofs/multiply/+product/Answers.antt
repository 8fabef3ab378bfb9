use Rattle.std.proofs.Common.{ℕ, ◌<◌, length, refl, arith, rules}
use Rattle.std.proofs.lemmas.List.{get_or_default}
use Rattle.std.proofs.lemmas.List.Elements.{All-take, All-drop, All-same}
use Rattle.std.proofs.lemmas.Result.{IfOk-weaker}
use Rattle.hc_net.specs.MadeLemmas.{Adds-room, Adds-there}
use Rattle.hc_muldiv.proofs.Halves.{product_of_halves}
use Rattle.hc_muldiv.proofs.Products.{halves_gates}
use Rattle.hc_muldiv.proofs.RowCircuit.{product_of_row}
use Rattle.hc_muldiv.proofs.multiply.+product.Goals as goal

pub returns-then-y-eq1-clause-circuit : goal.returns-then-y-eq1-clause-circuit
returns-then-y-eq1-clause-circuit t c =
    IfOk-weaker c.row.result _ _ (λ z made.
    product_of_row c.args.b.now c.row.new.b c.args.x.now c.args.y.now z _ c.if-y-eq1.true (get_or_default c.args.y.now 0 _ _ (omega arith)) made) c.row.ensures.circuit

pub product-requires : goal.product-requires
product-requires t c =
    let front = c.split_at.ensures.front_len in
    let P = λ (k : ℕ). k < length c.args.b.now.nodes in
    let gates = halves_gates (length c.args.x.now) (length c.args.y.now) (length c.split_at.result.0.now) _ _ (omega arith) (omega arith) c.requires.width refl refl in
    (search rules, (c.requires.left, (All-same P _ _ c.split_at.ensures.front (All-take P _ c.args.y.now c.requires.right), (omega arith, (omega arith, omega (arith, gates))))))

pub product-requires-2 : goal.product-requires-2
product-requires-2 t c =
    let adds = c.in_ok-low.ensures.circuit.adds in
    let front = c.split_at.ensures.front_len in
    let back = c.split_at.ensures.back_len in
    let cut = c.split_at-2.ensures.front_len in
    let grown = Adds-room adds in
    let P = λ (k : ℕ). k < length c.product.new.b.nodes in
    let gates = halves_gates (length c.args.x.now) (length c.args.y.now) (length c.split_at.result.0.now) (length c.split_at-2.result.0.now) (length c.split_at.result.1.now)
    (omega arith) (omega arith) c.requires.width (omega arith) (omega arith) in (
      search rules,
      (
        All-same P _ _ c.split_at-2.ensures.front (All-take P _ c.args.x.now (Adds-there c.args.x.now adds c.requires.left)),
        (
          All-same P _ _ c.split_at.ensures.back (All-drop P _ c.args.y.now (Adds-there c.args.y.now adds c.requires.right)),
          (omega arith, (omega arith, omega (arith, gates, grown))),
        ),
      ),
    )

pub add_from-requires-clause-room : goal.add_from-requires-clause-room
add_from-requires-clause-room t c =
    let front = c.split_at.ensures.front_len in
    let back = c.split_at.ensures.back_len in
    let cut = c.split_at-2.ensures.front_len in
    let grown = Adds-room c.in_ok-low.ensures.circuit.adds in
    let more = Adds-room c.in_ok-high.ensures.circuit.adds in
    let width = c.in_ok-high.ensures.width in
    let gates = halves_gates (length c.args.x.now) (length c.args.y.now) (length c.split_at.result.0.now) (length c.split_at-2.result.0.now) (length c.split_at.result.1.now)
    (omega arith) (omega arith) c.requires.width (omega arith) (omega arith) in
    omega (arith, gates, grown, more, width)

pub returns-clause-circuit : goal.returns-clause-circuit
returns-clause-circuit t c =
    let front = c.split_at.ensures.front_len in
    let low = c.in_ok-low.ensures in
    let high = c.in_ok-high.ensures in
    IfOk-weaker c.add_from.result _ _ (λ z made.
    product_of_halves c.args.b.now c.product.new.b c.product-2.new.b c.add_from.new.b c.args.x.now c.args.y.now c.split_at-2.result.0.now c.split_at.result.0.now c.split_at.result.1.now
    c.in_ok-low.low c.in_ok-high.high z _ (omega arith) (omega arith) c.requires.width c.split_at-2.ensures.front c.split_at.ensures.front c.split_at.ensures.back low.width high.width
    low.circuit high.circuit made) c.add_from.ensures.circuit
