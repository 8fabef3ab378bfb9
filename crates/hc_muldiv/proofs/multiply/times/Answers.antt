use Rattle.std.proofs.Common.{List, ℕ, length, ap, ◌∙◌, arith}
use Rattle.hc_muldiv.proofs.Halves.{product_returned}
use Rattle.hc_muldiv.proofs.Products.{square_gates}
use Rattle.hc_muldiv.proofs.multiply.times.Goals as goal

pub product-requires-clause-room : goal.product-requires-clause-room
product-requires-clause-room c =
    let gates = square_gates (length c.args.x.now) (length c.as_slice.result.now) (length c.as_slice-2.result.now)
    (ap (λ (l : List ℕ). length l) c.as_slice.ensures) (ap (λ (l : List ℕ). length l) c.as_slice-2.ensures ∙ c.requires.width) in
    omega (arith, gates)

pub returns-clause-circuit : goal.returns-clause-circuit
returns-clause-circuit c =
    product_returned c.product.result c.args.b.now c.product.new.b c.args.x.now c.args.y.now c.as_slice.result.now c.as_slice-2.result.now
    c.as_slice.ensures c.as_slice-2.ensures c.requires.width c.product.ensures.width c.product.ensures.circuit
