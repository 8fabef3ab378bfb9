use Rattle.std.proofs.Common.{List, ℕ, ◌+◌, sym, subst, arith}
use Rattle.std.proofs.lemmas.List.{get_or_default}
use Rattle.hc_muldiv.proofs.RowCircuit.{Row, Row-more, Row-done}
use Rattle.hc_muldiv.proofs.multiply.row.Goals as goal

pub loop-net-preserved : goal.loop-net-preserved
loop-net-preserved c =
    let within = c.loop-net-test.true in
    subst (λ (nets : List ℕ). Row c.args.b.now c.gate.new.self c.args.x.now c.args.bit (c.loop-net.net-index + 1) nets) (sym c.in_ok-push.ensures.ok)
    (Row-more c.args.b.now c.loop-net.b c.gate.new.self c.args.x.now c.args.bit c.loop-net.net-index _ c.in_ok-product.product c.loop-net.products c.loop-net.invariant within
    (get_or_default c.args.x.now c.loop-net.net-index _ _ within) c.in_ok-product.ensures.ok)

pub returns-clause-circuit : goal.returns-clause-circuit
returns-clause-circuit c = Row-done c.args.b.now c.loop-net.b c.args.x.now c.args.bit c.loop-net.net-index c.loop-net.products c.loop-net.invariant (omega arith)
