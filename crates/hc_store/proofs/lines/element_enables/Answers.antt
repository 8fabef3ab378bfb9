use Rattle.std.proofs.lemmas.Result.{IfOk-weaker}
use Rattle.hc_store.proofs.Enabled.{enabled_terms}
use Rattle.hc_store.proofs.lines.element_enables.Goals as goal

pub returns-clause-circuit : goal.returns-clause-circuit
returns-clause-circuit c =
    IfOk-weaker c.each_enabled.result _ _
    (λ z made. enabled_terms c.args.enable c.args.count c.args.index.now c.in_ok-terms.terms c.as_slice.result.now z c.args.b.now c.decode.new.b c.each_enabled.new.b
    c.in_ok-terms.ensures.width c.as_slice.ensures c.in_ok-terms.ensures.circuit made)
    c.each_enabled.ensures.circuit
