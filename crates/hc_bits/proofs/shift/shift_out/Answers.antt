use Rattle.std.proofs.Common.{sym, ◌∙◌, length}
use Rattle.std.proofs.lemmas.Bool.{eqb-true}
use Rattle.std.proofs.lemmas.Result.{IfOk-weaker}
use Rattle.hc_bits.proofs.Stages.{out_none, out_made}
use Rattle.hc_bits.proofs.shift.shift_out.Goals as goal

pub returns-then-is_empty-clause-circuit : goal.returns-then-is_empty-clause-circuit
returns-then-is_empty-clause-circuit c =
    out_none c.args.fill c.args.x c.args.high.now c.args.b.now c.requires.left (eqb-true (length c.args.high.now) 0 (sym c.is_empty.ensures ∙ c.if-is_empty.true))

pub returns-in-Ok-clause-circuit : goal.returns-in-Ok-clause-circuit
returns-in-Ok-clause-circuit c =
    IfOk-weaker c.stage.result _ _
    (λ z last. out_made c.args.fill c.args.x c.args.high.now c.in-Ok.some _ z _ c.args.b.now c.truth.new.b c.stage.new.b c.in-Ok.ensures.width c.as_slice.ensures c.len.ensures c.in-Ok.ensures.circuit last)
    c.stage.ensures.circuit
