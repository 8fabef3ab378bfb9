use Rattle.std.proofs.lemmas.Result.{IfOk-weaker}
use Rattle.hc_store.proofs.Signals.{constant_made, constant_width}
use Rattle.hc_store.proofs.signal.constant.Goals as goal

pub returns-clause-width : goal.returns-clause-width
returns-clause-width c =
    IfOk-weaker c.constant_nets.result _ _ (λ z is. constant_width c.in_ok-zero.zero c.in_ok-one.one c.args.width c.args.bits z is) c.constant_nets.ensures

pub returns-clause-circuit : goal.returns-clause-circuit
returns-clause-circuit c =
    IfOk-weaker c.constant_nets.result _ _
    (λ z is. constant_made c.args.width c.args.bits c.in_ok-zero.zero c.in_ok-one.one z c.args.b.now c.gate.new.self c.gate-2.new.self c.requires.fits
    c.in_ok-zero.ensures.ok c.in_ok-one.ensures.ok is)
    c.constant_nets.ensures
