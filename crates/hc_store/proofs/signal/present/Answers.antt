use Rattle.std.proofs.Common.{length, sym, ◌∙◌}
use Rattle.std.proofs.lemmas.Result.{IfOk-weaker}
use Rattle.hc_store.proofs.Signals.{last_split, plain_made, signal_made}
use Rattle.hc_store.proofs.signal.present.Goals as goal

pub returns-clause-circuit : goal.returns-clause-circuit
returns-clause-circuit c =
    IfOk-weaker c.joined_bits.result _ _
    (λ z made. signal_made (length c.args.b.now.nodes) c.args.default.now.width c.bits-2.result c.args.default.now.bits c.in_ok-unset.unset c.args.enables.now z c.args.values.now
    c.args.b.now c.constant.new.b c.joined_bits.new.b c.requires.writes c.requires.values (c.in_ok-unset.ensures.width ∙ c.width.ensures.width) c.bits-2.ensures.bits
    c.in_ok-unset.ensures.circuit made)
    c.joined_bits.ensures.circuit

pub returns-then-count-gt0-clause-circuit : goal.returns-then-count-gt0-clause-circuit
returns-then-count-gt0-clause-circuit c =
    IfOk-weaker c.next_bits.result _ _
    (λ z made. plain_made (length c.args.b.now.nodes) c.args.default.now.width c.args.default.now.bits c.args.enables.now c.index-last-0.result z c.args.values.now c.split_at.result.0.now
    c.args.b.now c.next_bits.new.b c.requires.writes c.requires.values
    (last_split c.args.values.now c.split_at.result.0.now c.split_at.result.1.now c.index-last-0.result c.if-count-gt0.true c.split_at.ensures.front c.split_at.ensures.back c.index-last-0.is)
    (sym c.bits.ensures.bits ∙ c.if-bits-eq0.true) made)
    c.next_bits.ensures.circuit
