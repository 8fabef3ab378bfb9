use Rattle.std.proofs.Common.{List, ℕ, ◌+◌, sym, subst}
use Rattle.std.proofs.lemmas.List.{get_or_default}
use Rattle.hc_store.proofs.Enabled.{Enabled, Enabled-more}
use Rattle.hc_store.proofs.lines.each_enabled.Goals as goal

pub loop-term-preserved : goal.loop-term-preserved
loop-term-preserved c =
    let within = c.loop-term-test.true in
    subst (λ (nets : List ℕ). Enabled c.args.b.now c.gate.new.self c.args.enable c.args.terms.now (c.loop-term.term-index + 1) nets) (sym c.in_ok-push.ensures.ok)
    (Enabled-more c.args.b.now c.loop-term.b c.gate.new.self c.args.enable c.args.terms.now c.loop-term.term-index _ c.in_ok-net.net c.loop-term.nets c.loop-term.invariant within
    (get_or_default c.args.terms.now c.loop-term.term-index _ _ within) c.in_ok-net.ensures.ok)
