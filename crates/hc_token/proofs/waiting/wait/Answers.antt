use Rattle.hc_token.proofs.Waited.{waited}
use Rattle.hc_token.proofs.waiting.wait.Goals as goal

pub returns : goal.returns
returns c =
    waited c.args.start c.args.pass c.args.passes.now c.args.finishes.now c.args.latches.now c.in_ok-done.done _ c.args.b.now c.either.new.b c.all.new.b c.next.new.b
    c.requires.some c.requires.width c.in_ok-done.ensures.width c.in_ok-sources.ensures.width c.in_ok-done.ensures.circuit c.in_ok-finish.ensures.circuit c.in_ok-sources.ensures.circuit
