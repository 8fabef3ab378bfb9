use Rattle.hc_token.proofs.SideBySide.{idle_made}
use Rattle.hc_token.proofs.parallel.idle.Goals as goal

pub returns : goal.returns
returns c = idle_made c.in_ok-pass.pass c.in_ok-finish.finish c.args.b.now c.gate.new.self c.gate-2.new.self c.in_ok-pass.ensures.ok c.in_ok-finish.ensures.ok
