use Rattle.std.proofs.Common.{ap}
use Rattle.hc_net.specs.Circuit.{constant_at}
use Rattle.hc_token.proofs.Controlled.{acted, acted_pass}
use Rattle.hc_token.proofs.action.act.Goals as goal

pub returns-clause-circuit : goal.returns-clause-circuit
returns-clause-circuit c =
    acted c.args.token c.args.start c.in_ok-pass.pass c.in_ok-finish.finish c.args.b.now c.gate.new.self c.flop.new.self c.feed.new.self c.in_ok-pass.ensures.ok c.in_ok-finish.ensures.ok c.feed.ensures.fed

pub returns-clause-never : goal.returns-clause-never
returns-clause-never c =
    ap constant_at (acted_pass c.args.token c.args.start c.in_ok-pass.pass c.in_ok-finish.finish c.args.b.now c.gate.new.self c.flop.new.self c.feed.new.self c.in_ok-pass.ensures.ok c.in_ok-finish.ensures.ok c.feed.ensures.fed)
