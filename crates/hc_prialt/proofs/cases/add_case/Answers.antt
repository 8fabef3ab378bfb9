use Rattle.hc_prialt.proofs.Choosing.{case_added}
use Rattle.hc_prialt.proofs.cases.add_case.Goals as goal

pub returns : goal.returns
returns c =
    case_added c.args.token c.args.free c.args.ready c.in_ok-taken.taken c.in_ok-rest.rest c.in_ok-arm.arm c.args.b.now c.gate.new.self c.gate-2.new.self c.flop.new.self c.feed.new.self
    c.in_ok-taken.ensures.ok c.in_ok-rest.ensures.ok c.in_ok-arm.ensures.ok c.feed.ensures.fed c.feed.ensures.earlier c.in_ok-arm.ensures.value c.feed.ensures.value
