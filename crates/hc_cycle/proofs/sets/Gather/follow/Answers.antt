use Rattle.hc_cycle.proofs.Ends.{follows_of}
use Rattle.hc_cycle.proofs.sets.Gather.follow.Goals as goal

pub returns : goal.returns
returns c = follows_of c.args.self.now c.union.new.self c.union-2.new.self c.union-3.new.self c.args.before c.args.next
    c.in_ok-passed.passed c.in_ok-earlier.earlier c.where_it.result c.in_ok-finish.finish c.where_it-2.result c.both-zero.result
    c.in_ok-passed.ensures c.in_ok-earlier.ensures c.where_it.ensures.yes c.where_it.ensures.no c.in_ok-finish.ensures c.both-zero.ensures c.where_it-2.ensures.yes c.where_it-2.ensures.no
