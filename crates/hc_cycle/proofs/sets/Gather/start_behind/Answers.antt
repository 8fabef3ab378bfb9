use Rattle.std.proofs.lemmas.Result.{IfOk-weaker}
use Rattle.hc_cycle.specs.Sets.{Joins, StartsBehind}
use Rattle.hc_cycle.proofs.Ends.{starts_behind_of}
use Rattle.hc_cycle.proofs.sets.Gather.start_behind.Goals as goal

pub returns : goal.returns
returns c = IfOk-weaker c.union-2.result (λ s. Joins c.union.new.self c.union-2.new.self c.args.before.finish c.where_it.result s)
    (λ s. StartsBehind c.args.self.now c.union-2.new.self c.args.start c.args.before s)
    (λ s j. starts_behind_of c.args.self.now c.union.new.self c.union-2.new.self c.args.start c.in_ok-passed.passed c.where_it.result s c.args.before c.in_ok-passed.ensures
    c.where_it.ensures.yes c.where_it.ensures.no j) c.union-2.ensures
