use Rattle.std.proofs.lemmas.Result.{IfOk-weaker}
use Rattle.hc_cycle.proofs.Accesses.{accessed}
use Rattle.std.proofs.Common.{[], ◌∷◌}
use Rattle.hc_tree.specs.declared.refusal.Node.TheVariants.{Value}
use Rattle.hc_cycle.specs.Sets.{Accesses, Adds}
use Rattle.hc_cycle.proofs.sets.Gather.access.Goals as goal

pub returns : goal.returns
returns c = IfOk-weaker c.need.result (λ u. Adds c.union.new.self c.need.new.self c.in_ok-on.on (λ xs. record { node = Value c.args.memory; on = xs } ∷ []))
    (λ u. Accesses c.args.self.now c.need.new.self c.args.start c.args.memory c.args.index)
    (λ u n. accessed c.args.self.now c.union.new.self c.need.new.self c.args.start c.in_ok-on.on c.args.memory c.args.index c.in_ok-on.ensures n) c.need.ensures
