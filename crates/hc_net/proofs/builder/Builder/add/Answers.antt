use Rattle.hc_net.proofs.Built.{built_added, extends_added}
use Rattle.hc_net.proofs.builder.Builder.add.Goals as goal
use Rattle.hc_net.proofs.builder.Builder.add.Goals.{in-Ok, in-Err}

pub invariant_of-self : goal.invariant_of-self
invariant_of-self c = (
  c.self.invariant.0,
  elim c.match-push.branch [
    | in-Ok w ↦ built_added _ c.args.self.now c.args.node c.push.new.self c.self.view_is c.self.invariant.1 c.requires.other c.requires.nets c.requires.room w.in-Ok.ensures.ok
    | in-Err w ↦ rw w.in-Err.ensures.err c.self.invariant.1
  ],
)

pub returns-clause-earlier : goal.returns-clause-earlier
returns-clause-earlier c = elim c.match-push.branch [
  | in-Ok w ↦ rw w.result-is (extends_added _ c.args.self.now c.args.node c.push.new.self c.self.view_is w.in-Ok.ensures.ok)
  | in-Err w ↦ rw w.result-is tt
]
