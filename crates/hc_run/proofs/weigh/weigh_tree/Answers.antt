use Rattle.hc_run.proofs.weigh.weigh_tree.Goals as goal

pub returns-in-Ok-clause-weighs : goal.returns-in-Ok-clause-weighs
returns-in-Ok-clause-weighs c = record { core = c.in-Ok.core; expands = c.in-Ok.ensures.core; is = c.weight-weighed.ensures.weight }
