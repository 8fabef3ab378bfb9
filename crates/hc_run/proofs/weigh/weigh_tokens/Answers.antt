use Rattle.hc_run.proofs.Sources.{broken, spelled, tree_weighed}
use Rattle.hc_run.proofs.weigh.weigh_tokens.Goals as goal

pub weigh_tree-weighed-requires : goal.weigh_tree-weighed-requires
weigh_tree-weighed-requires c = spelled c.args.tokens.now.tokens c.in-Ok.tree c.in-Ok.ensures.tree c.requires

pub returns-in-Ok-clause-weighs : goal.returns-in-Ok-clause-weighs
returns-in-Ok-clause-weighs c =
    tree_weighed c.args.tokens.now.tokens c.in-Ok.tree c.in-Ok.ensures.tree c.weigh_tree-weighed.result c.weigh_tree-weighed.ensures.weighs

pub returns-in-Ok-clause-refused : goal.returns-in-Ok-clause-refused
returns-in-Ok-clause-refused c =
    broken c.args.tokens.now.tokens c.args.tokens.now.end c.in-Ok.tree c.in-Ok.ensures.tree c.weigh_tree-weighed.result c.weigh_tree-weighed.ensures.refused
