use Rattle.hc_run.proofs.Sources.{source, broken, spelled}
use Rattle.hc_run.proofs.source.read_tokens.Goals as goal

pub read_tree-read-requires : goal.read_tree-read-requires
read_tree-read-requires c = spelled c.args.tokens.now.tokens c.in-Ok.tree c.in-Ok.ensures.tree c.requires

pub returns-in-Ok-clause-source : goal.returns-in-Ok-clause-source
returns-in-Ok-clause-source c = source c.args.tokens.now.tokens c.in-Ok.tree c.in-Ok.ensures.tree c.read_tree-read.result c.read_tree-read.ensures.source

pub returns-in-Ok-clause-refused : goal.returns-in-Ok-clause-refused
returns-in-Ok-clause-refused c =
    broken c.args.tokens.now.tokens c.args.tokens.now.end c.in-Ok.tree c.in-Ok.ensures.tree c.read_tree-read.result c.read_tree-read.ensures.refused
