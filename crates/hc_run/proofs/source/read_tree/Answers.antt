use Rattle.hc_run.proofs.Sources.{tree_of, broken_core}
use Rattle.hc_run.proofs.source.read_tree.Goals as goal

pub returns-in-Ok-clause-source : goal.returns-in-Ok-clause-source
returns-in-Ok-clause-source c =
    tree_of c.args.tree.now c.in-Ok.core c.in-Ok.ensures.core c.checked.result c.checked.ensures.same c.checked.ensures.rules c.checked.ensures.acyclic c.checked.ensures.buildable

pub returns-in-Ok-clause-refused : goal.returns-in-Ok-clause-refused
returns-in-Ok-clause-refused c = broken_core c.args.tree.now c.in-Ok.core c.in-Ok.ensures.core c.checked.result c.checked.ensures.refused
