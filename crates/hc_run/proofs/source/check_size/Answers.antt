use Rattle.hc_run.proofs.Sources.{broken_form}
use Rattle.hc_run.proofs.source.check_size.Goals as goal

pub returns-in-Ok-clause-refused : goal.returns-in-Ok-clause-refused
returns-in-Ok-clause-refused c = broken_form c.args.core.now c.requires.rules c.requires.acyclic c.in-Ok.ensures.light c.check_built.result c.check_built.ensures.refused
