use Rattle.hc_run.proofs.Buildable.{buildable}
use Rattle.hc_run.proofs.source.checked.Goals as goal

pub returns-in-Ok-clause-buildable : goal.returns-in-Ok-clause-buildable
returns-in-Ok-clause-buildable c =
    buildable c.args.core c.requires c.in-Ok.ensures.rules c.in-Ok.ensures.light c.in-Ok.ensures.built
