use Rattle.hc_stim.proofs.Fields.{field_behind, no_space}
use Rattle.hc_stim.proofs.line.read_field.Goals as goal

pub returns-in-Some : goal.returns-in-Some
returns-in-Some c = field_behind (λ p. p.0) (λ p. p.1.now) c.args.first c.args.width _ _ c.read_within.result c.in-Some.ensures c.read_within.ensures

pub returns-in-None : goal.returns-in-None
returns-in-None c = no_space c.args.first c.args.width _ c.in-None.ensures
