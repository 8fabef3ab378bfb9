use Rattle.std.proofs.Common.{ap, ◌∙◌}
use Rattle.hc_grammar.specs.Statement as spec
use Rattle.hc_parse.specs.Turn as turn
use Rattle.hc_parse.proofs.parts.is_at_stmt.Goals as goal

pub returns-in-Some : goal.returns-in-Some
returns-in-Some c = c.begins_stmt.ensures ∙ ap (turn.begins spec.begins_stmt) c.in-Some.ensures

pub returns-in-None : goal.returns-in-None
returns-in-None c = ap (turn.begins spec.begins_stmt) c.in-None.ensures
