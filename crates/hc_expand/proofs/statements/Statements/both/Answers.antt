use Rattle.hc_expand.proofs.Kept.{grown_statement}
use Rattle.hc_expand.proofs.statements.Statements.both.Goals as goal

pub returns-in-Ok-statement_or_skip-clause-typed : goal.returns-in-Ok-statement_or_skip-clause-typed
returns-in-Ok-statement_or_skip-clause-typed g c =
    (grown_statement _ _ _ c.in-Ok-statement_or_skip.ensures.grows c.in-Ok.ensures.typed, c.in-Ok-statement_or_skip.ensures.typed)
