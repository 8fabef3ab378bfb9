use Rattle.hc_expand.proofs.statement.+expand_statement.Given as goal

abbrev pub decreases-statement : goal.decreases-statement
decreases-statement l = l.room
