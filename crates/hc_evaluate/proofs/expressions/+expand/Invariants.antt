use Rattle.hc_evaluate.proofs.expressions.+expand.Given as goal

abbrev pub decreases-expression : goal.decreases-expression
decreases-expression l = l.room

abbrev pub decreases-before_index : goal.decreases-before_index
decreases-before_index l = l.room
