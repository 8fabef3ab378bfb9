use Rattle.hc_expand.proofs.looping.loop_last.Goals as goal

pub returns-in-Ok-new-clause-typed : goal.returns-in-Ok-new-clause-typed
returns-in-Ok-new-clause-typed c = rw c.in-Ok-new.ensures (record { first = c.requires.first; holding = c.requires.holding; last = c.in-Ok.ensures.typed })
