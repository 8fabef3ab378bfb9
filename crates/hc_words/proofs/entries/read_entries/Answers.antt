use Rattle.std.proofs.Common.{ap}
use Rattle.std.specs.String.{string_bytes}
use Rattle.hc_words.specs.Said.{waiting}
use Rattle.hc_words.proofs.Saying.{nothing_left, said_all, waits_still}
use Rattle.hc_words.proofs.entries.read_entries.Goals as goal

pub returns-in-None : goal.returns-in-None
returns-in-None c = said_all _ _ _ _ _ _ c.loop-word.invariant (nothing_left string_bytes _ c.in_default.ensures.cases) (ap waiting c.in-None.is)

pub returns : goal.returns
returns c = waits_still _ _ _ _ _ _ _ c.loop-word.invariant (nothing_left string_bytes _ c.in_default.ensures.cases) (ap waiting c.in-Some-wait.is)
