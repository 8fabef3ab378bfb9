use Rattle.std.proofs.Common.{◌≡◌, map, take}
use Rattle.hc_words.specs.Words.{picked, listed}
use Rattle.hc_words.specs.Said.{entry_of, waiting}
use Rattle.hc_words.proofs.said.only.Given as goal

abbrev pub invariant-loop-entry : goal.invariant-loop-entry
invariant-loop-entry l = listed (waiting l.found) ≡ picked (waiting l.name) (map entry_of (take l.entry-index l.entries))
