use Rattle.std.proofs.Common.{◌≡◌, map, length, None}
use Rattle.std.specs.String.{string_bytes}
use Rattle.hc_words.specs.Words.{says}
use Rattle.hc_words.specs.Said.{entry_of, after, waiting}
use Rattle.hc_words.proofs.entries.read_entries.Given as goal

abbrev pub invariant-loop-word : goal.invariant-loop-word
invariant-loop-word l =
    says l.first l.second None (map string_bytes l.fn.words) ≡ after (map entry_of l.entries.items) (says l.first l.second (waiting l.wait) (map string_bytes l.rest))

abbrev pub decreases-loop-word : goal.decreases-loop-word
decreases-loop-word l = length l.rest
