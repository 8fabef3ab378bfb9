use Rattle.std.proofs.Common.{◌≡◌, ◌++◌, map, take}
use Rattle.std.specs.String.{string_bytes}
use Rattle.hc_words.specs.Words.{Plain}
use Rattle.hc_words.specs.Said.{entry_of}
use Rattle.hc_words.proofs.entries.add_plain.Given as goal

abbrev pub invariant-loop-word : goal.invariant-loop-word
invariant-loop-word l = map entry_of l.entries.items ≡ map entry_of l.fn.entries.items ++ map Plain (map string_bytes (take l.word-index l.words))
