use Rattle.std.proofs.Common.{◌≡◌, take}
use Rattle.hc_ram.specs.Sources.{writing, write_words}
use Rattle.hc_ram.proofs.writers.find_writers.Given as goal

abbrev pub invariant-loop-i : goal.invariant-loop-i
invariant-loop-i l = record {
  enables : l.found.enables ≡ writing l.b.nodes (take l.i l.writes) (take l.i l.enables);
  words : l.found.words.items ≡ writing l.b.nodes (take l.i l.writes) (write_words (take l.i l.writes) (take l.i l.values));
}
