use Rattle.std.proofs.Common.{◌≡◌, ◌≤◌, ◌<◌, ℕ, decimal}
use Rattle.hc_words.proofs.number.read_threads.Given as goal

abbrev pub invariant-loop-n : goal.invariant-loop-n
invariant-loop-n l = (k : ℕ) → 2 ≤ k → k < l.n → l.word ≡ decimal k → ⊥
