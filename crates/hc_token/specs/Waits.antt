-- Branches that wait for one another.
use Rattle.std.specs.Prelude.{◌≡◌, ◌<◌, ℕ, ◌+◌, ◌*◌, List, ◌++◌, map, length, Bool, not, ◌&&◌, ◌||◌, slice_index, All}
use Rattle.std.specs.List.{range_with_len}
use Rattle.hc_net.specs.Circuit.{Circuit}
use Rattle.hc_net.specs.Made.{Over, Adds, Always}
use Rattle.hc_token.specs.Circuits.{every}
use Rattle.hc_token.specs.declared.waiting.Waiting.{Waiting}

-- what each latch reads: its branch passes where the whole is held up, or it is done and the whole isn't over
abbrev pub HoldsNext : (start pass finish : ℕ) (passes done nets : List ℕ) → (ℕ → Bool) → Type 0
HoldsNext start pass finish passes done nets v =
    map v nets ≡ map (λ i. ((v start && not (v pass)) && v (slice_index passes i)) || (not (v finish) && v (slice_index done i))) (range_with_len 0 (length passes))

-- a branch is done where it finishes, and where its latch holds
abbrev pub done_at : (finishes latches : List ℕ) → (ℕ → Bool) → ℕ → Bool
done_at finishes latches v i = v (slice_index finishes i) || v (slice_index latches i)

-- The gates of branches that wait: the whole finishes where all are done, and what each latch reads.
pub record Waits (start pass : ℕ) (passes finishes latches : List ℕ) (old new : Circuit) (w : Waiting) : Type 0 where
  pub adds : Adds (5 * length passes + 2) old new
  pub there : w.finish < length new.nodes
  pub size : length w.sources ≡ length passes
  pub sources_there : All (λ k. k < length new.nodes) w.sources
  pub over : Over new.nodes (finishes ++ latches) w.finish
  pub finish : Always new.nodes (λ v. v w.finish ≡ every (map (done_at finishes latches v) (range_with_len 0 (length passes))))
  pub next : Always new.nodes (λ v. (i : ℕ) → i < length passes
      → v (slice_index w.sources i) ≡ (((v start && not (v pass)) && v (slice_index passes i)) || (not (v w.finish) && done_at finishes latches v i)))
