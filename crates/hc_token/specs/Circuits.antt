-- What the circuits of control do, clock by clock. A token starts a statement in a clock in which the start holds. The pass
-- holds in that clock where the statement takes no clock for a token that starts, and the finish where a token that started in
-- an earlier clock ends. The circuits are this project's own.
use Rattle.std.specs.Prelude.{◌≡◌, ℕ, suc, List, [], ◌∷◌, map, Bool, true, false, not, ◌&&◌, ◌||◌, Some, slice_get}
use Rattle.hc_net.specs.Circuit.{History}
use Rattle.hc_token.specs.declared.ends.Ends.{Ends}

-- An action takes one clock: what starts in a clock finishes in the next.
pub record Acts (start : ℕ) (ends : Ends) (h : History) : Type 0 where
  pub pass : (t : ℕ) → h t ends.pass ≡ false
  pub first : h 0 ends.finish ≡ false
  pub later : (t : ℕ) → h (suc t) ends.finish ≡ h t start

-- One part, and the other behind it.
pub record Follows (first second ends : Ends) (h : History) : Type 0 where
  pub pass : (t : ℕ) → h t ends.pass ≡ (h t first.pass && h t second.pass)
  pub finish : (t : ℕ) → h t ends.finish ≡ (h t second.finish || (h t first.finish && h t second.pass))

-- One of two sides, by a condition.
pub record Branches (c : ℕ) (yes no ends : Ends) (h : History) : Type 0 where
  pub pass : (t : ℕ) → h t ends.pass ≡ ((h t c && h t yes.pass) || (not (h t c) && h t no.pass))
  pub finish : (t : ℕ) → h t ends.finish ≡ (h t yes.finish || h t no.finish)

-- A body again and again, until the condition doesn't hold.
pub record Repeats (c : ℕ) (body ends : Ends) (h : History) : Type 0 where
  pub pass : (t : ℕ) → h t ends.pass ≡ not (h t c)
  pub finish : (t : ℕ) → h t ends.finish ≡ (h t body.finish && not (h t c))

-- whether all bits are 1
abbrev pub every : List Bool → Bool
every [] = true
every (x ∷ xs) = x && every xs

-- the same, and 0 where there is none
abbrev pub some_and_every : List Bool → Bool
some_and_every [] = false
some_and_every (x ∷ xs) = x && every xs

-- which branches, from branch i on, are done in a clock: those that finish in it, and those whose latch holds
abbrev pub done_from : (bits latch : ℕ → Bool) → ℕ → List Ends → List Bool
done_from bits latch i [] = []
done_from bits latch i (e ∷ es) = (bits e.finish || latch i) ∷ done_from bits latch (suc i) es

-- Branches side by side. The latch of a branch holds, clock by clock, while it is done and another one isn't.
pub record Joins (start : ℕ) (branches : List Ends) (ends : Ends) (h : History) : Type 0 where
  pub latch : ℕ → ℕ → Bool
  pub pass : (t : ℕ) → h t ends.pass ≡ every (map (λ e. h t e.pass) branches)
  pub finish : (t : ℕ) → h t ends.finish ≡ some_and_every (done_from (h t) (latch t) 0 branches)
  pub first : (i : ℕ) → latch 0 i ≡ false
  pub later : (t i : ℕ) (e : Ends) → slice_get branches i ≡ Some e
      → latch (suc t) i ≡ ((h t start && (h t e.pass && not (h t ends.pass))) || ((h t e.finish || latch t i) && not (h t ends.finish)))
