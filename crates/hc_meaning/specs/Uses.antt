-- What a clock uses of RAMs and ROMs: which actions of the front and which evaluated conditions access one, by their numbers,
-- and at which indexes.
use Rattle.std.specs.Prelude.{ℕ, List, [], ◌∷◌, ◌++◌, map, ◌==◌, if◌then◌else◌}
use Rattle.std.specs.List.{flat_map}
use Rattle.hc_core.specs.Program.{Expression}
use Rattle.hc_core.specs.Depends.{Access, accesses}
use Rattle.hc_meaning.specs.Residual.{Residual}
use Rattle.hc_meaning.specs.Value.{World, number_of}
use Rattle.hc_meaning.specs.Clock.{action_accesses}
use Rattle.hc_meaning.specs.Control.{resolved, evaluated, front, Condition, Leaf, does, chooses_from}

-- what an action of the front accesses; the cases of a `prialt` are left out
abbrev pub leaf_accesses : Leaf → List Access
leaf_accesses (does n a) = action_accesses a
leaf_accesses (chooses_from n cases) = []

-- the indexes at which k is accessed
abbrev pub indexes : ℕ → List Access → List Expression
indexes k [] = []
indexes k (a ∷ list) = if a.0 == k then a.1 ∷ indexes k list else indexes k list

-- an access by the action or condition of this number, at this index
abbrev pub access_at : ℕ → World → Expression → ℕ × ℕ
access_at n x i = (n, (number_of x i).bits)

-- each access of k by an action, as the action's number and the index
abbrev pub leaf_words : ℕ → World → Leaf → List (ℕ × ℕ)
leaf_words k x (does n a) = map (access_at n x) (indexes k (action_accesses a))
leaf_words k x (chooses_from n cases) = []

-- each access of k by a condition, as its number and the index
abbrev pub condition_words : ℕ → World → Condition → List (ℕ × ℕ)
condition_words k x c = map (access_at c.number x) (indexes k (accesses c.value))

-- all accesses of k in the clock of what is left
abbrev pub words_used : ℕ → World → Residual → List (ℕ × ℕ)
words_used k x r = flat_map (leaf_words k x) (front (resolved x r)) ++ flat_map (condition_words k x) (evaluated x r)

-- all accesses in the clock
abbrev pub clock_accesses : World → Residual → List Access
clock_accesses x r = flat_map leaf_accesses (front (resolved x r)) ++ flat_map (λ c. accesses c.value) (evaluated x r)
