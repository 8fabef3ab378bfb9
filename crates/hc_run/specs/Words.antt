-- The words of the command line and the job that they name.
use Rattle.std.specs.Prelude.{◌≡◌, ◌≢◌, ◌==◌, ℕ, List, [], ◌∷◌, Bool, true, not, IsTrue, codes}

-- at most one byte, or no `-` in front
abbrev pub is_file_name : List ℕ → Bool
is_file_name [] = true
is_file_name (b ∷ []) = true
is_file_name (b ∷ c ∷ rest) = not (b == 45)

-- The words are `build FILE --edif FILE`, with two file names that differ.
pub record IsBuild (line : List (List ℕ)) (file edif : List ℕ) : Type 0 where
  pub words : line ≡ codes "build" ∷ file ∷ codes "--edif" ∷ edif ∷ []
  pub source : IsTrue (is_file_name file)
  pub output : IsTrue (is_file_name edif)
  pub apart : file ≢ edif

-- The words are `check FILE`.
pub record IsCheck (line : List (List ℕ)) (file : List ℕ) : Type 0 where
  pub words : line ≡ codes "check" ∷ file ∷ []
  pub source : IsTrue (is_file_name file)

-- The words have a job that loads the source of this name.
pub data Loads (line : List (List ℕ)) (file : List ℕ) : Type 0 where
  to_build : (edif : List ℕ) → IsBuild line file edif → Loads line file
  to_check : IsCheck line file → Loads line file

-- The words have no job.
abbrev pub HasNoJob : List (List ℕ) → Type 0
HasNoJob words = (file : List ℕ) → Loads words file → ⊥
