-- What the reader of the words holds.
use Rattle.std.specs.Prelude.{◌≡◌, ◌≤◌, ◌<◌, ℕ, List, [], ◌∷◌, ◌++◌, Option, Some, None, length, map, decimal}
use Rattle.std.specs.Option.{option_map}
use Rattle.std.specs.Borrow.{Bor}
use Rattle.hc_words.specs.Words as words
use Rattle.hc_words.specs.Words.{behind, says, listed}
use Rattle.hc_words.specs.declared.entries.Entry.{Entry}
use Rattle.hc_words.specs.declared.entries.Entry.TheVariants as entry
use Rattle.hc_words.specs.declared.entries.Step.{Step}
use Rattle.hc_words.specs.declared.entries.Step.TheVariants as step

-- an entry as the definition of words has it
abbrev pub entry_of : Entry → words.Entry
entry_of (entry.Plain word) = words.Plain word.now
entry_of (entry.Given name value) = words.Given name.now value.now

-- these entries before what else is said
abbrev pub after : List words.Entry → Option (List words.Entry) → Option (List words.Entry)
after entries None = None
after entries (Some others) = Some (entries ++ others)

-- what words say, by what the first of them is
abbrev pub said_by : List ℕ → List ℕ → Step → List (List ℕ) → Option (List words.Entry)
said_by first second (step.Says e) rest = behind (entry_of e) (says first second None rest)
said_by first second (step.Waits name) rest = says first second (Some name.now) rest
said_by first second step.Ends rest = Some (map words.Plain rest)
said_by first second step.Wrong rest = None

-- the option that waits for its value
abbrev pub waiting : Option (Bor (List ℕ)) → Option (List ℕ)
waiting = option_map (λ s. s.now)

-- there are two or more
abbrev pub AreMany : {A : Type 0} → List A → Type 0
AreMany list = 1 < length list

-- an option with its value, or one that waits for it
abbrev pub step_of : Bor (List ℕ) → Option (Bor (List ℕ)) → Step
step_of name (Some value) = step.Says (entry.Given name value)
step_of name None = step.Waits name
