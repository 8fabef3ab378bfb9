-- What the words of a job say behind its name. The rules are this project's own.
use Rattle.std.specs.Prelude.{◌≡◌, ◌==◌, ◌++◌, ℕ, Bool, true, false, not, nat_lt, ◌&&◌, ◌||◌, List, [], ◌∷◌, length, map, Option, Some, None, if◌then◌else◌, codes}
use Rattle.std.specs.List.{before_first, after_first, position_or_len}
use Rattle.std.specs.Str.{bytes_eq}

-- a file name, a number, or an option's value in a word of its own: at most one byte, or no `-` in front
abbrev pub is_plain : List ℕ → Bool
is_plain [] = true
is_plain (b ∷ []) = true
is_plain (b ∷ c ∷ rest) = not (b == 45)

-- a word that stands alone, or an option with its value
pub data Entry : Type 0 where
  Plain : List ℕ → Entry
  Given : List ℕ → List ℕ → Entry

-- an option's word up to the first `=`, and its value behind it
abbrev pub head : List ℕ → List ℕ
head word = before_first (λ b. b == 61) word

abbrev pub value_in : List ℕ → Option (List ℕ)
value_in word = if nat_lt (position_or_len (λ b. b == 61) word) (length word) then Some (after_first (λ b. b == 61) word) else None

-- the one of two options that a word names in full; where an option is empty there is none, since these words begin with `-`
abbrev pub named : List ℕ → List ℕ → List ℕ → Option (List ℕ)
named first second word = if bytes_eq (head word) first then Some first else (if bytes_eq (head word) second then Some second else None)

-- an entry, and then what else is said
abbrev pub behind : Entry → Option (List Entry) → Option (List Entry)
behind entry None = None
behind entry (Some others) = Some (entry ∷ others)

-- an option with its value in the same word, or with the next word as its value; a word that names no option is wrong
abbrev pub option_says : Option (List ℕ) → Option (List ℕ) → Option (List Entry) → (List ℕ → Option (List Entry)) → Option (List Entry)
option_says None value others waits = None
option_says (Some name) (Some value) others waits = behind (Given name value) others
option_says (Some name) None others waits = waits name

-- What words say, where a job has these two options, and an option may wait for its value; nothing where the words are wrong.
-- `--` ends the options.
unfoldable pub says : List ℕ → List ℕ → Option (List ℕ) → List (List ℕ) → Option (List Entry)
says first second None [] = Some []
says first second (Some name) [] = None
says first second (Some name) (value ∷ rest) =
    if is_plain value then behind (Given name value) (says first second None rest) else None
says first second None (word ∷ rest) =
    if is_plain word then behind (Plain word) (says first second None rest)
    else (if bytes_eq word (codes "--") then Some (map Plain rest)
    else option_says (named first second word) (value_in word) (says first second None rest) (λ name. says first second (Some name) rest))

-- the words that stand alone
abbrev pub plains : List Entry → List (List ℕ)
plains [] = []
plains (Plain word ∷ others) = word ∷ plains others
plains (Given name value ∷ others) = plains others

abbrev pub if_named : Bool → List ℕ → List (List ℕ) → List (List ℕ)
if_named true value values = value ∷ values
if_named false value values = values

-- the values of an option
abbrev pub given : List ℕ → List Entry → List (List ℕ)
given name [] = []
given name (Plain word ∷ others) = given name others
given name (Given other value ∷ others) = if_named (bytes_eq other name) value (given name others)

-- what may be missing, as a list
abbrev pub listed : Option (List ℕ) → List (List ℕ)
listed None = []
listed (Some value) = value ∷ []

-- the words that stand alone, or the values of an option
abbrev pub picked : Option (List ℕ) → List Entry → List (List ℕ)
picked None entries = plains entries
picked (Some name) entries = given name entries
