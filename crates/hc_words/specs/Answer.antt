-- The answers of the reader of the words.
use Rattle.std.specs.Prelude.{◌≡◌, ℕ, List, Option, Some, None}
use Rattle.hc_words.specs.Kind.{kind_is, first_option, second_option}
use Rattle.hc_words.specs.Words.{Entry, says, listed}
use Rattle.hc_words.specs.IsJob.{IsJob, HasJob, words_of, first_of, second_of, IsWhole, Differ}
use Rattle.hc_words.specs.declared.kind.Kind.{Kind}
use Rattle.hc_words.specs.declared.job.Job.{Job}
use Rattle.hc_words.specs.declared.words.WordsErr.{WordsErr}
use Rattle.hc_words.specs.declared.words.WordsErr.TheVariants.{Usage, NoMemory}

-- the words have no job
abbrev pub HasNoJob : List (List ℕ) → Type 0
HasNoJob words = (job : Job) → IsJob words job → ⊥

-- a fact where the answer is `Usage`
abbrev pub IfUsage : Type 0 → WordsErr → Type 0
IfUsage P Usage = P
IfUsage P NoMemory = Unit {0}

-- a job of this kind has this word and these values of its options
pub record HasParts (kind : Kind) (word first second : Option (List ℕ)) (job : Job) : Type 0 where
  pub of_kind : kind_is job ≡ kind
  pub words : words_of job ≡ listed word
  pub one : first_of job ≡ listed first
  pub other : second_of job ≡ listed second
  pub whole : IsWhole job

abbrev pub HasNoParts : Kind → Option (List ℕ) → Option (List ℕ) → Option (List ℕ) → Type 0
HasNoParts kind word first second = (job : Job) → HasParts kind word first second job → ⊥

-- the same, where no two of its file names are equal
pub record FitsParts (kind : Kind) (word first second : Option (List ℕ)) (job : Job) : Type 0 where
  pub parts : HasParts kind word first second job
  pub first_apart : Differ (listed word) (listed first)
  pub second_apart : Differ (listed word) (listed second)
  pub options_apart : Differ (listed first) (listed second)

-- a job of this kind has these entries
pub record FitsEntries (kind : Kind) (entries : List Entry) (job : Job) : Type 0 where
  pub of_kind : kind_is job ≡ kind
  pub fits : HasJob entries job

-- a job of this kind is what these words say
pub record FitsWords (kind : Kind) (words : List (List ℕ)) (job : Job) : Type 0 where
  pub of_kind : kind_is job ≡ kind
  pub entries : List Entry
  pub said : says (first_option kind) (second_option kind) None words ≡ Some entries
  pub fits : HasJob entries job

-- a job is answered that is so, or `Usage` where none is
abbrev pub NoneIs : (Job → Type 0) → Type 0
NoneIs P = (job : Job) → P job → ⊥
