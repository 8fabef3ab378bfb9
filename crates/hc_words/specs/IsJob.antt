-- When words have a job.
use Rattle.std.specs.Prelude.{◌≡◌, ◌≢◌, ◌≤◌, ◌++◌, ℕ, List, [], ◌∷◌, Option, Some, None, decimal}
use Rattle.hc_words.specs.Kind.{kind_of, kind_is, first_option, second_option}
use Rattle.hc_words.specs.Words.{Entry, says, plains, given, listed}
use Rattle.hc_words.specs.declared.job.Job.{Job}
use Rattle.hc_words.specs.declared.job.Job.TheVariants.{Build, Check, Sim, Nsim, Compare, Gen, Cells}

-- the words that a job has besides its options
abbrev pub words_of : Job → List (List ℕ)
words_of (Build file edif verilog) = file ∷ []
words_of (Check file) = file ∷ []
words_of (Sim file stim trace) = file ∷ []
words_of (Nsim file stim trace) = file ∷ []
words_of (Compare file net stim) = file ∷ []
words_of (Gen n) = decimal n ∷ []
words_of Cells = []

-- the value of its first option, and that of its second
abbrev pub first_of : Job → List (List ℕ)
first_of (Build file edif verilog) = listed edif
first_of (Check file) = []
first_of (Sim file stim trace) = stim ∷ []
first_of (Nsim file stim trace) = stim ∷ []
first_of (Compare file net stim) = net ∷ []
first_of (Gen n) = []
first_of Cells = []

abbrev pub second_of : Job → List (List ℕ)
second_of (Build file edif verilog) = listed verilog
second_of (Check file) = []
second_of (Sim file stim trace) = trace ∷ []
second_of (Nsim file stim trace) = trace ∷ []
second_of (Compare file net stim) = stim ∷ []
second_of (Gen n) = []
second_of Cells = []

-- `build` has an option at least, and N is in 2 to 200
abbrev pub IsWhole : Job → Type 0
IsWhole (Build file edif verilog) = listed edif ++ listed verilog ≢ []
IsWhole (Check file) = Unit {0}
IsWhole (Sim file stim trace) = Unit {0}
IsWhole (Nsim file stim trace) = Unit {0}
IsWhole (Compare file net stim) = Unit {0}
IsWhole (Gen n) = (2 ≤ n) × (n ≤ 200)
IsWhole Cells = Unit {0}

-- no two of them are equal, each list having one name at most
abbrev pub Differ : List (List ℕ) → List (List ℕ) → Type 0
Differ (a ∷ []) (b ∷ []) = a ≢ b
Differ _ _ = Unit {0}

-- what the entries of a job are: its words and options, each once, and no two file names equal
pub record HasJob (entries : List Entry) (job : Job) : Type 0 where
  pub words : plains entries ≡ words_of job
  pub first : given (first_option (kind_is job)) entries ≡ first_of job
  pub second : given (second_option (kind_is job)) entries ≡ second_of job
  pub whole : IsWhole job
  pub first_apart : Differ (words_of job) (first_of job)
  pub second_apart : Differ (words_of job) (second_of job)
  pub options_apart : Differ (first_of job) (second_of job)

-- The words have this job: the first names it, and those behind it say its words and options.
pub record IsJob (words : List (List ℕ)) (job : Job) : Type 0 where
  pub name : List ℕ
  pub rest : List (List ℕ)
  pub entries : List Entry
  pub are : words ≡ name ∷ rest
  pub kind : kind_of name ≡ Some (kind_is job)
  pub said : says (first_option (kind_is job)) (second_option (kind_is job)) None rest ≡ Some entries
  pub fits : HasJob entries job
