-- The texts of a stimulus and of a trace. The rules are this project's own.
use Rattle.std.specs.Prelude.{◌≡◌, ◌≢◌, ◌≤◌, ◌<◌, ◌+◌, ◌++◌, ℕ, List, [], ◌∷◌, length, slice_index, flat_map, decimal, codes}
use Rattle.hc_stim.specs.Bench.{AreInputs}

-- a space and then these bytes
abbrev pub behind_space : List ℕ → List ℕ
behind_space bytes = 32 ∷ bytes

-- numbers in decimal, a space in front of each
abbrev pub spaced : List ℕ → List ℕ
spaced numbers = flat_map (λ n. behind_space (decimal n)) numbers

-- numbers in decimal, one space between two of them
abbrev pub line_text : List ℕ → List ℕ
line_text [] = []
line_text (n ∷ rest) = decimal n ++ spaced rest

-- The bytes begin with a line of these values, a number for each input, and `rest` stands behind it.
-- A line ends with a line feed, which may be missing at the end of the bytes, behind a line that isn't empty.
pub data BeginsLine (widths bytes values rest : List ℕ) : Type 0 where
  ended : AreInputs widths values → bytes ≡ line_text values ++ 10 ∷ rest → BeginsLine widths bytes values rest
  last : AreInputs widths values → bytes ≡ line_text values → bytes ≢ [] → rest ≡ [] → BeginsLine widths bytes values rest

-- The bytes begin with these lines, one for each clock, and `rest` stands behind them.
abbrev pub BeginsLines : List ℕ → List ℕ → List (List ℕ) → List ℕ → Type 0
BeginsLines widths bytes [] rest = rest ≡ bytes
BeginsLines widths bytes (values ∷ others) rest = (behind : List ℕ) × (BeginsLine widths bytes values behind × BeginsLines widths behind others rest)

-- The bytes are a stimulus of these lines, one for each clock.
abbrev pub StimText : List ℕ → List ℕ → List (List ℕ) → Type 0
StimText bytes widths lines = BeginsLines widths bytes lines []

-- Line n, counted from 1, is the first that breaks the rules of a stimulus: the lines before it stand there, and what
-- stands behind them is not the end, and begins with no line.
pub record IsBadLine (bytes widths : List ℕ) (n : ℕ) : Type 0 where
  pub lines : List (List ℕ)
  pub rest : List ℕ
  pub front : BeginsLines widths bytes lines rest
  pub number : n ≡ length lines + 1
  pub more : rest ≢ []
  pub broken : (values behind : List ℕ) → BeginsLine widths rest values behind → ⊥

-- each width is in 1 to 128
abbrev pub AreWidths : List ℕ → Type 0
AreWidths widths = (k : ℕ) → k < length widths → (1 ≤ slice_index widths k) × (slice_index widths k ≤ 128)

-- the first line of a trace: `clock`, and the name of each output
abbrev pub header_text : List (List ℕ) → List ℕ
header_text names = codes "clock" ++ flat_map behind_space names ++ 10 ∷ []

-- the line of a clock: its number, and the number of each output
abbrev pub clock_text : ℕ → List ℕ → List ℕ
clock_text clock values = decimal clock ++ spaced values ++ 10 ∷ []

-- the lines of clocks that follow one another, from this one on
abbrev pub clocks_text : ℕ → List (List ℕ) → List ℕ
clocks_text clock [] = []
clocks_text clock (values ∷ others) = clock_text clock values ++ clocks_text (clock + 1) others

-- The bytes are a trace of outputs with these names and, for each clock from 0 on, these numbers.
abbrev pub TraceText : List ℕ → List (List ℕ) → List (List ℕ) → Type 0
TraceText bytes names outputs = bytes ≡ header_text names ++ clocks_text 0 outputs
