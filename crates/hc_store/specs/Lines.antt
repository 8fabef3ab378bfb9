-- The lines of an element of an array: the writes that may be on for it, each with a net that tells whether it is.
use Rattle.std.specs.Prelude.{◌≡◌, ◌<◌, ◌≤◌, ℕ, ◌+◌, ◌*◌, List, [], ◌∷◌, ◌++◌, length, map, take, Bool, false, ◌&&◌, ◌==◌, Option, Some, None, slice_index, slice_index_or, slice_set, All}
use Rattle.std.specs.List.{flat_map, range_with_len, sum_by}
use Rattle.hc_net.specs.Bits.{number}
use Rattle.hc_net.specs.Circuit.{Circuit}
use Rattle.hc_net.specs.Made.{Over, Adds, Always, Makes}
use Rattle.hc_net.specs.declared.node.Node.{Node}
use Rattle.hc_bits.specs.Elements.{element_nets}
use Rattle.hc_store.specs.Takes.{Takes, all_nets}
use Rattle.hc_store.specs.Arrays.{constant_number}
use Rattle.hc_store.specs.declared.lines.Line.{Line}

-- ---- lists of lines

-- the nets that tell whether the writes are on
abbrev pub enables_of : List Line → List ℕ
enables_of lines = map (λ l. l.enable) lines

-- what the writes of some lines write
abbrev pub values_of : List (List ℕ) → List Line → List (List ℕ)
values_of values lines = map (λ l. slice_index_or values l.write []) lines

-- the nets of the lines of all elements
abbrev pub line_nets : List (List Line) → List ℕ
line_nets lines = flat_map (λ ls. enables_of ls) lines

-- one line more for one element; one outside has none
abbrev pub with_line : List (List Line) → ℕ → Line → List (List Line)
with_line lines k line = slice_set lines k (slice_index_or lines k [] ++ line ∷ [])

-- one line more for each element, all of one write
pub record WithLines (nets : List ℕ) (write : ℕ) (lines more : List (List Line)) : Type 0 where
  pub count : length more ≡ length lines
  pub each : (j : ℕ) → j < length nets → slice_index_or more j [] ≡ slice_index_or lines j [] ++ record { enable = slice_index nets j; write = write } ∷ []
  pub few : sum_by (λ ls. length ls) more ≡ sum_by (λ ls. length ls) lines + length nets

-- In order, lines of writes from number `from` on and below `to`, each of which is on where its net is 1; every other one of
-- these writes is off.
abbrev pub Lists : (ℕ → Bool) → (ℕ → Bool) → ℕ → ℕ → List Line → Type 0
Lists v on from to [] = (k : ℕ) → from ≤ k → k < to → on k ≡ false
Lists v on from to (l ∷ ls) =
    ((k : ℕ) → from ≤ k → k < l.write → on k ≡ false) × (from ≤ l.write) × (l.write < to) × (v l.enable ≡ on l.write) × Lists v on (l.write + 1) to ls

-- ---- the lines of an array

-- whether write i is on for element j
abbrev pub on_at : (ℕ → Bool) → List ℕ → List (List ℕ) → ℕ → ℕ → Bool
on_at v enables indexes j i = v (slice_index enables i) && (number (map v (slice_index_or indexes i [])) == j)

-- the gates for the lines of a write with an index of a bits, which may be a constant, and how many lines these are
abbrev pub line_gates : ℕ → ℕ → Option ℕ → ℕ
line_gates n a None = n * a + a + n
line_gates n a (Some k) = 0

abbrev pub line_count : ℕ → Option ℕ → ℕ
line_count n None = n
line_count n (Some k) = 1

abbrev pub all_line_gates : List Node → ℕ → List (List ℕ) → ℕ
all_line_gates nodes n indexes = sum_by (λ index. line_gates n (length index) (constant_number nodes index)) indexes

abbrev pub all_line_count : List Node → ℕ → List (List ℕ) → ℕ
all_line_count nodes n indexes = sum_by (λ index. line_count n (constant_number nodes index)) indexes

-- a line for each element is added, of a write whose index isn't a constant
pub record AddsToEach (enable : ℕ) (index : List ℕ) (write : ℕ) (old new : Circuit) (lines more : List (List Line)) : Type 0 where
  pub nets : List ℕ
  pub width : length nets ≡ length lines
  pub circuit : Makes (length lines * length index + length index + length lines) (enable ∷ index) old new nets
      (λ v. map v nets ≡ map (λ j. v enable && (number (map v index) == j)) (range_with_len 0 (length lines)))
  pub put : WithLines nets write lines more

-- the lines of a write are added: one for each element, or for that of a constant index alone
abbrev pub AddsWrite : ℕ → List ℕ → ℕ → Option ℕ → Circuit → Circuit → List (List Line) → List (List Line) → Type 0
AddsWrite enable index write None old new lines more = AddsToEach enable index write old new lines more
AddsWrite enable index write (Some k) old new lines more = (new ≡ old) × (more ≡ with_line lines k (record { enable = enable; write = write }))

-- a line of one of the first i writes, whose net is there and reaches what `args` names alone
pub record IsLine (nodes : List Node) (args : List ℕ) (i : ℕ) (line : Line) : Type 0 where
  pub there : line.enable < length nodes
  pub reach : Over nodes args line.enable
  pub write : line.write < i

-- the lines of the first i writes, for each of n elements
pub record MakesLines (n : ℕ) (enables : List ℕ) (indexes : List (List ℕ)) (i : ℕ) (old new : Circuit) (lines : List (List Line)) : Type 0 where
  pub count : length lines ≡ n
  pub few : sum_by (λ ls. length ls) lines ≤ all_line_count old.nodes n (take i indexes)
  pub each : All (All (IsLine new.nodes (enables ++ all_nets indexes) i)) lines
  pub adds : Adds (all_line_gates old.nodes n (take i indexes)) old new
  pub value : Always new.nodes (λ v. (j : ℕ) → j < n → Lists v (on_at v enables indexes j) 0 i (slice_index_or lines j []))

-- ---- what is written

-- the element takes what the writes of its lines write
abbrev pub TakesByLines : (ℕ → Bool) → List Line → List (List ℕ) → List ℕ → List ℕ → Type 0
TakesByLines v lines values present next = Takes v (length lines) (λ i. v (slice_index (enables_of lines) i)) present (values_of values lines) next

-- each of the first n elements does so
abbrev pub EachByLines : (ℕ → Bool) → ℕ → ℕ → List (List Line) → List (List ℕ) → List ℕ → List ℕ → Type 0
EachByLines v w n lines values present next =
    (j : ℕ) → j < n → TakesByLines v (slice_index_or lines j []) values (element_nets w present j) (element_nets w next j)
