-- The whole array: the lines of its elements, and then the elements.
use Rattle.std.proofs.Common.{◌≡◌, ◌<◌, ◌≤◌, ℕ, suc, ◌+◌, ◌*◌, ◌^◌, List, [], ◌∷◌, ◌++◌, length, take, get_or, Option, Some, None, ap, sym, ◌∙◌, subst, arith}
use Rattle.std.specs.Prelude.{All}
use Rattle.std.specs.List.{sum_by}
use Rattle.std.proofs.lemmas.List.{take_all}
use Rattle.std.proofs.lemmas.List.Elements.{All-nil, All-append, All-map, All-tail}
use Rattle.std.proofs.lemmas.List.Sums.{sum_by-cons}
use Rattle.std.proofs.lemmas.Nat.{mul-le}
use Rattle.hc_net.specs.Circuit.{Circuit}
use Rattle.hc_net.specs.Made.{Over, Makes}
use Rattle.hc_net.specs.MadeLemmas.{Makes-last, Makes-holds, Adds-room, Over-left, Over-over}
use Rattle.hc_net.specs.declared.node.Node.{Node}
use Rattle.hc_bits.specs.Elements.{element_nets}
use Rattle.hc_bits.proofs.Parts.{Over-right}
use Rattle.hc_store.specs.Takes.{all_nets, hold_gates}
use Rattle.hc_store.specs.Arrays.{TakesEach, array_gates, write_gates, constant_number}
use Rattle.hc_store.specs.Lines.{Lists, on_at, MakesLines, EachByLines, enables_of, line_nets, line_gates, line_count, all_line_gates, all_line_count}
use Rattle.hc_store.specs.declared.lines.Line.{Line}
use Rattle.hc_store.proofs.Taken.{taken_by_all}

-- ---- the gates

held_step : (w u n t : ℕ) → hold_gates w u + (2 * w + 1) * (n + t) ≡ (2 * w + 1) * (suc n + (u + t))
held_step w u n t = omega arith

-- the gates of the elements, by the number of lines
held_gates : (w : ℕ) (lines : List (List Line)) → sum_by (λ ls. hold_gates w (length ls)) lines ≡ (2 * w + 1) * (length lines + sum_by (λ ls. length ls) lines)
held_gates w [] = omega arith
held_gates w (ls ∷ rest) =
    let size = λ (l : List Line). length l in
    sum_by-cons (λ (l : List Line). hold_gates w (length l)) ls rest ∙ ap (λ n. hold_gates w (length ls) + n) (held_gates w rest)
    ∙ held_step w (length ls) (length rest) (sum_by size rest) ∙ ap (λ n. (2 * w + 1) * (suc (length rest) + n)) (sym (sum_by-cons size ls rest))

write_parts : (n w a : ℕ) (c : Option ℕ) → write_gates n w a c ≡ line_gates n a c + (2 * w + 1) * line_count n c
write_parts n w a None = omega arith
write_parts n w a (Some k) = omega arith

write_step : (m g c G C : ℕ) → (g + m * c) + (G + m * C) ≡ (g + G) + m * (c + C)
write_step m g c G C = omega arith

-- the gates of the writes, by those for their lines and the number of these
all_write_gates : (nodes : List Node) (n w : ℕ) (indexes : List (List ℕ))
    → sum_by (λ index. write_gates n w (length index) (constant_number nodes index)) indexes ≡ all_line_gates nodes n indexes + (2 * w + 1) * all_line_count nodes n indexes
all_write_gates nodes n w [] = omega arith
all_write_gates nodes n w (x ∷ rest) =
    let gates = λ (index : List ℕ). line_gates n (length index) (constant_number nodes index) in
    let count = λ (index : List ℕ). line_count n (constant_number nodes index) in
    sum_by-cons (λ (index : List ℕ). write_gates n w (length index) (constant_number nodes index)) x rest
    ∙ ap (λ m. m + sum_by (λ (index : List ℕ). write_gates n w (length index) (constant_number nodes index)) rest) (write_parts n w (length x) (constant_number nodes x))
    ∙ ap (λ m. gates x + (2 * w + 1) * count x + m) (all_write_gates nodes n w rest)
    ∙ write_step (2 * w + 1) (gates x) (count x) (sum_by gates rest) (sum_by count rest)
    ∙ ap (λ m. m + (2 * w + 1) * (count x + sum_by count rest)) (sym (sum_by-cons gates x rest))
    ∙ ap (λ m. sum_by gates (x ∷ rest) + (2 * w + 1) * m) (sym (sum_by-cons count x rest))

-- those of the elements
abbrev element_gates : ℕ → List (List Line) → ℕ
element_gates w lines = sum_by (λ ls. hold_gates w (length ls)) lines

-- the lines of all writes
pub all_lines : (n : ℕ) (enables : List ℕ) (indexes : List (List ℕ)) (old new : Circuit) (lines : List (List Line)) → MakesLines n enables indexes (length indexes) old new lines
    → (sum_by (λ ls. length ls) lines ≤ all_line_count old.nodes n indexes) × (length new.nodes ≤ length old.nodes + all_line_gates old.nodes n indexes)
all_lines n enables indexes old new lines made =
    let whole : take (length indexes) indexes ≡ indexes = take_all (length indexes) indexes (omega arith) in
    let few : sum_by (λ (ls : List Line). length ls) lines ≤ all_line_count old.nodes n indexes =
    subst (λ (l : List (List ℕ)). sum_by (λ (ls : List Line). length ls) lines ≤ all_line_count old.nodes n l) whole made.few in
    let grown : length new.nodes ≤ length old.nodes + all_line_gates old.nodes n indexes =
    subst (λ (l : List (List ℕ)). length new.nodes ≤ length old.nodes + all_line_gates old.nodes n l) whole (Adds-room made.adds) in
    (few, grown)

pub gates_fit : (n w : ℕ) (enables : List ℕ) (indexes : List (List ℕ)) (old new : Circuit) (lines : List (List Line)) → MakesLines n enables indexes (length indexes) old new lines
    → all_line_gates old.nodes n indexes + sum_by (λ ls. hold_gates w (length ls)) lines ≤ array_gates old.nodes n w indexes
gates_fit n w enables indexes old new lines made =
    let all = all_lines n enables indexes old new lines made in
    let count = sum_by (λ (ls : List Line). length ls) lines in
    let held : element_gates w lines ≡ (2 * w + 1) * (n + count) = held_gates w lines ∙ ap (λ m. (2 * w + 1) * (m + count)) made.count in
    let written = all_write_gates old.nodes n w indexes in
    let most : (2 * w + 1) * count ≤ (2 * w + 1) * all_line_count old.nodes n indexes = mul-le (2 * w + 1) count (2 * w + 1) (all_line_count old.nodes n indexes) (omega arith) all.0 in
    fits (all_line_gates old.nodes n indexes) (element_gates w lines) w n count (all_line_count old.nodes n indexes)
    (sum_by (λ (index : List ℕ). write_gates n w (length index) (constant_number old.nodes index)) indexes) held written most
  where
    fits : (g h w n t c s : ℕ) → h ≡ (2 * w + 1) * (n + t) → s ≡ g + (2 * w + 1) * c → (2 * w + 1) * t ≤ (2 * w + 1) * c → g + h ≤ n * (2 * w + 1) + s
    fits g h w n t c s held written most = omega arith

-- there is room for the lines, and then for the elements
pub lines_room : (n w : ℕ) (indexes : List (List ℕ)) (old : Circuit) → length old.nodes + array_gates old.nodes n w indexes < 2 ^ 32 → length old.nodes + all_line_gates old.nodes n indexes < 2 ^ 32
lines_room n w indexes old room = let written = all_write_gates old.nodes n w indexes in omega (arith, written, room)

pub elements_room : (n w : ℕ) (enables : List ℕ) (indexes : List (List ℕ)) (old mid : Circuit) (lines : List (List Line)) → MakesLines n enables indexes (length indexes) old mid lines
    → length old.nodes + array_gates old.nodes n w indexes < 2 ^ 32 → length mid.nodes + sum_by (λ ls. hold_gates w (length ls)) lines < 2 ^ 32
elements_room n w enables indexes old mid lines made room =
    let all = all_lines n enables indexes old mid lines made in
    let grown = all.1 in
    let gates = gates_fit n w enables indexes old mid lines made in
    omega (arith, grown, gates, room)

-- ---- the nets

all_line_nets : (P : ℕ → Type 0) (lines : List (List Line)) → All (All (λ line. P line.enable)) lines → All P (line_nets lines)
all_line_nets P [] all = All-nil P
all_line_nets P (ls ∷ rest) all =
    All-append P (enables_of ls) (line_nets rest) (All-map P (λ (l : Line). l.enable) ls (all 0 [] (omega arith))) (all_line_nets P rest (All-tail (All (λ (line : Line). P line.enable)) ls rest all))

pub lines_there : (n : ℕ) (enables : List ℕ) (indexes : List (List ℕ)) (i : ℕ) (old mid : Circuit) (lines : List (List Line)) → MakesLines n enables indexes i old mid lines
    → All (All (λ line. line.enable < length mid.nodes)) lines
lines_there n enables indexes i old mid lines made j d within k e at = (made.each j d within k e at).there

pub lines_writes : (n count : ℕ) (enables : List ℕ) (indexes : List (List ℕ)) (i : ℕ) (old mid : Circuit) (lines : List (List Line)) → i ≡ count → MakesLines n enables indexes i old mid lines
    → All (All (λ line. line.write < count)) lines
lines_writes n count enables indexes i old mid lines is made j d within k e at = let below = (made.each j d within k e at).write in omega (arith, below, is)

-- ---- the array

pub array_made : (n w : ℕ) (q enables z : List ℕ) (indexes values : List (List ℕ)) (old mid new : Circuit) (lines : List (List Line)) → length indexes ≡ length enables
    → MakesLines n enables indexes (length indexes) old mid lines
    → Makes (sum_by (λ ls. hold_gates w (length ls)) lines) (q ++ (line_nets lines ++ all_nets values)) mid new z (λ v. EachByLines v w (length lines) lines values q z)
    → Makes (array_gates old.nodes n w indexes) (q ++ (enables ++ (all_nets indexes ++ all_nets values))) old new z (λ v. TakesEach v n w enables indexes q values z)
array_made n w q enables z indexes values old mid new lines same made held =
    let args = q ++ (enables ++ (all_nets indexes ++ all_nets values)) in
    let Q = Over mid.nodes args in
    let count : length lines ≡ n = made.count in
    let behind : All Q (enables ++ (all_nets indexes ++ all_nets values)) = Over-right q (enables ++ (all_nets indexes ++ all_nets values)) in
    let others : All Q (all_nets indexes ++ all_nets values) = (λ k d at. Over-over behind (Over-right enables (all_nets indexes ++ all_nets values) k d at)) in
    let narrow : All Q (enables ++ all_nets indexes) = All-append Q enables (all_nets indexes)
    (λ k d at. Over-over behind (Over-left enables (all_nets indexes ++ all_nets values) k d at))
    (λ k d at. Over-over others (Over-left (all_nets indexes) (all_nets values) k d at)) in
    let of_lines : All Q (line_nets lines) = all_line_nets Q lines (λ j d within k e at. Over-over narrow ((made.each j d within k e at).reach)) in
    let first : Makes (all_line_gates old.nodes n (take (length indexes) indexes)) args old mid [] (λ v. (j : ℕ) → j < n → Lists v (on_at v enables indexes j) 0 (length indexes) (get_or lines j [])) =
    record { adds = made.adds; there = All-nil (λ k. k < length mid.nodes); reach = All-nil Q; value = made.value } in
    let over : All Q (q ++ (line_nets lines ++ all_nets values)) = All-append Q q (line_nets lines ++ all_nets values) (Over-left q (enables ++ (all_nets indexes ++ all_nets values)))
    (All-append Q (line_nets lines) (all_nets values) of_lines (λ k d at. Over-over others (Over-right (all_nets indexes) (all_nets values) k d at))) in
    let fit = gates_fit n w enables indexes old mid lines made in
    let whole : all_line_gates old.nodes n (take (length indexes) indexes) ≡ all_line_gates old.nodes n indexes =
    ap (λ (l : List (List ℕ)). all_line_gates old.nodes n l) (take_all (length indexes) indexes (omega arith)) in
    Makes-holds (Makes-last first held over) (omega (arith, fit, whole)) (λ v both. λ j within.
    taken_by_all v (on_at v enables indexes j) (length enables) (get_or lines j []) values (element_nets w q j) (element_nets w z j)
    (subst (λ m. Lists v (on_at v enables indexes j) 0 m (get_or lines j [])) same (both.0 j within)) (both.1 j (omega arith)))

-- the same by the number of elements as it is computed, and by the lines as they are passed on
pub array_of : (n count w : ℕ) (q enables z : List ℕ) (indexes values : List (List ℕ)) (old mid new : Circuit) (lines slice : List (List Line)) → count ≡ n → slice ≡ lines
    → length indexes ≡ length enables → MakesLines count enables indexes (length indexes) old mid lines
    → Makes (sum_by (λ ls. hold_gates w (length ls)) slice) (q ++ (line_nets slice ++ all_nets values)) mid new z (λ v. EachByLines v w (length slice) slice values q z)
    → Makes (array_gates old.nodes n w indexes) (q ++ (enables ++ (all_nets indexes ++ all_nets values))) old new z (λ v. TakesEach v n w enables indexes q values z)
array_of n count w q enables z indexes values old mid new lines slice is same also made held =
    subst (λ m. Makes (array_gates old.nodes m w indexes) (q ++ (enables ++ (all_nets indexes ++ all_nets values))) old new z (λ v. TakesEach v m w enables indexes q values z)) is
    (array_made count w q enables z indexes values old mid new lines also made
    (subst (λ (l : List (List Line)). Makes (sum_by (λ ls. hold_gates w (length ls)) l) (q ++ (line_nets l ++ all_nets values)) mid new z (λ v. EachByLines v w (length l) l values q z)) same held))
