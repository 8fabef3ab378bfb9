-- The lines of all elements, write by write.
use Rattle.std.proofs.Common.{◌≡◌, ◌<◌, ◌≤◌, ℕ, zero, suc, ◌+◌, ◌*◌, ◌^◌, List, [], ◌∷◌, ◌++◌, length, map, get_or, Bool, true, false, ◌&&◌, Option, Some, None, refl, ap, sym, ◌∙◌, subst, arith, inl, inr}
use Rattle.std.specs.Prelude.{All, ◌==◌, replicate, slice_set}
use Rattle.std.specs.List.{range_with_len, sum_by}
use Rattle.std.proofs.lemmas.Bool.{cases_lt, cases_eq, eq-eqb, ne_eqb, and_right}
use Rattle.std.proofs.lemmas.List.{length-set, length-replicate, length_push, get_or-set_same, get_or-set_other, get_or-replicate, get_or-map, get_or_default, get_or_past, set_past}
use Rattle.std.proofs.lemmas.List.Elements.{All-nil, All-cons, All-push, All-set, All-same, All-replicate}
use Rattle.std.proofs.lemmas.List.FromFn.{get_or-map-range_with_len}
use Rattle.std.proofs.lemmas.List.Sums.{sum_by-cons, sum_by-set, sum_by_more, sum_by_more_le}
use Rattle.hc_net.specs.Bits.{number}
use Rattle.hc_net.specs.Circuit.{Circuit}
use Rattle.hc_net.specs.Made.{Over, Adds, Always}
use Rattle.hc_net.specs.MadeLemmas.{Adds-none, Adds-most, Adds-then, Adds-longer, Adds-room, Adds-extends, Over-kept, Over-left, Over-over}
use Rattle.hc_net.specs.declared.node.Node.{Node}
use Rattle.hc_bits.proofs.Parts.{Over-right}
use Rattle.hc_store.specs.Takes.{AreValues, all_nets}
use Rattle.hc_store.specs.Arrays.{constant_number}
use Rattle.hc_store.specs.Lines.{Lists, on_at, with_line, WithLines, AddsWrite, AddsToEach, IsLine, MakesLines, line_gates, line_count, all_line_gates}
use Rattle.hc_store.specs.declared.lines.Line.{Line}
use Rattle.hc_store.proofs.Constants.{number_same, number_bits}
use Rattle.hc_store.proofs.Taken.{line_of, Lists-off, Lists-on}

-- how many lines there are
abbrev lines_in : List (List Line) → ℕ
lines_in lines = sum_by (λ ls. length ls) lines

-- ---- a line for each element

-- the first i elements have one more
pub record WithFirst (nets : List ℕ) (write i : ℕ) (lines more : List (List Line)) : Type 0 where
  pub count : length more ≡ length lines
  pub below : (j : ℕ) → j < i → get_or more j [] ≡ get_or lines j [] ++ line_of (get_or nets j 0) write ∷ []
  pub above : (j : ℕ) → i ≤ j → get_or more j [] ≡ get_or lines j []
  pub few : sum_by (λ ls. length ls) more ≡ sum_by (λ ls. length ls) lines + i

pub WithFirst-none : (nets : List ℕ) (write : ℕ) (lines : List (List Line)) → WithFirst nets write 0 lines lines
WithFirst-none nets write lines = record { count = refl; below = λ j low. absurd (omega arith); above = λ j high. refl; few = omega arith }

-- one line more is counted
one_more : (lines : List (List Line)) (k : ℕ) (line : Line) → k < length lines → lines_in (with_line lines k line) ≡ lines_in lines + 1
one_more lines k line within =
    let longer = get_or lines k [] ++ line ∷ [] in
    let put : lines_in (slice_set lines k longer) + length (get_or lines k []) ≡ lines_in lines + length longer = sum_by-set (λ (ls : List Line). length ls) lines k longer [] within in
    let size : length longer ≡ length (get_or lines k []) + 1 = length_push (get_or lines k []) line in
    omega (arith, put, size)

pub WithFirst-more : (nets : List ℕ) (write i enable : ℕ) (lines so more : List (List Line)) → i < length lines → enable ≡ get_or nets i 0
    → WithFirst nets write i lines so → more ≡ with_line so i (line_of enable write) → WithFirst nets write (i + 1) lines more
WithFirst-more nets write i enable lines so more within enable_is first is =
    let count : length so ≡ length lines = first.count in
    let longer = get_or so i [] ++ line_of enable write ∷ [] in
    let at : get_or (slice_set so i longer) i [] ≡ get_or lines i [] ++ line_of (get_or nets i 0) write ∷ [] =
    get_or-set_same so i longer [] (omega arith) ∙ ap (λ (l : List Line). l ++ line_of enable write ∷ []) (first.above i (omega arith))
    ∙ ap (λ e. get_or lines i [] ++ line_of e write ∷ []) enable_is in
    subst (λ (l : List (List Line)). WithFirst nets write (i + 1) lines l) (sym is) (record {
      count = length-set so i longer ∙ count;
      below = λ j low. elim (cases_eq j i) [
        | inl same ↦ subst (λ k. get_or (slice_set so i longer) k [] ≡ get_or lines k [] ++ line_of (get_or nets k 0) write ∷ []) (sym same) at
        | inr other ↦ get_or-set_other so i j longer [] other ∙ first.below j (let lower : j < i = omega arith in lower)
      ];
      above = λ j high. get_or-set_other so i j longer [] (λ e. omega (arith, high, e)) ∙ first.above j (omega arith);
      few = let put = one_more so i (line_of enable write) (omega arith) in let so_far = first.few in omega (arith, put, so_far);
    })

pub WithFirst-all : (nets : List ℕ) (write i : ℕ) (lines more : List (List Line)) → i ≡ length nets → WithFirst nets write i lines more → WithLines nets write lines more
WithFirst-all nets write i lines more all first = record {
  count = first.count;
  each = λ j within. first.below j (omega arith);
  few = let few = first.few in omega (arith, few, all);
}

-- ---- no write

pub lines_none : (n : ℕ) (enables : List ℕ) (indexes : List (List ℕ)) (c : Circuit) (lines : List (List Line)) → lines ≡ replicate n [] → MakesLines n enables indexes 0 c c lines
lines_none n enables indexes c lines is =
    let args = enables ++ all_nets indexes in
    subst (λ (l : List (List Line)). MakesLines n enables indexes 0 c c l) (sym is) (record {
      count = length-replicate n [];
      few = let none = no_lines n in omega (arith, none);
      each = All-replicate (All (IsLine c.nodes args 0)) n [] (All-nil (IsLine c.nodes args 0));
      adds = Adds-most (omega arith) (Adds-none c);
      value = λ trace h e t j within.
          subst (λ (ls : List Line). Lists (h t) (on_at (h t) enables indexes j) 0 0 ls) (sym (get_or-replicate n j [] [] within)) (λ k low high. absurd (omega arith));
    })
  where
    no_lines : (n : ℕ) → lines_in (replicate n []) ≡ 0
    no_lines zero = refl
    no_lines (suc n) = let ih = no_lines n in sum_by-cons (λ (ls : List Line). length ls) [] (replicate n []) ∙ omega (arith, ih)

-- ---- one write more

line_kept : {most : ℕ} {old new : Circuit} (args : List ℕ) (i : ℕ) (line : Line) → Adds most old new → IsLine old.nodes args i line → IsLine new.nodes args (i + 1) line
line_kept args i line a is = record {
  there = let there = is.there in let longer = Adds-longer a in omega (arith, there, longer);
  reach = subst (λ (nodes : List Node). Over nodes args line.enable) (sym a.nodes) (Over-kept a.gates is.reach);
  write = let write = is.write in omega (arith, write);
}

all_kept : {most : ℕ} {old new : Circuit} (args : List ℕ) (i : ℕ) (lines : List (List Line)) → Adds most old new → All (All (IsLine old.nodes args i)) lines → All (All (IsLine new.nodes args (i + 1))) lines
all_kept args i lines a all j d within k e at = line_kept args i (get_or (get_or lines j d) k e) a (all j d within k e at)

-- the lines of any element
all_at : (P : Line → Type 0) (lines : List (List Line)) (k : ℕ) → All (All P) lines → All P (get_or lines k [])
all_at P lines k all = elim (cases_lt k (length lines)) [
  | inl low ↦ all k [] low
  | inr high ↦ subst (λ (ls : List Line). All P ls) (sym (get_or_past lines k [] high)) (All-nil P)
]

-- the nets of one list of several
pub one_over : {nodes : List Node} (lists : List (List ℕ)) (i : ℕ) → i < length lists → All (Over nodes (all_nets lists)) (get_or lists i [])
one_over [] i within = absurd (omega (arith, within))
one_over (x ∷ rest) zero within = Over-left x (all_nets rest)
one_over (x ∷ rest) (suc i) within = λ j d at. Over-over (Over-right x (all_nets rest)) (one_over rest i (omega (arith, within)) j d at)

-- from what a write adds
lines_more : {gates : ℕ} (n : ℕ) (enables : List ℕ) (indexes : List (List ℕ)) (i : ℕ) (old mid new : Circuit) (lines more : List (List Line)) → i < length indexes
    → MakesLines n enables indexes i old mid lines → length more ≡ length lines → Adds gates mid new
    → gates ≤ line_gates n (length (get_or indexes i [])) (constant_number old.nodes (get_or indexes i []))
    → lines_in more ≤ lines_in lines + line_count n (constant_number old.nodes (get_or indexes i []))
    → All (All (IsLine new.nodes (enables ++ all_nets indexes) (i + 1))) more
    → Always new.nodes (λ v. (j : ℕ) → j < n → Lists v (on_at v enables indexes j) 0 i (get_or lines j []) → Lists v (on_at v enables indexes j) 0 (i + 1) (get_or more j []))
    → MakesLines n enables indexes (i + 1) old new more
lines_more n enables indexes i old mid new lines more within so same adds gates few all step =
    let gates_sum = sum_by_more (λ (index : List ℕ). line_gates n (length index) (constant_number old.nodes index)) indexes i [] within in
    let count_sum = sum_by_more (λ (index : List ℕ). line_count n (constant_number old.nodes index)) indexes i [] within in
    let so_few = so.few in
    record {
      count = same ∙ so.count;
      few = omega (arith, count_sum, so_few, few);
      each = all;
      adds = Adds-most (omega (arith, gates_sum, gates)) (Adds-then so.adds adds);
      value = λ trace h e t j at. step trace h e t j at (so.value trace h (Adds-extends adds trace h e) t j at);
    }

with_true : (b c : Bool) → c ≡ true → b ≡ (b && c)
with_true true c is = sym is
with_true false c is = refl

-- a write to one element alone
constant_write : (n : ℕ) (enables : List ℕ) (indexes : List (List ℕ)) (i k : ℕ) (old mid : Circuit) (lines : List (List Line)) → i < length indexes → i < length enables
    → get_or enables i 0 < length mid.nodes → constant_number old.nodes (get_or indexes i []) ≡ Some k
    → MakesLines n enables indexes i old mid lines → MakesLines n enables indexes (i + 1) old mid (with_line lines k (line_of (get_or enables i 0) i))
constant_write n enables indexes i k old mid lines within also there known so =
    let args = enables ++ all_nets indexes in
    let enable = get_or enables i 0 in
    let index = get_or indexes i [] in
    let longer = get_or lines k [] ++ line_of enable i ∷ [] in
    let one : line_count n (constant_number old.nodes index) ≡ 1 = ap (λ c. line_count n c) known in
    let kept = all_kept args i lines (Adds-none mid) so.each in
    let added : IsLine mid.nodes args (i + 1) (line_of enable i) = record { there = there; reach = Over-left enables (all_nets indexes) i 0 also; write = omega arith } in
    lines_more n enables indexes i old mid mid lines (slice_set lines k longer) within so (length-set lines k longer) (Adds-none mid) (omega arith)
    (elim (cases_lt k (length lines)) [
      | inl low ↦ let put = one_more lines k (line_of enable i) low in omega (arith, put, one)
      | inr high ↦ let same : lines_in (slice_set lines k longer) ≡ lines_in lines = ap lines_in (set_past lines k longer high) in omega (arith, same)
    ])
    (All-set (All (IsLine mid.nodes args (i + 1))) lines k longer (All-push (IsLine mid.nodes args (i + 1)) (get_or lines k []) (line_of enable i) (all_at (IsLine mid.nodes args (i + 1)) lines k kept) added) kept)
    (λ trace h e t j at so_far.
    let number_is : number (map (h t) index) ≡ k = number_bits old.nodes trace h index k (Adds-extends so.adds trace h e) known t in
    let count : length lines ≡ n = so.count in
    elim (cases_eq j k) [
      | inl same ↦
          let is : get_or (slice_set lines k longer) j [] ≡ get_or lines j [] ++ line_of enable i ∷ [] =
          ap (λ m. get_or (slice_set lines k longer) m []) same ∙ get_or-set_same lines k longer [] (omega arith) ∙ ap (λ m. get_or lines m [] ++ line_of enable i ∷ []) (sym same) in
          subst (λ (ls : List Line). Lists (h t) (on_at (h t) enables indexes j) 0 (i + 1) ls) (sym is)
          (Lists-on (h t) (on_at (h t) enables indexes j) 0 i enable (get_or lines j []) so_far (omega arith)
          (with_true (h t enable) (number (map (h t) index) == j) (eq-eqb (number (map (h t) index)) j (number_is ∙ sym same))))
      | inr other ↦
          subst (λ (ls : List Line). Lists (h t) (on_at (h t) enables indexes j) 0 (i + 1) ls) (sym (get_or-set_other lines k j longer [] other))
          (Lists-off (h t) (on_at (h t) enables indexes j) 0 i (get_or lines j []) so_far
          (and_right (h t enable) (number (map (h t) index) == j) (ne_eqb (number (map (h t) index)) j (λ e. other (sym e ∙ number_is)))))
    ])

-- a write with a line for each element
open_write : (n : ℕ) (enables : List ℕ) (indexes : List (List ℕ)) (i : ℕ) (old mid new : Circuit) (lines more : List (List Line)) → i < length indexes → i < length enables
    → constant_number old.nodes (get_or indexes i []) ≡ None
    → MakesLines n enables indexes i old mid lines → AddsToEach (get_or enables i 0) (get_or indexes i []) i mid new lines more → MakesLines n enables indexes (i + 1) old new more
open_write n enables indexes i old mid new lines more within also known so added =
    let args = enables ++ all_nets indexes in
    let enable = get_or enables i 0 in
    let index = get_or indexes i [] in
    let made = added.circuit in
    let put = added.put in
    let P = IsLine new.nodes args (i + 1) in
    let count : length lines ≡ n = so.count in
    let width : length added.nets ≡ length lines = added.width in
    let gates : line_gates n (length index) (constant_number old.nodes index) ≡ n * length index + length index + n = ap (λ c. line_gates n (length index) c) known in
    let size : length lines * length index ≡ n * length index = ap (λ m. m * length index) count in
    let some : line_count n (constant_number old.nodes index) ≡ n = ap (λ c. line_count n c) known in
    let kept = all_kept args i lines made.adds so.each in
    let over : All (Over new.nodes args) (enable ∷ index) = All-cons (Over new.nodes args) enable index (Over-left enables (all_nets indexes) i 0 also)
    (λ j d at. Over-over (Over-right enables (all_nets indexes)) (one_over indexes i within j d at)) in
    lines_more n enables indexes i old mid new lines more within so put.count made.adds (omega (arith, gates, size, count))
    (let few = put.few in omega (arith, few, width, count, some))
    (λ j d at.
    let same : length more ≡ length lines = put.count in
    subst (λ (ls : List Line). All P ls) (sym (get_or_default more j d [] at ∙ put.each j (omega arith)))
    (All-push P (get_or lines j []) (line_of (get_or added.nets j 0) i) (all_at P lines j kept)
    (record { there = made.there j 0 (omega arith); reach = Over-over over (made.reach j 0 (omega arith)); write = omega arith })))
    (λ trace h e t j at so_far.
    let bits : map (h t) added.nets ≡ map (λ m. h t enable && (number (map (h t) index) == m)) (range_with_len 0 (length lines)) = made.value trace h e t in
    let bit : h t (get_or added.nets j 0) ≡ (h t enable && (number (map (h t) index) == j)) =
    sym (get_or-map (h t) added.nets j 0 false (omega arith)) ∙ ap (λ (l : List Bool). get_or l j false) bits
    ∙ get_or-map-range_with_len (λ m. h t enable && (number (map (h t) index) == m)) 0 (length lines) j j false (omega arith) (omega arith) in
    subst (λ (ls : List Line). Lists (h t) (on_at (h t) enables indexes j) 0 (i + 1) ls) (sym (put.each j (omega arith)))
    (Lists-on (h t) (on_at (h t) enables indexes j) 0 i (get_or added.nets j 0) (get_or lines j []) so_far (omega arith) bit))

by_constant : (n : ℕ) (enables : List ℕ) (indexes : List (List ℕ)) (i : ℕ) (c : Option ℕ) (old mid new : Circuit) (lines more : List (List Line)) → i < length indexes → i < length enables
    → get_or enables i 0 < length mid.nodes → constant_number old.nodes (get_or indexes i []) ≡ c
    → MakesLines n enables indexes i old mid lines → AddsWrite (get_or enables i 0) (get_or indexes i []) i c mid new lines more → MakesLines n enables indexes (i + 1) old new more
by_constant n enables indexes i None old mid new lines more within also there known so added = open_write n enables indexes i old mid new lines more within also known so added
by_constant n enables indexes i (Some k) old mid new lines more within also there known so added =
    subst (λ (c : Circuit). MakesLines n enables indexes (i + 1) old c more) (sym added.0)
    (subst (λ (l : List (List Line)). MakesLines n enables indexes (i + 1) old mid l) (sym added.1) (constant_write n enables indexes i k old mid lines within also there known so))

-- the write as its loop has it
pub write_added : (n : ℕ) (enables index : List ℕ) (indexes : List (List ℕ)) (i enable : ℕ) (old mid new : Circuit) (lines more : List (List Line)) → i < length indexes → i < length enables
    → enable ≡ get_or enables i 0 → index ≡ get_or indexes i [] → All (λ k. k < length old.nodes) enables → All (λ k. k < length old.nodes) index
    → MakesLines n enables indexes i old mid lines → AddsWrite enable index i (constant_number mid.nodes index) mid new lines more → MakesLines n enables indexes (i + 1) old new more
write_added n enables index indexes i enable old mid new lines more within also enable_is index_is enables_there index_there so added =
    let longer = Adds-longer so.adds in
    let there : get_or enables i 0 < length old.nodes = enables_there i 0 also in
    let same : constant_number mid.nodes index ≡ constant_number old.nodes index = number_same index so.adds index_there in
    let at_old = subst (λ (c : Option ℕ). AddsWrite enable index i c mid new lines more) same added in
    let at_index = subst (λ (l : List ℕ). AddsWrite enable l i (constant_number old.nodes l) mid new lines more) index_is at_old in
    let at_enable = subst (λ e. AddsWrite e (get_or indexes i []) i (constant_number old.nodes (get_or indexes i [])) mid new lines more) enable_is at_index in
    by_constant n enables indexes i (constant_number old.nodes (get_or indexes i [])) old mid new lines more within also (omega (arith, longer, there)) refl so at_enable

-- there is room for the next write
pub write_room : (n : ℕ) (enables index : List ℕ) (indexes : List (List ℕ)) (i : ℕ) (old mid : Circuit) (lines : List (List Line)) → i < length indexes → index ≡ get_or indexes i []
    → All (λ k. k < length old.nodes) index → MakesLines n enables indexes i old mid lines → length old.nodes + all_line_gates old.nodes n indexes < 2 ^ 32
    → length mid.nodes + line_gates (length lines) (length index) (constant_number mid.nodes index) < 2 ^ 32
write_room n enables index indexes i old mid lines within index_is index_there so room =
    let grown = Adds-room so.adds in
    let next = sum_by_more_le (λ (index : List ℕ). line_gates n (length index) (constant_number old.nodes index)) indexes i [] within in
    let same : line_gates (length lines) (length index) (constant_number mid.nodes index) ≡ line_gates n (length (get_or indexes i [])) (constant_number old.nodes (get_or indexes i [])) =
    ap (λ c. line_gates (length lines) (length index) c) (number_same index so.adds index_there) ∙ ap (λ m. line_gates m (length index) (constant_number old.nodes index)) so.count
    ∙ ap (λ (l : List ℕ). line_gates n (length l) (constant_number old.nodes l)) index_is in
    omega (arith, grown, next, same, room)

-- after the last write
pub lines_all : (n : ℕ) (enables : List ℕ) (indexes : List (List ℕ)) (i : ℕ) (old new : Circuit) (lines : List (List Line)) → i ≡ length indexes
    → MakesLines n enables indexes i old new lines → MakesLines n enables indexes (length indexes) old new lines
lines_all n enables indexes i old new lines is made = subst (λ k. MakesLines n enables indexes k old new lines) is made

-- an index of those that are given
pub is_index : (n size : ℕ) (indexes : List (List ℕ)) (i : ℕ) (index : List ℕ) → i < length indexes → index ≡ get_or indexes i index → AreValues n size indexes
    → (index ≡ get_or indexes i []) × (length index ≡ size) × All (λ k. k < n) index
is_index n size indexes i index within read all =
    let is : index ≡ get_or indexes i [] = read ∙ get_or_default indexes i index [] within in
    (is, ap (λ (l : List ℕ). length l) is ∙ (all i [] within).width, All-same (λ k. k < n) index (get_or indexes i []) is ((all i [] within).there))
