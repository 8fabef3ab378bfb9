-- The next bits of an array, element by element.
use Rattle.std.proofs.Common.{◌≡◌, ◌<◌, ◌≤◌, ℕ, zero, suc, ◌+◌, ◌*◌, ◌^◌, List, [], ◌∷◌, ◌++◌, length, take, drop, get_or, ap, sym, ◌∙◌, subst, arith, inl, inr}
use Rattle.std.specs.Prelude.{All}
use Rattle.std.specs.List.{sum_by}
use Rattle.std.proofs.lemmas.Bool.{cases_lt}
use Rattle.std.proofs.lemmas.List.{length-append, length-drop, length-map, take_all, drop_at, take-append-le, drop-append-le}
use Rattle.std.proofs.lemmas.List.Elements.{All-nil, All-tail, All-append, All-take, All-drop, All-same}
use Rattle.std.proofs.lemmas.List.Sums.{sum_by_more, sum_by_more_le}
use Rattle.std.proofs.lemmas.Nat.{row_fits}
use Rattle.hc_net.specs.Circuit.{Circuit}
use Rattle.hc_net.specs.Made.{Over, Makes}
use Rattle.hc_net.specs.MadeLemmas.{Makes-none, Makes-then, Makes-holds, Adds-room, Adds-there, Adds-longer, Over-left, Over-over}
use Rattle.hc_net.specs.declared.node.Node.{Node}
use Rattle.hc_bits.specs.Elements.{element_nets}
use Rattle.hc_bits.proofs.Parts.{Over-right, Makes-over}
use Rattle.hc_store.specs.Takes.{Takes, all_nets, hold_gates}
use Rattle.hc_store.specs.Lines.{TakesByLines, EachByLines, enables_of, values_of, line_nets}
use Rattle.hc_store.specs.declared.lines.Line.{Line}
use Rattle.hc_store.proofs.Added.{one_over}

-- ---- nets one behind the other

element_before : (w j k : ℕ) (next z : List ℕ) → length next ≡ j * w → k < j → element_nets w (next ++ z) k ≡ element_nets w next k
element_before w j k next z size before =
    let fits : k * w + w ≤ j * w = row_fits k w j w before (omega arith) in
    ap (λ (l : List ℕ). take w l) (drop-append-le (k * w) next z (omega (arith, fits, size)))
    ∙ take-append-le w (drop (k * w) next) z (omega (arith, length-drop (k * w) next, fits, size))

element_last : (w j : ℕ) (next z : List ℕ) → length next ≡ j * w → length z ≡ w → element_nets w (next ++ z) j ≡ z
element_last w j next z size width = ap (λ (l : List ℕ). take w l) (drop_at next z (j * w) size) ∙ take_all w z (omega arith)

-- ---- element by element

-- the first j elements
pub record HeldElements (w : ℕ) (q : List ℕ) (lines : List (List Line)) (values : List (List ℕ)) (j : ℕ) (old new : Circuit) (next : List ℕ) : Type 0 where
  pub width : length next ≡ j * w
  pub made : Makes (sum_by (λ ls. hold_gates w (length ls)) (take j lines)) (q ++ (line_nets lines ++ all_nets values)) old new next
      (λ v. EachByLines v w j lines values q next)

pub HeldElements-none : (w : ℕ) (q : List ℕ) (lines : List (List Line)) (values : List (List ℕ)) (c : Circuit) → HeldElements w q lines values 0 c c []
HeldElements-none w q lines values c =
    let args = q ++ (line_nets lines ++ all_nets values) in
    record {
      width = omega arith;
      made = Makes-holds (Makes-none c args [] (All-nil (λ k. k < length c.nodes)) (All-nil (Over c.nodes args))) (omega arith) (λ v nothing. λ k low. absurd (omega arith));
    }

-- the nets of an element's lines
lines_over : {nodes : List Node} (lines : List (List Line)) (j : ℕ) → j < length lines → All (Over nodes (line_nets lines)) (enables_of (get_or lines j []))
lines_over [] j within = absurd (omega (arith, within))
lines_over (ls ∷ rest) zero within = Over-left (enables_of ls) (line_nets rest)
lines_over (ls ∷ rest) (suc j) within = λ k d at. Over-over (Over-right (enables_of ls) (line_nets rest)) (lines_over rest j (omega (arith, within)) k d at)

element_of : (P : ℕ → Type 0) (w j : ℕ) (q : List ℕ) → All P q → All P (element_nets w q j)
element_of P w j q all = All-take P w (drop (j * w) q) (All-drop P (j * w) q all)

pub HeldElements-more : (w j : ℕ) (q present bits next more : List ℕ) (own : List Line) (lines : List (List Line)) (values : List (List ℕ)) (old mid new : Circuit) → j < length lines
    → own ≡ get_or lines j [] → present ≡ element_nets w q j → length present ≡ w → length bits ≡ length present → more ≡ next ++ bits
    → HeldElements w q lines values j old mid next
    → Makes (hold_gates (length present) (length own)) (present ++ (enables_of own ++ all_nets values)) mid new bits (λ v. TakesByLines v own values present bits)
    → HeldElements w q lines values (j + 1) old new more
HeldElements-more w j q present bits next more own lines values old mid new within own_is present_is size also pushed so made =
    let args = q ++ (line_nets lines ++ all_nets values) in
    let Q = Over mid.nodes args in
    let this = element_nets w q j in
    let ours = get_or lines j [] in
    let width : length bits ≡ w = also ∙ size in
    let at_own = subst (λ (ls : List Line). Makes (hold_gates (length present) (length ls)) (present ++ (enables_of ls ++ all_nets values)) mid new bits (λ v. TakesByLines v ls values present bits)) own_is made in
    let at_this = subst (λ (l : List ℕ). Makes (hold_gates (length l) (length ours)) (l ++ (enables_of ours ++ all_nets values)) mid new bits (λ v. TakesByLines v ours values l bits)) present_is at_own in
    let gates : hold_gates (length this) (length ours) ≡ hold_gates w (length ours) = ap (λ k. hold_gates k (length ours)) (ap (λ (l : List ℕ). length l) (sym present_is) ∙ size) in
    let sums = sum_by_more (λ (ls : List Line). hold_gates w (length ls)) lines j [] within in
    let behind : All Q (line_nets lines ++ all_nets values) = Over-right q (line_nets lines ++ all_nets values) in
    let over : All Q (this ++ (enables_of ours ++ all_nets values)) = All-append Q this (enables_of ours ++ all_nets values)
    (element_of Q w j q (Over-left q (line_nets lines ++ all_nets values)))
    (All-append Q (enables_of ours) (all_nets values)
    (λ k d at. Over-over behind (Over-over (Over-left (line_nets lines) (all_nets values)) (lines_over lines j within k d at)))
    (λ k d at. Over-over behind (Over-right (line_nets lines) (all_nets values) k d at))) in
    let so_width : length next ≡ j * w = so.width in
    subst (λ (l : List ℕ). HeldElements w q lines values (j + 1) old new l) (sym pushed) (record {
      width = length-append next bits ∙ omega (arith, so_width, width);
      made = Makes-holds (Makes-then so.made at_this over) (omega (arith, sums, gates)) (λ v both. λ k at. elim (cases_lt k j) [
        | inl low ↦ subst (λ (z : List ℕ). TakesByLines v (get_or lines k []) values (element_nets w q k) z) (sym (element_before w j k next bits so_width low)) (both.0 k low)
        | inr high ↦
            let same : k ≡ j = omega arith in
            subst (λ m. TakesByLines v (get_or lines m []) values (element_nets w q m) (element_nets w (next ++ bits) m)) (sym same)
            (subst (λ (z : List ℕ). TakesByLines v ours values this z) (sym (element_last w j next bits so_width width)) both.1)
      ]);
    })

pub HeldElements-done : (w j : ℕ) (q next : List ℕ) (lines : List (List Line)) (values : List (List ℕ)) (old new : Circuit) → j ≡ length lines
    → HeldElements w q lines values j old new next
    → Makes (sum_by (λ ls. hold_gates w (length ls)) lines) (q ++ (line_nets lines ++ all_nets values)) old new next (λ v. EachByLines v w (length lines) lines values q next)
HeldElements-done w j q next lines values old new is so =
    let whole : take j lines ≡ lines = take_all j lines (omega arith) in
    let gates : sum_by (λ (ls : List Line). hold_gates w (length ls)) (take j lines) ≡ sum_by (λ (ls : List Line). hold_gates w (length ls)) lines =
    ap (λ (l : List (List Line)). sum_by (λ (ls : List Line). hold_gates w (length ls)) l) whole in
    Makes-holds so.made (omega (arith, gates)) (λ v each. λ k at. each k (omega arith))

-- ---- what the next element wants

pub present_there : (w j : ℕ) (q present next : List ℕ) (lines : List (List Line)) (values : List (List ℕ)) (old mid : Circuit) → present ≡ element_nets w q j
    → All (λ k. k < length old.nodes) q → HeldElements w q lines values j old mid next → All (λ k. k < length mid.nodes) present
present_there w j q present next lines values old mid is all so =
    All-same (λ k. k < length mid.nodes) present (element_nets w q j) is (element_of (λ k. k < length mid.nodes) w j q (Adds-there q so.made.adds all))

pub enables_there : (w j : ℕ) (q next : List ℕ) (own : List Line) (lines : List (List Line)) (values : List (List ℕ)) (old mid : Circuit) → j < length lines → own ≡ get_or lines j []
    → All (All (λ line. line.enable < length old.nodes)) lines → HeldElements w q lines values j old mid next → All (λ line. line.enable < length mid.nodes) own
enables_there w j q next own lines values old mid within is all so =
    All-same (λ (line : Line). line.enable < length mid.nodes) own (get_or lines j []) is
    (λ k d at. let there = all j [] within k d at in let longer = Adds-longer so.made.adds in omega (arith, there, longer))

pub writes_there : (count j : ℕ) (own : List Line) (lines : List (List Line)) → j < length lines → own ≡ get_or lines j []
    → All (All (λ line. line.write < count)) lines → All (λ line. line.write < count) own
writes_there count j own lines within is all = All-same (λ (line : Line). line.write < count) own (get_or lines j []) is (all j [] within)

pub element_room : (w j : ℕ) (q present next : List ℕ) (own : List Line) (lines : List (List Line)) (values : List (List ℕ)) (old mid : Circuit) → j < length lines → own ≡ get_or lines j []
    → length present ≡ w → HeldElements w q lines values j old mid next → length old.nodes + sum_by (λ ls. hold_gates w (length ls)) lines < 2 ^ 32
    → length mid.nodes + hold_gates (length present) (length own) < 2 ^ 32
element_room w j q present next own lines values old mid within is size so room =
    let grown = Adds-room so.made.adds in
    let sums = sum_by_more_le (λ (ls : List Line). hold_gates w (length ls)) lines j [] within in
    let gates : hold_gates (length present) (length own) ≡ hold_gates w (length (get_or lines j [])) =
    ap (λ k. hold_gates k (length own)) size ∙ ap (λ (ls : List Line). hold_gates w (length ls)) is in
    omega (arith, grown, sums, gates, room)

pub element_within : (w j n : ℕ) (q : List ℕ) → length q ≡ n * w → j < n → (j + 1) * w ≤ length q
element_within w j n q size low = let fits : j * w + w ≤ n * w = row_fits j w n w low (omega arith) in omega (arith, fits, size)

-- ---- one element by its lines

values_over : {nodes : List Node} (values : List (List ℕ)) (lines : List Line) → All (λ line. line.write < length values) lines
    → All (Over nodes (all_nets values)) (all_nets (values_of values lines))
values_over {nodes} values [] within = All-nil (Over nodes (all_nets values))
values_over {nodes} values (l ∷ ls) within =
    All-append (Over nodes (all_nets values)) (get_or values l.write []) (all_nets (values_of values ls)) (one_over values l.write (within 0 l (omega arith)))
    (values_over values ls (All-tail (λ (line : Line). line.write < length values) l ls within))

pub element_made : (present enables z : List ℕ) (lines : List Line) (slice values : List (List ℕ)) (old new : Circuit) → enables ≡ enables_of lines → slice ≡ values_of values lines
    → All (λ line. line.write < length values) lines
    → Makes (hold_gates (length present) (length enables)) (present ++ (enables ++ all_nets slice)) old new z (λ v. Takes v (length enables) (λ i. v (get_or enables i 0)) present slice z)
    → Makes (hold_gates (length present) (length lines)) (present ++ (enables_of lines ++ all_nets values)) old new z (λ v. TakesByLines v lines values present z)
element_made present enables z lines slice values old new is same within made =
    let own = enables_of lines in
    let args = present ++ (own ++ all_nets values) in
    let Q = Over old.nodes args in
    let size : length own ≡ length lines = length-map lines (λ (l : Line). l.enable) in
    let at_own = subst (λ (l : List ℕ). Makes (hold_gates (length present) (length l)) (present ++ (l ++ all_nets slice)) old new z (λ v. Takes v (length l) (λ i. v (get_or l i 0)) present slice z)) is made in
    let at_values = subst (λ (l : List (List ℕ)). Makes (hold_gates (length present) (length own)) (present ++ (own ++ all_nets l)) old new z (λ v. Takes v (length own) (λ i. v (get_or own i 0)) present l z)) same at_own in
    let behind : All Q (own ++ all_nets values) = Over-right present (own ++ all_nets values) in
    let over : All Q (present ++ (own ++ all_nets (values_of values lines))) = All-append Q present (own ++ all_nets (values_of values lines)) (Over-left present (own ++ all_nets values))
    (All-append Q own (all_nets (values_of values lines)) (λ k d at. Over-over behind (Over-left own (all_nets values) k d at))
    (λ k d at. Over-over behind (Over-over (Over-right own (all_nets values)) (values_over values lines within k d at)))) in
    let gates : hold_gates (length present) (length own) ≡ hold_gates (length present) (length lines) = ap (λ k. hold_gates (length present) k) size in
    Makes-holds (Makes-over at_values over) (omega (arith, gates))
    (λ v takes. subst (λ n. Takes v n (λ i. v (get_or own i 0)) present (values_of values lines) z) size takes)
