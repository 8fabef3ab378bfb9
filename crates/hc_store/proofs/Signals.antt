-- The bits of a signal: its default as nets, and the values joined.
use Rattle.std.proofs.Common.{◌≡◌, ◌<◌, ℕ, zero, suc, ◌+◌, ◌*◌, ◌/◌, ◌%◌, ◌^◌, List, [], ◌∷◌, ◌++◌, length, map, get_or, Bool, true, false, if◌then◌else◌, refl, ap, sym, ◌∙◌, subst, arith, length-append, ◌≤◌, ◌-◌, take, drop}
use Rattle.std.specs.Prelude.{All, bit_or, ◌==◌}
use Rattle.std.specs.List.{range_with_len}
use Rattle.std.proofs.Math.Nat.{div-one, mod-eq_of_lt}
use Rattle.std.proofs.lemmas.Nat.{mod-pow-add, shr-shr, or_shifted}
use Rattle.std.proofs.lemmas.List.{append-nil, map-append, length-map, drop_more, drop_all, take-append-drop}
use Rattle.std.proofs.lemmas.List.Concat.{flat_map-append}
use Rattle.std.proofs.lemmas.List.Elements.{All-nil, All-tail, All-append}
use Rattle.std.proofs.lemmas.List.FromFn.{length-map-range_with_len, map-range_with_len_more}
use Rattle.std.proofs.lemmas.Simd.{map-map}
use Rattle.hc_net.specs.Bits.{number, bit}
use Rattle.hc_net.specs.Circuit.{Circuit, with_node}
use Rattle.hc_net.specs.Gate.{gate_bit}
use Rattle.hc_net.specs.Made.{Over, Makes}
use Rattle.hc_net.specs.MadeLemmas.{Over-left, Over-over, Over-self, Makes-as, Makes-gate, Makes-holds, Makes-last, Makes-then}
use Rattle.hc_net.specs.declared.gate.GateKind.TheVariants as kind
use Rattle.hc_net.specs.declared.node.Node.{Node}
use Rattle.hc_net.specs.declared.node.Node.TheVariants.{Gate}
use Rattle.hc_bits.specs.Carry.{each}
use Rattle.hc_bits.proofs.Bitwise.{number-each, or_bitwise}
use Rattle.hc_bits.proofs.EachBit.{bits_of, map_same}
use Rattle.hc_bits.proofs.Parts.{All-one, All-right, Over-right, Makes-over, Makes-wider}
use Rattle.hc_store.specs.Takes.{AreValues, IsValue, all_nets, column_nets, hold_gates, joined_bit, none_of, some_both}
use Rattle.hc_store.specs.Signals.{assigned, constant_nets, or_all, presented, signal_gates}

-- ---- constants

-- a number's bits from place a on
number_bits : (b a w : ℕ) → number (map (bit b) (range_with_len a w)) ≡ b / 2 ^ a % 2 ^ w
number_bits b a zero = omega arith
number_bits b a (suc w) =
    let q = b / 2 ^ a in
    let ih : number (map (bit b) (range_with_len (a + 1) w)) ≡ b / 2 ^ (a + 1) % 2 ^ w = number_bits b (a + 1) w in
    let half : b / 2 ^ (a + 1) ≡ q / 2 ^ 1 = sym (shr-shr b a 1) in
    let more : q % 2 ^ (w + 1) ≡ q / 2 ^ 1 % 2 ^ w * 2 ^ 1 + q % 2 ^ 1 = mod-pow-add q w 1 in
    let rest : number (map (bit b) (range_with_len (a + 1) w)) ≡ q / 2 ^ 1 % 2 ^ w = ih ∙ ap (λ k. k % 2 ^ w) half in
    let next : w + 1 ≡ suc w = omega arith in
    ap (λ k. (if bit b a then 1 else 0) + 2 * k) rest
    ∙ ap (λ k. k + 2 * (q / 2 ^ 1 % 2 ^ w)) (digit (q % 2) (omega arith))
    ∙ (let e : q % 2 + 2 * (q / 2 ^ 1 % 2 ^ w) ≡ q / 2 ^ 1 % 2 ^ w * 2 ^ 1 + q % 2 ^ 1 = omega arith in e)
    ∙ sym more ∙ ap (λ k. q % 2 ^ k) next
  where
    digit : (r : ℕ) → r < 2 → (if r == 1 then 1 else 0) ≡ r
    digit zero low = refl
    digit (suc zero) low = refl
    digit (suc (suc r)) low = absurd (omega (arith, low))

-- one bit more
pub constant_more : (low high bits : ℕ) (nets more : List ℕ) (place net : ℕ) → more ≡ nets ++ net ∷ [] → nets ≡ constant_nets low high place bits
    → net ≡ (if bit bits place then high else low) → more ≡ constant_nets low high (place + 1) bits
constant_more low high bits nets more place net pushed so_far is =
    pushed ∙ ap (λ l. l ++ net ∷ []) so_far ∙ ap (λ k. constant_nets low high place bits ++ k ∷ []) is
    ∙ sym (map-range_with_len_more (λ i. if bit bits i then high else low) 0 place place (omega arith))

constant_bits : (v : ℕ → Bool) (low high b : ℕ) → v low ≡ false → v high ≡ true → (l : List ℕ) → map v (map (λ i. if bit b i then high else low) l) ≡ map (bit b) l
constant_bits v low high b is_low is_high [] = refl
constant_bits v low high b is_low is_high (i ∷ l) =
    ap (λ c. c ∷ map v (map (λ j. if bit b j then high else low) l)) (pick (bit b i)) ∙ ap (λ r. bit b i ∷ r) (constant_bits v low high b is_low is_high l)
  where
    pick : (c : Bool) → v (if c then high else low) ≡ c
    pick true = is_high
    pick false = is_low

constant_number : (v : ℕ → Bool) (low high width bits : ℕ) → bits < 2 ^ width → v low ≡ false → v high ≡ true → number (map v (constant_nets low high width bits)) ≡ bits
constant_number v low high width bits fits is_low is_high =
    ap number (constant_bits v low high bits is_low is_high (range_with_len 0 width)) ∙ number_bits bits 0 width ∙ ap (λ k. k % 2 ^ width) (div-one bits) ∙ mod-eq_of_lt fits

constant_all : (P : ℕ → Type 0) (low high width bits : ℕ) → P low → P high → All P (constant_nets low high width bits)
constant_all P low high width bits is_low is_high = over (range_with_len 0 width)
  where
    pick : (c : Bool) → P (if c then high else low)
    pick true = is_high
    pick false = is_low

    over : (l : List ℕ) → All P (map (λ i. if bit bits i then high else low) l)
    over [] k d within = absurd (omega (arith, within))
    over (i ∷ l) zero d within = pick (bit bits i)
    over (i ∷ l) (suc k) d within = over l k d (omega arith)

pub constant_width : (low high width bits : ℕ) (z : List ℕ) → z ≡ constant_nets low high width bits → length z ≡ width
constant_width low high width bits z is = ap length is ∙ length-map-range_with_len (λ i. if bit bits i then high else low) 0 width

pub constant_made : (width bits low high : ℕ) (z : List ℕ) (old mid new : Circuit) → bits < 2 ^ width
    → (low ≡ length old.nodes) × (mid ≡ with_node old (Gate kind.Zero 0 0)) → (high ≡ length mid.nodes) × (new ≡ with_node mid (Gate kind.One 0 0))
    → z ≡ constant_nets low high width bits → Makes 2 [] old new z (λ v. number (map v z) ≡ bits)
constant_made width bits low high z old mid new fits first second is =
    let zero_made = Makes-gate [] old mid kind.Zero 0 0 low first.0 first.1 tt in
    let one_made = Makes-gate [] mid new kind.One 0 0 high second.0 second.1 tt in
    let both = Makes-then zero_made one_made (All-nil (Over mid.nodes [])) in
    subst (λ (l : List ℕ). Makes 2 [] old new l (λ v. number (map v l) ≡ bits)) (sym is)
    (Makes-as both (omega arith)
    (constant_all (λ k. k < length new.nodes) low high width bits (both.there 0 0 (omega arith)) (both.there 1 0 (omega arith)))
    (constant_all (Over new.nodes []) low high width bits (both.reach 0 0 (omega arith)) (both.reach 1 0 (omega arith)))
    (λ v holds. constant_number v low high width bits fits holds.0 holds.1))

-- ---- values joined

number_zeros : (l : List ℕ) → number (map (λ i. false) l) ≡ 0
number_zeros [] = refl
number_zeros (i ∷ l) = ap (λ n. 0 + 2 * n) (number_zeros l)

each_map : (g : Bool → Bool → Bool) (f h : ℕ → Bool) (l : List ℕ) → each g (map f l) (map h l) ≡ map (λ i. g (f i) (h i)) l
each_map g f h [] = refl
each_map g f h (i ∷ l) = ap (λ r. g (f i) (h i) ∷ r) (each_map g f h l)

-- bit i of the rows that are on, joined
abbrev rows_bit : (ℕ → Bool) → List Bool → List (List ℕ) → ℕ → Bool
rows_bit v ons rows i = some_both ons (map (λ row. v (get_or row i 0)) rows)

-- the number of the rows that are on, joined
rows_number : (v : ℕ → Bool) (w : ℕ) (ons : List Bool) (rows : List (List ℕ)) → length rows ≡ length ons → All (λ row. length row ≡ w) rows
    → number (map (rows_bit v ons rows) (range_with_len 0 w)) ≡ or_all (assigned v ons rows)
rows_number v w [] rows same all = number_zeros (range_with_len 0 w)
rows_number v w (on ∷ ons) [] same all = absurd (omega (arith, same))
rows_number v w (false ∷ ons) (row ∷ rows) same all = rows_number v w ons rows (omega (arith, same)) (All-tail (λ (r : List ℕ). length r ≡ w) row rows all)
rows_number v w (true ∷ ons) (row ∷ rows) same all =
    let range = range_with_len 0 w in
    let width : length row ≡ w = all 0 [] (omega arith) in
    let own : map v row ≡ map (λ i. v (get_or row i 0)) range = bits_of v row ∙ ap (λ n. map (λ i. v (get_or row i 0)) (range_with_len 0 n)) width in
    let split = each_map (gate_bit kind.Or) (λ i. v (get_or row i 0)) (rows_bit v ons rows) range in
    ap number (sym split)
    ∙ number-each bit_or (gate_bit kind.Or) or_bitwise (map (λ i. v (get_or row i 0)) range) (map (rows_bit v ons rows) range)
    (length-map range (rows_bit v ons rows) ∙ sym (length-map range (λ i. v (get_or row i 0))))
    ∙ ap (λ l. bit_or (number l) (number (map (rows_bit v ons rows) range))) (sym own)
    ∙ ap (λ n. bit_or (number (map v row)) n) (rows_number v w ons rows (omega (arith, same)) (All-tail (λ (r : List ℕ). length r ≡ w) row rows all))

-- ---- with the default behind the values

or_none : (n : ℕ) → bit_or n 0 ≡ n
or_none n =
    let one : n * 2 ^ 0 ≡ n = omega arith in
    ap (λ k. bit_or k 0) (sym one) ∙ or_shifted n 0 0 (omega arith) ∙ (let e : n * 2 ^ 0 + 0 ≡ n = omega arith in e)

-- one more that is off
assigned_off : (v : ℕ → Bool) (q : List ℕ) (ons : List Bool) (values : List (List ℕ)) → length values ≡ length ons
    → assigned v (ons ++ false ∷ []) (values ++ q ∷ []) ≡ assigned v ons values
assigned_off v q [] [] same = refl
assigned_off v q [] (x ∷ values) same = absurd (omega (arith, same))
assigned_off v q (on ∷ ons) [] same = absurd (omega (arith, same))
assigned_off v q (true ∷ ons) (x ∷ values) same = ap (λ l. number (map v x) ∷ l) (assigned_off v q ons values (omega (arith, same)))
assigned_off v q (false ∷ ons) (x ∷ values) same = assigned_off v q ons values (omega (arith, same))

presented_last : (v : ℕ → Bool) (q : List ℕ) (ons : List Bool) (values : List (List ℕ)) → length values ≡ length ons
    → or_all (assigned v (ons ++ none_of ons ∷ []) (values ++ q ∷ [])) ≡ presented (number (map v q)) (assigned v ons values)
presented_last v q [] [] same = or_none (number (map v q))
presented_last v q [] (x ∷ values) same = absurd (omega (arith, same))
presented_last v q (on ∷ ons) [] same = absurd (omega (arith, same))
presented_last v q (true ∷ ons) (x ∷ values) same = ap (λ l. bit_or (number (map v x)) (or_all l)) (assigned_off v q ons values (omega (arith, same)))
presented_last v q (false ∷ ons) (x ∷ values) same = presented_last v q ons values (omega (arith, same))

column_bits : (v : ℕ → Bool) (q : List ℕ) (values : List (List ℕ)) (i : ℕ)
    → map v (column_nets q values i) ≡ map (λ row. v (get_or row i 0)) (values ++ q ∷ [])
column_bits v q values i =
    map-append v (map (λ value. get_or value i 0) values) (get_or q i 0 ∷ []) ∙ ap (λ l. l ++ v (get_or q i 0) ∷ []) (map-map v (λ value. get_or value i 0) values)
    ∙ sym (map-append (λ row. v (get_or row i 0)) values (q ∷ []))

joined_number : (v : ℕ → Bool) (n : ℕ) (q enables z : List ℕ) (values : List (List ℕ)) → length values ≡ length enables → AreValues n (length q) values
    → map v z ≡ map (joined_bit v q enables values) (range_with_len 0 (length q))
    → number (map v z) ≡ presented (number (map v q)) (assigned v (map v enables) values)
joined_number v n q enables z values same each is =
    let ons = map v enables ++ none_of (map v enables) ∷ [] in
    let rows = values ++ q ∷ [] in
    let size : length values ≡ length (map v enables) = same ∙ sym (length-map enables v) in
    let sizes : length rows ≡ length ons = omega (arith, size, length-append values (q ∷ []), length-append (map v enables) (none_of (map v enables) ∷ [])) in
    let wide : All (λ row. length row ≡ length q) rows =
    All-append (λ (row : List ℕ). length row ≡ length q) values (q ∷ []) (λ j d at. (each j d at).width) (All-one (λ (row : List ℕ). length row ≡ length q) q refl) in
    ap number (is ∙ map_same (joined_bit v q enables values) (rows_bit v ons rows) (λ i. ap (λ l. some_both ons l) (column_bits v q values i)) (range_with_len 0 (length q)))
    ∙ rows_number v (length q) ons rows sizes wide ∙ presented_last v q (map v enables) values size

-- ---- the signal

pub signal_made : (n width bits unset : ℕ) (q enables z : List ℕ) (values : List (List ℕ)) (old mid new : Circuit)
    → length values ≡ length enables → AreValues n width values → length q ≡ width → bits ≡ unset
    → Makes 2 [] old mid q (λ v. number (map v q) ≡ bits)
    → Makes (hold_gates (length q) (length enables)) (q ++ (enables ++ all_nets values)) mid new z
    (λ v. map v z ≡ map (joined_bit v q enables values) (range_with_len 0 (length q)))
    → Makes (signal_gates width (length enables)) (enables ++ all_nets values) old new z (λ v. number (map v z) ≡ presented unset (assigned v (map v enables) values))
signal_made n width bits unset q enables z values old mid new same each size is constant made =
    let args = enables ++ all_nets values in
    let wide = Makes-wider constant (All-nil (Over mid.nodes args)) in
    let over : All (Over mid.nodes args) (q ++ args) = All-append (Over mid.nodes args) q args wide.reach (Over-self args) in
    let own : AreValues n (length q) values = subst (λ k. AreValues n k values) (sym size) each in
    let most : 2 + hold_gates (length q) (length enables) ≡ signal_gates width (length enables) = ap (λ k. 2 + hold_gates k (length enables)) size in
    Makes-holds (Makes-last wide made over) (omega (arith, most))
    (λ v holds. joined_number v n q enables z values same own holds.1 ∙ ap (λ k. presented k (assigned v (map v enables) values)) (holds.0 ∙ is))

-- ---- a default of 0

presented_zero : (l : List ℕ) → or_all l ≡ presented 0 l
presented_zero [] = refl
presented_zero (n ∷ rest) = refl

nets_split : (front : List (List ℕ)) (last : List ℕ) → all_nets (front ++ last ∷ []) ≡ all_nets front ++ last
nets_split front last = flat_map-append (λ (nets : List ℕ). nets) front (last ∷ []) ∙ ap (λ l. all_nets front ++ l) (append-nil last)

split_over : {nodes : List Node} (enables last : List ℕ) (front : List (List ℕ)) → All (Over nodes (enables ++ all_nets (front ++ last ∷ []))) (enables ++ (last ++ all_nets front))
split_over {nodes} enables last front =
    let all = all_nets front ++ last in
    subst (λ (l : List ℕ). All (Over nodes (enables ++ l)) (enables ++ (last ++ all_nets front))) (sym (nets_split front last))
    (All-append (Over nodes (enables ++ all)) enables (last ++ all_nets front) (Over-left enables all)
    (All-append (Over nodes (enables ++ all)) last (all_nets front)
    (λ i d at. Over-over (Over-right enables all) (Over-right (all_nets front) last i d at))
    (λ i d at. Over-over (Over-right enables all) (Over-left (all_nets front) last i d at))))

split_made : (n width : ℕ) (enables last z : List ℕ) (front : List (List ℕ)) (old new : Circuit)
    → length (front ++ last ∷ []) ≡ length enables → AreValues n width (front ++ last ∷ [])
    → Makes (length last * (2 * length enables)) (enables ++ (last ++ all_nets front)) old new z
    (λ v. map v z ≡ map (λ i. some_both (map v enables) (map v (column_nets last front i))) (range_with_len 0 (length last)))
    → Makes (signal_gates width (length enables)) (enables ++ all_nets (front ++ last ∷ [])) old new z
    (λ v. number (map v z) ≡ presented 0 (assigned v (map v enables) (front ++ last ∷ [])))
split_made n width enables last z front old new same all made =
    let rows = front ++ last ∷ [] in
    let size : length last ≡ width = (All-right (IsValue n width) front (last ∷ []) all 0 [] (omega arith)).width in
    let wide : All (λ row. length row ≡ length last) rows = (λ j d at. (all j d at).width ∙ sym size) in
    let most : length last * (2 * length enables) ≤ signal_gates width (length enables) =
    subst (λ k. k * (2 * length enables) ≤ signal_gates width (length enables)) (sym size) (few width (length enables)) in
    Makes-holds (Makes-over made (split_over enables last front)) most
    (λ v is.
    ap number (is ∙ map_same (λ i. some_both (map v enables) (map v (column_nets last front i))) (rows_bit v (map v enables) rows)
    (λ i. ap (λ l. some_both (map v enables) l) (column_bits v last front i)) (range_with_len 0 (length last)))
    ∙ rows_number v (length last) (map v enables) rows (same ∙ sym (length-map enables v)) wide ∙ presented_zero (assigned v (map v enables) rows))
  where
    few : (w k : ℕ) → w * (2 * k) ≤ signal_gates w k
    few w k = omega arith

pub last_split : (values front back : List (List ℕ)) (last : List ℕ) → 0 < length values → front ≡ take (length values - 1) values → back ≡ drop (length values - 1) values
    → last ≡ get_or back 0 last → values ≡ front ++ last ∷ []
last_split values front back last some front_is back_is is =
    let k = length values - 1 in
    let one : drop k values ≡ get_or values k last ∷ drop (k + 1) values = drop_more values k last (omega arith) in
    let none : drop (k + 1) values ≡ [] = drop_all (k + 1) values (omega arith) in
    let whole : back ≡ get_or values k last ∷ [] = back_is ∙ one ∙ ap (λ l. get_or values k last ∷ l) none in
    let alone : back ≡ last ∷ [] = whole ∙ ap (λ x. x ∷ []) (sym (is ∙ ap (λ l. get_or l 0 last) whole)) in
    sym (take-append-drop k values) ∙ ap (λ l. l ++ drop k values) (sym front_is) ∙ ap (λ l. front ++ l) (sym back_is ∙ alone)

pub plain_made : (n width unset : ℕ) (enables last z : List ℕ) (values front : List (List ℕ)) (old new : Circuit)
    → length values ≡ length enables → AreValues n width values → values ≡ front ++ last ∷ [] → unset ≡ 0
    → Makes (length last * (2 * length enables)) (enables ++ (last ++ all_nets front)) old new z
    (λ v. map v z ≡ map (λ i. some_both (map v enables) (map v (column_nets last front i))) (range_with_len 0 (length last)))
    → Makes (signal_gates width (length enables)) (enables ++ all_nets values) old new z (λ v. number (map v z) ≡ presented unset (assigned v (map v enables) values))
plain_made n width unset enables last z values front old new same all split is made =
    subst (λ (l : List (List ℕ)). Makes (signal_gates width (length enables)) (enables ++ all_nets l) old new z (λ v. number (map v z) ≡ presented unset (assigned v (map v enables) l))) (sym split)
    (subst (λ k. Makes (signal_gates width (length enables)) (enables ++ all_nets (front ++ last ∷ [])) old new z (λ v. number (map v z) ≡ presented k (assigned v (map v enables) (front ++ last ∷ [])))) (sym is)
    (split_made n width enables last z front old new (ap (λ (l : List (List ℕ)). length l) (sym split) ∙ same) (subst (λ (l : List (List ℕ)). AreValues n width l) split all) made))
