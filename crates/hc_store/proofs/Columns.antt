-- The next bits of a register, from those of its values.
use Rattle.std.proofs.Common.{◌≡◌, ◌<◌, ◌≤◌, ℕ, suc, ◌+◌, ◌-◌, ◌*◌, ◌^◌, List, [], ◌∷◌, ◌++◌, length, map, get_or, Bool, true, false, not, refl, ap, sym, ◌∙◌, subst, arith, length-append}
use Rattle.std.specs.Prelude.{All, ◌==◌, if◌then◌else◌}
use Rattle.std.specs.List.{range_with_len}
use Rattle.std.proofs.lemmas.List.{length-map, map-append, get_or-map}
use Rattle.std.proofs.lemmas.Simd.{map-map}
use Rattle.std.proofs.lemmas.List.Elements.{All-append, All-nil, All-cons}
use Rattle.hc_num.specs.Number.{Number}
use Rattle.hc_num.specs.Compare.{truth as one_bit}
use Rattle.hc_num.specs.Bits.{conjunction, complement}
use Rattle.hc_net.specs.Bits.{number}
use Rattle.hc_net.specs.Circuit.{Circuit}
use Rattle.hc_net.specs.Made.{Over, Makes}
use Rattle.hc_net.specs.MadeLemmas.{Over-left, Over-over, Makes-then, Makes-last, Makes-holds, Makes-none}
use Rattle.hc_net.specs.declared.node.Node.{Node}
use Rattle.hc_bits.specs.Held.{held}
use Rattle.hc_bits.proofs.EachBit.{bits_more, bits_of, map_same}
use Rattle.hc_bits.proofs.Joined.{any, any_number}
use Rattle.hc_bits.proofs.Parts.{Over-right, Over-at, All-one, All-right, Makes-over}
use Rattle.hc_store.specs.Takes.{Takes, AreValues, all_nets, column_nets, joined_bit, none_of, some_both}
use Rattle.hc_store.proofs.Choices.{some_both-number, one_bit_list, AllOff, any_off, any_on, OneOn, last_through, one_through}

-- ---- one bit

single : (l : List ℕ) → length l ≡ 1 → l ≡ get_or l 0 0 ∷ []
single [] size = absurd (omega (arith, size))
single (x ∷ []) size = refl
single (x ∷ y ∷ l) size = absurd (omega (arith, size))

digit_of : (b t : Bool) → (if b then 1 else 0) + 2 * 0 ≡ (if t then 1 else 0) → b ≡ t
digit_of true true is = refl
digit_of true false is = absurd (omega (arith, is))
digit_of false true is = absurd (omega (arith, is))
digit_of false false is = refl

bit_held : (v : ℕ → Bool) (k : ℕ) (t : Bool) → held false v (k ∷ []) ≡ one_bit t → v k ≡ t
bit_held v k t is = digit_of (v k) t (ap (λ (n : Number). n.bits) is)

pub any_both_made : (xs ys both some : List ℕ) (old mid new : Circuit) → length ys ≡ length xs → length both ≡ length xs → length some ≡ 1
    → Makes (length xs) (xs ++ ys) old mid both (λ v. (s : Bool) → held s v both ≡ conjunction (held s v xs) (held s v ys))
    → Makes (length both) both mid new some (λ v. (s : Bool) → held false v some ≡ one_bit (not ((held s v both).bits == 0)))
    → Makes (2 * length xs) (xs ++ ys) old new (get_or some 0 0 ∷ []) (λ v. v (get_or some 0 0) ≡ some_both (map v xs) (map v ys))
any_both_made xs ys both some old mid new same width one a b =
    let k = get_or some 0 0 in
    let alone : some ≡ k ∷ [] = single some one in
    subst (λ (l : List ℕ). Makes (2 * length xs) (xs ++ ys) old new l (λ v. v k ≡ some_both (map v xs) (map v ys))) alone
    (Makes-holds (Makes-last a b a.reach) (omega arith)
    (λ v holds.
    let is : held false v (k ∷ []) ≡ one_bit (not (number (map v both) == 0)) = ap (λ l. held false v l) (sym alone) ∙ holds.1 false in
    let bits : number (map v both) ≡ _ = ap (λ (n : Number). n.bits) (holds.0 false) in
    bit_held v k (not (number (map v both) == 0)) is ∙ ap (λ n. not (n == 0)) bits
    ∙ some_both-number (map v xs) (map v ys) (length-map ys v ∙ same ∙ sym (length-map xs v))))

-- ---- a column

-- bit i of each value is one of the values' nets
values_over : {nodes : List Node} (i : ℕ) (values : List (List ℕ)) → All (λ value. i < length value) values
    → All (Over nodes (all_nets values)) (map (λ value. get_or value i 0) values)
values_over {nodes} i [] all = All-nil (Over nodes [])
values_over {nodes} i (x ∷ rest) all =
    let wide = x ++ all_nets rest in
    All-cons (Over nodes wide) (get_or x i 0) (map (λ value. get_or value i 0) rest)
    (Over-over (Over-left x (all_nets rest)) (Over-at x i (all 0 [] (omega arith))))
    (λ j d within. Over-over (Over-right x (all_nets rest)) (values_over i rest (λ j d within. all (suc j) d (omega (arith, within))) j d within))

pub column_over : {nodes : List Node} (q : List ℕ) (values : List (List ℕ)) (i : ℕ) → i < length q → All (λ value. i < length value) values
    → All (Over nodes (q ++ all_nets values)) (column_nets q values i)
column_over {nodes} q values i within all =
    let args = q ++ all_nets values in
    All-append (Over nodes args) (map (λ value. get_or value i 0) values) (get_or q i 0 ∷ [])
    (λ j d at. Over-over (Over-right q (all_nets values)) (values_over i values all j d at))
    (All-one (Over nodes args) (get_or q i 0) (Over-over (Over-left q (all_nets values)) (Over-at q i within)))

pub column_more : (choices q column next more : List ℕ) (values : List (List ℕ)) (i bit : ℕ) (old mid new : Circuit)
    → i < length q → All (λ value. i < length value) values → column ≡ column_nets q values i → more ≡ next ++ bit ∷ []
    → Makes (i * (2 * length choices)) (choices ++ (q ++ all_nets values)) old mid next (λ v. map v next ≡ map (λ k. some_both (map v choices) (map v (column_nets q values k))) (range_with_len 0 i))
    → Makes (2 * length choices) (choices ++ column) mid new (bit ∷ []) (λ v. v bit ≡ some_both (map v choices) (map v column))
    → Makes ((i + 1) * (2 * length choices)) (choices ++ (q ++ all_nets values)) old new more (λ v. map v more ≡ map (λ k. some_both (map v choices) (map v (column_nets q values k))) (range_with_len 0 (i + 1)))
column_more choices q column next more values i bit old mid new within all is pushed made one =
    let args = choices ++ (q ++ all_nets values) in
    let this = column_nets q values i in
    let gate = subst (λ (l : List ℕ). Makes (2 * length choices) (choices ++ l) mid new (bit ∷ []) (λ v. v bit ≡ some_both (map v choices) (map v l))) is one in
    let over : All (Over mid.nodes args) (choices ++ this) =
    All-append (Over mid.nodes args) choices this (Over-left choices (q ++ all_nets values))
    (λ j d at. Over-over (Over-right choices (q ++ all_nets values)) (column_over q values i within all j d at)) in
    subst (λ (z : List ℕ). Makes ((i + 1) * (2 * length choices)) args old new z (λ v. map v z ≡ map (λ k. some_both (map v choices) (map v (column_nets q values k))) (range_with_len 0 (i + 1)))) (sym pushed)
    (bits_more (λ v k. some_both (map v choices) (map v (column_nets q values k))) i ((i + 1) * (2 * length choices)) made gate over (omega arith))

-- the nets of a column are there where those of the register and of the values are
value_bits_there : (n size i : ℕ) (values : List (List ℕ)) → i < size → AreValues n size values → All (λ k. k < n) (map (λ value. get_or value i 0) values)
value_bits_there n size i [] within all = All-nil (λ k. k < n)
value_bits_there n size i (x ∷ rest) within all =
    let first = all 0 [] (omega arith) in
    let width = first.width in
    All-cons (λ k. k < n) (get_or x i 0) (map (λ value. get_or value i 0) rest) (first.there i 0 (omega arith))
    (value_bits_there n size i rest within (λ j d at. all (suc j) d (omega (arith, at))))

pub column_there : (n i : ℕ) (q column : List ℕ) (values : List (List ℕ)) → i < length q → All (λ k. k < n) q → AreValues n (length q) values → column ≡ column_nets q values i
    → All (λ k. k < n) column
column_there n i q column values within there all is =
    subst (λ (l : List ℕ). All (λ k. k < n) l) (sym is)
    (All-append (λ k. k < n) (map (λ value. get_or value i 0) values) (get_or q i 0 ∷ []) (value_bits_there n (length q) i values within all)
    (All-one (λ k. k < n) (get_or q i 0) (there i 0 within)))

-- each value has a bit i where the register has one
pub have_bit : (n i : ℕ) (q : List ℕ) (values : List (List ℕ)) → i < length q → AreValues n (length q) values → All (λ value. i < length value) values
have_bit n i q values within all j d at = let width = (all j d at).width in omega arith

-- values that are there stay there
pub values_stay : (m n size : ℕ) (values : List (List ℕ)) → m ≤ n → AreValues m size values → AreValues n size values
values_stay m n size values le all j d at = record {
  width = (all j d at).width;
  there = λ k e within. let below = (all j d at).there k e within in omega arith;
}

-- ---- what the next bits are

column_bits : (v : ℕ → Bool) (q : List ℕ) (values : List (List ℕ)) (i : ℕ)
    → map v (column_nets q values i) ≡ map (λ value. v (get_or value i 0)) values ++ v (get_or q i 0) ∷ []
column_bits v q values i =
    map-append v (map (λ value. get_or value i 0) values) (get_or q i 0 ∷ []) ∙ ap (λ l. l ++ v (get_or q i 0) ∷ []) (map-map v (λ value. get_or value i 0) values)

none_any : (bits : List Bool) → none_of bits ≡ not (any bits)
none_any [] = refl
none_any (true ∷ bits) = refl
none_any (false ∷ bits) = none_any bits

-- none is on
next_kept : (v : ℕ → Bool) (q enables next : List ℕ) (values : List (List ℕ)) → length values ≡ length enables → AllOff (map v enables)
    → map v next ≡ map (joined_bit v q enables values) (range_with_len 0 (length q)) → map v next ≡ map v q
next_kept v q enables next values same off is =
    is ∙ map_same (joined_bit v q enables values) (λ k. v (get_or q k 0)) bit (range_with_len 0 (length q)) ∙ sym (bits_of v q)
  where
    none : none_of (map v enables) ≡ true
    none = none_any (map v enables) ∙ ap not (any_off (map v enables) off)

    bit : (k : ℕ) → joined_bit v q enables values k ≡ v (get_or q k 0)
    bit k =
        ap (λ b. some_both (map v enables ++ b ∷ []) (map v (column_nets q values k))) none ∙ ap (λ l. some_both (map v enables ++ true ∷ []) l) (column_bits v q values k)
        ∙ last_through true (map v enables) (map (λ value. v (get_or value k 0)) values) (v (get_or q k 0)) (length-map values (λ value. v (get_or value k 0)) ∙ same ∙ sym (length-map enables v)) off

-- one is on
next_taken : (v : ℕ → Bool) (q enables next : List ℕ) (values : List (List ℕ)) (i : ℕ) → length values ≡ length enables
    → length (get_or values i []) ≡ length q → OneOn (map v enables) i
    → map v next ≡ map (joined_bit v q enables values) (range_with_len 0 (length q)) → map v next ≡ map v (get_or values i [])
next_taken v q enables next values i same width one is =
    is ∙ map_same (joined_bit v q enables values) (λ k. v (get_or (get_or values i []) k 0)) bit (range_with_len 0 (length q))
    ∙ ap (λ n. map (λ k. v (get_or (get_or values i []) k 0)) (range_with_len 0 n)) (sym width) ∙ sym (bits_of v (get_or values i []))
  where
    size : length values ≡ length (map v enables)
    size = same ∙ sym (length-map enables v)

    none : none_of (map v enables) ≡ false
    none = none_any (map v enables) ∙ ap not (any_on (map v enables) i one)

    bit : (k : ℕ) → joined_bit v q enables values k ≡ v (get_or (get_or values i []) k 0)
    bit k =
        ap (λ b. some_both (map v enables ++ b ∷ []) (map v (column_nets q values k))) none ∙ ap (λ l. some_both (map v enables ++ false ∷ []) l) (column_bits v q values k)
        ∙ one_through (map v enables) (map (λ value. v (get_or value k 0)) values) (v (get_or q k 0)) i (length-map values (λ value. v (get_or value k 0)) ∙ size) one
        ∙ get_or-map (λ value. v (get_or value k 0)) values i [] false (let within = one.within in omega (arith, size))

-- ---- the register

-- the bit that tells that none is on
none_bit : (v : ℕ → Bool) (enables some none : List ℕ) → length some ≡ 1 → length none ≡ 1
    → held false v some ≡ one_bit (not (number (map v enables) == 0)) → held false v none ≡ complement (held false v some)
    → map v none ≡ not (any (map v enables)) ∷ []
none_bit v enables some none one also tells turns =
    let asked : Bool = any (map v enables) in
    let bits : number (map v none) ≡ 2 ^ length some - 1 - number (map v some) = ap (λ (n : Number). n.bits) turns in
    let is : number (map v some) ≡ (if asked then 1 else 0) = ap (λ (n : Number). n.bits) tells ∙ ap (λ b. if b then 1 else 0) (sym (any_number (map v enables))) in
    one_bit_list (map v none) (not asked) (length-map none v ∙ also) (holds asked (number (map v none)) (number (map v some)) (bits ∙ ap (λ n. 2 ^ n - 1 - number (map v some)) one) is)
  where
    holds : (b : Bool) (m n : ℕ) → m ≡ 2 ^ 1 - 1 - n → n ≡ (if b then 1 else 0) → not (m == 0) ≡ not b
    holds true m n a b = ap (λ k. not (k == 0)) (let zero : m ≡ 0 = omega (arith, a, b) in zero)
    holds false m n a b = ap (λ k. not (k == 0)) (let one : m ≡ 1 = omega (arith, a, b) in one)

map_bits : (v : ℕ → Bool) (enables : List ℕ) (i : ℕ) → i < length enables → get_or (map v enables) i false ≡ v (get_or enables i 0)
map_bits v enables i within = get_or-map v enables i 0 false within

pub joined_made : (q enables some none choices next : List ℕ) (values : List (List ℕ)) (n : ℕ) (old first second new : Circuit)
    → length values ≡ length enables → length some ≡ 1 → length none ≡ length some → AreValues n (length q) values
    → choices ≡ enables ++ none
    → Makes (length enables) enables old first some (λ v. (s : Bool) → held false v some ≡ one_bit (not ((held s v enables).bits == 0)))
    → Makes (length some) some first second none (λ v. (s : Bool) → held s v none ≡ complement (held s v some))
    → Makes (length q * (2 * length choices)) (choices ++ (q ++ all_nets values)) second new next
    (λ v. map v next ≡ map (λ i. some_both (map v choices) (map v (column_nets q values i))) (range_with_len 0 (length q)))
    → Makes (length q * (2 * (length enables + 1)) + (length enables + 1)) (q ++ (enables ++ all_nets values)) old new next
    (λ v. map v next ≡ map (joined_bit v q enables values) (range_with_len 0 (length q)))
joined_made q enables some none choices next values n old first second new same one also each is tells turns made =
    let args = q ++ (enables ++ all_nets values) in
    let of_enables : All (Over old.nodes args) enables = (λ i d at. Over-over (Over-right q (enables ++ all_nets values)) (Over-left enables (all_nets values) i d at)) in
    let asked = Makes-over tells of_enables in
    let gates = Makes-then asked turns asked.reach in
    let chosen = subst (λ (l : List ℕ). Makes (length q * (2 * length l)) (l ++ (q ++ all_nets values)) second new next
    (λ v. map v next ≡ map (λ i. some_both (map v l) (map v (column_nets q values i))) (range_with_len 0 (length q)))) is made in
    let width : length (enables ++ none) ≡ length enables + 1 = omega (arith, length-append enables none, one, also) in
    let over : All (Over second.nodes args) ((enables ++ none) ++ (q ++ all_nets values)) =
    All-append (Over second.nodes args) (enables ++ none) (q ++ all_nets values)
    (All-append (Over second.nodes args) enables none
    (λ i d at. Over-over (Over-right q (enables ++ all_nets values)) (Over-left enables (all_nets values) i d at))
    (All-right (Over second.nodes args) some none gates.reach))
    (All-append (Over second.nodes args) q (all_nets values) (Over-left q (enables ++ all_nets values))
    (λ i d at. Over-over (Over-right q (enables ++ all_nets values)) (Over-right enables (all_nets values) i d at))) in
    Makes-holds (Makes-last gates chosen over)
    (let w : length q * (2 * length (enables ++ none)) ≡ length q * (2 * (length enables + 1)) = ap (λ k. length q * (2 * k)) width in omega (arith, w, one))
    (λ v holds.
    let none_is = none_bit v enables some none one (also ∙ one) (holds.0.0 false) (holds.0.1 false) in
    let front : map v (enables ++ none) ≡ map v enables ++ none_of (map v enables) ∷ [] =
    map-append v enables none ∙ ap (λ l. map v enables ++ l) none_is ∙ ap (λ b. map v enables ++ b ∷ []) (sym (none_any (map v enables))) in
    holds.1 ∙ ap (λ (bits : List Bool). map (λ i. some_both bits (map v (column_nets q values i))) (range_with_len 0 (length q))) front)

-- nothing is written
none_joined : (v : ℕ → Bool) (q enables : List ℕ) (values : List (List ℕ)) → length enables ≡ 0 → length values ≡ length enables
    → map v q ≡ map (joined_bit v q enables values) (range_with_len 0 (length q))
none_joined v q [] [] none same = bits_of v q ∙ sym (map_same (joined_bit v q [] []) (λ k. v (get_or q k 0)) (λ k. or_nothing (v (get_or q k 0))) (range_with_len 0 (length q)))
  where
    or_nothing : (b : Bool) → some_both (true ∷ []) (b ∷ []) ≡ b
    or_nothing true = refl
    or_nothing false = refl
none_joined v q [] (x ∷ values) none same = absurd (omega (arith, same))
none_joined v q (e ∷ enables) values none same = absurd (omega (arith, none))

pub kept_made : (q enables z : List ℕ) (values : List (List ℕ)) (c : Circuit) → length enables ≡ 0 → length values ≡ length enables → z ≡ q → All (λ k. k < length c.nodes) q
    → Makes (length q * (2 * (length enables + 1)) + (length enables + 1)) (q ++ (enables ++ all_nets values)) c c z
    (λ v. map v z ≡ map (joined_bit v q enables values) (range_with_len 0 (length q)))
kept_made q enables z values c none same is there =
    subst (λ (l : List ℕ). Makes (length q * (2 * (length enables + 1)) + (length enables + 1)) (q ++ (enables ++ all_nets values)) c c l
    (λ v. map v l ≡ map (joined_bit v q enables values) (range_with_len 0 (length q)))) (sym is)
    (Makes-holds (Makes-none c (q ++ (enables ++ all_nets values)) q there (Over-left q (enables ++ all_nets values))) (omega arith)
    (λ v nothing. none_joined v q enables values none same))

-- what a register takes
pub takes_joined : (v : ℕ → Bool) (n : ℕ) (q enables next : List ℕ) (values : List (List ℕ)) → length values ≡ length enables → AreValues n (length q) values
    → map v next ≡ map (joined_bit v q enables values) (range_with_len 0 (length q)) → Takes v (length enables) (λ i. v (get_or enables i 0)) q values next
takes_joined v n q enables next values same each is = record {
  kept = λ off.
      let all_off : AllOff (map v enables) = (λ i within. map_bits v enables i (omega (arith, within, length-map enables v)) ∙ off i (omega (arith, within, length-map enables v))) in
      next_kept v q enables next values same all_off is;
  taken = λ i within is_on alone.
      let one_on : OneOn (map v enables) i = record {
        within = omega (arith, within, length-map enables v);
        is_on = map_bits v enables i within ∙ is_on;
        alone = λ j at on. alone j (omega (arith, at, length-map enables v)) (sym (map_bits v enables j (omega (arith, at, length-map enables v))) ∙ on);
      } in
      next_taken v q enables next values i same ((each i [] (omega (arith, within, same))).width) one_on is;
}
