-- The nets of which one is set, by the number of some bits: with one bit more at the low end there are twice as many.
use Rattle.std.proofs.Common.{◌≡◌, ◌<◌, ◌≤◌, ℕ, ◌+◌, ◌-◌, ◌*◌, ◌/◌, ◌%◌, ◌^◌, List, [], ◌∷◌, ◌++◌, length, map, get_or, drop, Bool, true, false, not, ◌&&◌, refl, ap, sym, ◌∙◌, subst, arith, inl, inr, ◌⊎◌}
use Rattle.std.specs.Prelude.{All, ◌==◌, if◌then◌else◌}
use Rattle.std.specs.List.{range_with_len}
use Rattle.std.proofs.lemmas.List.{get_or-map, length-map, drop_more, drop_all}
use Rattle.std.proofs.lemmas.List.FromFn.{fill_by_all, get_or-map-range_with_len, length-map-range_with_len}
use Rattle.std.proofs.lemmas.List.Elements.{All-cons, All-append}
use Rattle.std.proofs.lemmas.Bool.{eq-eqb, ne_eqb, cases_eq}
use Rattle.std.proofs.Math.Nat.{mul-le-mul_left, div-div-eq-div-mul, div-eq_of_lt, pow-le-pow_right}
use Rattle.std.proofs.lemmas.Nat.{pow-add, shr_le}
use Rattle.hc_net.specs.Bits.{number}
use Rattle.hc_net.specs.Circuit.{Circuit}
use Rattle.hc_net.specs.Made.{Over, argument, Adds, Makes}
use Rattle.hc_net.specs.MadeLemmas.{Over-self, Adds-longer, Adds-room, Makes-last, Makes-as, Makes-holds}
use Rattle.hc_bits.proofs.EachBit.{bits_more, map_same}
use Rattle.hc_bits.proofs.Parts.{Over-right, All-one, All-two, Makes-over}
use Rattle.hc_bits.proofs.Bitwise.{digit}

-- ---- one term more

pub term_more : (bit otherwise low count : ℕ) (terms ts longer more : List ℕ) (i term : ℕ) (old mid new : Circuit)
    → i < count → count ≤ 2 * length terms → ts ≡ terms → low ≡ (if i % 2 == 0 then otherwise else bit) → more ≡ longer ++ term ∷ []
    → Makes i (bit ∷ otherwise ∷ terms) old mid longer (λ v. map v longer ≡ map (λ k. v (get_or terms (k / 2) 0) && v (if k % 2 == 0 then otherwise else bit)) (range_with_len 0 i))
    → Makes 1 (get_or ts (i / 2) 0 ∷ low ∷ []) mid new (term ∷ []) (λ v. v term ≡ (v (get_or ts (i / 2) 0) && v low))
    → Makes (i + 1) (bit ∷ otherwise ∷ terms) old new more (λ v. map v more ≡ map (λ k. v (get_or terms (k / 2) 0) && v (if k % 2 == 0 then otherwise else bit)) (range_with_len 0 (i + 1)))
term_more bit otherwise low count terms ts longer more i term old mid new within most same chosen pushed made one =
    let args = bit ∷ otherwise ∷ terms in
    let choice = if i % 2 == 0 then otherwise else bit in
    let over_choice : Over mid.nodes args choice = over_if (i % 2 == 0) (argument otherwise 1 (omega arith) refl) (argument bit 0 (omega arith) refl) in
    let over_term : Over mid.nodes args (get_or terms (i / 2) 0) = Over-right (bit ∷ otherwise ∷ []) terms (i / 2) 0 (omega arith) in
    subst (λ (z : List ℕ). Makes (i + 1) (bit ∷ otherwise ∷ terms) old new z (λ v. map v z ≡ map (λ k. v (get_or terms (k / 2) 0) && v (if k % 2 == 0 then otherwise else bit)) (range_with_len 0 (i + 1)))) (sym pushed)
    (bits_more (λ v k. v (get_or terms (k / 2) 0) && v (if k % 2 == 0 then otherwise else bit)) i (i + 1) made
    (subst (λ (l : ℕ). Makes 1 (get_or terms (i / 2) 0 ∷ l ∷ []) mid new (term ∷ []) (λ v. v term ≡ (v (get_or terms (i / 2) 0) && v l))) chosen
    (subst (λ (l : List ℕ). Makes 1 (get_or l (i / 2) 0 ∷ low ∷ []) mid new (term ∷ []) (λ v. v term ≡ (v (get_or l (i / 2) 0) && v low))) same one))
    (All-two (Over mid.nodes args) (get_or terms (i / 2) 0) choice over_term over_choice)
    (omega arith))
  where
    over_if : (c : Bool) → Over mid.nodes (bit ∷ otherwise ∷ terms) otherwise → Over mid.nodes (bit ∷ otherwise ∷ terms) bit → Over mid.nodes (bit ∷ otherwise ∷ terms) (if c then otherwise else bit)
    over_if true first second = first
    over_if false first second = second

-- ---- the terms of one bit

pub doubled_made : (bit otherwise count : ℕ) (terms z : List ℕ) (old mid new : Circuit)
    → Makes 1 (bit ∷ []) old mid (otherwise ∷ []) (λ v. v otherwise ≡ not (v bit))
    → Makes count (bit ∷ otherwise ∷ terms) mid new z (λ v. map v z ≡ map (λ k. v (get_or terms (k / 2) 0) && v (if k % 2 == 0 then otherwise else bit)) (range_with_len 0 count))
    → Makes (count + 1) (bit ∷ terms) old new z (λ v. map v z ≡ map (λ k. v (get_or terms (k / 2) 0) && (if k % 2 == 0 then not (v bit) else v bit)) (range_with_len 0 count))
doubled_made bit otherwise count terms z old mid new turned each =
    let args = bit ∷ terms in
    let first = Makes-over turned (All-one (Over old.nodes args) bit (argument bit 0 (omega arith) refl)) in
    let over : All (Over mid.nodes args) (bit ∷ otherwise ∷ terms) =
    All-append (Over mid.nodes args) (bit ∷ otherwise ∷ []) terms
    (All-two (Over mid.nodes args) bit otherwise (argument bit 0 (omega arith) refl) (first.reach 0 0 (omega arith)))
    (Over-right (bit ∷ []) terms) in
    Makes-holds (Makes-last first each over) (omega arith)
    (λ v holds. holds.1 ∙ map_same _ _ (λ k. ap (λ c. v (get_or terms (k / 2) 0) && c) (low v (k % 2 == 0) (holds.0))) (range_with_len 0 count))
  where
    low : (v : ℕ → Bool) (c : Bool) → v otherwise ≡ not (v bit) → v (if c then otherwise else bit) ≡ (if c then not (v bit) else v bit)
    low v true is = is
    low v false is = refl

pub first_one : (bit otherwise count : ℕ) (z : List ℕ) (old new : Circuit) → count ≡ 1 → z ≡ otherwise ∷ []
    → Makes 1 (bit ∷ []) old new (otherwise ∷ []) (λ v. v otherwise ≡ not (v bit))
    → Makes 1 (bit ∷ []) old new z (λ v. map v z ≡ map (λ i. number (v bit ∷ []) == i) (range_with_len 0 count))
first_one bit otherwise count z old new one is made =
    subst (λ (n : ℕ). Makes 1 (bit ∷ []) old new z (λ v. map v z ≡ map (λ i. number (v bit ∷ []) == i) (range_with_len 0 n))) (sym one)
    (subst (λ (l : List ℕ). Makes 1 (bit ∷ []) old new l (λ v. map v l ≡ map (λ i. number (v bit ∷ []) == i) (range_with_len 0 1))) (sym is)
    (Makes-holds made (omega arith) (λ v turned. ap (λ c. c ∷ []) turned ∙ same (v bit))))
  where
    same : (c : Bool) → not c ∷ [] ≡ map (λ i. number (c ∷ []) == i) (range_with_len 0 1)
    same true = refl
    same false = refl

pub first_two : (bit otherwise count : ℕ) (z : List ℕ) (old new : Circuit) → bit < length old.nodes → count ≡ 2 → z ≡ otherwise ∷ bit ∷ []
    → Makes 1 (bit ∷ []) old new (otherwise ∷ []) (λ v. v otherwise ≡ not (v bit))
    → Makes 1 (bit ∷ []) old new z (λ v. map v z ≡ map (λ i. number (v bit ∷ []) == i) (range_with_len 0 count))
first_two bit otherwise count z old new there two is made =
    subst (λ (n : ℕ). Makes 1 (bit ∷ []) old new z (λ v. map v z ≡ map (λ i. number (v bit ∷ []) == i) (range_with_len 0 n))) (sym two)
    (subst (λ (l : List ℕ). Makes 1 (bit ∷ []) old new l (λ v. map v l ≡ map (λ i. number (v bit ∷ []) == i) (range_with_len 0 2))) (sym is)
    (Makes-as made (omega arith)
    (All-two (λ k. k < length new.nodes) otherwise bit (made.there 0 0 (omega arith)) (let more = Adds-longer made.adds in omega arith))
    (All-two (Over new.nodes (bit ∷ [])) otherwise bit (made.reach 0 0 (omega arith)) (argument bit 0 (omega arith) refl))
    (λ v turned. ap (λ c. c ∷ v bit ∷ []) turned ∙ same (v bit))))
  where
    same : (c : Bool) → not c ∷ c ∷ [] ≡ map (λ i. number (c ∷ []) == i) (range_with_len 0 2)
    same true = refl
    same false = refl

-- ---- all bits, from the highest one down

-- one bit below a number
low_bit : (b : Bool) (high i : ℕ) → ((high == i / 2) && (if i % 2 == 0 then not b else b)) ≡ (digit b + 2 * high == i)
low_bit b high i = elim (cases_eq high (i / 2)) [
  | inr other ↦ ap (λ c. c && (if i % 2 == 0 then not b else b)) (ne_eqb high (i / 2) other) ∙ sym (ne_eqb (digit b + 2 * high) i (λ e. other (halved b e)))
  | inl same ↦ ap (λ c. c && (if i % 2 == 0 then not b else b)) (eq-eqb high (i / 2) same) ∙ lowest b (elim (cases_eq (i % 2) 0) [
    | inl even ↦ inl even
    | inr odd ↦ inr (omega arith)
  ]) same
]
  where
    halved : (b : Bool) → digit b + 2 * high ≡ i → high ≡ i / 2
    halved true e = omega arith
    halved false e = omega arith

    lowest : (b : Bool) → (i % 2 ≡ 0) ⊎ (i % 2 ≡ 1) → high ≡ i / 2 → (if i % 2 == 0 then not b else b) ≡ (digit b + 2 * high == i)
    lowest true (inl even) same = ap (λ c. if c then false else true) (eq-eqb (i % 2) 0 even) ∙ sym (ne_eqb (1 + 2 * high) i (λ e. omega arith))
    lowest true (inr odd) same = ap (λ c. if c then false else true) (ne_eqb (i % 2) 0 (λ e. omega arith)) ∙ sym (eq-eqb (1 + 2 * high) i (omega arith))
    lowest false (inl even) same = ap (λ c. if c then true else false) (eq-eqb (i % 2) 0 even) ∙ sym (eq-eqb (0 + 2 * high) i (omega arith))
    lowest false (inr odd) same = ap (λ c. if c then true else false) (ne_eqb (i % 2) 0 (λ e. omega arith)) ∙ sym (ne_eqb (0 + 2 * high) i (λ e. omega arith))

-- the terms of a number, from those of its high part
terms_doubled : (v : ℕ → Bool) (terms xs : List ℕ) (bit place high count : ℕ) (z : List ℕ)
    → place < length xs → bit ≡ get_or xs place 0 → high ≡ place + 1 → count ≤ 2 * length terms
    → map v terms ≡ map (λ i. number (drop high (map v xs)) == i) (range_with_len 0 (length terms))
    → map v z ≡ map (λ k. v (get_or terms (k / 2) 0) && (if k % 2 == 0 then not (v bit) else v bit)) (range_with_len 0 count)
    → map v z ≡ map (λ i. number (drop place (map v xs)) == i) (range_with_len 0 count)
terms_doubled v terms xs bit place high count z within is above most before each =
    each ∙ sym (fill_by_all (λ k. v (get_or terms (k / 2) 0) && (if k % 2 == 0 then not (v bit) else v bit)) (map (λ i. number (drop place (map v xs)) == i) (range_with_len 0 count)) count false (length-map-range_with_len (λ i. number (drop place (map v xs)) == i) 0 count)
    (λ k low. get_or-map-range_with_len (λ i. number (drop place (map v xs)) == i) 0 count k k false low (omega arith) ∙ sym (one k low)))
  where
    split : drop place (map v xs) ≡ v bit ∷ drop high (map v xs)
    split =
        drop_more (map v xs) place (v 0) (omega (arith, within, length-map xs v))
        ∙ ap (λ c. c ∷ drop (place + 1) (map v xs)) (get_or-map v xs place 0 (v 0) within ∙ ap v (sym is))
        ∙ ap (λ n. v bit ∷ drop n (map v xs)) (sym above)

    term : (k : ℕ) → k < length terms → v (get_or terms k 0) ≡ (number (drop high (map v xs)) == k)
    term k low =
        sym (get_or-map v terms k 0 false low) ∙ ap (λ l. get_or l k false) before
        ∙ get_or-map-range_with_len (λ i. number (drop high (map v xs)) == i) 0 (length terms) k k false low (omega arith)

    one : (k : ℕ) → k < count → (v (get_or terms (k / 2) 0) && (if k % 2 == 0 then not (v bit) else v bit)) ≡ (number (drop place (map v xs)) == k)
    one k low =
        ap (λ c. c && (if k % 2 == 0 then not (v bit) else v bit)) (term (k / 2) (omega arith))
        ∙ low_bit (v bit) (number (drop high (map v xs))) k
        ∙ ap (λ l. number l == k) (sym split)

-- ---- how many terms there are

above : (n place : ℕ) → n / 2 ^ place + 1 ≤ 2 * (n / 2 ^ (place + 1) + 1)
above n place =
    let twice : 2 ^ (place + 1) ≡ 2 ^ place * 2 = pow-add 2 place 1 in
    let e : n / 2 ^ (place + 1) ≡ n / 2 ^ place / 2 = ap (λ m. n / m) twice ∙ sym (div-div-eq-div-mul n (2 ^ place) 2) in
    omega arith

pub terms_few : (n place : ℕ) → n < 2 ^ 32 → 32 ≤ place → 1 ≡ (n - 1) / 2 ^ place + 1
terms_few n place low high =
    let p : 2 ^ 32 ≤ 2 ^ place = pow-le-pow_right {n = 2} (omega arith) high in
    let none : (n - 1) / 2 ^ place ≡ 0 = div-eq_of_lt (omega arith) in
    omega arith

pub decode_net : {m : ℕ} (xs bits : List ℕ) (place : ℕ) (old mid : Circuit) → bits ≡ xs → place < length xs → All (λ k. k < length old.nodes) xs → Adds m old mid
    → get_or bits place 0 < length mid.nodes
decode_net xs bits place old mid same within there adds =
    let more = Adds-longer adds in
    let one = there place 0 within in
    subst (λ (l : List ℕ). get_or l place 0 < length mid.nodes) (sym same) (omega arith)

pub decode_most : (n top i place count : ℕ) (terms : List ℕ) → place + (i + 1) ≡ top → count ≡ (n - 1) / 2 ^ place + 1 → length terms ≡ (n - 1) / 2 ^ (top - i) + 1
    → count ≤ 2 * length terms
decode_most n top i place count terms at is width =
    let up : place + 1 ≡ top - i = omega arith in
    let more = subst (λ (k : ℕ). (n - 1) / 2 ^ place + 1 ≤ 2 * ((n - 1) / 2 ^ k + 1)) up (above (n - 1) place) in
    omega arith

decode_gates : (n w i : ℕ) → i + 2 ≤ w → (i + 1) * (n + 1) + (n + 1) ≤ n * w + w
decode_gates n w i low = let h = mul-le-mul_left (n + 1) low in omega (arith, h)

decode_count : (n place count : ℕ) → 1 ≤ n → count ≡ (n - 1) / 2 ^ place + 1 → count ≤ n
decode_count n place count some is = let h = shr_le (n - 1) place in omega (arith, h)

pub decode_room : (n w i place count : ℕ) (old mid : Circuit) → 1 ≤ n → count ≡ (n - 1) / 2 ^ place + 1 → i + 2 ≤ w
    → length old.nodes + (n * w + w) < 2 ^ 32 → Adds ((i + 1) * (n + 1)) old mid → length mid.nodes + (count + 1) < 2 ^ 32
decode_room n w i place count old mid some is low room adds =
    let h = decode_gates n w i low in
    let g = Adds-room adds in
    let f = decode_count n place count some is in
    omega (arith, h, g, f)

pub terms_same : (n j k : ℕ) → j ≡ k → (n - 1) / 2 ^ j + 1 ≡ (n - 1) / 2 ^ k + 1
terms_same n j k same = ap (λ i. (n - 1) / 2 ^ i + 1) same

pub terms_all : (n k count : ℕ) → 1 ≤ n → k ≡ 0 → count ≡ (n - 1) / 2 ^ k + 1 → count ≡ n
terms_all n k count some none is = let e : count ≡ (n - 1) / 2 ^ 0 + 1 = is ∙ terms_same n k 0 none in omega (arith, e)

-- ---- the loop

pub decoded_none : (xs bits terms : List ℕ) (n top count : ℕ) (old new : Circuit) → bits ≡ xs → top + 1 ≡ length xs → length terms ≡ count
    → Makes 1 (get_or bits top 0 ∷ []) old new terms (λ v. map v terms ≡ map (λ i. number (v (get_or bits top 0) ∷ []) == i) (range_with_len 0 count))
    → Makes ((0 + 1) * (n + 1)) xs old new terms (λ v. map v terms ≡ map (λ i. number (drop (top - 0) (map v xs)) == i) (range_with_len 0 (length terms)))
decoded_none xs bits terms n top count old new same at width made =
    let bit = get_or xs top 0 in
    let first = subst (λ (l : List ℕ). Makes 1 (get_or l top 0 ∷ []) old new terms (λ v. map v terms ≡ map (λ i. number (v (get_or l top 0) ∷ []) == i) (range_with_len 0 count))) same made in
    Makes-holds (Makes-over first (All-one (Over old.nodes xs) bit (Over-self xs top 0 (omega arith)))) (omega arith)
    (λ v is. is ∙ ap (λ l. map (λ i. number l == i) (range_with_len 0 count)) (sym (alone v)) ∙ ap (λ c. map (λ i. number (drop (top - 0) (map v xs)) == i) (range_with_len 0 c)) (sym width))
  where
    alone : (v : ℕ → Bool) → drop (top - 0) (map v xs) ≡ v (get_or xs top 0) ∷ []
    alone v =
        let size = length-map xs v in
        let e : top - 0 ≡ top = omega arith in
        ap (λ k. drop k (map v xs)) e ∙ drop_more (map v xs) top (v 0) (omega arith)
        ∙ ap (λ l. get_or (map v xs) top (v 0) ∷ l) (drop_all (top + 1) (map v xs) (omega arith))
        ∙ ap (λ c. c ∷ []) (get_or-map v xs top 0 (v 0) (omega arith))

pub decoded_more : (xs bits terms longer : List ℕ) (n top i place count : ℕ) (old mid new : Circuit)
    → bits ≡ xs → top + 1 ≡ length xs → place + (i + 1) ≡ top → 1 ≤ n → count ≡ (n - 1) / 2 ^ place + 1 → length longer ≡ count
    → length terms ≡ (n - 1) / 2 ^ (top - i) + 1
    → Makes ((i + 1) * (n + 1)) xs old mid terms (λ v. map v terms ≡ map (λ j. number (drop (top - i) (map v xs)) == j) (range_with_len 0 (length terms)))
    → Makes (count + 1) (get_or bits place 0 ∷ terms) mid new longer (λ v. map v longer ≡ map (λ k. v (get_or terms (k / 2) 0) && (if k % 2 == 0 then not (v (get_or bits place 0)) else v (get_or bits place 0))) (range_with_len 0 count))
    → Makes ((i + 1 + 1) * (n + 1)) xs old new longer (λ v. map v longer ≡ map (λ j. number (drop (top - (i + 1)) (map v xs)) == j) (range_with_len 0 (length longer)))
decoded_more xs bits terms longer n top i place count old mid new same size at some is width before made one =
    let bit = get_or xs place 0 in
    let next = subst (λ (l : List ℕ). Makes (count + 1) (get_or l place 0 ∷ terms) mid new longer (λ v. map v longer ≡ map (λ k. v (get_or terms (k / 2) 0) && (if k % 2 == 0 then not (v (get_or l place 0)) else v (get_or l place 0))) (range_with_len 0 count))) same one in
    let over : All (Over mid.nodes xs) (bit ∷ terms) = All-cons (Over mid.nodes xs) bit terms (Over-self xs place 0 (omega arith)) made.reach in
    let few = decode_count n place count some is in
    let most = decode_most n top i place count terms at is before in
    let here : top - (i + 1) ≡ place = omega arith in
    Makes-holds (Makes-last made next over) (omega arith)
    (λ v holds. terms_doubled v terms xs bit place (top - i) count longer (omega arith) refl (omega arith) most (holds.0) (holds.1)
    ∙ ap (λ k. map (λ j. number (drop k (map v xs)) == j) (range_with_len 0 count)) (sym here)
    ∙ ap (λ c. map (λ j. number (drop (top - (i + 1)) (map v xs)) == j) (range_with_len 0 c)) (sym width))

pub decoded_all : (xs terms : List ℕ) (n top i : ℕ) (old new : Circuit) → top + 1 ≡ length xs → i ≡ top → length terms ≡ n
    → Makes ((i + 1) * (n + 1)) xs old new terms (λ v. map v terms ≡ map (λ j. number (drop (top - i) (map v xs)) == j) (range_with_len 0 (length terms)))
    → Makes (n * length xs + length xs) xs old new terms (λ v. map v terms ≡ map (λ j. number (map v xs) == j) (range_with_len 0 n))
decoded_all xs terms n top i old new size at width made =
    let none : top - i ≡ 0 = omega arith in
    let all : i + 1 ≡ length xs = omega arith in
    Makes-holds made (subst (λ (w : ℕ). (i + 1) * (n + 1) ≤ n * w + w) all (omega arith))
    (λ v is. is ∙ ap (λ k. map (λ j. number (drop k (map v xs)) == j) (range_with_len 0 (length terms))) none
    ∙ ap (λ c. map (λ j. number (map v xs) == j) (range_with_len 0 c)) width)
