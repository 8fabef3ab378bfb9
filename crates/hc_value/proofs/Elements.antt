-- The circuit of an element of an array: an enable for each element, and two gates for each bit of each element.
use Rattle.std.proofs.Common.{◌≡◌, ◌<◌, ◌≤◌, ℕ, zero, suc, ◌+◌, ◌*◌, List, [], ◌∷◌, ◌++◌, length, take, drop, map, get_or, replicate, Bool, true, false, not, ◌&&◌, if◌then◌else◌, refl, ap, sym, ◌∙◌, subst, arith, inl, inr, ◌⊎◌}
use Rattle.std.specs.Prelude.{All, ◌==◌, nat_lt}
use Rattle.std.specs.List.{range_with_len}
use Rattle.std.proofs.lemmas.Bool.{cases_lt, cases_eq, eq-eqb, ne_eqb, lt-ltb, le-ltb}
use Rattle.std.proofs.lemmas.Nat.{mul-le, mul-add-lt, row_fits}
use Rattle.std.proofs.lemmas.List.{length-map, length-take-le, length-drop, length-replicate, get_or-map, get_or-take, get_or-drop, get_or-replicate, drop_all, take_all}
use Rattle.std.proofs.lemmas.List.Elements.{All-nil, All-append, All-take, All-drop, All-replicate}
use Rattle.std.proofs.lemmas.List.FromFn.{fill_by_all, get_or-map-range_with_len, length-map-range_with_len}
use Rattle.hc_num.specs.Compare.{truth}
use Rattle.hc_net.specs.Bits.{number}
use Rattle.hc_net.specs.Circuit.{Circuit, with_node}
use Rattle.hc_net.specs.Made.{Over, Makes}
use Rattle.hc_net.specs.MadeLemmas.{Makes-none, Makes-last, Makes-as, Makes-holds, Makes-gate, Over-self, Over-left}
use Rattle.hc_net.specs.declared.node.Node.TheVariants.{Gate}
use Rattle.hc_net.specs.declared.gate.GateKind.TheVariants as kind
use Rattle.hc_bits.specs.Held.{held}
use Rattle.hc_bits.proofs.EachBit.{bits_more}
use Rattle.hc_muldiv.proofs.Circuits.{Over-right, Makes-over}
use Rattle.hc_value.specs.Elements.{enabled, chosen, element_gates, fixed_nets}
use Rattle.hc_bits.specs.Elements.{element_nets}
use Rattle.hc_value.proofs.Held.{bit_is}
use Rattle.hc_value.proofs.Places.{same_bits, all_zeros}

-- ---- one bit of each element

-- the terms so far
pub record Terms (old new : Circuit) (enables nets : List ℕ) (w place i : ℕ) (terms : List ℕ) : Type 0 where
  pub width : length terms ≡ i
  pub made : Makes i (enables ++ nets) old new terms (λ v. map v terms ≡ map (λ j. enabled v enables nets w place j) (range_with_len 0 i))

pub enabled_none : (c : Circuit) (enables nets : List ℕ) (w place : ℕ) (terms : List ℕ) → terms ≡ [] → Terms c c enables nets w place 0 terms
enabled_none c enables nets w place terms is =
    subst (λ (l : List ℕ). Terms c c enables nets w place 0 l) (sym is)
    (record {
      width = refl;
      made = Makes-holds (Makes-none c (enables ++ nets) [] (All-nil (λ k. k < length c.nodes)) (All-nil (Over c.nodes (enables ++ nets)))) (omega arith) (λ v u. refl);
    })

-- bit `place` of element i is among the nets
pub enabled_index : (n w place i count : ℕ) → i < n → place < w → count ≡ n * w → i * w + place < count
enabled_index n w place i count within low is =
    let room : i * w + w ≤ n * w = row_fits i w n w within (omega arith) in
    omega arith

pub enabled_more : (old mid new : Circuit) (enables nets terms more : List ℕ) (w place i e net term : ℕ) → i < length enables → i * w + place < length nets
    → e ≡ get_or enables i 0 → net ≡ get_or nets (i * w + place) 0 → more ≡ terms ++ term ∷ []
    → Makes i (enables ++ nets) old mid terms (λ v. map v terms ≡ map (λ j. enabled v enables nets w place j) (range_with_len 0 i))
    → (term ≡ length mid.nodes) × (new ≡ with_node mid (Gate kind.And e net))
    → Makes (i + 1) (enables ++ nets) old new more (λ v. map v more ≡ map (λ j. enabled v enables nets w place j) (range_with_len 0 (i + 1)))
enabled_more old mid new enables nets terms more w place i e net term within inside is_e is_net pushed made added =
    let args = enables ++ nets in
    let P = Over mid.nodes args in
    let left : P e = subst P (sym is_e) (Over-left enables nets i 0 within) in
    let right : P net = subst P (sym is_net) (Over-right enables nets (i * w + place) 0 inside) in
    let one = Makes-gate args mid new kind.And e net term added.0 added.1 (left, right) in
    subst (λ (l : List ℕ). Makes (i + 1) args old new l (λ v. map v l ≡ map (λ j. enabled v enables nets w place j) (range_with_len 0 (i + 1)))) (sym pushed)
    (bits_more {n = 1} (λ v j. enabled v enables nets w place j) i (i + 1) made
    (Makes-holds one (omega arith) (λ v is. is ∙ ap (λ k. v k && v net) is_e ∙ ap (λ k. v (get_or enables i 0) && v k) is_net))
    (Over-self args) (omega arith))

-- ---- one bit of the element that is chosen

pub chosen_bit_made : (old mid new : Circuit) (enables nets terms some : List ℕ) (w place z : ℕ) → length terms ≡ length enables → length some ≡ 1 → z ≡ get_or some 0 0
    → Makes (length enables) (enables ++ nets) old mid terms (λ v. map v terms ≡ map (λ i. enabled v enables nets w place i) (range_with_len 0 (length enables)))
    → Makes (length terms) terms mid new some (λ v. (s : Bool) → held false v some ≡ truth (not ((held s v terms).bits == 0)))
    → Makes (2 * length enables) (enables ++ nets) old new (z ∷ []) (λ v. v z ≡ chosen v enables nets w place)
chosen_bit_made old mid new enables nets terms some w place z same one is a b =
    let both = Makes-last a b a.reach in
    Makes-as both (omega arith)
    (λ i d within. only (λ k. k < length new.nodes) i d within (rw is (both.there 0 0 (omega arith))))
    (λ i d within. only (Over new.nodes (enables ++ nets)) i d within (subst (Over new.nodes (enables ++ nets)) (sym is) (both.reach 0 0 (omega arith))))
    (λ v h. bit_is v some z (not (number (map v terms) == 0)) one is (h.1 false) ∙ ap (λ (l : List Bool). not (number l == 0)) h.0)
  where
    only : (P : ℕ → Type 0) (i d : ℕ) → i < 1 → P z → P (get_or (z ∷ []) i d)
    only P zero d within p = p
    only P (suc i) d within p = absurd (omega (arith, within))

-- ---- all its bits

-- all bits so far
pub record Bits (old new : Circuit) (enables nets : List ℕ) (w place : ℕ) (bits : List ℕ) : Type 0 where
  pub width : length bits ≡ place
  pub made : Makes (place * (2 * length enables)) (enables ++ nets) old new bits (λ v. map v bits ≡ map (λ j. chosen v enables nets w j) (range_with_len 0 place))

no_nets : (c : Circuit) (args : List ℕ) → Makes 0 args c c [] (λ v. Unit {0})
no_nets c args = Makes-none c args [] (All-nil (λ k. k < length c.nodes)) (All-nil (Over c.nodes args))

pub bits_start : (c : Circuit) (enables nets : List ℕ) (w : ℕ) (bits : List ℕ) → bits ≡ [] → Bits c c enables nets w 0 bits
bits_start c enables nets w bits is =
    subst (λ (l : List ℕ). Bits c c enables nets w 0 l) (sym is)
    (record { width = refl; made = Makes-holds (no_nets c (enables ++ nets)) (omega arith) (λ v u. refl) })

-- the gates so far and those of one bit more
pub bits_room : (place w n : ℕ) → place < w → place * n + n ≤ w * n
bits_room place w n within = row_fits place n w n within (omega arith)

pub bits_again : (old mid new : Circuit) (enables nets bits more : List ℕ) (w place bit : ℕ) → more ≡ bits ++ bit ∷ []
    → Makes (place * (2 * length enables)) (enables ++ nets) old mid bits (λ v. map v bits ≡ map (λ j. chosen v enables nets w j) (range_with_len 0 place))
    → Makes (2 * length enables) (enables ++ nets) mid new (bit ∷ []) (λ v. v bit ≡ chosen v enables nets w place)
    → Makes ((place + 1) * (2 * length enables)) (enables ++ nets) old new more (λ v. map v more ≡ map (λ j. chosen v enables nets w j) (range_with_len 0 (place + 1)))
bits_again old mid new enables nets bits more w place bit pushed made one =
    let args = enables ++ nets in
    let n = 2 * length enables in
    let e : (place + 1) * n ≡ place * n + n = again place n in
    subst (λ (l : List ℕ). Makes ((place + 1) * n) args old new l (λ v. map v l ≡ map (λ j. chosen v enables nets w j) (range_with_len 0 (place + 1)))) (sym pushed)
    (bits_more (λ v j. chosen v enables nets w j) place ((place + 1) * n) made one (Over-self args) (omega (arith, e)))
  where
    again : (p n : ℕ) → (p + 1) * n ≡ p * n + n
    again p n = grind arith

-- ---- which element it is

digit_zero : (b : Bool) → not ((if b then 1 else 0) + 2 * 0 == 0) ≡ b
digit_zero true = refl
digit_zero false = refl

none_set : (n : ℕ) → n ≡ 0 → (if false then 1 else 0) + 2 * n ≡ 0
none_set n is = omega arith

twice_zero : (n : ℕ) → not ((if false then 1 else 0) + 2 * n == 0) ≡ not (n == 0)
twice_zero zero = refl
twice_zero (suc n) = ap not (ne_eqb ((if false then 1 else 0) + 2 * suc n) 0 (λ h. absurd (omega (arith, h))) ∙ sym (ne_eqb (suc n) 0 (λ h. absurd (omega (arith, h)))))

-- of bits that are 0 but at one index, the number is 0 where that isn't among them, and else tells that bit
outside_none : (f : ℕ → Bool) (at start n : ℕ) → (at < start) ⊎ (start + n ≤ at) → number (map (λ i. (at == i) && f i) (range_with_len start n)) ≡ 0
outside_none f at start zero out = refl
outside_none f at start (suc n) out =
    let rest = outside_none f at (start + 1) n (further out) in
    ap (λ c. (if c && f start then 1 else 0) + 2 * number (map (λ i. (at == i) && f i) (range_with_len (start + 1) n))) (ne_eqb at start (λ same. apart out same)) ∙ none_set _ rest
  where
    further : (at < start) ⊎ (start + suc n ≤ at) → (at < start + 1) ⊎ (start + 1 + n ≤ at)
    further (inl low) = inl (omega arith)
    further (inr high) = inr (omega arith)

    apart : (at < start) ⊎ (start + suc n ≤ at) → at ≡ start → ⊥
    apart (inl low) same = absurd (omega (arith, low, same))
    apart (inr high) same = absurd (omega (arith, high, same))

inside_one : (f : ℕ → Bool) (at start n : ℕ) → start ≤ at → at < start + n → not (number (map (λ i. (at == i) && f i) (range_with_len start n)) == 0) ≡ f at
inside_one f at start zero low high = absurd (omega (arith, low, high))
inside_one f at start (suc n) low high = elim (cases_eq at start) [
  | inl same ↦
      let here : (at == start) ≡ true = eq-eqb at start same in
      let rest : number (map (λ i. (at == i) && f i) (range_with_len (start + 1) n)) ≡ 0 = outside_none f at (start + 1) n (inl (omega arith)) in
      ap (λ c. not ((if c && f start then 1 else 0) + 2 * number (map (λ i. (at == i) && f i) (range_with_len (start + 1) n)) == 0)) here
      ∙ ap (λ k. not ((if f start then 1 else 0) + 2 * k == 0)) rest ∙ digit_zero (f start) ∙ ap f (sym same)
  | inr other ↦
      let here : (at == start) ≡ false = ne_eqb at start other in
      let rest = inside_one f at (start + 1) n (further other) (omega arith) in
      ap (λ c. not ((if c && f start then 1 else 0) + 2 * number (map (λ i. (at == i) && f i) (range_with_len (start + 1) n)) == 0)) here
      ∙ twice_zero (number (map (λ i. (at == i) && f i) (range_with_len (start + 1) n))) ∙ rest
]
  where
    further : (at ≡ start → ⊥) → start + 1 ≤ at
    further other = elim (cases_lt start at) [ inl more ↦ omega arith | inr less ↦ absurd (other (omega arith)) ]

-- the enables of a decoder, in what is chosen
decoded : (v : ℕ → Bool) (enables nets : List ℕ) (w place at n : ℕ) → length enables ≡ n → map v enables ≡ map (λ i. at == i) (range_with_len 0 n)
    → chosen v enables nets w place ≡ not (number (map (λ i. (at == i) && v (get_or nets (i * w + place) 0)) (range_with_len 0 n)) == 0)
decoded v enables nets w place at n width is =
    let f = λ (i : ℕ). enabled v enables nets w place i in
    let g = λ (i : ℕ). (at == i) && v (get_or nets (i * w + place) 0) in
    let lists : map f (range_with_len 0 n) ≡ map g (range_with_len 0 n) =
    fill_by_all g (map f (range_with_len 0 n)) n false (length-map-range_with_len f 0 n) (λ k within.
    let bit : v (get_or enables k 0) ≡ (at == k) =
    sym (get_or-map v enables k 0 false (omega arith)) ∙ ap (λ (l : List Bool). get_or l k false) is ∙ get_or-map-range_with_len (λ i. at == i) 0 n k k false within (omega arith) in
    get_or-map-range_with_len f 0 n k k false within (omega arith) ∙ ap (λ c. c && v (get_or nets (k * w + place) 0)) bit) in
    ap (λ k. not (number (map f (range_with_len 0 k)) == 0)) width ∙ ap (λ (l : List Bool). not (number l == 0)) lists

-- an element outside has no nets
none_taken : (w : ℕ) (nets : List ℕ) → nets ≡ [] → take w nets ≡ []
none_taken w [] is = take_all w [] (omega arith)
none_taken w (x ∷ nets) is = absurd cc

element_outside : (w n : ℕ) (nets : List ℕ) (at : ℕ) → length nets ≡ n * w → n ≤ at → element_nets w nets at ≡ []
element_outside w n nets at count past = none_taken w (drop (at * w) nets) (drop_all (at * w) nets (omega (arith, mul-le n w at w past (omega arith))))

-- the bits that are chosen are those of the element at an index
chosen_number : (v : ℕ → Bool) (enables nets z : List ℕ) (w at n : ℕ) → length enables ≡ n → length nets ≡ n * w → map v enables ≡ map (λ i. at == i) (range_with_len 0 n)
    → map v z ≡ map (λ place. chosen v enables nets w place) (range_with_len 0 w) → number (map v z) ≡ number (map v (element_nets w nets at))
chosen_number v enables nets z w at n width count is bits = elim (cases_lt at n) [
  | inl within ↦
      let room : at * w + w ≤ n * w = row_fits at w n w within (omega arith) in
      let size : length (element_nets w nets at) ≡ w = length-take-le w (drop (at * w) nets) (omega (arith, length-drop (at * w) nets)) in
      let element : map v (element_nets w nets at) ≡ map (λ place. chosen v enables nets w place) (range_with_len 0 w) =
      fill_by_all (λ place. chosen v enables nets w place) (map v (element_nets w nets at)) w false (length-map (element_nets w nets at) v ∙ size) (λ k low.
      get_or-map v (element_nets w nets at) k 0 false (omega arith)
      ∙ ap v (get_or-take w (drop (at * w) nets) k 0 low ∙ get_or-drop (at * w) nets k 0)
      ∙ sym (decoded v enables nets w k at n width is ∙ inside_one (λ i. v (get_or nets (i * w + k) 0)) at 0 n (omega arith) (omega arith))) in
      ap number (bits ∙ sym element)
  | inr past ↦
      let gone = element_outside w n nets at count past in
      let clear : map (λ place. chosen v enables nets w place) (range_with_len 0 w) ≡ replicate w false =
      sym (fill_by_all (λ place. chosen v enables nets w place) (replicate w false) w false (length-replicate w false) (λ k low.
      get_or-replicate w k false false low
      ∙ sym (decoded v enables nets w k at n width is ∙ ap (λ m. not (m == 0)) (outside_none (λ i. v (get_or nets (i * w + k) 0)) at 0 n (inr (omega arith)))))) in
      ap number (bits ∙ clear) ∙ all_zeros w ∙ sym (ap (λ (l : List ℕ). number (map v l)) gone)
]

-- ---- the whole circuit

pub element_made : (old mid new : Circuit) (nets index enables z : List ℕ) (w n : ℕ) → length enables ≡ n → length nets ≡ n * w
    → Makes (n * length index + length index) index old mid enables (λ v. map v enables ≡ map (λ i. number (map v index) == i) (range_with_len 0 n))
    → Makes (w * (2 * length enables)) (enables ++ nets) mid new z (λ v. map v z ≡ map (λ place. chosen v enables nets w place) (range_with_len 0 w))
    → Makes (element_gates n w (length index)) (nets ++ index) old new z (λ v. number (map v z) ≡ number (map v (element_nets w nets (number (map v index)))))
element_made old mid new nets index enables z w n width count a b =
    let args = nets ++ index in
    let first = Makes-over a (Over-right nets index) in
    let P = Over mid.nodes args in
    let over : All P (enables ++ nets) = All-append P enables nets first.reach (Over-left nets index) in
    let gates : w * (2 * length enables) ≡ w * (2 * n) = ap (λ k. w * (2 * k)) width in
    Makes-holds (Makes-last first b over) (omega (arith, gates)) (λ v h. chosen_number v enables nets z w (number (map v index)) n width count h.0 h.1)

pub element_of : (old mid new : Circuit) (nets index enables found z : List ℕ) (w n : ℕ) → found ≡ enables → length enables ≡ n → length nets ≡ n * w
    → Makes (n * length index + length index) index old mid enables (λ v. map v enables ≡ map (λ i. number (map v index) == i) (range_with_len 0 n))
    → Makes (w * (2 * length found)) (found ++ nets) mid new z (λ v. map v z ≡ map (λ place. chosen v found nets w place) (range_with_len 0 w))
    → Makes (element_gates n w (length index)) (nets ++ index) old new z (λ v. number (map v z) ≡ number (map v (element_nets w nets (number (map v index)))))
element_of old mid new nets index enables found z w n is width count a b =
    element_made old mid new nets index enables z w n width count a
    (subst (λ (l : List ℕ). Makes (w * (2 * length l)) (l ++ nets) mid new z (λ v. map v z ≡ map (λ place. chosen v l nets w place) (range_with_len 0 w))) is b)

-- ---- an element by a constant index

pub fixed_width : (low n w : ℕ) (nets : List ℕ) (j : ℕ) → length nets ≡ n * w → length (fixed_nets low n w nets j) ≡ w
fixed_width low n w nets j count = elim (cases_lt j n) [
  | inl within ↦
      let room : j * w + w ≤ n * w = row_fits j w n w within (omega arith) in
      ap (λ c. length (if c then element_nets w nets j else replicate w low)) (lt-ltb j n within) ∙ length-take-le w (drop (j * w) nets) (omega (arith, length-drop (j * w) nets))
  | inr past ↦ ap (λ c. length (if c then element_nets w nets j else replicate w low)) (le-ltb j n past) ∙ length-replicate w low
]

pub fixed_all : (P : ℕ → Type 0) (low n w : ℕ) (nets : List ℕ) (j : ℕ) → P low → All P nets → All P (fixed_nets low n w nets j)
fixed_all P low n w nets j clear all = which (nat_lt j n)
  where
    which : (c : Bool) → All P (if c then element_nets w nets j else replicate w low)
    which true = All-take P w (drop (j * w) nets) (All-drop P (j * w) nets all)
    which false = All-replicate P w low clear

pub fixed_number : (v : ℕ → Bool) (low n w : ℕ) (nets : List ℕ) (j : ℕ) → length nets ≡ n * w → v low ≡ false → number (map v (fixed_nets low n w nets j)) ≡ number (map v (element_nets w nets j))
fixed_number v low n w nets j count clear = elim (cases_lt j n) [
  | inl within ↦ ap (λ c. number (map v (if c then element_nets w nets j else replicate w low))) (lt-ltb j n within)
  | inr past ↦
      let gone = element_outside w n nets j count past in
      ap (λ c. number (map v (if c then element_nets w nets j else replicate w low))) (le-ltb j n past)
      ∙ ap number (same_bits v low w) ∙ ap (λ c. number (replicate w c)) clear ∙ all_zeros w ∙ sym (ap (λ (l : List ℕ). number (map v l)) gone)
]
