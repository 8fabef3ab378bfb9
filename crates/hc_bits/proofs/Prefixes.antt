-- A parallel prefix of carries, by pairs of neighbours.
use Rattle.std.proofs.Common.{◌≡◌, ℕ, zero, suc, ◌+◌, ◌-◌, ◌*◌, ◌/◌, ◌%◌, ◌<◌, ◌≤◌, Bool, true, false, List, [], ◌∷◌, ◌++◌, length, map, take, get_or, refl, ap, sym, subst, ◌∙◌, arith}
use Rattle.std.specs.Prelude.{All, ◌&&◌, ◌||◌}
use Rattle.std.proofs.lemmas.List.{length-map, length_push, map_push, take_more, take_all, take-map, get_or-map, get_or_past}
use Rattle.std.proofs.lemmas.List.Elements.{All-nil, All-append, All-take}
use Rattle.hc_net.specs.Circuit.{Circuit}
use Rattle.hc_net.specs.Made.{Over, Makes}
use Rattle.hc_net.specs.MadeLemmas.{Makes-none, Makes-then, Makes-last, Makes-holds, Over-left, Over-self}
use Rattle.hc_bits.specs.Carry.{each, carry_out, carries, paired, both_pass, upper_pass}
use Rattle.hc_bits.proofs.Carries.{length-carries, length-each, lowest_passes}
use Rattle.hc_bits.proofs.Chains.{carry_none}
use Rattle.hc_bits.proofs.Groups.{carry_out-twice}
use Rattle.hc_bits.proofs.Parts.{All-left, All-right, All-one, All-two, All-three, Over-at, Over-right, Makes-wider}

-- ---- lists

after_two : (i : ℕ) → 2 * suc i ≡ suc (suc (2 * i))
after_two i = omega arith

after_three : (i : ℕ) → 2 * suc i + 1 ≡ suc (suc (2 * i + 1))
after_three i = omega arith

half_of : (n : ℕ) → suc (suc n) / 2 ≡ suc (n / 2)
half_of n = omega arith

pub length-paired : (gs ps : List Bool) → length (paired gs ps) ≡ length gs / 2
length-paired [] ps = refl
length-paired (g ∷ []) ps = refl
length-paired (g ∷ h ∷ gs) [] = ap suc (length-paired gs []) ∙ sym (half_of (length gs))
length-paired (g ∷ h ∷ gs) (p ∷ []) = ap suc (length-paired gs []) ∙ sym (half_of (length gs))
length-paired (g ∷ h ∷ gs) (p ∷ q ∷ ps) = ap suc (length-paired gs ps) ∙ sym (half_of (length gs))

pub length-both_pass : (ps : List Bool) → length (both_pass ps) ≡ length ps / 2
length-both_pass [] = refl
length-both_pass (p ∷ []) = refl
length-both_pass (p ∷ q ∷ ps) = ap suc (length-both_pass ps) ∙ sym (half_of (length ps))

-- the next pair of places
next_pair : (i : ℕ) (g h : Bool) (gs ps rest : List Bool) (d : Bool) → get_or ps (suc (suc (2 * i + 1))) true ≡ get_or rest (2 * i + 1) true
    → carry_out (get_or (g ∷ h ∷ gs) (2 * suc i + 1) d) (get_or ps (2 * suc i + 1) true) (get_or (g ∷ h ∷ gs) (2 * suc i) d) ≡ carry_out (get_or gs (2 * i + 1) d) (get_or rest (2 * i + 1) true) (get_or gs (2 * i) d)
next_pair i g h gs ps rest d same =
    ap (λ k. carry_out (get_or (g ∷ h ∷ gs) k d) (get_or ps k true) (get_or (g ∷ h ∷ gs) (2 * suc i) d)) (after_three i)
    ∙ ap (λ k. carry_out (get_or gs (2 * i + 1) d) (get_or ps (suc (suc (2 * i + 1))) true) (get_or (g ∷ h ∷ gs) k d)) (after_two i)
    ∙ ap (λ t. carry_out (get_or gs (2 * i + 1) d) t (get_or gs (2 * i) d)) same

paired-at : (i : ℕ) (gs ps : List Bool) (d : Bool) → 2 * i + 1 < length gs
    → get_or (paired gs ps) i d ≡ carry_out (get_or gs (2 * i + 1) d) (get_or ps (2 * i + 1) true) (get_or gs (2 * i) d)
paired-at i [] ps d l = absurd (omega (arith, l))
paired-at i (g ∷ []) ps d l = absurd (omega (arith, l))
paired-at zero (g ∷ h ∷ gs) [] d l = refl
paired-at zero (g ∷ h ∷ gs) (p ∷ []) d l = refl
paired-at zero (g ∷ h ∷ gs) (p ∷ q ∷ ps) d l = refl
paired-at (suc i) (g ∷ h ∷ gs) [] d l = paired-at i gs [] d (omega (arith, l)) ∙ sym (next_pair i g h gs [] [] d refl)
paired-at (suc i) (g ∷ h ∷ gs) (p ∷ []) d l = paired-at i gs [] d (omega (arith, l)) ∙ sym (next_pair i g h gs (p ∷ []) [] d refl)
paired-at (suc i) (g ∷ h ∷ gs) (p ∷ q ∷ ps) d l = paired-at i gs ps d (omega (arith, l)) ∙ sym (next_pair i g h gs (p ∷ q ∷ ps) ps d refl)

both_pass-at : (i : ℕ) (ps : List Bool) (d : Bool) → 2 * i + 1 < length ps → get_or (both_pass ps) i d ≡ (get_or ps (2 * i + 1) d && get_or ps (2 * i) d)
both_pass-at i [] d l = absurd (omega (arith, l))
both_pass-at i (p ∷ []) d l = absurd (omega (arith, l))
both_pass-at zero (p ∷ q ∷ ps) d l = refl
both_pass-at (suc i) (p ∷ q ∷ ps) d l =
    both_pass-at i ps d (omega (arith, l))
    ∙ sym (ap (λ k. get_or (p ∷ q ∷ ps) k d && get_or (p ∷ q ∷ ps) (2 * suc i) d) (after_three i) ∙ ap (λ k. get_or ps (2 * i + 1) d && get_or (p ∷ q ∷ ps) k d) (after_two i))

pub length-upper_pass : (ps : List Bool) → length (upper_pass ps) ≡ length ps / 2
length-upper_pass [] = refl
length-upper_pass (p ∷ []) = refl
length-upper_pass (p ∷ q ∷ ps) = ap suc (length-both_pass ps) ∙ sym (half_of (length ps))

upper_pass-at : (i : ℕ) (ps : List Bool) (d : Bool) → 1 ≤ i → get_or (upper_pass ps) i d ≡ get_or (both_pass ps) i d
upper_pass-at i [] d some = refl
upper_pass-at i (p ∷ []) d some = refl
upper_pass-at zero (p ∷ q ∷ ps) d some = absurd (omega (arith, some))
upper_pass-at (suc i) (p ∷ q ∷ ps) d some = refl

upper_pass-same : (gs ps : List Bool) → carries false gs (upper_pass ps) ≡ carries false gs (both_pass ps)
upper_pass-same gs [] = refl
upper_pass-same gs (p ∷ []) = refl
upper_pass-same gs (p ∷ q ∷ ps) = lowest_passes gs (both_pass ps) q (q && p)

-- the carries of the pairs are every second carry
carries-paired : (c : Bool) (i : ℕ) (gs ps : List Bool) (d : Bool) → 2 * i + 1 < length gs → (1 ≤ length ps → length ps ≡ length gs)
    → get_or (carries c (paired gs ps) (both_pass ps)) i d ≡ get_or (carries c gs ps) (2 * i + 1) d
carries-paired c i [] ps d l w = absurd (omega (arith, l))
carries-paired c i (g ∷ []) ps d l w = absurd (omega (arith, l))
carries-paired c i (g ∷ h ∷ gs) (p ∷ []) d l w = absurd (omega (arith, w (omega arith)))
carries-paired c zero (g ∷ h ∷ gs) [] d l w = sym (carry_out-twice g true h true c)
carries-paired c zero (g ∷ h ∷ gs) (p ∷ q ∷ ps) d l w = sym (carry_out-twice g p h q c)
carries-paired c (suc i) (g ∷ h ∷ gs) [] d l w =
    ap (λ k. get_or (carries k (paired gs []) []) i d) (sym (carry_out-twice g true h true c))
    ∙ carries-paired (h || (g || c)) i gs [] d (omega (arith, l)) (λ some. absurd (omega (arith, some)))
    ∙ sym (ap (λ k. get_or (carries c (g ∷ h ∷ gs) []) k d) (after_three i))
carries-paired c (suc i) (g ∷ h ∷ gs) (p ∷ q ∷ ps) d l w =
    ap (λ k. get_or (carries k (paired gs ps) (both_pass ps)) i d) (sym (carry_out-twice g p h q c))
    ∙ carries-paired (carry_out h q (carry_out g p c)) i gs ps d (omega (arith, l)) (λ some. omega (arith, w (omega arith)))
    ∙ sym (ap (λ k. get_or (carries c (g ∷ h ∷ gs) (p ∷ q ∷ ps)) k d) (after_three i))

-- each carry follows from the one below it
carries-at : (c : Bool) (i : ℕ) (gs ps : List Bool) (d : Bool) → suc i < length gs
    → get_or (carries c gs ps) (suc i) d ≡ carry_out (get_or gs (suc i) d) (get_or ps (suc i) true) (get_or (carries c gs ps) i d)
carries-at c i [] ps d l = absurd (omega (arith, l))
carries-at c i (g ∷ []) ps d l = absurd (omega (arith, l))
carries-at c zero (g ∷ h ∷ gs) [] d l = refl
carries-at c zero (g ∷ h ∷ gs) (p ∷ []) d l = refl
carries-at c zero (g ∷ h ∷ gs) (p ∷ q ∷ ps) d l = refl
carries-at c (suc i) (g ∷ h ∷ gs) [] d l = carries-at (g || c) i (h ∷ gs) [] d (omega (arith, l))
carries-at c (suc i) (g ∷ h ∷ gs) (p ∷ ps) d l = carries-at (carry_out g p c) i (h ∷ gs) ps d (omega (arith, l))

carries-lowest : (gs ps : List Bool) (d : Bool) → 0 < length gs → get_or (carries false gs ps) 0 d ≡ get_or gs 0 d
carries-lowest [] ps d l = absurd (omega (arith, l))
carries-lowest (g ∷ gs) [] d l = carry_none g true
carries-lowest (g ∷ gs) (p ∷ ps) d l = carry_none g p

carries-small : (gs ps : List Bool) → length gs ≤ 1 → gs ≡ carries false gs ps
carries-small [] ps l = refl
carries-small (g ∷ []) [] l = ap (λ c. c ∷ []) (sym (carry_none g true))
carries-small (g ∷ []) (p ∷ ps) l = ap (λ c. c ∷ []) (sym (carry_none g p))
carries-small (g ∷ h ∷ gs) ps l = absurd (omega (arith, l))

-- ---- nets that are made one after another

-- the nets of the lowest i bits of a list, where something is given of the bits
pub record RowMade (most : ℕ) (args : List ℕ) (old new : Circuit) (z : List ℕ) (full : (ℕ → Bool) → List Bool) (given : (ℕ → Bool) → Type 0) (i : ℕ) : Type 0 where
  pub width : length z ≡ i
  pub makes : Makes most args old new z (λ v. given v → map v z ≡ take i (full v))

pub row_none : (c : Circuit) (args : List ℕ) (full : (ℕ → Bool) → List Bool) (given : (ℕ → Bool) → Type 0) → RowMade 0 args c c [] full given 0
row_none c args full given = record {
  width = refl;
  makes = Makes-holds (Makes-none c args [] (All-nil (λ k. k < length c.nodes)) (All-nil (Over c.nodes args))) (omega arith) (λ v h g. refl);
}

pub row_more : {most more : ℕ} {args mid_args : List ℕ} {old mid new : Circuit} {z : List ℕ} {full : (ℕ → Bool) → List Bool} {given : (ℕ → Bool) → Type 0} {i : ℕ}
    (n net : ℕ) → RowMade most args old mid z full given i → Makes more mid_args mid new (net ∷ []) (λ v. given v → v net ≡ get_or (full v) i false)
    → most + more ≤ n → ((v : ℕ → Bool) → i < length (full v)) → All (Over mid.nodes args) mid_args
    → RowMade n args old new (z ++ net ∷ []) full given (i + 1)
row_more {z = z} {full = full} {i = i} n net e step le inside over = record {
  width = length_push z net ∙ ap (λ k. k + 1) e.width;
  makes = Makes-holds (Makes-then e.makes step over) le
      (λ v h g. map_push v z net ∙ ap (λ l. l ++ v net ∷ []) (h.0 g) ∙ ap (λ t. take i (full v) ++ t ∷ []) (h.1 g) ∙ sym (take_more (full v) i false (inside v)));
}

pub row_done : {most : ℕ} {args : List ℕ} {old new : Circuit} {z : List ℕ} {full : (ℕ → Bool) → List Bool} {given : (ℕ → Bool) → Type 0} (i n : ℕ)
    → RowMade most args old new z full given i → most ≤ n → ((v : ℕ → Bool) → length (full v) ≤ i) → Makes n args old new z (λ v. given v → map v z ≡ full v)
row_done {full = full} i n e le all = Makes-holds e.makes le (λ v h g. h g ∙ take_all i (full v) (all v))

-- ---- a place that may have no net to pass a carry on

pub past_within : (old new : Circuit) (g c z i : ℕ) (p : List ℕ) → i < length p
    → Makes 2 (g ∷ get_or p i 0 ∷ c ∷ []) old new (z ∷ []) (λ v. v z ≡ carry_out (v g) (v (get_or p i 0)) (v c))
    → Makes 2 (g ∷ c ∷ p) old new (z ∷ []) (λ v. v z ≡ carry_out (v g) (get_or (map v p) i true) (v c))
past_within old new g c z i p within step =
    let args = g ∷ c ∷ p in
    Makes-holds (Makes-wider {wide = args} step (All-three (Over new.nodes args) _ _ _ (Over-at args 0 (omega arith)) (Over-right (g ∷ c ∷ []) p i 0 within) (Over-at args 1 (omega arith)))) (omega arith)
    (λ v h. h ∙ ap (λ t. carry_out (v g) t (v c)) (sym (get_or-map v p i 0 true within)))

pub past_beyond : (old new : Circuit) (g c z i : ℕ) (p : List ℕ) → length p ≤ i
    → Makes 1 (g ∷ c ∷ []) old new (z ∷ []) (λ v. v z ≡ (v g || v c))
    → Makes 2 (g ∷ c ∷ p) old new (z ∷ []) (λ v. v z ≡ carry_out (v g) (get_or (map v p) i true) (v c))
past_beyond old new g c z i p beyond step =
    let args = g ∷ c ∷ p in
    Makes-holds (Makes-wider {wide = args} step (All-two (Over new.nodes args) g c (Over-at args 0 (omega arith)) (Over-at args 1 (omega arith)))) (omega arith)
    (λ v h. h ∙ ap (λ t. carry_out (v g) t (v c)) (sym (get_or_past (map v p) i true (omega (arith, beyond, length-map p v)))))

-- ---- pairs

pub paired_more : (old mid new : Circuit) (g p z : List ℕ) (i net : ℕ) → i < length g / 2
    → RowMade (2 * i) (g ++ p) old mid z (λ v. paired (map v g) (map v p)) (λ v. Unit {0}) i
    → Makes 2 (get_or g (2 * i + 1) 0 ∷ get_or g (2 * i) 0 ∷ p) mid new (net ∷ []) (λ v. v net ≡ carry_out (v (get_or g (2 * i + 1) 0)) (get_or (map v p) (2 * i + 1) true) (v (get_or g (2 * i) 0)))
    → RowMade (2 * (i + 1)) (g ++ p) old new (z ++ net ∷ []) (λ v. paired (map v g) (map v p)) (λ v. Unit {0}) (i + 1)
paired_more old mid new g p z i net l e step =
    let at = Over mid.nodes (g ++ p) in
    let high : 2 * i + 1 < length g = omega arith in
    let low : 2 * i < length g = omega arith in
    row_more {more = 2} (2 * (i + 1)) net e
    (Makes-holds step (omega arith) (λ v h u. h ∙ sym (paired-at i (map v g) (map v p) false (omega (arith, length-map g v))
    ∙ ap (λ t. carry_out t (get_or (map v p) (2 * i + 1) true) (get_or (map v g) (2 * i) false)) (get_or-map v g (2 * i + 1) 0 false high)
    ∙ ap (carry_out (v (get_or g (2 * i + 1) 0)) (get_or (map v p) (2 * i + 1) true)) (get_or-map v g (2 * i) 0 false low))))
    (omega arith) (λ v. omega (arith, length-paired (map v g) (map v p), length-map g v))
    (All-append at (get_or g (2 * i + 1) 0 ∷ get_or g (2 * i) 0 ∷ []) p (All-two at _ _ (Over-left g p (2 * i + 1) 0 high) (Over-left g p (2 * i) 0 low)) (Over-right g p))

pub upper_pass_first : (old : Circuit) (p : List ℕ) → 2 ≤ length p → All (λ k. k < length old.nodes) p
    → RowMade 1 p old old (get_or p 1 0 ∷ []) (λ v. upper_pass (map v p)) (λ v. Unit {0}) 1
upper_pass_first old [] some there = absurd (omega (arith, some))
upper_pass_first old (p ∷ []) some there = absurd (omega (arith, some))
upper_pass_first old (p ∷ q ∷ ps) some there = record {
  width = refl;
  makes = Makes-holds (Makes-none old (p ∷ q ∷ ps) (q ∷ []) (All-one (λ k. k < length old.nodes) q (there 1 0 (omega arith))) (All-one (Over old.nodes (p ∷ q ∷ ps)) q (Over-at (p ∷ q ∷ ps) 1 (omega arith)))) (omega arith) (λ v h g. refl);
}

pub upper_pass_more : (old mid new : Circuit) (p z : List ℕ) (i net : ℕ) → 1 ≤ i → i < length p / 2
    → RowMade i p old mid z (λ v. upper_pass (map v p)) (λ v. Unit {0}) i
    → Makes 1 (get_or p (2 * i + 1) 0 ∷ get_or p (2 * i) 0 ∷ []) mid new (net ∷ []) (λ v. v net ≡ (v (get_or p (2 * i + 1) 0) && v (get_or p (2 * i) 0)))
    → RowMade (i + 1) p old new (z ++ net ∷ []) (λ v. upper_pass (map v p)) (λ v. Unit {0}) (i + 1)
upper_pass_more old mid new p z i net some l e step =
    let high : 2 * i + 1 < length p = omega arith in
    let low : 2 * i < length p = omega arith in
    row_more {more = 1} (i + 1) net e
    (Makes-holds step (omega arith) (λ v h u. h ∙ sym (upper_pass-at i (map v p) false some ∙ both_pass-at i (map v p) false (omega (arith, length-map p v))
    ∙ ap (λ t. t && get_or (map v p) (2 * i) false) (get_or-map v p (2 * i + 1) 0 false high)
    ∙ ap (λ t. v (get_or p (2 * i + 1) 0) && t) (get_or-map v p (2 * i) 0 false low))))
    (omega arith) (λ v. omega (arith, length-upper_pass (map v p), length-map p v))
    (All-two (Over mid.nodes p) _ _ (Over-at p (2 * i + 1) high) (Over-at p (2 * i) low))

-- ---- the carries of all places

-- c has the carries of the pairs
abbrev pub PairsGiven : (ℕ → Bool) → List ℕ → List ℕ → List ℕ → Type 0
PairsGiven v g p c = map v c ≡ carries false (paired (map v g) (map v p)) (both_pass (map v p))

-- what the carry out of place i is
abbrev pub CarryAt : (ℕ → Bool) → List ℕ → List ℕ → List ℕ → ℕ → ℕ → Type 0
CarryAt v g p c i net = PairsGiven v g p c → v net ≡ get_or (carries false (map v g) (map v p)) i false

-- each place has a net in p, or none has one, as the bits
same_width : (v : ℕ → Bool) (g p : List ℕ) → (1 ≤ length p → length p ≡ length g) → 1 ≤ length (map v p) → length (map v p) ≡ length (map v g)
same_width v g p w some = length-map p v ∙ w (omega (arith, some, length-map p v)) ∙ sym (length-map g v)

-- the carry of a pair is the one out of its higher place
pair_is : (v : ℕ → Bool) (g p c : List ℕ) (k i : ℕ) → (1 ≤ length p → length p ≡ length g) → length c ≡ length g / 2 → i < length g → 2 * k + 1 ≡ i → CarryAt v g p c i (get_or c k 0)
pair_is v g p c k i w pairs place is given =
    let high : 2 * k + 1 < length (map v g) = omega (arith, length-map g v) in
    let inside : k < length c = omega arith in
    sym (get_or-map v c k 0 false inside) ∙ ap (λ l. get_or l k false) given ∙ carries-paired false k (map v g) (map v p) false high (same_width v g p w)
    ∙ ap (λ j. get_or (carries false (map v g) (map v p)) j false) is

pub carry_at_pair : (old : Circuit) (g p c : List ℕ) (i : ℕ) → (1 ≤ length p → length p ≡ length g) → length c ≡ length g / 2 → i < length g → i % 2 ≡ 1 → All (λ k. k < length old.nodes) c
    → Makes (2 * ((i + 1) % 2)) (g ++ (p ++ c)) old old (get_or c (i / 2) 0 ∷ []) (λ v. CarryAt v g p c i (get_or c (i / 2) 0))
carry_at_pair old g p c i w pairs place odd there =
    let args = g ++ (p ++ c) in
    let inside : i / 2 < length c = omega arith in
    Makes-holds (Makes-none old args (get_or c (i / 2) 0 ∷ []) (All-one (λ k. k < length old.nodes) _ (there (i / 2) 0 inside))
    (All-one (Over old.nodes args) _ (of_pair old inside))) (omega arith) (λ v h. pair_is v g p c (i / 2) i w pairs place (omega arith))
  where
    of_pair : (m : Circuit) → i / 2 < length c → Over m.nodes (g ++ (p ++ c)) (get_or c (i / 2) 0)
    of_pair m inside = All-right (Over m.nodes (g ++ (p ++ c))) p c (Over-right g (p ++ c)) (i / 2) 0 inside

pub carry_at_lowest : (old : Circuit) (g p c : List ℕ) (i : ℕ) → i < length g → i ≡ 0 → All (λ k. k < length old.nodes) g
    → Makes (2 * ((i + 1) % 2)) (g ++ (p ++ c)) old old (get_or g 0 0 ∷ []) (λ v. CarryAt v g p c i (get_or g 0 0))
carry_at_lowest old g p c i place is there =
    let args = g ++ (p ++ c) in
    let inside : 0 < length g = omega arith in
    Makes-holds (Makes-none old args (get_or g 0 0 ∷ []) (All-one (λ k. k < length old.nodes) _ (there 0 0 inside)) (All-one (Over old.nodes args) _ (Over-left g (p ++ c) 0 0 inside))) (omega arith)
    (λ v h given. sym (get_or-map v g 0 0 false inside) ∙ sym (carries-lowest (map v g) (map v p) false (omega (arith, length-map g v)))
    ∙ ap (λ j. get_or (carries false (map v g) (map v p)) j false) (sym is))

pub carry_at_between : (old new : Circuit) (g p c : List ℕ) (i net : ℕ) → (1 ≤ length p → length p ≡ length g) → length c ≡ length g / 2 → i < length g → 1 ≤ i → i % 2 ≡ 0
    → Makes 2 (get_or g i 0 ∷ get_or c (i / 2 - 1) 0 ∷ p) old new (net ∷ []) (λ v. v net ≡ carry_out (v (get_or g i 0)) (get_or (map v p) i true) (v (get_or c (i / 2 - 1) 0)))
    → Makes (2 * ((i + 1) % 2)) (g ++ (p ++ c)) old new (net ∷ []) (λ v. CarryAt v g p c i net)
carry_at_between old new g p c i net w pairs place some even step =
    let args = g ++ (p ++ c) in
    let at = Over new.nodes args in
    let inside : i / 2 - 1 < length c = omega arith in
    let rest = Over-right {nodes = new.nodes} g (p ++ c) in
    Makes-holds (Makes-wider {wide = args} step (All-append at (get_or g i 0 ∷ get_or c (i / 2 - 1) 0 ∷ []) p (All-two at _ _ (Over-left g (p ++ c) i 0 place) (All-right at p c rest (i / 2 - 1) 0 inside)) (All-left at p c rest))) (omega arith)
    (λ v h given. h ∙ sym (value v (i - 1) given (omega arith) (omega arith)))
  where
    value : (v : ℕ → Bool) (j : ℕ) → PairsGiven v g p c → suc j ≡ i → 2 * (i / 2 - 1) + 1 ≡ j
        → get_or (carries false (map v g) (map v p)) i false ≡ carry_out (v (get_or g i 0)) (get_or (map v p) i true) (v (get_or c (i / 2 - 1) 0))
    value v j given next below =
        let start = ap (λ k. get_or (carries false (map v g) (map v p)) k false) (sym next) in
        let here = carries-at false j (map v g) (map v p) false (omega (arith, length-map g v)) in
        let pair = pair_is v g p c (i / 2 - 1) j w pairs (omega arith) below given in
        start ∙ here ∙ ap (λ k. carry_out (get_or (map v g) k false) (get_or (map v p) k true) (get_or (carries false (map v g) (map v p)) j false)) next
        ∙ ap (λ t. carry_out t (get_or (map v p) i true) (get_or (carries false (map v g) (map v p)) j false)) (get_or-map v g i 0 false place)
        ∙ ap (carry_out (v (get_or g i 0)) (get_or (map v p) i true)) (sym pair)

pub spread_more : (old mid new : Circuit) (g p c z : List ℕ) (i net : ℕ) → i < length g
    → RowMade (2 * ((i + 1) / 2)) (g ++ (p ++ c)) old mid z (λ v. carries false (map v g) (map v p)) (λ v. PairsGiven v g p c) i
    → Makes (2 * ((i + 1) % 2)) (g ++ (p ++ c)) mid new (net ∷ []) (λ v. CarryAt v g p c i net)
    → RowMade (2 * ((i + 1 + 1) / 2)) (g ++ (p ++ c)) old new (z ++ net ∷ []) (λ v. carries false (map v g) (map v p)) (λ v. PairsGiven v g p c) (i + 1)
spread_more old mid new g p c z i net place e step =
    row_more (2 * ((i + 1 + 1) / 2)) net e step (omega arith)
    (λ v. omega (arith, length-carries false (map v g) (map v p), length-map g v)) (Over-self (g ++ (p ++ c)))

pub prefix_small : (old : Circuit) (g p z : List ℕ) → length g ≤ 1 → z ≡ g → All (λ k. k < length old.nodes) g
    → Makes (5 * length g) (g ++ p) old old z (λ v. map v z ≡ carries false (map v g) (map v p))
prefix_small old g p z small is there =
    subst (λ (l : List ℕ). Makes (5 * length g) (g ++ p) old old l (λ v. map v l ≡ carries false (map v g) (map v p))) (sym is)
    (Makes-holds (Makes-none old (g ++ p) g there (Over-left g p)) (omega arith)
    (λ v h. carries-small (map v g) (map v p) (omega (arith, length-map g v))))

pub prefix_made : (old m1 m2 m3 new : Circuit) (g p high_g high_p c z : List ℕ) → length high_g ≡ length g / 2
    → Makes (2 * (length g / 2)) (g ++ p) old m1 high_g (λ v. map v high_g ≡ paired (map v g) (map v p))
    → Makes (length p / 2) p m1 m2 high_p (λ v. map v high_p ≡ upper_pass (map v p))
    → Makes (5 * length high_g) (high_g ++ high_p) m2 m3 c (λ v. map v c ≡ carries false (map v high_g) (map v high_p))
    → Makes (2 * ((length g + 1) / 2)) (g ++ (p ++ c)) m3 new z (λ v. PairsGiven v g p c → map v z ≡ carries false (map v g) (map v p))
    → length p ≤ length g
    → Makes (5 * length g) (g ++ p) old new z (λ v. map v z ≡ carries false (map v g) (map v p))
prefix_made old m1 m2 m3 new g p high_g high_p c z width a b d e w =
    let args = g ++ p in
    let pairs = Makes-then a b (Over-right g p) in
    let high = Makes-last pairs d pairs.reach in
    let whole = Makes-last high e (All-append (Over m3.nodes args) g (p ++ c) (Over-left g p) (All-append (Over m3.nodes args) p c (Over-right g p) high.reach)) in
    Makes-holds whole (omega arith) (λ v h. h.1 (h.0.1 ∙ ap (λ l. carries false l (map v high_p)) h.0.0.0 ∙ ap (carries false (paired (map v g) (map v p))) h.0.0.1 ∙ upper_pass-same (paired (map v g) (map v p)) (map v p)))

-- places beyond the last that generates a carry don't count
carries-enough : (c : Bool) (n : ℕ) (gs ps : List Bool) → length gs ≤ n → carries c gs (take n ps) ≡ carries c gs ps
carries-enough c n [] ps l = refl
carries-enough c zero (g ∷ gs) ps l = absurd (omega (arith, l))
carries-enough c (suc n) (g ∷ gs) [] l = refl
carries-enough c (suc n) (g ∷ gs) (p ∷ ps) l = ap (λ r. carry_out g p c ∷ r) (carries-enough (carry_out g p c) n gs ps (omega (arith, l)))

pub sum_carries_made : (old mid new : Circuit) (s x y low g c : List ℕ) → length x ≤ length y → length g ≡ length x → low ≡ take (length x) s
    → Makes (length x) (x ++ y) old mid g (λ v. map v g ≡ each ◌&&◌ (map v x) (map v y))
    → Makes (5 * length g) (g ++ low) mid new c (λ v. map v c ≡ carries false (map v g) (map v low))
    → Makes (6 * length x) (s ++ (x ++ y)) old new c (λ v. map v c ≡ carries false (each ◌&&◌ (map v x) (map v y)) (map v s))
sum_carries_made old mid new s x y low g c le width low_is a b =
    let args = s ++ (x ++ y) in
    let wide = Makes-wider {wide = args} a (Over-right s (x ++ y)) in
    let of_low = subst (λ (l : List ℕ). All (Over mid.nodes args) l) (sym low_is) (All-take (Over mid.nodes args) (length x) s (Over-left s (x ++ y))) in
    Makes-holds (Makes-last wide b (All-append (Over mid.nodes args) g low wide.reach of_low)) (omega arith)
    (λ v h. h.1 ∙ ap (λ l. carries false l (map v low)) h.0 ∙ ap (carries false (each ◌&&◌ (map v x) (map v y))) (ap (map v) low_is ∙ sym (take-map v (length x) s))
    ∙ carries-enough false (length x) (each ◌&&◌ (map v x) (map v y)) (map v s) (small v))
  where
    small : (v : ℕ → Bool) → length (each ◌&&◌ (map v x) (map v y)) ≤ length x
    small v = omega (arith, length-each ◌&&◌ (map v x) (map v y) (omega (arith, length-map x v, length-map y v)), length-map x v)
