-- A shift as stages that each move the bits where one bit of the amount is set.
use Rattle.std.proofs.Common.{◌≡◌, ◌<◌, ◌≤◌, ℕ, ◌+◌, ◌-◌, ◌*◌, ◌/◌, ◌%◌, ◌^◌, List, [], ◌∷◌, ◌++◌, length, map, get_or, take, drop, reverse, Bool, true, false, not, ◌&&◌, ◌||◌, Option, Some, None, refl, ap, sym, ◌∙◌, subst, arith, inl, inr, ◌⊎◌}
use Rattle.std.specs.Prelude.{All, nat_lt, nat_le, if◌then◌else◌, ◌==◌}
use Rattle.std.specs.List.{range_with_len}
use Rattle.std.proofs.lemmas.List.{length-map, length-drop, length-reverse, get_or-map, get_or-reverse, get_or_past, drop-map, nil_from_length}
use Rattle.std.proofs.lemmas.List.Elements.{All-cons, All-append, All-drop}
use Rattle.std.proofs.lemmas.Bool.{cases_lt, cond-true, cond-false, lt-ltb, le-ltb}
use Rattle.std.proofs.Math.Nat.{mul-le-mul_left}
use Rattle.hc_num.specs.Number.{Number}
use Rattle.hc_num.specs.Compare.{truth as one_bit}
use Rattle.hc_num.specs.Shift.{shifted_left, shifted_right}
use Rattle.hc_net.specs.Bits.{number}
use Rattle.hc_net.specs.Circuit.{Circuit}
use Rattle.hc_net.specs.Made.{Over, argument, Makes}
use Rattle.hc_net.specs.MadeLemmas.{Over-left, Over-over, Over-self, Makes-none, Makes-last, Makes-as, Makes-holds}
use Rattle.hc_net.specs.declared.node.Node.{Node}
use Rattle.hc_bits.specs.Held.{held}
use Rattle.hc_bits.specs.Moved.{moved, bit_of, nets_of}
use Rattle.hc_bits.proofs.EachBit.{bits_of, bits_more}
use Rattle.hc_bits.proofs.Parts.{Over-right, All-one, All-two, Makes-over}
use Rattle.hc_bits.proofs.Chosen.{picked}
use Rattle.hc_bits.proofs.BitLists.{amount_more, moved_none, moved-moved, moved_whole, number-moved, number-turned_move, top_bit, map-reverse}

-- the nets in the middle, and the last ones
pub Over-middle : {nodes : List Node} (fs xs ys : List ℕ) → All (Over nodes (fs ++ (xs ++ ys))) xs
Over-middle fs xs ys i d within = Over-over (Over-right fs (xs ++ ys)) (Over-left xs ys i d within)

pub Over-end : {nodes : List Node} (fs xs ys : List ℕ) → All (Over nodes (fs ++ (xs ++ ys))) ys
Over-end fs xs ys i d within = Over-over (Over-right fs (xs ++ ys)) (Over-right xs ys i d within)

-- what holds of nets holds of them in reverse order
All-reverse : (P : ℕ → Type 0) (xs : List ℕ) → All P xs → All P (reverse xs)
All-reverse P xs all i d within =
    let low : i < length xs = omega (arith, within, length-reverse xs) in
    subst P (sym (get_or-reverse xs i d low)) (all (length xs - 1 - i) d (omega arith))

-- ---- one bit of a stage

pub stays_made : (c stays x z : ℕ) (into : Option ℕ) (old new : Circuit) → into ≡ None
    → Makes 1 (stays ∷ x ∷ []) old new (z ∷ []) (λ v. v z ≡ (v stays && v x))
    → Makes 3 (c ∷ stays ∷ nets_of into ++ x ∷ []) old new (z ∷ []) (λ v. v z ≡ ((v c && bit_of v into) || (v stays && v x)))
stays_made c stays x z into old new none made =
    subst (λ (m : Option ℕ). Makes 3 (c ∷ stays ∷ nets_of m ++ x ∷ []) old new (z ∷ []) (λ v. v z ≡ ((v c && bit_of v m) || (v stays && v x)))) (sym none)
    (Makes-holds (Makes-over made (All-two (Over old.nodes (c ∷ stays ∷ x ∷ [])) stays x (argument stays 1 (omega arith) refl) (argument x 2 (omega arith) refl))) (omega arith)
    (λ v is. is ∙ nothing (v c) (v stays && v x)))
  where
    nothing : (a b : Bool) → b ≡ ((a && false) || b)
    nothing true b = refl
    nothing false b = refl

source_bit : (into fill : Option ℕ) (xs : List ℕ) (place : ℕ) (v : ℕ → Bool) → into ≡ (if nat_lt place (length xs) then Some (get_or xs place 0) else fill)
    → bit_of v into ≡ get_or (map v xs) place (bit_of v fill)
source_bit into fill xs place v is = elim (cases_lt place (length xs)) [
  | inl low ↦
      ap (bit_of v) (is ∙ cond-true (nat_lt place (length xs)) (Some (get_or xs place 0)) fill (lt-ltb place (length xs) low))
      ∙ sym (get_or-map v xs place 0 (bit_of v fill) low)
  | inr high ↦
      ap (bit_of v) (is ∙ cond-false (nat_lt place (length xs)) (Some (get_or xs place 0)) fill (le-ltb place (length xs) high))
      ∙ sym (get_or_past (map v xs) place (bit_of v fill) (omega (arith, high, length-map xs v)))
]

source_over : {nodes : List Node} {args : List ℕ} (into fill : Option ℕ) (xs : List ℕ) (place : ℕ) → into ≡ (if nat_lt place (length xs) then Some (get_or xs place 0) else fill)
    → All (Over nodes args) (nets_of fill) → All (Over nodes args) xs → All (Over nodes args) (nets_of into)
source_over {nodes} {args} into fill xs place is over_fill over_xs = elim (cases_lt place (length xs)) [
  | inl low ↦
      subst (λ (m : Option ℕ). All (Over nodes args) (nets_of m)) (sym (is ∙ cond-true (nat_lt place (length xs)) (Some (get_or xs place 0)) fill (lt-ltb place (length xs) low)))
      (All-one (Over nodes args) (get_or xs place 0) (over_xs place 0 low))
  | inr high ↦
      subst (λ (m : Option ℕ). All (Over nodes args) (nets_of m)) (sym (is ∙ cond-false (nat_lt place (length xs)) (Some (get_or xs place 0)) fill (le-ltb place (length xs) high)))
      over_fill
]

-- ---- a stage

pub stage_more : (c stays distance : ℕ) (fill into : Option ℕ) (xs ns ms bits more : List ℕ) (i bit : ℕ) (old mid new : Circuit)
    → i < length xs → ns ≡ xs → ms ≡ xs → into ≡ (if nat_lt (i + distance) (length ns) then Some (get_or ns (i + distance) 0) else fill) → more ≡ bits ++ bit ∷ []
    → Makes (3 * i) (c ∷ stays ∷ nets_of fill ++ xs) old mid bits (λ v. map v bits ≡ map (λ k. (v c && get_or (map v xs) (k + distance) (bit_of v fill)) || (v stays && v (get_or xs k 0))) (range_with_len 0 i))
    → Makes 3 (c ∷ stays ∷ nets_of into ++ get_or ms i 0 ∷ []) mid new (bit ∷ []) (λ v. v bit ≡ ((v c && bit_of v into) || (v stays && v (get_or ms i 0))))
    → Makes (3 * (i + 1)) (c ∷ stays ∷ nets_of fill ++ xs) old new more (λ v. map v more ≡ map (λ k. (v c && get_or (map v xs) (k + distance) (bit_of v fill)) || (v stays && v (get_or xs k 0))) (range_with_len 0 (i + 1)))
stage_more c stays distance fill into xs ns ms bits more i bit old mid new within first second is pushed made one =
    let args = c ∷ stays ∷ nets_of fill ++ xs in
    let from : into ≡ (if nat_lt (i + distance) (length xs) then Some (get_or xs (i + distance) 0) else fill) =
    subst (λ (l : List ℕ). into ≡ (if nat_lt (i + distance) (length l) then Some (get_or l (i + distance) 0) else fill)) first is in
    let gates = subst (λ (l : List ℕ). Makes 3 (c ∷ stays ∷ nets_of into ++ get_or l i 0 ∷ []) mid new (bit ∷ []) (λ v. v bit ≡ ((v c && bit_of v into) || (v stays && v (get_or l i 0))))) second one in
    let over_fill : All (Over mid.nodes args) (nets_of fill) = Over-middle (c ∷ stays ∷ []) (nets_of fill) xs in
    let over_xs : All (Over mid.nodes args) xs = Over-end (c ∷ stays ∷ []) (nets_of fill) xs in
    let over : All (Over mid.nodes args) (c ∷ stays ∷ nets_of into ++ get_or xs i 0 ∷ []) =
    All-append (Over mid.nodes args) (c ∷ stays ∷ []) (nets_of into ++ get_or xs i 0 ∷ [])
    (All-two (Over mid.nodes args) c stays (argument c 0 (omega arith) refl) (argument stays 1 (omega arith) refl))
    (All-append (Over mid.nodes args) (nets_of into) (get_or xs i 0 ∷ [])
    (source_over into fill xs (i + distance) from over_fill over_xs)
    (All-one (Over mid.nodes args) (get_or xs i 0) (over_xs i 0 within))) in
    subst (λ (z : List ℕ). Makes (3 * (i + 1)) (c ∷ stays ∷ nets_of fill ++ xs) old new z (λ v. map v z ≡ map (λ k. (v c && get_or (map v xs) (k + distance) (bit_of v fill)) || (v stays && v (get_or xs k 0))) (range_with_len 0 (i + 1)))) (sym pushed)
    (bits_more {n = 3} (λ v k. (v c && get_or (map v xs) (k + distance) (bit_of v fill)) || (v stays && v (get_or xs k 0))) i (3 * (i + 1)) made
    (Makes-holds gates (omega arith) (λ v bit_is. bit_is ∙ ap (λ m. (v c && m) || (v stays && v (get_or xs i 0))) (source_bit into fill xs (i + distance) v from)))
    over
    (omega arith))

pub stage_made : (c stays distance : ℕ) (fill : Option ℕ) (xs z : List ℕ) (old mid new : Circuit)
    → Makes 1 (c ∷ []) old mid (stays ∷ []) (λ v. v stays ≡ not (v c))
    → Makes (3 * length xs) (c ∷ stays ∷ nets_of fill ++ xs) mid new z (λ v. map v z ≡ map (λ k. (v c && get_or (map v xs) (k + distance) (bit_of v fill)) || (v stays && v (get_or xs k 0))) (range_with_len 0 (length xs)))
    → Makes (3 * length xs + 1) (c ∷ nets_of fill ++ xs) old new z (λ v. map v z ≡ moved (if v c then distance else 0) (bit_of v fill) (map v xs))
stage_made c stays distance fill xs z old mid new turned each =
    let args = c ∷ nets_of fill ++ xs in
    let first = Makes-over turned (All-one (Over old.nodes args) c (argument c 0 (omega arith) refl)) in
    let over : All (Over mid.nodes args) (c ∷ stays ∷ nets_of fill ++ xs) =
    All-append (Over mid.nodes args) (c ∷ stays ∷ []) (nets_of fill ++ xs)
    (All-two (Over mid.nodes args) c stays (argument c 0 (omega arith) refl) (first.reach 0 0 (omega arith)))
    (Over-right (c ∷ []) (nets_of fill ++ xs)) in
    Makes-holds (Makes-last first each over) (omega arith)
    (λ v holds. holds.1
    ∙ picked (v c) (v stays) (λ k. get_or (map v xs) (k + distance) (bit_of v fill)) (λ k. v (get_or xs k 0)) (moved distance (bit_of v fill) (map v xs)) (map v xs) (range_with_len 0 (length xs)) (holds.0)
    (ap (λ w. map (λ k. get_or (map v xs) (k + distance) (bit_of v fill)) (range_with_len 0 w)) (sym (length-map xs v)))
    (sym (bits_of v xs))
    ∙ chosen (v c) (bit_of v fill) (map v xs))
  where
    chosen : (c fill : Bool) (bits : List Bool) → (if c then moved distance fill bits else bits) ≡ moved (if c then distance else 0) fill bits
    chosen true fill bits = refl
    chosen false fill bits = sym (moved_none fill bits)

-- ---- the higher bits of the amount

pub out_none : (fill : Option ℕ) (xs high : List ℕ) (c : Circuit) → All (λ k. k < length c.nodes) xs → length high ≡ 0
    → Makes (length high + (3 * length xs + 1)) (nets_of fill ++ (xs ++ high)) c c xs (λ v. map v xs ≡ moved (if number (map v high) == 0 then 0 else length xs) (bit_of v fill) (map v xs))
out_none fill xs high c there none =
    Makes-holds (Makes-none c (nets_of fill ++ (xs ++ high)) xs there (Over-middle (nets_of fill) xs high)) (omega arith)
    (λ v nothing. sym (ap (λ l. moved (if number (map v l) == 0 then 0 else length xs) (bit_of v fill) (map v xs)) (nil_from_length high none) ∙ moved_none (bit_of v fill) (map v xs)))

bit_held : (v : ℕ → Bool) (some : List ℕ) (answer : Bool) → length some ≡ 1 → held false v some ≡ one_bit answer → v (get_or some 0 0) ≡ answer
bit_held v [] answer size is = absurd (omega (arith, size))
bit_held v (s ∷ []) answer size is = same (v s) answer (ap (λ (n : Number). n.bits) is)
  where
    same : (a b : Bool) → (if a then 1 else 0) + 2 * 0 ≡ (if b then 1 else 0) → a ≡ b
    same true true e = refl
    same true false e = absurd (omega (arith, e))
    same false true e = absurd (omega (arith, e))
    same false false e = refl
bit_held v (s ∷ t ∷ more) answer size is = absurd (omega (arith, size))

pub out_made : (fill : Option ℕ) (xs high some ss z : List ℕ) (distance : ℕ) (old mid new : Circuit) → length some ≡ 1 → ss ≡ some → distance ≡ length xs
    → Makes (length high) high old mid some (λ v. (s : Bool) → held false v some ≡ one_bit (not ((held s v high).bits == 0)))
    → Makes (3 * length xs + 1) (get_or ss 0 0 ∷ nets_of fill ++ xs) mid new z (λ v. map v z ≡ moved (if v (get_or ss 0 0) then distance else 0) (bit_of v fill) (map v xs))
    → Makes (length high + (3 * length xs + 1)) (nets_of fill ++ (xs ++ high)) old new z (λ v. map v z ≡ moved (if number (map v high) == 0 then 0 else length xs) (bit_of v fill) (map v xs))
out_made fill xs high some ss z distance old mid new one same far tree last =
    let args = nets_of fill ++ (xs ++ high) in
    let first = Makes-over tree (Over-end {nodes = old.nodes} (nets_of fill) xs high) in
    let stage = subst (λ (l : List ℕ). Makes (3 * length xs + 1) (get_or l 0 0 ∷ nets_of fill ++ xs) mid new z (λ v. map v z ≡ moved (if v (get_or l 0 0) then distance else 0) (bit_of v fill) (map v xs))) same last in
    let over : All (Over mid.nodes args) (get_or some 0 0 ∷ nets_of fill ++ xs) =
    All-cons (Over mid.nodes args) (get_or some 0 0) (nets_of fill ++ xs) (first.reach 0 0 (omega arith))
    (All-append (Over mid.nodes args) (nets_of fill) xs (Over-left (nets_of fill) (xs ++ high)) (Over-middle (nets_of fill) xs high)) in
    Makes-holds (Makes-last first stage over) (omega arith)
    (λ v holds. holds.1
    ∙ ap (λ c. moved (if c then distance else 0) (bit_of v fill) (map v xs)) (bit_held v some (not (number (map v high) == 0)) one (holds.0 false))
    ∙ ap (λ n. moved n (bit_of v fill) (map v xs)) (turned (number (map v high) == 0)))
  where
    turned : (c : Bool) → (if not c then distance else 0) ≡ (if c then 0 else length xs)
    turned true = refl
    turned false = far

-- ---- all stages

pub down_none : (fill : Option ℕ) (xs ys z : List ℕ) (c : Circuit) → z ≡ xs → All (λ k. k < length c.nodes) xs
    → Makes (4 * length xs * 0) (nets_of fill ++ (xs ++ ys)) c c z (λ v. map v z ≡ moved (number (take 0 (map v ys))) (bit_of v fill) (map v xs))
down_none fill xs ys z c same there =
    subst (λ (l : List ℕ). Makes (4 * length xs * 0) (nets_of fill ++ (xs ++ ys)) c c l (λ v. map v l ≡ moved (number (take 0 (map v ys))) (bit_of v fill) (map v xs))) (sym same)
    (Makes-holds (Makes-none c (nets_of fill ++ (xs ++ ys)) xs there (Over-middle (nets_of fill) xs ys)) (omega arith)
    (λ v nothing. sym (moved_none (bit_of v fill) (map v xs))))

pub down_more : (fill : Option ℕ) (xs ys bits shifted next : List ℕ) (k distance : ℕ) (old mid new : Circuit)
    → bits ≡ ys → 1 ≤ length xs → k < length ys → distance ≡ 2 ^ k → length shifted ≡ length xs
    → Makes (4 * length xs * k) (nets_of fill ++ (xs ++ ys)) old mid shifted (λ v. map v shifted ≡ moved (number (take k (map v ys))) (bit_of v fill) (map v xs))
    → Makes (3 * length shifted + 1) (get_or bits k 0 ∷ nets_of fill ++ shifted) mid new next (λ v. map v next ≡ moved (if v (get_or bits k 0) then distance else 0) (bit_of v fill) (map v shifted))
    → Makes (4 * length xs * (k + 1)) (nets_of fill ++ (xs ++ ys)) old new next (λ v. map v next ≡ moved (number (take (k + 1) (map v ys))) (bit_of v fill) (map v xs))
down_more fill xs ys bits shifted next k distance old mid new same some within far width made last =
    let args = nets_of fill ++ (xs ++ ys) in
    let stage = subst (λ (l : List ℕ). Makes (3 * length shifted + 1) (get_or l k 0 ∷ nets_of fill ++ shifted) mid new next (λ v. map v next ≡ moved (if v (get_or l k 0) then distance else 0) (bit_of v fill) (map v shifted))) same last in
    let over : All (Over mid.nodes args) (get_or ys k 0 ∷ nets_of fill ++ shifted) =
    All-cons (Over mid.nodes args) (get_or ys k 0) (nets_of fill ++ shifted) (Over-end (nets_of fill) xs ys k 0 within)
    (All-append (Over mid.nodes args) (nets_of fill) shifted (Over-left (nets_of fill) (xs ++ ys)) made.reach) in
    Makes-holds (Makes-last made stage over) (omega arith)
    (λ v holds. holds.1
    ∙ ap (λ l. moved (if v (get_or ys k 0) then distance else 0) (bit_of v fill) l) (holds.0)
    ∙ moved-moved (if v (get_or ys k 0) then distance else 0) (number (take k (map v ys))) (bit_of v fill) (map v xs)
    ∙ ap (λ n. moved n (bit_of v fill) (map v xs)) (amount v))
  where
    amount : (v : ℕ → Bool) → (if v (get_or ys k 0) then distance else 0) + number (take k (map v ys)) ≡ number (take (k + 1) (map v ys))
    amount v =
        ap (λ d. (if v (get_or ys k 0) then d else 0) + number (take k (map v ys))) far
        ∙ ap (λ c. (if c then 2 ^ k else 0) + number (take k (map v ys))) (sym (get_or-map v ys k 0 (v 0) within))
        ∙ sym (amount_more (map v ys) k (v 0) (omega (arith, within, length-map ys v)))

down_gates : (w k v : ℕ) → 1 ≤ w → k ≤ v → 4 * w * k + ((v - k) + (3 * w + 1)) ≤ 4 * w * v + 4 * w
down_gates w k v some low =
    let rest = v - k in
    let e : v ≡ k + rest = omega arith in
    let h : rest * 1 ≤ rest * w = mul-le-mul_left rest some in
    subst (λ (u : ℕ). 4 * w * k + (rest + (3 * w + 1)) ≤ 4 * w * u + 4 * w) (sym e) (omega (arith, h, some))

pub down_all : (fill : Option ℕ) (xs ys high shifted z : List ℕ) (k : ℕ) (old mid new : Circuit)
    → high ≡ drop k ys → 1 ≤ length xs → k ≤ length ys → (length ys ≤ k) ⊎ (length xs ≤ 2 ^ k) → length shifted ≡ length xs
    → Makes (4 * length xs * k) (nets_of fill ++ (xs ++ ys)) old mid shifted (λ v. map v shifted ≡ moved (number (take k (map v ys))) (bit_of v fill) (map v xs))
    → Makes (length high + (3 * length shifted + 1)) (nets_of fill ++ (shifted ++ high)) mid new z (λ v. map v z ≡ moved (if number (map v high) == 0 then 0 else length shifted) (bit_of v fill) (map v shifted))
    → Makes (4 * length xs * length ys + 4 * length xs) (nets_of fill ++ (xs ++ ys)) old new z (λ v. map v z ≡ moved (number (map v ys)) (bit_of v fill) (map v xs))
down_all fill xs ys high shifted z k old mid new is some low ends width made last =
    let args = nets_of fill ++ (xs ++ ys) in
    let few = down_gates (length xs) k (length ys) some low in
    let size : length high ≡ length ys - k = ap length is ∙ length-drop k ys in
    let over_high : All (Over mid.nodes args) high =
    subst (λ (l : List ℕ). All (Over mid.nodes args) l) (sym is) (All-drop (Over mid.nodes args) k ys (Over-end (nets_of fill) xs ys)) in
    let over : All (Over mid.nodes args) (nets_of fill ++ (shifted ++ high)) =
    All-append (Over mid.nodes args) (nets_of fill) (shifted ++ high) (Over-left (nets_of fill) (xs ++ ys))
    (All-append (Over mid.nodes args) shifted high made.reach over_high) in
    Makes-holds (Makes-last made last over) (rw (size, width) (omega (arith, few)))
    (λ v holds. holds.1
    ∙ ap (λ l. moved (if number (map v high) == 0 then 0 else length shifted) (bit_of v fill) l) (holds.0)
    ∙ ap (λ l. moved (if number l == 0 then 0 else length shifted) (bit_of v fill) (moved (number (take k (map v ys))) (bit_of v fill) (map v xs))) (ap (map v) is ∙ sym (drop-map v k ys))
    ∙ ap (λ w. moved (if number (drop k (map v ys)) == 0 then 0 else w) (bit_of v fill) (moved (number (take k (map v ys))) (bit_of v fill) (map v xs))) (width ∙ sym (length-map xs v))
    ∙ moved_whole (map v ys) (map v xs) k (bit_of v fill) (omega (arith, low, length-map ys v)) (wide v ends))
  where
    wide : (v : ℕ → Bool) → (length ys ≤ k) ⊎ (length xs ≤ 2 ^ k) → (length (map v ys) ≤ k) ⊎ (length (map v xs) ≤ 2 ^ k)
    wide v (inl all) = inl (omega (arith, all, length-map ys v))
    wide v (inr far) = inr (omega (arith, far, length-map xs v))

-- ---- the numbers

pub zero_held : (v : ℕ → Bool) (xs z : List ℕ) (n : ℕ) → length z ≡ length xs → map v z ≡ moved n false (map v xs) → held false v z ≡ shifted_right (held false v xs) n
zero_held v xs z n width is =
    let value : number (map v z) ≡ number (map v xs) / 2 ^ n + 0 = ap number is ∙ number-moved n false (map v xs) in
    cc

pub sign_held : (v : ℕ → Bool) (xs z : List ℕ) (n k : ℕ) (fill : Bool) → length z ≡ length xs → k + 1 ≡ length xs → fill ≡ v (get_or xs k 0) → map v z ≡ moved n fill (map v xs)
    → held true v z ≡ shifted_right (held true v xs) n
sign_held v xs z n k fill width size top is =
    let at : length xs - 1 ≡ k = omega arith in
    let set : nat_le (2 ^ (length xs - 1)) (number (map v xs)) ≡ fill =
    ap (λ i. nat_le (2 ^ i) (number (map v xs))) at ∙ top_bit (map v xs) k (v 0) (omega (arith, size, length-map xs v)) ∙ get_or-map v xs k 0 (v 0) (omega arith) ∙ sym top in
    let value : number (map v z) ≡ number (map v xs) / 2 ^ n + (if nat_le (2 ^ (length xs - 1)) (number (map v xs)) then 2 ^ length xs - 2 ^ (length xs - n) else 0) =
    ap number is ∙ number-moved n fill (map v xs)
    ∙ ap (λ w. number (map v xs) / 2 ^ n + (if fill then 2 ^ w - 2 ^ (w - n) else 0)) (length-map xs v)
    ∙ ap (λ c. number (map v xs) / 2 ^ n + (if c then 2 ^ length xs - 2 ^ (length xs - n) else 0)) (sym set) in
    cc

pub left_held : (v : ℕ → Bool) (s : Bool) (xs turned shifted z : List ℕ) (n : ℕ) → turned ≡ reverse xs → z ≡ reverse shifted → length z ≡ length xs → map v shifted ≡ moved n false (map v turned)
    → held s v z ≡ shifted_left (held s v xs) n
left_held v s xs turned shifted z n first second width is =
    let value : number (map v z) ≡ number (map v xs) * 2 ^ n % 2 ^ length xs =
    ap (λ l. number (map v l)) second
    ∙ ap number (map-reverse v shifted ∙ ap reverse is ∙ ap (λ l. reverse (moved n false (map v l))) first ∙ ap (λ l. reverse (moved n false l)) (map-reverse v xs))
    ∙ number-turned_move n (map v xs)
    ∙ ap (λ w. number (map v xs) * 2 ^ n % 2 ^ w) (length-map xs v) in
    cc

-- ---- the calls

pub sign_made : (xs ys bits z : List ℕ) (k : ℕ) (old new : Circuit) → bits ≡ xs → k + 1 ≡ length xs → length z ≡ length xs
    → Makes (4 * length xs * length ys + 4 * length xs) (get_or bits k 0 ∷ (xs ++ ys)) old new z (λ v. map v z ≡ moved (number (map v ys)) (v (get_or bits k 0)) (map v xs))
    → Makes (4 * length xs * length ys + 4 * length xs) (xs ++ ys) old new z (λ v. held true v z ≡ shifted_right (held true v xs) (number (map v ys)))
sign_made xs ys bits z k old new same size width made =
    let sign = get_or xs k 0 in
    let down = subst (λ (l : List ℕ). Makes (4 * length xs * length ys + 4 * length xs) (get_or l k 0 ∷ (xs ++ ys)) old new z (λ v. map v z ≡ moved (number (map v ys)) (v (get_or l k 0)) (map v xs))) same made in
    Makes-holds (Makes-over down (All-cons (Over old.nodes (xs ++ ys)) sign (xs ++ ys) (Over-left xs ys k 0 (omega arith)) (Over-self (xs ++ ys)))) (omega arith)
    (λ v is. sign_held v xs z (number (map v ys)) k (v sign) width size refl is)

pub left_made : (xs ys turned shifted z : List ℕ) (old new : Circuit) → turned ≡ reverse xs → z ≡ reverse shifted → length shifted ≡ length turned
    → Makes (4 * length turned * length ys + 4 * length turned) (turned ++ ys) old new shifted (λ v. map v shifted ≡ moved (number (map v ys)) false (map v turned))
    → Makes (4 * length xs * length ys + 4 * length xs) (xs ++ ys) old new z (λ v. (s : Bool) → held s v z ≡ shifted_left (held s v xs) (number (map v ys)))
left_made xs ys turned shifted z old new first second width made =
    let size : length turned ≡ length xs = ap length first ∙ length-reverse xs in
    let whole : length z ≡ length xs = ap length second ∙ length-reverse shifted ∙ width ∙ size in
    let over_turned : All (Over old.nodes (xs ++ ys)) turned = subst (λ (l : List ℕ). All (Over old.nodes (xs ++ ys)) l) (sym first) (All-reverse (Over old.nodes (xs ++ ys)) xs (Over-left xs ys)) in
    let down = Makes-over made (All-append (Over old.nodes (xs ++ ys)) turned ys over_turned (Over-right xs ys)) in
    Makes-as down (rw size (omega arith))
    (subst (λ (l : List ℕ). All (λ k. k < length new.nodes) l) (sym second) (All-reverse (λ k. k < length new.nodes) shifted down.there))
    (subst (λ (l : List ℕ). All (Over new.nodes (xs ++ ys)) l) (sym second) (All-reverse (Over new.nodes (xs ++ ys)) shifted down.reach))
    (λ v is s. left_held v s xs turned shifted z (number (map v ys)) first second whole is)
