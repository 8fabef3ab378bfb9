-- One of two lists of bits, as a bit says.
use Rattle.std.proofs.Common.{◌≡◌, ◌<◌, ℕ, ◌+◌, ◌*◌, List, [], ◌∷◌, ◌++◌, length, map, get_or, Bool, true, false, not, ◌&&◌, ◌||◌, refl, ap, sym, ◌∙◌, subst, arith}
use Rattle.std.specs.Prelude.{All, if◌then◌else◌}
use Rattle.std.specs.List.{range_with_len}
use Rattle.std.proofs.lemmas.List.Elements.{All-append}
use Rattle.hc_net.specs.Circuit.{Circuit}
use Rattle.hc_net.specs.Made.{Over, argument, Makes}
use Rattle.hc_net.specs.MadeLemmas.{Over-left, Over-over, Makes-then, Makes-last, Makes-holds}
use Rattle.hc_bits.proofs.EachBit.{bits_of, bits_more, map_same}
use Rattle.hc_bits.proofs.Parts.{Over-right, All-one, All-two, Makes-over}

-- three gates: two that let one bit through each, and one that joins them
pub choose_made : (c n x y taken other z : ℕ) (old first second new : Circuit)
    → Makes 1 (c ∷ x ∷ []) old first (taken ∷ []) (λ v. v taken ≡ (v c && v x))
    → Makes 1 (n ∷ y ∷ []) first second (other ∷ []) (λ v. v other ≡ (v n && v y))
    → Makes 1 (taken ∷ other ∷ []) second new (z ∷ []) (λ v. v z ≡ (v taken || v other))
    → Makes 3 (c ∷ n ∷ x ∷ y ∷ []) old new (z ∷ []) (λ v. v z ≡ ((v c && v x) || (v n && v y)))
choose_made c n x y taken other z old first second new a b joined =
    let args = c ∷ n ∷ x ∷ y ∷ [] in
    let left = Makes-over a (All-two (Over old.nodes args) c x (argument c 0 (omega arith) refl) (argument x 2 (omega arith) refl)) in
    let both = Makes-then left b (All-two (Over first.nodes args) n y (argument n 1 (omega arith) refl) (argument y 3 (omega arith) refl)) in
    Makes-holds (Makes-last both joined both.reach) (omega arith)
    (λ v holds. holds.1 ∙ ap (λ p. p || v other) (holds.0.0) ∙ ap (λ p. (v c && v x) || p) (holds.0.1))

-- one bit more
pub chosen_more : (c n : ℕ) (xs xs' ys ys' bits more : List ℕ) (i bit : ℕ) (old mid new : Circuit)
    → i < length xs → length ys ≡ length xs → xs' ≡ xs → ys' ≡ ys → more ≡ bits ++ bit ∷ []
    → Makes (3 * i) (c ∷ n ∷ xs ++ ys) old mid bits (λ v. map v bits ≡ map (λ k. (v c && v (get_or xs k 0)) || (v n && v (get_or ys k 0))) (range_with_len 0 i))
    → Makes 3 (c ∷ n ∷ get_or xs' i 0 ∷ get_or ys' i 0 ∷ []) mid new (bit ∷ []) (λ v. v bit ≡ ((v c && v (get_or xs' i 0)) || (v n && v (get_or ys' i 0))))
    → Makes (3 * (i + 1)) (c ∷ n ∷ xs ++ ys) old new more (λ v. map v more ≡ map (λ k. (v c && v (get_or xs k 0)) || (v n && v (get_or ys k 0))) (range_with_len 0 (i + 1)))
chosen_more c n xs xs' ys ys' bits more i bit old mid new within same left right pushed made one =
    let args = c ∷ n ∷ xs ++ ys in
    let all : All (Over mid.nodes args) (xs ++ ys) = Over-right (c ∷ n ∷ []) (xs ++ ys) in
    let x = get_or xs i 0 in
    let y = get_or ys i 0 in
    let here : All (Over mid.nodes args) (c ∷ n ∷ x ∷ y ∷ []) =
    All-append (Over mid.nodes args) (c ∷ n ∷ []) (x ∷ y ∷ [])
    (All-two (Over mid.nodes args) c n (argument c 0 (omega arith) refl) (argument n 1 (omega arith) refl))
    (All-two (Over mid.nodes args) x y (Over-over all (Over-left xs ys i 0 within)) (Over-over all (Over-right xs ys i 0 (omega (arith, within, same))))) in
    subst (λ (z : List ℕ). Makes (3 * (i + 1)) (c ∷ n ∷ xs ++ ys) old new z (λ v. map v z ≡ map (λ k. (v c && v (get_or xs k 0)) || (v n && v (get_or ys k 0))) (range_with_len 0 (i + 1)))) (sym pushed)
    (bits_more (λ v k. (v c && v (get_or xs k 0)) || (v n && v (get_or ys k 0))) i (3 * (i + 1)) made
    (subst (λ (l : List ℕ). Makes 3 (c ∷ n ∷ get_or xs i 0 ∷ get_or l i 0 ∷ []) mid new (bit ∷ []) (λ v. v bit ≡ ((v c && v (get_or xs i 0)) || (v n && v (get_or l i 0))))) right
    (subst (λ (l : List ℕ). Makes 3 (c ∷ n ∷ get_or l i 0 ∷ get_or ys' i 0 ∷ []) mid new (bit ∷ []) (λ v. v bit ≡ ((v c && v (get_or l i 0)) || (v n && v (get_or ys' i 0))))) left one))
    here
    (omega arith))

-- ---- which of the two lists it is

or_nothing : (a b : Bool) → (a || (false && b)) ≡ a
or_nothing true b = refl
or_nothing false b = refl

-- bits that are let through where p is set, and others where it isn't
pub picked : (p n : Bool) (f g : ℕ → Bool) (xs ys : List Bool) (l : List ℕ) → n ≡ not p → map f l ≡ xs → map g l ≡ ys
    → map (λ i. (p && f i) || (n && g i)) l ≡ (if p then xs else ys)
picked true true f g xs ys l e a b = absurd cc
picked true false f g xs ys l e a b = map_same (λ i. (true && f i) || (false && g i)) f (λ i. or_nothing (f i) (g i)) l ∙ a
picked false true f g xs ys l e a b = map_same (λ i. (false && f i) || (true && g i)) g (λ i. refl) l ∙ b
picked false false f g xs ys l e a b = absurd cc

-- an inverter, and then each bit
pub mux_made : (c n : ℕ) (xs ys z : List ℕ) (old mid new : Circuit) → length ys ≡ length xs
    → Makes 1 (c ∷ []) old mid (n ∷ []) (λ v. v n ≡ not (v c))
    → Makes (3 * length xs) (c ∷ n ∷ xs ++ ys) mid new z (λ v. map v z ≡ map (λ k. (v c && v (get_or xs k 0)) || (v n && v (get_or ys k 0))) (range_with_len 0 (length xs)))
    → Makes (3 * length xs + 1) (c ∷ xs ++ ys) old new z (λ v. map v z ≡ (if v c then map v xs else map v ys))
mux_made c n xs ys z old mid new same turned each =
    let args = c ∷ xs ++ ys in
    let first = Makes-over turned (All-one (Over old.nodes args) c (argument c 0 (omega arith) refl)) in
    let over : All (Over mid.nodes args) (c ∷ n ∷ xs ++ ys) =
    All-append (Over mid.nodes args) (c ∷ n ∷ []) (xs ++ ys)
    (All-two (Over mid.nodes args) c n (argument c 0 (omega arith) refl) (first.reach 0 0 (omega arith)))
    (Over-right (c ∷ []) (xs ++ ys)) in
    Makes-holds (Makes-last first each over) (omega arith)
    (λ v holds. holds.1 ∙ picked (v c) (v n) (λ k. v (get_or xs k 0)) (λ k. v (get_or ys k 0)) (map v xs) (map v ys) (range_with_len 0 (length xs)) (holds.0)
    (sym (bits_of v xs))
    (ap (λ w. map (λ k. v (get_or ys k 0)) (range_with_len 0 w)) (sym same) ∙ sym (bits_of v ys)))
