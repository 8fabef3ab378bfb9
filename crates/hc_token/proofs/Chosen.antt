-- Rows of gates over two lists of nets.
use Rattle.std.proofs.Common.{◌≡◌, ◌<◌, ℕ, ◌+◌, ◌*◌, List, [], ◌∷◌, ◌++◌, length, map, get_or, ◌&&◌, ◌||◌, refl, ap, sym, ◌∙◌, subst, arith}
use Rattle.std.specs.Prelude.{All}
use Rattle.std.specs.List.{range_with_len}
use Rattle.std.proofs.lemmas.List.Elements.{All-append}
use Rattle.hc_net.specs.Circuit.{Circuit}
use Rattle.hc_net.specs.Made.{Over, argument, Makes}
use Rattle.hc_net.specs.MadeLemmas.{Over-left, Over-over, Makes-then, Makes-last, Makes-holds}
use Rattle.hc_token.proofs.Parts.{Over-right, All-two, Makes-over, bits_more}

-- one bit more of those that are 1 where one of two is
pub either_more : (xs xs' ys ys' bits more : List ℕ) (i bit : ℕ) (old mid new : Circuit)
    → i < length xs → length ys ≡ length xs → xs' ≡ xs → ys' ≡ ys → more ≡ bits ++ bit ∷ []
    → Makes i (xs ++ ys) old mid bits (λ v. map v bits ≡ map (λ k. v (get_or xs k 0) || v (get_or ys k 0)) (range_with_len 0 i))
    → Makes 1 (get_or xs' i 0 ∷ get_or ys' i 0 ∷ []) mid new (bit ∷ []) (λ v. v bit ≡ (v (get_or xs' i 0) || v (get_or ys' i 0)))
    → Makes (i + 1) (xs ++ ys) old new more (λ v. map v more ≡ map (λ k. v (get_or xs k 0) || v (get_or ys k 0)) (range_with_len 0 (i + 1)))
either_more xs xs' ys ys' bits more i bit old mid new within same left right pushed made one =
    let here : All (Over mid.nodes (xs ++ ys)) (get_or xs i 0 ∷ get_or ys i 0 ∷ []) =
    All-two (Over mid.nodes (xs ++ ys)) (get_or xs i 0) (get_or ys i 0) (Over-left xs ys i 0 within) (Over-right xs ys i 0 (omega (arith, within, same))) in
    subst (λ (z : List ℕ). Makes (i + 1) (xs ++ ys) old new z (λ v. map v z ≡ map (λ k. v (get_or xs k 0) || v (get_or ys k 0)) (range_with_len 0 (i + 1)))) (sym pushed)
    (bits_more (λ v k. v (get_or xs k 0) || v (get_or ys k 0)) i (i + 1) made
    (subst (λ (l : List ℕ). Makes 1 (get_or xs i 0 ∷ get_or l i 0 ∷ []) mid new (bit ∷ []) (λ v. v bit ≡ (v (get_or xs i 0) || v (get_or l i 0)))) right
    (subst (λ (l : List ℕ). Makes 1 (get_or l i 0 ∷ get_or ys' i 0 ∷ []) mid new (bit ∷ []) (λ v. v bit ≡ (v (get_or l i 0) || v (get_or ys' i 0)))) left one))
    here
    (omega arith))

-- three gates: two that let one bit through each, and one that joins them
pub choose_made : (c n x y taken other z : ℕ) (old first second new : Circuit)
    → Makes 1 (c ∷ x ∷ []) old first (taken ∷ []) (λ v. v taken ≡ (v c && v x))
    → Makes 1 (n ∷ y ∷ []) first second (other ∷ []) (λ v. v other ≡ (v n && v y))
    → Makes 1 (taken ∷ other ∷ []) second new (z ∷ []) (λ v. v z ≡ (v taken || v other))
    → Makes 3 (c ∷ n ∷ x ∷ y ∷ []) old new (z ∷ []) (λ v. v z ≡ ((v c && v x) || (v n && v y)))
choose_made c n x y taken other z old first second new a b joined =
    let args = c ∷ n ∷ x ∷ y ∷ [] in
    let left = Makes-over a (All-two (Over old.nodes args) c x (argument c 0 (omega arith) refl) (argument x 2 (omega arith) refl)) in
    let both = Makes-then left b (All-two (Over first.nodes args) n y (argument n 1 (omega arith) refl) (argument y 3 (omega arith) refl)) in
    Makes-holds (Makes-last both joined both.reach) (omega arith)
    (λ v holds. holds.1 ∙ ap (λ p. p || v other) (holds.0.0) ∙ ap (λ p. (v c && v x) || p) (holds.0.1))

-- one bit more
pub chosen_more : (c n : ℕ) (xs xs' ys ys' bits more : List ℕ) (i bit : ℕ) (old mid new : Circuit)
    → i < length xs → length ys ≡ length xs → xs' ≡ xs → ys' ≡ ys → more ≡ bits ++ bit ∷ []
    → Makes (3 * i) (c ∷ n ∷ xs ++ ys) old mid bits (λ v. map v bits ≡ map (λ k. (v c && v (get_or xs k 0)) || (v n && v (get_or ys k 0))) (range_with_len 0 i))
    → Makes 3 (c ∷ n ∷ get_or xs' i 0 ∷ get_or ys' i 0 ∷ []) mid new (bit ∷ []) (λ v. v bit ≡ ((v c && v (get_or xs' i 0)) || (v n && v (get_or ys' i 0))))
    → Makes (3 * (i + 1)) (c ∷ n ∷ xs ++ ys) old new more (λ v. map v more ≡ map (λ k. (v c && v (get_or xs k 0)) || (v n && v (get_or ys k 0))) (range_with_len 0 (i + 1)))
chosen_more c n xs xs' ys ys' bits more i bit old mid new within same left right pushed made one =
    let args = c ∷ n ∷ xs ++ ys in
    let all : All (Over mid.nodes args) (xs ++ ys) = Over-right (c ∷ n ∷ []) (xs ++ ys) in
    let x = get_or xs i 0 in
    let y = get_or ys i 0 in
    let here : All (Over mid.nodes args) (c ∷ n ∷ x ∷ y ∷ []) =
    All-append (Over mid.nodes args) (c ∷ n ∷ []) (x ∷ y ∷ [])
    (All-two (Over mid.nodes args) c n (argument c 0 (omega arith) refl) (argument n 1 (omega arith) refl))
    (All-two (Over mid.nodes args) x y (Over-over all (Over-left xs ys i 0 within)) (Over-over all (Over-right xs ys i 0 (omega (arith, within, same))))) in
    subst (λ (z : List ℕ). Makes (3 * (i + 1)) (c ∷ n ∷ xs ++ ys) old new z (λ v. map v z ≡ map (λ k. (v c && v (get_or xs k 0)) || (v n && v (get_or ys k 0))) (range_with_len 0 (i + 1)))) (sym pushed)
    (bits_more (λ v k. (v c && v (get_or xs k 0)) || (v n && v (get_or ys k 0))) i (3 * (i + 1)) made
    (subst (λ (l : List ℕ). Makes 3 (c ∷ n ∷ get_or xs i 0 ∷ get_or l i 0 ∷ []) mid new (bit ∷ []) (λ v. v bit ≡ ((v c && v (get_or xs i 0)) || (v n && v (get_or l i 0))))) right
    (subst (λ (l : List ℕ). Makes 3 (c ∷ n ∷ get_or l i 0 ∷ get_or ys' i 0 ∷ []) mid new (bit ∷ []) (λ v. v bit ≡ ((v c && v (get_or l i 0)) || (v n && v (get_or ys' i 0))))) left one))
    here
    (omega arith))
