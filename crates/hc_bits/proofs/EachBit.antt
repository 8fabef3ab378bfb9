-- Circuits that are made a bit at a time: bit i of their nets is a function of i.
use Rattle.std.proofs.Common.{◌≡◌, ◌≤◌, ℕ, ◌+◌, List, [], ◌∷◌, ◌++◌, length, map, get_or, Bool, refl, ap, sym, ◌∙◌, arith}
use Rattle.std.specs.Prelude.{All}
use Rattle.std.specs.List.{range_with_len}
use Rattle.std.proofs.lemmas.List.{map_push, get_or-map, length-map}
use Rattle.std.proofs.lemmas.List.FromFn.{map-range_with_len_more, fill_by_all}
use Rattle.hc_net.specs.Circuit.{Circuit}
use Rattle.hc_net.specs.Made.{Over, Makes}
use Rattle.hc_net.specs.MadeLemmas.{Makes-then, Makes-holds}

-- one bit more
pub bits_more : {m n : ℕ} {args few nets : List ℕ} {net : ℕ} {old mid new : Circuit} (bit : (ℕ → Bool) → ℕ → Bool) (i k : ℕ)
    → Makes m args old mid nets (λ v. map v nets ≡ map (bit v) (range_with_len 0 i))
    → Makes n few mid new (net ∷ []) (λ v. v net ≡ bit v i)
    → All (Over mid.nodes args) few → m + n ≤ k
    → Makes k args old new (nets ++ net ∷ []) (λ v. map v (nets ++ net ∷ []) ≡ map (bit v) (range_with_len 0 (i + 1)))
bits_more {nets = nets} {net = net} bit i k made one over most =
    Makes-holds (Makes-then made one over) most
    (λ v both. map_push v nets net ∙ ap (λ l. l ++ v net ∷ []) (both.0) ∙ ap (λ b. map (bit v) (range_with_len 0 i) ++ b ∷ []) (both.1) ∙ sym (map-range_with_len_more (bit v) 0 i i (omega arith)))

-- the bits of nets, each by its index
pub bits_of : (v : ℕ → Bool) (nets : List ℕ) → map v nets ≡ map (λ i. v (get_or nets i 0)) (range_with_len 0 (length nets))
bits_of v nets = fill_by_all (λ i. v (get_or nets i 0)) (map v nets) (length nets) (v 0) (length-map nets v) (λ k within. get_or-map v nets k 0 (v 0) within)

-- equal bits of each number give equal lists
pub map_same : (f g : ℕ → Bool) → ((i : ℕ) → f i ≡ g i) → (xs : List ℕ) → map f xs ≡ map g xs
map_same f g same [] = refl
map_same f g same (x ∷ xs) = let head = same x in let tail = map_same f g same xs in cc
