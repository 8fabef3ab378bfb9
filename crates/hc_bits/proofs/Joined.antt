-- Whether one bit of a list is set, by joining two at a time.
use Rattle.std.proofs.Common.{◌≡◌, ◌<◌, ℕ, zero, suc, ◌+◌, ◌*◌, List, [], ◌∷◌, ◌++◌, length, map, get_or, drop, Bool, true, false, not, ◌||◌, refl, ap, sym, ◌∙◌, subst, arith}
use Rattle.std.specs.Prelude.{All, ◌==◌}
use Rattle.std.proofs.lemmas.List.{map_push, get_or-map, length-map, drop_more, drop_all, drop-append-le}
use Rattle.std.proofs.lemmas.Bool.{ne_eqb}
use Rattle.hc_num.specs.Number.{Number}
use Rattle.hc_num.specs.Compare.{truth as one_bit}
use Rattle.hc_net.specs.Bits.{number}
use Rattle.hc_net.specs.Circuit.{Circuit}
use Rattle.hc_net.specs.Made.{Over, Makes}
use Rattle.hc_net.specs.MadeLemmas.{Over-self, Makes-none, Makes-then, Makes-holds, Makes-as}
use Rattle.hc_bits.specs.Held.{held}
use Rattle.hc_bits.proofs.Parts.{All-one, All-two}

-- one of the bits is set
abbrev pub any : List Bool → Bool
any [] = false
any (b ∷ bits) = b || any bits

or_assoc : (a b c : Bool) → ((a || b) || c) ≡ (a || (b || c))
or_assoc true b c = refl
or_assoc false b c = refl

or_comm : (a b : Bool) → (a || b) ≡ (b || a)
or_comm true true = refl
or_comm true false = refl
or_comm false true = refl
or_comm false false = refl

pub any_push : (bits : List Bool) (b : Bool) → any (bits ++ b ∷ []) ≡ (b || any bits)
any_push [] b = refl
any_push (a ∷ bits) b = ap (λ c. a || c) (any_push bits b) ∙ or_comm a (b || any bits) ∙ or_assoc b (any bits) a ∙ ap (λ c. b || c) (or_comm (any bits) a)

-- two bits of the front go, and what they give together comes to the end
any_joined : (l : List Bool) (k : ℕ) (d z : Bool) → k + 1 < length l → z ≡ (get_or l k d || get_or l (k + 1) d)
    → any (drop (k + 2) (l ++ z ∷ [])) ≡ any (drop k l)
any_joined l k d z within is =
    let a = get_or l k d in
    let b = get_or l (k + 1) d in
    let rest = drop (k + 2) l in
    let next : k + 1 + 1 ≡ k + 2 = omega arith in
    let one : drop k l ≡ a ∷ drop (k + 1) l = drop_more l k d (omega arith) in
    let two : drop (k + 1) l ≡ b ∷ rest = drop_more l (k + 1) d within ∙ ap (λ n. b ∷ drop n l) next in
    let whole : any (drop k l) ≡ (a || (b || any rest)) = ap any one ∙ ap (λ m. a || any m) two in
    ap any (drop-append-le (k + 2) l (z ∷ []) (omega arith)) ∙ any_push rest z ∙ ap (λ c. c || any rest) is ∙ or_assoc a b (any rest) ∙ sym whole

-- whether a number isn't 0
pub any_number : (bits : List Bool) → any bits ≡ not (number bits == 0)
any_number [] = refl
any_number (true ∷ bits) = sym (ap not (ne_eqb (1 + 2 * number bits) 0 (λ e. omega (arith, e))))
any_number (false ∷ bits) = any_number bits ∙ ap not (doubled (number bits))
  where
    doubled : (n : ℕ) → (n == 0) ≡ (0 + 2 * n == 0)
    doubled zero = refl
    doubled (suc n) = ne_eqb (suc n) 0 (λ e. omega (arith, e)) ∙ sym (ne_eqb (0 + 2 * suc n) 0 (λ e. omega (arith, e)))

-- ---- the tree

pub joined_none : (c : Circuit) (xs nets : List ℕ) → All (λ k. k < length c.nodes) xs → nets ≡ xs
    → Makes 0 xs c c nets (λ v. any (drop (2 * 0) (map v nets)) ≡ any (map v xs))
joined_none c xs nets there is =
    subst (λ (z : List ℕ). Makes 0 xs c c z (λ v. any (drop (2 * 0) (map v z)) ≡ any (map v xs))) (sym is)
    (Makes-holds (Makes-none c xs xs there (Over-self xs)) (omega arith) (λ v none. refl))

pub joined_more : (xs nets ns ms more : List ℕ) (i net : ℕ) (old mid new : Circuit)
    → 2 * i + 1 < length nets → ns ≡ nets → ms ≡ nets → more ≡ nets ++ net ∷ []
    → Makes i xs old mid nets (λ v. any (drop (2 * i) (map v nets)) ≡ any (map v xs))
    → Makes 1 (get_or ns (2 * i) 0 ∷ get_or ms (2 * i + 1) 0 ∷ []) mid new (net ∷ []) (λ v. v net ≡ (v (get_or ns (2 * i) 0) || v (get_or ms (2 * i + 1) 0)))
    → Makes (i + 1) xs old new more (λ v. any (drop (2 * (i + 1)) (map v more)) ≡ any (map v xs))
joined_more xs nets ns ms more i net old mid new within first second pushed made one =
    let gate = subst (λ (l : List ℕ). Makes 1 (get_or nets (2 * i) 0 ∷ get_or l (2 * i + 1) 0 ∷ []) mid new (net ∷ []) (λ v. v net ≡ (v (get_or nets (2 * i) 0) || v (get_or l (2 * i + 1) 0)))) second
    (subst (λ (l : List ℕ). Makes 1 (get_or l (2 * i) 0 ∷ get_or ms (2 * i + 1) 0 ∷ []) mid new (net ∷ []) (λ v. v net ≡ (v (get_or l (2 * i) 0) || v (get_or ms (2 * i + 1) 0)))) first one) in
    let over = All-two (Over mid.nodes xs) (get_or nets (2 * i) 0) (get_or nets (2 * i + 1) 0) (made.reach (2 * i) 0 (omega arith)) (made.reach (2 * i + 1) 0 within) in
    let next : 2 * (i + 1) ≡ 2 * i + 2 = omega arith in
    subst (λ (z : List ℕ). Makes (i + 1) xs old new z (λ v. any (drop (2 * (i + 1)) (map v z)) ≡ any (map v xs))) (sym pushed)
    (Makes-holds (Makes-then made gate over) (omega arith)
    (λ v both. ap (λ l. any (drop (2 * (i + 1)) l)) (map_push v nets net)
    ∙ ap (λ n. any (drop n (map v nets ++ v net ∷ []))) next
    ∙ any_joined (map v nets) (2 * i) (v 0) (v net) (omega (arith, within, length-map nets v))
    (both.1 ∙ ap (λ a. a || v (get_or nets (2 * i + 1) 0)) (sym (get_or-map v nets (2 * i) 0 (v 0) (omega arith)))
    ∙ ap (λ a. get_or (map v nets) (2 * i) (v 0) || a) (sym (get_or-map v nets (2 * i + 1) 0 (v 0) within)))
    ∙ both.0))

last_bit : (v : ℕ → Bool) (nets : List ℕ) (k : ℕ) → length nets ≡ k + 1 → any (drop k (map v nets)) ≡ v (get_or nets k 0)
last_bit v nets k size =
    let width = length-map nets v in
    let one : drop k (map v nets) ≡ get_or (map v nets) k (v 0) ∷ drop (k + 1) (map v nets) = drop_more (map v nets) k (v 0) (omega arith) in
    let none : drop (k + 1) (map v nets) ≡ [] = drop_all (k + 1) (map v nets) (omega arith) in
    ap any one ∙ ap (λ l. get_or (map v nets) k (v 0) || any l) none ∙ or_comm (get_or (map v nets) k (v 0)) false ∙ get_or-map v nets k 0 (v 0) (omega arith)

one_bit_of : (v : ℕ → Bool) (net : ℕ) (answer : Bool) → v net ≡ answer → held false v (net ∷ []) ≡ one_bit answer
one_bit_of v net answer is = ap (λ b. one b) is ∙ bit answer
  where
    one : Bool → Number
    one b = record { width = 1; signed = false; bits = number (b ∷ []) }

    bit : (b : Bool) → one b ≡ one_bit b
    bit true = refl
    bit false = refl

pub joined_all : (xs nets ns z : List ℕ) (i k : ℕ) (old new : Circuit)
    → length nets ≡ length xs + i → i + 1 ≡ length xs → ns ≡ nets → k ≡ 2 * i → z ≡ get_or ns k 0 ∷ []
    → Makes i xs old new nets (λ v. any (drop (2 * i) (map v nets)) ≡ any (map v xs))
    → Makes (length xs) xs old new z (λ v. (s : Bool) → held false v z ≡ one_bit (not ((held s v xs).bits == 0)))
joined_all xs nets ns z i k old new size end same at is made =
    let last = get_or nets (2 * i) 0 in
    let alone : z ≡ last ∷ [] = is ∙ ap (λ l. get_or l k 0 ∷ []) same ∙ ap (λ n. get_or nets n 0 ∷ []) at in
    subst (λ (l : List ℕ). Makes (length xs) xs old new l (λ v. (s : Bool) → held false v l ≡ one_bit (not ((held s v xs).bits == 0)))) (sym alone)
    (Makes-as made (omega arith)
    (All-one (λ k. k < length new.nodes) last (made.there (2 * i) 0 (omega arith)))
    (All-one (Over new.nodes xs) last (made.reach (2 * i) 0 (omega arith)))
    (λ v joined s. one_bit_of v last (not (number (map v xs) == 0)) (sym (last_bit v nets (2 * i) (omega arith)) ∙ joined ∙ any_number (map v xs))))
