-- The words of an object at the start, and one of them written.
use Rattle.std.proofs.Common.{◌≡◌, ◌<◌, ◌≤◌, ℕ, zero, suc, ◌+◌, List, [], ◌∷◌, ◌++◌, length, take, set, get_or, refl, ap, sym, ◌∙◌, arith}
use Rattle.std.specs.Prelude.{map}
use Rattle.std.proofs.lemmas.List.{take_more, take_all, map-set, get_or-map, get_or_past, length-map, set_past, map_push, map_more}
use Rattle.hc_num.specs.Number.{Number}
use Rattle.hc_core.specs.Typed.{kinds_of}
use Rattle.hc_core.specs.declared.object.Object.{Object}
use Rattle.hc_meaning.specs.Value.{bits_of, padded, first_words, initial}

pub length_padded : (n : ℕ) (xs : List ℕ) → length (padded n xs) ≡ n
length_padded zero xs = refl
length_padded (suc n) [] = let h = length_padded n [] in omega arith
length_padded (suc n) (x ∷ xs) = let h = length_padded n xs in omega arith

padded_at : (n : ℕ) (xs : List ℕ) (k : ℕ) → k < n → get_or (padded n xs) k 0 ≡ get_or xs k 0
padded_at zero xs k h = absurd (omega arith)
padded_at (suc n) [] zero h = refl
padded_at (suc n) [] (suc k) h = padded_at n [] k (omega arith)
padded_at (suc n) (x ∷ xs) zero h = refl
padded_at (suc n) (x ∷ xs) (suc k) h = padded_at n xs k (omega arith)

-- one number more
pub one_more_padded : (n : ℕ) (xs found : List ℕ) (k bits : ℕ) → k < n → found ≡ take k (padded n xs) → bits ≡ get_or xs k 0
    → found ++ bits ∷ [] ≡ take (k + 1) (padded n xs)
one_more_padded n xs found k bits h e b =
    let size = length_padded n xs in
    rw (take_more (padded n xs) k 0 (omega arith), padded_at n xs k h, e, b) refl

pub all_padded : (n : ℕ) (xs found : List ℕ) → found ≡ take n (padded n xs) → found ≡ padded n xs
all_padded n xs found e = let size = length_padded n xs in e ∙ take_all n (padded n xs) (omega arith)

-- the bits of a number at its place, and behind the last
pub bits_at_place : (numbers : List Number) (k : ℕ) (n : Number) → k < length numbers → n ≡ get_or numbers k n → n.bits ≡ get_or (bits_of numbers) k 0
bits_at_place numbers k n h e = ap (λ m. m.bits) e ∙ sym (get_or-map (λ m. m.bits) numbers k n 0 h)

pub no_bits_behind : (numbers : List Number) (k : ℕ) → length numbers ≤ k → 0 ≡ get_or (bits_of numbers) k 0
no_bits_behind numbers k h = sym (get_or_past (bits_of numbers) k 0 (rw (length-map numbers (λ m. m.bits)) h))

-- one number of one object written
pub put_item : {V : Type 0} (items : V → List ℕ) (vs : List V) (k i bits : ℕ) (v w : V) → k < length vs → v ≡ get_or vs k v → items w ≡ set (items v) i bits
    → map items (set vs k w) ≡ set (map items vs) k (set (get_or (map items vs) k []) i bits)
put_item items vs k i bits v w h is new =
    map-set items vs k w ∙ ap (set (map items vs) k) (new ∙ ap (λ x. set x i bits) (ap items is ∙ sym (get_or-map items vs k v [] h)))

pub put_outside : {V : Type 0} (items : V → List ℕ) (vs : List V) (k i bits : ℕ) → length vs ≤ k
    → map items vs ≡ set (map items vs) k (set (get_or (map items vs) k []) i bits)
put_outside items vs k i bits h = sym (set_past (map items vs) k (set (get_or (map items vs) k []) i bits) (rw (length-map vs items) h))

-- what one object more holds at the start
pub one_more_object : {V : Type 0} (items : V → List ℕ) (objects : List Object) (found : List V) (k : ℕ) (o : Object) (v : V) → k < length objects → o ≡ get_or objects k o
    → items v ≡ first_words o.kind → map items found ≡ initial (kinds_of (take k objects)) → map items (found ++ v ∷ []) ≡ initial (kinds_of (take (k + 1) objects))
one_more_object items objects found k o v h is new e =
    map_push items found v
    ∙ ap (λ l. l ++ items v ∷ []) e
    ∙ ap (λ w. initial (kinds_of (take k objects)) ++ w ∷ []) (new ∙ ap (λ (x : Object). first_words x.kind) is)
    ∙ sym (map_push first_words (kinds_of (take k objects)) (get_or objects k o).kind)
    ∙ ap initial (sym (map_more (λ (x : Object). x.kind) objects k o h))

pub all_objects : {V : Type 0} (items : V → List ℕ) (objects : List Object) (found : List V) (k : ℕ) → length objects ≤ k → map items found ≡ initial (kinds_of (take k objects))
    → map items found ≡ initial (kinds_of objects)
all_objects items objects found k h e = e ∙ ap (λ l. initial (kinds_of l)) (take_all k objects h)
