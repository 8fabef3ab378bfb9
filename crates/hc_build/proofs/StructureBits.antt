-- Numbers and their bits on nets.
use Rattle.std.proofs.Common.{◌≡◌, ◌<◌, ◌≤◌, ℕ, zero, suc, ◌+◌, ◌*◌, ◌/◌, ◌%◌, ◌^◌, List, [], ◌∷◌, length, map, get_or, Bool, true, false, refl, sym, ap, ◌∙◌, arith, add-one}
use Rattle.std.specs.Prelude.{◌==◌, slice_index, All, drop, if◌then◌else◌}
use Rattle.std.specs.List.{range_with_len}
use Rattle.std.proofs.lemmas.Nat.{mod-pow-add, shr-shr, mod_below}
use Rattle.std.proofs.Math.Nat.{mod-eq_of_lt, add-mul-mod_self_left, div-one, mod-one, one-le-pow}
use Rattle.std.proofs.lemmas.List.{ext_get_or, get_or-map, length-map, get_or-take, get_or-drop, length-take-le, length-drop}
use Rattle.std.proofs.lemmas.List.Elements.{All-head, All-tail}
use Rattle.std.proofs.lemmas.List.FromFn.{fill_by_all}
use Rattle.hc_num.specs.Number.{Number}
use Rattle.hc_core.specs.Sound.{HasType}
use Rattle.hc_meaning.specs.Value.{padded, bits_of}
use Rattle.hc_net.specs.Bits.{bit, number}
use Rattle.hc_bits.specs.Elements.{element_nets}

-- ---- the number of bits

of_test : (m : ℕ) → m < 2 → (if m == 1 then 1 else 0) ≡ m
of_test zero h = refl
of_test (suc zero) h = refl
of_test (suc (suc m)) h = absurd (omega arith)

one_bit : (n i : ℕ) → (if bit n i then 1 else 0) ≡ (n / 2 ^ i) % 2
one_bit n i = of_test ((n / 2 ^ i) % 2) (mod_below (n / 2 ^ i) 2 (omega arith))

halves : (m k : ℕ) → m % 2 ^ suc k ≡ m % 2 + 2 * (m / 2 % 2 ^ k)
halves m k =
    let e = mod-pow-add m k 1 in
    let one : k + 1 ≡ suc k = add-one k in
    rw one at e ∙ (let f : (m / 2 % 2 ^ k) * 2 + m % 2 ≡ m % 2 + 2 * (m / 2 % 2 ^ k) = omega arith in f)

number-bits_from : (n i w : ℕ) → number (map (bit n) (range_with_len i w)) ≡ (n / 2 ^ i) % 2 ^ w
number-bits_from n i zero = sym (mod-one (n / 2 ^ i))
number-bits_from n i (suc w) =
    let first = one_bit n i in
    let rest = number-bits_from n (i + 1) w in
    let down : n / 2 ^ (i + 1) ≡ n / 2 ^ i / 2 = sym (shr-shr n i 1) in
    ap (λ r. (if bit n i then 1 else 0) + 2 * r) (rest ∙ ap (λ m. m % 2 ^ w) down)
    ∙ ap (λ f. f + 2 * (n / 2 ^ i / 2 % 2 ^ w)) first
    ∙ sym (halves (n / 2 ^ i) w)

-- the bits of a number make it up
pub number-bits : (n w : ℕ) → n < 2 ^ w → number (map (bit n) (range_with_len 0 w)) ≡ n
number-bits n w h = number-bits_from n 0 w ∙ ap (λ m. m % 2 ^ w) (div-one n) ∙ mod-eq_of_lt h

-- and a number's bits are those that make it up
odd : (b : Bool) → ((if b then 1 else 0) % 2 == 1) ≡ b
odd true = refl
odd false = refl

half_of : (b : Bool) (n : ℕ) → ((if b then 1 else 0) + 2 * n) / 2 ≡ n
half_of true n = omega arith
half_of false n = omega arith

first_bit : (b : Bool) (n : ℕ) → bit ((if b then 1 else 0) + 2 * n) 0 ≡ b
first_bit b n =
    ap (λ m. m % 2 == 1) (div-one ((if b then 1 else 0) + 2 * n))
    ∙ ap (λ m. m == 1) (add-mul-mod_self_left (if b then 1 else 0) 2 n)
    ∙ odd b

next_bit : (b : Bool) (n i : ℕ) → bit ((if b then 1 else 0) + 2 * n) (suc i) ≡ bit n i
next_bit b n i =
    let m : ℕ = (if b then 1 else 0) + 2 * n in
    let down : m / 2 ^ suc i ≡ m / 2 / 2 ^ i = ap (λ k. m / 2 ^ k) (let e : suc i ≡ 1 + i = omega arith in e) ∙ sym (shr-shr m 1 i) in
    ap (λ k. k % 2 == 1) (down ∙ ap (λ k. k / 2 ^ i) (half_of b n))

pub bit-number : (bits : List Bool) (i : ℕ) → i < length bits → bit (number bits) i ≡ get_or bits i false
bit-number [] i h = absurd (omega arith)
bit-number (b ∷ bits) zero h = first_bit b (number bits)
bit-number (b ∷ bits) (suc i) h = next_bit b (number bits) i ∙ bit-number bits i (omega arith)

-- ---- first numbers are below their widths

padded_below : (n top : ℕ) (given : List ℕ) (e : ℕ) → 0 < top → All (λ b. b < top) given → slice_index (padded n given) e < top
padded_below zero top given e some all = some
padded_below (suc n) top [] zero some all = some
padded_below (suc n) top [] (suc e) some all = padded_below n top [] e some all
padded_below (suc n) top (bits ∷ given) zero some all = All-head (λ b. b < top) bits given all
padded_below (suc n) top (bits ∷ given) (suc e) some all = padded_below n top given e some (All-tail (λ b. b < top) bits given all)

pub bits_below : (w : ℕ) (s : Bool) (n : Number) → HasType w s n → n.bits < 2 ^ w
bits_below w s n is = let fits = is.number.fits in rw (← is.width) fits

all_below : (w : ℕ) (s : Bool) (numbers : List Number) → All (HasType w s) numbers → All (λ b. b < 2 ^ w) (bits_of numbers)
all_below w s [] all i d inside = absurd (omega arith)
all_below w s (n ∷ numbers) all zero d inside = bits_below w s n (All-head (HasType w s) n numbers all)
all_below w s (n ∷ numbers) all (suc i) d inside = all_below w s numbers (All-tail (HasType w s) n numbers all) i d (omega arith)

pub array_below : (w : ℕ) (s : Bool) (n : ℕ) (init : List Number) (e : ℕ) → All (HasType w s) init → slice_index (padded n (bits_of init)) e < 2 ^ w
array_below w s n init e all = padded_below n (2 ^ w) (bits_of init) e (let some : 1 ≤ 2 ^ w = one-le-pow w 2 (omega arith) in omega arith) (all_below w s init all)

-- ---- bits on nets

-- two lists of nets that are alike, place by place
pub same_maps : (f g : ℕ → Bool) (xs ys : List ℕ) → length xs ≡ length ys → ((i : ℕ) → i < length xs → f (slice_index xs i) ≡ g (slice_index ys i)) → map f xs ≡ map g ys
same_maps f g xs ys size same =
    let long = length-map xs f in
    ext_get_or false (map f xs) (map g ys) (long ∙ size ∙ sym (length-map ys g)) (λ i low.
    let inside : i < length xs = omega arith in
    let there : i < length ys = omega arith in
    get_or-map f xs i 0 false inside ∙ same i inside ∙ sym (get_or-map g ys i 0 false there))

pub same_bits : (f g : ℕ → Bool) (xs : List ℕ) (w : ℕ) → length xs ≡ w → ((i : ℕ) → i < w → f (slice_index xs i) ≡ g i) → map f xs ≡ map g (range_with_len 0 w)
same_bits f g xs w size same = fill_by_all g (map f xs) w false (length-map xs f ∙ size) (λ i low. get_or-map f xs i 0 false (omega arith) ∙ same i low)

-- the nets of an element are nets of the object
pub element_net : (w : ℕ) (nets : List ℕ) (e i : ℕ) → i < w → slice_index (element_nets w nets e) i ≡ slice_index nets (e * w + i)
element_net w nets e i low = get_or-take w (drop (e * w) nets) i 0 low ∙ get_or-drop (e * w) nets i 0

pub element_size : (n w : ℕ) (nets : List ℕ) (e : ℕ) → length nets ≡ n * w → e < n → length (element_nets w nets e) ≡ w
element_size n w nets e size inside =
    let rest = length-drop (e * w) nets in
    let fits : e * w + w ≤ n * w = within n e inside in
    length-take-le w (drop (e * w) nets) (omega arith)
  where
    within : (n e : ℕ) → e < n → e * w + w ≤ n * w
    within zero e lower = absurd (omega arith)
    within (suc n) zero lower = let product : suc n * w ≡ w + n * w = omega arith in let none : 0 * w ≡ 0 = omega arith in omega arith
    within (suc n) (suc e) lower =
        let rest = within n e (omega arith) in
        let product : suc n * w ≡ w + n * w = omega arith in
        let other : suc e * w ≡ w + e * w = omega arith in
        omega arith
