-- Lists of bits as numbers: parts of a list, and bits that are moved.
use Rattle.std.proofs.Common.{◌≡◌, ◌<◌, ◌≤◌, ℕ, zero, suc, ◌+◌, ◌-◌, ◌*◌, ◌/◌, ◌%◌, ◌^◌, List, [], ◌∷◌, ◌++◌, length, map, get_or, take, drop, reverse, replicate, Bool, true, false, refl, ap, sym, ◌∙◌, subst, arith, inl, inr, ◌⊎◌, length-append}
use Rattle.std.specs.Prelude.{nat_le, if◌then◌else◌, ◌==◌}
use Rattle.std.specs.List.{range_with_len}
use Rattle.std.proofs.lemmas.List.{length-map, length-take-le, length-drop, length-replicate, length-reverse, take-append-drop, take_more, take_all, drop_all, get_or-map, get_or-reverse, get_or-drop, get_or-take, get_or-replicate, get_or_append_left, get_or-append_right, get_or_past, get_or_default, same_lists}
use Rattle.std.proofs.lemmas.List.FromFn.{fill_by_all, get_or-map-range_with_len, length-map-range_with_len}
use Rattle.std.proofs.lemmas.Bool.{cases_lt, cases_eq, eq-eqb, ne_eqb, le-leb, lt-leb}
use Rattle.std.proofs.lemmas.Nat.{pow-add}
use Rattle.std.proofs.Math.Nat.{pow-suc, pow-succ', div-one, zero-div, div-div-eq-div-mul, mod-eq_of_lt, add-mul-mod_self_left, pow-le-pow_right, le-mul_of_pos_right}
use Rattle.hc_net.specs.Bits.{number}
use Rattle.hc_bits.specs.Moved.{moved}
use Rattle.hc_bits.proofs.Bitwise.{digit}
use Rattle.hc_bits.proofs.Carries.{number_below}
use Rattle.hc_bits.proofs.EachBit.{map_same}

-- ---- parts

pub number-append : (xs ys : List Bool) → number (xs ++ ys) ≡ number xs + 2 ^ length xs * number ys
number-append [] ys = omega arith
number-append (b ∷ xs) ys =
    let ih = number-append xs ys in
    let twice : 2 ^ suc (length xs) ≡ 2 ^ length xs * 2 = pow-suc 2 (length xs) in
    rw (ih, twice) (omega arith)

number-zeros : (m : ℕ) → number (replicate m false) ≡ 0
number-zeros zero = refl
number-zeros (suc m) = let ih = number-zeros m in omega (arith, ih)

number-ones : (m : ℕ) → number (replicate m true) + 1 ≡ 2 ^ m
number-ones zero = refl
number-ones (suc m) = let ih = number-ones m in let twice = pow-suc 2 m in omega (arith, ih, twice)

-- the bits from place n on
pub number-drop : (n : ℕ) (xs : List Bool) → number (drop n xs) ≡ number xs / 2 ^ n
number-drop zero xs = sym (div-one (number xs))
number-drop (suc n) [] = sym (zero-div (2 ^ suc n))
number-drop (suc n) (b ∷ xs) =
    let half : (digit b + 2 * number xs) / 2 ≡ number xs = halved b (number xs) in
    number-drop n xs ∙ ap (λ m. m / 2 ^ n) (sym half) ∙ div-div-eq-div-mul (digit b + 2 * number xs) 2 (2 ^ n) ∙ ap (λ m. (digit b + 2 * number xs) / m) (sym (pow-succ' 2 n))
  where
    halved : (b : Bool) (m : ℕ) → (digit b + 2 * m) / 2 ≡ m
    halved true m = omega arith
    halved false m = omega arith

-- the bits below place n
number-take : (n : ℕ) (xs : List Bool) → number (take n xs) ≡ number xs % 2 ^ n
number-take n xs = elim (cases_lt (length xs) n) [
  | inl short ↦
      let p : 2 ^ length xs ≤ 2 ^ n = pow-le-pow_right {n = 2} (omega arith) (omega arith) in
      let below = number_below xs in
      ap number (take_all n xs (omega arith)) ∙ sym (mod-eq_of_lt (omega arith))
  | inr long ↦
      let size : length (take n xs) ≡ n = length-take-le n xs long in
      let whole : number xs ≡ number (take n xs) + 2 ^ n * number (drop n xs) =
      ap number (sym (take-append-drop n xs)) ∙ number-append (take n xs) (drop n xs) ∙ ap (λ m. number (take n xs) + 2 ^ m * number (drop n xs)) size in
      let below : number (take n xs) < 2 ^ n = subst (λ (m : ℕ). number (take n xs) < 2 ^ m) size (number_below (take n xs)) in
      sym (ap (λ m. m % 2 ^ n) whole ∙ add-mul-mod_self_left (number (take n xs)) (2 ^ n) (number (drop n xs)) ∙ mod-eq_of_lt below)
]

-- one bit more
pub amount_more : (ys : List Bool) (k : ℕ) (d : Bool) → k < length ys → number (take (k + 1) ys) ≡ (if get_or ys k d then 2 ^ k else 0) + number (take k ys)
amount_more ys k d within =
    let size : length (take k ys) ≡ k = length-take-le k ys (omega arith) in
    let e : number (take (k + 1) ys) ≡ number (take k ys) + 2 ^ k * number (get_or ys k d ∷ []) =
    ap number (take_more ys k d within) ∙ number-append (take k ys) (get_or ys k d ∷ []) ∙ ap (λ m. number (take k ys) + 2 ^ m * number (get_or ys k d ∷ [])) size in
    e ∙ one (get_or ys k d)
  where
    one : (b : Bool) → number (take k ys) + 2 ^ k * number (b ∷ []) ≡ (if b then 2 ^ k else 0) + number (take k ys)
    one true = omega arith
    one false = omega arith

pub amount_all : (ys : List Bool) (k : ℕ) → k ≤ length ys → number ys ≡ number (take k ys) + 2 ^ k * number (drop k ys)
amount_all ys k low =
    ap number (sym (take-append-drop k ys)) ∙ number-append (take k ys) (drop k ys) ∙ ap (λ m. number (take k ys) + 2 ^ m * number (drop k ys)) (length-take-le k ys low)

-- the highest bit tells whether a number is in the upper half
pub top_bit : (xs : List Bool) (k : ℕ) (d : Bool) → k + 1 ≡ length xs → nat_le (2 ^ k) (number xs) ≡ get_or xs k d
top_bit xs k d size =
    let below : number (take k xs) < 2 ^ k = subst (λ (m : ℕ). number (take k xs) < 2 ^ m) (length-take-le k xs (omega arith)) (number_below (take k xs)) in
    let whole : number xs ≡ (if get_or xs k d then 2 ^ k else 0) + number (take k xs) = ap number (sym (take_all (k + 1) xs (omega arith))) ∙ amount_more xs k d (omega arith) in
    ap (λ n. nat_le (2 ^ k) n) whole ∙ one (get_or xs k d) (number (take k xs)) below
  where
    one : (b : Bool) (low : ℕ) → low < 2 ^ k → nat_le (2 ^ k) ((if b then 2 ^ k else 0) + low) ≡ b
    one true low below = le-leb (2 ^ k) (2 ^ k + low) (omega arith)
    one false low below = lt-leb (2 ^ k) (0 + low) (omega arith)

-- ---- bits that are moved

pub length-moved : (n : ℕ) (fill : Bool) (xs : List Bool) → length (moved n fill xs) ≡ length xs
length-moved n fill xs = length-map-range_with_len (λ i. get_or xs (i + n) fill) 0 (length xs)

pub get_or-moved : (n k : ℕ) (fill d : Bool) (xs : List Bool) → k < length xs → get_or (moved n fill xs) k d ≡ get_or xs (k + n) fill
get_or-moved n k fill d xs within = get_or-map-range_with_len (λ i. get_or xs (i + n) fill) 0 (length xs) k k d within (omega arith)

-- also above the highest bit
moved_at : (n k : ℕ) (fill : Bool) (xs : List Bool) → get_or (moved n fill xs) k fill ≡ get_or xs (k + n) fill
moved_at n k fill xs = elim (cases_lt k (length xs)) [
  | inl low ↦ get_or-moved n k fill fill xs low
  | inr high ↦ get_or_past (moved n fill xs) k fill (omega (arith, high, length-moved n fill xs)) ∙ sym (get_or_past xs (k + n) fill (omega arith))
]

pub moved_none : (fill : Bool) (xs : List Bool) → moved 0 fill xs ≡ xs
moved_none fill xs =
    sym (fill_by_all (λ i. get_or xs (i + 0) fill) xs (length xs) fill refl (λ k within. let e : k ≡ k + 0 = omega arith in ap (λ i. get_or xs i fill) e))

-- two moves are one by the sum
pub moved-moved : (m n : ℕ) (fill : Bool) (xs : List Bool) → moved m fill (moved n fill xs) ≡ moved (m + n) fill xs
moved-moved m n fill xs =
    ap (λ w. map (λ i. get_or (moved n fill xs) (i + m) fill) (range_with_len 0 w)) (length-moved n fill xs)
    ∙ map_same (λ i. get_or (moved n fill xs) (i + m) fill) (λ i. get_or xs (i + (m + n)) fill)
    (λ i. let e : i + m + n ≡ i + (m + n) = omega arith in moved_at n (i + m) fill xs ∙ ap (λ k. get_or xs k fill) e) (range_with_len 0 (length xs))

-- from the width on all moves are alike
pub moved_past : (m n : ℕ) (fill : Bool) (xs : List Bool) → length xs ≤ m → length xs ≤ n → moved m fill xs ≡ moved n fill xs
moved_past m n fill xs first second =
    map_same (λ i. get_or xs (i + m) fill) (λ i. get_or xs (i + n) fill)
    (λ i. get_or_past xs (i + m) fill (omega arith) ∙ sym (get_or_past xs (i + n) fill (omega arith))) (range_with_len 0 (length xs))

-- a move by each bit of an amount below place k, and by the width where a higher bit is set, is one by the amount
pub moved_whole : (ys xs : List Bool) (k : ℕ) (fill : Bool) → k ≤ length ys → (length ys ≤ k) ⊎ (length xs ≤ 2 ^ k)
    → moved (if number (drop k ys) == 0 then 0 else length xs) fill (moved (number (take k ys)) fill xs) ≡ moved (number ys) fill xs
moved_whole ys xs k fill low ends =
    let whole = amount_all ys k low in
    let high = number (drop k ys) in
    moved-moved (if high == 0 then 0 else length xs) (number (take k ys)) fill xs
    ∙ elim (cases_eq high 0) [
      | inl none ↦
          let e : number (take k ys) ≡ number ys = sym (whole ∙ ap (λ h. number (take k ys) + 2 ^ k * h) none ∙ omega arith) in
          ap (λ c. moved ((if c then 0 else length xs) + number (take k ys)) fill xs) (eq-eqb high 0 none) ∙ ap (λ n. moved (0 + n) fill xs) e ∙ ap (λ n. moved n fill xs) (plain (number ys))
      | inr some ↦
          ap (λ c. moved ((if c then 0 else length xs) + number (take k ys)) fill xs) (ne_eqb high 0 some)
          ∙ moved_past (length xs + number (take k ys)) (number ys) fill xs (omega arith) (far whole some ends)
    ]
  where
    plain : (n : ℕ) → 0 + n ≡ n
    plain n = omega arith

    positive : (n : ℕ) → (n ≡ 0 → ⊥) → 0 < n
    positive zero some = absurd (some refl)
    positive (suc n) some = omega arith

    far : number ys ≡ number (take k ys) + 2 ^ k * number (drop k ys) → (number (drop k ys) ≡ 0 → ⊥) → (length ys ≤ k) ⊎ (length xs ≤ 2 ^ k) → length xs ≤ number ys
    far whole some (inl all) = absurd (some (ap number (drop_all k ys all)))
    far whole some (inr wide) =
        let h : 2 ^ k ≤ 2 ^ k * number (drop k ys) = le-mul_of_pos_right (2 ^ k) (positive (number (drop k ys)) some) in
        omega (arith, whole, wide, h)

-- ---- the numbers

-- what is left of the bits, and then what enters
moved_parts : (n : ℕ) (fill : Bool) (xs : List Bool) → drop n xs ++ replicate (length xs - (length xs - n)) fill ≡ moved n fill xs
moved_parts n fill xs =
    fill_by_all (λ i. get_or xs (i + n) fill) (drop n xs ++ replicate (length xs - (length xs - n)) fill) (length xs) fill
    (omega (arith, length-append (drop n xs) (replicate (length xs - (length xs - n)) fill), length-drop n xs, length-replicate (length xs - (length xs - n)) fill))
    (λ k within. elim (cases_lt k (length xs - n)) [
      | inl low ↦
          let e : n + k ≡ k + n = omega arith in
          get_or_append_left (drop n xs) (replicate (length xs - (length xs - n)) fill) fill k (omega (arith, low, length-drop n xs)) ∙ get_or-drop n xs k fill ∙ ap (λ i. get_or xs i fill) e
      | inr high ↦
          get_or-append_right (drop n xs) (replicate (length xs - (length xs - n)) fill) (length xs - n) k fill (length-drop n xs) high
          ∙ get_or-replicate (length xs - (length xs - n)) (k - (length xs - n)) fill fill (omega arith)
          ∙ sym (get_or_past xs (k + n) fill (omega arith))
    ])

pub number-moved : (n : ℕ) (fill : Bool) (xs : List Bool) → number (moved n fill xs) ≡ number xs / 2 ^ n + (if fill then 2 ^ length xs - 2 ^ (length xs - n) else 0)
number-moved n fill xs =
    let left = length xs - n in
    let more = length xs - left in
    ap number (sym (moved_parts n fill xs))
    ∙ number-append (drop n xs) (replicate more fill)
    ∙ ap (λ m. m + 2 ^ length (drop n xs) * number (replicate more fill)) (number-drop n xs)
    ∙ ap (λ w. number xs / 2 ^ n + 2 ^ w * number (replicate more fill)) (length-drop n xs)
    ∙ ap (λ m. number xs / 2 ^ n + m) (enters fill left more (omega arith))
  where
    enters : (fill : Bool) (left more : ℕ) → left + more ≡ length xs → 2 ^ left * number (replicate more fill) ≡ (if fill then 2 ^ length xs - 2 ^ left else 0)
    enters false left more size = ap (λ m. 2 ^ left * m) (number-zeros more) ∙ omega arith
    enters true left more size =
        let ones = number-ones more in
        let whole : 2 ^ length xs ≡ 2 ^ left * 2 ^ more = ap (λ m. 2 ^ m) (sym size) ∙ pow-add 2 left more in
        let product : 2 ^ left * 2 ^ more ≡ 2 ^ left * number (replicate more true) + 2 ^ left = ap (λ m. 2 ^ left * m) (sym ones) ∙ omega arith in
        omega (arith, whole, product)

-- a move in reverse order is one to the high end
turned_parts : (n : ℕ) (xs : List Bool) → reverse (moved n false (reverse xs)) ≡ take (length xs) (replicate n false ++ xs)
turned_parts n xs =
    same_lists (reverse (moved n false (reverse xs))) (take (length xs) (replicate n false ++ xs))
    (length-reverse (moved n false (reverse xs)) ∙ size ∙ sym (length-take-le (length xs) (replicate n false ++ xs) (omega (arith, length-append (replicate n false) xs))))
    (λ k d within.
    let low : k < length xs = omega (arith, within, length-reverse (moved n false (reverse xs)), size) in
    let at : length (moved n false (reverse xs)) - 1 - k ≡ length xs - 1 - k = omega (arith, size) in
    get_or-reverse (moved n false (reverse xs)) k d (omega (arith, low, size))
    ∙ ap (λ i. get_or (moved n false (reverse xs)) i d) at
    ∙ get_or-moved n (length xs - 1 - k) false d (reverse xs) (omega (arith, low, length-reverse xs))
    ∙ place k d low
    ∙ sym (get_or-take (length xs) (replicate n false ++ xs) k d low))
  where
    size : length (moved n false (reverse xs)) ≡ length xs
    size = length-moved n false (reverse xs) ∙ length-reverse xs

    place : (k : ℕ) (d : Bool) → k < length xs → get_or (reverse xs) (length xs - 1 - k + n) false ≡ get_or (replicate n false ++ xs) k d
    place k d low = elim (cases_lt k n) [
      | inl below ↦
          get_or_past (reverse xs) (length xs - 1 - k + n) false (omega (arith, low, below, length-reverse xs))
          ∙ sym (get_or_append_left (replicate n false) xs d k (omega (arith, below, length-replicate n false)) ∙ get_or-replicate n k false d below)
      | inr above ↦
          let at : length xs - 1 - (length xs - 1 - k + n) ≡ k - n = omega arith in
          get_or-reverse xs (length xs - 1 - k + n) false (omega arith)
          ∙ ap (λ i. get_or xs i false) at
          ∙ get_or_default xs (k - n) false d (omega arith)
          ∙ sym (get_or-append_right (replicate n false) xs n k d (length-replicate n false) above)
    ]

pub number-turned_move : (n : ℕ) (xs : List Bool) → number (reverse (moved n false (reverse xs))) ≡ number xs * 2 ^ n % 2 ^ length xs
number-turned_move n xs =
    ap number (turned_parts n xs)
    ∙ number-take (length xs) (replicate n false ++ xs)
    ∙ ap (λ m. m % 2 ^ length xs) (number-append (replicate n false) xs ∙ ap (λ m. m + 2 ^ length (replicate n false) * number xs) (number-zeros n) ∙ ap (λ w. 0 + 2 ^ w * number xs) (length-replicate n false) ∙ omega arith)

-- the bits of nets in reverse order
pub map-reverse : (v : ℕ → Bool) (xs : List ℕ) → map v (reverse xs) ≡ reverse (map v xs)
map-reverse v xs =
    same_lists (map v (reverse xs)) (reverse (map v xs))
    (length-map (reverse xs) v ∙ length-reverse xs ∙ sym (length-reverse (map v xs) ∙ length-map xs v))
    (λ k d within.
    let low : k < length xs = omega (arith, within, length-map (reverse xs) v, length-reverse xs) in
    let at : length (map v xs) - 1 - k ≡ length xs - 1 - k = omega (arith, length-map xs v) in
    get_or-map v (reverse xs) k 0 d (omega (arith, low, length-reverse xs))
    ∙ ap v (get_or-reverse xs k 0 low)
    ∙ sym (get_or-reverse (map v xs) k d (omega (arith, low, length-map xs v)) ∙ ap (λ i. get_or (map v xs) i d) at ∙ get_or-map v xs (length xs - 1 - k) 0 d (omega arith)))
