-- Products modulo a power of 2, by the halves of the multiplier, and how many bits their rows have.
use Rattle.std.proofs.Common.{◌≡◌, ℕ, zero, suc, ◌+◌, ◌-◌, ◌*◌, ◌/◌, ◌%◌, ◌^◌, ◌<◌, ◌≤◌, [], ◌∷◌, Bool, true, false, if◌then◌else◌, ap, sym, ◌∙◌, arith}
use Rattle.std.proofs.Math.Nat.{add-mod-mod, mod-add-mod, mul-mod_left, mod-eq_of_lt}
use Rattle.std.proofs.lemmas.Nat.{mod-pow-add, mul-mod_first, shl-shr, shr_high, mod_low}
use Rattle.hc_net.specs.Bits.{number}
use Rattle.hc_muldiv.specs.Product.{row_bits}

-- ---- numbers

-- a number moved up by h bits, modulo as many bits more
moved_up : (n j h : ℕ) → n % 2 ^ j * 2 ^ h ≡ n * 2 ^ h % 2 ^ (j + h)
moved_up n j h =
    let a = mod-pow-add (n * 2 ^ h) j h in
    let b : n * 2 ^ h / 2 ^ h % 2 ^ j * 2 ^ h ≡ n % 2 ^ j * 2 ^ h = ap (λ k. k % 2 ^ j * 2 ^ h) (shl-shr n h) in
    let c = mul-mod_left n (2 ^ h) in
    omega arith

regrouped : (low high more p : ℕ) → (high * p + low) + more * p ≡ (high + more) * p + low
regrouped low high more p = grind arith

-- two numbers of which the second is added from bit h on
pub added_from : (low high more j h : ℕ) → low < 2 ^ h → low + (high + more) % 2 ^ j * 2 ^ h ≡ ((high * 2 ^ h + low) + more * 2 ^ h) % 2 ^ (j + h)
added_from low high more j h fits =
    let n = (high + more) * 2 ^ h + low in
    let a : n % 2 ^ (j + h) ≡ n / 2 ^ h % 2 ^ j * 2 ^ h + n % 2 ^ h = mod-pow-add n j h in
    let b : n / 2 ^ h % 2 ^ j * 2 ^ h ≡ (high + more) % 2 ^ j * 2 ^ h = ap (λ k. k % 2 ^ j * 2 ^ h) (shr_high (high + more) h low fits) in
    let c : n % 2 ^ h ≡ low = mod_low (high + more) h low fits in
    let d : ((high * 2 ^ h + low) + more * 2 ^ h) % 2 ^ (j + h) ≡ n % 2 ^ (j + h) = ap (λ k. k % 2 ^ (j + h)) (regrouped low high more (2 ^ h)) in
    omega (arith, a, b, c, d)

spread : (x low high p : ℕ) → x * low + x * high * p ≡ x * (high * p + low)
spread x low high p = grind arith

-- the product by the low half of a multiplier, and by the high half with as many bits as are wanted
halves : (x low high j h : ℕ)
    → ((x * low) % 2 ^ (j + h) + (x % 2 ^ j * high) % 2 ^ j * 2 ^ h) % 2 ^ (j + h) ≡ (x * (high * 2 ^ h + low)) % 2 ^ (j + h)
halves x low high j h =
    let m = 2 ^ (j + h) in
    let up : (x % 2 ^ j * high) % 2 ^ j * 2 ^ h ≡ x * high * 2 ^ h % m = ap (λ k. k * 2 ^ h) (mul-mod_first x high (2 ^ j)) ∙ moved_up (x * high) j h in
    ap (λ k. ((x * low) % m + k) % m) up
    ∙ add-mod-mod ((x * low) % m) (x * high * 2 ^ h) m
    ∙ mod-add-mod (x * low) m (x * high * 2 ^ h)
    ∙ ap (λ k. k % m) (spread x low high (2 ^ h))

-- the same, of numbers in parts
pub product_of_parts : (x x_low y y_low y_high low high z w j h : ℕ) → w ≡ j + h → x_low ≡ x % 2 ^ j → y ≡ y_high * 2 ^ h + y_low → low ≡ (x * y_low) % 2 ^ w
    → high ≡ (x_low * y_high) % 2 ^ j → z ≡ (low + high * 2 ^ h) % 2 ^ w → z ≡ (x * y) % 2 ^ w
product_of_parts x x_low y y_low y_high low high z w j h width is_x is_y is_low is_high is =
    rw (is, is_low, is_high, is_x, is_y, width) (halves x y_low y_high j h)

-- the product by one bit
pub product_by_bit : (x w : ℕ) (c : Bool) → x < 2 ^ w → (if c then x else 0) ≡ (x * number (c ∷ [])) % 2 ^ w
product_by_bit x w true fits = let e : x * number (true ∷ []) ≡ x = omega arith in sym (ap (λ k. k % 2 ^ w) e ∙ mod-eq_of_lt fits)
product_by_bit x w false fits =
    let e : x * number (false ∷ []) ≡ 0 = omega arith in
    let p : 0 < 2 ^ w = omega arith in
    sym (ap (λ k. k % 2 ^ w) e ∙ mod-eq_of_lt p)

-- ---- rows

row_bits-add : (m h n : ℕ) → row_bits m (h + n) ≡ row_bits m h + row_bits (m - h) n
row_bits-add m zero n = let e : 0 + n ≡ n = omega arith in let f : m - 0 ≡ m = omega arith in rw (e, f) (omega arith)
row_bits-add m (suc h) n =
    let e : suc h + n ≡ suc (h + n) = omega arith in
    let f : m - suc h ≡ m - 1 - h = omega arith in
    let more = row_bits-add (m - 1) h n in
    rw (e, f) (omega arith)

-- the first row
row_bits_some : (m n : ℕ) → 1 ≤ n → m ≤ row_bits m n
row_bits_some m zero some = absurd (omega arith)
row_bits_some m (suc n) some = omega arith

pub row_bits_one : (m : ℕ) → row_bits m 1 ≡ m
row_bits_one m = omega arith

-- as many rows as bits
row_bits_square : (w : ℕ) → 2 * row_bits w w ≡ w * w + w
row_bits_square zero = omega arith
row_bits_square (suc w) = let e : suc w - 1 ≡ w = omega arith in let more = row_bits_square w in rw e (omega arith)

-- ---- gates

-- the gates of both halves, of h and n rows, and of their sum
pub halves_gates : (m y h j n : ℕ) → 1 ≤ h → h < y → y ≤ m → j ≡ m - h → n ≡ y - h
    → 9 * row_bits m h - 8 * m + (9 * row_bits j n - 8 * j) + 8 * j ≡ 9 * row_bits m y - 8 * m
halves_gates m y h j n some less within is_j is_n =
    let a = row_bits_some m h some in
    let b = row_bits_some (m - h) (y - h) (omega arith) in
    let e : h + (y - h) ≡ y = omega arith in
    let c : row_bits m y ≡ row_bits m h + row_bits (m - h) (y - h) = sym (ap (λ k. row_bits m k) e) ∙ row_bits-add m h (y - h) in
    rw (is_j, is_n) (omega (arith, a, b, c))

pub square_gates : (w m n : ℕ) → m ≡ w → n ≡ w → 9 * row_bits m n - 8 * m ≤ 8 * (w * w)
square_gates w m n is_m is_n = let e = row_bits_square w in rw (is_m, is_n) (omega arith)
