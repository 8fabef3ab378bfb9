-- The circuit of a product from those of its halves.
use Rattle.std.proofs.Common.{◌≡◌, ◌<◌, ◌≤◌, ℕ, ◌+◌, ◌-◌, ◌*◌, ◌%◌, ◌^◌, List, ◌++◌, length, take, drop, Bool, false, ap, sym, ◌∙◌, arith, Result, Ok, Err}
use Rattle.std.specs.Prelude.{All, IfOk}
use Rattle.std.proofs.lemmas.List.{length-drop, length-take-le}
use Rattle.std.proofs.lemmas.List.Elements.{All-append, All-take, All-drop, All-same}
use Rattle.hc_num.specs.Arithmetic.{sum, product}
use Rattle.hc_net.specs.Circuit.{Circuit}
use Rattle.hc_net.specs.Made.{Over, Makes}
use Rattle.hc_net.specs.MadeLemmas.{Makes-then, Makes-last, Makes-as, Makes-holds, Adds-there, Over-self, Over-left}
use Rattle.hc_net.specs.declared.nets.NoMemory.{NoMemory}
use Rattle.hc_bits.specs.Held.{held}
use Rattle.hc_muldiv.specs.Product.{MakesProduct}
use Rattle.hc_muldiv.specs.Value.{value}
use Rattle.hc_muldiv.proofs.Circuits.{Over-right, Makes-over}
use Rattle.hc_muldiv.proofs.Held.{held_is}
use Rattle.hc_muldiv.proofs.Products.{added_from, product_of_parts, halves_gates, square_gates}
use Rattle.hc_muldiv.proofs.Values.{value-append, value_split, value_low, value_low_fits}

-- ---- a sum over the bits from `from` on

sum_value : (v : ℕ → Bool) (x y low high more z : List ℕ) (from : ℕ) → length x ≡ from + length y → low ≡ take from x → high ≡ drop from x → length high ≡ length y
    → z ≡ low ++ more
    → value v more ≡ (value v high + value v y) % 2 ^ length high → value v z ≡ (value v x + value v y * 2 ^ from) % 2 ^ length x
sum_value v x y low high more z from width is_low is_high same is is_more =
    let n : length low ≡ from = ap (λ (l : List ℕ). length l) is_low ∙ length-take-le from x (omega arith) in
    let m : length x ≡ length y + from = omega arith in
    let a : value v z ≡ value v low + value v more * 2 ^ length low = ap (λ (l : List ℕ). value v l) is ∙ value-append v low more in
    let b = value_split v from x low high (omega arith) is_low is_high in
    rw (a, n, is_more, same, b, m) (added_from (value v low) (value v high) (value v y) (length y) from (value_low_fits v from x low (omega arith) is_low))

pub sum_above : (old new : Circuit) (x y low high more z : List ℕ) (from : ℕ) → length x ≡ from + length y → low ≡ take from x → high ≡ drop from x → z ≡ low ++ more
    → All (λ k. k < length old.nodes) x
    → Makes (8 * length high) (high ++ y) old new more (λ v. (s : Bool) → held s v more ≡ sum (held s v high) (held s v y))
    → Makes (8 * length y) (x ++ y) old new z (λ v. value v z ≡ (value v x + value v y * 2 ^ from) % 2 ^ length x)
sum_above old new x y low high more z from width is_low is_high is there made =
    let n : length high ≡ length y = ap (λ (l : List ℕ). length l) is_high ∙ length-drop from x ∙ omega arith in
    let P = Over old.nodes (x ++ y) in
    let Q = Over new.nodes (x ++ y) in
    let R = λ (k : ℕ). k < length new.nodes in
    let wide = Makes-over made (All-append P high y (All-same P high (drop from x) is_high (All-drop P from x (Over-left x y))) (Over-right x y)) in
    Makes-as wide (omega arith)
    (All-same R z (low ++ more) is (All-append R low more (All-same R low (take from x) is_low (All-take R from x (Adds-there x made.adds there))) made.there))
    (All-same Q z (low ++ more) is (All-append Q low more (All-same Q low (take from x) is_low (All-take Q from x (Over-left x y))) wide.reach))
    (λ v holds. sum_value v x y low high more z from width is_low is_high n is (ap (λ r. r.bits) (holds false)))

-- ---- both products and their sum

pub product_of_halves : (old mid last new : Circuit) (x y x_low y_low y_high low high z : List ℕ) (h : ℕ) → 1 ≤ h → h < length y → length y ≤ length x
    → x_low ≡ take (length x - h) x → y_low ≡ take h y → y_high ≡ drop h y → length low ≡ length x → length high ≡ length x_low
    → MakesProduct x y_low old mid low → MakesProduct x_low y_high mid last high
    → Makes (8 * length high) (low ++ high) last new z (λ v. value v z ≡ (value v low + value v high * 2 ^ h) % 2 ^ length low) → MakesProduct x y old new z
product_of_halves old mid last new x y x_low y_low y_high low high z h some less within is_x is_low is_high low_width high_width first second third =
    let j : length x_low ≡ length x - h = ap (λ (l : List ℕ). length l) is_x ∙ length-take-le (length x - h) x (omega arith) in
    let k : length y_low ≡ h = ap (λ (l : List ℕ). length l) is_low ∙ length-take-le h y (omega arith) in
    let n : length y_high ≡ length y - h = ap (λ (l : List ℕ). length l) is_high ∙ length-drop h y in
    let P = Over old.nodes (x ++ y) in
    let Q = Over mid.nodes (x ++ y) in
    let a = Makes-over first (All-append P x y_low (Over-left x y) (All-same P y_low (take h y) is_low (All-take P h y (Over-right x y)))) in
    let b = Makes-over second (All-append Q x_low y_high
    (All-same Q x_low (take (length x - h) x) is_x (All-take Q (length x - h) x (Over-left x y)))
    (All-same Q y_high (drop h y) is_high (All-drop Q h y (Over-right x y)))) in
    let both = Makes-then a b (Over-self (x ++ y)) in
    let gates = halves_gates (length x) (length y) (length y_low) (length x_low) (length y_high) (omega arith) (omega arith) within (omega arith) (omega arith) in
    Makes-holds (Makes-last both third both.reach) (omega (arith, gates, high_width)) (λ v holds.
    product_of_parts (value v x) (value v x_low) (value v y) (value v y_low) (value v y_high) (value v low) (value v high) (value v z) (length x) (length x_low) h (omega arith)
    (value_low v (length x_low) x x_low (omega arith) (is_x ∙ ap (λ i. take i x) (sym j)))
    (value_split v h y y_low y_high (omega arith) is_low is_high)
    holds.0.0 holds.0.1 (holds.1 ∙ ap (λ i. (value v low + value v high * 2 ^ h) % 2 ^ i) low_width))

-- the product of two numbers of one width
product_made : (old new : Circuit) (x y xs ys z : List ℕ) → xs ≡ x → ys ≡ y → length y ≡ length x → length z ≡ length xs → MakesProduct xs ys old new z
    → Makes (8 * (length x * length x)) (x ++ y) old new z (λ v. (s : Bool) → held s v z ≡ product (held s v x) (held s v y))
product_made old new x y xs ys z is_x is_y same width made =
    let m : length xs ≡ length x = ap (λ (l : List ℕ). length l) is_x in
    let n : length ys ≡ length x = ap (λ (l : List ℕ). length l) is_y ∙ same in
    let P = Over old.nodes (x ++ y) in
    let wide = Makes-over made (All-append P xs ys (All-same P xs x is_x (Over-left x y)) (All-same P ys y is_y (Over-right x y))) in
    Makes-holds wide (square_gates (length x) (length xs) (length ys) m n) (λ v e s.
    held_is s v z x ((value v x * value v y) % 2 ^ length x) (width ∙ m)
    (e ∙ ap (λ (l : List ℕ). (value v l * value v ys) % 2 ^ length l) is_x ∙ ap (λ (l : List ℕ). (value v x * value v l) % 2 ^ length x) is_y))

pub product_returned : (result : Result (List ℕ) NoMemory) (old new : Circuit) (x y xs ys : List ℕ) → xs ≡ x → ys ≡ y → length y ≡ length x
    → IfOk result (λ z. length z ≡ length xs) → IfOk result (MakesProduct xs ys old new)
    → IfOk result (λ z. Makes (8 * (length x * length x)) (x ++ y) old new z (λ v. (s : Bool) → held s v z ≡ product (held s v x) (held s v y)))
product_returned (Err e) old new x y xs ys is_x is_y same width made = tt
product_returned (Ok z) old new x y xs ys is_x is_y same width made = product_made old new x y xs ys z is_x is_y same width made
