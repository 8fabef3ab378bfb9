-- The numbers of nets that are others in another order.
use Rattle.std.proofs.Common.{◌≡◌, ◌<◌, ◌≤◌, ℕ, zero, suc, ◌+◌, ◌-◌, ◌*◌, ◌/◌, ◌%◌, ◌^◌, List, [], ◌∷◌, ◌++◌, length, take, drop, map, get_or, replicate, Bool, true, false, ◌&&◌, if◌then◌else◌, refl, ap, sym, ◌∙◌, subst, arith, inl, inr, length-append}
use Rattle.std.specs.Prelude.{All, min, nat_le, ◌==◌}
use Rattle.std.specs.List.{range_with_len}
use Rattle.std.proofs.Math.Nat.{min-eq_left, min-eq_right, min-le_right, mul-mod_left, div-one, mod-eq_of_lt, pow-suc}
use Rattle.std.proofs.lemmas.Bool.{cases_lt}
use Rattle.std.proofs.lemmas.Nat.{pow-add, mod-pow-add, shl-shr, shr-shr}
use Rattle.std.proofs.lemmas.List.{map-append, length-map, length-take-le, length-drop, length-replicate, take-map, drop-map, get_or-map}
use Rattle.std.proofs.lemmas.List.Elements.{All-append, All-take, All-drop, All-replicate}
use Rattle.std.proofs.lemmas.List.FromFn.{length-map-range_with_len, map-range_with_len_more}
use Rattle.hc_num.specs.Number.{Number, is_top_set}
use Rattle.hc_num.specs.Parts.{low_part, high_part, joined, bit_range}
use Rattle.hc_num.specs.Shift.{shifted_left, shifted_right, entering}
use Rattle.hc_num.proofs.Widths.{shl_all, shr_all}
use Rattle.hc_net.specs.Bits.{number, bit}
use Rattle.hc_bits.specs.Held.{held}
use Rattle.hc_bits.proofs.Carries.{number_below}
use Rattle.hc_bits.proofs.BitLists.{number-append, number-drop, top_bit}
use Rattle.hc_muldiv.proofs.Values.{value_low}
use Rattle.hc_value.specs.Moves.{constant_nets, entering_net, moved_nets}
use Rattle.hc_value.specs.declared.moved.Move.{Move}
use Rattle.hc_value.specs.declared.moved.Move.TheVariants.{Up, Down, Low, High}
use Rattle.hc_value.specs.declared.operand.Operand.{Operand}
use Rattle.hc_value.proofs.Held.{number_with, held_as}

-- ---- constants

-- a number's bits from place a on
number_bits : (b a w : ℕ) → number (map (bit b) (range_with_len a w)) ≡ b / 2 ^ a % 2 ^ w
number_bits b a zero = omega arith
number_bits b a (suc w) =
    let q = b / 2 ^ a in
    let ih : number (map (bit b) (range_with_len (a + 1) w)) ≡ b / 2 ^ (a + 1) % 2 ^ w = number_bits b (a + 1) w in
    let half : b / 2 ^ (a + 1) ≡ q / 2 ^ 1 = sym (shr-shr b a 1) in
    let more : q % 2 ^ (w + 1) ≡ q / 2 ^ 1 % 2 ^ w * 2 ^ 1 + q % 2 ^ 1 = mod-pow-add q w 1 in
    let rest : number (map (bit b) (range_with_len (a + 1) w)) ≡ q / 2 ^ 1 % 2 ^ w = ih ∙ ap (λ k. k % 2 ^ w) half in
    let next : w + 1 ≡ suc w = omega arith in
    ap (λ k. (if bit b a then 1 else 0) + 2 * k) rest
    ∙ ap (λ k. k + 2 * (q / 2 ^ 1 % 2 ^ w)) (digit (q % 2) (omega arith))
    ∙ (let e : q % 2 + 2 * (q / 2 ^ 1 % 2 ^ w) ≡ q / 2 ^ 1 % 2 ^ w * 2 ^ 1 + q % 2 ^ 1 = omega arith in e)
    ∙ sym more ∙ ap (λ k. q % 2 ^ k) next
  where
    digit : (r : ℕ) → r < 2 → (if r == 1 then 1 else 0) ≡ r
    digit zero low = refl
    digit (suc zero) low = refl
    digit (suc (suc r)) low = absurd (omega (arith, low))

-- one bit more
pub constant_more : (low high : ℕ) (n : Number) (nets more : List ℕ) (place net bits : ℕ) → more ≡ nets ++ net ∷ [] → nets ≡ map (λ i. if bit n.bits i then high else low) (range_with_len 0 place)
    → net ≡ (if bit bits place then high else low) → bits ≡ n.bits → more ≡ map (λ i. if bit n.bits i then high else low) (range_with_len 0 (place + 1))
constant_more low high n nets more place net bits pushed so_far is of =
    pushed ∙ ap (λ l. l ++ net ∷ []) so_far
    ∙ ap (λ k. map (λ i. if bit n.bits i then high else low) (range_with_len 0 place) ++ k ∷ []) (is ∙ ap (λ b. if bit b place then high else low) of)
    ∙ sym (map-range_with_len_more (λ i. if bit n.bits i then high else low) 0 place place (omega arith))

constant_bits : (v : ℕ → Bool) (low high b : ℕ) → v low ≡ false → v high ≡ true → (l : List ℕ) → map v (map (λ i. if bit b i then high else low) l) ≡ map (bit b) l
constant_bits v low high b is_low is_high [] = refl
constant_bits v low high b is_low is_high (i ∷ l) =
    ap (λ c. c ∷ map v (map (λ j. if bit b j then high else low) l)) (pick (bit b i)) ∙ ap (λ r. bit b i ∷ r) (constant_bits v low high b is_low is_high l)
  where
    pick : (c : Bool) → v (if c then high else low) ≡ c
    pick true = is_high
    pick false = is_low

pub constant_held : (v : ℕ → Bool) (low high : ℕ) (n : Number) → n.bits < 2 ^ n.width → v low ≡ false → v high ≡ true → held n.signed v (constant_nets low high n) ≡ n
constant_held v low high n fits is_low is_high =
    let below : n.bits / 2 ^ 0 % 2 ^ n.width ≡ n.bits = whole n.bits n.width fits in
    held_as n.signed n.signed v (constant_nets low high n) n.width n.bits refl
    (length-map-range_with_len (λ i. if bit n.bits i then high else low) 0 n.width)
    (ap number (constant_bits v low high n.bits is_low is_high (range_with_len 0 n.width)) ∙ number_bits n.bits 0 n.width ∙ below)
  where
    whole : (b w : ℕ) → b < 2 ^ w → b / 2 ^ 0 % 2 ^ w ≡ b
    whole b w fits = ap (λ k. k % 2 ^ w) (div-one b) ∙ mod-eq_of_lt fits

pub constant_all : (P : ℕ → Type 0) (low high : ℕ) (n : Number) → P low → P high → All P (constant_nets low high n)
constant_all P low high n is_low is_high = over (range_with_len 0 n.width)
  where
    pick : (c : Bool) → P (if c then high else low)
    pick true = is_high
    pick false = is_low

    over : (l : List ℕ) → All P (map (λ i. if bit n.bits i then high else low) l)
    over [] k d within = absurd (omega (arith, within))
    over (i ∷ l) zero d within = pick (bit n.bits i)
    over (i ∷ l) (suc k) d within = over l k d (omega arith)

-- ---- bits that are all alike

pub all_zeros : (m : ℕ) → number (replicate m false) ≡ 0
all_zeros zero = refl
all_zeros (suc m) = let rest = all_zeros m in omega (arith, rest)

all_ones : (m : ℕ) → number (replicate m true) + 1 ≡ 2 ^ m
all_ones zero = refl
all_ones (suc m) = let rest = all_ones m in let twice = pow-suc 2 m in omega (arith, rest, twice)

-- ---- parts

bits_width : (v : ℕ → Bool) (x : List ℕ) → length (map v x) ≡ length x
bits_width v x = length-map x v

pub taken_number : (v : ℕ → Bool) (n : ℕ) (x : List ℕ) → n ≤ length x → number (map v (take n x)) ≡ number (map v x) % 2 ^ n
taken_number v n x within = value_low v n x (take n x) within refl

pub dropped_number : (v : ℕ → Bool) (n : ℕ) (x : List ℕ) → number (map v (drop n x)) ≡ number (map v x) / 2 ^ n
dropped_number v n x = ap number (sym (drop-map v n x)) ∙ number-drop n (map v x)

pub joined_number : (v : ℕ → Bool) (x y : List ℕ) → number (map v (x ++ y)) ≡ number (map v x) + 2 ^ length x * number (map v y)
joined_number v x y = ap number (map-append v x y) ∙ number-append (map v x) (map v y) ∙ ap (λ w. number (map v x) + 2 ^ w * number (map v y)) (bits_width v x)

pub sliced_held : (s : Bool) (v : ℕ → Bool) (x : List ℕ) (high low : ℕ) → low ≤ high → high < length x
    → held false v (take (high - low + 1) (drop low x)) ≡ bit_range (held s v x) high low
sliced_held s v x high low order within =
    held_as false false v (take (high - low + 1) (drop low x)) (high - low + 1) _ refl
    (length-take-le (high - low + 1) (drop low x) (omega (arith, length-drop low x)))
    (taken_number v (high - low + 1) (drop low x) (omega (arith, length-drop low x)) ∙ ap (λ k. k % 2 ^ (high - low + 1)) (dropped_number v low x))

-- ---- moves

-- a net n times holds all bits alike
pub same_bits : (v : ℕ → Bool) (net n : ℕ) → map v (replicate n net) ≡ replicate n (v net)
same_bits v net zero = refl
same_bits v net (suc n) = ap (λ l. v net ∷ l) (same_bits v net n)

moved_up : (n j h : ℕ) → n % 2 ^ j * 2 ^ h ≡ n * 2 ^ h % 2 ^ (j + h)
moved_up n j h =
    let a = mod-pow-add (n * 2 ^ h) j h in
    let b : n * 2 ^ h / 2 ^ h % 2 ^ j * 2 ^ h ≡ n % 2 ^ j * 2 ^ h = ap (λ k. k % 2 ^ j * 2 ^ h) (shl-shr n h) in
    let c = mul-mod_left n (2 ^ h) in
    omega arith

-- by as many places as there are at most
moved_least : (b w n : ℕ) → b * 2 ^ min n w % 2 ^ w ≡ b * 2 ^ n % 2 ^ w
moved_least b w n = elim (cases_lt n w) [
  | inl low ↦ ap (λ k. b * 2 ^ k % 2 ^ w) (min-eq_left (omega arith))
  | inr high ↦ ap (λ k. b * 2 ^ k % 2 ^ w) (min-eq_right high) ∙ shl_all b w w (omega arith) ∙ sym (shl_all b w n high)
]

up_number : (v : ℕ → Bool) (zero_net n : ℕ) (x : List ℕ) → v zero_net ≡ false
    → number (map v (replicate (min n (length x)) zero_net ++ take (length x - min n (length x)) x)) ≡ number (map v x) * 2 ^ n % 2 ^ length x
up_number v zero_net n x clear =
    let w = length x in
    let m = min n w in
    let least : m ≤ w = omega arith in
    let b = number (map v x) in
    let zeros : number (map v (replicate m zero_net)) ≡ 0 = ap number (same_bits v zero_net m) ∙ ap (λ c. number (replicate m c)) clear ∙ all_zeros m in
    let width : length (replicate m zero_net) ≡ m = length-replicate m zero_net in
    let e : w - m + m ≡ w = omega arith in
    joined_number v (replicate m zero_net) (take (w - m) x)
    ∙ ap (λ k. k + 2 ^ length (replicate m zero_net) * number (map v (take (w - m) x))) zeros
    ∙ ap (λ k. 0 + 2 ^ k * number (map v (take (w - m) x))) width
    ∙ ap (λ k. 0 + 2 ^ m * k) (taken_number v (w - m) x (omega arith))
    ∙ (let t : 0 + 2 ^ m * (b % 2 ^ (w - m)) ≡ b % 2 ^ (w - m) * 2 ^ m = turn (2 ^ m) (b % 2 ^ (w - m)) in t)
    ∙ moved_up b (w - m) m ∙ ap (λ k. b * 2 ^ m % 2 ^ k) e ∙ moved_least b w n
  where
    turn : (p q : ℕ) → 0 + p * q ≡ q * p
    turn p q = grind arith

-- what enters at the high end
entered : (fill : Bool) (w n : ℕ) → 2 ^ (w - min n w) * number (replicate (min n w) fill) ≡ (if fill then 2 ^ w - 2 ^ (w - n) else 0)
entered false w n = ap (λ m. 2 ^ (w - min n w) * m) (all_zeros (min n w)) ∙ omega arith
entered true w n =
    let m = min n w in
    let ones = all_ones m in
    let left : w - m ≡ w - n = omega arith in
    let size : w - m + m ≡ w = omega arith in
    let whole : 2 ^ w ≡ 2 ^ (w - m) * 2 ^ m = ap (λ k. 2 ^ k) (sym size) ∙ pow-add 2 (w - m) m in
    let product : 2 ^ (w - m) * 2 ^ m ≡ 2 ^ (w - m) * number (replicate m true) + 2 ^ (w - m) = ap (λ k. 2 ^ (w - m) * k) (sym ones) ∙ spread (2 ^ (w - m)) (number (replicate m true)) in
    ap (λ k. k) (less (2 ^ (w - m) * number (replicate m true)) (2 ^ (w - m)) (2 ^ w) (omega (arith, whole, product))) ∙ ap (λ k. 2 ^ w - 2 ^ k) left
  where
    spread : (a k : ℕ) → a * (k + 1) ≡ a * k + a
    spread a k = grind arith

    less : (a p q : ℕ) → q ≡ a + p → a ≡ q - p
    less a p q is = omega arith

-- a number moved down by as many places as there are at most
down_least : (b w n : ℕ) → b < 2 ^ w → b / 2 ^ min n w ≡ b / 2 ^ n
down_least b w n fits = elim (cases_lt n w) [
  | inl low ↦ ap (λ k. b / 2 ^ k) (min-eq_left (omega arith))
  | inr high ↦ ap (λ k. b / 2 ^ k) (min-eq_right high) ∙ shr_all b w w fits (omega arith) ∙ sym (shr_all b w n fits high)
]

-- the highest bit tells whether zeros or ones enter
entering_bit : (v : ℕ → Bool) (zero_net : ℕ) (x : Operand) → 1 ≤ length x.nets → v zero_net ≡ false
    → v (entering_net zero_net x) ≡ (x.signed && is_top_set (held x.signed v x.nets))
entering_bit v zero_net x some clear = which x.signed
  where
    top : v (get_or x.nets (length x.nets - 1) 0) ≡ nat_le (2 ^ (length x.nets - 1)) (number (map v x.nets))
    top = sym (top_bit (map v x.nets) (length x.nets - 1) false (omega (arith, some, length-map x.nets v)) ∙ get_or-map v x.nets (length x.nets - 1) 0 false (omega arith))

    which : (s : Bool) → v (if s then get_or x.nets (length x.nets - 1) 0 else zero_net) ≡ (s && nat_le (2 ^ (length x.nets - 1)) (number (map v x.nets)))
    which true = top
    which false = clear

down_number : (v : ℕ → Bool) (zero_net n : ℕ) (x : Operand) → 1 ≤ length x.nets → v zero_net ≡ false
    → number (map v (drop (min n (length x.nets)) x.nets ++ replicate (min n (length x.nets)) (entering_net zero_net x)))
    ≡ number (map v x.nets) / 2 ^ n + entering (held x.signed v x.nets) n
down_number v zero_net n x some clear =
    let w = length x.nets in
    let m = min n w in
    let b = number (map v x.nets) in
    let fill = entering_net zero_net x in
    let below : b < 2 ^ w = subst (λ (k : ℕ). b < 2 ^ k) (bits_width v x.nets) (number_below (map v x.nets)) in
    joined_number v (drop m x.nets) (replicate m fill)
    ∙ ap (λ k. k + 2 ^ length (drop m x.nets) * number (map v (replicate m fill))) (dropped_number v m x.nets ∙ down_least b w n below)
    ∙ ap (λ k. b / 2 ^ n + 2 ^ k * number (map v (replicate m fill))) (length-drop m x.nets)
    ∙ ap (λ k. b / 2 ^ n + 2 ^ (w - m) * number k) (same_bits v fill m)
    ∙ ap (λ k. b / 2 ^ n + k) (entered (v fill) w n)
    ∙ ap (λ c. b / 2 ^ n + (if c then 2 ^ w - 2 ^ (w - n) else 0)) (entering_bit v zero_net x some clear)

-- what a move makes of a number
abbrev pub moved_number : Move → Number → Number
moved_number (Up n) a = shifted_left a n
moved_number (Down n) a = shifted_right a n
moved_number (Low n) a = low_part a n
moved_number (High n) a = high_part a n

-- no more bits are taken than there are
abbrev pub IsWithin : Move → ℕ → Type 0
IsWithin (Up n) w = Unit {0}
IsWithin (Down n) w = Unit {0}
IsWithin (Low n) w = n ≤ w
IsWithin (High n) w = n ≤ w

pub moved_size : (zero_net : ℕ) (by : Move) (x : Operand) → IsWithin by (length x.nets)
    → length (moved_nets zero_net by x) ≡ (moved_number by (held x.signed (λ k. false) x.nets)).width
moved_size zero_net (Up n) x within =
    let m = min n (length x.nets) in
    let least : m ≤ length x.nets = min-le_right n (length x.nets) in
    omega (arith, length-append (replicate m zero_net) (take (length x.nets - m) x.nets), length-replicate m zero_net, length-take-le (length x.nets - m) x.nets (omega arith))
moved_size zero_net (Down n) x within =
    let m = min n (length x.nets) in
    let least : m ≤ length x.nets = min-le_right n (length x.nets) in
    omega (arith, length-append (drop m x.nets) (replicate m (entering_net zero_net x)), length-replicate m (entering_net zero_net x), length-drop m x.nets)
moved_size zero_net (Low n) x within = ap (λ k. length (take k x.nets)) (min-eq_left within) ∙ length-take-le n x.nets within
moved_size zero_net (High n) x within = ap (λ k. length (drop k x.nets)) (min-eq_left within) ∙ length-drop n x.nets

pub moved_held : (v : ℕ → Bool) (zero_net : ℕ) (by : Move) (x : Operand) → 1 ≤ length x.nets → IsWithin by (length x.nets) → v zero_net ≡ false
    → held x.signed v (moved_nets zero_net by x) ≡ moved_number by (held x.signed v x.nets)
moved_held v zero_net (Up n) x some within clear =
    held_as x.signed x.signed v (moved_nets zero_net (Up n) x) (length x.nets) _ refl (moved_size zero_net (Up n) x within) (up_number v zero_net n x.nets clear)
moved_held v zero_net (Down n) x some within clear =
    held_as x.signed x.signed v (moved_nets zero_net (Down n) x) (length x.nets) _ refl (moved_size zero_net (Down n) x within) (down_number v zero_net n x some clear)
moved_held v zero_net (Low n) x some within clear =
    held_as x.signed x.signed v (moved_nets zero_net (Low n) x) n _ refl (moved_size zero_net (Low n) x within)
    (ap (λ k. number (map v (take k x.nets))) (min-eq_left within) ∙ taken_number v n x.nets within)
moved_held v zero_net (High n) x some within clear =
    held_as x.signed x.signed v (moved_nets zero_net (High n) x) (length x.nets - n) _ refl (moved_size zero_net (High n) x within)
    (ap (λ k. number (map v (drop k x.nets))) (min-eq_left within) ∙ dropped_number v n x.nets)

pub moved_all : (P : ℕ → Type 0) (zero_net : ℕ) (by : Move) (x : Operand) → 1 ≤ length x.nets → P zero_net → All P x.nets → All P (moved_nets zero_net by x)
moved_all P zero_net (Up n) x some clear all =
    All-append P (replicate (min n (length x.nets)) zero_net) (take (length x.nets - min n (length x.nets)) x.nets)
    (All-replicate P (min n (length x.nets)) zero_net clear) (All-take P (length x.nets - min n (length x.nets)) x.nets all)
moved_all P zero_net (Down n) x some clear all =
    All-append P (drop (min n (length x.nets)) x.nets) (replicate (min n (length x.nets)) (entering_net zero_net x))
    (All-drop P (min n (length x.nets)) x.nets all) (All-replicate P (min n (length x.nets)) (entering_net zero_net x) (fill x.signed))
  where
    fill : (s : Bool) → P (if s then get_or x.nets (length x.nets - 1) 0 else zero_net)
    fill true = all (length x.nets - 1) 0 (omega arith)
    fill false = clear
moved_all P zero_net (Low n) x some clear all = All-take P (min n (length x.nets)) x.nets all
moved_all P zero_net (High n) x some clear all = All-drop P (min n (length x.nets)) x.nets all
