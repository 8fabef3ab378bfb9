-- The digits of numbers, and which number stands in front of a text.
use Rattle.std.proofs.Common.{◌≡◌, ◌≤◌, ◌<◌, ◌+◌, ◌-◌, ◌*◌, ◌/◌, ◌%◌, ◌^◌, ◌++◌, ℕ, zero, suc, List, [], ◌∷◌, length, get_or, take, refl, sym, ◌∙◌, ap, subst, arith, append_assoc, length-append}
use Rattle.std.specs.Fmt.{decimal}
use Rattle.std.specs.Str.Parse.{AllDigits, digits_value}
use Rattle.std.proofs.lemmas.Str.Parse.{digit_from_value, digits_value-take-le}
use Rattle.std.proofs.lemmas.Fmt.{decimal_digit, decimal_step_wide, decimal_by_steps_wide, decimal_is_IsNumeral_wide}
use Rattle.std.proofs.lemmas.List.{append_cancel_left}
use Rattle.std.proofs.Math.ListN.{get_or-append}
use Rattle.std.proofs.Math.Seq.{take-append_seam}
use Rattle.hc_stim.specs.Reading.{HasNoDigit, IsNumber, HasNoNumber}

-- digits in front of a text stand in front of all digits there
front_of : (ds es r s : List ℕ) → AllDigits 10 es → HasNoDigit r → ds ++ r ≡ es ++ s → (t : List ℕ) × (ds ≡ es ++ t)
front_of ds [] r s all none same = (ds, refl)
front_of [] (e ∷ es) [] s all none same = absurd cc
front_of [] (e ∷ es) (b ∷ r) s all none same =
    let d = digit_from_value e all.0 in
    let is : b ≡ e = cc in absurd (none (omega (arith, d)) (omega (arith, d)))
front_of (d ∷ ds) (e ∷ es) r s all none same =
    let head : d ≡ e = cc in
    let tail : ds ++ r ≡ es ++ s = cc in
    let h = front_of ds es r s all.1 none tail in
    let is = h.1 in (h.0, cc)

number_below : (n m : ℕ) (r s : List ℕ) → n < 2 ^ 128 → m < 10 ^ 64 → HasNoDigit r → decimal n ++ r ≡ decimal m ++ s → m ≤ n
number_below n m r s small wide none same =
    let dn = decimal_is_IsNumeral_wide n (omega arith) in
    let dm = decimal_is_IsNumeral_wide m wide in
    let h = front_of (decimal n) (decimal m) r s dm.0.1 none same in
    let front : take (length (decimal m)) (decimal n) ≡ decimal m = ap (take (length (decimal m))) h.1 ∙ take-append_seam (decimal m) h.0 in
    omega (arith, digits_value-take-le 10 (decimal n) (length (decimal m)), ap (digits_value 10) front, dn.1, dm.1)

-- a text begins with one number at most
pub one_number : (n m : ℕ) (r s : List ℕ) → n < 2 ^ 128 → m < 2 ^ 128 → HasNoDigit r → HasNoDigit s → decimal n ++ r ≡ decimal m ++ s → (n ≡ m) × (r ≡ s)
one_number n m r s p q f g same =
    let is : n ≡ m = omega (arith, number_below n m r s p (omega arith) f same, number_below m n s r q (omega arith) g (sym same)) in
    (is, append_cancel_left (decimal m) r s (subst (λ x. decimal x ++ r ≡ decimal m ++ s) is same))

-- one more digit behind a number
pub one_digit_more : (v d : ℕ) → 0 < v → v < 2 ^ 128 → 48 ≤ d → d ≤ 57 → decimal (v * 10 + (d - 48)) ≡ decimal v ++ d ∷ []
one_digit_more v d some small low high =
    let front : (v * 10 + (d - 48)) / 10 ≡ v = omega arith in
    let last : 48 + (v * 10 + (d - 48)) % 10 ≡ d = omega arith in
    decimal_step_wide (v * 10 + (d - 48)) (omega arith) (omega arith) ∙ (λ i. decimal (front i) ++ (last i ∷ []))

-- the same for the text that goes on behind it
pub digit_moved : (v d : ℕ) (rest : List ℕ) → 0 < v → v < 2 ^ 128 → 48 ≤ d → d ≤ 57 → decimal v ++ d ∷ rest ≡ decimal (v * 10 + (d - 48)) ++ rest
digit_moved v d rest some small low high =
    sym (append_assoc (decimal v) (d ∷ []) rest) ∙ ap (λ t. t ++ rest) (sym (one_digit_more v d some small low high))

pub too_large : (m : ℕ) (s : List ℕ) → 2 ^ 128 ≤ m → m < 10 ^ 64 → HasNoNumber (decimal m ++ s)
too_large m s large wide n rest h = absurd (omega (arith, number_below n m rest s h.fits wide h.ends (sym h.text), h.fits))

-- the first digit of a number is no 0, but that of 0
first_of : (n : ℕ) → 0 < n → n < 2 ^ 128 → 48 < get_or (decimal n) 0 0
first_of n some small = (decimal_by_steps_wide (λ m ds. (0 < length ds) × (0 < m → 48 < get_or ds 0 0)) (λ m l. (omega arith, λ a. omega arith))
    (λ m ds l h. (omega (arith, length-append ds ((48 + m % 10) ∷ [])), λ a. omega (arith, get_or-append ds ((48 + m % 10) ∷ []) 0 0 h.0, h.1 (omega arith)))) n (omega arith)).1 some

no_first : (ds r bytes : List ℕ) → 0 < length ds → AllDigits 10 ds → HasNoDigit bytes → bytes ≡ ds ++ r → ⊥
no_first [] r bytes some all none same = absurd (omega arith)
no_first (d ∷ ds) r [] some all none same = absurd cc
no_first (d ∷ ds) r (b ∷ bytes) some all none same =
    let k = digit_from_value d all.0 in
    let is : b ≡ d = cc in none (omega (arith, k)) (omega (arith, k))

-- where no digit stands in front, no number does
pub no_digit : (bytes : List ℕ) → HasNoDigit bytes → HasNoNumber bytes
no_digit bytes none n rest h =
    let fits = h.fits in
    let d = decimal_is_IsNumeral_wide n (omega arith) in no_first (decimal n) rest bytes d.0.0 d.0.1 none h.text

zero_then : (n b : ℕ) (rest behind : List ℕ) → n < 2 ^ 128 → HasNoDigit rest → 48 ≤ b → b ≤ 57 → 48 ∷ b ∷ behind ≡ decimal n ++ rest → ⊥
zero_then zero b rest behind small none low high same =
    let is : 48 ∷ b ∷ behind ≡ 48 ∷ rest = same ∙ ap (λ t. t ++ rest) (decimal_digit 0 (omega arith)) in
    let tail : rest ≡ b ∷ behind = cc in
    (subst HasNoDigit tail none) low high
zero_then (suc n) b rest behind small none low high same =
    let some = (decimal_is_IsNumeral_wide (suc n) (omega arith)).0.0 in
    let first : 48 ≡ get_or (decimal (suc n) ++ rest) 0 0 = ap (λ t. get_or t 0 0) same in
    omega (arith, first, get_or-append (decimal (suc n)) rest 0 0 some, first_of (suc n) (omega arith) small)

-- no number begins with 0 and goes on with a digit
pub leading_zero : (b : ℕ) (behind : List ℕ) → 48 ≤ b → b ≤ 57 → HasNoNumber (48 ∷ b ∷ behind)
leading_zero b behind low high n rest h = zero_then n b rest behind h.fits h.ends low high h.text

pub zero_number : (rest : List ℕ) → HasNoDigit rest → IsNumber (48 ∷ rest) 0 rest
zero_number rest none = record { text = ap (λ t. t ++ rest) (sym (decimal_digit 0 (omega arith))); fits = omega arith; ends = none }

-- a first digit as a number
pub first_digit : (d : ℕ) (rest bytes : List ℕ) → bytes ≡ d ∷ rest → 48 ≤ d → d ≤ 57 → decimal (d - 48) ++ rest ≡ bytes
first_digit d rest bytes is low high =
    let same : 48 + (d - 48) ≡ d = omega arith in
    ap (λ t. t ++ rest) (decimal_digit (d - 48) (omega arith)) ∙ ap (λ x. x ∷ rest) same ∙ sym is
