-- Long division of numbers without a sign, one bit after another from the highest on.
use Rattle.std.specs.Prelude.{◌≡◌, ◌<◌, ◌≤◌, ℕ, ◌+◌, ◌-◌, ◌*◌, ◌^◌, List, ◌∷◌, ◌++◌, length, Bool, true, false}
use Rattle.hc_net.specs.Circuit.{Circuit}
use Rattle.hc_net.specs.Made.{Makes}
use Rattle.hc_muldiv.specs.Value.{value}

-- one step: whether d goes into what was left with the next bit below it, and what is left then
pub record Steps (d before : ℕ) (bit : Bool) (after : ℕ) : Type 0 where
  pub goes : d ≤ before → (bit ≡ true) × (before ≡ d + after)
  pub stays : before < d → (bit ≡ false) × (after ≡ before)

-- the quotient and the remainder of a number n of k bits; all ones and n itself where d is 0
pub record Divides (k n d quotient remainder : ℕ) : Type 0 where
  pub by_zero : d ≡ 0 → (quotient ≡ 2 ^ k - 1) × (remainder ≡ n)
  pub by_more : 0 < d → (n ≡ quotient * d + remainder) × (remainder < d)

-- the circuit of a step, where the divisor's top bit is 0 and what is left fits the rest's width
abbrev pub MakesStep : (low : ℕ) → (rest divisor : List ℕ) → (old new : Circuit) → (bit : ℕ) → (after : List ℕ) → Type 0
MakesStep low rest divisor old new bit after = Makes (11 * length rest + 10) (low ∷ (rest ++ divisor)) old new (bit ∷ after) (λ v.
    value v divisor < 2 ^ length rest → value v (low ∷ rest) < value v divisor + 2 ^ length rest → Steps (value v divisor) (value v (low ∷ rest)) (v bit) (value v after))

-- the circuit of a whole division
abbrev pub MakesDivision : (x y : List ℕ) → (old new : Circuit) → (quotient remainder : List ℕ) → Type 0
MakesDivision x y old new quotient remainder = Makes (1 + length x * (11 * length x + 10)) (x ++ y) old new (quotient ++ remainder) (λ v.
    Divides (length x) (value v x) (value v y) (value v quotient) (value v remainder))
