-- The one of some bits that a choice lets through.
use Rattle.std.proofs.Common.{◌≡◌, ◌<◌, ℕ, zero, suc, List, [], ◌∷◌, ◌++◌, length, get_or, Bool, true, false, not, ◌&&◌, ◌||◌, refl, ap, sym, ◌∙◌, arith}
use Rattle.std.specs.Prelude.{bit_and, ◌==◌}
use Rattle.hc_net.specs.Bits.{number}
use Rattle.hc_net.specs.Gate.{gate_bit}
use Rattle.hc_net.specs.declared.gate.GateKind.TheVariants as kind
use Rattle.hc_bits.specs.Carry.{each}
use Rattle.hc_bits.proofs.Bitwise.{number-each, and_bitwise}
use Rattle.hc_bits.proofs.Joined.{any, any_number}
use Rattle.hc_store.specs.Takes.{some_both}

-- whether two bits in one place are both set, as bits of the number of both
any_each : (xs ys : List Bool) → length ys ≡ length xs → any (each (gate_bit kind.And) xs ys) ≡ some_both xs ys
any_each [] [] same = refl
any_each [] (y ∷ ys) same = absurd (omega (arith, same))
any_each (x ∷ xs) [] same = absurd (omega (arith, same))
any_each (x ∷ xs) (y ∷ ys) same = ap (λ b. (x && y) || b) (any_each xs ys (omega (arith, same)))

pub some_both-number : (xs ys : List Bool) → length ys ≡ length xs → not (bit_and (number xs) (number ys) == 0) ≡ some_both xs ys
some_both-number xs ys same =
    ap (λ n. not (n == 0)) (sym (number-each bit_and (gate_bit kind.And) and_bitwise xs ys same)) ∙ sym (any_number (each (gate_bit kind.And) xs ys)) ∙ any_each xs ys same

-- ---- nothing is chosen

abbrev pub AllOff : List Bool → Type 0
AllOff es = (i : ℕ) → i < length es → get_or es i false ≡ false

rest_off : (e : Bool) (es : List Bool) → AllOff (e ∷ es) → AllOff es
rest_off e es off i within = off (suc i) (omega (arith, within))

pub any_off : (es : List Bool) → AllOff es → any es ≡ false
any_off [] off = refl
any_off (true ∷ es) off = absurd (let first = off 0 (omega arith) in cc)
any_off (false ∷ es) off = any_off es (rest_off false es off)

-- the last bit alone is let through
pub last_through : (n : Bool) (es vs : List Bool) (q : Bool) → length vs ≡ length es → AllOff es → some_both (es ++ n ∷ []) (vs ++ q ∷ []) ≡ (n && q)
last_through n [] [] q same off = or_nothing (n && q)
  where
    or_nothing : (b : Bool) → (b || false) ≡ b
    or_nothing true = refl
    or_nothing false = refl
last_through n [] (v ∷ vs) q same off = absurd (omega (arith, same))
last_through n (e ∷ es) [] q same off = absurd (omega (arith, same))
last_through n (true ∷ es) (v ∷ vs) q same off = absurd (let first = off 0 (omega arith) in cc)
last_through n (false ∷ es) (v ∷ vs) q same off = last_through n es vs q (omega (arith, same)) (rest_off false es off)

-- ---- one is chosen

-- bit k is set, and no other
pub record OneOn (es : List Bool) (k : ℕ) : Type 0 where
  pub within : k < length es
  pub is_on : get_or es k false ≡ true
  pub alone : (j : ℕ) → j < length es → get_or es j false ≡ true → j ≡ k

off_or_on : (b : Bool) → (b ≡ true → ⊥) → b ≡ false
off_or_on true never = absurd (never refl)
off_or_on false never = refl

others_off : (es : List Bool) → OneOn (true ∷ es) 0 → AllOff es
others_off es one i within = off_or_on (get_or es i false) (λ is. let same = one.alone (suc i) (omega (arith, within)) is in omega (arith, same))

behind : (e : Bool) (es : List Bool) (k : ℕ) → OneOn (e ∷ es) (suc k) → OneOn es k
behind e es k one = record {
  within = let within = one.within in omega arith;
  is_on = one.is_on;
  alone = λ j within is. let same = one.alone (suc j) (omega (arith, within)) is in omega (arith, same);
}

pub any_on : (es : List Bool) (k : ℕ) → OneOn es k → any es ≡ true
any_on [] k one = absurd (let within = one.within in omega arith)
any_on (true ∷ es) k one = refl
any_on (false ∷ es) zero one = absurd (let is = one.is_on in cc)
any_on (false ∷ es) (suc k) one = any_on es k (behind false es k one)

-- that bit alone is let through
pub one_through : (es vs : List Bool) (q : Bool) (k : ℕ) → length vs ≡ length es → OneOn es k → some_both (es ++ false ∷ []) (vs ++ q ∷ []) ≡ get_or vs k false
one_through [] vs q k same one = absurd (let within = one.within in omega arith)
one_through (e ∷ es) [] q k same one = absurd (omega (arith, same))
one_through (true ∷ es) (v ∷ vs) q zero same one = ap (λ b. v || b) (last_through false es vs q (omega (arith, same)) (others_off es one)) ∙ or_nothing v
  where
    or_nothing : (b : Bool) → (b || false) ≡ b
    or_nothing true = refl
    or_nothing false = refl
one_through (true ∷ es) (v ∷ vs) q (suc k) same one = absurd (let same = one.alone 0 (omega arith) refl in omega (arith, same))
one_through (false ∷ es) (v ∷ vs) q zero same one = absurd (let is = one.is_on in cc)
one_through (false ∷ es) (v ∷ vs) q (suc k) same one = one_through es vs q k (omega (arith, same)) (behind false es k one)

-- a list of one bit, by its number
pub one_bit_list : (l : List Bool) (b : Bool) → length l ≡ 1 → not (number l == 0) ≡ b → l ≡ b ∷ []
one_bit_list [] b size is = absurd (omega (arith, size))
one_bit_list (true ∷ []) b size is = ap (λ c. c ∷ []) is
one_bit_list (false ∷ []) b size is = ap (λ c. c ∷ []) is
one_bit_list (x ∷ y ∷ l) b size is = absurd (omega (arith, size))
