-- What the parts of a pass keep, one step at a time.
use Rattle.std.proofs.Common.{◌≡◌, ◌<◌, ◌≤◌, ℕ, zero, suc, ◌+◌, ◌*◌, ◌/◌, ◌%◌, ◌^◌, List, [], ◌∷◌, ◌++◌, length, drop, take, set, get_or, eqb, Bool, true, false, Some, refl, ap, ap₂, sym, ◌∙◌, arith, add-one, length-append, length-drop, append_assoc}
use Rattle.std.specs.Prelude.{map, slice_index}
use Rattle.std.specs.List.{range_with_len}
use Rattle.std.proofs.lemmas.List.{drop_more, length-map, map-append, take_more_set, length-take-le}
use Rattle.std.proofs.lemmas.List.FromFn.{length-map-range_with_len, map-range_with_len_more}
use Rattle.std.proofs.Math.Nat.{pow-suc, div-div-eq-div-mul}
use Rattle.std.proofs.Math.Pow.{pow_mono}
use mir.Val.{bool_byte}
use Rattle.hc_stim.specs.Bench.{state_after, next_from}
use Rattle.hc_net.specs.Bits.{bit, number}
use Rattle.hc_net.specs.Run.{Trace, first_state, state_at, input_bits_from}
use Rattle.hc_net.specs.declared.net.Port.{Port}
use Rattle.hc_net.specs.declared.net.Port.TheVariants.{Input, Output}
use Rattle.hc_net.specs.declared.net.RawNet.{RawNet}
use Rattle.hc_netsim.specs.Running.{step}
use Rattle.hc_netsim.specs.Pass.{bits_of, input_bit}

-- the state after clocks is that of the netlist at the edge
pub states : (raw : RawNet) (trace : Trace) (t : ℕ) → state_after (step raw) (first_state raw) trace t ≡ Some (state_at raw trace t)
states raw trace zero = refl
states raw trace (suc t) = ap (λ o. next_from (step raw) o (trace t)) (states raw trace t)

-- what is left of a list at an item
pub at_item : {X : Type 0} (xs : List X) (i : ℕ) (x y : X) → i < length xs → x ≡ get_or xs i x → x ≡ y → drop i xs ≡ y ∷ drop (i + 1) xs
at_item xs i x y within is same = drop_more xs i x within ∙ ap (λ z. z ∷ drop (i + 1) xs) (sym is ∙ same)

-- the bits of an input port are as many as its width, and the other ports' are as many whatever its number
pub input_size : (p width : ℕ) (name : List ℕ) (pins : List (List ℕ)) (ports : List Port) → length (input_bits_from p (Input name width pins ∷ ports)) ≡ width + length (input_bits_from (p + 1) ports)
input_size p width name pins ports = length-append (map (λ i. (p, i)) (range_with_len 0 width)) (input_bits_from (p + 1) ports) ∙ ap (λ n. n + length (input_bits_from (p + 1) ports)) (length-map-range_with_len (λ i. (p, i)) 0 width)

pub same_size : (p q : ℕ) (ports : List Port) → length (input_bits_from p ports) ≡ length (input_bits_from q ports)
same_size p q [] = refl
same_size p q (Input name width pins ∷ ports) = input_size p width name pins ports ∙ ap (λ n. width + n) (same_size (p + 1) (q + 1) ports) ∙ sym (input_size q width name pins ports)
same_size p q (Output name width pins from ∷ ports) = same_size p q ports

-- the bits of an input port are the lowest ones of its number
port_bits : (inputs : List ℕ) (p a n : ℕ) → map (input_bit inputs) (map (λ i. (p, i)) (range_with_len a n)) ≡ map (bit (slice_index inputs p)) (range_with_len a n)
port_bits inputs p a zero = refl
port_bits inputs p a (suc n) = ap (λ bits. bit (slice_index inputs p) a ∷ bits) (port_bits inputs p (a + 1) n)

pub input_front : (inputs : List ℕ) (before : List Bool) (p width : ℕ) (name : List ℕ) (pins : List (List ℕ)) (ports : List Port) → before ++ map (input_bit inputs) (input_bits_from p (Input name width pins ∷ ports)) ≡ (before ++ bits_of (slice_index inputs p) width) ++ map (input_bit inputs) (input_bits_from (p + 1) ports)
input_front inputs before p width name pins ports =
    let rest = map (input_bit inputs) (input_bits_from (p + 1) ports) in
    ap (λ bits. before ++ bits) (map-append (input_bit inputs) (map (λ i. (p, i)) (range_with_len 0 width)) (input_bits_from (p + 1) ports) ∙ ap (λ bits. bits ++ rest) (port_bits inputs p 0 width))
    ∙ sym (append_assoc before (bits_of (slice_index inputs p) width) rest)

-- a number is below 2 ^ the number of its bits
number_below : (bits : List Bool) → number bits < 2 ^ length bits
number_below [] = omega arith
number_below (true ∷ bits) = let h = number_below bits in rw (pow-suc 2 (length bits)) (omega arith)
number_below (false ∷ bits) = let h = number_below bits in rw (pow-suc 2 (length bits)) (omega arith)

pub bits_fit : (bits : List Bool) (k n : ℕ) → 0 < k → length bits ≤ 128 → n ≡ number (drop k bits) → 2 * n + 1 < 2 ^ 128
bits_fit bits k n some width is =
    let below = number_below (drop k bits) in
    let size : length (drop k bits) ≤ 127 = omega (arith, length-drop k bits) in
    let top = pow_mono {i = length (drop k bits)} {j = 127} size in
    omega arith

pub number_fits : (v : ℕ → Bool) (nets : List ℕ) (k n : ℕ) → 0 < k → length nets ≤ 128 → n ≡ number (map v (drop k nets)) → 2 * n + 1 < 2 ^ 128
number_fits v nets k n some width is =
    let below = number_below (map v (drop k nets)) in
    let size : length (map v (drop k nets)) ≤ 127 = omega (arith, length-map (drop k nets) v, length-drop k nets) in
    let top = pow_mono {i = length (map v (drop k nets))} {j = 127} size in
    omega arith

-- the next half of a number
pub half_more : (n i : ℕ) → n / 2 ^ i / 2 ≡ n / 2 ^ (i + 1)
half_more n i = div-div-eq-div-mul n (2 ^ i) 2 ∙ ap (λ m. n / m) (rw (add-one, pow-suc 2 i) refl)

-- the bits of a number, one more
pub bits_more : (n i rest : ℕ) (bits : List Bool) → i < length bits → rest ≡ n / 2 ^ i → take i bits ≡ bits_of n i → take (i + 1) (set bits i (eqb (rest % 2) 1)) ≡ bits_of n (i + 1)
bits_more n i rest bits within is same =
    take_more_set bits i (eqb (rest % 2) 1) within
    ∙ ap₂ (λ bs b. bs ++ b ∷ []) same (ap (λ m. eqb (m % 2) 1) is)
    ∙ sym (map-range_with_len_more (bit n) 0 i i (omega arith))

-- the size of a part of a list
pub part_size : {X : Type 0} (xs : List X) (from width n : ℕ) → n ≡ width → from + width ≤ length xs → length (take n (drop from xs)) ≡ width
part_size xs from width n is within = ap (λ m. length (take m (drop from xs))) is ∙ length-take-le width (drop from xs) (omega (arith, length-drop from xs))

-- a bit as a number
pub one_bit : (b : Bool) (n : ℕ) → n ≡ bool_byte b → n ≤ 1
one_bit true n is = omega arith
one_bit false n is = omega arith
