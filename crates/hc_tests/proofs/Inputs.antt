-- The numbers of the inputs of a netlist, one after another.
use Rattle.std.proofs.Common.{◌≡◌, ◌<◌, ℕ, zero, suc, ◌^◌, List, [], ◌∷◌, length, refl, ap, arith}
use Rattle.std.specs.Prelude.{slice_index}
use Rattle.hc_stim.specs.Bench.{AreInputs}

pub no_inputs : AreInputs [] []
no_inputs = record { count = refl; fit = λ k h. absurd (omega (arith, h)) }

fits : (w x : ℕ) (widths inputs : List ℕ) → x < 2 ^ w → AreInputs widths inputs → (k : ℕ) → k < length (w ∷ widths) → slice_index (x ∷ inputs) k < 2 ^ slice_index (w ∷ widths) k
fits w x widths inputs within are zero h = within
fits w x widths inputs within are (suc k) h = are.fit k (omega (arith, h))

pub more_inputs : (w x : ℕ) (widths inputs : List ℕ) → x < 2 ^ w → AreInputs widths inputs → AreInputs (w ∷ widths) (x ∷ inputs)
more_inputs w x widths inputs within are = record { count = ap (λ n. suc n) are.count; fit = fits w x widths inputs within are }
