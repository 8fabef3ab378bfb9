-- The number that nets hold, by its width and its bits.
use Rattle.std.proofs.Common.{◌≡◌, ℕ, List, length, Bool, ap, ◌∙◌}
use Rattle.hc_num.specs.Number.{Number}
use Rattle.hc_bits.specs.Held.{held}
use Rattle.hc_muldiv.specs.Value.{value}

abbrev number_with : Bool → ℕ → ℕ → Number
number_with s width bits = record { width = width; signed = s; bits = bits }

pub held_is : (s : Bool) (v : ℕ → Bool) (z x : List ℕ) (bits : ℕ) → length z ≡ length x → value v z ≡ bits → held s v z ≡ record (held s v x) { bits = bits }
held_is s v z x bits width is = ap (λ w. number_with s w (value v z)) width ∙ ap (λ n. number_with s (length x) n) is
