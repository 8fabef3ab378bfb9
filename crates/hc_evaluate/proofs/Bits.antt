-- Numbers of bits.
use Rattle.std.proofs.Common.{◌<◌, ◌≤◌, ℕ, ◌*◌, arith}

-- more than 65,536 words have more than 65,536 bits
pub too_many_bits : (n w : ℕ) → 65536 < n → 1 ≤ w → 65536 < n * w
too_many_bits n w many least = grind arith
