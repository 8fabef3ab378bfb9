-- Operators between two operands.
use Rattle.std.specs.Prelude.{ℕ, ◌+◌, ◌^◌, Bool, true, false, not, ◌&&◌, ◌||◌, ◌==◌, nat_le, nat_lt, ℤ, pos, negsuc, ◌+ℤ◌, ◌-ℤ◌, ◌*ℤ◌, int_le, int_lt, int_div, int_rem, bit_and, bit_or, bit_xor, List}
use Rattle.std.specs.Int.{int_div_euclid}
use Rattle.hc_tree.specs.declared.refusal.Rule.TheVariants.{S8, S10, S11, S12, S13, S14}
use Rattle.hc_tree.specs.declared.refusal.Detail.TheVariants.{Nothing}
use Rattle.hc_core.specs.Program.{Binary}
use Rattle.hc_core.specs.Typed.{width_of, sign_of, Group, Arithmetic, Division, Bitwise, Comparison, Shifting, Joining, Taking, Dropping, Logic, group_of}
use Rattle.hc_core.specs.declared.object.Kind.{Kind}
use Rattle.hc_core.specs.declared.expr.BinOp.{BinOp}
use Rattle.hc_core.specs.declared.expr.BinOp.TheVariants as op
use Rattle.hc_width.specs.Whole.{fits, holds, is_negative}
use Rattle.hc_width.specs.Operand.{Operand, Whole, Of, constant_in, condition_in}
use Rattle.hc_width.specs.Judged.{Judged, Gives, Breaks, unless, equal_widths, equal_signs}
use Rattle.hc_width.specs.Unary.{ranged, decided}

-- ---- two constants

-- whole numbers that aren't negative, bit by bit; S8 where one is
abbrev pub by_bits : (ℕ → ℕ → ℕ) → ℤ → ℤ → Judged Operand
by_bits f (pos a) (pos b) = Gives (Whole (pos (f a b)))
by_bits f _ _ = Breaks S8 Nothing

-- a quotient towards 0, or a remainder with the sign of the dividend; S8 by 0
abbrev pub divided : ℤ → ℤ → Judged Operand
divided v (pos d) = unless (d == 0) S8 (ranged v)
divided v (negsuc d) = ranged v

-- a shift by a power of 2, rounded down; S11 by a negative amount
abbrev pub shifted : (ℕ → ℤ) → ℤ → Judged Operand
shifted f (pos n) = ranged (f n)
shifted f (negsuc n) = Breaks S11 Nothing

unfoldable pub binary_whole : BinOp → ℤ → ℤ → Judged Operand
binary_whole op.Add a b = ranged (a +ℤ b)
binary_whole op.Sub a b = ranged (a -ℤ b)
binary_whole op.Mul a b = ranged (a *ℤ b)
binary_whole op.Div a b = divided (int_div a b) b
binary_whole op.Rem a b = divided (int_rem a b) b
binary_whole op.And a b = by_bits bit_and a b
binary_whole op.Or a b = by_bits bit_or a b
binary_whole op.Xor a b = by_bits bit_xor a b
binary_whole op.Eq a b = Gives (decided (int_le a b && int_le b a))
binary_whole op.Ne a b = Gives (decided (not (int_le a b && int_le b a)))
binary_whole op.Lt a b = Gives (decided (int_lt a b))
binary_whole op.Le a b = Gives (decided (int_le a b))
binary_whole op.Gt a b = Gives (decided (int_lt b a))
binary_whole op.Ge a b = Gives (decided (int_le b a))
binary_whole op.Shl a b = shifted (λ n. a *ℤ pos (2 ^ n)) b
binary_whole op.Shr a b = shifted (λ n. int_div_euclid a (pos (2 ^ n))) b
binary_whole op.Concat a b = Breaks S12 Nothing
binary_whole op.Take a b = Breaks S12 Nothing
binary_whole op.Drop a b = Breaks S12 Nothing
binary_whole op.Both a b = Gives (decided (holds a && holds b))
binary_whole op.Either a b = Gives (decided (holds a || holds b))

-- ---- an operand that is typed, or two

-- a division needs operands without a sign
abbrev pub needs_unsigned : Group → Bool
needs_unsigned Division = true
needs_unsigned _ = false

-- Operands of one type. A constant takes the type of the typed operand beside it.
abbrev pub alike : List Kind → BinOp → Operand → Operand → Judged Operand
alike kinds o (Whole a) (Whole b) = binary_whole o a b
alike kinds o (Of a) (Of b) = equal_widths (width_of kinds a) (width_of kinds b)
    (equal_signs (sign_of kinds a) (sign_of kinds b)
    (unless (needs_unsigned (group_of o) && sign_of kinds a) S10 (Gives (Of (Binary o a b)))))
alike kinds o (Of a) (Whole b) = unless (needs_unsigned (group_of o) && sign_of kinds a) S10
    (unless (not (fits (width_of kinds a) b)) S11 (Gives (Of (Binary o a (constant_in (width_of kinds a) (sign_of kinds a) b)))))
alike kinds o (Whole a) (Of b) = unless (needs_unsigned (group_of o) && sign_of kinds b) S10
    (unless (not (fits (width_of kinds b) a)) S11 (Gives (Of (Binary o (constant_in (width_of kinds b) (sign_of kinds b) a) b))))

-- A shift by an unsigned amount of any width, or by a constant that isn't negative, which has 128 bits in the core. A
-- constant that is shifted by a typed amount takes the type of the amount.
abbrev pub shifting : List Kind → BinOp → Operand → Operand → Judged Operand
shifting kinds o (Whole a) (Whole b) = binary_whole o a b
shifting kinds o (Of a) (Of b) = unless (sign_of kinds b) S10 (Gives (Of (Binary o a b)))
shifting kinds o (Of a) (Whole b) = unless (is_negative b) S11 (Gives (Of (Binary o a (constant_in 128 false b))))
shifting kinds o (Whole a) (Of b) = unless (sign_of kinds b) S10
    (unless (not (fits (width_of kinds b) a)) S11 (Gives (Of (Binary o (constant_in (width_of kinds b) false a) b))))

-- two typed operands whose widths add up to at most 128
abbrev pub joining : List Kind → BinOp → Operand → Operand → Judged Operand
joining kinds o (Of a) (Of b) = unless (nat_lt 128 (width_of kinds a + width_of kinds b)) S13 (Gives (Of (Binary o a b)))
joining kinds o _ _ = Breaks S12 Nothing

-- so many bits taken or dropped: a constant that the width of the operand allows
abbrev pub within : List Kind → BinOp → (ℕ → ℕ → Bool) → Operand → Operand → Judged Operand
within kinds o allowed (Whole a) b = Breaks S12 Nothing
within kinds o allowed (Of a) (Of b) = Breaks S8 Nothing
within kinds o allowed (Of a) (Whole (negsuc n)) = Breaks S14 Nothing
within kinds o allowed (Of a) (Whole (pos n)) =
    unless (not (allowed n (width_of kinds a))) S14 (Gives (Of (Binary o a (constant_in 128 false (pos n)))))

-- two operands of any types; a constant beside a typed one counts as one bit
abbrev pub logic : BinOp → Operand → Operand → Judged Operand
logic o (Whole a) (Whole b) = binary_whole o a b
logic o (Of a) (Of b) = Gives (Of (Binary o a b))
logic o (Of a) (Whole b) = Gives (Of (Binary o a (condition_in b)))
logic o (Whole a) (Of b) = Gives (Of (Binary o (condition_in a) b))

abbrev pub by_group : List Kind → Group → BinOp → Operand → Operand → Judged Operand
by_group kinds Arithmetic o a b = alike kinds o a b
by_group kinds Division o a b = alike kinds o a b
by_group kinds Bitwise o a b = alike kinds o a b
by_group kinds Comparison o a b = alike kinds o a b
by_group kinds Shifting o a b = shifting kinds o a b
by_group kinds Joining o a b = joining kinds o a b
by_group kinds Taking o a b = within kinds o (λ n w. nat_le 1 n && nat_le n w) a b
by_group kinds Dropping o a b = within kinds o (λ n w. nat_lt n w) a b
by_group kinds Logic o a b = logic o a b

-- an operator between two operands
unfoldable pub binary : List Kind → BinOp → Operand → Operand → Judged Operand
binary kinds o a b = by_group kinds (group_of o) o a b
