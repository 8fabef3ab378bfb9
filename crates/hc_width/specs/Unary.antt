-- Operators before one operand, and casts.
use Rattle.std.specs.Prelude.{ℕ, Bool, true, false, not, ℤ, pos, neg_ℤ, List, if◌then◌else◌}
use Rattle.hc_tree.specs.declared.refusal.Rule.TheVariants.{S11, S12}
use Rattle.hc_tree.specs.declared.refusal.Detail.TheVariants.{Nothing}
use Rattle.hc_num.specs.Number.{Number}
use Rattle.hc_core.specs.Program.{Unary}
use Rattle.hc_core.specs.Typed.{width_of}
use Rattle.hc_core.specs.declared.object.Kind.{Kind}
use Rattle.hc_core.specs.declared.expr.UnOp.{UnOp}
use Rattle.hc_core.specs.declared.expr.UnOp.TheVariants.{Neg, Not, IsZero, ToSigned, ToUnsigned}
use Rattle.hc_width.specs.Whole.{in_range, fits, number_in, holds}
use Rattle.hc_width.specs.Operand.{Operand, Whole, Of, constant_in}
use Rattle.hc_width.specs.Judged.{Judged, Gives, Breaks, unless, equal_widths}

-- a constant from -2^127 to 2^128 - 1, else S11
abbrev pub ranged : ℤ → Judged Operand
ranged v = unless (not (in_range v)) S11 (Gives (Whole v))

-- whether something holds, as a constant
abbrev pub decided : Bool → Operand
decided holds = Whole (pos (if holds then 1 else 0))

-- an operator that is written before its operand, and is no cast
abbrev pub IsPrefix : UnOp → Type 0
IsPrefix Neg = Unit {0}
IsPrefix Not = Unit {0}
IsPrefix IsZero = Unit {0}
IsPrefix ToSigned = ⊥
IsPrefix ToUnsigned = ⊥

-- an operator before a constant: `-` gives its negative, `!` 0 or 1, and `~` needs a width
abbrev pub unary_whole : UnOp → ℤ → Judged Operand
unary_whole Neg v = ranged (neg_ℤ v)
unary_whole IsZero v = Gives (decided (not (holds v)))
unary_whole _ v = Breaks S12 Nothing

-- an operator before an operand
unfoldable pub unary : UnOp → Operand → Judged Operand
unary op (Whole v) = unary_whole op v
unary op (Of e) = Gives (Of (Unary op e))

-- a constant that takes a type has to fit it
unfoldable pub fitted : ℕ → Bool → ℤ → Judged Number
fitted w s v = unless (not (fits w v)) S11 (Gives (number_in w s v))

-- the operator that a cast is in the core
abbrev pub cast_to : Bool → UnOp
cast_to true = ToSigned
cast_to false = ToUnsigned

-- A cast. Of two widths that differ the type's is named first.
unfoldable pub cast : List Kind → ℕ → Bool → Operand → Judged Operand
cast kinds w s (Whole v) = unless (not (fits w v)) S11 (Gives (Of (constant_in w s v)))
cast kinds w s (Of e) = equal_widths w (width_of kinds e) (Gives (Of (Unary (cast_to s) e)))
