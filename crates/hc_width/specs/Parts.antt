-- Bit ranges and choices.
use Rattle.std.specs.Prelude.{not, ◌&&◌, nat_le, nat_lt, ℤ, pos, List, if◌then◌else◌}
use Rattle.hc_tree.specs.declared.refusal.Rule.TheVariants.{S11, S12, S14}
use Rattle.hc_tree.specs.declared.refusal.Detail.TheVariants.{Nothing}
use Rattle.hc_core.specs.Program.{Expression, Slice, Choice}
use Rattle.hc_core.specs.Typed.{width_of, sign_of}
use Rattle.hc_core.specs.declared.object.Kind.{Kind}
use Rattle.hc_width.specs.Whole.{fits, holds}
use Rattle.hc_width.specs.Operand.{Operand, Whole, Of, constant_in, condition_in}
use Rattle.hc_width.specs.Judged.{Judged, Gives, Breaks, unless, equal_widths, equal_signs}

-- the bits of an expression from a high one to a low one, which are within its width
abbrev pub cut_within : List Kind → Expression → ℤ → ℤ → Judged Operand
cut_within kinds e (pos high) (pos low) =
    unless (not (nat_le low high && nat_lt high (width_of kinds e))) S14 (Gives (Of (Slice e high low)))
cut_within kinds e _ _ = Breaks S14 Nothing

-- a bit range of an operand, which has to be typed; one bit n is the range from n to n
unfoldable pub cut : List Kind → Operand → ℤ → ℤ → Judged Operand
cut kinds (Whole v) high low = Breaks S12 Nothing
cut kinds (Of e) high low = cut_within kinds e high low

-- a condition beside what is typed
abbrev pub condition : Operand → Expression
condition (Whole c) = condition_in c
condition (Of c) = c

-- a choice between two constants needs a constant condition
abbrev pub choose_whole : Operand → ℤ → ℤ → Judged Operand
choose_whole (Whole c) a b = Gives (Whole (if holds c then a else b))
choose_whole (Of c) a b = Breaks S12 Nothing

-- `c ? a : b`: both sides have one type, which a constant takes from the other
unfoldable pub choose : List Kind → Operand → Operand → Operand → Judged Operand
choose kinds c (Whole a) (Whole b) = choose_whole c a b
choose kinds c (Of a) (Of b) = equal_widths (width_of kinds a) (width_of kinds b)
    (equal_signs (sign_of kinds a) (sign_of kinds b) (Gives (Of (Choice (condition c) a b))))
choose kinds c (Of a) (Whole b) = unless (not (fits (width_of kinds a) b)) S11
    (Gives (Of (Choice (condition c) a (constant_in (width_of kinds a) (sign_of kinds a) b))))
choose kinds c (Whole a) (Of b) = unless (not (fits (width_of kinds b) a)) S11
    (Gives (Of (Choice (condition c) (constant_in (width_of kinds b) (sign_of kinds b) a) b)))
