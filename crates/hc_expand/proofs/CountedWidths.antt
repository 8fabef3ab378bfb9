-- How many parts the width rules add to those of their operands.
use Rattle.std.proofs.Common.{◌≡◌, ℕ, ◌+◌, ◌≤◌, ◌&&◌, ◌==◌, Bool, not, ℤ, pos, negsuc, List, ap, nat_le, nat_lt, arith}
use Rattle.std.specs.Prelude.{◌^◌, neg_ℤ, ◌+ℤ◌, ◌-ℤ◌, ◌*ℤ◌, int_div, int_rem}
use Rattle.std.specs.Int.{int_div_euclid}
use Rattle.hc_tree.specs.declared.refusal.Rule.TheVariants.{S8, S10, S11, S13, S14}
use Rattle.hc_tree.specs.declared.refusal.Rule.{Rule}
use Rattle.hc_tree.specs.declared.refusal.Detail.{Detail}
use Rattle.hc_core.specs.Program.{Expression}
use Rattle.hc_core.specs.Parts.{expression_parts}
use Rattle.hc_core.specs.Typed.{width_of, sign_of, Group, Arithmetic, Division, Bitwise, Comparison, Shifting, Joining, Taking, Dropping, Logic, group_of}
use Rattle.hc_core.specs.declared.expr.UnOp.{UnOp}
use Rattle.hc_core.specs.declared.expr.UnOp.TheVariants as un
use Rattle.hc_core.specs.declared.expr.BinOp.{BinOp}
use Rattle.hc_core.specs.declared.expr.BinOp.TheVariants as op
use Rattle.hc_core.specs.declared.object.Kind.{Kind}
use Rattle.hc_width.specs.Whole.{fits, is_negative, in_range}
use Rattle.hc_width.specs.Operand.{Operand, Whole, Of}
use Rattle.hc_width.specs.Judged.{Judged, Gives, Breaks, unless, equal_widths, equal_signs}
use Rattle.hc_width.specs.Unary.{ranged, unary, unary_whole, cast}
use Rattle.hc_width.specs.Binary.{by_bits, divided, shifted, binary_whole, needs_unsigned, alike, shifting, joining, within, logic, by_group, binary}
use Rattle.hc_width.specs.Parts.{cut, cut_within, condition, choose, choose_whole}
use Rattle.hc_width.proofs.Steps.{unless_gives, widths_give, signs_give}

-- the parts of an operand: a constant has none yet
abbrev pub operand_parts : Operand → ℕ
operand_parts (Whole v) = 0
operand_parts (Of e) = expression_parts e

-- What is judged has at most so many parts.
abbrev pub Few : ℕ → Judged Operand → Type 0
Few n j = (r : Operand) → j ≡ Gives r → operand_parts r ≤ n

-- ---- rules one after another

pub given_few : (n : ℕ) (a : Operand) → operand_parts a ≤ n → Few n (Gives a)
given_few n a le r is = let same : a ≡ r = cc in let parts = ap operand_parts same in omega arith

breaks_few : (n : ℕ) (rule : Rule) (detail : Detail) → Few n (Breaks rule detail)
breaks_few n rule detail r is = absurd (cc)

unless_few : (n : ℕ) (broken : Bool) (rule : Rule) (j : Judged Operand) → Few n j → Few n (unless broken rule j)
unless_few n broken rule j few r is = few r (unless_gives broken rule j r is).1

widths_few : (n w v : ℕ) (j : Judged Operand) → Few n j → Few n (equal_widths w v j)
widths_few n w v j few r is = few r (widths_give w v j r is).1

signs_few : (n : ℕ) (s t : Bool) (j : Judged Operand) → Few n j → Few n (equal_signs s t j)
signs_few n s t j few r is = few r (signs_give s t j r is).1

-- ---- constants

ranged_few : (n : ℕ) (v : ℤ) → Few n (ranged v)
ranged_few n v = unless_few n (not (in_range v)) S11 _ (given_few n (Whole v) (omega arith))

bits_few : (n : ℕ) (f : ℕ → ℕ → ℕ) (a b : ℤ) → Few n (by_bits f a b)
bits_few n f (pos a) (pos b) = given_few n _ (omega arith)
bits_few n f (pos a) (negsuc b) = breaks_few n _ _
bits_few n f (negsuc a) b = breaks_few n _ _

divided_few : (n : ℕ) (v d : ℤ) → Few n (divided v d)
divided_few n v (pos d) = unless_few n (d == 0) S8 _ (ranged_few n v)
divided_few n v (negsuc d) = ranged_few n v

shifted_few : (n : ℕ) (f : ℕ → ℤ) (b : ℤ) → Few n (shifted f b)
shifted_few n f (pos k) = ranged_few n (f k)
shifted_few n f (negsuc k) = breaks_few n _ _

whole_few : (n : ℕ) (o : BinOp) (a b : ℤ) → Few n (binary_whole o a b)
unfolding binary_whole
whole_few n op.Add a b = ranged_few n (a +ℤ b)
whole_few n op.Sub a b = ranged_few n (a -ℤ b)
whole_few n op.Mul a b = ranged_few n (a *ℤ b)
whole_few n op.Div a b = divided_few n (int_div a b) b
whole_few n op.Rem a b = divided_few n (int_rem a b) b
whole_few n op.And a b = bits_few n _ a b
whole_few n op.Or a b = bits_few n _ a b
whole_few n op.Xor a b = bits_few n _ a b
whole_few n op.Eq a b = given_few n _ (omega arith)
whole_few n op.Ne a b = given_few n _ (omega arith)
whole_few n op.Lt a b = given_few n _ (omega arith)
whole_few n op.Le a b = given_few n _ (omega arith)
whole_few n op.Gt a b = given_few n _ (omega arith)
whole_few n op.Ge a b = given_few n _ (omega arith)
whole_few n op.Shl a b = shifted_few n (λ k. a *ℤ pos (2 ^ k)) b
whole_few n op.Shr a b = shifted_few n (λ k. int_div_euclid a (pos (2 ^ k))) b
whole_few n op.Concat a b = breaks_few n _ _
whole_few n op.Take a b = breaks_few n _ _
whole_few n op.Drop a b = breaks_few n _ _
whole_few n op.Both a b = given_few n _ (omega arith)
whole_few n op.Either a b = given_few n _ (omega arith)

-- ---- operators before one operand, and casts

unary_whole_few : (n : ℕ) (o : UnOp) (v : ℤ) → Few n (unary_whole o v)
unary_whole_few n un.Neg v = ranged_few n (neg_ℤ v)
unary_whole_few n un.IsZero v = given_few n _ (omega arith)
unary_whole_few n un.Not v = breaks_few n _ _
unary_whole_few n un.ToSigned v = breaks_few n _ _
unary_whole_few n un.ToUnsigned v = breaks_few n _ _

pub unary_few : (o : UnOp) (a : Operand) → Few (operand_parts a + 1) (unary o a)
unfolding unary
unary_few o (Whole v) = unary_whole_few 1 o v
unary_few o (Of e) = given_few (expression_parts e + 1) _ (omega arith)

pub cast_few : (kinds : List Kind) (w : ℕ) (s : Bool) (a : Operand) → Few (operand_parts a + 1) (cast kinds w s a)
unfolding cast
cast_few kinds w s (Whole v) = unless_few 1 (not (fits w v)) S11 _ (given_few 1 _ (omega arith))
cast_few kinds w s (Of e) = widths_few (expression_parts e + 1) w (width_of kinds e) _ (given_few (expression_parts e + 1) _ (omega arith))

-- ---- operators between two operands: one more part, and one for a constant

module _ (kinds : List Kind) (o : BinOp) where
  alike_few : (a b : Operand) → Few (operand_parts a + operand_parts b + 2) (alike kinds o a b)
  alike_few (Whole a) (Whole b) = whole_few _ o a b
  alike_few (Of a) (Of b) =
      let n = operand_parts (Of a) + operand_parts (Of b) + 2 in
      widths_few n _ _ _ (signs_few n _ _ _ (unless_few n (needs_unsigned (group_of o) && sign_of kinds a) S10 _ (given_few n _ (omega arith))))
  alike_few (Of a) (Whole b) =
      let n = operand_parts (Of a) + operand_parts (Whole b) + 2 in
      unless_few n (needs_unsigned (group_of o) && sign_of kinds a) S10 _ (unless_few n (not (fits (width_of kinds a) b)) S11 _ (given_few n _ (omega arith)))
  alike_few (Whole a) (Of b) =
      let n = operand_parts (Whole a) + operand_parts (Of b) + 2 in
      unless_few n (needs_unsigned (group_of o) && sign_of kinds b) S10 _ (unless_few n (not (fits (width_of kinds b) a)) S11 _ (given_few n _ (omega arith)))

  shifting_few : (a b : Operand) → Few (operand_parts a + operand_parts b + 2) (shifting kinds o a b)
  shifting_few (Whole a) (Whole b) = whole_few _ o a b
  shifting_few (Of a) (Of b) =
      let n = operand_parts (Of a) + operand_parts (Of b) + 2 in
      unless_few n (sign_of kinds b) S10 _ (given_few n _ (omega arith))
  shifting_few (Of a) (Whole b) =
      let n = operand_parts (Of a) + operand_parts (Whole b) + 2 in
      unless_few n (is_negative b) S11 _ (given_few n _ (omega arith))
  shifting_few (Whole a) (Of b) =
      let n = operand_parts (Whole a) + operand_parts (Of b) + 2 in
      unless_few n (sign_of kinds b) S10 _ (unless_few n (not (fits (width_of kinds b) a)) S11 _ (given_few n _ (omega arith)))

  joining_few : (a b : Operand) → Few (operand_parts a + operand_parts b + 2) (joining kinds o a b)
  joining_few (Of a) (Of b) =
      let n = operand_parts (Of a) + operand_parts (Of b) + 2 in
      unless_few n (nat_lt 128 (width_of kinds a + width_of kinds b)) S13 _ (given_few n _ (omega arith))
  joining_few (Of a) (Whole b) = breaks_few _ _ _
  joining_few (Whole a) b = breaks_few _ _ _

  within_few : (allowed : ℕ → ℕ → Bool) (a b : Operand) → Few (operand_parts a + operand_parts b + 2) (within kinds o allowed a b)
  within_few allowed (Whole a) b = breaks_few _ _ _
  within_few allowed (Of a) (Of b) = breaks_few _ _ _
  within_few allowed (Of a) (Whole (negsuc k)) = breaks_few _ _ _
  within_few allowed (Of a) (Whole (pos k)) =
      let n = operand_parts (Of a) + operand_parts (Whole (pos k)) + 2 in
      unless_few n (not (allowed k (width_of kinds a))) S14 _ (given_few n _ (omega arith))

  logic_few : (a b : Operand) → Few (operand_parts a + operand_parts b + 2) (logic o a b)
  logic_few (Whole a) (Whole b) = whole_few _ o a b
  logic_few (Of a) (Of b) = given_few _ _ (omega arith)
  logic_few (Of a) (Whole b) = given_few _ _ (omega arith)
  logic_few (Whole a) (Of b) = given_few _ _ (omega arith)

  group_few : (g : Group) (a b : Operand) → Few (operand_parts a + operand_parts b + 2) (by_group kinds g o a b)
  group_few Arithmetic a b = alike_few a b
  group_few Division a b = alike_few a b
  group_few Bitwise a b = alike_few a b
  group_few Comparison a b = alike_few a b
  group_few Shifting a b = shifting_few a b
  group_few Joining a b = joining_few a b
  group_few Taking a b = within_few (λ k w. nat_le 1 k && nat_le k w) a b
  group_few Dropping a b = within_few (λ k w. nat_lt k w) a b
  group_few Logic a b = logic_few a b

  pub binary_few : (a b : Operand) → Few (operand_parts a + operand_parts b + 2) (binary kinds o a b)
  unfolding binary
  binary_few a b = group_few (group_of o) a b

-- ---- bit ranges and choices

cut_within_few : (kinds : List Kind) (e : Expression) (high low : ℤ) → Few (expression_parts e + 1) (cut_within kinds e high low)
cut_within_few kinds e (pos high) (pos low) =
    unless_few _ (not (nat_le low high && nat_lt high (width_of kinds e))) S14 _ (given_few (expression_parts e + 1) _ (omega arith))
cut_within_few kinds e (pos high) (negsuc low) = breaks_few _ _ _
cut_within_few kinds e (negsuc high) low = breaks_few _ _ _

pub cut_few : (kinds : List Kind) (a : Operand) (high low : ℤ) → Few (operand_parts a + 1) (cut kinds a high low)
unfolding cut
cut_few kinds (Whole v) high low = breaks_few _ _ _
cut_few kinds (Of e) high low = cut_within_few kinds e high low

pub condition_few : (c : Operand) → expression_parts (condition c) ≤ operand_parts c + 1
condition_few (Whole v) = omega arith
condition_few (Of e) = omega arith

choose_whole_few : (n : ℕ) (c : Operand) (a b : ℤ) → Few n (choose_whole c a b)
choose_whole_few n (Whole c) a b = given_few n _ (omega arith)
choose_whole_few n (Of c) a b = breaks_few n _ _

pub choose_few : (kinds : List Kind) (c a b : Operand) → Few (operand_parts c + operand_parts a + operand_parts b + 3) (choose kinds c a b)
unfolding choose
choose_few kinds c (Whole a) (Whole b) = choose_whole_few _ c a b
choose_few kinds c (Of a) (Of b) =
    let n = operand_parts c + operand_parts (Of a) + operand_parts (Of b) + 3 in
    widths_few n _ _ _ (signs_few n _ _ _ (given_few n _ (let k = condition_few c in omega arith)))
choose_few kinds c (Of a) (Whole b) =
    let n = operand_parts c + operand_parts (Of a) + operand_parts (Whole b) + 3 in
    unless_few n (not (fits (width_of kinds a) b)) S11 _ (given_few n _ (let k = condition_few c in omega arith))
choose_few kinds c (Whole a) (Of b) =
    let n = operand_parts c + operand_parts (Whole a) + operand_parts (Of b) + 3 in
    unless_few n (not (fits (width_of kinds b) a)) S11 _ (given_few n _ (let k = condition_few c in omega arith))
