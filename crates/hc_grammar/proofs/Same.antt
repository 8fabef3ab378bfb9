-- Kinds of equal numbers are equal.
use Rattle.std.proofs.Common.{◌≡◌, ℕ, List, [], ◌∷◌, refl, sym, ap, ◌∙◌}
use Rattle.std.specs.Prelude.{slice_index_or}
use Rattle.hc_lex.specs.declared.mark.Mark.{Mark}
use Rattle.hc_lex.specs.declared.mark.Mark.TheVariants as m
use Rattle.hc_grammar.specs.declared.kind.Kind.{Kind}
use Rattle.hc_grammar.specs.declared.kind.Kind.TheVariants as k
use Rattle.hc_grammar.specs.Order.{number, mark_number}

kinds : List Kind
kinds =
    k.Mark m.BraceOpen ∷ k.Mark m.BraceClose ∷ k.Mark m.ParenOpen ∷ k.Mark m.ParenClose ∷ k.Mark m.BracketOpen ∷
    k.Mark m.BracketClose ∷ k.Mark m.Semicolon ∷ k.Mark m.Comma ∷ k.Mark m.Colon ∷ k.Mark m.Dot ∷ k.Mark m.Question ∷
    k.Mark m.Assign ∷ k.Mark m.Plus ∷ k.Mark m.Minus ∷ k.Mark m.Star ∷ k.Mark m.Slash ∷ k.Mark m.Percent ∷
    k.Mark m.And ∷ k.Mark m.Or ∷ k.Mark m.Xor ∷ k.Mark m.Tilde ∷ k.Mark m.Not ∷ k.Mark m.Less ∷ k.Mark m.Greater ∷
    k.Mark m.At ∷ k.Mark m.Increment ∷ k.Mark m.Decrement ∷ k.Mark m.ShiftLeft ∷ k.Mark m.ShiftRight ∷
    k.Mark m.LessEqual ∷ k.Mark m.GreaterEqual ∷ k.Mark m.Equal ∷ k.Mark m.NotEqual ∷ k.Mark m.AndAnd ∷
    k.Mark m.OrOr ∷ k.Mark m.Take ∷ k.Mark m.Drop ∷ k.Mark m.AddAssign ∷ k.Mark m.SubtractAssign ∷
    k.Mark m.MultiplyAssign ∷ k.Mark m.DivideAssign ∷ k.Mark m.RemainderAssign ∷ k.Mark m.AndAssign ∷
    k.Mark m.OrAssign ∷ k.Mark m.XorAssign ∷ k.Mark m.ShiftLeftAssign ∷ k.Mark m.ShiftRightAssign ∷ k.Break ∷
    k.Case ∷ k.Chan ∷ k.Default ∷ k.Delay ∷ k.Do ∷ k.Else ∷ k.External ∷ k.For ∷ k.If ∷ k.IfSelect ∷ k.Int ∷
    k.Interface ∷ k.Macro ∷ k.Par ∷ k.Prialt ∷ k.Ram ∷ k.Rom ∷ k.Select ∷ k.Seq ∷ k.Set ∷ k.Signal ∷ k.Signed ∷
    k.Static ∷ k.Switch ∷ k.Unsigned ∷ k.Void ∷ k.While ∷ k.Width ∷ k.With ∷ k.Main ∷ k.Clock ∷ k.Family ∷ k.Part ∷
    k.Expr ∷ k.Proc ∷ k.BusIn ∷ k.BusOut ∷ k.Name ∷ k.Number ∷ k.Text ∷ []

kind_at : ℕ → Kind
kind_at n = slice_index_or kinds n k.Name

mark_back : (mark : Mark) → kind_at (mark_number mark) ≡ k.Mark mark
unfolding kind_at kinds mark_number
mark_back m.BraceOpen = refl
mark_back m.BraceClose = refl
mark_back m.ParenOpen = refl
mark_back m.ParenClose = refl
mark_back m.BracketOpen = refl
mark_back m.BracketClose = refl
mark_back m.Semicolon = refl
mark_back m.Comma = refl
mark_back m.Colon = refl
mark_back m.Dot = refl
mark_back m.Question = refl
mark_back m.Assign = refl
mark_back m.Plus = refl
mark_back m.Minus = refl
mark_back m.Star = refl
mark_back m.Slash = refl
mark_back m.Percent = refl
mark_back m.And = refl
mark_back m.Or = refl
mark_back m.Xor = refl
mark_back m.Tilde = refl
mark_back m.Not = refl
mark_back m.Less = refl
mark_back m.Greater = refl
mark_back m.At = refl
mark_back m.Increment = refl
mark_back m.Decrement = refl
mark_back m.ShiftLeft = refl
mark_back m.ShiftRight = refl
mark_back m.LessEqual = refl
mark_back m.GreaterEqual = refl
mark_back m.Equal = refl
mark_back m.NotEqual = refl
mark_back m.AndAnd = refl
mark_back m.OrOr = refl
mark_back m.Take = refl
mark_back m.Drop = refl
mark_back m.AddAssign = refl
mark_back m.SubtractAssign = refl
mark_back m.MultiplyAssign = refl
mark_back m.DivideAssign = refl
mark_back m.RemainderAssign = refl
mark_back m.AndAssign = refl
mark_back m.OrAssign = refl
mark_back m.XorAssign = refl
mark_back m.ShiftLeftAssign = refl
mark_back m.ShiftRightAssign = refl

back : (kind : Kind) → kind_at (number kind) ≡ kind
unfolding kind_at kinds number
back (k.Mark mark) = mark_back mark
back k.Break = refl
back k.Case = refl
back k.Chan = refl
back k.Default = refl
back k.Delay = refl
back k.Do = refl
back k.Else = refl
back k.External = refl
back k.For = refl
back k.If = refl
back k.IfSelect = refl
back k.Int = refl
back k.Interface = refl
back k.Macro = refl
back k.Par = refl
back k.Prialt = refl
back k.Ram = refl
back k.Rom = refl
back k.Select = refl
back k.Seq = refl
back k.Set = refl
back k.Signal = refl
back k.Signed = refl
back k.Static = refl
back k.Switch = refl
back k.Unsigned = refl
back k.Void = refl
back k.While = refl
back k.Width = refl
back k.With = refl
back k.Main = refl
back k.Clock = refl
back k.Family = refl
back k.Part = refl
back k.Expr = refl
back k.Proc = refl
back k.BusIn = refl
back k.BusOut = refl
back k.Name = refl
back k.Number = refl
back k.Text = refl

pub same : (a b : Kind) → number a ≡ number b → a ≡ b
same a b h = sym (back a) ∙ ap kind_at h ∙ back b
