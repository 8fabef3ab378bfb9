-- The kinds in a fixed order, by which they are told apart.
use Rattle.std.specs.Prelude.{ℕ}
use Rattle.hc_lex.specs.declared.mark.Mark.{Mark}
use Rattle.hc_lex.specs.declared.mark.Mark.TheVariants as m
use Rattle.hc_grammar.specs.declared.kind.Kind.{Kind}
use Rattle.hc_grammar.specs.declared.kind.Kind.TheVariants as k

unfoldable pub mark_number : Mark → ℕ
mark_number m.BraceOpen = 0
mark_number m.BraceClose = 1
mark_number m.ParenOpen = 2
mark_number m.ParenClose = 3
mark_number m.BracketOpen = 4
mark_number m.BracketClose = 5
mark_number m.Semicolon = 6
mark_number m.Comma = 7
mark_number m.Colon = 8
mark_number m.Dot = 9
mark_number m.Question = 10
mark_number m.Assign = 11
mark_number m.Plus = 12
mark_number m.Minus = 13
mark_number m.Star = 14
mark_number m.Slash = 15
mark_number m.Percent = 16
mark_number m.And = 17
mark_number m.Or = 18
mark_number m.Xor = 19
mark_number m.Tilde = 20
mark_number m.Not = 21
mark_number m.Less = 22
mark_number m.Greater = 23
mark_number m.At = 24
mark_number m.Increment = 25
mark_number m.Decrement = 26
mark_number m.ShiftLeft = 27
mark_number m.ShiftRight = 28
mark_number m.LessEqual = 29
mark_number m.GreaterEqual = 30
mark_number m.Equal = 31
mark_number m.NotEqual = 32
mark_number m.AndAnd = 33
mark_number m.OrOr = 34
mark_number m.Take = 35
mark_number m.Drop = 36
mark_number m.AddAssign = 37
mark_number m.SubtractAssign = 38
mark_number m.MultiplyAssign = 39
mark_number m.DivideAssign = 40
mark_number m.RemainderAssign = 41
mark_number m.AndAssign = 42
mark_number m.OrAssign = 43
mark_number m.XorAssign = 44
mark_number m.ShiftLeftAssign = 45
mark_number m.ShiftRightAssign = 46

-- the number of a kind; marks come first
unfoldable pub number : Kind → ℕ
number (k.Mark mark) = mark_number mark
number k.Break = 47
number k.Case = 48
number k.Chan = 49
number k.Default = 50
number k.Delay = 51
number k.Do = 52
number k.Else = 53
number k.External = 54
number k.For = 55
number k.If = 56
number k.IfSelect = 57
number k.Int = 58
number k.Interface = 59
number k.Macro = 60
number k.Par = 61
number k.Prialt = 62
number k.Ram = 63
number k.Rom = 64
number k.Select = 65
number k.Seq = 66
number k.Set = 67
number k.Signal = 68
number k.Signed = 69
number k.Static = 70
number k.Switch = 71
number k.Unsigned = 72
number k.Void = 73
number k.While = 74
number k.Width = 75
number k.With = 76
number k.Main = 77
number k.Clock = 78
number k.Family = 79
number k.Part = 80
number k.Expr = 81
number k.Proc = 82
number k.BusIn = 83
number k.BusOut = 84
number k.Name = 85
number k.Number = 86
number k.Text = 87
