-- The marks, by their bytes: one byte, two or three. The longest that stands at a place is taken.
use Rattle.std.specs.Prelude.{ℕ, ◌&&◌, ◌==◌, if◌then◌else◌, Option, Some, None}
use Rattle.hc_lex.specs.declared.mark.Mark.{Mark}
use Rattle.hc_lex.specs.declared.mark.Mark.TheVariants.{BraceOpen, BraceClose, ParenOpen, ParenClose, BracketOpen, BracketClose, Semicolon, Comma, Colon, Dot, Question, Assign, Plus, Minus, Star, Slash, Percent, And, Or, Xor, Tilde, Not, Less, Greater, At, Increment, Decrement, ShiftLeft, ShiftRight, LessEqual, GreaterEqual, Equal, NotEqual, AndAnd, OrOr, Take, Drop, AddAssign, SubtractAssign, MultiplyAssign, DivideAssign, RemainderAssign, AndAssign, OrAssign, XorAssign, ShiftLeftAssign, ShiftRightAssign}

-- { } ( ) [ ] ; , : . ? = + - * / % & | ^ ~ ! < > @
unfoldable pub one : ℕ → Option Mark
one b =
    if b == 123 then Some BraceOpen
    else (if b == 125 then Some BraceClose
    else (if b == 40 then Some ParenOpen
    else (if b == 41 then Some ParenClose
    else (if b == 91 then Some BracketOpen
    else (if b == 93 then Some BracketClose
    else (if b == 59 then Some Semicolon
    else (if b == 44 then Some Comma
    else (if b == 58 then Some Colon
    else (if b == 46 then Some Dot
    else (if b == 63 then Some Question
    else (if b == 61 then Some Assign
    else (if b == 43 then Some Plus
    else (if b == 45 then Some Minus
    else (if b == 42 then Some Star
    else (if b == 47 then Some Slash
    else (if b == 37 then Some Percent
    else (if b == 38 then Some And
    else (if b == 124 then Some Or
    else (if b == 94 then Some Xor
    else (if b == 126 then Some Tilde
    else (if b == 33 then Some Not
    else (if b == 60 then Some Less
    else (if b == 62 then Some Greater
    else (if b == 64 then Some At
    else (None)))))))))))))))))))))))))

-- <= >= == != += -= *= /= %= &= |= ^=, by the first byte
unfoldable pub with_equals : ℕ → Option Mark
with_equals b =
    if b == 60 then Some LessEqual
    else (if b == 62 then Some GreaterEqual
    else (if b == 61 then Some Equal
    else (if b == 33 then Some NotEqual
    else (if b == 43 then Some AddAssign
    else (if b == 45 then Some SubtractAssign
    else (if b == 42 then Some MultiplyAssign
    else (if b == 47 then Some DivideAssign
    else (if b == 37 then Some RemainderAssign
    else (if b == 38 then Some AndAssign
    else (if b == 124 then Some OrAssign
    else (if b == 94 then Some XorAssign
    else (None))))))))))))

-- ++ -- << >> && || \\, by the byte that stands twice
unfoldable pub doubled : ℕ → Option Mark
doubled b =
    if b == 43 then Some Increment
    else (if b == 45 then Some Decrement
    else (if b == 60 then Some ShiftLeft
    else (if b == 62 then Some ShiftRight
    else (if b == 38 then Some AndAnd
    else (if b == 124 then Some OrOr
    else (if b == 92 then Some Drop
    else (None)))))))

-- those, and <-
unfoldable pub two : ℕ → ℕ → Option Mark
two b c = if c == 61 then with_equals b else (if b == 60 && c == 45 then Some Take else (if b == c then doubled b else None))

-- <<= >>=
unfoldable pub three : ℕ → ℕ → ℕ → Option Mark
three b c d = if b == c && d == 61 then (if b == 60 then Some ShiftLeftAssign else (if b == 62 then Some ShiftRightAssign else None)) else None
