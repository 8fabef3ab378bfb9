-- How deep tokens are nested, which L3 limits. The rule is this project's own.
use Rattle.std.specs.Prelude.{◌≡◌, ℕ, ◌+◌, ◌≤◌, Bool, true, false, ◌&&◌, nat_lt, if◌then◌else◌, List, [], ◌∷◌, Option, Some, None, option_map, codes}
use Rattle.std.specs.List.{list_any, find, All}
use Rattle.std.specs.Str.{bytes_eq}
use Rattle.hc_tree.specs.declared.refusal.Rule.TheVariants.{L3}
use Rattle.hc_tree.specs.declared.refusal.Detail.TheVariants.{Nothing}
use Rattle.hc_tree.specs.declared.refusal.Refusal.{Refusal}
use Rattle.hc_lex.specs.declared.mark.Mark as mark
use Rattle.hc_lex.specs.declared.mark.Mark.TheVariants as m
use Rattle.hc_lex.specs.declared.token.Token.{Token}
use Rattle.hc_lex.specs.declared.token.Token.TheVariants.{Word, Number, Text, Mark}
use Rattle.hc_lex.specs.declared.token.Placed.{Placed}

-- ---- what a token is for the nesting

-- the kinds of brackets: `( )`, `[ ]` and `{ }`
pub data Bracket : Type 0 where
  Round : Bracket
  Square : Bracket
  Curly : Bracket

-- `Step` is a step token wherever it stands, and `Plain` a token that does nothing. `TypeWord` begins a type.
pub data Role : Type 0 where
  Opens : Bracket → Role
  Closes : Bracket → Role
  Comma : Role
  Semicolon : Role
  Else : Role
  DoWord : Role
  While : Role
  TypeWord : Role
  Step : Role
  Plain : Role

-- what a mark is: step tokens are the operators, `?`, `=` and the marks that assign; `++`, `--`, `:` and `.` are none
abbrev pub mark_role : mark.Mark → Role
mark_role m.ParenOpen = Opens Round
mark_role m.ParenClose = Closes Round
mark_role m.BracketOpen = Opens Square
mark_role m.BracketClose = Closes Square
mark_role m.BraceOpen = Opens Curly
mark_role m.BraceClose = Closes Curly
mark_role m.Semicolon = Semicolon
mark_role m.Comma = Comma
mark_role m.Colon = Plain
mark_role m.Dot = Plain
mark_role m.Increment = Plain
mark_role m.Decrement = Plain
mark_role m.Plus = Step
mark_role m.Minus = Step
mark_role m.Star = Step
mark_role m.Slash = Step
mark_role m.Percent = Step
mark_role m.And = Step
mark_role m.Or = Step
mark_role m.Xor = Step
mark_role m.Tilde = Step
mark_role m.Not = Step
mark_role m.Less = Step
mark_role m.Greater = Step
mark_role m.LessEqual = Step
mark_role m.GreaterEqual = Step
mark_role m.Equal = Step
mark_role m.NotEqual = Step
mark_role m.ShiftLeft = Step
mark_role m.ShiftRight = Step
mark_role m.AndAnd = Step
mark_role m.OrOr = Step
mark_role m.At = Step
mark_role m.Take = Step
mark_role m.Drop = Step
mark_role m.Question = Step
mark_role m.Assign = Step
mark_role m.AddAssign = Step
mark_role m.SubtractAssign = Step
mark_role m.MultiplyAssign = Step
mark_role m.DivideAssign = Step
mark_role m.RemainderAssign = Step
mark_role m.AndAssign = Step
mark_role m.OrAssign = Step
mark_role m.XorAssign = Step
mark_role m.ShiftLeftAssign = Step
mark_role m.ShiftRightAssign = Step

-- the words that are step tokens wherever they stand; `while` is one with an exception
unfoldable pub step_words : List (List ℕ)
step_words = codes "if" ∷ codes "ifselect" ∷ codes "for" ∷ codes "seq" ∷ codes "par" ∷ []

-- the words that begin a type
unfoldable pub type_words : List (List ℕ)
type_words = codes "unsigned" ∷ codes "signed" ∷ codes "int" ∷ []

-- a word of the first list
unfoldable pub is_step_word : List ℕ → Bool
is_step_word word = list_any (λ w. bytes_eq w word) step_words

-- a word of the second
unfoldable pub is_type_word : List ℕ → Bool
is_type_word word = list_any (λ w. bytes_eq w word) type_words

-- what a word is for the nesting
unfoldable pub word_role : List ℕ → Role
word_role word =
    if is_step_word word then Step
    else (if is_type_word word then TypeWord
    else (if bytes_eq word (codes "else") then Else
    else (if bytes_eq word (codes "do") then DoWord
    else (if bytes_eq word (codes "while") then While else Plain))))

-- what a token is; numbers and texts do nothing
abbrev pub role : Token → Role
role (Word name) = word_role name
role (Number n) = Plain
role (Text name) = Plain
role (Mark mark) = mark_role mark

-- what stands in front of these tokens; the end does nothing
abbrev pub role_of_first : List Placed → Role
role_of_first [] = Plain
role_of_first (t ∷ ts) = role t.token

-- ---- levels

-- what opens a level within the file
pub data Opened : Type 0 where
  By : Bracket → Opened
  Do : Opened

-- The open levels, innermost first, each with its count of step tokens. The file is the outermost level.
pub data Levels : Type 0 where
  file : ℕ → Levels
  within : Opened → ℕ → Levels → Levels

-- The nesting is the sum of the counts of all open levels, and 1 more for each open bracket and each open `do`.
abbrev pub nesting : Levels → ℕ
nesting (file n) = n
nesting (within o n ls) = n + 1 + nesting ls

-- a level opens within the innermost
abbrev pub opened : Opened → Levels → Levels
opened o ls = within o 0 ls

-- a step token is counted at the innermost level
abbrev pub counted : Levels → Levels
counted (file n) = file (n + 1)
counted (within o n ls) = within o (n + 1) ls

-- the count of the innermost level starts again
abbrev pub restarted : Levels → Levels
restarted (file n) = file 0
restarted (within o n ls) = within o 0 ls

-- the innermost level is closed; the file stays
abbrev pub left : Levels → Levels
left (file n) = file n
left (within o n ls) = ls

-- a `do` opened this level
abbrev pub is_do : Opened → Bool
is_do (By b) = false
is_do Do = true

-- the innermost level is that of a `do`
abbrev pub is_at_do : Levels → Bool
is_at_do (file n) = false
is_at_do (within o n ls) = is_do o

-- a bracket of this kind opened this level
abbrev pub is_by : Bracket → Opened → Bool
is_by Round (By Round) = true
is_by Square (By Square) = true
is_by Curly (By Curly) = true
is_by _ _ = false

-- the levels around the innermost open bracket of a kind, if one is open
abbrev pub around : Bracket → Levels → Option Levels
around b (file n) = None
around b (within o n ls) = if is_by b o then Some ls else around b ls

-- where no bracket of the kind is open, nothing changes
abbrev pub kept : Levels → Option Levels → Levels
kept ls None = ls
kept ls (Some outer) = outer

-- ---- what a token does to the levels

-- `;` and `}` end a statement
abbrev pub is_end : Role → Bool
is_end Semicolon = true
is_end (Closes Curly) = true
is_end _ = false

-- an end that isn't followed by `else` starts the count of its level again
abbrev pub ended : Role → Levels → Levels
ended Else ls = ls
ended _ ls = restarted ls

-- a `}` counts at the level around its own
abbrev pub behind : Bracket → Role → Levels → Levels
behind Curly next ls = ended next ls
behind _ next ls = ls

-- a `(` directly before a type, and a `[` directly behind a `]`, is a step token at the level around it
abbrev pub is_step : Role → Bracket → Role → Bool
is_step _ Round TypeWord = true
is_step (Closes Square) Square _ = true
is_step _ _ _ = false

-- a `while` at the level of a `do` directly behind an end closes that level, and every other one is a step token
abbrev pub at_while : Role → Levels → Levels
at_while before ls = if is_end before && is_at_do ls then left ls else counted ls

-- What a token does, by its role and those of the token before it and behind it.
abbrev pub taken : Role → Role → Role → Levels → Levels
taken before (Opens b) next ls = opened (By b) (if is_step before b next then counted ls else ls)
taken before (Closes b) next ls = kept ls (option_map (behind b next) (around b ls))
taken before Comma next ls = restarted ls
taken before Semicolon next ls = ended next ls
taken before Else next ls = ls
taken before DoWord next ls = opened Do ls
taken before While next ls = at_while before ls
taken before TypeWord next ls = ls
taken before Step next ls = counted ls
taken before Plain next ls = ls

-- ---- the nesting of each token

-- a token with its nesting
pub record Nested : Type 0 where
  pub token : Placed
  pub nesting : ℕ

-- The nestings of tokens behind one of this role, where these levels are open. A token counts itself.
abbrev pub nested_from : Role → Levels → List Placed → List Nested
nested_from before ls [] = []
nested_from before ls (t ∷ ts) =
    let then_open = taken before (role t.token) (role_of_first ts) ls in
    record { token = t; nesting = nesting then_open } ∷ nested_from (role t.token) then_open ts

-- the nestings of the tokens of a source
abbrev pub nested : List Placed → List Nested
nested ts = nested_from Plain (file 0) ts

-- over the limit
abbrev pub is_deep : Nested → Bool
is_deep n = nat_lt 200 n.nesting

-- no token is nested more than 200 deep
abbrev pub IsShallow : List Placed → Type 0
IsShallow ts = All (λ n. n.nesting ≤ 200) (nested ts)

-- the first token that is nested more than 200 deep breaks L3, at its place
pub record FirstDeep (ts : List Placed) (refusal : Refusal) : Type 0 where
  pub at : Nested
  pub first : find is_deep (nested ts) ≡ Some at
  pub refused : refusal ≡ record { rule = L3; place = at.token.place; detail = Nothing }
