-- How the open levels are kept: a stack, the innermost last.
use Rattle.std.specs.Prelude.{◌≡◌, ℕ, ◌+◌, ◌==◌, if◌then◌else◌, List, [], ◌∷◌, reverse, Option, Some, None, refl}
use Rattle.std.specs.Coded.{Coded, code_by, coded×, coded_ℕ, coded_list}
use Rattle.std.proofs.Common.{ap}
use Rattle.hc_grammar.specs.Nesting.{Bracket, Round, Square, Curly, Role, Opens, Closes, Comma, Semicolon, Else, DoWord, While, TypeWord, Step, Plain, Opened, By, Do, Levels, file, within, nesting, is_by}
use Rattle.hc_parse.specs.declared.role.Bracket as bracket
use Rattle.hc_parse.specs.declared.role.Bracket.TheVariants as b
use Rattle.hc_parse.specs.declared.role.Role as role
use Rattle.hc_parse.specs.declared.role.Role.TheVariants as r
use Rattle.hc_parse.specs.declared.open.Opened as opened
use Rattle.hc_parse.specs.declared.open.Opened.TheVariants as o
use Rattle.hc_parse.specs.declared.open.OpenBrackets as brackets
use Rattle.hc_parse.specs.declared.levels.Level as level

-- what the code's kinds of brackets stand for
abbrev pub bracket_of : bracket.Bracket → Bracket
bracket_of b.Round = Round
bracket_of b.Square = Square
bracket_of b.Curly = Curly

-- what its roles stand for
abbrev pub role_of : role.Role → Role
role_of (r.Opens k) = Opens (bracket_of k)
role_of (r.Closes k) = Closes (bracket_of k)
role_of r.Comma = Comma
role_of r.Semicolon = Semicolon
role_of r.Else = Else
role_of r.Do = DoWord
role_of r.While = While
role_of r.Type = TypeWord
role_of r.Step = Step
role_of r.Plain = Plain

-- what it says of an open level
abbrev pub opened_of : opened.Opened → Opened
opened_of (o.By k) = By (bracket_of k)
opened_of o.Do = Do

-- these levels, innermost first, with the count of the innermost; each level has the count of the level around it
abbrev pub levels_of : List level.Level → ℕ → Levels
levels_of [] count = file count
levels_of (l ∷ ls) count = within (opened_of l.opened) count (levels_of ls l.around)

-- the levels of a stack
abbrev pub stacked : List level.Level → ℕ → Levels
stacked ls count = levels_of (reverse ls) count

-- how many brackets of a kind are open
abbrev pub open_of : Bracket → Levels → ℕ
open_of k (file n) = 0
open_of k (within o n ls) = (if is_by k o then 1 else 0) + open_of k ls

-- the number for this kind
abbrev pub number_of : Bracket → brackets.OpenBrackets → ℕ
number_of Round n = n.round
number_of Square n = n.square
number_of Curly n = n.curly

-- what opened the innermost level within the file
abbrev pub innermost : Levels → Option Opened
innermost (file n) = None
innermost (within o n ls) = Some o

-- the nesting and the numbers of open brackets that belong to these levels
pub record Counts (levels : Levels) (depth : ℕ) (brackets : brackets.OpenBrackets) : Type 0 where
  pub is_nesting : depth ≡ nesting levels
  pub are_open : (k : Bracket) → number_of k brackets ≡ open_of k levels

-- ---- levels as a list of numbers, by which a proof tells them apart

-- what opens a level, as a number, and back
abbrev pub opened_number : Opened → ℕ
opened_number (By Round) = 0
opened_number (By Square) = 1
opened_number (By Curly) = 2
opened_number Do = 3

abbrev pub number_opened : ℕ → Opened
number_opened n = if n == 0 then By Round else (if n == 1 then By Square else (if n == 2 then By Curly else Do))

abbrev pub opened_code : Coded Opened
opened_code =
    code_by ℕ coded_ℕ opened_number number_opened
    (λ o. elim o as (λ o. number_opened (opened_number o) ≡ o) [ By k ↦ elim k as (λ k. number_opened (opened_number (By k)) ≡ By k) [ Round ↦ refl | Square ↦ refl | Curly ↦ refl ] | Do ↦ refl ])

-- the levels within the file, innermost first, and the count of the file
abbrev pub Parts : Type 0
Parts = List (Opened × ℕ) × ℕ

abbrev pub parts_of : Levels → Parts
parts_of (file n) = ([], n)
parts_of (within o n ls) = ((o, n) ∷ (parts_of ls).0, (parts_of ls).1)

abbrev pub from_parts : List (Opened × ℕ) → ℕ → Levels
from_parts [] m = file m
from_parts (p ∷ ps) m = within p.0 p.1 (from_parts ps m)

abbrev pub from_parts_of : (ls : Levels) → from_parts (parts_of ls).0 (parts_of ls).1 ≡ ls
from_parts_of (file n) = refl
from_parts_of (within o n ls) = ap (within o n) (from_parts_of ls)

abbrev pub levels_code : Coded Levels
levels_code =
    code_by Parts (coded× (coded_list (coded× opened_code coded_ℕ)) coded_ℕ) parts_of (λ p. from_parts p.0 p.1) from_parts_of
