-- Rows of tokens, and what they are or where they are refused.
use Rattle.std.proofs.Common.{◌+◌, ℕ, false, List, [], ◌∷◌, drop, codes, Some, None, refl}
use Rattle.hc_tree.specs.declared.place.Place.{Place}
use Rattle.hc_tree.specs.declared.expr.ExprTree.{ExprTree}
use Rattle.hc_tree.specs.declared.expr.ExprTree.TheVariants as e
use Rattle.hc_tree.specs.declared.expr.BinaryOp.TheVariants as op
use Rattle.hc_tree.specs.declared.stmt.Condition.TheVariants as condition
use Rattle.hc_tree.specs.declared.stmt.Stmt.TheVariants as s
use Rattle.hc_lex.specs.declared.token.Token.{Token}
use Rattle.hc_lex.specs.declared.token.Token.TheVariants as t
use Rattle.hc_lex.specs.declared.mark.Mark.TheVariants as m
use Rattle.hc_lex.specs.declared.token.Placed.{Placed}
use Rattle.hc_grammar.specs.Table.{Stops, Spells}
use Rattle.hc_grammar.specs.Form as f
use Rattle.hc_grammar.specs.Form.{Form, Gives}
use Rattle.hc_grammar.specs.Grammar.{grammar}
use Rattle.hc_grammar.proofs.Follow.{decide}
use Rattle.hc_grammar.proofs.Computed.{tried}
use Rattle.hc_grammar.proofs.Tried.{whole, stopped}

-- tokens in a line, one a column
abbrev at : ℕ → Place
at column = record { line = 1; column = column }

abbrev from : ℕ → List Token → List Placed
from column [] = []
from column (x ∷ xs) = record { token = x; place = at column } ∷ from (column + 1) xs

abbrev named : ℕ → List ℕ → ExprTree
named column word = e.Name (record { place = at column; name = word })

-- a product stands within a sum
abbrev tokens-product_within : List Placed
tokens-product_within = from 1 (t.Word (codes "a") ∷ t.Mark m.Plus ∷ t.Word (codes "b") ∷ t.Mark m.Star ∷ t.Word (codes "c") ∷ [])

product_within : Spells grammar f.expr (e.Binary (at 1) (named 1 (codes "a")) op.Add (e.Binary (at 3) (named 3 (codes "b")) op.Multiply (named 5 (codes "c")))) tokens-product_within
unfolding tried
product_within = (whole grammar decide (tried f.expr tokens-product_within) refl).1

-- differences group to the left
abbrev tokens-left_to_right : List Placed
tokens-left_to_right = from 1 (t.Word (codes "a") ∷ t.Mark m.Minus ∷ t.Word (codes "b") ∷ t.Mark m.Minus ∷ t.Word (codes "c") ∷ [])

left_to_right : Spells grammar f.expr (e.Binary (at 1) (e.Binary (at 1) (named 1 (codes "a")) op.Subtract (named 3 (codes "b"))) op.Subtract (named 5 (codes "c"))) tokens-left_to_right
unfolding tried
left_to_right = (whole grammar decide (tried f.expr tokens-left_to_right) refl).1

-- choices group to the right
abbrev tokens-choice_to_right : List Placed
tokens-choice_to_right = from 1 (t.Word (codes "a") ∷ t.Mark m.Question ∷ t.Word (codes "b") ∷ t.Mark m.Colon ∷ t.Word (codes "c") ∷ t.Mark m.Question ∷ t.Word (codes "d") ∷ t.Mark m.Colon ∷ t.Word (codes "x") ∷ [])

choice_to_right : Spells grammar f.expr (e.Choice (at 1) (named 1 (codes "a")) (named 3 (codes "b")) (e.Choice (at 5) (named 5 (codes "c")) (named 7 (codes "d")) (named 9 (codes "x")))) tokens-choice_to_right
unfolding tried
choice_to_right = (whole grammar decide (tried f.expr tokens-choice_to_right) refl).1

-- an expression whose first operand stands in brackets stands at its bracket
abbrev tokens-bracket_place : List Placed
tokens-bracket_place = from 1 (t.Mark m.ParenOpen ∷ t.Word (codes "a") ∷ t.Mark m.Plus ∷ t.Word (codes "b") ∷ t.Mark m.ParenClose ∷ t.Mark m.Star ∷ t.Word (codes "c") ∷ [])

bracket_place : Spells grammar f.expr (e.Binary (at 1) (e.Binary (at 2) (named 2 (codes "a")) op.Add (named 4 (codes "b"))) op.Multiply (named 7 (codes "c"))) tokens-bracket_place
unfolding tried
bracket_place = (whole grammar decide (tried f.expr tokens-bracket_place) refl).1

-- an `else` belongs to the nearer `if`
abbrev tokens-nearest_if : List Placed
tokens-nearest_if = from 1 (t.Word (codes "if") ∷ t.Mark m.ParenOpen ∷ t.Word (codes "a") ∷ t.Mark m.ParenClose ∷ t.Word (codes "if") ∷ t.Mark m.ParenOpen ∷ t.Word (codes "b") ∷ t.Mark m.ParenClose ∷ t.Mark m.Semicolon ∷ t.Word (codes "else") ∷ t.Mark m.Semicolon ∷ [])

nearest_if : Spells grammar f.stmt (s.If (at 1) condition.If (named 3 (codes "a")) (s.If (at 5) condition.If (named 7 (codes "b")) (s.Empty (at 9)) (Some (s.Empty (at 11)))) None) tokens-nearest_if
unfolding tried
nearest_if = (whole grammar decide (tried f.stmt tokens-nearest_if) refl).1

-- a `switch` has at most one `default`
abbrev tokens-second_default : List Placed
tokens-second_default = from 1 (t.Word (codes "switch") ∷ t.Mark m.ParenOpen ∷ t.Word (codes "a") ∷ t.Mark m.ParenClose ∷ t.Mark m.BraceOpen ∷ t.Word (codes "default") ∷ t.Mark m.Colon ∷ t.Word (codes "break") ∷ t.Mark m.Semicolon ∷ t.Word (codes "default") ∷ t.Mark m.Colon ∷ t.Mark m.BraceClose ∷ [])

second_default : Stops grammar f.stmt tokens-second_default (drop 9 tokens-second_default)
unfolding tried
second_default = (stopped grammar decide (tried f.stmt tokens-second_default) refl).1

-- an arm without `break` is the last
abbrev tokens-arm_without_break : List Placed
tokens-arm_without_break = from 1 (t.Word (codes "switch") ∷ t.Mark m.ParenOpen ∷ t.Word (codes "a") ∷ t.Mark m.ParenClose ∷ t.Mark m.BraceOpen ∷ t.Word (codes "case") ∷ t.Number 0 ∷ t.Mark m.Colon ∷ t.Mark m.Semicolon ∷ t.Word (codes "case") ∷ t.Number 1 ∷ t.Mark m.Colon ∷ t.Mark m.BraceClose ∷ [])

arm_without_break : Stops grammar f.stmt tokens-arm_without_break (drop 9 tokens-arm_without_break)
unfolding tried
arm_without_break = (stopped grammar decide (tried f.stmt tokens-arm_without_break) refl).1

-- in a block a register has a value only behind `static`
abbrev tokens-value_in_block : List Placed
tokens-value_in_block = from 1 (t.Mark m.BraceOpen ∷ t.Word (codes "int") ∷ t.Number 4 ∷ t.Word (codes "x") ∷ t.Mark m.Assign ∷ t.Number 1 ∷ t.Mark m.Semicolon ∷ t.Mark m.BraceClose ∷ [])

value_in_block : Stops grammar f.block tokens-value_in_block (drop 4 tokens-value_in_block)
unfolding tried
value_in_block = (stopped grammar decide (tried f.block tokens-value_in_block) refl).1

-- a `rom` has its list always
abbrev tokens-rom_without_list : List Placed
tokens-rom_without_list = from 1 (t.Word (codes "rom") ∷ t.Word (codes "int") ∷ t.Number 4 ∷ t.Word (codes "x") ∷ t.Mark m.BracketOpen ∷ t.Number 2 ∷ t.Mark m.BracketClose ∷ t.Mark m.Semicolon ∷ [])

rom_without_list : Stops grammar (f.decl false) tokens-rom_without_list (drop 7 tokens-rom_without_list)
unfolding tried
rom_without_list = (stopped grammar decide (tried (f.decl false) tokens-rom_without_list) refl).1

-- a `prialt` has a case
abbrev tokens-prialt_without_case : List Placed
tokens-prialt_without_case = from 1 (t.Word (codes "prialt") ∷ t.Mark m.BraceOpen ∷ t.Word (codes "default") ∷ t.Mark m.Colon ∷ t.Mark m.BraceClose ∷ [])

prialt_without_case : Stops grammar f.stmt tokens-prialt_without_case (drop 2 tokens-prialt_without_case)
unfolding tried
prialt_without_case = (stopped grammar decide (tried f.stmt tokens-prialt_without_case) refl).1
