-- Parts of statements as the code has them.
use Rattle.std.specs.Prelude.{◌≡◌, List, map, Option, Result, Ok, Err}
use Rattle.hc_tree.specs.declared.place.Place.{Place}
use Rattle.hc_tree.specs.declared.expr.ExprTree.{ExprTree}
use Rattle.hc_tree.specs.declared.stmt.Simple.{Simple}
use Rattle.hc_tree.specs.declared.stmt.Stmt as tree
use Rattle.hc_tree.specs.declared.refusal.FrontErr.{FrontErr}
use Rattle.hc_tree.specs.declared.refusal.FrontErr.TheVariants.{Refused, NoMemory}
use Rattle.hc_core.specs.Program.{Expression, Statement, Seq, If, While, stop, ◌⨾◌}
use Rattle.hc_core.specs.Read.{expression, statement}
use Rattle.hc_core.specs.Sound.{IsTyped}
use Rattle.hc_core.specs.Typed.{HasSomeType}
use Rattle.hc_core.specs.declared.object.Kind.{Kind}
use Rattle.hc_core.specs.declared.stmt.Stmt.{Stmt}
use Rattle.hc_scope.specs.Expansion.{Expansion, ◌>>=◌, pure}
use Rattle.hc_scope.specs.Parts.{Parts, Context}
use Rattle.hc_expand.specs.declared.branching.IfParts.{IfParts}
use Rattle.hc_expand.specs.declared.looping.LoopParts.{LoopParts}
use Rattle.hc_scope.specs.Statement.{statement_or_skip, simple_or_skip, condition_or_one}

-- statements in order
abbrev pub parts_read : List Stmt → List Statement
parts_read parts = map statement parts

-- a statement of its parts, or want of memory
abbrev pub IsMade : Statement → Result Stmt FrontErr → Type 0
IsMade x (Ok s) = statement s ≡ x
IsMade x (Err (Refused r)) = ⊥
IsMade x (Err NoMemory) = Unit {0}

-- a `for` of its parts
abbrev pub for_made : Place → Statement → Expression → Statement → Statement → Statement
for_made place first holding last body = Seq place (first ⨾ While place holding (Seq place (body ⨾ last ⨾ stop)) ⨾ stop)

-- ---- parts of a form that are expanded first

-- both branches of an `if`
pub record Both : Type 0 where
  pub chosen : Statement
  pub other : Statement

abbrev pub both_read : IfParts → Both
both_read b = record { chosen = statement b.chosen; other = statement b.other }

abbrev pub AreBothTyped : List Kind → Both → Type 0
AreBothTyped kinds b = IsTyped kinds b.chosen × IsTyped kinds b.other

abbrev pub both : Parts → Context → tree.Stmt → Option tree.Stmt → Expansion Both
both p c a b = do
  x ← p.statement c a
  y ← statement_or_skip p c b
  pure (record { chosen = x; other = y })

-- an `if` behind its condition
abbrev pub if_branches : Parts → Context → Place → Expression → tree.Stmt → Option tree.Stmt → Expansion Statement
if_branches p c place condition a b = do
  then_part ← p.statement c a
  else_part ← statement_or_skip p c b
  pure (If place condition then_part else_part)

-- the first part, the condition and the last part of a `for`
pub record Loop : Type 0 where
  pub first : Statement
  pub holding : Expression
  pub last : Statement

abbrev pub loop_read : LoopParts → Loop
loop_read l = record { first = statement l.first; holding = expression l.holding; last = statement l.last }

pub record IsLoopTyped (kinds : List Kind) (l : Loop) : Type 0 where
  pub first : IsTyped kinds l.first
  pub holding : HasSomeType kinds l.holding
  pub last : IsTyped kinds l.last

-- a loop behind its condition
abbrev pub loop_last : Parts → Context → Statement → Expression → Option Simple → Expansion Loop
loop_last p c first holding last = simple_or_skip p c last >>= (λ b. pure (record { first = first; holding = holding; last = b }))

-- a loop behind its first part
abbrev pub loop_condition : Parts → Context → Statement → Option ExprTree → Option Simple → Expansion Loop
loop_condition p c first e last = condition_or_one p c e >>= (λ holding. loop_last p c first holding last)

abbrev pub loop_parts : Parts → Context → Option Simple → Option ExprTree → Option Simple → Expansion Loop
loop_parts p c first e last = simple_or_skip p c first >>= (λ a. loop_condition p c a e last)

-- a `for` of its parts, behind its body
abbrev pub loop_body : Parts → Context → Place → tree.Stmt → Loop → Expansion Statement
loop_body p c place body l = p.statement c body >>= (λ part. pure (for_made place l.first l.holding l.last part))
