-- The operator of a level that a token is.
use Rattle.std.specs.Prelude.{ℕ, ◌==◌, Option, Some, None, option_map, if◌then◌else◌}
use Rattle.hc_tree.specs.declared.expr.BinaryOp.{BinaryOp}
use Rattle.hc_grammar.specs.declared.kind.Kind.{Kind}
use Rattle.hc_grammar.specs.Kind.{kind}
use Rattle.hc_grammar.specs.Table.{front}
use Rattle.hc_grammar.specs.Cursor.{Ahead}
use Rattle.hc_grammar.specs.Expression.{binary_op}

-- an operator, if its level is this one
abbrev pub on_level : ℕ → Option (ℕ × BinaryOp) → Option BinaryOp
on_level n None = None
on_level n (Some (level, op)) = if level == n then Some op else None

-- the operator that stands at the front, if it is one of this level
abbrev pub level_op : ℕ → Option Kind → Option BinaryOp
level_op n None = None
level_op n (Some kind) = on_level n (binary_op kind)

-- what the next token is to the grammar, or none at the end
abbrev pub next_kind : Ahead → Option Kind
next_kind c = option_map kind (front c.rest)
