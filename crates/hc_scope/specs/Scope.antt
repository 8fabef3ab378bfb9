-- Scopes: what names stand for. A scope is a chain of declarations, the innermost first (this project's profile of
-- Handel-C).
use Rattle.std.specs.Prelude.{ℕ, Bool, false, ◌||◌, if◌then◌else◌, List, Option, Some, None, ℤ}
use Rattle.std.specs.Str.{bytes_eq}
use Rattle.hc_tree.specs.declared.name.Ident.{Ident}
use Rattle.hc_tree.specs.declared.expr.ExprTree.{ExprTree, out-ExprTree}
use Rattle.hc_tree.specs.declared.expr.ExprTree.TheOpen.{ExprTree-F}
use Rattle.hc_tree.specs.declared.expr.«Type».{«Type»}
use Rattle.hc_tree.specs.declared.expr.Size.{Size}
use Rattle.hc_tree.specs.declared.stmt.Block.{Block}

-- one level of an expression
abbrev pub Layer : Type 0
Layer = ExprTree-F ExprTree Size «Type»

mutual
  -- What a name stands for. A macro has the scope of its declaration, which is the chain from its own entry on; an
  -- argument has the scope of its call.
  pub data Meaning : Type 0 where
    an_object : ℕ → Meaning
    -- an input or output with the name of its port
    an_interface : ℕ → List ℕ → Meaning
    -- a replicator's variable
    a_number : ℤ → Meaning
    -- a macro expression with its parameters, if any are written, or a macro procedure
    an_expression : List Ident → ExprTree → Meaning
    a_procedure : List Ident → Block → Meaning
    -- a parameter with its argument
    an_argument : ExprTree → Scope → Meaning

  pub data Scope : Type 0 where
    outside : Scope
    -- a block, a macro's parameters or a replicator's variable begin here
    opened : Scope → Scope
    declared : List ℕ → Meaning → Scope → Scope

-- whether a name is declared in the innermost scope
abbrev pub is_declared : List ℕ → Scope → Bool
is_declared x outside = false
is_declared x (opened around) = false
is_declared x (declared y meaning rest) = bytes_eq y x || is_declared x rest

-- what a name stands for, and the chain from its declaration on
pub record Found : Type 0 where
  pub meaning : Meaning
  pub scope : Scope

abbrev pub find : List ℕ → Scope → Option Found
find x outside = None
find x (opened around) = find x around
find x (declared y meaning rest) = if bytes_eq y x then Some (record { meaning = meaning; scope = declared y meaning rest }) else find x rest

-- ---- names in the place of a target or a channel, where a parameter stands for its argument

-- What stands at the end of the parameters: a name with its meaning, and the index that an argument gave it with the
-- scope of that index. Or there is no such name, or an argument that is none.
pub data Named : Type 0 where
  missing : Ident → Named
  no_name : Ident → Named
  named : Ident → Meaning → Option (ExprTree × Scope) → Named

-- an argument that is a name with an index: no other index may stand with the name
abbrev pub with_index : ExprTree → Scope → Named → Named
with_index i scope (missing x) = missing x
with_index i scope (no_name x) = no_name x
with_index i scope (named x meaning None) = named x meaning (Some (i, scope))
with_index i scope (named x meaning (Some other)) = no_name x

-- the argument has to be a name or a name with an index, else the parameter is no name
abbrev pub indexed_argument : (Ident → Named) → Ident → ExprTree → Scope → Layer → Named
indexed_argument named_by parameter i scope (ExprTree-F.ExprTree::Name x) = with_index i scope (named_by x)
indexed_argument named_by parameter i scope _ = no_name parameter

abbrev pub argument : (Ident → Named) → Ident → Scope → Layer → Named
argument named_by parameter scope (ExprTree-F.ExprTree::Name x) = named_by x
argument named_by parameter scope (ExprTree-F.Index place of at) = indexed_argument named_by parameter at scope (out-ExprTree of)
argument named_by parameter scope _ = no_name parameter

abbrev mutual
  pub name_in : Scope → Ident → Named
  name_in outside x = missing x
  name_in (opened around) x = name_in around x
  name_in (declared y meaning rest) x = if bytes_eq y x.name then name_by meaning x else name_in rest x

  pub name_by : Meaning → Ident → Named
  name_by (an_object k) x = named x (an_object k) None
  name_by (an_interface k port) x = named x (an_interface k port) None
  name_by (a_number v) x = named x (a_number v) None
  name_by (an_expression parameters body) x = named x (an_expression parameters body) None
  name_by (a_procedure parameters body) x = named x (a_procedure parameters body) None
  name_by (an_argument e scope) x = argument (name_in scope) x scope (out-ExprTree e)
