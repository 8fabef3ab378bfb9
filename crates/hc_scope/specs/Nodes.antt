-- Nodes of the tree by the depth at which they stand: what each visits, and how its parts are expanded (this project's own).
use Rattle.std.specs.Prelude.{ℕ, zero, suc, false}
use Rattle.hc_tree.specs.declared.stmt.Arm.{out-Arm}
use Rattle.hc_tree.specs.declared.stmt.Block.{out-Block}
use Rattle.hc_tree.specs.declared.stmt.Case.{out-Case}
use Rattle.hc_tree.specs.declared.stmt.Other.{out-Other}
use Rattle.hc_scope.specs.Expansion.{◌>>◌, visit, too_deep}
use Rattle.hc_scope.specs.Parts.{Parts, place_of, simple_place, ident_of}
use Rattle.hc_scope.specs.Expression.{expression_form, before_index_form, is_call}
use Rattle.hc_scope.specs.Declaration.{name_form}
use Rattle.hc_scope.specs.Statement.{simple_form, step_form, statement_form, block_form, arm_form, case_form, other_form, stmt_place, is_run}

-- nodes that stand too deep are visited, and break L6
abbrev pub deepest : Parts
deepest = record {
  leaf = λ c place. visit false c.calls place >> too_deep place;
  name = λ c t x. visit false c.calls (ident_of x).place >> too_deep (ident_of x).place;
  expression = λ c x. visit (is_call c.scope x) c.calls (place_of x) >> too_deep (place_of x);
  before_index = λ c x. visit (is_call c.scope x) c.calls (place_of x) >> too_deep (place_of x);
  simple = λ c x. visit false c.calls (simple_place x) >> too_deep (simple_place x);
  step = λ c x v s. visit false c.calls (simple_place s) >> too_deep (simple_place s);
  statement = λ c s. visit (is_run s) c.calls (stmt_place s) >> too_deep (stmt_place s);
  block = λ c b. visit false c.calls (out-Block b).place >> too_deep (out-Block b).place;
  arm = λ c w s a. visit false c.calls (out-Arm a).place >> too_deep (out-Arm a).place;
  case = λ c x. visit false c.calls (out-Case x).place >> too_deep (out-Case x).place;
  other = λ c x. visit false c.calls (out-Other x).place >> too_deep (out-Other x).place;
}

-- nodes are visited, and then expanded by their forms, where their parts stand one deeper
abbrev pub node : Parts → Parts
node p = record {
  leaf = λ c place. visit false c.calls place;
  name = λ c t x. visit false c.calls (ident_of x).place >> name_form p c (ident_of x) t x;
  expression = λ c x. visit (is_call c.scope x) c.calls (place_of x) >> expression_form p c x;
  before_index = λ c x. visit (is_call c.scope x) c.calls (place_of x) >> before_index_form p c x;
  simple = λ c x. visit false c.calls (simple_place x) >> simple_form p c x;
  step = λ c x v s. visit false c.calls (simple_place s) >> step_form p c x v s;
  statement = λ c s. visit (is_run s) c.calls (stmt_place s) >> statement_form p c s;
  block = λ c b. visit false c.calls (out-Block b).place >> block_form p c b;
  arm = λ c w s a. visit false c.calls (out-Arm a).place >> arm_form p c w s a;
  case = λ c x. visit false c.calls (out-Case x).place >> case_form p c x;
  other = λ c x. visit false c.calls (out-Other x).place >> other_form p c x;
}

-- nodes around which so many more may be open
unfoldable pub nodes : ℕ → Parts
nodes zero = deepest
nodes (suc room) = node (nodes room)
