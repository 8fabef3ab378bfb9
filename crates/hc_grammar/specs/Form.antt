-- The forms of the grammar, and what each gives. A form with `more` or `tail` in its name, or with an option or a list as
-- its value, may be empty. One that gives a function is what stands behind the beginning that the function takes.
use Rattle.std.specs.Prelude.{ℕ, Bool, List, Option}
use Rattle.hc_tree.specs.declared.name.Ident.{Ident}
use Rattle.hc_tree.specs.declared.place.Place.{Place}
use Rattle.hc_tree.specs.declared.expr.ExprTree.{ExprTree}
use Rattle.hc_tree.specs.declared.expr.«Type».{«Type»}
use Rattle.hc_tree.specs.declared.expr.Size.{Size}
use Rattle.hc_tree.specs.declared.decl.Decl.{Decl}
use Rattle.hc_tree.specs.declared.decl.MemoryKind.{MemoryKind}
use Rattle.hc_tree.specs.declared.decl.BoxedType.{BoxedType}
use Rattle.hc_tree.specs.declared.decl.Var.{Var}
use Rattle.hc_tree.specs.declared.decl.Mem.{Mem}
use Rattle.hc_tree.specs.declared.decl.Sig.{Sig}
use Rattle.hc_tree.specs.declared.decl.With.{With}
use Rattle.hc_tree.specs.declared.decl.Spec.{Spec}
use Rattle.hc_tree.specs.declared.decl.SpecValue.{SpecValue}
use Rattle.hc_tree.specs.declared.item.Item.{Item}
use Rattle.hc_tree.specs.declared.item.Interface.{Interface}
use Rattle.hc_tree.specs.declared.item.Tree.{Tree}
use Rattle.hc_tree.specs.declared.stmt.Params.{Params}
use Rattle.hc_tree.specs.declared.stmt.Order.{Order}
use Rattle.hc_tree.specs.declared.stmt.Assign.{Assign}
use Rattle.hc_tree.specs.declared.stmt.Target.{Target}
use Rattle.hc_tree.specs.declared.stmt.Simple.{Simple}
use Rattle.hc_tree.specs.declared.stmt.Macro.{Macro}
use Rattle.hc_tree.specs.declared.stmt.LocalItem.{LocalItem}
use Rattle.hc_tree.specs.declared.stmt.Block.{Block}
use Rattle.hc_tree.specs.declared.stmt.Stmt.{Stmt}
use Rattle.hc_tree.specs.declared.stmt.Label.{Label}
use Rattle.hc_tree.specs.declared.stmt.Arm.{Arm}
use Rattle.hc_tree.specs.declared.stmt.Offer.{Offer}
use Rattle.hc_tree.specs.declared.stmt.Case.{Case}
use Rattle.hc_tree.specs.declared.stmt.Other.{Other}

-- Which initial values a declared array or memory has: none, at most one list, or its list always.
pub data Initial : Type 0 where
  Never : Initial
  Maybe : Initial
  Always : Initial

-- what stands in an arm behind its first label: more labels, the statements, whether there is a `break`, and the arms
-- behind it
pub record ArmTail : Type 0 where
  pub labels : List Label
  pub stmts : List Stmt
  pub has_break : Bool
  pub arms : List Arm

-- what stands in a case behind its statements: whether there is a `break`, and the cases and the default behind it
pub record CaseTail : Type 0 where
  pub has_break : Bool
  pub cases : List Case
  pub other : Option Other

pub data Form : Type 0 where
  name : Form
  text : Form
  -- expressions
  expr : Form
  choice_tail : Form
  binary : ℕ → Form
  binary_tail : ℕ → Form
  unary : Form
  paren_tail : Form
  primary : Form
  name_tail : Form
  args : Form
  more_exprs : Form
  postfix_tail : Form
  bits_tail : Form
  type : Form
  unsigned_tail : Form
  signed_tail : Form
  size : Form
  -- declarations; the first flag says that it stands in a block, the second that values may be given
  decl : Bool → Form
  static_tail : Form
  vars_tail : Bool → Form
  more_vars : Bool → Form
  var : Bool → Form
  var_tail : Bool → Form
  memories_tail : Initial → Form
  mem : Initial → Form
  more_mems : Initial → Form
  mem_init : Initial → Form
  boxed : Form
  sig : Form
  sig_tail : Form
  more_sigs : Form
  more_names : Form
  with : Form
  spec : Form
  more_specs : Form
  spec_value : Form
  more_texts : Form
  -- statements
  block : Form
  declared : Form
  stmts : Form
  stmt : Form
  order_tail : Order → Form
  name_stmt_tail : Form
  else_tail : Form
  simple : Form
  simple_tail : Form
  opt_simple : Form
  opt_expr : Form
  target : Form
  index : Form
  assign : Form
  arms : Bool → Form
  arm_tail : Bool → Form
  arm_end : Bool → Form
  cases : Form
  offer : Form
  case_end : Form
  more_cases : Form
  other_end : Form
  -- items
  program : Form
  items : Form
  item : Form
  set_tail : Form
  opt_void : Form
  interface_tail : Form
  macro : Form
  macro_tail : Form
  params : Form
  opt_params : Form
  names : Form

abbrev pub Gives : Form → Type 0
Gives name = Ident
Gives text = List ℕ
Gives expr = ExprTree
Gives choice_tail = Place → ExprTree → ExprTree
Gives (binary n) = ExprTree
Gives (binary_tail n) = Place → ExprTree → ExprTree
Gives unary = ExprTree
Gives paren_tail = Place → ExprTree
Gives primary = ExprTree
Gives name_tail = Ident → ExprTree
Gives args = List ExprTree
Gives more_exprs = List ExprTree
Gives postfix_tail = Place → ExprTree → ExprTree
Gives bits_tail = Place → ExprTree → ExprTree → ExprTree
Gives type = «Type»
Gives unsigned_tail = Place → «Type»
Gives signed_tail = Place → «Type»
Gives size = Size
Gives (decl local) = Decl
Gives static_tail = Place → Decl
Gives (vars_tail init) = Place → Bool → Decl
Gives (more_vars init) = List Var
Gives (var init) = Var
Gives (var_tail init) = Ident → Var
Gives (memories_tail init) = Place → Bool → MemoryKind → Decl
Gives (mem init) = Mem
Gives (more_mems init) = List Mem
Gives (mem_init init) = Option (List ExprTree)
Gives boxed = BoxedType
Gives sig = Sig
Gives sig_tail = Option ExprTree
Gives more_sigs = List Sig
Gives more_names = List Ident
Gives with = Option With
Gives spec = Spec
Gives more_specs = List Spec
Gives spec_value = SpecValue
Gives more_texts = List (List ℕ)
Gives block = Block
Gives declared = List LocalItem
Gives stmts = List Stmt
Gives stmt = Stmt
Gives (order_tail order) = Place → Stmt
Gives name_stmt_tail = Ident → Stmt
Gives else_tail = Option Stmt
Gives simple = Simple
Gives simple_tail = Target → Simple
Gives opt_simple = Option Simple
Gives opt_expr = Option ExprTree
Gives target = Target
Gives index = Option ExprTree
Gives assign = Assign
Gives (arms has_default) = List Arm
Gives (arm_tail has_default) = ArmTail
Gives (arm_end has_default) = Bool × List Arm
Gives cases = List Case × Option Other
Gives offer = Offer
Gives case_end = CaseTail
Gives more_cases = List Case × Option Other
Gives other_end = Bool
Gives program = Tree
Gives items = List Item
Gives item = Item
Gives set_tail = Place → Item
Gives opt_void = Bool
Gives interface_tail = Place → Interface
Gives macro = Macro
Gives macro_tail = Place → Macro
Gives params = Params
Gives opt_params = Option Params
Gives names = List Ident
