-- What a concrete tree expands to, by computing.
use Rattle.hc_tree.specs.declared.expr.ExprTree.{out-ExprTree}
use Rattle.hc_tree.specs.declared.expr.«Type».{out-Type}
use Rattle.hc_tree.specs.declared.expr.Size.{out-Size}
use Rattle.hc_tree.specs.declared.stmt.Stmt.{out-Stmt}
use Rattle.hc_tree.specs.declared.stmt.Macro.{out-Macro}
use Rattle.hc_tree.specs.declared.stmt.LocalItem.{out-LocalItem}
use denote.Hole.Carrier.{out, shown, hidden}
use Rattle.hc_num.specs.Index.{index_width}
use Rattle.hc_width.specs.Unary.{cast, unary, fitted}
use Rattle.hc_width.specs.Binary.{binary, binary_whole}
use Rattle.hc_width.specs.Parts.{cut, choose}
use Rattle.hc_scope.specs.Expansion.{visit, make}
use Rattle.hc_scope.specs.Written.{written}
use Rattle.hc_scope.specs.Expression.{width_in_range, name_value, expression_form, before_index_form, call, call_context, call_expression, port_value, index}
use Rattle.hc_scope.specs.Declaration.{declaration, name_form, object_form, initial, taken, words, elements, length_of, interface_form, input, output, bus_out}
use Rattle.hc_scope.specs.Statement.{statement_form, simple_form, assignment, destination, index_at, block_form, step_form, turn, turns, switch, sent, received, channel, run, arm_form, case_form, other_form, macro_form}
use Rattle.hc_scope.specs.Nodes.{nodes}
use Rattle.hc_tree.specs.declared.item.Tree.{Tree}
use Rattle.hc_scope.specs.Expansion.{Outcome}
use Rattle.hc_scope.specs.Expands.{expansion, item_form, Program}

-- What names this in its `unfolding` line opens all that a tree is expanded by.
unfoldable pub computed : Tree → Outcome Program
unfolding expansion nodes visit make item_form declaration name_form object_form words width_in_range initial taken name_value expression_form before_index_form call call_context call_expression port_value index elements length_of interface_form input output bus_out statement_form simple_form assignment destination index_at block_form step_form turn turns switch sent received channel run arm_form case_form other_form macro_form cast unary binary cut choose fitted written index_width binary_whole out-ExprTree out-Type out-Size out-Stmt out-Macro out-LocalItem out shown hidden
computed tree = expansion tree
