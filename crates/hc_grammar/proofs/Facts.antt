-- What the laws of the place of a refusal want to know of the table.
use Rattle.std.proofs.Common.{◌≡◌, ◌&&◌, ◌||◌, not, nat_lt, ltb-true, ℕ, zero, suc, Bool, true, false, List, ◌∷◌, [], Option, Some, None, refl, ap, ◌∙◌, sym}
use Rattle.hc_tree.specs.declared.stmt.Order.{Order}
use Rattle.hc_tree.specs.declared.stmt.Order.TheVariants as order
use Rattle.hc_lex.specs.declared.token.Placed.{Placed}
use Rattle.hc_grammar.specs.declared.kind.Kind.{Kind}
use Rattle.hc_grammar.specs.Kind.{kind}
use Rattle.hc_grammar.specs.Table.{Part, mark, form, Rule, Reads, by, part, done}
use Rattle.hc_grammar.specs.Form as f
use Rattle.hc_grammar.specs.Form.{Form, Gives, Initial, Never, Maybe, Always}
use Rattle.hc_grammar.specs.Grammar.{grammar, rule}
use Rattle.hc_grammar.specs.LastEmpty.{may_be_empty, knows_empty}
use Rattle.hc_grammar.proofs.Endings.{Endings, RowFollows}
use Rattle.hc_grammar.proofs.Follow.{decide}
use Rattle.hc_grammar.proofs.Shortest.{follow, follows, token_of, kind_of_token, ending, row_fits, row-follows}
use Rattle.hc_grammar.proofs.Fits.{fits, rank, leads}
use Rattle.hc_grammar.proofs.Either.{Leads}
use Rattle.hc_grammar.specs.LastTable.{and-left, and-right}
use Rattle.hc_grammar.proofs.Clear.{clear}
use Rattle.hc_grammar.proofs.Computed.{tried}
use Rattle.hc_grammar.proofs.Tried.{whole}
use Rattle.hc_grammar.proofs.FitsExpression.{rows-name, rows-text, rows-expr, rows-choice_tail, rows-binary, rows-binary_tail, rows-unary, rows-paren_tail, rows-primary, rows-name_tail, rows-args, rows-more_exprs, rows-postfix_tail, rows-bits_tail, rows-type, rows-unsigned_tail, rows-signed_tail, rows-size}
use Rattle.hc_grammar.proofs.FitsDeclaration.{rows-decl, rows-static_tail, rows-vars_tail, rows-more_vars, rows-var, rows-var_tail, rows-memories_tail, rows-mem, rows-more_mems, rows-mem_init, rows-boxed, rows-sig, rows-sig_tail, rows-more_sigs, rows-more_names, rows-with, rows-spec, rows-more_specs, rows-spec_value, rows-more_texts}
use Rattle.hc_grammar.proofs.FitsStatement.{rows-block, rows-declared, rows-stmts, rows-stmt, rows-order_tail, rows-name_stmt_tail, rows-else_tail, rows-simple, rows-simple_tail, rows-opt_simple, rows-opt_expr, rows-target, rows-index, rows-assign, rows-arms, rows-arm_tail, rows-arm_end, rows-cases, rows-offer, rows-case_end, rows-more_cases, rows-other_end}
use Rattle.hc_grammar.proofs.FitsItem.{rows-program, rows-items, rows-item, rows-set_tail, rows-opt_void, rows-interface_tail, rows-macro, rows-macro_tail, rows-params, rows-opt_params, rows-names}

if-empty : (a b : Bool) → a ≡ true → not a || b ≡ true → b ≡ true
if-empty true b empty is = is
if-empty false b empty is = absurd cc

rows-before : (x : Form) (t : Placed) → fits x (rule x (Some t)) ≡ true
rows-before f.name t = rows-name t (kind t) refl
rows-before f.text t = rows-text t (kind t) refl
rows-before f.expr t = rows-expr t (kind t) refl
rows-before f.choice_tail t = rows-choice_tail t (kind t) refl
rows-before (f.binary n) t = rows-binary n t (kind t) refl
rows-before (f.binary_tail n) t = rows-binary_tail n t (kind t) refl
rows-before f.unary t = rows-unary t (kind t) refl
rows-before f.paren_tail t = rows-paren_tail t (kind t) refl
rows-before f.primary t = rows-primary t (kind t) refl
rows-before f.name_tail t = rows-name_tail t (kind t) refl
rows-before f.args t = rows-args t (kind t) refl
rows-before f.more_exprs t = rows-more_exprs t (kind t) refl
rows-before f.postfix_tail t = rows-postfix_tail t (kind t) refl
rows-before f.bits_tail t = rows-bits_tail t (kind t) refl
rows-before f.type t = rows-type t (kind t) refl
rows-before f.unsigned_tail t = rows-unsigned_tail t (kind t) refl
rows-before f.signed_tail t = rows-signed_tail t (kind t) refl
rows-before f.size t = rows-size t (kind t) refl
rows-before (f.decl b) t = rows-decl b t (kind t) refl
rows-before f.static_tail t = rows-static_tail t (kind t) refl
rows-before (f.vars_tail b) t = rows-vars_tail b t (kind t) refl
rows-before (f.more_vars b) t = rows-more_vars b t (kind t) refl
rows-before (f.var b) t = rows-var b t (kind t) refl
rows-before (f.var_tail b) t = rows-var_tail b t (kind t) refl
rows-before (f.memories_tail i) t = rows-memories_tail i t (kind t) refl
rows-before (f.mem i) t = rows-mem i t (kind t) refl
rows-before (f.more_mems i) t = rows-more_mems i t (kind t) refl
rows-before (f.mem_init i) t = rows-mem_init i t (kind t) refl
rows-before f.boxed t = rows-boxed t (kind t) refl
rows-before f.sig t = rows-sig t (kind t) refl
rows-before f.sig_tail t = rows-sig_tail t (kind t) refl
rows-before f.more_sigs t = rows-more_sigs t (kind t) refl
rows-before f.more_names t = rows-more_names t (kind t) refl
rows-before f.with t = rows-with t (kind t) refl
rows-before f.spec t = rows-spec t (kind t) refl
rows-before f.more_specs t = rows-more_specs t (kind t) refl
rows-before f.spec_value t = rows-spec_value t (kind t) refl
rows-before f.more_texts t = rows-more_texts t (kind t) refl
rows-before f.block t = rows-block t (kind t) refl
rows-before f.declared t = rows-declared t (kind t) refl
rows-before f.stmts t = rows-stmts t (kind t) refl
rows-before f.stmt t = rows-stmt t (kind t) refl
rows-before (f.order_tail o) t = rows-order_tail o t (kind t) refl
rows-before f.name_stmt_tail t = rows-name_stmt_tail t (kind t) refl
rows-before f.else_tail t = rows-else_tail t (kind t) refl
rows-before f.simple t = rows-simple t (kind t) refl
rows-before f.simple_tail t = rows-simple_tail t (kind t) refl
rows-before f.opt_simple t = rows-opt_simple t (kind t) refl
rows-before f.opt_expr t = rows-opt_expr t (kind t) refl
rows-before f.target t = rows-target t (kind t) refl
rows-before f.index t = rows-index t (kind t) refl
rows-before f.assign t = rows-assign t (kind t) refl
rows-before (f.arms b) t = rows-arms b t (kind t) refl
rows-before (f.arm_tail b) t = rows-arm_tail b t (kind t) refl
rows-before (f.arm_end b) t = rows-arm_end b t (kind t) refl
rows-before f.cases t = rows-cases t (kind t) refl
rows-before f.offer t = rows-offer t (kind t) refl
rows-before f.case_end t = rows-case_end t (kind t) refl
rows-before f.more_cases t = rows-more_cases t (kind t) refl
rows-before f.other_end t = rows-other_end t (kind t) refl
rows-before f.program t = rows-program t (kind t) refl
rows-before f.items t = rows-items t (kind t) refl
rows-before f.item t = rows-item t (kind t) refl
rows-before f.set_tail t = rows-set_tail t (kind t) refl
rows-before f.opt_void t = rows-opt_void t (kind t) refl
rows-before f.interface_tail t = rows-interface_tail t (kind t) refl
rows-before f.macro t = rows-macro t (kind t) refl
rows-before f.macro_tail t = rows-macro_tail t (kind t) refl
rows-before f.params t = rows-params t (kind t) refl
rows-before f.opt_params t = rows-opt_params t (kind t) refl
rows-before f.names t = rows-names t (kind t) refl

rows-at_end : (x : Form) → fits x (rule x None) ≡ true
unfolding tried
rows-at_end (f.mem_init Never) = refl
rows-at_end (f.mem_init Maybe) = refl
rows-at_end (f.mem_init Always) = refl
rows-at_end _ = refl

rows-all : (x : Form) (o : Option Placed) → fits x (rule x o) ≡ true
rows-all x None = rows-at_end x
rows-all x (Some t) = rows-before x t

fits-by : (x : Form) (o : Option Placed) (r : Rule Kind Gives x) → rule x o ≡ Some r → row_fits (follow x) r.row && leads (rank x) r.row ≡ true
fits-by x o r e = ap (fits x) (sym e) ∙ rows-all x o

rows-by : (x : Form) (o : Option Placed) (r : Rule Kind Gives x) → rule x o ≡ Some r → (next : Option Kind) → follows x next ≡ true
    → RowFollows grammar may_be_empty knows_empty ending follows r.row next
rows-by x o r e next there = row-follows (follow x) r.row (and-left (row_fits (follow x) r.row) (leads (rank x) r.row) (fits-by x o r e)) next there

leads-row : (n : ℕ) (row : List (Part Kind Form)) → leads n row ≡ true → Leads grammar may_be_empty knows_empty decide rank n row
leads-row n [] is = tt
leads-row n (mark x ∷ row) is = tt
leads-row n (form f ∷ row) is = (
  ltb-true (rank f) n (and-left (nat_lt (rank f) n) (not (may_be_empty f) || leads n row) is),
  λ empty. leads-row n row (if-empty (may_be_empty f) (leads n row) empty (and-right (nat_lt (rank f) n) (not (may_be_empty f) || leads n row) is)),
)

pub leads-by : (x : Form) (o : Option Placed) (r : Rule Kind Gives x) → rule x o ≡ Some r → Leads grammar may_be_empty knows_empty decide rank (rank x) r.row
leads-by x o r e = leads-row (rank x) r.row (and-right (row_fits (follow x) r.row) (leads (rank x) r.row) (fits-by x o r e))

-- ---- the shortest lists are read

abbrev Shortest : Form → Type 0
Shortest x = (v : Gives x) × Reads grammar x (ending x) v []

spelled-name : Shortest f.name
unfolding tried
spelled-name = whole grammar decide (tried f.name (ending f.name)) refl

spelled-text : Shortest f.text
unfolding tried
spelled-text = whole grammar decide (tried f.text (ending f.text)) refl

spelled-expr : Shortest f.expr
unfolding tried
spelled-expr = whole grammar decide (tried f.expr (ending f.expr)) refl

spelled-unary : Shortest f.unary
unfolding tried
spelled-unary = whole grammar decide (tried f.unary (ending f.unary)) refl

spelled-binary : (n : ℕ) → Shortest (f.binary n)
unfolding tried
spelled-binary zero = let it = spelled-unary in (_, by _ (it.0, tt) refl (part [] it.1 done) refl)
spelled-binary (suc n) =
    let it = spelled-binary n in
    (_, by _ (it.0, (_, tt)) refl (part [] it.1 (part [] (by _ tt refl done refl) done)) refl)

spelled-paren_tail : Shortest f.paren_tail
unfolding tried
spelled-paren_tail = whole grammar decide (tried f.paren_tail (ending f.paren_tail)) refl

spelled-primary : Shortest f.primary
unfolding tried
spelled-primary = whole grammar decide (tried f.primary (ending f.primary)) refl

spelled-bits_tail : Shortest f.bits_tail
unfolding tried
spelled-bits_tail = whole grammar decide (tried f.bits_tail (ending f.bits_tail)) refl

spelled-type : Shortest f.type
unfolding tried
spelled-type = whole grammar decide (tried f.type (ending f.type)) refl

spelled-unsigned_tail : Shortest f.unsigned_tail
unfolding tried
spelled-unsigned_tail = whole grammar decide (tried f.unsigned_tail (ending f.unsigned_tail)) refl

spelled-signed_tail : Shortest f.signed_tail
unfolding tried
spelled-signed_tail = whole grammar decide (tried f.signed_tail (ending f.signed_tail)) refl

spelled-size : Shortest f.size
unfolding tried
spelled-size = whole grammar decide (tried f.size (ending f.size)) refl

spelled-decl : (b : Bool) → Shortest (f.decl b)
unfolding tried
spelled-decl true = whole grammar decide (tried (f.decl true) (ending (f.decl true))) refl
spelled-decl false = whole grammar decide (tried (f.decl false) (ending (f.decl false))) refl

spelled-static_tail : Shortest f.static_tail
unfolding tried
spelled-static_tail = whole grammar decide (tried f.static_tail (ending f.static_tail)) refl

spelled-vars_tail : (b : Bool) → Shortest (f.vars_tail b)
unfolding tried
spelled-vars_tail true = whole grammar decide (tried (f.vars_tail true) (ending (f.vars_tail true))) refl
spelled-vars_tail false = whole grammar decide (tried (f.vars_tail false) (ending (f.vars_tail false))) refl

spelled-var : (b : Bool) → Shortest (f.var b)
unfolding tried
spelled-var true = whole grammar decide (tried (f.var true) (ending (f.var true))) refl
spelled-var false = whole grammar decide (tried (f.var false) (ending (f.var false))) refl

spelled-memories_tail : (i : Initial) → Shortest (f.memories_tail i)
unfolding tried
spelled-memories_tail Never = whole grammar decide (tried (f.memories_tail Never) (ending (f.memories_tail Never))) refl
spelled-memories_tail Maybe = whole grammar decide (tried (f.memories_tail Maybe) (ending (f.memories_tail Maybe))) refl
spelled-memories_tail Always = whole grammar decide (tried (f.memories_tail Always) (ending (f.memories_tail Always))) refl

spelled-mem : (i : Initial) → Shortest (f.mem i)
unfolding tried
spelled-mem Never = whole grammar decide (tried (f.mem Never) (ending (f.mem Never))) refl
spelled-mem Maybe = whole grammar decide (tried (f.mem Maybe) (ending (f.mem Maybe))) refl
spelled-mem Always = whole grammar decide (tried (f.mem Always) (ending (f.mem Always))) refl

spelled-mem_init : (i : Initial) → Shortest (f.mem_init i)
unfolding tried
spelled-mem_init Never = whole grammar decide (tried (f.mem_init Never) (ending (f.mem_init Never))) refl
spelled-mem_init Maybe = whole grammar decide (tried (f.mem_init Maybe) (ending (f.mem_init Maybe))) refl
spelled-mem_init Always = whole grammar decide (tried (f.mem_init Always) (ending (f.mem_init Always))) refl

spelled-boxed : Shortest f.boxed
unfolding tried
spelled-boxed = whole grammar decide (tried f.boxed (ending f.boxed)) refl

spelled-sig : Shortest f.sig
unfolding tried
spelled-sig = whole grammar decide (tried f.sig (ending f.sig)) refl

spelled-spec : Shortest f.spec
unfolding tried
spelled-spec = whole grammar decide (tried f.spec (ending f.spec)) refl

spelled-spec_value : Shortest f.spec_value
unfolding tried
spelled-spec_value = whole grammar decide (tried f.spec_value (ending f.spec_value)) refl

spelled-block : Shortest f.block
unfolding tried
spelled-block = whole grammar decide (tried f.block (ending f.block)) refl

spelled-stmt : Shortest f.stmt
unfolding tried
spelled-stmt = whole grammar decide (tried f.stmt (ending f.stmt)) refl

spelled-order_tail : (o : Order) → Shortest (f.order_tail o)
unfolding tried
spelled-order_tail order.Seq = whole grammar decide (tried (f.order_tail order.Seq) (ending (f.order_tail order.Seq))) refl
spelled-order_tail order.Par = whole grammar decide (tried (f.order_tail order.Par) (ending (f.order_tail order.Par))) refl

spelled-name_stmt_tail : Shortest f.name_stmt_tail
unfolding tried
spelled-name_stmt_tail = whole grammar decide (tried f.name_stmt_tail (ending f.name_stmt_tail)) refl

spelled-simple : Shortest f.simple
unfolding tried
spelled-simple = whole grammar decide (tried f.simple (ending f.simple)) refl

spelled-simple_tail : Shortest f.simple_tail
unfolding tried
spelled-simple_tail = whole grammar decide (tried f.simple_tail (ending f.simple_tail)) refl

spelled-target : Shortest f.target
unfolding tried
spelled-target = whole grammar decide (tried f.target (ending f.target)) refl

spelled-assign : Shortest f.assign
unfolding tried
spelled-assign = whole grammar decide (tried f.assign (ending f.assign)) refl

spelled-cases : Shortest f.cases
unfolding tried
spelled-cases = whole grammar decide (tried f.cases (ending f.cases)) refl

spelled-offer : Shortest f.offer
unfolding tried
spelled-offer = whole grammar decide (tried f.offer (ending f.offer)) refl

spelled-item : Shortest f.item
unfolding tried
spelled-item = whole grammar decide (tried f.item (ending f.item)) refl

spelled-set_tail : Shortest f.set_tail
unfolding tried
spelled-set_tail = whole grammar decide (tried f.set_tail (ending f.set_tail)) refl

spelled-interface_tail : Shortest f.interface_tail
unfolding tried
spelled-interface_tail = whole grammar decide (tried f.interface_tail (ending f.interface_tail)) refl

spelled-macro : Shortest f.macro
unfolding tried
spelled-macro = whole grammar decide (tried f.macro (ending f.macro)) refl

spelled-macro_tail : Shortest f.macro_tail
unfolding tried
spelled-macro_tail = whole grammar decide (tried f.macro_tail (ending f.macro_tail)) refl

spelled-params : Shortest f.params
unfolding tried
spelled-params = whole grammar decide (tried f.params (ending f.params)) refl

spelled : (x : Form) → Shortest x
spelled f.name = spelled-name
spelled f.text = spelled-text
spelled f.expr = spelled-expr
spelled f.choice_tail = knows_empty.empty f.choice_tail refl
spelled (f.binary n) = spelled-binary n
spelled (f.binary_tail n) = knows_empty.empty (f.binary_tail n) refl
spelled f.unary = spelled-unary
spelled f.paren_tail = spelled-paren_tail
spelled f.primary = spelled-primary
spelled f.name_tail = knows_empty.empty f.name_tail refl
spelled f.args = knows_empty.empty f.args refl
spelled f.more_exprs = knows_empty.empty f.more_exprs refl
spelled f.postfix_tail = knows_empty.empty f.postfix_tail refl
spelled f.bits_tail = spelled-bits_tail
spelled f.type = spelled-type
spelled f.unsigned_tail = spelled-unsigned_tail
spelled f.signed_tail = spelled-signed_tail
spelled f.size = spelled-size
spelled (f.decl b) = spelled-decl b
spelled f.static_tail = spelled-static_tail
spelled (f.vars_tail b) = spelled-vars_tail b
spelled (f.more_vars b) = knows_empty.empty (f.more_vars b) refl
spelled (f.var b) = spelled-var b
spelled (f.var_tail b) = knows_empty.empty (f.var_tail b) refl
spelled (f.memories_tail i) = spelled-memories_tail i
spelled (f.mem i) = spelled-mem i
spelled (f.more_mems i) = knows_empty.empty (f.more_mems i) refl
spelled (f.mem_init i) = spelled-mem_init i
spelled f.boxed = spelled-boxed
spelled f.sig = spelled-sig
spelled f.sig_tail = knows_empty.empty f.sig_tail refl
spelled f.more_sigs = knows_empty.empty f.more_sigs refl
spelled f.more_names = knows_empty.empty f.more_names refl
spelled f.with = knows_empty.empty f.with refl
spelled f.spec = spelled-spec
spelled f.more_specs = knows_empty.empty f.more_specs refl
spelled f.spec_value = spelled-spec_value
spelled f.more_texts = knows_empty.empty f.more_texts refl
spelled f.block = spelled-block
spelled f.declared = knows_empty.empty f.declared refl
spelled f.stmts = knows_empty.empty f.stmts refl
spelled f.stmt = spelled-stmt
spelled (f.order_tail o) = spelled-order_tail o
spelled f.name_stmt_tail = spelled-name_stmt_tail
spelled f.else_tail = knows_empty.empty f.else_tail refl
spelled f.simple = spelled-simple
spelled f.simple_tail = spelled-simple_tail
spelled f.opt_simple = knows_empty.empty f.opt_simple refl
spelled f.opt_expr = knows_empty.empty f.opt_expr refl
spelled f.target = spelled-target
spelled f.index = knows_empty.empty f.index refl
spelled f.assign = spelled-assign
spelled (f.arms b) = knows_empty.empty (f.arms b) refl
spelled (f.arm_tail b) = knows_empty.empty (f.arm_tail b) refl
spelled (f.arm_end b) = knows_empty.empty (f.arm_end b) refl
spelled f.cases = spelled-cases
spelled f.offer = spelled-offer
spelled f.case_end = knows_empty.empty f.case_end refl
spelled f.more_cases = knows_empty.empty f.more_cases refl
spelled f.other_end = knows_empty.empty f.other_end refl
spelled f.program = knows_empty.empty f.program refl
spelled f.items = knows_empty.empty f.items refl
spelled f.item = spelled-item
spelled f.set_tail = spelled-set_tail
spelled f.opt_void = knows_empty.empty f.opt_void refl
spelled f.interface_tail = spelled-interface_tail
spelled f.macro = spelled-macro
spelled f.macro_tail = spelled-macro_tail
spelled f.params = spelled-params
spelled f.opt_params = knows_empty.empty f.opt_params refl
spelled f.names = knows_empty.empty f.names refl

nothing : (x : Form) → may_be_empty x ≡ true → ending x ≡ []
nothing f.name is = absurd cc
nothing f.text is = absurd cc
nothing f.expr is = absurd cc
nothing (f.binary n) is = absurd cc
nothing f.unary is = absurd cc
nothing f.paren_tail is = absurd cc
nothing f.primary is = absurd cc
nothing f.bits_tail is = absurd cc
nothing f.type is = absurd cc
nothing f.unsigned_tail is = absurd cc
nothing f.signed_tail is = absurd cc
nothing f.size is = absurd cc
nothing (f.decl b) is = absurd cc
nothing f.static_tail is = absurd cc
nothing (f.vars_tail b) is = absurd cc
nothing (f.var b) is = absurd cc
nothing (f.memories_tail i) is = absurd cc
nothing (f.mem i) is = absurd cc
nothing (f.mem_init Never) is = refl
nothing (f.mem_init Maybe) is = refl
nothing (f.mem_init Always) is = absurd cc
nothing f.boxed is = absurd cc
nothing f.sig is = absurd cc
nothing f.spec is = absurd cc
nothing f.spec_value is = absurd cc
nothing f.block is = absurd cc
nothing f.stmt is = absurd cc
nothing (f.order_tail o) is = absurd cc
nothing f.name_stmt_tail is = absurd cc
nothing f.simple is = absurd cc
nothing f.simple_tail is = absurd cc
nothing f.target is = absurd cc
nothing f.assign is = absurd cc
nothing f.cases is = absurd cc
nothing f.offer is = absurd cc
nothing f.item is = absurd cc
nothing f.set_tail is = absurd cc
nothing f.interface_tail is = absurd cc
nothing f.macro is = absurd cc
nothing f.macro_tail is = absurd cc
nothing f.params is = absurd cc
nothing _ is = refl

pub endings : Endings grammar may_be_empty knows_empty
endings = record {
  token_of = token_of;
  kind_of_token = kind_of_token;
  ending = ending;
  follows = follows;
  spelled = spelled;
  nothing = nothing;
  at_end = λ x. refl;
  rows = rows-by;
  clear = clear;
}
