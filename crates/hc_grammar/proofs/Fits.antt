-- Whether the rules of a form fit it: what may follow the form may follow the parts at their ends, and the forms with which
-- they can begin have lower ranks.
use Rattle.std.proofs.Common.{◌≡◌, ◌&&◌, ◌||◌, ℕ, zero, suc, Bool, true, false, not, nat_lt, if◌then◌else◌, List, [], ◌∷◌, Some, None, refl, lt-suc_self, lt-ltb}
use Rattle.hc_grammar.specs.declared.kind.Kind.{Kind}
use Rattle.hc_grammar.specs.Order.{number, mark_number}
use Rattle.hc_grammar.specs.Table.{Part, mark, form}
use Rattle.hc_grammar.specs.Form as f
use Rattle.hc_grammar.specs.Form.{Form, Gives}
use Rattle.hc_grammar.specs.Expression.{Rules}
use Rattle.hc_grammar.specs.LastEmpty.{may_be_empty}
use Rattle.hc_grammar.proofs.Shortest.{follow, row_fits}

-- A form's rank is above that of each form with which it can begin.
abbrev pub rank : Form → ℕ
rank f.unary = 3
rank f.primary = 2
rank (f.binary zero) = 4
rank (f.binary (suc n)) = suc (rank (f.binary n))
rank f.expr = 20
rank f.paren_tail = 21
rank f.args = 21
rank f.spec_value = 21
rank f.opt_expr = 21
rank f.size = 1
rank f.type = 0
rank f.unsigned_tail = 2
rank f.signed_tail = 2
rank (f.decl local) = 2
rank f.static_tail = 2
rank (f.vars_tail init) = 1
rank (f.var init) = 1
rank (f.memories_tail init) = 1
rank (f.mem init) = 1
rank f.boxed = 1
rank f.sig = 1
rank f.spec = 1
rank f.declared = 3
rank f.target = 1
rank f.simple = 2
rank f.stmt = 3
rank f.stmts = 4
rank (f.order_tail order) = 1
rank f.simple_tail = 1
rank f.name_stmt_tail = 2
rank f.opt_simple = 3
rank (f.arm_tail has_default) = 5
rank f.item = 3
rank f.items = 4
rank f.program = 5
rank f.opt_params = 1
rank f.names = 1
rank _ = 0

abbrev pub leads : ℕ → List (Part Kind Form) → Bool
leads n [] = true
leads n (mark x ∷ row) = true
leads n (form f ∷ row) = nat_lt (rank f) n && (not (may_be_empty f) || leads n row)

abbrev pub fits : (x : Form) → Rules x → Bool
fits x None = true
fits x (Some r) = row_fits (follow x) r.row && leads (rank x) r.row

pub fits-if : (x : Form) (a b : Rules x) → fits x a ≡ true → fits x b ≡ true → (t : Bool) → fits x (if t then a else b) ≡ true
fits-if x a b p q true = p
fits-if x a b p q false = q

abbrev binary_row : ℕ → List (Part Kind Form)
binary_row n = form (f.binary n) ∷ form (f.binary_tail (suc n)) ∷ []

pub fits-binary : (n : ℕ) → row_fits (follow (f.binary (suc n))) (binary_row n) && leads (rank (f.binary (suc n))) (binary_row n) ≡ true
unfolding number mark_number
fits-binary n = rw (lt-ltb (rank (f.binary n)) (suc (rank (f.binary n))) (lt-suc_self (rank (f.binary n)))) refl
