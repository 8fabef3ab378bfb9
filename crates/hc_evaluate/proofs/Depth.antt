-- The parts of a node by the room around it.
use Rattle.std.proofs.Common.{◌≡◌, ℕ, suc, zero, ◌-◌, refl, ap, pos, false, arith}
use denote.Hole.Carrier.{out, shown, hidden}
use Rattle.hc_tree.specs.declared.place.Place.{Place}
use Rattle.hc_tree.specs.declared.name.Ident.{Ident}
use Rattle.hc_tree.specs.declared.expr.ExprTree.{ExprTree, out-ExprTree}
use Rattle.hc_tree.specs.declared.expr.ExprTree.TheVariants as e
use Rattle.hc_width.specs.Operand.{Whole}
use Rattle.hc_scope.specs.declared.state.State.{State}
use Rattle.hc_scope.specs.Expansion.{Outcome, Yields, Refuses, Expansion, and_then, pure, visit, too_deep, entered}
use Rattle.hc_scope.specs.Scope.{find}
use Rattle.hc_scope.specs.Parts.{Context, place_of}
use Rattle.hc_scope.specs.Expression.{is_call, is_macro, expression_form, before_index_form, name_value}
use Rattle.hc_scope.specs.Nodes.{nodes}

-- what is too deep is refused, whatever would come behind it
pub refused_then : {A B : Type 0} (o : Outcome (Unit {0})) (place : Place) (next : A → Expansion B)
    → and_then o (λ u. too_deep place) ≡ and_then (and_then o (λ u. too_deep place)) next
refused_then (Yields u s) place next = refl
refused_then (Refuses r) place next = refl

pub one_less : (room : ℕ) → room ≡ suc room - 1
one_less room = omega arith

pub expression_is : (room : ℕ) (c : Context) (x : ExprTree) (s : State)
    → (nodes room).expression c x s ≡ and_then (entered room (is_call c.scope x) c.calls (place_of x) s) (λ u. expression_form (nodes (room - 1)) c x)
unfolding nodes
expression_is zero c x s = refused_then (visit (is_call c.scope x) c.calls (place_of x) s) (place_of x) (λ u. expression_form (nodes zero) c x)
expression_is (suc room) c x s =
    ap (λ (n : ℕ). and_then (entered (suc room) (is_call c.scope x) c.calls (place_of x) s) (λ u. expression_form (nodes n) c x)) (one_less room)

pub before_index_is : (room : ℕ) (c : Context) (x : ExprTree) (s : State)
    → (nodes room).before_index c x s ≡ and_then (entered room (is_call c.scope x) c.calls (place_of x) s) (λ u. before_index_form (nodes (room - 1)) c x)
unfolding nodes
before_index_is zero c x s = refused_then (visit (is_call c.scope x) c.calls (place_of x) s) (place_of x) (λ u. before_index_form (nodes zero) c x)
before_index_is (suc room) c x s =
    ap (λ (n : ℕ). and_then (entered (suc room) (is_call c.scope x) c.calls (place_of x) s) (λ u. before_index_form (nodes n) c x)) (one_less room)

pub place_of_number : (place : Place) (value : ℕ) → place_of (e.Number place value) ≡ place
unfolding out-ExprTree out shown hidden
place_of_number place value = refl

pub place_of_name : (x : Ident) → place_of (e.Name x) ≡ x.place
unfolding out-ExprTree out shown hidden
place_of_name x = refl

-- a number
pub number_is : (room : ℕ) (c : Context) (place : Place) (value : ℕ) (s : State)
    → (nodes room).expression c (e.Number place value) s ≡ and_then (entered room false c.calls place s) (λ u. pure (Whole (pos value)))
unfolding expression_form out-ExprTree out shown hidden
number_is room c place value s = expression_is room c (e.Number place value) s

-- a name
pub name_is : (room : ℕ) (c : Context) (x : Ident) (s : State)
    → (nodes room).expression c (e.Name x) s ≡ and_then (entered room (is_macro (find x.name c.scope)) c.calls x.place s) (λ u. name_value (nodes (room - 1)) c x)
unfolding expression_form out-ExprTree out shown hidden
name_is room c x s = expression_is room c (e.Name x) s
