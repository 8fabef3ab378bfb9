-- What the code's scopes stand for: one equation a form.
use Rattle.std.proofs.Common.{◌≡◌, ℕ, List, take, Option, Some, refl, sym, ◌∙◌, subst, ℤ, Bor}
use Rattle.hc_tree.specs.declared.name.Ident.{Ident}
use Rattle.hc_tree.specs.declared.expr.ExprTree.{ExprTree}
use Rattle.hc_scope.specs.Scope as s
use Rattle.hc_scope.specs.Expression.{bound}
use Rattle.hc_scope.specs.Reading.{declared_in, scope_of, Finds}
use Rattle.hc_scope.specs.declared.scope.Found.{Found}
use Rattle.hc_scope.specs.declared.scope.Scope.{Scope}
use Rattle.hc_scope.specs.declared.scope.Scope.TheVariants as code
use Rattle.hc_scope.specs.declared.scope.Scope.TheViews as view

pub reads-Outside : scope_of code.Outside ≡ s.outside
unfolding scope_of
reads-Outside = refl

pub reads-Declares : (names : _) (seen : ℕ) (around : Bor Scope) → scope_of (view.Declares names seen around) ≡ declared_in (take seen names.now.entries) (s.opened (scope_of around.now))
unfolding scope_of
reads-Declares names seen around = refl

pub reads-Turn : (x : Bor Ident) (number : Bor ℤ) (around : Bor Scope) → scope_of (view.Turn x number around) ≡ s.declared x.now.name (s.a_number number.now) (s.opened (scope_of around.now))
unfolding scope_of
reads-Turn x number around = refl

pub reads-Binds : (parameters : Bor (List Ident)) (arguments : Bor (List ExprTree)) (call around : Bor Scope) → scope_of (view.Binds parameters arguments call around) ≡ bound (scope_of call.now) parameters.now arguments.now (s.opened (scope_of around.now))
unfolding scope_of
reads-Binds parameters arguments call around = refl

-- what is found by an equal look-up
pub finds_as : {o p : Option s.Found} (r : Option Found) → o ≡ p → Finds p r → Finds o r
finds_as r e h = subst (λ x. Finds x r) (sym e) h

pub found_by : {o : Option s.Found} {m n : s.Meaning} {from to : s.Scope} → o ≡ Some (record { meaning = m; scope = from }) → n ≡ m → to ≡ from → o ≡ Some (record { meaning = n; scope = to })
found_by e is-m is-from = e ∙ (λ j. Some (record { meaning = sym is-m j; scope = sym is-from j }))
