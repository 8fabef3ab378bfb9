-- What a name leads to, where a parameter stands for its argument.
use Rattle.std.specs.Prelude.{◌≡◌, ◌<◌, ℕ}
use Rattle.hc_tree.specs.declared.name.Ident.{Ident}
use Rattle.hc_tree.specs.declared.expr.ExprTree.{ExprTree}
use Rattle.hc_scope.specs.Scope.{Scope, Named, no_name, with_index, indexed_argument, argument, name_in, Layer}
use Rattle.hc_scope.specs.Depth.{depth}
use Rattle.hc_scope.specs.Reading.{scope_of, named_of}
use Rattle.hc_scope.specs.declared.naming.Step.{Step}
use Rattle.hc_scope.specs.declared.naming.Step.TheVariants.{Ends, Goes, GoesIndexed}
use Rattle.hc_scope.specs.declared.naming.NameForm.{NameForm}
use Rattle.hc_scope.specs.declared.naming.NameForm.TheVariants.{Alone, Indexed, Other}

-- what stands for a parameter with an argument of this form, where names stand for what is given
abbrev pub form_named : (Ident → Named) → Ident → Scope → NameForm → Named
form_named named_by parameter scope (Alone x) = named_by x.now
form_named named_by parameter scope (Indexed x i) = with_index i.now scope (named_by x.now)
form_named named_by parameter scope Other = no_name parameter

abbrev pub IsForm : Layer → NameForm → Type 0
IsForm e form = (named_by : Ident → Named) (parameter : Ident) (scope : Scope) → argument named_by parameter scope e ≡ form_named named_by parameter scope form

-- the same before an index
abbrev pub IsIndexedForm : Layer → ExprTree → NameForm → Type 0
IsIndexedForm e i form = (named_by : Ident → Named) (parameter : Ident) (scope : Scope) → indexed_argument named_by parameter i scope e ≡ form_named named_by parameter scope form

-- where a step leads: what the name stands for, or a name in a scope that lies less deep
abbrev pub IsStep : Named → ℕ → Step → Type 0
IsStep whole limit (Ends end) = whole ≡ named_of end
IsStep whole limit (Goes y call) = (whole ≡ name_in (scope_of call.now) y.now) × (depth (scope_of call.now) < limit)
IsStep whole limit (GoesIndexed y i call) = (whole ≡ with_index i.now (scope_of call.now) (name_in (scope_of call.now) y.now)) × (depth (scope_of call.now) < limit)
