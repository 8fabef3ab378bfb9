-- What is found in a scope, and what it stands for.
use Rattle.std.proofs.Common.{◌≡◌, ℕ, ◌+◌, ◌≤◌, Bool, true, false, if◌then◌else◌, List, Option, Some, None, refl, sym, ap, ◌∙◌, subst, arith}
use Rattle.std.specs.Str.{bytes_eq}
use Rattle.hc_tree.specs.declared.name.Ident.{Ident}
use Rattle.hc_scope.specs.Depth.{depth, depth_of}
use Rattle.hc_scope.specs.Steps.{IsStep}
use Rattle.hc_scope.specs.declared.naming.Step.{Step}
use Rattle.hc_scope.specs.declared.naming.Step.TheVariants.{Ends, Goes, GoesIndexed}
use Rattle.hc_scope.specs.Scope.{Meaning, Scope, outside, opened, declared, Found, find, Named, missing, name_in, name_by}

found_either : (x y : List ℕ) (m : Meaning) (rest : Scope) (f : Found) (b : Bool) → (find x rest ≡ Some f → depth_of f.meaning ≤ depth rest)
    → (if b then Some (record { meaning = m; scope = declared y m rest }) else find x rest) ≡ Some f → depth_of f.meaning ≤ depth_of m + depth rest
found_either x y m rest f true deeper e =
    let same : record { meaning = m; scope = declared y m rest } ≡ f = cc in
    subst (λ (g : Found). depth_of g.meaning ≤ depth_of m + depth rest) same (omega arith)
found_either x y m rest f false deeper e = let less = deeper e in omega arith

-- what is found lies no deeper
pub depth-found : (x : List ℕ) (scope : Scope) (f : Found) → find x scope ≡ Some f → depth_of f.meaning ≤ depth scope
depth-found x outside f h = cc
depth-found x (opened around) f h = depth-found x around f h
depth-found x (declared y m rest) f h = found_either x y m rest f (bytes_eq y x) (depth-found x rest f) h

-- what stands in the place of a target or a channel, by what is found
abbrev pub named_by : Ident → Option Found → Named
named_by x None = missing x
named_by x (Some f) = name_by f.meaning x

named_either : (y : List ℕ) (m : Meaning) (rest : Scope) (x : Ident) (b : Bool) → name_in rest x ≡ named_by x (find x.name rest)
    → (if b then name_by m x else name_in rest x) ≡ named_by x (if b then Some (record { meaning = m; scope = declared y m rest }) else find x.name rest)
named_either y m rest x true h = refl
named_either y m rest x false h = h

pub name_in-found : (scope : Scope) (x : Ident) → name_in scope x ≡ named_by x (find x.name scope)
name_in-found outside x = refl
name_in-found (opened around) x = name_in-found around x
name_in-found (declared y m rest) x = named_either y m rest x (bytes_eq y x.name) (name_in-found rest x)

pub named_as : (scope : Scope) (x : Ident) (name : List ℕ) (o : Option Found) → name ≡ x.name → find name scope ≡ o → name_in scope x ≡ named_by x o
named_as scope x name o e h = name_in-found scope x ∙ ap (named_by x) (ap (λ y. find y scope) (sym e) ∙ h)

pub step_as : (whole same : Named) (limit more : ℕ) (step : Step) → same ≡ whole → limit ≤ more → IsStep whole limit step → IsStep same more step
step_as whole same limit more (Ends end) e le h = e ∙ h
step_as whole same limit more (Goes y call) e le h = let below = h.1 in (e ∙ h.0, omega arith)
step_as whole same limit more (GoesIndexed y i call) e le h = let below = h.1 in (e ∙ h.0, omega arith)
