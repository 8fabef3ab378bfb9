-- The names of a table as a scope.
use Rattle.std.proofs.Common.{◌≡◌, Bool, true, false, ◌||◌, List, [], ◌∷◌, ℕ, Bor, Option, Some, None, refl, sym, ap, ◌∙◌}
use Rattle.std.specs.Prelude.{cond}
use Rattle.std.specs.Option.{is_some}
use Rattle.std.specs.Map.{lookup}
use Rattle.std.specs.Str.{bytes_eq}
use Rattle.std.specs.Cmp.Lexicographic.{nat_list_eq_equiv}
use Rattle.hc_scope.specs.Scope as s
use Rattle.hc_scope.specs.Reading.{declared_in, declared_of}
use Rattle.hc_scope.specs.Table.{Entries}
use Rattle.hc_scope.specs.Reading.{scope_in}
use Rattle.hc_scope.specs.declared.scope.Declared.{Declared}

pub declares : (x : List ℕ) (es : Entries) (scope : s.Scope)
    → s.is_declared x (declared_in es scope) ≡ (is_some (lookup (λ (k : Bor (List ℕ)). bytes_eq x k.now) es) || s.is_declared x scope)
declares x [] scope = refl
declares x (entry ∷ es) scope =
    declares x es (s.declared entry.0.now (declared_of entry.1) scope)
    ∙ one (bytes_eq x entry.0.now) (lookup (λ (k : Bor (List ℕ)). bytes_eq x k.now) es) entry.1 (s.is_declared x scope) (bytes_eq entry.0.now x) (nat_list_eq_equiv.symm entry.0.now x)
  where
    one : (same : Bool) (found : Option Declared) (d : Declared) (outer back : Bool) → back ≡ same → (is_some found || (back || outer)) ≡ (is_some (cond same (Some d) found) || outer)
    one true None d outer back is = ap (λ b. b || outer) is
    one true (Some e) d outer back is = refl
    one false None d outer back is = ap (λ b. b || outer) is
    one false (Some e) d outer back is = refl

or_false : (b : Bool) → (b || false) ≡ b
or_false true = refl
or_false false = refl

pub declares_in : (x : List ℕ) (es : Entries) (around : s.Scope) → is_some (lookup (λ (k : Bor (List ℕ)). bytes_eq x k.now) es) ≡ s.is_declared x (scope_in es around)
declares_in x es around = sym (declares x es (s.opened around) ∙ or_false (is_some (lookup (λ (k : Bor (List ℕ)). bytes_eq x k.now) es)))
