use Rattle.std.proofs.Common.{◌≡◌, ◌≤◌, ◌+◌, Some, None, refl, sym, ap, ◌∙◌, subst}
use Rattle.hc_scope.specs.Scope.{named, name_by}
use Rattle.hc_scope.specs.Depth.{depth, depth_of}
use Rattle.hc_scope.specs.Reading.{scope_of, meaning_of, found_of}
use Rattle.hc_scope.proofs.Leads.{depth-found, named_as, step_as}
use Rattle.hc_scope.proofs.naming.step_from.Goals as goal

pub returns-in-None : goal.returns-in-None
returns-in-None c = named_as (scope_of c.args.scope.now) c.args.x.now _ None c.as_bytes.ensures.bytes c.in-None.ensures

pub returns-in-Argument : goal.returns-in-Argument
returns-in-Argument c =
    let scope = scope_of c.args.scope.now in
    let call = scope_of c.in-Argument.call.now in
    let found = c.in-Some.found in
    let whole = named_as scope c.args.x.now _ (Some (found_of found)) c.as_bytes.ensures.bytes c.in-Some.ensures in
    let lies : depth_of (meaning_of found.meaning) ≤ depth scope = depth-found _ scope (found_of found) c.in-Some.ensures in
    let deeper : depth call + 1 ≤ depth scope = subst (λ m. depth_of (meaning_of m) ≤ depth scope) c.in-Argument.is lies in
    step_as _ _ (depth call + 1) (depth scope) c.argument_step.result (whole ∙ ap (λ m. name_by (meaning_of m) c.args.x.now) c.in-Argument.is) deeper c.argument_step.ensures

pub returns-in-Object : goal.returns-in-Object
returns-in-Object c =
    let x = c.args.x.now in
    named_as (scope_of c.args.scope.now) x _ (Some (found_of c.in-Some.found)) c.as_bytes.ensures.bytes c.in-Some.ensures
    ∙ subst (λ m. name_by (meaning_of m) x ≡ named x (meaning_of m) None) (sym c.in-Object.is) refl

pub returns-in-Interface : goal.returns-in-Interface
returns-in-Interface c =
    let x = c.args.x.now in
    named_as (scope_of c.args.scope.now) x _ (Some (found_of c.in-Some.found)) c.as_bytes.ensures.bytes c.in-Some.ensures
    ∙ subst (λ m. name_by (meaning_of m) x ≡ named x (meaning_of m) None) (sym c.in-Interface.is) refl

pub returns-in-Number : goal.returns-in-Number
returns-in-Number c =
    let x = c.args.x.now in
    named_as (scope_of c.args.scope.now) x _ (Some (found_of c.in-Some.found)) c.as_bytes.ensures.bytes c.in-Some.ensures
    ∙ subst (λ m. name_by (meaning_of m) x ≡ named x (meaning_of m) None) (sym c.in-Number.is) refl

pub returns-in-Expression : goal.returns-in-Expression
returns-in-Expression c =
    let x = c.args.x.now in
    named_as (scope_of c.args.scope.now) x _ (Some (found_of c.in-Some.found)) c.as_bytes.ensures.bytes c.in-Some.ensures
    ∙ subst (λ m. name_by (meaning_of m) x ≡ named x (meaning_of m) None) (sym c.in-Expression.is) refl

pub returns-in-Procedure : goal.returns-in-Procedure
returns-in-Procedure c =
    let x = c.args.x.now in
    named_as (scope_of c.args.scope.now) x _ (Some (found_of c.in-Some.found)) c.as_bytes.ensures.bytes c.in-Some.ensures
    ∙ subst (λ m. name_by (meaning_of m) x ≡ named x (meaning_of m) None) (sym c.in-Procedure.is) refl
