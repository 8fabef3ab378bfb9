-- Each rule that is kept leaves the answer to those behind it.
use Rattle.std.proofs.Common.{◌≡◌, Some, rules}
use Rattle.hc_core.specs.Rules.{first_broken}
use Rattle.hc_rules.specs.Rules.{IfRefused}
use Rattle.hc_rules.proofs.Broken.{in_order, is_kept, is_error, is_answer, is_answered}
use Rattle.hc_rules.proofs.rules.first_broken.Goals as goal

pub returns-in_err-kept-clause-refused : goal.returns-in_err-kept-clause-refused
returns-in_err-kept-clause-refused c =
    let told : IfRefused c.in_err-kept.field-0.0 (λ r. first_broken c.args.core.now ≡ Some r) =
    is_error _ _ _ _ _ _ (in_order c.args.core.now) c.first_endless.ensures _ c.in_err-kept.ensures.refused in
    search rules

pub returns-in_err-kept-2-clause-refused : goal.returns-in_err-kept-2-clause-refused
returns-in_err-kept-2-clause-refused c =
    let to_18 = is_kept _ _ _ _ _ _ (in_order c.args.core.now) c.first_endless.ensures c.in_ok-kept.ensures.kept in
    let told : IfRefused c.in_err-kept-2.field-0.0 (λ r. first_broken c.args.core.now ≡ Some r) =
    is_error _ _ _ _ _ _ to_18 c.first_in_both.ensures _ c.in_err-kept-2.ensures.refused in
    search rules

pub returns-in_err-kept-3-clause-refused : goal.returns-in_err-kept-3-clause-refused
returns-in_err-kept-3-clause-refused c =
    let to_18 = is_kept _ _ _ _ _ _ (in_order c.args.core.now) c.first_endless.ensures c.in_ok-kept.ensures.kept in
    let to_19 = is_kept _ _ _ _ _ _ to_18 c.first_in_both.ensures c.in_ok-kept-2.ensures.kept in
    let told : IfRefused c.in_err-kept-3.field-0.0 (λ r. first_broken c.args.core.now ≡ Some r) =
    is_error _ _ _ _ _ _ to_19 c.first_where.ensures _ c.in_err-kept-3.ensures.refused in
    search rules

pub returns-in_err-kept-4-clause-refused : goal.returns-in_err-kept-4-clause-refused
returns-in_err-kept-4-clause-refused c =
    let to_18 = is_kept _ _ _ _ _ _ (in_order c.args.core.now) c.first_endless.ensures c.in_ok-kept.ensures.kept in
    let to_19 = is_kept _ _ _ _ _ _ to_18 c.first_in_both.ensures c.in_ok-kept-2.ensures.kept in
    let to_20 = is_kept _ _ _ _ _ _ to_19 c.first_where.ensures c.in_ok-kept-3.ensures.kept in
    let told : IfRefused c.in_err-kept-4.field-0.0 (λ r. first_broken c.args.core.now ≡ Some r) =
    is_error _ _ _ _ _ _ to_20 c.first_where-2.ensures _ c.in_err-kept-4.ensures.refused in
    search rules

pub returns-in_err-kept-5-clause-refused : goal.returns-in_err-kept-5-clause-refused
returns-in_err-kept-5-clause-refused c =
    let to_18 = is_kept _ _ _ _ _ _ (in_order c.args.core.now) c.first_endless.ensures c.in_ok-kept.ensures.kept in
    let to_19 = is_kept _ _ _ _ _ _ to_18 c.first_in_both.ensures c.in_ok-kept-2.ensures.kept in
    let to_20 = is_kept _ _ _ _ _ _ to_19 c.first_where.ensures c.in_ok-kept-3.ensures.kept in
    let to_21 = is_kept _ _ _ _ _ _ to_20 c.first_where-2.ensures c.in_ok-kept-4.ensures.kept in
    let told : IfRefused c.in_err-kept-5.field-0.0 (λ r. first_broken c.args.core.now ≡ Some r) =
    is_error _ _ _ _ _ _ to_21 c.first_access.ensures _ c.in_err-kept-5.ensures.refused in
    search rules

pub returns-clause-kept : goal.returns-clause-kept
returns-clause-kept c =
    let to_18 = is_kept _ _ _ _ _ _ (in_order c.args.core.now) c.first_endless.ensures c.in_ok-kept.ensures.kept in
    let to_19 = is_kept _ _ _ _ _ _ to_18 c.first_in_both.ensures c.in_ok-kept-2.ensures.kept in
    let to_20 = is_kept _ _ _ _ _ _ to_19 c.first_where.ensures c.in_ok-kept-3.ensures.kept in
    let to_21 = is_kept _ _ _ _ _ _ to_20 c.first_where-2.ensures c.in_ok-kept-4.ensures.kept in
    let to_22 = is_kept _ _ _ _ _ _ to_21 c.first_access.ensures c.in_ok-kept-5.ensures.kept in
    is_answered _ _ _ _ _ _ to_22 c.first_where-3.ensures _ c.kept-6.ensures.kept

pub returns-clause-refused : goal.returns-clause-refused
returns-clause-refused c =
    let to_18 = is_kept _ _ _ _ _ _ (in_order c.args.core.now) c.first_endless.ensures c.in_ok-kept.ensures.kept in
    let to_19 = is_kept _ _ _ _ _ _ to_18 c.first_in_both.ensures c.in_ok-kept-2.ensures.kept in
    let to_20 = is_kept _ _ _ _ _ _ to_19 c.first_where.ensures c.in_ok-kept-3.ensures.kept in
    let to_21 = is_kept _ _ _ _ _ _ to_20 c.first_where-2.ensures c.in_ok-kept-4.ensures.kept in
    let to_22 = is_kept _ _ _ _ _ _ to_21 c.first_access.ensures c.in_ok-kept-5.ensures.kept in
    is_answer _ _ _ _ _ _ to_22 c.first_where-3.ensures _ c.kept-6.ensures.refused
