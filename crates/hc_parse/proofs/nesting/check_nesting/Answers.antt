use Rattle.std.proofs.Common.{◌∙◌, List, refl, ap, sym, arith}
use Rattle.std.specs.List.{find}
use Rattle.hc_lex.specs.declared.token.Placed.{Placed}
use Rattle.hc_grammar.specs.Nesting.{nested, is_deep, nesting}
use Rattle.hc_parse.specs.Stack.{role_of}
use Rattle.hc_parse.proofs.Nestings.{reached-deep, reached-end, shallow-none, not-shallow}
use Rattle.hc_parse.proofs.nesting.check_nesting.Goals as goal

pub returns-then-nesting-gt-MOST-clause-first : goal.returns-then-nesting-gt-MOST-clause-first
returns-then-nesting-gt-MOST-clause-first c =
    let all = c.as_slice-list.result.now in
    let h = reached-deep all c.loop-i.i (role_of c.loop-i.before) (role_of c.loop-i.role) (role_of c.role_at-next.result) c.loop-i.levels c.take.new.self c.index-list-i.result
    c.loop-i.invariant c.loop-i-test.true c.index-list-i.is c.role_at-next.ensures c.in-Ok.ensures (omega arith) in
    let is_first = ap (λ (ts : List Placed). find is_deep (nested ts)) (sym c.as_slice-list.ensures) ∙ h in
    rw c.too_deep.ensures (record { at = record { token = c.index-list-i.result; nesting = nesting c.take.new.self }; first = is_first; refused = refl })

pub returns-then-nesting-gt-MOST-clause-accepts : goal.returns-then-nesting-gt-MOST-clause-accepts
returns-then-nesting-gt-MOST-clause-accepts c =
    let all = c.as_slice-list.result.now in
    let h = reached-deep all c.loop-i.i (role_of c.loop-i.before) (role_of c.loop-i.role) (role_of c.role_at-next.result) c.loop-i.levels c.take.new.self c.index-list-i.result
    c.loop-i.invariant c.loop-i-test.true c.index-list-i.is c.role_at-next.ensures c.in-Ok.ensures (omega arith) in
    λ shallow. absurd (not-shallow c.args.tokens.now.tokens _ (ap (λ (ts : List Placed). find is_deep (nested ts)) (sym c.as_slice-list.ensures) ∙ h) shallow)

pub returns-clause-kept : goal.returns-clause-kept
returns-clause-kept c =
    shallow-none c.args.tokens.now.tokens (ap (λ (ts : List Placed). find is_deep (nested ts)) (sym c.as_slice-list.ensures) ∙ reached-end c.as_slice-list.result.now c.loop-i.i (role_of c.loop-i.before) (role_of c.loop-i.role) c.loop-i.levels c.loop-i.invariant c.loop-i-test.false)
