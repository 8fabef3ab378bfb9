use Rattle.std.proofs.Common.{sym, subst, Err}
use Rattle.hc_core.specs.Read as read
use Rattle.hc_core.specs.Sound.{IsKept}
use Rattle.hc_scope.specs.Nodes.{nodes}
use Rattle.hc_scope.specs.Statement.{destination, kept, received}
use Rattle.hc_scope.specs.Reading.{scope_of}
use Rattle.hc_evaluate.specs.Targets.{typed_read, destination_read}
use Rattle.hc_evaluate.proofs.Steps.{err_then, value_then}
use Rattle.hc_evaluate.proofs.Receiving.{kept_target}
use Rattle.hc_evaluate.proofs.Results.{if_ok_then}
use Rattle.hc_evaluate.proofs.channel.received.Goals as goal

pub returns-in-Ok-target_of-clause-kept : goal.returns-in-Ok-target_of-clause-kept
returns-in-Ok-target_of-clause-kept c =
    let s = c.args.state.now in
    let is = kept_target c.in-Ok.d.name.now (destination_read c.in-Ok.d.to) c.in-Ok-kept.field-0 (λ u. u) s (read.target c.in-Ok-target_of.to) (nodes c.args.room) c.args.calls s c.target_of.new.state (c.in-Ok-kept.ensures s) c.in-Ok-target_of.ensures.answers in
    if_ok_then c.same_type.result _ (λ to. IsKept (read.target to)) c.same_type.ensures.same (λ to same. subst (λ t. IsKept (read.target t)) (sym same) is)

pub returns-in-Err-kept-clause-answers : goal.returns-in-Err-kept-clause-answers
unfolding received
returns-in-Err-kept-clause-answers c =
    let s = c.args.state.now in
    value_then typed_read read.target (destination (scope_of c.args.scope.now) c.args.target.now s) _ c.in-Ok.d s s (Err c.in-Err-kept.e) c.in-Ok.ensures.answers
    (err_then (λ u. u) read.target (kept c.in-Ok.d.name.now (destination_read c.in-Ok.d.to) s) _ c.in-Err-kept.e s s (c.in-Err-kept.ensures s))
