use Rattle.std.proofs.Common.{◌≡◌, ◌+◌, ◌<◌, length, slice_get, Some, sym, ◌∙◌, subst, ap, refl, arith}
use Rattle.std.specs.Str.{bytes_eq}
use Rattle.std.proofs.lemmas.Option.{slice_get_read}
use Rattle.hc_scope.specs.Places.{IsBoundAt}
use Rattle.hc_scope.proofs.Places.{bound-here, bound-past, bound-all}
use Rattle.hc_scope.proofs.scope.find_bound.Goals as goal
use Rattle.hc_scope.proofs.scope.find_bound.Goals.{then-eq, else-eq}

pub loop-at-preserved : goal.loop-at-preserved
loop-at-preserved c =
    let name = c.args.name.now in
    let ps = c.args.parameters.now in
    let args = c.args.arguments.now in
    let in-ps : c.loop-at.at < length ps = omega arith in
    let in-args : c.loop-at.at < length args = omega arith in
    let p = c.index-parameters-at.result in
    let at : slice_get ps c.loop-at.at ≡ Some p = slice_get_read ps _ c.loop-at.at p refl in-ps c.index-parameters-at.is in
    let tested : c.eq.result ≡ bytes_eq p.name name = c.eq.ensures ∙ ap (λ t. bytes_eq t name) (c.as_bytes.ensures.bytes ∙ ap (λ q. q.name) (sym c.index-parameters-at.is)) in
    elim c.if-eq.branch [
      | then-eq w ↦ subst (IsBoundAt name ps args (c.loop-at.at + 1)) (sym w.last-is) (bound-here name ps args c.loop-at.at p at (sym tested ∙ w.if-eq.true) in-ps in-args)
      | else-eq w ↦ subst (IsBoundAt name ps args (c.loop-at.at + 1)) (sym w.last-is) (bound-past name ps args c.loop-at.at p c.loop-at.last at (sym tested ∙ w.if-eq.false) in-args c.loop-at.invariant)
    ]

pub returns : goal.returns
returns c = bound-all c.args.name.now c.args.parameters.now c.args.arguments.now c.loop-at.at c.loop-at.last (omega arith) c.loop-at.invariant
