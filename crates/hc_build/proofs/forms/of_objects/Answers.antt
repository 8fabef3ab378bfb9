-- The loop goes on with what is behind the first object, which is built.
use Rattle.std.proofs.Common.{sym, ◌∙◌}
use Rattle.hc_core.proofs.Listing.{uncons}
use Rattle.hc_build.proofs.FormsPassed.{same_objects, object_next, object_found, object_none}
use Rattle.hc_build.proofs.forms.of_objects.Goals as goal

pub loop-rest-init : goal.loop-rest-init
loop-rest-init c = λ k. same_objects 0 k c.args.objects.now

pub returns-then-not-is_built_kind : goal.returns-then-not-is_built_kind
returns-then-not-is_built_kind c =
    let is = uncons c.loop-rest.rest.now c.first-item.result c.in-len1-up.len_at_least c.first-item.is in
    object_found c.args.objects.now c.loop-rest.rest.now _ c.first-item.result is c.loop-rest.invariant (sym c.is_built_kind.ensures ∙ c.if-not-is_built_kind.true)

pub loop-rest-preserved : goal.loop-rest-preserved
loop-rest-preserved c =
    let is = uncons c.loop-rest.rest.now c.first-item.result c.in-len1-up.len_at_least c.first-item.is in
    object_next c.args.objects.now c.loop-rest.rest.now _ c.first-item.result is c.loop-rest.invariant (sym c.is_built_kind.ensures ∙ c.if-not-is_built_kind.false)

pub returns : goal.returns
returns c = object_none c.args.objects.now c.loop-rest.rest.now c.in_default.len_below c.loop-rest.invariant
