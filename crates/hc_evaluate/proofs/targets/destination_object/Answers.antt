use Rattle.std.proofs.Common.{◌≡◌, refl, None, slice_get}
use Rattle.std.proofs.lemmas.Option.{slice_get-map}
use Rattle.hc_core.specs.Typed.{kinds_of}
use Rattle.hc_core.specs.Sound.{IsWidth}
use Rattle.hc_scope.specs.Statement as spec
use Rattle.hc_evaluate.specs.Targets.{own_read, typed_read, IsDestination}
use Rattle.hc_evaluate.proofs.Steps.{answer_kept}
use Rattle.hc_evaluate.proofs.Destinations.{destination_holds, no_destination}
use Rattle.hc_evaluate.proofs.targets.destination_object.Goals as goal

pub returns-in-Some-clause-answers : goal.returns-in-Some-clause-answers
returns-in-Some-clause-answers c = rw (slice_get-map (λ o. o.kind) c.args.state.now.objects c.args.k, ← c.get.ensures.value, c.in-Some.is, ← c.in-Some.object-is) (c.destination_kind.ensures c.args.state.now)

pub returns-in-Some-clause-typed : goal.returns-in-Some-clause-typed
returns-in-Some-clause-typed c =
    let s = c.args.state.now in
    let ks = kinds_of s.objects in
    answer_kept typed_read (spec.destination_of c.args.x.now c.args.k (own_read c.args.own) (slice_get ks c.args.k) s) c.destination_kind.result s (λ d. IsDestination ks d.to d.type.width d.type.signed) (returns-in-Some-clause-answers c)
    (λ d t is. (destination_holds ks c.args.x.now c.args.k (own_read c.args.own) (slice_get ks c.args.k) d s t c.requires.sound refl is).is)

pub returns-in-Some-clause-width : goal.returns-in-Some-clause-width
returns-in-Some-clause-width c =
    let s = c.args.state.now in
    let ks = kinds_of s.objects in
    answer_kept typed_read (spec.destination_of c.args.x.now c.args.k (own_read c.args.own) (slice_get ks c.args.k) s) c.destination_kind.result s (λ d. IsWidth d.type.width) (returns-in-Some-clause-answers c)
    (λ d t is. (destination_holds ks c.args.x.now c.args.k (own_read c.args.own) (slice_get ks c.args.k) d s t c.requires.sound refl is).width)

pub returns-in-None-clause-answers : goal.returns-in-None-clause-answers
returns-in-None-clause-answers c =
    let s = c.args.state.now in
    let is : slice_get (kinds_of s.objects) c.args.k ≡ None = rw (slice_get-map (λ o. o.kind) s.objects c.args.k, ← c.get.ensures.value, c.in-None.is) refl in
    no_destination typed_read c.args.x.now c.args.k (own_read c.args.own) (slice_get (kinds_of s.objects) c.args.k) c.broken_name.result s is c.broken_name.ensures
