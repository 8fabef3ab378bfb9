-- The sources, object by object.
use Rattle.std.proofs.Common.{length, get_or, ap, arith}
use Rattle.std.proofs.lemmas.List.{length-map}
use Rattle.hc_core.specs.Typed.{kinds_of}
use Rattle.hc_core.specs.declared.object.Object.{Object}
use Rattle.hc_control.proofs.UsesAdded.{there_kept}
use Rattle.hc_control.proofs.UsesNets.{places_kept}
use Rattle.hc_build.proofs.SourcesMade.{next_object, sources_none, sources_room, sources_more, sources_all}
use Rattle.hc_build.proofs.sources.sources.Goals as goal

pub loop-k-init : goal.loop-k-init
loop-k-init c = sources_none (kinds_of c.args.core.now.objects) c.args.at.now c.args.uses.now c.args.b.now c.new-all.result c.new-all.ensures

pub bounds-uses-k : goal.bounds-uses-k
bounds-uses-k c =
    omega (arith, c.loop-k-test.true, c.requires.uses.count, ap length c.as_slice-objects.ensures, length-map c.args.core.now.objects (λ (o : Object). o.kind))

pub source-requires-clause-places : goal.source-requires-clause-places
source-requires-clause-places c = places_kept (kinds_of c.args.core.now.objects) c.args.at.now c.loop-k.invariant.adds c.requires.places

pub source-requires-clause-kind : goal.source-requires-clause-kind
source-requires-clause-kind c =
    let next = next_object c.args.core.now.objects c.as_slice-objects.result.now c.args.uses.now c.loop-k.k c.index-objects-k.result c.index-uses-k.result c.as_slice-objects.ensures c.requires.uses.count c.loop-k-test.true c.index-uses-k.is in
    next.is

pub source-requires-clause-uses : goal.source-requires-clause-uses
source-requires-clause-uses c =
    let next = next_object c.args.core.now.objects c.as_slice-objects.result.now c.args.uses.now c.loop-k.k c.index-objects-k.result c.index-uses-k.result c.as_slice-objects.ensures c.requires.uses.count c.loop-k-test.true c.index-uses-k.is in
    there_kept (get_or c.as_slice-objects.result.now c.loop-k.k c.index-objects-k.result).kind c.index-uses-k.result c.loop-k.invariant.adds (c.requires.uses.each c.loop-k.k (get_or c.as_slice-objects.result.now c.loop-k.k c.index-objects-k.result).kind c.index-uses-k.result next.is next.used)

pub source-requires-clause-built : goal.source-requires-clause-built
source-requires-clause-built c =
    let next = next_object c.args.core.now.objects c.as_slice-objects.result.now c.args.uses.now c.loop-k.k c.index-objects-k.result c.index-uses-k.result c.as_slice-objects.ensures c.requires.uses.count c.loop-k-test.true c.index-uses-k.is in
    c.requires.built c.loop-k.k (get_or c.as_slice-objects.result.now c.loop-k.k c.index-objects-k.result).kind next.is

pub source-requires-clause-room : goal.source-requires-clause-room
source-requires-clause-room c =
    let next = next_object c.args.core.now.objects c.as_slice-objects.result.now c.args.uses.now c.loop-k.k c.index-objects-k.result c.index-uses-k.result c.as_slice-objects.ensures c.requires.uses.count c.loop-k-test.true c.index-uses-k.is in
    sources_room (kinds_of c.args.core.now.objects) c.args.at.now c.args.uses.now c.loop-k.k (get_or c.as_slice-objects.result.now c.loop-k.k c.index-objects-k.result).kind c.index-uses-k.result c.args.b.now c.loop-k.b c.loop-k.all c.loop-k.invariant c.requires.uses.each next.is next.used c.requires.room

pub loop-k-preserved : goal.loop-k-preserved
loop-k-preserved c =
    let next = next_object c.args.core.now.objects c.as_slice-objects.result.now c.args.uses.now c.loop-k.k c.index-objects-k.result c.index-uses-k.result c.as_slice-objects.ensures c.requires.uses.count c.loop-k-test.true c.index-uses-k.is in
    sources_more (kinds_of c.args.core.now.objects) c.args.at.now c.args.uses.now c.loop-k.k (get_or c.as_slice-objects.result.now c.loop-k.k c.index-objects-k.result).kind c.index-uses-k.result c.args.b.now c.loop-k.b c.source.new.b c.loop-k.all c.push.new.self c.in_ok-nets.nets
    c.loop-k.invariant c.requires.uses.each next.is next.used c.in_ok-nets.ensures c.in-Ok.ensures.ok

pub returns : goal.returns
returns c =
    let size = length-map c.args.core.now.objects (λ (o : Object). o.kind) in
    sources_all (kinds_of c.args.core.now.objects) c.args.at.now c.args.uses.now c.loop-k.k c.args.b.now c.loop-k.b c.loop-k.all
    (omega (arith, c.loop-k-test.false, c.loop-k.auto.k-end, ap length c.as_slice-objects.ensures, size)) c.requires.uses.count c.loop-k.invariant
