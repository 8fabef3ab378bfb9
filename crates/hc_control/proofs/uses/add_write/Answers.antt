-- The index and the value of a write, and the uses of its object with them.
use Rattle.std.proofs.Common.{◌<◌, length, arith}
use Rattle.hc_core.specs.Read.{expression, target}
use Rattle.hc_core.specs.Typed.{kinds_of}
use Rattle.hc_control.proofs.UsesNets.{places_kept}
use Rattle.hc_control.proofs.UsesAdded.{use_put}
use Rattle.hc_control.proofs.UsesIndex.{value_ready, object_there}
use Rattle.hc_control.proofs.uses.add_write.Goals as goal

pub index_nets-requires-clause-built : goal.index_nets-requires-clause-built
index_nets-requires-clause-built c = (expression c.args.e.now, c.requires.built)

pub index_nets-requires-clause-room : goal.index_nets-requires-clause-room
index_nets-requires-clause-room c = omega (arith, c.requires.room)

pub value-requires-clause-typed : goal.value-requires-clause-typed
value-requires-clause-typed c =
    (value_ready (kinds_of c.args.core.now.objects) c.args.at.now c.args.b.now c.index_nets.new.b (target c.args.to.now) (expression c.args.e.now) c.in_ok-index.index c.requires.places c.requires.built c.requires.room c.in_ok-index.ensures).typed

pub value-requires-clause-constants : goal.value-requires-clause-constants
value-requires-clause-constants c = (places_kept (kinds_of c.args.core.now.objects) c.args.at.now c.in_ok-index.ensures.adds c.requires.places).constants

pub value-requires-clause-nets : goal.value-requires-clause-nets
value-requires-clause-nets c =
    (value_ready (kinds_of c.args.core.now.objects) c.args.at.now c.args.b.now c.index_nets.new.b (target c.args.to.now) (expression c.args.e.now) c.in_ok-index.index c.requires.places c.requires.built c.requires.room c.in_ok-index.ensures).nets

pub value-requires-clause-room : goal.value-requires-clause-room
value-requires-clause-room c =
    (value_ready (kinds_of c.args.core.now.objects) c.args.at.now c.args.b.now c.index_nets.new.b (target c.args.to.now) (expression c.args.e.now) c.in_ok-index.index c.requires.places c.requires.built c.requires.room c.in_ok-index.ensures).room

pub index_mut-u-requires : goal.index_mut-u-requires
index_mut-u-requires c =
    let fits = c.requires.built.0 in
    let there = object_there (kinds_of c.args.core.now.objects) (target c.args.to.now) fits.width fits.signed fits.target in
    omega (arith, there, c.requires.count, c.object.ensures)

pub returns-in-Ok-push : goal.returns-in-Ok-push
returns-in-Ok-push c =
    let fits = c.requires.built.0 in
    let there = object_there (kinds_of c.args.core.now.objects) (target c.args.to.now) fits.width fits.signed fits.target in
    let within : c.object.result < length c.args.uses.now.items = omega (arith, there, c.requires.count, c.object.ensures) in
    use_put (kinds_of c.args.core.now.objects) c.args.at.now c.args.start (target c.args.to.now) (expression c.args.e.now) c.args.b.now c.index_nets.new.b c.value.new.b c.args.uses.now.items c.object.result
    c.index_mut-u.result.now c.in_ok-index.index c.in_ok-nets.nets c.push.new.self c.push-2.new.self c.push-3.new.self
    c.in_ok-index.ensures c.in_ok-nets.ensures.width c.in_ok-nets.ensures.circuit c.object.ensures within c.index_mut-u.ensures.value c.in_ok-push.ensures.ok c.in-Ok.ensures.ok c.in-Ok-push.ensures.ok
