-- What each kind of object reads.
use Rattle.std.proofs.Common.{◌<◌, length, ap, arith}
use Rattle.std.proofs.lemmas.Option.{slice_get_within}
use Rattle.hc_core.specs.Typed.{kinds_of}
use Rattle.hc_bits.proofs.Parts.{IfOk-both}
use Rattle.hc_build.proofs.SourcesMade.{object_nets, register_ready, register_source, array_ready, array_source, output_ready, output_source, no_source, ram_reads, rom_reads, signal_reads, channel_reads, input_reads}
use Rattle.hc_build.proofs.sources.source.Goals as goal

pub bounds-as_slice-k : goal.bounds-as_slice-k
bounds-as_slice-k c =
    let within = slice_get_within (kinds_of c.args.core.now.objects) c.args.k c.args.kind.now c.requires.kind in
    omega (arith, within, c.requires.places.count, ap length c.as_slice.ensures)

pub hold-requires-clause-present : goal.hold-requires-clause-present
hold-requires-clause-present c =
    let within : c.args.k < length c.as_slice.result.now =
    (let there = slice_get_within (kinds_of c.args.core.now.objects) c.args.k c.args.kind.now c.requires.kind in omega (arith, there, c.requires.places.count, ap length c.as_slice.ensures)) in
    let nets = object_nets c.args.at.now c.as_slice.result.now c.args.k c.index-as_slice-k.result c.as_slice.ensures within c.index-as_slice-k.is in
    (register_ready (kinds_of c.args.core.now.objects) c.args.at.now c.args.b.now c.args.k c.in-Reg.width c.in-Reg.signed c.in-Reg.init c.args.kind.now c.args.u.now c.index-as_slice-k.result c.as_slice-in-Reg.result.now c.in-Reg.is nets c.as_slice-in-Reg.ensures c.requires.kind c.requires.places c.requires.uses c.requires.room).present

pub hold-requires-clause-values : goal.hold-requires-clause-values
hold-requires-clause-values c =
    let within : c.args.k < length c.as_slice.result.now =
    (let there = slice_get_within (kinds_of c.args.core.now.objects) c.args.k c.args.kind.now c.requires.kind in omega (arith, there, c.requires.places.count, ap length c.as_slice.ensures)) in
    let nets = object_nets c.args.at.now c.as_slice.result.now c.args.k c.index-as_slice-k.result c.as_slice.ensures within c.index-as_slice-k.is in
    (register_ready (kinds_of c.args.core.now.objects) c.args.at.now c.args.b.now c.args.k c.in-Reg.width c.in-Reg.signed c.in-Reg.init c.args.kind.now c.args.u.now c.index-as_slice-k.result c.as_slice-in-Reg.result.now c.in-Reg.is nets c.as_slice-in-Reg.ensures c.requires.kind c.requires.places c.requires.uses c.requires.room).each_value

pub hold-requires-clause-writes : goal.hold-requires-clause-writes
hold-requires-clause-writes c =
    let within : c.args.k < length c.as_slice.result.now =
    (let there = slice_get_within (kinds_of c.args.core.now.objects) c.args.k c.args.kind.now c.requires.kind in omega (arith, there, c.requires.places.count, ap length c.as_slice.ensures)) in
    let nets = object_nets c.args.at.now c.as_slice.result.now c.args.k c.index-as_slice-k.result c.as_slice.ensures within c.index-as_slice-k.is in
    (register_ready (kinds_of c.args.core.now.objects) c.args.at.now c.args.b.now c.args.k c.in-Reg.width c.in-Reg.signed c.in-Reg.init c.args.kind.now c.args.u.now c.index-as_slice-k.result c.as_slice-in-Reg.result.now c.in-Reg.is nets c.as_slice-in-Reg.ensures c.requires.kind c.requires.places c.requires.uses c.requires.room).writes

pub hold-requires-clause-room : goal.hold-requires-clause-room
hold-requires-clause-room c =
    let within : c.args.k < length c.as_slice.result.now =
    (let there = slice_get_within (kinds_of c.args.core.now.objects) c.args.k c.args.kind.now c.requires.kind in omega (arith, there, c.requires.places.count, ap length c.as_slice.ensures)) in
    let nets = object_nets c.args.at.now c.as_slice.result.now c.args.k c.index-as_slice-k.result c.as_slice.ensures within c.index-as_slice-k.is in
    (register_ready (kinds_of c.args.core.now.objects) c.args.at.now c.args.b.now c.args.k c.in-Reg.width c.in-Reg.signed c.in-Reg.init c.args.kind.now c.args.u.now c.index-as_slice-k.result c.as_slice-in-Reg.result.now c.in-Reg.is nets c.as_slice-in-Reg.ensures c.requires.kind c.requires.places c.requires.uses c.requires.room).room

pub hold_array-requires-clause-width : goal.hold_array-requires-clause-width
hold_array-requires-clause-width c =
    let within : c.args.k < length c.as_slice.result.now =
    (let there = slice_get_within (kinds_of c.args.core.now.objects) c.args.k c.args.kind.now c.requires.kind in omega (arith, there, c.requires.places.count, ap length c.as_slice.ensures)) in
    let nets = object_nets c.args.at.now c.as_slice.result.now c.args.k c.index-as_slice-k.result c.as_slice.ensures within c.index-as_slice-k.is in
    (array_ready (kinds_of c.args.core.now.objects) c.args.at.now c.args.b.now c.args.k c.in-Array.width c.in-Array.length c.in-Array.signed c.in-Array.init c.args.kind.now c.args.u.now c.index-as_slice-k.result c.as_slice-in-Array.result.now c.as_slice-in-Array-2.result.now c.in-Array.is nets c.as_slice-in-Array.ensures c.as_slice-in-Array-2.ensures c.requires.kind c.requires.sound c.requires.places c.requires.uses c.requires.room).width

pub hold_array-requires-clause-elements : goal.hold_array-requires-clause-elements
hold_array-requires-clause-elements c =
    let within : c.args.k < length c.as_slice.result.now =
    (let there = slice_get_within (kinds_of c.args.core.now.objects) c.args.k c.args.kind.now c.requires.kind in omega (arith, there, c.requires.places.count, ap length c.as_slice.ensures)) in
    let nets = object_nets c.args.at.now c.as_slice.result.now c.args.k c.index-as_slice-k.result c.as_slice.ensures within c.index-as_slice-k.is in
    (array_ready (kinds_of c.args.core.now.objects) c.args.at.now c.args.b.now c.args.k c.in-Array.width c.in-Array.length c.in-Array.signed c.in-Array.init c.args.kind.now c.args.u.now c.index-as_slice-k.result c.as_slice-in-Array.result.now c.as_slice-in-Array-2.result.now c.in-Array.is nets c.as_slice-in-Array.ensures c.as_slice-in-Array-2.ensures c.requires.kind c.requires.sound c.requires.places c.requires.uses c.requires.room).elements

pub hold_array-requires-clause-whole : goal.hold_array-requires-clause-whole
hold_array-requires-clause-whole c =
    let within : c.args.k < length c.as_slice.result.now =
    (let there = slice_get_within (kinds_of c.args.core.now.objects) c.args.k c.args.kind.now c.requires.kind in omega (arith, there, c.requires.places.count, ap length c.as_slice.ensures)) in
    let nets = object_nets c.args.at.now c.as_slice.result.now c.args.k c.index-as_slice-k.result c.as_slice.ensures within c.index-as_slice-k.is in
    (array_ready (kinds_of c.args.core.now.objects) c.args.at.now c.args.b.now c.args.k c.in-Array.width c.in-Array.length c.in-Array.signed c.in-Array.init c.args.kind.now c.args.u.now c.index-as_slice-k.result c.as_slice-in-Array.result.now c.as_slice-in-Array-2.result.now c.in-Array.is nets c.as_slice-in-Array.ensures c.as_slice-in-Array-2.ensures c.requires.kind c.requires.sound c.requires.places c.requires.uses c.requires.room).whole

pub hold_array-requires-clause-present : goal.hold_array-requires-clause-present
hold_array-requires-clause-present c =
    let within : c.args.k < length c.as_slice.result.now =
    (let there = slice_get_within (kinds_of c.args.core.now.objects) c.args.k c.args.kind.now c.requires.kind in omega (arith, there, c.requires.places.count, ap length c.as_slice.ensures)) in
    let nets = object_nets c.args.at.now c.as_slice.result.now c.args.k c.index-as_slice-k.result c.as_slice.ensures within c.index-as_slice-k.is in
    (array_ready (kinds_of c.args.core.now.objects) c.args.at.now c.args.b.now c.args.k c.in-Array.width c.in-Array.length c.in-Array.signed c.in-Array.init c.args.kind.now c.args.u.now c.index-as_slice-k.result c.as_slice-in-Array.result.now c.as_slice-in-Array-2.result.now c.in-Array.is nets c.as_slice-in-Array.ensures c.as_slice-in-Array-2.ensures c.requires.kind c.requires.sound c.requires.places c.requires.uses c.requires.room).present

pub hold_array-requires-clause-indexes : goal.hold_array-requires-clause-indexes
hold_array-requires-clause-indexes c =
    let within : c.args.k < length c.as_slice.result.now =
    (let there = slice_get_within (kinds_of c.args.core.now.objects) c.args.k c.args.kind.now c.requires.kind in omega (arith, there, c.requires.places.count, ap length c.as_slice.ensures)) in
    let nets = object_nets c.args.at.now c.as_slice.result.now c.args.k c.index-as_slice-k.result c.as_slice.ensures within c.index-as_slice-k.is in
    (array_ready (kinds_of c.args.core.now.objects) c.args.at.now c.args.b.now c.args.k c.in-Array.width c.in-Array.length c.in-Array.signed c.in-Array.init c.args.kind.now c.args.u.now c.index-as_slice-k.result c.as_slice-in-Array.result.now c.as_slice-in-Array-2.result.now c.in-Array.is nets c.as_slice-in-Array.ensures c.as_slice-in-Array-2.ensures c.requires.kind c.requires.sound c.requires.places c.requires.uses c.requires.room).each_index

pub hold_array-requires-clause-values : goal.hold_array-requires-clause-values
hold_array-requires-clause-values c =
    let within : c.args.k < length c.as_slice.result.now =
    (let there = slice_get_within (kinds_of c.args.core.now.objects) c.args.k c.args.kind.now c.requires.kind in omega (arith, there, c.requires.places.count, ap length c.as_slice.ensures)) in
    let nets = object_nets c.args.at.now c.as_slice.result.now c.args.k c.index-as_slice-k.result c.as_slice.ensures within c.index-as_slice-k.is in
    (array_ready (kinds_of c.args.core.now.objects) c.args.at.now c.args.b.now c.args.k c.in-Array.width c.in-Array.length c.in-Array.signed c.in-Array.init c.args.kind.now c.args.u.now c.index-as_slice-k.result c.as_slice-in-Array.result.now c.as_slice-in-Array-2.result.now c.in-Array.is nets c.as_slice-in-Array.ensures c.as_slice-in-Array-2.ensures c.requires.kind c.requires.sound c.requires.places c.requires.uses c.requires.room).each_value

pub hold_array-requires-clause-index_writes : goal.hold_array-requires-clause-index_writes
hold_array-requires-clause-index_writes c =
    let within : c.args.k < length c.as_slice.result.now =
    (let there = slice_get_within (kinds_of c.args.core.now.objects) c.args.k c.args.kind.now c.requires.kind in omega (arith, there, c.requires.places.count, ap length c.as_slice.ensures)) in
    let nets = object_nets c.args.at.now c.as_slice.result.now c.args.k c.index-as_slice-k.result c.as_slice.ensures within c.index-as_slice-k.is in
    (array_ready (kinds_of c.args.core.now.objects) c.args.at.now c.args.b.now c.args.k c.in-Array.width c.in-Array.length c.in-Array.signed c.in-Array.init c.args.kind.now c.args.u.now c.index-as_slice-k.result c.as_slice-in-Array.result.now c.as_slice-in-Array-2.result.now c.in-Array.is nets c.as_slice-in-Array.ensures c.as_slice-in-Array-2.ensures c.requires.kind c.requires.sound c.requires.places c.requires.uses c.requires.room).index_writes

pub hold_array-requires-clause-value_writes : goal.hold_array-requires-clause-value_writes
hold_array-requires-clause-value_writes c =
    let within : c.args.k < length c.as_slice.result.now =
    (let there = slice_get_within (kinds_of c.args.core.now.objects) c.args.k c.args.kind.now c.requires.kind in omega (arith, there, c.requires.places.count, ap length c.as_slice.ensures)) in
    let nets = object_nets c.args.at.now c.as_slice.result.now c.args.k c.index-as_slice-k.result c.as_slice.ensures within c.index-as_slice-k.is in
    (array_ready (kinds_of c.args.core.now.objects) c.args.at.now c.args.b.now c.args.k c.in-Array.width c.in-Array.length c.in-Array.signed c.in-Array.init c.args.kind.now c.args.u.now c.index-as_slice-k.result c.as_slice-in-Array.result.now c.as_slice-in-Array-2.result.now c.in-Array.is nets c.as_slice-in-Array.ensures c.as_slice-in-Array-2.ensures c.requires.kind c.requires.sound c.requires.places c.requires.uses c.requires.room).value_writes

pub hold_array-requires-clause-room : goal.hold_array-requires-clause-room
hold_array-requires-clause-room c =
    let within : c.args.k < length c.as_slice.result.now =
    (let there = slice_get_within (kinds_of c.args.core.now.objects) c.args.k c.args.kind.now c.requires.kind in omega (arith, there, c.requires.places.count, ap length c.as_slice.ensures)) in
    let nets = object_nets c.args.at.now c.as_slice.result.now c.args.k c.index-as_slice-k.result c.as_slice.ensures within c.index-as_slice-k.is in
    (array_ready (kinds_of c.args.core.now.objects) c.args.at.now c.args.b.now c.args.k c.in-Array.width c.in-Array.length c.in-Array.signed c.in-Array.init c.args.kind.now c.args.u.now c.index-as_slice-k.result c.as_slice-in-Array.result.now c.as_slice-in-Array-2.result.now c.in-Array.is nets c.as_slice-in-Array.ensures c.as_slice-in-Array-2.ensures c.requires.kind c.requires.sound c.requires.places c.requires.uses c.requires.room).room

pub value-requires-clause-typed : goal.value-requires-clause-typed
value-requires-clause-typed c =
    (output_ready (kinds_of c.args.core.now.objects) c.args.at.now c.args.b.now c.args.k c.in-Output.width c.in-Output.signed c.in-Output.pins c.in-Output.e c.args.kind.now c.args.u.now c.in-Output.is c.requires.kind c.requires.sound c.requires.places c.requires.built c.requires.room).typed

pub value-requires-clause-nets : goal.value-requires-clause-nets
value-requires-clause-nets c =
    (output_ready (kinds_of c.args.core.now.objects) c.args.at.now c.args.b.now c.args.k c.in-Output.width c.in-Output.signed c.in-Output.pins c.in-Output.e c.args.kind.now c.args.u.now c.in-Output.is c.requires.kind c.requires.sound c.requires.places c.requires.built c.requires.room).nets

pub value-requires-clause-room : goal.value-requires-clause-room
value-requires-clause-room c =
    (output_ready (kinds_of c.args.core.now.objects) c.args.at.now c.args.b.now c.args.k c.in-Output.width c.in-Output.signed c.in-Output.pins c.in-Output.e c.args.kind.now c.args.u.now c.in-Output.is c.requires.kind c.requires.sound c.requires.places c.requires.built c.requires.room).room

pub value-requires-clause-constants : goal.value-requires-clause-constants
value-requires-clause-constants c = c.requires.places.constants

pub returns-in-Reg : goal.returns-in-Reg
returns-in-Reg c =
    let within : c.args.k < length c.as_slice.result.now =
    (let there = slice_get_within (kinds_of c.args.core.now.objects) c.args.k c.args.kind.now c.requires.kind in omega (arith, there, c.requires.places.count, ap length c.as_slice.ensures)) in
    let nets = object_nets c.args.at.now c.as_slice.result.now c.args.k c.index-as_slice-k.result c.as_slice.ensures within c.index-as_slice-k.is in
    IfOk-both c.hold.result _ _ _
    (λ z width made. register_source (kinds_of c.args.core.now.objects) c.args.at.now c.args.b.now c.hold.new.b c.args.k c.in-Reg.width c.in-Reg.signed c.in-Reg.init c.args.kind.now c.args.u.now c.index-as_slice-k.result z c.as_slice-in-Reg.result.now
    c.in-Reg.is nets c.as_slice-in-Reg.ensures c.requires.kind c.requires.places width made)
    c.hold.ensures.width c.hold.ensures.circuit

pub returns-in-Array : goal.returns-in-Array
returns-in-Array c =
    let within : c.args.k < length c.as_slice.result.now =
    (let there = slice_get_within (kinds_of c.args.core.now.objects) c.args.k c.args.kind.now c.requires.kind in omega (arith, there, c.requires.places.count, ap length c.as_slice.ensures)) in
    let nets = object_nets c.args.at.now c.as_slice.result.now c.args.k c.index-as_slice-k.result c.as_slice.ensures within c.index-as_slice-k.is in
    IfOk-both c.hold_array.result _ _ _
    (λ z width made. array_source (kinds_of c.args.core.now.objects) c.args.at.now c.args.b.now c.hold_array.new.b c.args.k c.in-Array.width c.in-Array.length c.in-Array.signed c.in-Array.init c.args.kind.now c.args.u.now c.index-as_slice-k.result z
    c.as_slice-in-Array.result.now c.as_slice-in-Array-2.result.now c.in-Array.is nets c.as_slice-in-Array.ensures c.as_slice-in-Array-2.ensures c.requires.kind c.requires.sound c.requires.places width made)
    c.hold_array.ensures.width c.hold_array.ensures.circuit

pub returns-in-Output : goal.returns-in-Output
returns-in-Output c =
    IfOk-both c.value.result _ _ _
    (λ z width made. output_source (kinds_of c.args.core.now.objects) c.args.at.now c.args.b.now c.value.new.b c.args.k c.in-Output.width c.in-Output.signed c.in-Output.pins c.in-Output.e c.args.kind.now c.args.u.now z c.in-Output.is c.requires.kind c.requires.sound
    width made)
    c.value.ensures.width c.value.ensures.circuit

pub returns-in-Ram : goal.returns-in-Ram
returns-in-Ram c = no_source (kinds_of c.args.core.now.objects) c.args.at.now c.args.b.now c.args.k c.args.u.now c.args.kind.now _ c.new.result c.in-Ram.is c.new.ensures (ram_reads c.in-Ram.width c.in-Ram.signed c.in-Ram.length c.in-Ram.init)

pub returns-in-Rom : goal.returns-in-Rom
returns-in-Rom c = no_source (kinds_of c.args.core.now.objects) c.args.at.now c.args.b.now c.args.k c.args.u.now c.args.kind.now _ c.new-in-Rom.result c.in-Rom.is c.new-in-Rom.ensures (rom_reads c.in-Rom.width c.in-Rom.signed c.in-Rom.length c.in-Rom.init)

pub returns-in-Signal : goal.returns-in-Signal
returns-in-Signal c = no_source (kinds_of c.args.core.now.objects) c.args.at.now c.args.b.now c.args.k c.args.u.now c.args.kind.now _ c.new-in-Signal.result c.in-Signal.is c.new-in-Signal.ensures (signal_reads c.in-Signal.width c.in-Signal.signed c.in-Signal.unset)

pub returns-in-Chan : goal.returns-in-Chan
returns-in-Chan c = no_source (kinds_of c.args.core.now.objects) c.args.at.now c.args.b.now c.args.k c.args.u.now c.args.kind.now _ c.new-in-Chan.result c.in-Chan.is c.new-in-Chan.ensures (channel_reads c.in-Chan.width c.in-Chan.signed c.in-Chan.queue)

pub returns-in-Input : goal.returns-in-Input
returns-in-Input c = no_source (kinds_of c.args.core.now.objects) c.args.at.now c.args.b.now c.args.k c.args.u.now c.args.kind.now _ c.new-in-Input.result c.in-Input.is c.new-in-Input.ensures (input_reads c.in-Input.width c.in-Input.signed c.in-Input.pins)
