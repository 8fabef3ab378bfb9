-- The index of an element by its expression.
use Rattle.hc_core.specs.Typed.{kinds_of}
use Rattle.hc_value.proofs.Parts.{IfOk-three}
use Rattle.hc_control.proofs.UsesIndex.{index_ready, register_index, element_index, word_unbuilt, signal_unbuilt}
use Rattle.hc_control.proofs.uses.index_nets.Goals as goal

pub value-requires-clause-typed : goal.value-requires-clause-typed
value-requires-clause-typed c =
    (index_ready (kinds_of c.args.core.now.objects) c.args.at.now c.args.b.now c.args.to.now c.in-Element.field-0 c.in-Element.i c.in-Element.is c.requires.places c.requires.built c.requires.room).typed

pub value-requires-clause-constants : goal.value-requires-clause-constants
value-requires-clause-constants c = c.requires.places.constants

pub value-requires-clause-nets : goal.value-requires-clause-nets
value-requires-clause-nets c =
    (index_ready (kinds_of c.args.core.now.objects) c.args.at.now c.args.b.now c.args.to.now c.in-Element.field-0 c.in-Element.i c.in-Element.is c.requires.places c.requires.built c.requires.room).nets

pub value-requires-clause-room : goal.value-requires-clause-room
value-requires-clause-room c =
    (index_ready (kinds_of c.args.core.now.objects) c.args.at.now c.args.b.now c.args.to.now c.in-Element.field-0 c.in-Element.i c.in-Element.is c.requires.places c.requires.built c.requires.room).room

pub unreachable-requires : goal.unreachable-requires
unreachable-requires c = word_unbuilt (kinds_of c.args.core.now.objects) c.args.to.now c.in-Word.field-0 c.in-Word.field-1 c.in-Word.is c.requires.built

pub unreachable-unreachable : goal.unreachable-unreachable
unreachable-unreachable c = word_unbuilt (kinds_of c.args.core.now.objects) c.args.to.now c.in-Word.field-0 c.in-Word.field-1 c.in-Word.is c.requires.built

pub unreachable-requires-in-Signal : goal.unreachable-requires-in-Signal
unreachable-requires-in-Signal c = signal_unbuilt (kinds_of c.args.core.now.objects) c.args.to.now c.in-Signal.field-0 c.in-Signal.is c.requires.built

pub unreachable-unreachable-in-Signal : goal.unreachable-unreachable-in-Signal
unreachable-unreachable-in-Signal c = signal_unbuilt (kinds_of c.args.core.now.objects) c.args.to.now c.in-Signal.field-0 c.in-Signal.is c.requires.built

pub returns-in-Reg : goal.returns-in-Reg
returns-in-Reg c = register_index (kinds_of c.args.core.now.objects) c.args.at.now c.args.b.now c.args.to.now c.in-Reg.field-0 c.new.result c.in-Reg.is c.requires.built c.new.ensures

pub returns-in-Element : goal.returns-in-Element
returns-in-Element c =
    IfOk-three c.value.result _ _ _ _
    (λ z width made constant. element_index (kinds_of c.args.core.now.objects) c.args.at.now c.args.b.now c.value.new.b c.args.to.now c.in-Element.field-0 c.in-Element.i z c.in-Element.is c.requires.built width made constant)
    c.value.ensures.width c.value.ensures.circuit c.value.ensures.constant
