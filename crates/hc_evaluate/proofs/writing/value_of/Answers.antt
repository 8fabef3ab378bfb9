use Rattle.std.proofs.Common.{sym, subst, Err}
use Rattle.hc_core.specs.Read.{expression}
use Rattle.hc_core.specs.Typed.{kinds_of}
use Rattle.hc_core.proofs.Read.{read_Reg, read_Signal}
use Rattle.hc_width.specs.Operand.{operand}
use Rattle.hc_scope.specs.Nodes.{nodes}
use Rattle.hc_scope.specs.Statement as spec
use Rattle.hc_scope.specs.Reading.{Answers}
use Rattle.hc_evaluate.specs.Targets.{index_read, destination_read, IsDestination}
use Rattle.hc_evaluate.proofs.Steps.{err_then}
use Rattle.hc_evaluate.proofs.Destinations.{register_value, signal_value, element_value, word_value}
use Rattle.hc_evaluate.proofs.writing.value_of.Goals as goal

pub returns-in-Register-clause-typed : goal.returns-in-Register-clause-typed
returns-in-Register-clause-typed c =
    let ks = kinds_of c.args.state.now.objects in
    let d = subst (λ d. IsDestination ks (destination_read d) c.args.d.of.width c.args.d.of.signed) c.in-Register.is c.requires.is in
    rw (read_Reg c.in-Register.k) (register_value ks c.in-Register.k c.args.d.of.width c.args.d.of.signed c.requires.sound d)

pub returns-in-Signal-clause-typed : goal.returns-in-Signal-clause-typed
returns-in-Signal-clause-typed c =
    let ks = kinds_of c.args.state.now.objects in
    let d = subst (λ d. IsDestination ks (destination_read d) c.args.d.of.width c.args.d.of.signed) c.in-Signal.is c.requires.is in
    rw (read_Signal c.in-Signal.k) (signal_value ks c.in-Signal.k c.args.d.of.width c.args.d.of.signed c.requires.sound d)

pub returns-in-Ok-clause-typed : goal.returns-in-Ok-clause-typed
returns-in-Ok-clause-typed c =
    let ks = kinds_of c.args.state.now.objects in
    let d = subst (λ d. IsDestination ks (destination_read d) c.args.d.of.width c.args.d.of.signed) c.in-Element.is c.requires.is in
    c.element.ensures.typed ks (element_value ks c.in-Element.k c.args.d.of.width c.args.d.of.signed (index_read c.in-Element.i) (expression c.in-Ok.i) c.requires.sound d c.in-Ok.ensures.typed)

pub returns-in-Ok-index_at-clause-typed : goal.returns-in-Ok-index_at-clause-typed
returns-in-Ok-index_at-clause-typed c =
    let ks = kinds_of c.args.state.now.objects in
    let d = subst (λ d. IsDestination ks (destination_read d) c.args.d.of.width c.args.d.of.signed) c.in-Word.is c.requires.is in
    c.word.ensures.typed ks (word_value ks c.in-Word.k c.args.d.of.width c.args.d.of.signed (index_read c.in-Word.i) (expression c.in-Ok-index_at.i) c.requires.sound d c.in-Ok-index_at.ensures.typed)

pub returns-in-Err-clause-answers : goal.returns-in-Err-clause-answers
returns-in-Err-clause-answers c =
    subst (λ d. Answers operand (spec.value_of (nodes c.args.room) c.args.calls (destination_read d) c.args.state.now) (Err c.in-Err.e) c.index_at.new.state)
    (sym c.in-Element.is)
    (err_then expression operand (spec.index_at (nodes c.args.room) c.args.calls c.in-Element.k (index_read c.in-Element.i) c.args.state.now) _ c.in-Err.e _ _ (c.in-Err.ensures.answers))

pub returns-in-Err-index_at-clause-answers : goal.returns-in-Err-index_at-clause-answers
returns-in-Err-index_at-clause-answers c =
    subst (λ d. Answers operand (spec.value_of (nodes c.args.room) c.args.calls (destination_read d) c.args.state.now) (Err c.in-Err-index_at.e) c.index_at-in-Word.new.state)
    (sym c.in-Word.is)
    (err_then expression operand (spec.index_at (nodes c.args.room) c.args.calls c.in-Word.k (index_read c.in-Word.i) c.args.state.now) _ c.in-Err-index_at.e _ _ (c.in-Err-index_at.ensures.answers))
