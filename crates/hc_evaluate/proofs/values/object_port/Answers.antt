use Rattle.std.proofs.Common.{◌∙◌, ap, sym}
use Rattle.std.specs.Option.{option_copied}
use Rattle.std.proofs.lemmas.Option.{slice_get-map}
use Rattle.hc_core.specs.Typed.{kinds_of}
use Rattle.hc_width.specs.Operand.{operand, IsOperand}
use Rattle.hc_scope.specs.Expression.{object_port}
use Rattle.hc_evaluate.proofs.Steps.{answer_kept}
use Rattle.hc_evaluate.proofs.ObjectTypes.{object_port_typed, no_object_port}
use Rattle.hc_evaluate.proofs.values.object_port.Goals as goal

pub returns-in-Some-clause-answers : goal.returns-in-Some-clause-answers
returns-in-Some-clause-answers c = rw (slice_get-map (λ o. o.kind) c.args.state.now.objects c.args.k, ← c.get.ensures.value, c.in-Some.is, ← c.in-Some.object-is) (c.kind_port.ensures c.args.state.now)

pub returns-in-Some-clause-typed : goal.returns-in-Some-clause-typed
returns-in-Some-clause-typed c =
    let s = c.args.state.now in
    answer_kept operand (object_port c.args.x.now c.args.port.now c.args.k c.args.name.now.name s) c.kind_port.result s (IsOperand (kinds_of s.objects)) (returns-in-Some-clause-answers c)
    (λ v t. object_port_typed c.args.x.now c.args.port.now c.args.k c.args.name.now.name v s t c.requires.sound)

pub returns-in-None-clause-answers : goal.returns-in-None-clause-answers
returns-in-None-clause-answers c =
    let none = sym c.get.ensures.value ∙ ap option_copied c.in-None.is in
    no_object_port c.args.x.now c.args.port.now c.args.k c.args.name.now.name c.broken_name.result c.args.state.now none c.broken_name.ensures
