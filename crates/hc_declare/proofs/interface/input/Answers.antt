use Rattle.std.proofs.Common.{refl}
use Rattle.hc_core.specs.declared.object.Kind.TheVariants as kind
use Rattle.hc_scope.specs.Declaration.{input, pins_of, port_object}
use Rattle.hc_scope.specs.Table.{context_in}
use Rattle.hc_scope.specs.Types.{type_read}
use Rattle.hc_scope.proofs.Stops.{stops_on}
use Rattle.hc_declare.proofs.interface.input.Goals as goal

pub returns-in-Err-clause-answers : goal.returns-in-Err-clause-answers
unfolding input
returns-in-Err-clause-answers c =
    let here = context_in c.args.names.now.entries c.args.around.now c.args.calls in
    let s = c.args.state.now in
    stops_on (pins_of c.args.t.width c.args.with.now s) (λ pins. port_object here c.args.x.now c.args.port.now (kind.Input c.args.t.width c.args.t.signed pins))
    (input here (type_read c.args.t) c.args.port.now c.args.x.now c.args.with.now s) c.in-Err.e s s refl (c.in-Err.ensures.answers s)
