use Rattle.std.proofs.Common.{ap, List, ℕ}
use Rattle.hc_core.specs.Program.{Expression}
use Rattle.hc_core.specs.Read.{expression}
use Rattle.hc_core.specs.declared.object.Kind.TheVariants as kind
use Rattle.hc_width.specs.Operand.{operand}
use Rattle.hc_scope.specs.Declaration.{output, pins_of, port_object}
use Rattle.hc_scope.specs.Expansion.{Outcome, and_then, ◌>>=◌}
use Rattle.hc_scope.specs.Table.{context_in}
use Rattle.hc_scope.specs.Types.{type_read}
use Rattle.hc_scope.specs.Written.{written}
use Rattle.hc_scope.proofs.Stops.{stops_on}
use Rattle.hc_declare.proofs.interface.output.Goals as goal

pub returns-in-Err-pins_of-clause-answers : goal.returns-in-Err-pins_of-clause-answers
unfolding output
returns-in-Err-pins_of-clause-answers c =
    let here = context_in c.args.names.now.entries c.args.around.now c.args.calls in
    let s = c.args.state.now in
    let made = λ (e : Expression) (pins : List (List ℕ)). port_object here c.args.x.now c.args.port.now (kind.Output c.args.t.width c.args.t.signed pins (written e)) in
    let next = λ (e : Expression). pins_of c.args.t.width c.args.with.now >>= made e in
    stops_on (pins_of c.args.t.width c.args.with.now s) (made (expression c.in-Ok.value))
    (output here (type_read c.args.t) c.args.x.now c.args.port.now c.args.with.now c.args.place (operand c.args.shown) s) c.in-Err-pins_of.e s s
    (ap (λ (o : Outcome Expression). and_then o next) c.in-Ok.ensures.answers) (c.in-Err-pins_of.ensures.answers s)
