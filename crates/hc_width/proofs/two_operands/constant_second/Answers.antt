use Rattle.hc_core.specs.Read.{expression}
use Rattle.hc_core.specs.Typed.{kinds_of}
use Rattle.hc_width.specs.Operand as o
use Rattle.hc_width.specs.Binary.{binary}
use Rattle.hc_width.proofs.Steps.{answers_as}
use Rattle.hc_width.proofs.two_operands.constant_second.Goals as goal

pub returns-in-Ok : goal.returns-in-Ok
unfolding expression
returns-in-Ok c =
    answers_as (binary (kinds_of c.args.objects.now) c.args.op (o.Of (expression c.args.a)) (o.Whole c.args.b)) _ c.args.place _ c.in-Ok.ensures (c.binary_of.ensures c.args.place)
