use Rattle.hc_core.specs.Typed.{kinds_of}
use Rattle.hc_width.specs.Operand.{operand}
use Rattle.hc_width.proofs.Kept.{answer_kept}
use Rattle.hc_width.proofs.KeptBinary.{binary_kept}
use Rattle.hc_width.proofs.two_operands.binary.Goals as goal

pub returns-clause-typed : goal.returns-clause-typed
returns-clause-typed c =
    answer_kept (kinds_of c.args.objects.now) _ c.args.place _ c.judged_binary.ensures
    (λ r. binary_kept (kinds_of c.args.objects.now) c.args.op (operand c.args.a) (operand c.args.b) r c.requires.left c.requires.right)
