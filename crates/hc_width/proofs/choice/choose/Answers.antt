use Rattle.hc_core.specs.Typed.{kinds_of}
use Rattle.hc_width.specs.Operand.{operand}
use Rattle.hc_width.proofs.Kept.{answer_kept, choose_kept}
use Rattle.hc_width.proofs.choice.choose.Goals as goal

pub returns-clause-typed : goal.returns-clause-typed
returns-clause-typed c =
    answer_kept (kinds_of c.args.objects.now) _ c.args.place _ c.judged_choice.ensures
    (λ o. choose_kept (kinds_of c.args.objects.now) (operand c.args.c) (operand c.args.a) (operand c.args.b) o c.requires.condition c.requires.left c.requires.right)
