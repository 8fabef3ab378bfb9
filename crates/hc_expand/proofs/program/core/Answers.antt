use Rattle.std.proofs.Common.{refl, sym, ◌∙◌, subst}
use Rattle.hc_tree.specs.declared.stmt.Block.{out-Block}
use Rattle.hc_core.specs.Read.{statements}
use Rattle.hc_core.specs.Sound.{HasLabelBytes}
use Rattle.hc_core.specs.declared.stmt.Stmt.TheVariants as s
use Rattle.hc_core.proofs.Read.{read_Seq}
use Rattle.hc_scope.specs.Reading.{scope_of, context_of}
use Rattle.hc_expand.proofs.Cores.{core_answers, sound_core}
use Rattle.hc_expand.proofs.program.core.Goals as goal

pub returns-in-Ok-new-clause-answers : goal.returns-in-Ok-new-clause-answers
returns-in-Ok-new-clause-answers c =
    core_answers (context_of c.args.scope.now 0) c.args.clock.now c.args.body.now c.in-Ok.parts c.args.state c.main_block.new.state
    (record { objects = c.main_block.new.state.objects; main = s.Seq (out-Block c.args.body.now).place c.in-Ok.parts; clock = c.in-Ok-new.clock })
    c.in-Ok.ensures.answers refl (read_Seq (out-Block c.args.body.now).place c.in-Ok.parts) (c.in-Ok-new.ensures ∙ c.as_bytes.ensures.bytes)

pub returns-in-Ok-new-clause-sound : goal.returns-in-Ok-new-clause-sound
returns-in-Ok-new-clause-sound c = λ few.
    sound_core (record { objects = c.main_block.new.state.objects; main = s.Seq (out-Block c.args.body.now).place c.in-Ok.parts; clock = c.in-Ok-new.clock })
    c.args.state.objects (scope_of c.args.scope.now) (out-Block c.args.body.now).place (statements c.in-Ok.parts) c.in-Ok.ensures.grows c.requires.ports c.in-Ok.ensures.typed
    (read_Seq (out-Block c.args.body.now).place c.in-Ok.parts) (subst HasLabelBytes (sym (c.in-Ok-new.ensures ∙ c.as_bytes.ensures.bytes)) c.requires.pin) few
