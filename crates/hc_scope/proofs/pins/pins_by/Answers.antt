use Rattle.std.proofs.Common.{List, ℕ, subst, sym}
use Rattle.hc_tree.specs.declared.decl.SpecValue.{SpecValue}
use Rattle.hc_scope.specs.Declaration.{pins_by}
use Rattle.hc_scope.specs.Reading.{Answers}
use Rattle.hc_scope.proofs.pins.pins_by.Goals as goal

pub returns-in-Texts-clause-answers : goal.returns-in-Texts-clause-answers
returns-in-Texts-clause-answers c s =
    subst (λ (v : SpecValue). Answers {A = List (List ℕ)} (λ pins. pins) (pins_by c.args.x.now c.args.width v s) c.pins_in.result s) (sym c.in-Texts.is) (rw (← c.as_slice.ensures) (c.pins_in.ensures.answers s))
