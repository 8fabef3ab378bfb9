use Rattle.std.proofs.Common.{subst, Err}
use Rattle.hc_tree.specs.declared.place.Place.{Place}
use Rattle.hc_scope.specs.Parts.{place_of}
use Rattle.hc_scope.specs.Reading.{Answers}
use Rattle.hc_core.specs.Typed.{kinds_of}
use Rattle.hc_width.specs.Operand.{operand}
use Rattle.hc_width.specs.Parts.{cut}
use Rattle.hc_scope.specs.Expansion.{judged}
use Rattle.hc_scope.specs.Expression.{needs_constant}
use Rattle.hc_evaluate.proofs.Steps.{err_then}
use Rattle.hc_evaluate.proofs.index.bit_of.Goals as goal

pub returns-in-Err-clause-answers : goal.returns-in-Err-clause-answers
returns-in-Err-clause-answers c =
    let s = c.args.state.now in
    let refused = subst (λ (p : Place). Answers (λ n. n) (needs_constant p (operand c.args.i) s) (Err c.in-Err.e) s) c.place_of.ensures (c.in-Err.ensures s) in
    err_then (λ n. n) operand (needs_constant (place_of c.args.at.now) (operand c.args.i) s)
    (λ n t. judged c.args.place (cut (kinds_of t.objects) (operand c.args.v) n n) t) c.in-Err.e s s refused
