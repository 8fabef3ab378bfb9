use Rattle.std.proofs.Common.{false, not, sym, ap, ◌∙◌}
use Rattle.hc_tree.specs.declared.refusal.Rule.TheVariants.{S11, S12}
use Rattle.hc_num.specs.Number.{Number}
use Rattle.hc_core.specs.Program.{Constant, Binary}
use Rattle.hc_core.specs.Read.{expression}
use Rattle.hc_core.specs.Typed.{kinds_of, width_of, sign_of, Arithmetic, Division, Bitwise, Comparison, Shifting, Joining, Taking, Dropping, Logic}
use Rattle.hc_width.specs.Whole.{fits, number_in}
use Rattle.hc_width.specs.Operand.{Whole, Of}
use Rattle.hc_width.specs.Judged.{Gives, unless}
use Rattle.hc_width.specs.Binary.{binary}
use Rattle.hc_width.proofs.Steps.{finds_as, finds_by, by_is, alike_first, breaks_by, no_sign}
use Rattle.hc_width.proofs.judging.number_first.Goals as goal

pub returns-in-Arithmetic : goal.returns-in-Arithmetic
returns-in-Arithmetic c =
    finds_as (binary (kinds_of c.args.objects.now) c.args.op (Whole c.args.a) (Of (expression c.args.b.now))) _ (λ (n : Number). Of (Binary c.args.op (Constant n) (expression c.args.b.now))) c.args.place _
    (by_is (kinds_of c.args.objects.now) c.args.op (Whole c.args.a) (Of (expression c.args.b.now)) Arithmetic c.in-Arithmetic.ensures ∙ alike_first (kinds_of c.args.objects.now) c.args.op c.args.a (expression c.args.b.now) Arithmetic c.in-Arithmetic.ensures)
    (finds_by (width_of (kinds_of c.args.objects.now) (expression c.args.b.now)) (sign_of (kinds_of c.args.objects.now) (expression c.args.b.now)) c.args.a (λ (n : Number). Of (Binary c.args.op (Constant n) (expression c.args.b.now))) c.args.place _ c.fit_beside.ensures)

pub returns-in-Bitwise : goal.returns-in-Bitwise
returns-in-Bitwise c =
    finds_as (binary (kinds_of c.args.objects.now) c.args.op (Whole c.args.a) (Of (expression c.args.b.now))) _ (λ (n : Number). Of (Binary c.args.op (Constant n) (expression c.args.b.now))) c.args.place _
    (by_is (kinds_of c.args.objects.now) c.args.op (Whole c.args.a) (Of (expression c.args.b.now)) Bitwise c.in-Bitwise.ensures ∙ alike_first (kinds_of c.args.objects.now) c.args.op c.args.a (expression c.args.b.now) Bitwise c.in-Bitwise.ensures)
    (finds_by (width_of (kinds_of c.args.objects.now) (expression c.args.b.now)) (sign_of (kinds_of c.args.objects.now) (expression c.args.b.now)) c.args.a (λ (n : Number). Of (Binary c.args.op (Constant n) (expression c.args.b.now))) c.args.place _ c.fit_beside-in-Bitwise.ensures)

pub returns-in-Comparison : goal.returns-in-Comparison
returns-in-Comparison c =
    finds_as (binary (kinds_of c.args.objects.now) c.args.op (Whole c.args.a) (Of (expression c.args.b.now))) _ (λ (n : Number). Of (Binary c.args.op (Constant n) (expression c.args.b.now))) c.args.place _
    (by_is (kinds_of c.args.objects.now) c.args.op (Whole c.args.a) (Of (expression c.args.b.now)) Comparison c.in-Comparison.ensures ∙ alike_first (kinds_of c.args.objects.now) c.args.op c.args.a (expression c.args.b.now) Comparison c.in-Comparison.ensures)
    (finds_by (width_of (kinds_of c.args.objects.now) (expression c.args.b.now)) (sign_of (kinds_of c.args.objects.now) (expression c.args.b.now)) c.args.a (λ (n : Number). Of (Binary c.args.op (Constant n) (expression c.args.b.now))) c.args.place _ c.fit_beside-in-Comparison.ensures)

pub returns-in-Ok : goal.returns-in-Ok
returns-in-Ok c =
    finds_as (binary (kinds_of c.args.objects.now) c.args.op (Whole c.args.a) (Of (expression c.args.b.now))) _ (λ (n : Number). Of (Binary c.args.op (Constant n) (expression c.args.b.now))) c.args.place _
    (by_is (kinds_of c.args.objects.now) c.args.op (Whole c.args.a) (Of (expression c.args.b.now)) Division c.in-Division.ensures ∙ alike_first (kinds_of c.args.objects.now) c.args.op c.args.a (expression c.args.b.now) Division c.in-Division.ensures ∙ c.in-Ok.ensures (unless (not (fits (width_of (kinds_of c.args.objects.now) (expression c.args.b.now)) c.args.a)) S11 (Gives (Of (Binary c.args.op (Constant (number_in (width_of (kinds_of c.args.objects.now) (expression c.args.b.now)) (sign_of (kinds_of c.args.objects.now) (expression c.args.b.now)) c.args.a)) (expression c.args.b.now))))))
    (finds_by (width_of (kinds_of c.args.objects.now) (expression c.args.b.now)) (sign_of (kinds_of c.args.objects.now) (expression c.args.b.now)) c.args.a (λ (n : Number). Of (Binary c.args.op (Constant n) (expression c.args.b.now))) c.args.place _ c.fit_beside-in-Ok.ensures)

pub returns-in-Err : goal.returns-in-Err
returns-in-Err c =
    let found = c.in-Err.ensures (unless (not (fits (width_of (kinds_of c.args.objects.now) (expression c.args.b.now)) c.args.a)) S11 (Gives (Of (Binary c.args.op (Constant (number_in (width_of (kinds_of c.args.objects.now) (expression c.args.b.now)) (sign_of (kinds_of c.args.objects.now) (expression c.args.b.now)) c.args.a)) (expression c.args.b.now))))) in
    (by_is (kinds_of c.args.objects.now) c.args.op (Whole c.args.a) (Of (expression c.args.b.now)) Division c.in-Division.ensures ∙ alike_first (kinds_of c.args.objects.now) c.args.op c.args.a (expression c.args.b.now) Division c.in-Division.ensures ∙ found.0, found.1)

pub returns-in-Ok-unsigned : goal.returns-in-Ok-unsigned
returns-in-Ok-unsigned c =
    let unsigned = no_sign (sign_of (kinds_of c.args.objects.now) (expression c.args.b.now)) c.in-Ok-unsigned.ensures in
    finds_as (binary (kinds_of c.args.objects.now) c.args.op (Whole c.args.a) (Of (expression c.args.b.now))) _ (λ (n : Number). Of (Binary c.args.op (Constant n) (expression c.args.b.now))) c.args.place _
    (by_is (kinds_of c.args.objects.now) c.args.op (Whole c.args.a) (Of (expression c.args.b.now)) Shifting c.in-Shifting.ensures ∙ c.in-Ok-unsigned.ensures (unless (not (fits (width_of (kinds_of c.args.objects.now) (expression c.args.b.now)) c.args.a)) S11 (Gives (Of (Binary c.args.op (Constant (number_in (width_of (kinds_of c.args.objects.now) (expression c.args.b.now)) false c.args.a)) (expression c.args.b.now))))) ∙ ap (λ s. unless (not (fits (width_of (kinds_of c.args.objects.now) (expression c.args.b.now)) c.args.a)) S11 (Gives (Of (Binary c.args.op (Constant (number_in (width_of (kinds_of c.args.objects.now) (expression c.args.b.now)) s c.args.a)) (expression c.args.b.now))))) (sym unsigned))
    (finds_by (width_of (kinds_of c.args.objects.now) (expression c.args.b.now)) (sign_of (kinds_of c.args.objects.now) (expression c.args.b.now)) c.args.a (λ (n : Number). Of (Binary c.args.op (Constant n) (expression c.args.b.now))) c.args.place _ c.fit_beside-in-Ok-unsigned.ensures)

pub returns-in-Err-unsigned : goal.returns-in-Err-unsigned
returns-in-Err-unsigned c =
    let found = c.in-Err-unsigned.ensures (unless (not (fits (width_of (kinds_of c.args.objects.now) (expression c.args.b.now)) c.args.a)) S11 (Gives (Of (Binary c.args.op (Constant (number_in (width_of (kinds_of c.args.objects.now) (expression c.args.b.now)) false c.args.a)) (expression c.args.b.now))))) in
    (by_is (kinds_of c.args.objects.now) c.args.op (Whole c.args.a) (Of (expression c.args.b.now)) Shifting c.in-Shifting.ensures ∙ found.0, found.1)

pub returns-in-Logic : goal.returns-in-Logic
returns-in-Logic c = by_is (kinds_of c.args.objects.now) c.args.op (Whole c.args.a) (Of (expression c.args.b.now)) Logic c.in-Logic.ensures ∙ ap (λ (n : Number). Gives (Of (Binary c.args.op (Constant n) (expression c.args.b.now)))) (sym c.condition_number.ensures)

pub returns-in-Joining : goal.returns-in-Joining
returns-in-Joining c = breaks_by (binary (kinds_of c.args.objects.now) c.args.op (Whole c.args.a) (Of (expression c.args.b.now))) c.refusal.result S12 c.args.place c.refusal.ensures (by_is (kinds_of c.args.objects.now) c.args.op (Whole c.args.a) (Of (expression c.args.b.now)) Joining c.in-Joining.ensures)

pub returns-in-Taking : goal.returns-in-Taking
returns-in-Taking c = breaks_by (binary (kinds_of c.args.objects.now) c.args.op (Whole c.args.a) (Of (expression c.args.b.now))) c.refusal-in-Taking.result S12 c.args.place c.refusal-in-Taking.ensures (by_is (kinds_of c.args.objects.now) c.args.op (Whole c.args.a) (Of (expression c.args.b.now)) Taking c.in-Taking.ensures)

pub returns-in-Dropping : goal.returns-in-Dropping
returns-in-Dropping c = breaks_by (binary (kinds_of c.args.objects.now) c.args.op (Whole c.args.a) (Of (expression c.args.b.now))) c.refusal-in-Dropping.result S12 c.args.place c.refusal-in-Dropping.ensures (by_is (kinds_of c.args.objects.now) c.args.op (Whole c.args.a) (Of (expression c.args.b.now)) Dropping c.in-Dropping.ensures)
