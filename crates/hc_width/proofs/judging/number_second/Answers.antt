use Rattle.std.proofs.Common.{not, ◌&&◌, nat_le, nat_lt, sym, ap, ◌∙◌}
use Rattle.hc_tree.specs.declared.refusal.Rule.TheVariants.{S11, S12}
use Rattle.hc_num.specs.Number.{Number}
use Rattle.hc_core.specs.Program.{Constant, Binary}
use Rattle.hc_core.specs.Read.{expression}
use Rattle.hc_core.specs.Typed.{kinds_of, width_of, sign_of, Arithmetic, Division, Bitwise, Comparison, Shifting, Joining, Taking, Dropping, Logic}
use Rattle.hc_width.specs.Whole.{fits, number_in}
use Rattle.hc_width.specs.Operand.{Whole, Of}
use Rattle.hc_width.specs.Judged.{Gives, unless}
use Rattle.hc_width.specs.Binary.{binary}
use Rattle.hc_width.proofs.Steps.{finds_as, finds_by, by_is, alike_second, breaks_by}
use Rattle.hc_width.proofs.judging.number_second.Goals as goal

pub returns-in-Arithmetic : goal.returns-in-Arithmetic
returns-in-Arithmetic c =
    finds_as (binary (kinds_of c.args.objects.now) c.args.op (Of (expression c.args.a.now)) (Whole c.args.b)) _ (λ (n : Number). Of (Binary c.args.op (expression c.args.a.now) (Constant n))) c.args.place _
    (by_is (kinds_of c.args.objects.now) c.args.op (Of (expression c.args.a.now)) (Whole c.args.b) Arithmetic c.in-Arithmetic.ensures ∙ alike_second (kinds_of c.args.objects.now) c.args.op (expression c.args.a.now) c.args.b Arithmetic c.in-Arithmetic.ensures)
    (finds_by (width_of (kinds_of c.args.objects.now) (expression c.args.a.now)) (sign_of (kinds_of c.args.objects.now) (expression c.args.a.now)) c.args.b (λ (n : Number). Of (Binary c.args.op (expression c.args.a.now) (Constant n))) c.args.place _ c.fit_beside.ensures)

pub returns-in-Bitwise : goal.returns-in-Bitwise
returns-in-Bitwise c =
    finds_as (binary (kinds_of c.args.objects.now) c.args.op (Of (expression c.args.a.now)) (Whole c.args.b)) _ (λ (n : Number). Of (Binary c.args.op (expression c.args.a.now) (Constant n))) c.args.place _
    (by_is (kinds_of c.args.objects.now) c.args.op (Of (expression c.args.a.now)) (Whole c.args.b) Bitwise c.in-Bitwise.ensures ∙ alike_second (kinds_of c.args.objects.now) c.args.op (expression c.args.a.now) c.args.b Bitwise c.in-Bitwise.ensures)
    (finds_by (width_of (kinds_of c.args.objects.now) (expression c.args.a.now)) (sign_of (kinds_of c.args.objects.now) (expression c.args.a.now)) c.args.b (λ (n : Number). Of (Binary c.args.op (expression c.args.a.now) (Constant n))) c.args.place _ c.fit_beside-in-Bitwise.ensures)

pub returns-in-Comparison : goal.returns-in-Comparison
returns-in-Comparison c =
    finds_as (binary (kinds_of c.args.objects.now) c.args.op (Of (expression c.args.a.now)) (Whole c.args.b)) _ (λ (n : Number). Of (Binary c.args.op (expression c.args.a.now) (Constant n))) c.args.place _
    (by_is (kinds_of c.args.objects.now) c.args.op (Of (expression c.args.a.now)) (Whole c.args.b) Comparison c.in-Comparison.ensures ∙ alike_second (kinds_of c.args.objects.now) c.args.op (expression c.args.a.now) c.args.b Comparison c.in-Comparison.ensures)
    (finds_by (width_of (kinds_of c.args.objects.now) (expression c.args.a.now)) (sign_of (kinds_of c.args.objects.now) (expression c.args.a.now)) c.args.b (λ (n : Number). Of (Binary c.args.op (expression c.args.a.now) (Constant n))) c.args.place _ c.fit_beside-in-Comparison.ensures)

pub returns-in-Ok : goal.returns-in-Ok
returns-in-Ok c =
    finds_as (binary (kinds_of c.args.objects.now) c.args.op (Of (expression c.args.a.now)) (Whole c.args.b)) _ (λ (n : Number). Of (Binary c.args.op (expression c.args.a.now) (Constant n))) c.args.place _
    (by_is (kinds_of c.args.objects.now) c.args.op (Of (expression c.args.a.now)) (Whole c.args.b) Division c.in-Division.ensures ∙ alike_second (kinds_of c.args.objects.now) c.args.op (expression c.args.a.now) c.args.b Division c.in-Division.ensures ∙ c.in-Ok.ensures (unless (not (fits (width_of (kinds_of c.args.objects.now) (expression c.args.a.now)) c.args.b)) S11 (Gives (Of (Binary c.args.op (expression c.args.a.now) (Constant (number_in (width_of (kinds_of c.args.objects.now) (expression c.args.a.now)) (sign_of (kinds_of c.args.objects.now) (expression c.args.a.now)) c.args.b)))))))
    (finds_by (width_of (kinds_of c.args.objects.now) (expression c.args.a.now)) (sign_of (kinds_of c.args.objects.now) (expression c.args.a.now)) c.args.b (λ (n : Number). Of (Binary c.args.op (expression c.args.a.now) (Constant n))) c.args.place _ c.fit_beside-in-Ok.ensures)

pub returns-in-Err : goal.returns-in-Err
returns-in-Err c =
    let found = c.in-Err.ensures (unless (not (fits (width_of (kinds_of c.args.objects.now) (expression c.args.a.now)) c.args.b)) S11 (Gives (Of (Binary c.args.op (expression c.args.a.now) (Constant (number_in (width_of (kinds_of c.args.objects.now) (expression c.args.a.now)) (sign_of (kinds_of c.args.objects.now) (expression c.args.a.now)) c.args.b)))))) in
    (by_is (kinds_of c.args.objects.now) c.args.op (Of (expression c.args.a.now)) (Whole c.args.b) Division c.in-Division.ensures ∙ alike_second (kinds_of c.args.objects.now) c.args.op (expression c.args.a.now) c.args.b Division c.in-Division.ensures ∙ found.0, found.1)

pub returns-in-Shifting : goal.returns-in-Shifting
returns-in-Shifting c = finds_as (binary (kinds_of c.args.objects.now) c.args.op (Of (expression c.args.a.now)) (Whole c.args.b)) _ (λ (n : Number). Of (Binary c.args.op (expression c.args.a.now) (Constant n))) c.args.place _ (by_is (kinds_of c.args.objects.now) c.args.op (Of (expression c.args.a.now)) (Whole c.args.b) Shifting c.in-Shifting.ensures) (c.shift_amount.ensures (λ (n : Number). Of (Binary c.args.op (expression c.args.a.now) (Constant n))))

pub returns-in-Joining : goal.returns-in-Joining
returns-in-Joining c = breaks_by (binary (kinds_of c.args.objects.now) c.args.op (Of (expression c.args.a.now)) (Whole c.args.b)) c.refusal.result S12 c.args.place c.refusal.ensures (by_is (kinds_of c.args.objects.now) c.args.op (Of (expression c.args.a.now)) (Whole c.args.b) Joining c.in-Joining.ensures)

pub returns-in-Taking : goal.returns-in-Taking
returns-in-Taking c =
    finds_as (binary (kinds_of c.args.objects.now) c.args.op (Of (expression c.args.a.now)) (Whole c.args.b)) _ (λ (n : Number). Of (Binary c.args.op (expression c.args.a.now) (Constant n))) c.args.place _ (by_is (kinds_of c.args.objects.now) c.args.op (Of (expression c.args.a.now)) (Whole c.args.b) Taking c.in-Taking.ensures)
    (c.allowed_amount.ensures (kinds_of c.args.objects.now) c.args.op (expression c.args.a.now) (λ n w. nat_le 1 n && nat_le n w) (cc))

pub returns-in-Dropping : goal.returns-in-Dropping
returns-in-Dropping c =
    finds_as (binary (kinds_of c.args.objects.now) c.args.op (Of (expression c.args.a.now)) (Whole c.args.b)) _ (λ (n : Number). Of (Binary c.args.op (expression c.args.a.now) (Constant n))) c.args.place _ (by_is (kinds_of c.args.objects.now) c.args.op (Of (expression c.args.a.now)) (Whole c.args.b) Dropping c.in-Dropping.ensures)
    (c.allowed_amount-in-Dropping.ensures (kinds_of c.args.objects.now) c.args.op (expression c.args.a.now) (λ n w. nat_lt n w) (cc))

pub returns-in-Logic : goal.returns-in-Logic
returns-in-Logic c = by_is (kinds_of c.args.objects.now) c.args.op (Of (expression c.args.a.now)) (Whole c.args.b) Logic c.in-Logic.ensures ∙ ap (λ (n : Number). Gives (Of (Binary c.args.op (expression c.args.a.now) (Constant n)))) (sym c.condition_number.ensures)
