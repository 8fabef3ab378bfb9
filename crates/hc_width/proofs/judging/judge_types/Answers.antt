use Rattle.std.proofs.Common.{◌≡◌, ◌+◌, true, false, nat_lt, refl, ◌∙◌, arith}
use Rattle.std.proofs.lemmas.Bool.{lt-ltb, le-ltb}
use Rattle.hc_tree.specs.declared.refusal.Rule.TheVariants.{S8, S10, S13}
use Rattle.hc_core.specs.Program.{Binary}
use Rattle.hc_core.specs.Read.{expression}
use Rattle.hc_core.specs.Typed.{kinds_of, width_of, sign_of, Arithmetic, Division, Bitwise, Comparison, Shifting, Joining, Taking, Dropping, Logic}
use Rattle.hc_width.specs.Operand.{Of}
use Rattle.hc_width.specs.Judged.{Gives, unless}
use Rattle.hc_width.specs.Binary.{binary}
use Rattle.hc_width.proofs.Steps.{passes_as, by_is, alike_types, breaks_by, rule_holds, rule_broken}
use Rattle.hc_width.proofs.judging.judge_types.Goals as goal

pub returns-in-Arithmetic : goal.returns-in-Arithmetic
returns-in-Arithmetic c =
    passes_as (binary (kinds_of c.args.objects.now) c.args.op (Of (expression c.args.a.now)) (Of (expression c.args.b.now))) _ _ (Gives (Of (Binary c.args.op (expression c.args.a.now) (expression c.args.b.now)))) c.args.place _
    (by_is (kinds_of c.args.objects.now) c.args.op (Of (expression c.args.a.now)) (Of (expression c.args.b.now)) Arithmetic c.in-Arithmetic.ensures ∙ alike_types (kinds_of c.args.objects.now) c.args.op (expression c.args.a.now) (expression c.args.b.now) Arithmetic c.in-Arithmetic.ensures) refl
    (c.same_type.ensures (Gives (Of (Binary c.args.op (expression c.args.a.now) (expression c.args.b.now)))))

pub returns-in-Bitwise : goal.returns-in-Bitwise
returns-in-Bitwise c =
    passes_as (binary (kinds_of c.args.objects.now) c.args.op (Of (expression c.args.a.now)) (Of (expression c.args.b.now))) _ _ (Gives (Of (Binary c.args.op (expression c.args.a.now) (expression c.args.b.now)))) c.args.place _
    (by_is (kinds_of c.args.objects.now) c.args.op (Of (expression c.args.a.now)) (Of (expression c.args.b.now)) Bitwise c.in-Bitwise.ensures ∙ alike_types (kinds_of c.args.objects.now) c.args.op (expression c.args.a.now) (expression c.args.b.now) Bitwise c.in-Bitwise.ensures) refl
    (c.same_type-in-Bitwise.ensures (Gives (Of (Binary c.args.op (expression c.args.a.now) (expression c.args.b.now)))))

pub returns-in-Comparison : goal.returns-in-Comparison
returns-in-Comparison c =
    passes_as (binary (kinds_of c.args.objects.now) c.args.op (Of (expression c.args.a.now)) (Of (expression c.args.b.now))) _ _ (Gives (Of (Binary c.args.op (expression c.args.a.now) (expression c.args.b.now)))) c.args.place _
    (by_is (kinds_of c.args.objects.now) c.args.op (Of (expression c.args.a.now)) (Of (expression c.args.b.now)) Comparison c.in-Comparison.ensures ∙ alike_types (kinds_of c.args.objects.now) c.args.op (expression c.args.a.now) (expression c.args.b.now) Comparison c.in-Comparison.ensures) refl
    (c.same_type-in-Comparison.ensures (Gives (Of (Binary c.args.op (expression c.args.a.now) (expression c.args.b.now)))))

pub returns-in-Ok : goal.returns-in-Ok
returns-in-Ok c =
    let whole = by_is (kinds_of c.args.objects.now) c.args.op (Of (expression c.args.a.now)) (Of (expression c.args.b.now)) Division c.in-Division.ensures ∙ alike_types (kinds_of c.args.objects.now) c.args.op (expression c.args.a.now) (expression c.args.b.now) Division c.in-Division.ensures in
    passes_as (binary (kinds_of c.args.objects.now) c.args.op (Of (expression c.args.a.now)) (Of (expression c.args.b.now))) _ _ (Gives (Of (Binary c.args.op (expression c.args.a.now) (expression c.args.b.now)))) c.args.place _
    (whole ∙ c.in-Ok.ensures (unless (sign_of (kinds_of c.args.objects.now) (expression c.args.a.now)) S10 (Gives (Of (Binary c.args.op (expression c.args.a.now) (expression c.args.b.now)))))) refl
    (c.unsigned.ensures (Gives (Of (Binary c.args.op (expression c.args.a.now) (expression c.args.b.now)))))

pub returns-in-Err : goal.returns-in-Err
returns-in-Err c =
    let whole = by_is (kinds_of c.args.objects.now) c.args.op (Of (expression c.args.a.now)) (Of (expression c.args.b.now)) Division c.in-Division.ensures ∙ alike_types (kinds_of c.args.objects.now) c.args.op (expression c.args.a.now) (expression c.args.b.now) Division c.in-Division.ensures in
    let found = c.in-Err.ensures (unless (sign_of (kinds_of c.args.objects.now) (expression c.args.a.now)) S10 (Gives (Of (Binary c.args.op (expression c.args.a.now) (expression c.args.b.now))))) in
    (whole ∙ found.0, found.1)

pub returns-in-Shifting : goal.returns-in-Shifting
returns-in-Shifting c =
    passes_as (binary (kinds_of c.args.objects.now) c.args.op (Of (expression c.args.a.now)) (Of (expression c.args.b.now))) _ _ (Gives (Of (Binary c.args.op (expression c.args.a.now) (expression c.args.b.now)))) c.args.place _
    (by_is (kinds_of c.args.objects.now) c.args.op (Of (expression c.args.a.now)) (Of (expression c.args.b.now)) Shifting c.in-Shifting.ensures) refl
    (c.unsigned-in-Shifting.ensures (Gives (Of (Binary c.args.op (expression c.args.a.now) (expression c.args.b.now)))))

pub returns-then-type_of-gt128 : goal.returns-then-type_of-gt128
returns-then-type_of-gt128 c =
    let wide : nat_lt 128 (width_of (kinds_of c.args.objects.now) (expression c.args.a.now) + width_of (kinds_of c.args.objects.now) (expression c.args.b.now)) ≡ true = lt-ltb _ _ (omega (arith, c.type_of.ensures.width, c.type_of-in-Joining.ensures.width)) in
    breaks_by (binary (kinds_of c.args.objects.now) c.args.op (Of (expression c.args.a.now)) (Of (expression c.args.b.now))) c.refusal.result S13 c.args.place c.refusal.ensures
    (by_is (kinds_of c.args.objects.now) c.args.op (Of (expression c.args.a.now)) (Of (expression c.args.b.now)) Joining c.in-Joining.ensures ∙ rule_broken _ S13 (Gives (Of (Binary c.args.op (expression c.args.a.now) (expression c.args.b.now)))) wide)

pub returns-else-type_of-gt128 : goal.returns-else-type_of-gt128
returns-else-type_of-gt128 c =
    let narrow : nat_lt 128 (width_of (kinds_of c.args.objects.now) (expression c.args.a.now) + width_of (kinds_of c.args.objects.now) (expression c.args.b.now)) ≡ false = le-ltb _ _ (omega (arith, c.type_of.ensures.width, c.type_of-in-Joining.ensures.width)) in
    by_is (kinds_of c.args.objects.now) c.args.op (Of (expression c.args.a.now)) (Of (expression c.args.b.now)) Joining c.in-Joining.ensures ∙ rule_holds _ S13 (Gives (Of (Binary c.args.op (expression c.args.a.now) (expression c.args.b.now)))) narrow

pub returns-in-Logic : goal.returns-in-Logic
returns-in-Logic c = by_is (kinds_of c.args.objects.now) c.args.op (Of (expression c.args.a.now)) (Of (expression c.args.b.now)) Logic c.in-Logic.ensures

pub returns-in-Taking : goal.returns-in-Taking
returns-in-Taking c = breaks_by (binary (kinds_of c.args.objects.now) c.args.op (Of (expression c.args.a.now)) (Of (expression c.args.b.now))) c.refusal-in-Taking.result S8 c.args.place c.refusal-in-Taking.ensures (by_is (kinds_of c.args.objects.now) c.args.op (Of (expression c.args.a.now)) (Of (expression c.args.b.now)) Taking c.in-Taking.ensures)

pub returns-in-Dropping : goal.returns-in-Dropping
returns-in-Dropping c = breaks_by (binary (kinds_of c.args.objects.now) c.args.op (Of (expression c.args.a.now)) (Of (expression c.args.b.now))) c.refusal-in-Dropping.result S8 c.args.place c.refusal-in-Dropping.ensures (by_is (kinds_of c.args.objects.now) c.args.op (Of (expression c.args.a.now)) (Of (expression c.args.b.now)) Dropping c.in-Dropping.ensures)
