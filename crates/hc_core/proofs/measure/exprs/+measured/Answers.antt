-- Each operand can be measured, and each partial sum is at most the weight of the whole, which is below 2^57.
use Rattle.std.proofs.Common.{rules, ◌≡◌, ◌+◌, ◌*◌, arith}
use Rattle.hc_core.specs.Read.{expression}
use Rattle.hc_core.specs.Typed.{kinds_of, width_of, group_of, group_width}
use Rattle.hc_core.specs.Weight.{expression_weight}
use Rattle.hc_core.specs.declared.expr.Expr.{the_lemmas}
use Rattle.hc_core.proofs.Read.{reading}
use Rattle.hc_core.proofs.Operands.{width_bound, weight_bound, element_index, word_index, unary_operand, first_operand, second_operand, sliced, chosen}
use Rattle.hc_core.proofs.measure.exprs.+measured.Goals as goal

pub measured-index-requires : goal.measured-index-requires
measured-index-requires t c = (search (rules, the_lemmas), rw c.get.ensures (element_index _ _ _ _ c.in-Element.is c.requires))

pub element-own-requires : goal.element-own-requires
element-own-requires t c =
    let same : c.width_at-width.result ≡ width_of (kinds_of c.args.objects.now) (expression c.args.e.now) = search (rules, reading) in
    rw same (width_bound _ _ c.requires)

pub overflow_add-result : goal.overflow_add-result
overflow_add-result t c =
    let sum : c.element-own.result + c.measured-index.result.weight ≡ expression_weight (kinds_of c.args.objects.now) (expression c.args.e.now) = search (rules, reading) in
    let total = weight_bound _ _ c.requires in
    omega arith

pub measured-at-requires : goal.measured-at-requires
measured-at-requires t c = (search (rules, the_lemmas), rw c.get-in-Word.ensures (word_index _ _ _ _ c.in-Word.is c.requires))

pub overflow_add-result-in-Word : goal.overflow_add-result-in-Word
overflow_add-result-in-Word t c =
    let sum : c.word-own.result + c.measured-at.result.weight ≡ expression_weight (kinds_of c.args.objects.now) (expression c.args.e.now) = search (rules, reading) in
    let total = weight_bound _ _ c.requires in
    omega arith

pub measured-a-requires : goal.measured-a-requires
measured-a-requires t c = (search (rules, the_lemmas), rw c.get-in-Unary.ensures (unary_operand _ _ _ _ c.in-Unary.is c.requires))

pub unary-requires : goal.unary-requires
unary-requires t c = rw c.measured-a.ensures.width (rw c.get-in-Unary.ensures (width_bound _ _ (unary_operand _ _ _ _ c.in-Unary.is c.requires)))

pub overflow_add-result-in-Unary : goal.overflow_add-result-in-Unary
overflow_add-result-in-Unary t c =
    let sum : c.unary.result + c.measured-a.result.weight ≡ expression_weight (kinds_of c.args.objects.now) (expression c.args.e.now) = search (rules, reading) in
    let total = weight_bound _ _ c.requires in
    omega arith

pub measured-a-requires-in-Binary : goal.measured-a-requires-in-Binary
measured-a-requires-in-Binary t c = (search (rules, the_lemmas), rw c.get-in-Binary.ensures (first_operand _ _ _ _ _ c.in-Binary.is c.requires))

pub measured-b-requires : goal.measured-b-requires
measured-b-requires t c = (search (rules, the_lemmas), rw c.get-in-Binary-2.ensures (second_operand _ _ _ _ _ c.in-Binary.is c.requires))

pub binary-own-requires-clause-first : goal.binary-own-requires-clause-first
binary-own-requires-clause-first t c =
    rw c.measured-a-in-Binary.ensures.width (rw c.get-in-Binary.ensures (width_bound _ _ (first_operand _ _ _ _ _ c.in-Binary.is c.requires)))

pub binary-own-requires-clause-second : goal.binary-own-requires-clause-second
binary-own-requires-clause-second t c =
    rw c.measured-b.ensures.width (rw c.get-in-Binary-2.ensures (width_bound _ _ (second_operand _ _ _ _ _ c.in-Binary.is c.requires)))

pub binary_width-requires : goal.binary_width-requires
binary_width-requires t c =
    let same : group_width (group_of c.in-Binary.op) c.measured-a-in-Binary.result.width c.measured-b.result.width c.constant_of.result
    ≡ width_of (kinds_of c.args.objects.now) (expression c.args.e.now) = search (rules, reading) in
    rw same (width_bound _ _ c.requires)

pub overflow_add-result-in-Binary : goal.overflow_add-result-in-Binary
overflow_add-result-in-Binary t c =
    let sum : c.binary-own.result + c.measured-a-in-Binary.result.weight + c.measured-b.result.weight
    ≡ expression_weight (kinds_of c.args.objects.now) (expression c.args.e.now) = search (rules, reading) in
    let total = weight_bound _ _ c.requires in
    omega arith

pub overflow_add-result-in-Binary-2 : goal.overflow_add-result-in-Binary-2
overflow_add-result-in-Binary-2 t c =
    let sum : c.binary-own.result + c.measured-a-in-Binary.result.weight + c.measured-b.result.weight
    ≡ expression_weight (kinds_of c.args.objects.now) (expression c.args.e.now) = search (rules, reading) in
    let total = weight_bound _ _ c.requires in
    omega arith

pub measured-a-requires-in-Slice : goal.measured-a-requires-in-Slice
measured-a-requires-in-Slice t c = (search (rules, the_lemmas), rw c.get-in-Slice.ensures (sliced _ _ _ _ _ c.in-Slice.is c.requires))

pub overflow_add-result-in-Slice : goal.overflow_add-result-in-Slice
overflow_add-result-in-Slice t c =
    let same : c.saturating_sub.result + 1 ≡ width_of (kinds_of c.args.objects.now) (expression c.args.e.now) = search (rules, reading) in
    let small = width_bound _ _ c.requires in
    omega arith

pub measured-c-requires : goal.measured-c-requires
measured-c-requires t c = (search (rules, the_lemmas), rw c.get-in-Choice.ensures (chosen _ _ _ _ _ c.in-Choice.is c.requires).condition)

pub measured-a-requires-in-Choice : goal.measured-a-requires-in-Choice
measured-a-requires-in-Choice t c = (search (rules, the_lemmas), rw c.get-in-Choice-2.ensures (chosen _ _ _ _ _ c.in-Choice.is c.requires).first)

pub measured-b-requires-in-Choice : goal.measured-b-requires-in-Choice
measured-b-requires-in-Choice t c = (search (rules, the_lemmas), rw c.get-in-Choice-3.ensures (chosen _ _ _ _ _ c.in-Choice.is c.requires).second)

pub overflow_add-result-in-Choice-3 : goal.overflow_add-result-in-Choice-3
overflow_add-result-in-Choice-3 t c =
    let sum : c.measured-c.result.width + 4 * c.measured-a-in-Choice.result.width + 1 + c.measured-c.result.weight + c.measured-a-in-Choice.result.weight + c.measured-b-in-Choice.result.weight
    ≡ expression_weight (kinds_of c.args.objects.now) (expression c.args.e.now) = search (rules, reading) in
    let total = weight_bound _ _ c.requires in
    omega arith

pub overflow_add-result-in-Choice-4 : goal.overflow_add-result-in-Choice-4
overflow_add-result-in-Choice-4 t c =
    let sum : c.measured-c.result.width + 4 * c.measured-a-in-Choice.result.width + 1 + c.measured-c.result.weight + c.measured-a-in-Choice.result.weight + c.measured-b-in-Choice.result.weight
    ≡ expression_weight (kinds_of c.args.objects.now) (expression c.args.e.now) = search (rules, reading) in
    let total = weight_bound _ _ c.requires in
    omega arith

pub overflow_add-result-in-Choice-5 : goal.overflow_add-result-in-Choice-5
overflow_add-result-in-Choice-5 t c =
    let sum : c.measured-c.result.width + 4 * c.measured-a-in-Choice.result.width + 1 + c.measured-c.result.weight + c.measured-a-in-Choice.result.weight + c.measured-b-in-Choice.result.weight
    ≡ expression_weight (kinds_of c.args.objects.now) (expression c.args.e.now) = search (rules, reading) in
    let total = weight_bound _ _ c.requires in
    omega arith
