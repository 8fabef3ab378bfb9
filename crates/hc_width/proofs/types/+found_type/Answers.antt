use Rattle.std.proofs.Common.{◌∙◌, sym, ap, arith}
use Rattle.hc_core.specs.Read.{expression}
use Rattle.hc_core.specs.Typed.{kinds_of, width_of, sign_of, constant_of, Arithmetic, Division, Bitwise, Shifting, Joining, Taking, Dropping}
use Rattle.hc_width.proofs.Typing.{operand_in, left_in, joined_in, joined_width_in, taken_width_in, dropped_width_in, sliced_in, sliced_width_in, choice_in, width_binary, sign_binary, width_unary, sign_unary, width_choice, sign_choice}
use Rattle.hc_width.proofs.Heights.{fewer_unary, fewer_left, fewer_right, fewer_slice, fewer_choice}
use Rattle.hc_width.proofs.types.+found_type.Goals as goal

pub found_type-requires : goal.found_type-requires
found_type-requires t c =
    let fewer = fewer_unary _ _ _ _ c.in-Unary.is c.get.ensures in
    (omega arith, operand_in (kinds_of c.args.objects.now) _ _ _ _ c.in-Unary.is c.get.ensures c.requires)

pub found_type-width-requires : goal.found_type-width-requires
found_type-width-requires t c =
    let fewer = fewer_left _ _ _ _ _ c.in-Binary.is c.get-in-Binary.ensures in
    (omega arith, left_in (kinds_of c.args.objects.now) _ _ _ _ _ c.in-Binary.is c.get-in-Binary.ensures c.requires)

pub found_type-requires-in-Joining : goal.found_type-requires-in-Joining
found_type-requires-in-Joining t c =
    let fewer = fewer_right _ _ _ _ _ c.in-Binary.is c.get-in-Joining.ensures in
    (omega arith, joined_in (kinds_of c.args.objects.now) _ _ _ _ _ c.in-Binary.is c.get-in-Joining.ensures c.in-Joining.ensures c.requires)

pub found_type-width-requires-in-Slice : goal.found_type-width-requires-in-Slice
found_type-width-requires-in-Slice t c =
    let fewer = fewer_slice _ _ _ _ _ c.in-Slice.is c.get-in-Slice.ensures in
    (omega arith, sliced_in (kinds_of c.args.objects.now) _ _ _ _ _ c.in-Slice.is c.get-in-Slice.ensures c.requires)

pub found_type-requires-in-Choice : goal.found_type-requires-in-Choice
found_type-requires-in-Choice t c =
    let fewer = fewer_choice _ _ _ _ _ c.in-Choice.is c.get-in-Choice.ensures in
    (omega arith, choice_in (kinds_of c.args.objects.now) _ _ _ _ _ c.in-Choice.is c.get-in-Choice.ensures c.requires)

pub overflow_add-result : goal.overflow_add-result
overflow_add-result t c =
    let most = joined_width_in (kinds_of c.args.objects.now) _ _ _ _ c.in-Binary.is c.in-Joining.ensures c.requires in
    let left = c.found_type-width.ensures.width ∙ ap (λ y. width_of (kinds_of c.args.objects.now) (expression y)) c.get-in-Binary.ensures in
    let right = c.found_type-in-Joining.ensures.width ∙ ap (λ y. width_of (kinds_of c.args.objects.now) (expression y)) c.get-in-Joining.ensures in
    omega arith

pub overflow_cast-result : goal.overflow_cast-result
overflow_cast-result t c =
    let most = taken_width_in (kinds_of c.args.objects.now) _ _ _ _ c.in-Binary.is c.in-Taking.ensures c.requires in
    let left = c.found_type-width.ensures.width ∙ ap (λ y. width_of (kinds_of c.args.objects.now) (expression y)) c.get-in-Binary.ensures in
    let bits = c.amount.ensures ∙ ap (λ y. constant_of (expression y)) c.get-in-Taking.ensures in
    omega arith

pub overflow_cast-result-in-Dropping : goal.overflow_cast-result-in-Dropping
overflow_cast-result-in-Dropping t c =
    let most = dropped_width_in (kinds_of c.args.objects.now) _ _ _ _ c.in-Binary.is c.in-Dropping.ensures c.requires in
    let left = c.found_type-width.ensures.width ∙ ap (λ y. width_of (kinds_of c.args.objects.now) (expression y)) c.get-in-Binary.ensures in
    let bits = c.amount-in-Dropping.ensures ∙ ap (λ y. constant_of (expression y)) c.get-in-Dropping.ensures in
    omega arith

pub overflow_sub-result : goal.overflow_sub-result
overflow_sub-result t c =
    let most = dropped_width_in (kinds_of c.args.objects.now) _ _ _ _ c.in-Binary.is c.in-Dropping.ensures c.requires in
    let left = c.found_type-width.ensures.width ∙ ap (λ y. width_of (kinds_of c.args.objects.now) (expression y)) c.get-in-Binary.ensures in
    let bits = c.amount-in-Dropping.ensures ∙ ap (λ y. constant_of (expression y)) c.get-in-Dropping.ensures in
    omega arith

pub overflow_add-result-in-Slice : goal.overflow_add-result-in-Slice
overflow_add-result-in-Slice t c =
    let most = sliced_width_in (kinds_of c.args.objects.now) _ _ _ _ c.in-Slice.is c.requires in
    let left = c.found_type-width-in-Slice.ensures.width ∙ ap (λ y. width_of (kinds_of c.args.objects.now) (expression y)) c.get-in-Slice.ensures in
    omega arith

pub returns-in-Unary-clause-width : goal.returns-in-Unary-clause-width
returns-in-Unary-clause-width t c =
    c.unary_type.ensures.width (kinds_of c.args.objects.now) (expression c.in-Unary.a) (c.found_type.ensures.width ∙ ap (λ y. width_of (kinds_of c.args.objects.now) (expression y)) c.get.ensures)
    ∙ sym (width_unary (kinds_of c.args.objects.now) _ _ _ c.in-Unary.is)

pub returns-in-Unary-clause-sign : goal.returns-in-Unary-clause-sign
returns-in-Unary-clause-sign t c =
    c.unary_type.ensures.sign (kinds_of c.args.objects.now) (expression c.in-Unary.a) (c.found_type.ensures.sign ∙ ap (λ y. sign_of (kinds_of c.args.objects.now) (expression y)) c.get.ensures)
    ∙ sym (sign_unary (kinds_of c.args.objects.now) _ _ _ c.in-Unary.is)

pub returns-in-Choice-clause-width : goal.returns-in-Choice-clause-width
returns-in-Choice-clause-width t c = cc (width_choice (kinds_of c.args.objects.now) _ _ _ _ c.in-Choice.is)

pub returns-in-Choice-clause-sign : goal.returns-in-Choice-clause-sign
returns-in-Choice-clause-sign t c = cc (sign_choice (kinds_of c.args.objects.now) _ _ _ _ c.in-Choice.is)

pub returns-in-Arithmetic-clause-width : goal.returns-in-Arithmetic-clause-width
returns-in-Arithmetic-clause-width t c = cc (width_binary (kinds_of c.args.objects.now) _ _ _ _ Arithmetic c.in-Binary.is c.in-Arithmetic.ensures)

pub returns-in-Arithmetic-clause-sign : goal.returns-in-Arithmetic-clause-sign
returns-in-Arithmetic-clause-sign t c = cc (sign_binary (kinds_of c.args.objects.now) _ _ _ _ Arithmetic c.in-Binary.is c.in-Arithmetic.ensures)

pub returns-in-Division-clause-width : goal.returns-in-Division-clause-width
returns-in-Division-clause-width t c = cc (width_binary (kinds_of c.args.objects.now) _ _ _ _ Division c.in-Binary.is c.in-Division.ensures)

pub returns-in-Division-clause-sign : goal.returns-in-Division-clause-sign
returns-in-Division-clause-sign t c = cc (sign_binary (kinds_of c.args.objects.now) _ _ _ _ Division c.in-Binary.is c.in-Division.ensures)

pub returns-in-Bitwise-clause-width : goal.returns-in-Bitwise-clause-width
returns-in-Bitwise-clause-width t c = cc (width_binary (kinds_of c.args.objects.now) _ _ _ _ Bitwise c.in-Binary.is c.in-Bitwise.ensures)

pub returns-in-Bitwise-clause-sign : goal.returns-in-Bitwise-clause-sign
returns-in-Bitwise-clause-sign t c = cc (sign_binary (kinds_of c.args.objects.now) _ _ _ _ Bitwise c.in-Binary.is c.in-Bitwise.ensures)

pub returns-in-Shifting-clause-width : goal.returns-in-Shifting-clause-width
returns-in-Shifting-clause-width t c = cc (width_binary (kinds_of c.args.objects.now) _ _ _ _ Shifting c.in-Binary.is c.in-Shifting.ensures)

pub returns-in-Shifting-clause-sign : goal.returns-in-Shifting-clause-sign
returns-in-Shifting-clause-sign t c = cc (sign_binary (kinds_of c.args.objects.now) _ _ _ _ Shifting c.in-Binary.is c.in-Shifting.ensures)

pub returns-in-Joining-clause-width : goal.returns-in-Joining-clause-width
returns-in-Joining-clause-width t c = cc (width_binary (kinds_of c.args.objects.now) _ _ _ _ Joining c.in-Binary.is c.in-Joining.ensures)

pub returns-in-Joining-clause-sign : goal.returns-in-Joining-clause-sign
returns-in-Joining-clause-sign t c = cc (sign_binary (kinds_of c.args.objects.now) _ _ _ _ Joining c.in-Binary.is c.in-Joining.ensures)

pub returns-in-Taking-clause-width : goal.returns-in-Taking-clause-width
returns-in-Taking-clause-width t c = cc (width_binary (kinds_of c.args.objects.now) _ _ _ _ Taking c.in-Binary.is c.in-Taking.ensures)

pub returns-in-Taking-clause-sign : goal.returns-in-Taking-clause-sign
returns-in-Taking-clause-sign t c = cc (sign_binary (kinds_of c.args.objects.now) _ _ _ _ Taking c.in-Binary.is c.in-Taking.ensures)

pub returns-in-Dropping-clause-width : goal.returns-in-Dropping-clause-width
returns-in-Dropping-clause-width t c = cc (width_binary (kinds_of c.args.objects.now) _ _ _ _ Dropping c.in-Binary.is c.in-Dropping.ensures)

pub returns-in-Dropping-clause-sign : goal.returns-in-Dropping-clause-sign
returns-in-Dropping-clause-sign t c = cc (sign_binary (kinds_of c.args.objects.now) _ _ _ _ Dropping c.in-Binary.is c.in-Dropping.ensures)
