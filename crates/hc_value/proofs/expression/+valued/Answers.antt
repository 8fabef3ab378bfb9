-- Each arm, from what its parts gave.
use Rattle.std.proofs.Common.{rules, ◌≡◌, Some, None, sym}
use Rattle.hc_core.specs.Read.{expression}
use Rattle.hc_core.specs.Typed.{kinds_of}
use Rattle.hc_core.specs.declared.expr.Expr.{the_lemmas}
use Rattle.hc_bits.proofs.Parts.{IfOk-both}
use Rattle.std.proofs.lemmas.Result.{IfOk-weaker}
use Rattle.hc_value.specs.Moves.{amount, move_of}
use Rattle.hc_value.specs.Operands.{IsValue}
use Rattle.hc_value.proofs.Parts.{index_can, operand_can, left_can, right_can, sliced_can, condition_can, first_can, second_can, value_some, unary_room, binary_ready, Ready, element_count, element_ready, ReadyElement, cut_order, cut_within, choice_ready, ReadyChoice, valued_Const, valued_Reg, valued_Signal, valued_Input, valued_Word, valued_fixed, valued_Element, valued_Unary, valued_Binary, valued_moved, valued_Slice, valued_Choice, IfOk-three}
use Rattle.hc_value.proofs.expression.+valued.Goals as goal

-- ---- constants and whole objects

pub returns-in-Const : goal.returns-in-Const
returns-in-Const t c =
    IfOk-both c.constant.result _ _ _ (λ z nets signed. valued_Const (kinds_of c.args.objects.now) c.args.at.now c.args.b.now c.args.e.now c.in-Const.n z c.in-Const.is c.requires nets signed)
    c.constant.ensures.nets c.constant.ensures.signed

pub returns-in-Reg : goal.returns-in-Reg
returns-in-Reg t c =
    IfOk-both c.whole.result _ _ _ (λ z nets signed. valued_Reg (kinds_of c.args.objects.now) c.args.at.now c.args.b.now c.args.e.now c.in-Reg.k z c.in-Reg.is c.requires nets signed)
    c.whole.ensures.nets c.whole.ensures.signed

pub returns-in-Word : goal.returns-in-Word
returns-in-Word t c =
    IfOk-both c.whole-in-Word.result _ _ _ (λ z nets signed. valued_Word (kinds_of c.args.objects.now) c.args.at.now c.args.b.now c.args.e.now c.in-Word.k _ z c.in-Word.is c.requires nets signed)
    c.whole-in-Word.ensures.nets c.whole-in-Word.ensures.signed

pub returns-in-Signal : goal.returns-in-Signal
returns-in-Signal t c =
    IfOk-both c.whole-in-Signal.result _ _ _ (λ z nets signed. valued_Signal (kinds_of c.args.objects.now) c.args.at.now c.args.b.now c.args.e.now c.in-Signal.k z c.in-Signal.is c.requires nets signed)
    c.whole-in-Signal.ensures.nets c.whole-in-Signal.ensures.signed

pub returns-in-Input : goal.returns-in-Input
returns-in-Input t c =
    IfOk-both c.whole-in-Input.result _ _ _ (λ z nets signed. valued_Input (kinds_of c.args.objects.now) c.args.at.now c.args.b.now c.args.e.now c.in-Input.k z c.in-Input.is c.requires nets signed)
    c.whole-in-Input.ensures.nets c.whole-in-Input.ensures.signed

-- ---- an element

pub fixed_element-requires : goal.fixed_element-requires
fixed_element-requires t c = record { count = element_count (kinds_of c.args.objects.now) c.args.at.now c.args.b.now c.args.e.now c.in-Element.k _ c.in-Element.is c.requires }

pub returns-in-Some : goal.returns-in-Some
returns-in-Some t c =
    let fixed : amount (expression c.in-Element.i) ≡ Some c.in-Some.n = rw (← c.get.ensures) (sym c.in-Some.ensures) in
    IfOk-both c.fixed_element.result _ _ _
    (λ z nets signed. valued_fixed (kinds_of c.args.objects.now) c.args.at.now c.args.b.now c.args.e.now c.in-Element.k c.in-Some.n c.in-Element.i z c.in-Element.is c.requires fixed nets signed)
    c.fixed_element.ensures.nets c.fixed_element.ensures.signed

pub valued-requires : goal.valued-requires
valued-requires t c = (search (rules, the_lemmas), rw c.get-in-None.ensures (index_can _ _ _ _ _ _ c.in-Element.is c.requires))

pub read_element-requires-clause-nets : goal.read_element-requires-clause-nets
read_element-requires-clause-nets t c =
    let none : amount (expression c.in-Element.i) ≡ None = rw (← c.get.ensures) (sym c.in-None.ensures) in
    let index : IsValue (kinds_of c.args.objects.now) c.args.at.now (expression c.in-Element.i) c.args.b.now c.valued.new.b c.in_ok-index-in-None.index = rw (← c.get-in-None.ensures) c.in_ok-index-in-None.ensures in
    (element_ready _ _ _ _ _ c.in-Element.k c.in-Element.i c.in_ok-index-in-None.index c.in-Element.is c.requires none index).nets

pub read_element-requires-clause-index : goal.read_element-requires-clause-index
read_element-requires-clause-index t c = c.in_ok-index-in-None.ensures.made.there

pub read_element-requires-clause-count : goal.read_element-requires-clause-count
read_element-requires-clause-count t c = element_count (kinds_of c.args.objects.now) c.args.at.now c.args.b.now c.args.e.now c.in-Element.k _ c.in-Element.is c.requires

pub read_element-requires-clause-some_elements : goal.read_element-requires-clause-some_elements
read_element-requires-clause-some_elements t c =
    let none : amount (expression c.in-Element.i) ≡ None = rw (← c.get.ensures) (sym c.in-None.ensures) in
    let index : IsValue (kinds_of c.args.objects.now) c.args.at.now (expression c.in-Element.i) c.args.b.now c.valued.new.b c.in_ok-index-in-None.index = rw (← c.get-in-None.ensures) c.in_ok-index-in-None.ensures in
    (element_ready _ _ _ _ _ c.in-Element.k c.in-Element.i c.in_ok-index-in-None.index c.in-Element.is c.requires none index).some_elements

pub read_element-requires-clause-some_index : goal.read_element-requires-clause-some_index
read_element-requires-clause-some_index t c =
    let none : amount (expression c.in-Element.i) ≡ None = rw (← c.get.ensures) (sym c.in-None.ensures) in
    let index : IsValue (kinds_of c.args.objects.now) c.args.at.now (expression c.in-Element.i) c.args.b.now c.valued.new.b c.in_ok-index-in-None.index = rw (← c.get-in-None.ensures) c.in_ok-index-in-None.ensures in
    (element_ready _ _ _ _ _ c.in-Element.k c.in-Element.i c.in_ok-index-in-None.index c.in-Element.is c.requires none index).some_index

pub read_element-requires-clause-numbers : goal.read_element-requires-clause-numbers
read_element-requires-clause-numbers t c =
    let none : amount (expression c.in-Element.i) ≡ None = rw (← c.get.ensures) (sym c.in-None.ensures) in
    let index : IsValue (kinds_of c.args.objects.now) c.args.at.now (expression c.in-Element.i) c.args.b.now c.valued.new.b c.in_ok-index-in-None.index = rw (← c.get-in-None.ensures) c.in_ok-index-in-None.ensures in
    (element_ready _ _ _ _ _ c.in-Element.k c.in-Element.i c.in_ok-index-in-None.index c.in-Element.is c.requires none index).numbers

pub read_element-requires-clause-room : goal.read_element-requires-clause-room
read_element-requires-clause-room t c =
    let none : amount (expression c.in-Element.i) ≡ None = rw (← c.get.ensures) (sym c.in-None.ensures) in
    let index : IsValue (kinds_of c.args.objects.now) c.args.at.now (expression c.in-Element.i) c.args.b.now c.valued.new.b c.in_ok-index-in-None.index = rw (← c.get-in-None.ensures) c.in_ok-index-in-None.ensures in
    (element_ready _ _ _ _ _ c.in-Element.k c.in-Element.i c.in_ok-index-in-None.index c.in-Element.is c.requires none index).room

pub returns-in-Element : goal.returns-in-Element
returns-in-Element t c =
    let none : amount (expression c.in-Element.i) ≡ None = rw (← c.get.ensures) (sym c.in-None.ensures) in
    let index : IsValue (kinds_of c.args.objects.now) c.args.at.now (expression c.in-Element.i) c.args.b.now c.valued.new.b c.in_ok-index-in-None.index = rw (← c.get-in-None.ensures) c.in_ok-index-in-None.ensures in
    IfOk-three c.read_element.result _ _ _ _
    (λ z width signed made. valued_Element (kinds_of c.args.objects.now) c.args.at.now c.args.b.now c.valued.new.b c.read_element.new.b c.args.e.now c.in-Element.k c.in-Element.i c.in_ok-index-in-None.index z c.in-Element.is c.requires
    none index width signed made)
    c.read_element.ensures.width c.read_element.ensures.signed c.read_element.ensures.circuit

-- ---- an operator before its operand

pub valued-requires-in-Unary : goal.valued-requires-in-Unary
valued-requires-in-Unary t c = (search (rules, the_lemmas), rw c.get-in-Unary.ensures (operand_can _ _ _ _ _ _ c.in-Unary.is c.requires))

pub unary-requires-clause-nets : goal.unary-requires-clause-nets
unary-requires-clause-nets t c = c.in_ok-x-in-Unary.ensures.made.there

pub unary-requires-clause-some : goal.unary-requires-clause-some
unary-requires-clause-some t c =
    let first : IsValue (kinds_of c.args.objects.now) c.args.at.now (expression c.in-Unary.x) c.args.b.now c.valued-in-Unary.new.b c.in_ok-x-in-Unary.x = rw (← c.get-in-Unary.ensures) c.in_ok-x-in-Unary.ensures in
    value_some _ _ _ _ _ _ _ (operand_can _ _ _ _ _ _ c.in-Unary.is c.requires) first

pub unary-requires-clause-room : goal.unary-requires-clause-room
unary-requires-clause-room t c =
    let first : IsValue (kinds_of c.args.objects.now) c.args.at.now (expression c.in-Unary.x) c.args.b.now c.valued-in-Unary.new.b c.in_ok-x-in-Unary.x = rw (← c.get-in-Unary.ensures) c.in_ok-x-in-Unary.ensures in
    unary_room _ _ _ _ _ _ _ _ c.in-Unary.is c.requires first

pub returns-in-Unary : goal.returns-in-Unary
returns-in-Unary t c =
    let first : IsValue (kinds_of c.args.objects.now) c.args.at.now (expression c.in-Unary.x) c.args.b.now c.valued-in-Unary.new.b c.in_ok-x-in-Unary.x = rw (← c.get-in-Unary.ensures) c.in_ok-x-in-Unary.ensures in
    IfOk-weaker c.unary.result _ _
    (λ z made. valued_Unary (kinds_of c.args.objects.now) c.args.at.now c.args.b.now c.valued-in-Unary.new.b c.unary.new.b c.args.e.now c.in-Unary.op c.in-Unary.x c.in_ok-x-in-Unary.x z c.in-Unary.is first made)
    c.unary.ensures

-- ---- an operator between two operands

pub valued-requires-in-Binary : goal.valued-requires-in-Binary
valued-requires-in-Binary t c = (search (rules, the_lemmas), rw c.get-in-Binary.ensures (left_can _ _ _ _ _ _ _ c.in-Binary.is c.requires))

pub moved-requires : goal.moved-requires
moved-requires t c =
    let first : IsValue (kinds_of c.args.objects.now) c.args.at.now (expression c.in-Binary.x) c.args.b.now c.valued-in-Binary.new.b c.in_ok-x-in-Binary.x = rw (← c.get-in-Binary.ensures) c.in_ok-x-in-Binary.ensures in
    record { some = value_some _ _ _ _ _ _ _ (left_can _ _ _ _ _ _ _ c.in-Binary.is c.requires) first }

pub returns-in-Some-move_of : goal.returns-in-Some-move_of
returns-in-Some-move_of t c =
    let first : IsValue (kinds_of c.args.objects.now) c.args.at.now (expression c.in-Binary.x) c.args.b.now c.valued-in-Binary.new.b c.in_ok-x-in-Binary.x = rw (← c.get-in-Binary.ensures) c.in_ok-x-in-Binary.ensures in
    let moves : move_of c.in-Binary.op (expression c.in-Binary.y) ≡ Some c.in-Some-move_of.by = rw (← c.get-in-Binary-2.ensures) (sym c.in-Some-move_of.ensures) in
    IfOk-both c.moved.result _ _ _
    (λ z nets signed. valued_moved (kinds_of c.args.objects.now) c.args.at.now c.args.b.now c.valued-in-Binary.new.b c.args.e.now c.in-Binary.op c.in-Binary.x c.in-Binary.y c.in-Some-move_of.by c.in_ok-x-in-Binary.x z c.in-Binary.is c.requires
    moves first nets signed)
    c.moved.ensures.nets c.moved.ensures.signed

pub valued-requires-in-None-move_of : goal.valued-requires-in-None-move_of
valued-requires-in-None-move_of t c =
    let first : IsValue (kinds_of c.args.objects.now) c.args.at.now (expression c.in-Binary.x) c.args.b.now c.valued-in-Binary.new.b c.in_ok-x-in-Binary.x = rw (← c.get-in-Binary.ensures) c.in_ok-x-in-Binary.ensures in
    (search (rules, the_lemmas), rw c.get-in-None-move_of.ensures (right_can _ _ _ _ _ _ _ _ c.in-Binary.is c.requires first.made.adds))

pub binary-requires-clause-left : goal.binary-requires-clause-left
binary-requires-clause-left t c =
    let first : IsValue (kinds_of c.args.objects.now) c.args.at.now (expression c.in-Binary.x) c.args.b.now c.valued-in-Binary.new.b c.in_ok-x-in-Binary.x = rw (← c.get-in-Binary.ensures) c.in_ok-x-in-Binary.ensures in
    let none : move_of c.in-Binary.op (expression c.in-Binary.y) ≡ None = rw (← c.get-in-Binary-2.ensures) (sym c.in-None-move_of.ensures) in
    let second : IsValue (kinds_of c.args.objects.now) c.args.at.now (expression c.in-Binary.y) c.valued-in-Binary.new.b c.valued-in-None-move_of.new.b c.in_ok-y-in-None-move_of.y = rw (← c.get-in-None-move_of.ensures) c.in_ok-y-in-None-move_of.ensures in
    (binary_ready _ _ _ _ _ _ c.in-Binary.op c.in-Binary.x c.in-Binary.y c.in_ok-x-in-Binary.x c.in_ok-y-in-None-move_of.y c.in-Binary.is c.requires none first second).left

pub binary-requires-clause-right : goal.binary-requires-clause-right
binary-requires-clause-right t c =
    let first : IsValue (kinds_of c.args.objects.now) c.args.at.now (expression c.in-Binary.x) c.args.b.now c.valued-in-Binary.new.b c.in_ok-x-in-Binary.x = rw (← c.get-in-Binary.ensures) c.in_ok-x-in-Binary.ensures in
    let none : move_of c.in-Binary.op (expression c.in-Binary.y) ≡ None = rw (← c.get-in-Binary-2.ensures) (sym c.in-None-move_of.ensures) in
    let second : IsValue (kinds_of c.args.objects.now) c.args.at.now (expression c.in-Binary.y) c.valued-in-Binary.new.b c.valued-in-None-move_of.new.b c.in_ok-y-in-None-move_of.y = rw (← c.get-in-None-move_of.ensures) c.in_ok-y-in-None-move_of.ensures in
    (binary_ready _ _ _ _ _ _ c.in-Binary.op c.in-Binary.x c.in-Binary.y c.in_ok-x-in-Binary.x c.in_ok-y-in-None-move_of.y c.in-Binary.is c.requires none first second).right

pub binary-requires-clause-some_left : goal.binary-requires-clause-some_left
binary-requires-clause-some_left t c =
    let first : IsValue (kinds_of c.args.objects.now) c.args.at.now (expression c.in-Binary.x) c.args.b.now c.valued-in-Binary.new.b c.in_ok-x-in-Binary.x = rw (← c.get-in-Binary.ensures) c.in_ok-x-in-Binary.ensures in
    let none : move_of c.in-Binary.op (expression c.in-Binary.y) ≡ None = rw (← c.get-in-Binary-2.ensures) (sym c.in-None-move_of.ensures) in
    let second : IsValue (kinds_of c.args.objects.now) c.args.at.now (expression c.in-Binary.y) c.valued-in-Binary.new.b c.valued-in-None-move_of.new.b c.in_ok-y-in-None-move_of.y = rw (← c.get-in-None-move_of.ensures) c.in_ok-y-in-None-move_of.ensures in
    (binary_ready _ _ _ _ _ _ c.in-Binary.op c.in-Binary.x c.in-Binary.y c.in_ok-x-in-Binary.x c.in_ok-y-in-None-move_of.y c.in-Binary.is c.requires none first second).some_left

pub binary-requires-clause-some_right : goal.binary-requires-clause-some_right
binary-requires-clause-some_right t c =
    let first : IsValue (kinds_of c.args.objects.now) c.args.at.now (expression c.in-Binary.x) c.args.b.now c.valued-in-Binary.new.b c.in_ok-x-in-Binary.x = rw (← c.get-in-Binary.ensures) c.in_ok-x-in-Binary.ensures in
    let none : move_of c.in-Binary.op (expression c.in-Binary.y) ≡ None = rw (← c.get-in-Binary-2.ensures) (sym c.in-None-move_of.ensures) in
    let second : IsValue (kinds_of c.args.objects.now) c.args.at.now (expression c.in-Binary.y) c.valued-in-Binary.new.b c.valued-in-None-move_of.new.b c.in_ok-y-in-None-move_of.y = rw (← c.get-in-None-move_of.ensures) c.in_ok-y-in-None-move_of.ensures in
    (binary_ready _ _ _ _ _ _ c.in-Binary.op c.in-Binary.x c.in-Binary.y c.in_ok-x-in-Binary.x c.in_ok-y-in-None-move_of.y c.in-Binary.is c.requires none first second).some_right

pub binary-requires-clause-fits : goal.binary-requires-clause-fits
binary-requires-clause-fits t c =
    let first : IsValue (kinds_of c.args.objects.now) c.args.at.now (expression c.in-Binary.x) c.args.b.now c.valued-in-Binary.new.b c.in_ok-x-in-Binary.x = rw (← c.get-in-Binary.ensures) c.in_ok-x-in-Binary.ensures in
    let none : move_of c.in-Binary.op (expression c.in-Binary.y) ≡ None = rw (← c.get-in-Binary-2.ensures) (sym c.in-None-move_of.ensures) in
    let second : IsValue (kinds_of c.args.objects.now) c.args.at.now (expression c.in-Binary.y) c.valued-in-Binary.new.b c.valued-in-None-move_of.new.b c.in_ok-y-in-None-move_of.y = rw (← c.get-in-None-move_of.ensures) c.in_ok-y-in-None-move_of.ensures in
    (binary_ready _ _ _ _ _ _ c.in-Binary.op c.in-Binary.x c.in-Binary.y c.in_ok-x-in-Binary.x c.in_ok-y-in-None-move_of.y c.in-Binary.is c.requires none first second).fits

pub binary-requires-clause-room : goal.binary-requires-clause-room
binary-requires-clause-room t c =
    let first : IsValue (kinds_of c.args.objects.now) c.args.at.now (expression c.in-Binary.x) c.args.b.now c.valued-in-Binary.new.b c.in_ok-x-in-Binary.x = rw (← c.get-in-Binary.ensures) c.in_ok-x-in-Binary.ensures in
    let none : move_of c.in-Binary.op (expression c.in-Binary.y) ≡ None = rw (← c.get-in-Binary-2.ensures) (sym c.in-None-move_of.ensures) in
    let second : IsValue (kinds_of c.args.objects.now) c.args.at.now (expression c.in-Binary.y) c.valued-in-Binary.new.b c.valued-in-None-move_of.new.b c.in_ok-y-in-None-move_of.y = rw (← c.get-in-None-move_of.ensures) c.in_ok-y-in-None-move_of.ensures in
    (binary_ready _ _ _ _ _ _ c.in-Binary.op c.in-Binary.x c.in-Binary.y c.in_ok-x-in-Binary.x c.in_ok-y-in-None-move_of.y c.in-Binary.is c.requires none first second).room

pub returns-in-Binary : goal.returns-in-Binary
returns-in-Binary t c =
    let first : IsValue (kinds_of c.args.objects.now) c.args.at.now (expression c.in-Binary.x) c.args.b.now c.valued-in-Binary.new.b c.in_ok-x-in-Binary.x = rw (← c.get-in-Binary.ensures) c.in_ok-x-in-Binary.ensures in
    let none : move_of c.in-Binary.op (expression c.in-Binary.y) ≡ None = rw (← c.get-in-Binary-2.ensures) (sym c.in-None-move_of.ensures) in
    let second : IsValue (kinds_of c.args.objects.now) c.args.at.now (expression c.in-Binary.y) c.valued-in-Binary.new.b c.valued-in-None-move_of.new.b c.in_ok-y-in-None-move_of.y = rw (← c.get-in-None-move_of.ensures) c.in_ok-y-in-None-move_of.ensures in
    IfOk-both c.binary.result _ _ _
    (λ z signed made. valued_Binary (kinds_of c.args.objects.now) c.args.at.now c.args.b.now c.valued-in-Binary.new.b c.valued-in-None-move_of.new.b c.binary.new.b c.args.e.now c.in-Binary.op c.in-Binary.x c.in-Binary.y c.in_ok-x-in-Binary.x
    c.in_ok-y-in-None-move_of.y z c.in-Binary.is none first second signed made)
    c.binary.ensures.signed c.binary.ensures.circuit

-- ---- a cut

pub valued-requires-in-Slice : goal.valued-requires-in-Slice
valued-requires-in-Slice t c = (search (rules, the_lemmas), rw c.get-in-Slice.ensures (sliced_can _ _ _ _ _ _ _ c.in-Slice.is c.requires))

pub slice-requires-clause-order : goal.slice-requires-clause-order
slice-requires-clause-order t c = cut_order _ _ _ _ _ _ _ c.in-Slice.is c.requires

pub slice-requires-clause-within : goal.slice-requires-clause-within
slice-requires-clause-within t c =
    let first : IsValue (kinds_of c.args.objects.now) c.args.at.now (expression c.in-Slice.x) c.args.b.now c.valued-in-Slice.new.b c.in_ok-x-in-Slice.x = rw (← c.get-in-Slice.ensures) c.in_ok-x-in-Slice.ensures in
    cut_within _ _ _ _ _ _ _ _ _ c.in-Slice.is c.requires first

pub returns-in-Slice : goal.returns-in-Slice
returns-in-Slice t c =
    let first : IsValue (kinds_of c.args.objects.now) c.args.at.now (expression c.in-Slice.x) c.args.b.now c.valued-in-Slice.new.b c.in_ok-x-in-Slice.x = rw (← c.get-in-Slice.ensures) c.in_ok-x-in-Slice.ensures in
    IfOk-both c.slice.result _ _ _
    (λ z nets signed. valued_Slice (kinds_of c.args.objects.now) c.args.at.now c.args.b.now c.valued-in-Slice.new.b c.args.e.now c.in-Slice.x c.in-Slice.high c.in-Slice.low c.in_ok-x-in-Slice.x z c.in-Slice.is c.requires first nets signed)
    c.slice.ensures.nets c.slice.ensures.signed

-- ---- a choice

pub valued-requires-in-Choice : goal.valued-requires-in-Choice
valued-requires-in-Choice t c = (search (rules, the_lemmas), rw c.get-in-Choice.ensures (condition_can _ _ _ _ _ _ _ c.in-Choice.is c.requires))

pub valued-requires-in-Choice-2 : goal.valued-requires-in-Choice-2
valued-requires-in-Choice-2 t c =
    let condition : IsValue (kinds_of c.args.objects.now) c.args.at.now (expression c.in-Choice.c) c.args.b.now c.valued-in-Choice.new.b c.in_ok-c-in-Choice.c = rw (← c.get-in-Choice.ensures) c.in_ok-c-in-Choice.ensures in
    (search (rules, the_lemmas), rw c.get-in-Choice-2.ensures (first_can _ _ _ _ _ _ _ _ c.in-Choice.is c.requires condition.made.adds))

pub valued-requires-in-Choice-3 : goal.valued-requires-in-Choice-3
valued-requires-in-Choice-3 t c =
    let condition : IsValue (kinds_of c.args.objects.now) c.args.at.now (expression c.in-Choice.c) c.args.b.now c.valued-in-Choice.new.b c.in_ok-c-in-Choice.c = rw (← c.get-in-Choice.ensures) c.in_ok-c-in-Choice.ensures in
    let first : IsValue (kinds_of c.args.objects.now) c.args.at.now (expression c.in-Choice.x) c.valued-in-Choice.new.b c.valued-in-Choice-2.new.b c.in_ok-x-in-Choice.x = rw (← c.get-in-Choice-2.ensures) c.in_ok-x-in-Choice.ensures in
    (search (rules, the_lemmas), rw c.get-in-Choice-3.ensures (second_can _ _ _ _ _ _ _ _ _ c.in-Choice.is c.requires condition.made.adds first.made.adds))

pub choice-requires-clause-condition : goal.choice-requires-clause-condition
choice-requires-clause-condition t c =
    let condition : IsValue (kinds_of c.args.objects.now) c.args.at.now (expression c.in-Choice.c) c.args.b.now c.valued-in-Choice.new.b c.in_ok-c-in-Choice.c = rw (← c.get-in-Choice.ensures) c.in_ok-c-in-Choice.ensures in
    let first : IsValue (kinds_of c.args.objects.now) c.args.at.now (expression c.in-Choice.x) c.valued-in-Choice.new.b c.valued-in-Choice-2.new.b c.in_ok-x-in-Choice.x = rw (← c.get-in-Choice-2.ensures) c.in_ok-x-in-Choice.ensures in
    let second : IsValue (kinds_of c.args.objects.now) c.args.at.now (expression c.in-Choice.y) c.valued-in-Choice-2.new.b c.valued-in-Choice-3.new.b c.in_ok-y-in-Choice.y = rw (← c.get-in-Choice-3.ensures) c.in_ok-y-in-Choice.ensures in
    (choice_ready _ _ _ _ _ _ _ c.in-Choice.c c.in-Choice.x c.in-Choice.y c.in_ok-c-in-Choice.c c.in_ok-x-in-Choice.x c.in_ok-y-in-Choice.y c.in-Choice.is c.requires condition first second).condition

pub choice-requires-clause-left : goal.choice-requires-clause-left
choice-requires-clause-left t c =
    let condition : IsValue (kinds_of c.args.objects.now) c.args.at.now (expression c.in-Choice.c) c.args.b.now c.valued-in-Choice.new.b c.in_ok-c-in-Choice.c = rw (← c.get-in-Choice.ensures) c.in_ok-c-in-Choice.ensures in
    let first : IsValue (kinds_of c.args.objects.now) c.args.at.now (expression c.in-Choice.x) c.valued-in-Choice.new.b c.valued-in-Choice-2.new.b c.in_ok-x-in-Choice.x = rw (← c.get-in-Choice-2.ensures) c.in_ok-x-in-Choice.ensures in
    let second : IsValue (kinds_of c.args.objects.now) c.args.at.now (expression c.in-Choice.y) c.valued-in-Choice-2.new.b c.valued-in-Choice-3.new.b c.in_ok-y-in-Choice.y = rw (← c.get-in-Choice-3.ensures) c.in_ok-y-in-Choice.ensures in
    (choice_ready _ _ _ _ _ _ _ c.in-Choice.c c.in-Choice.x c.in-Choice.y c.in_ok-c-in-Choice.c c.in_ok-x-in-Choice.x c.in_ok-y-in-Choice.y c.in-Choice.is c.requires condition first second).left

pub choice-requires-clause-right : goal.choice-requires-clause-right
choice-requires-clause-right t c =
    let condition : IsValue (kinds_of c.args.objects.now) c.args.at.now (expression c.in-Choice.c) c.args.b.now c.valued-in-Choice.new.b c.in_ok-c-in-Choice.c = rw (← c.get-in-Choice.ensures) c.in_ok-c-in-Choice.ensures in
    let first : IsValue (kinds_of c.args.objects.now) c.args.at.now (expression c.in-Choice.x) c.valued-in-Choice.new.b c.valued-in-Choice-2.new.b c.in_ok-x-in-Choice.x = rw (← c.get-in-Choice-2.ensures) c.in_ok-x-in-Choice.ensures in
    let second : IsValue (kinds_of c.args.objects.now) c.args.at.now (expression c.in-Choice.y) c.valued-in-Choice-2.new.b c.valued-in-Choice-3.new.b c.in_ok-y-in-Choice.y = rw (← c.get-in-Choice-3.ensures) c.in_ok-y-in-Choice.ensures in
    (choice_ready _ _ _ _ _ _ _ c.in-Choice.c c.in-Choice.x c.in-Choice.y c.in_ok-c-in-Choice.c c.in_ok-x-in-Choice.x c.in_ok-y-in-Choice.y c.in-Choice.is c.requires condition first second).right

pub choice-requires-clause-some : goal.choice-requires-clause-some
choice-requires-clause-some t c =
    let condition : IsValue (kinds_of c.args.objects.now) c.args.at.now (expression c.in-Choice.c) c.args.b.now c.valued-in-Choice.new.b c.in_ok-c-in-Choice.c = rw (← c.get-in-Choice.ensures) c.in_ok-c-in-Choice.ensures in
    let first : IsValue (kinds_of c.args.objects.now) c.args.at.now (expression c.in-Choice.x) c.valued-in-Choice.new.b c.valued-in-Choice-2.new.b c.in_ok-x-in-Choice.x = rw (← c.get-in-Choice-2.ensures) c.in_ok-x-in-Choice.ensures in
    let second : IsValue (kinds_of c.args.objects.now) c.args.at.now (expression c.in-Choice.y) c.valued-in-Choice-2.new.b c.valued-in-Choice-3.new.b c.in_ok-y-in-Choice.y = rw (← c.get-in-Choice-3.ensures) c.in_ok-y-in-Choice.ensures in
    (choice_ready _ _ _ _ _ _ _ c.in-Choice.c c.in-Choice.x c.in-Choice.y c.in_ok-c-in-Choice.c c.in_ok-x-in-Choice.x c.in_ok-y-in-Choice.y c.in-Choice.is c.requires condition first second).some

pub choice-requires-clause-width : goal.choice-requires-clause-width
choice-requires-clause-width t c =
    let condition : IsValue (kinds_of c.args.objects.now) c.args.at.now (expression c.in-Choice.c) c.args.b.now c.valued-in-Choice.new.b c.in_ok-c-in-Choice.c = rw (← c.get-in-Choice.ensures) c.in_ok-c-in-Choice.ensures in
    let first : IsValue (kinds_of c.args.objects.now) c.args.at.now (expression c.in-Choice.x) c.valued-in-Choice.new.b c.valued-in-Choice-2.new.b c.in_ok-x-in-Choice.x = rw (← c.get-in-Choice-2.ensures) c.in_ok-x-in-Choice.ensures in
    let second : IsValue (kinds_of c.args.objects.now) c.args.at.now (expression c.in-Choice.y) c.valued-in-Choice-2.new.b c.valued-in-Choice-3.new.b c.in_ok-y-in-Choice.y = rw (← c.get-in-Choice-3.ensures) c.in_ok-y-in-Choice.ensures in
    (choice_ready _ _ _ _ _ _ _ c.in-Choice.c c.in-Choice.x c.in-Choice.y c.in_ok-c-in-Choice.c c.in_ok-x-in-Choice.x c.in_ok-y-in-Choice.y c.in-Choice.is c.requires condition first second).width

pub choice-requires-clause-room : goal.choice-requires-clause-room
choice-requires-clause-room t c =
    let condition : IsValue (kinds_of c.args.objects.now) c.args.at.now (expression c.in-Choice.c) c.args.b.now c.valued-in-Choice.new.b c.in_ok-c-in-Choice.c = rw (← c.get-in-Choice.ensures) c.in_ok-c-in-Choice.ensures in
    let first : IsValue (kinds_of c.args.objects.now) c.args.at.now (expression c.in-Choice.x) c.valued-in-Choice.new.b c.valued-in-Choice-2.new.b c.in_ok-x-in-Choice.x = rw (← c.get-in-Choice-2.ensures) c.in_ok-x-in-Choice.ensures in
    let second : IsValue (kinds_of c.args.objects.now) c.args.at.now (expression c.in-Choice.y) c.valued-in-Choice-2.new.b c.valued-in-Choice-3.new.b c.in_ok-y-in-Choice.y = rw (← c.get-in-Choice-3.ensures) c.in_ok-y-in-Choice.ensures in
    (choice_ready _ _ _ _ _ _ _ c.in-Choice.c c.in-Choice.x c.in-Choice.y c.in_ok-c-in-Choice.c c.in_ok-x-in-Choice.x c.in_ok-y-in-Choice.y c.in-Choice.is c.requires condition first second).room

pub returns : goal.returns
returns t c =
    let condition : IsValue (kinds_of c.args.objects.now) c.args.at.now (expression c.in-Choice.c) c.args.b.now c.valued-in-Choice.new.b c.in_ok-c-in-Choice.c = rw (← c.get-in-Choice.ensures) c.in_ok-c-in-Choice.ensures in
    let first : IsValue (kinds_of c.args.objects.now) c.args.at.now (expression c.in-Choice.x) c.valued-in-Choice.new.b c.valued-in-Choice-2.new.b c.in_ok-x-in-Choice.x = rw (← c.get-in-Choice-2.ensures) c.in_ok-x-in-Choice.ensures in
    let second : IsValue (kinds_of c.args.objects.now) c.args.at.now (expression c.in-Choice.y) c.valued-in-Choice-2.new.b c.valued-in-Choice-3.new.b c.in_ok-y-in-Choice.y = rw (← c.get-in-Choice-3.ensures) c.in_ok-y-in-Choice.ensures in
    IfOk-three c.choice.result _ _ _ _
    (λ z width signed made. valued_Choice (kinds_of c.args.objects.now) c.args.at.now c.args.b.now c.valued-in-Choice.new.b c.valued-in-Choice-2.new.b c.valued-in-Choice-3.new.b c.choice.new.b c.args.e.now c.in-Choice.c c.in-Choice.x c.in-Choice.y
    c.in_ok-c-in-Choice.c c.in_ok-x-in-Choice.x c.in_ok-y-in-Choice.y z c.in-Choice.is c.requires condition first second width signed made)
    c.choice.ensures.width c.choice.ensures.signed c.choice.ensures.circuit
