-- The arms of a `switch` and the cases of a `prialt`, one after another.
use Rattle.std.proofs.Common.{◌≡◌, ◌≢◌, ◌++◌, Bool, true, false, List, [], ◌∷◌, Option, Some, None, Result, Ok, Err, refl, sym, ap, subst, ◌∙◌, append_assoc, arith}
use Rattle.hc_tree.specs.declared.place.Place.{Place}
use Rattle.hc_tree.specs.declared.stmt.Arm.{Arm, roll-Arm}
use Rattle.hc_tree.specs.declared.stmt.Case.{Case}
use Rattle.hc_tree.specs.declared.stmt.Label.{Label}
use Rattle.hc_tree.specs.declared.stmt.Label.TheVariants as label
use Rattle.hc_lex.specs.declared.mark.Mark.TheVariants as m
use Rattle.hc_grammar.specs.declared.kind.Kind.{Kind}
use Rattle.hc_grammar.specs.declared.kind.Kind.TheVariants as kinds
use Rattle.hc_grammar.specs.declared.halt.Halt.{Halt}
use Rattle.hc_grammar.specs.Table.{mark, form, front}
use Rattle.hc_grammar.specs.Form as f
use Rattle.hc_grammar.specs.Form.{Gives, ArmTail}
use Rattle.hc_grammar.specs.Expression.{sign}
use Rattle.hc_grammar.specs.Grammar.{rule}
use Rattle.hc_grammar.specs.Cursor.{Ahead, place_at}
use Rattle.hc_grammar.specs.Answers.{Answers, Halts}
use Rattle.hc_grammar.specs.Walk.{start, finished}
use Rattle.hc_parse.specs.Turn.{next_kind, begins, begins_label, PassesBreak, GoesOn, AnswersTurn, with_labels}
use Rattle.hc_parse.proofs.RowsStatement as row
use Rattle.hc_parse.proofs.WalksStatement.{on_walked, on_on, on_same, on_done, row_done, same_row}

-- ---- ends

pub other_ends : (old new : Ahead) (result : Result Bool Halt) → PassesBreak old result new → Answers f.other_end old result new
other_ends old new (Ok true) (known, passes) = finished (passes.0 f.other_end old [] (λ u. true) (start old (row.other_break_row old known))) refl
other_ends old new (Ok false) (none, same) = subst (λ c. Answers f.other_end old (Ok false) c) (sym same) (finished (start old (row.no_other_break_row old none)) refl)
other_ends old new (Err halt) (known, halts) = halts f.other_end old [] (λ u. true) (start old (row.other_break_row old known))

pub case_break_halts : (now new : Ahead) (halt : Halt) → PassesBreak now (Err halt) new → Halts f.case_end now halt new
case_break_halts now new halt (known, halts) = halts _ _ _ _ (start now (row.case_break_row now known))

pub arm_break_halts : (d : Bool) (now new : Ahead) (halt : Halt) → PassesBreak now (Err halt) new → Halts (f.arm_end d) now halt new
arm_break_halts d now new halt (known, halts) = halts _ _ _ _ (start now (row.break_row d now known))

-- ---- cases

-- a case up to its end, and its end
pub case_turn : (old now new : Ahead) (make : Bool → Case) → GoesOn f.more_cases old f.case_end (λ end. (make end.has_break ∷ end.cases, end.other)) now
    → (b : Bool) → PassesBreak now (Ok b) new → (one : Case) → one ≡ make b
    → AnswersTurn f.more_cases f.more_cases (λ one more. (one ∷ more.0, more.1)) (λ one. (one ∷ [], None)) old (Ok (one, b)) new
case_turn old now new make on true (known, passes) one is =
    let first = on.shorter in
    let second = passes.1 in
    let end = on_walked (passes.0 f.case_end now (form f.more_cases ∷ []) (λ (more, u). record { has_break = true; cases = more.0; other = more.1 }) (start now (row.case_break_row now known))) (omega arith) in
    (on_same (on_on on end) (λ v. ap (λ one. (one ∷ v.0, v.1)) (sym is)), omega arith)
case_turn old now new make on false (none, same) one is =
    subst (λ c. AnswersTurn f.more_cases f.more_cases (λ one more. (one ∷ more.0, more.1)) (λ one. (one ∷ [], None)) old (Ok (one, false)) c) (sym same)
    (on_done on (row_done (start now (row.no_case_break_row now none))) refl (ap (λ one. (one ∷ [], None)) is))

-- ---- arms

abbrev arm_from : Place → ArmTail → List Arm
arm_from at tail = roll-Arm (record { place = at; labels = tail.labels; stmts = tail.stmts; has_break = tail.has_break }) ∷ tail.arms

-- an arm begins as what is behind a label does
pub arm_here : (d : Bool) (c : Ahead) → begins (begins_label d) (next_kind c) ≡ true → GoesOn (f.arms d) c (f.arm_tail d) (arm_from (place_at c)) c
arm_here d c label = at (next_kind c) refl
  where
    default_here : (d : Bool) → d ≡ false → next_kind c ≡ Some kinds.Default → GoesOn (f.arms d) c (f.arm_tail d) (arm_from (place_at c)) c
    default_here true is known = absurd cc
    default_here false is known = same_row c _ _ _ (arm_from (place_at c)) (row.arm_default_row c known) (row.tail_default_row c known) (λ vs. refl)

    other_here : (k : Kind) → next_kind c ≡ Some k → k ≢ kinds.Case → GoesOn (f.arms d) c (f.arm_tail d) (arm_from (place_at c)) c
    other_here k known differs =
        let it = row.is_default d c label (λ is. let same : Some kinds.Case ≡ Some k = sym is ∙ known in differs cc) in default_here d it.0 it.1

    at : (o : Option Kind) → next_kind c ≡ o → GoesOn (f.arms d) c (f.arm_tail d) (arm_from (place_at c)) c
    at None none = let gone : begins (begins_label d) None ≡ true = sym (ap (begins (begins_label d)) none) ∙ label in absurd cc
    at (Some kinds.Case) known = same_row c _ _ _ (arm_from (place_at c)) (row.arm_case_row d c known) (row.tail_case_row d c known) (λ vs. refl)
    at (Some kinds.Default) known = other_here kinds.Default known (λ same. absurd cc)
    at (Some k) known = other_here k known (λ same. absurd cc)

-- the rule of a label that is no `case`
pub default_row : (d : Bool) (c : Ahead) → begins (begins_label d) (next_kind c) ≡ true → next_kind c ≢ Some kinds.Case → (next_kind c ≡ Some kinds.Default) × (rule (f.arm_tail d) (front c.rest) ≡ Some (record {
  row = mark kinds.Default ∷ sign m.Colon ∷ form (f.arm_tail true) ∷ [];
  gives = λ (tail, _). record { labels = label.Default (place_at c) ∷ tail.labels; stmts = tail.stmts; has_break = tail.has_break; arms = tail.arms };
}))
default_row true c label other = let it = row.is_default true c label other in let both : true ≡ false = it.0 in absurd cc
default_row false c label other = let it = row.is_default false c label other in (it.1, row.tail_default_row c it.1)

pub labels_more : (list : List Label) (l : Label) (tail : ArmTail) → with_labels list (with_labels (l ∷ []) tail) ≡ with_labels (list ++ l ∷ []) tail
labels_more list l tail = ap (λ labels. record { labels = labels; stmts = tail.stmts; has_break = tail.has_break; arms = tail.arms }) (sym (append_assoc list (l ∷ []) tail.labels))

-- an arm up to its end, and its end
pub arm_turn : (before after : Bool) (old now new : Ahead) (make : Bool → Arm) → GoesOn (f.arms before) old (f.arm_end after) (λ end. make end.0 ∷ end.1) now
    → (b : Bool) → PassesBreak now (Ok b) new → (one : Arm) → one ≡ make b
    → AnswersTurn (f.arms before) (f.arms after) (λ one more. one ∷ more) (λ one. one ∷ []) old (Ok (one, b)) new
arm_turn before after old now new make on true (known, passes) one is =
    let first = on.shorter in
    let second = passes.1 in
    let end = on_walked (passes.0 (f.arm_end after) now (form (f.arms after) ∷ []) (λ (arms, u). (true, arms)) (start now (row.break_row after now known))) (omega arith) in
    (on_same (on_on on end) (λ v. ap (λ one. one ∷ v) (sym is)), omega arith)
arm_turn before after old now new make on false (none, same) one is =
    subst (λ c. AnswersTurn (f.arms before) (f.arms after) (λ one more. one ∷ more) (λ one. one ∷ []) old (Ok (one, false)) c) (sym same)
    (on_done on (row_done (start now (row.no_break_row after now none))) refl (ap (λ one. one ∷ []) is))
