-- The statement of a core that a program is the reading of: what is written of a program has it as its reading, and what is written of a
-- reading is what was read.
use Rattle.std.proofs.Common.{◌≡◌, List, [], ◌∷◌, refl, sym, ap, ◌∙◌}
use mathlib.Core.Former.{Count, none_left, one_more, this, list_count}
use Rattle.hc_core.specs.Program.{Expression, Constant, Register, Element, Word, Signal, Input, Unary, Binary, Slice, Choice, Target, ToRegister, ToElement, ToWord, ToSignal, Statement, Skip, Assign, Delay, Send, Receive, Prialt, PrialtElse, Seq, Par, If, While, DoWhile, Switch, Statements, stop, ◌⨾◌, Cases, no_case, send_case, receive_case, Arms, no_arm, arm}
use Rattle.hc_core.specs.Read.{expression, target, statement, statements_in, cases_in, arms_in}
use Rattle.hc_core.specs.declared.expr.Expr.TheBlock as eb
use Rattle.hc_core.specs.declared.stmt.Target as t
use Rattle.hc_core.specs.declared.stmt.Target.TheVariants as tv
use Rattle.hc_core.specs.declared.stmt.Stmt.{Stmt}
use Rattle.hc_core.specs.declared.stmt.Stmt.TheVariants as s
use Rattle.hc_core.specs.declared.stmt.Case.TheVariants as c
use Rattle.hc_core.specs.declared.stmt.Case.TheBlock as sb
use Rattle.hc_scope.specs.Written.{written}
use Rattle.hc_declare.proofs.Written.{written_expression}

-- ---- what is written

-- lists of as many entries as there are statements, cases or arms
abbrev pub statements_shape : Statements → List (Unit {0})
statements_shape stop = []
statements_shape (first ⨾ rest) = tt ∷ statements_shape rest

abbrev pub cases_shape : Cases → List (Unit {0})
cases_shape no_case = []
cases_shape (send_case chan e first rest) = tt ∷ cases_shape rest
cases_shape (receive_case chan to first rest) = tt ∷ cases_shape rest

abbrev pub arms_shape : Arms → List (Unit {0})
arms_shape no_arm = []
arms_shape (arm values other body rest) = tt ∷ arms_shape rest

-- how many children a list of that many entries has
abbrev pub count_of : List (Unit {0}) → Count
count_of shape = list_count this shape none_left

-- the target of a core that has this one as its reading
unfoldable pub written_target : Target → t.Target
written_target (ToRegister k) = tv.Reg k
written_target (ToElement k i) = tv.Element k (written i)
written_target (ToWord k i) = tv.Word k (written i)
written_target (ToSignal k) = tv.Signal k

-- the statement of a core that has this one as its reading
unfoldable mutual
  pub written_statement : Statement → Stmt
  written_statement Skip = s.Skip
  written_statement (Assign place to e) = s.Assign place (written_target to) (written e)
  written_statement (Delay place) = s.Delay place
  written_statement (Send place chan e) = s.Send place chan (written e)
  written_statement (Receive place chan to) = s.Recv place chan (written_target to)
  written_statement (Prialt place cases) = s.Prialt' place (cases_shape cases) (written_cases cases) sb.None'
  written_statement (PrialtElse place cases rest) = s.Prialt' place (cases_shape cases) (written_cases cases) (sb.Some' _ (sb.more_of-Stmt (written_statement rest) sb.end_of-Stmt))
  written_statement (Seq place parts) = s.Seq' place (statements_shape parts) (written_statements parts)
  written_statement (Par place branches) = s.Par' place (statements_shape branches) (written_statements branches)
  written_statement (If place c a b) = s.If' place (written c) _ (sb.more_of-Stmt (written_statement a) sb.end_of-Stmt) _ (sb.more_of-Stmt (written_statement b) sb.end_of-Stmt)
  written_statement (While place c body) = s.While' place (written c) _ (sb.more_of-Stmt (written_statement body) sb.end_of-Stmt)
  written_statement (DoWhile place body c) = s.DoWhile' place _ (sb.more_of-Stmt (written_statement body) sb.end_of-Stmt) (written c)
  written_statement (Switch place e arms) = s.Switch' place (written e) (arms_shape arms) (written_arms arms)

  pub written_statements : (parts : Statements) → sb.Row_of-Stmt (count_of (statements_shape parts))
  written_statements stop = sb.end_of-Stmt
  written_statements (first ⨾ rest) = sb.more_of-Stmt (written_statement first) (written_statements rest)

  pub written_cases : (cases : Cases) → sb.Row_of-Case (count_of (cases_shape cases))
  written_cases no_case = sb.end_of-Case
  written_cases (send_case chan e first rest) = sb.more_of-Case (c.Send chan (written e) (written_statement first)) (written_cases rest)
  written_cases (receive_case chan to first rest) = sb.more_of-Case (c.Recv chan (written_target to) (written_statement first)) (written_cases rest)

  pub written_arms : (arms : Arms) → sb.Row_of-Arm (count_of (arms_shape arms))
  written_arms no_arm = sb.end_of-Arm
  written_arms (arm values other body rest) = sb.more_of-Arm values other (written_statement body) (written_arms rest)

-- ---- what is written has the program as its reading

pub read_expression : (e : Expression) → expression (written e) ≡ e
unfolding written expression eb.hidden-the_row-Expr-0 denote.Hole.Carrier.hidden
read_expression (Constant n) = refl
read_expression (Register k) = refl
read_expression (Element k i) = ap (Element k) (read_expression i)
read_expression (Word k i) = ap (Word k) (read_expression i)
read_expression (Signal k) = refl
read_expression (Input k) = refl
read_expression (Unary op a) = ap (Unary op) (read_expression a)
read_expression (Binary op a b) = ap (λ x. Binary op x (expression (written b))) (read_expression a) ∙ ap (Binary op a) (read_expression b)
read_expression (Slice a high low) = ap (λ x. Slice x high low) (read_expression a)
read_expression (Choice c a b) =
    ap (λ x. Choice x (expression (written a)) (expression (written b))) (read_expression c)
    ∙ ap (λ x. Choice c x (expression (written b))) (read_expression a)
    ∙ ap (Choice c a) (read_expression b)

pub read_target : (to : Target) → target (written_target to) ≡ to
unfolding written_target target
read_target (ToRegister k) = refl
read_target (ToElement k i) = ap (ToElement k) (read_expression i)
read_target (ToWord k i) = ap (ToWord k) (read_expression i)
read_target (ToSignal k) = refl

-- two and three parts at once
both : {A B C : Type 0} (f : A → B → C) {a a' : A} {b b' : B} → a ≡ a' → b ≡ b' → f a b ≡ f a' b'
both f p q = λ i. f (p i) (q i)

three : {A B C D : Type 0} (f : A → B → C → D) {a a' : A} {b b' : B} {c c' : C} → a ≡ a' → b ≡ b' → c ≡ c' → f a b c ≡ f a' b' c'
three f p q r = λ i. f (p i) (q i) (r i)

mutual
  unfolding written_statement statement

  pub read_statement : (x : Statement) → statement (written_statement x) ≡ x
  read_statement Skip = refl
  read_statement (Assign place to e) = both (Assign place) (read_target to) (read_expression e)
  read_statement (Delay place) = refl
  read_statement (Send place chan e) = ap (Send place chan) (read_expression e)
  read_statement (Receive place chan to) = ap (Receive place chan) (read_target to)
  read_statement (Prialt place cases) = ap (Prialt place) (read_cases cases)
  read_statement (PrialtElse place cases rest) = both (PrialtElse place) (read_cases cases) (read_statement rest)
  read_statement (Seq place parts) = ap (Seq place) (read_statements parts)
  read_statement (Par place branches) = ap (Par place) (read_statements branches)
  read_statement (If place c a b) = three (If place) (read_expression c) (read_statement a) (read_statement b)
  read_statement (While place c body) = both (While place) (read_expression c) (read_statement body)
  read_statement (DoWhile place body c) = both (DoWhile place) (read_statement body) (read_expression c)
  read_statement (Switch place e arms) = both (Switch place) (read_expression e) (read_arms arms)

  read_statements : (parts : Statements) → statements_in (written_statements parts) ≡ parts
  read_statements stop = refl
  read_statements (first ⨾ rest) = both (λ a b. a ⨾ b) (read_statement first) (read_statements rest)

  read_cases : (cases : Cases) → cases_in (written_cases cases) ≡ cases
  read_cases no_case = refl
  read_cases (send_case chan e first rest) = three (send_case chan) (read_expression e) (read_statement first) (read_cases rest)
  read_cases (receive_case chan to first rest) = three (receive_case chan) (read_target to) (read_statement first) (read_cases rest)

  read_arms : (arms : Arms) → arms_in (written_arms arms) ≡ arms
  read_arms no_arm = refl
  read_arms (arm values other body rest) = both (arm values other) (read_statement body) (read_arms rest)

-- ---- what is written of a reading is what was read

pub target_written : (to : t.Target) → written_target (target to) ≡ to
unfolding written_target target
target_written (tv.Reg k) = refl
target_written (tv.Element k i) = ap (tv.Element k) (written_expression i)
target_written (tv.Word k i) = ap (tv.Word k) (written_expression i)
target_written (tv.Signal k) = refl

-- rows with lists of as many entries, or with their lengths
abbrev StatementRow : Type 0
StatementRow = (shape : List (Unit {0})) × sb.Row_of-Stmt (count_of shape)

abbrev CountedStatements : Type 0
CountedStatements = (n : Count) × sb.Row_of-Stmt n

abbrev counted_statements : Statements → CountedStatements
counted_statements parts = (count_of (statements_shape parts), written_statements parts)

abbrev statement_row : {n : Count} → sb.Row_of-Stmt n → StatementRow
statement_row sb.end_of-Stmt = ([], sb.end_of-Stmt)
statement_row (sb.more_of-Stmt first rest) = (tt ∷ (statement_row rest).0, sb.more_of-Stmt first (statement_row rest).1)

statement_row_is : (m : List (Unit {0})) (row : sb.Row_of-Stmt (count_of m)) → Path StatementRow (statement_row row) (m, row)
statement_row_is [] sb.end_of-Stmt = refl
statement_row_is (u ∷ m) (sb.more_of-Stmt first rest) = ap (λ (r : StatementRow). (tt ∷ r.0, sb.more_of-Stmt first r.1)) (statement_row_is m rest)

-- rows that are one by their lengths are one by their lists
one_statement_row : (parts : Statements) (m : List (Unit {0})) (row : sb.Row_of-Stmt (count_of m)) → Path CountedStatements (counted_statements parts) (count_of m, row)
    → Path StatementRow (statements_shape parts, written_statements parts) (m, row)
one_statement_row parts m row same =
    sym (statement_row_is (statements_shape parts) (written_statements parts)) ∙ ap (λ (r : CountedStatements). statement_row r.1) same ∙ statement_row_is m row

abbrev CaseRow : Type 0
CaseRow = (shape : List (Unit {0})) × sb.Row_of-Case (count_of shape)

abbrev CountedCases : Type 0
CountedCases = (n : Count) × sb.Row_of-Case n

abbrev counted_cases : Cases → CountedCases
counted_cases cases = (count_of (cases_shape cases), written_cases cases)

abbrev case_row : {n : Count} → sb.Row_of-Case n → CaseRow
case_row sb.end_of-Case = ([], sb.end_of-Case)
case_row (sb.more_of-Case first rest) = (tt ∷ (case_row rest).0, sb.more_of-Case first (case_row rest).1)

case_row_is : (m : List (Unit {0})) (row : sb.Row_of-Case (count_of m)) → Path CaseRow (case_row row) (m, row)
case_row_is [] sb.end_of-Case = refl
case_row_is (u ∷ m) (sb.more_of-Case first rest) = ap (λ (r : CaseRow). (tt ∷ r.0, sb.more_of-Case first r.1)) (case_row_is m rest)

-- rows that are one by their lengths are one by their lists
one_case_row : (parts : Cases) (m : List (Unit {0})) (row : sb.Row_of-Case (count_of m)) → Path CountedCases (counted_cases parts) (count_of m, row)
    → Path CaseRow (cases_shape parts, written_cases parts) (m, row)
one_case_row parts m row same =
    sym (case_row_is (cases_shape parts) (written_cases parts)) ∙ ap (λ (r : CountedCases). case_row r.1) same ∙ case_row_is m row

abbrev ArmRow : Type 0
ArmRow = (shape : List (Unit {0})) × sb.Row_of-Arm (count_of shape)

abbrev CountedArms : Type 0
CountedArms = (n : Count) × sb.Row_of-Arm n

abbrev counted_arms : Arms → CountedArms
counted_arms arms = (count_of (arms_shape arms), written_arms arms)

abbrev arm_row : {n : Count} → sb.Row_of-Arm n → ArmRow
arm_row sb.end_of-Arm = ([], sb.end_of-Arm)
arm_row (sb.more_of-Arm values other body rest) = (tt ∷ (arm_row rest).0, sb.more_of-Arm values other body (arm_row rest).1)

arm_row_is : (m : List (Unit {0})) (row : sb.Row_of-Arm (count_of m)) → Path ArmRow (arm_row row) (m, row)
arm_row_is [] sb.end_of-Arm = refl
arm_row_is (u ∷ m) (sb.more_of-Arm values other body rest) = ap (λ (r : ArmRow). (tt ∷ r.0, sb.more_of-Arm values other body r.1)) (arm_row_is m rest)

-- rows that are one by their lengths are one by their lists
one_arm_row : (parts : Arms) (m : List (Unit {0})) (row : sb.Row_of-Arm (count_of m)) → Path CountedArms (counted_arms parts) (count_of m, row)
    → Path ArmRow (arms_shape parts, written_arms parts) (m, row)
one_arm_row parts m row same =
    sym (arm_row_is (arms_shape parts) (written_arms parts)) ∙ ap (λ (r : CountedArms). arm_row r.1) same ∙ arm_row_is m row

mutual
  unfolding written_statement statement

  pub statement_written : (x : Stmt) → written_statement (statement x) ≡ x
  statement_written s.Skip = refl
  statement_written (s.Assign place to e) = both (s.Assign place) (target_written to) (written_expression e)
  statement_written (s.Delay place) = refl
  statement_written (s.Send place chan e) = ap (s.Send place chan) (written_expression e)
  statement_written (s.Recv place chan to) = ap (s.Recv place chan) (target_written to)
  statement_written (s.Prialt' place m cases sb.None') = ap (λ (row : CaseRow). s.Prialt' place row.0 row.1 sb.None') (one_case_row _ m cases (cases_written cases))
  statement_written (s.Prialt' place m cases (sb.Some' p (sb.more_of-Stmt rest sb.end_of-Stmt))) =
      both (λ (row : CaseRow) x. s.Prialt' place row.0 row.1 (sb.Some' p (sb.more_of-Stmt x sb.end_of-Stmt))) (one_case_row _ m cases (cases_written cases)) (statement_written rest)
  statement_written (s.Seq' place m parts) = ap (λ (row : StatementRow). s.Seq' place row.0 row.1) (one_statement_row _ m parts (statements_written parts))
  statement_written (s.Par' place m branches) = ap (λ (row : StatementRow). s.Par' place row.0 row.1) (one_statement_row _ m branches (statements_written branches))
  statement_written (s.If' place c p (sb.more_of-Stmt a sb.end_of-Stmt) q (sb.more_of-Stmt b sb.end_of-Stmt)) =
      three (λ e x y. s.If' place e p (sb.more_of-Stmt x sb.end_of-Stmt) q (sb.more_of-Stmt y sb.end_of-Stmt)) (written_expression c) (statement_written a) (statement_written b)
  statement_written (s.While' place c p (sb.more_of-Stmt body sb.end_of-Stmt)) =
      both (λ e x. s.While' place e p (sb.more_of-Stmt x sb.end_of-Stmt)) (written_expression c) (statement_written body)
  statement_written (s.DoWhile' place p (sb.more_of-Stmt body sb.end_of-Stmt) c) =
      both (λ x e. s.DoWhile' place p (sb.more_of-Stmt x sb.end_of-Stmt) e) (statement_written body) (written_expression c)
  statement_written (s.Switch' place selector m arms) =
      both (λ e (row : ArmRow). s.Switch' place e row.0 row.1) (written_expression selector) (one_arm_row _ m arms (arms_written arms))

  statements_written : {n : Count} (row : sb.Row_of-Stmt n) → Path CountedStatements (counted_statements (statements_in row)) (n, row)
  statements_written sb.end_of-Stmt = refl
  statements_written (sb.more_of-Stmt first rest) =
      both (λ x (row : CountedStatements). (one_more row.0, sb.more_of-Stmt x row.1)) (statement_written first) (statements_written rest)

  cases_written : {n : Count} (row : sb.Row_of-Case n) → Path CountedCases (counted_cases (cases_in row)) (n, row)
  cases_written sb.end_of-Case = refl
  cases_written (sb.more_of-Case (c.Send chan e first) rest) =
      three (λ x y (row : CountedCases). (one_more row.0, sb.more_of-Case (c.Send chan x y) row.1)) (written_expression e) (statement_written first) (cases_written rest)
  cases_written (sb.more_of-Case (c.Recv chan to first) rest) =
      three (λ x y (row : CountedCases). (one_more row.0, sb.more_of-Case (c.Recv chan x y) row.1)) (target_written to) (statement_written first) (cases_written rest)

  arms_written : {n : Count} (row : sb.Row_of-Arm n) → Path CountedArms (counted_arms (arms_in row)) (n, row)
  arms_written sb.end_of-Arm = refl
  arms_written (sb.more_of-Arm values other body rest) =
      both (λ x (row : CountedArms). (one_more row.0, sb.more_of-Arm values other x row.1)) (statement_written body) (arms_written rest)
