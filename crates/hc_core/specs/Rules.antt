-- The static rules over a core, each with the objects and statements that break it, and the first that is broken (this project's
-- own).
use Rattle.std.specs.Prelude.{ℕ, Bool, false, ◌&&◌, ◌||◌, ◌==◌, nat_lt, if◌then◌else◌, List, [], ◌∷◌, ◌++◌, map, Option, Some, None, slice_get}
use Rattle.std.specs.List.{list_any}
use Rattle.hc_num.specs.Number.{Number}
use Rattle.hc_tree.specs.declared.place.Place.{Place}
use Rattle.hc_tree.specs.declared.refusal.Rule.{Rule}
use Rattle.hc_tree.specs.declared.refusal.Rule.TheVariants.{S16, S18, S19, S20, S21, S22}
use Rattle.hc_tree.specs.declared.refusal.Detail.{Detail}
use Rattle.hc_tree.specs.declared.refusal.Detail.TheVariants.{Nothing, Name}
use Rattle.hc_tree.specs.declared.refusal.Refusal.{Refusal}
use Rattle.hc_core.specs.Program.{Statement, Skip, Assign, Delay, Send, Receive, Prialt, PrialtElse, Seq, Par, If, While, DoWhile, Switch, Statements, stop, ◌⨾◌, Cases, no_case, send_case, receive_case, Arms, no_arm, arm}
use Rattle.hc_core.specs.Read.{expression, statement}
use Rattle.hc_core.specs.Zero.{zero}
use Rattle.hc_core.specs.Depends.{Access, accesses, target_accesses, case_accesses}
use Rattle.hc_core.specs.FirstPlace.{first_found}
use Rattle.hc_core.specs.declared.object.Kind.{Kind}
use Rattle.hc_core.specs.declared.object.Kind.TheVariants as kind
use Rattle.hc_core.specs.declared.object.Object.{Object}
use Rattle.hc_core.specs.declared.object.Core.{Core}

-- What a rule finds in an object or a statement that breaks it: the object that it names, if it names one.
abbrev pub Found : Type 0
Found = Option (Option ℕ)

-- a breach without a name, where there is one
abbrev pub nameless : Bool → Found
nameless broken = if broken then Some None else None

-- a breach by an object, where there is one
abbrev pub by_object : Option ℕ → Found
by_object None = None
by_object (Some k) = Some (Some k)

-- a rule that no object breaks, and one that no statement breaks
abbrev pub by_no_object : ℕ → Kind → Found
by_no_object k kind = None

abbrev pub by_no_statement : Statement → Found
by_no_statement s = None

-- ---- numbers of objects

-- the lesser of a number and another one, if there is another
abbrev pub lesser : ℕ → Option ℕ → ℕ
lesser k None = k
lesser k (Some j) = if nat_lt j k then j else k

-- the least of some numbers
abbrev pub least : List ℕ → Option ℕ
least [] = None
least (k ∷ rest) = Some (lesser k (least rest))

abbrev pub is_in : ℕ → List ℕ → Bool
is_in k numbers = list_any (λ j. j == k) numbers

-- the numbers that stand once more behind
abbrev pub repeated : List ℕ → List ℕ
repeated [] = []
repeated (k ∷ rest) = if is_in k rest then k ∷ repeated rest else repeated rest

-- the RAMs and ROMs of accesses, each as often as it is accessed
abbrev pub accessed : List Access → List ℕ
accessed all = map (λ a. a.0) all

-- ---- S16

-- S16: a loop whose body may take no clock
abbrev pub endless : Statement → Found
endless Skip = None
endless (Assign place t e) = None
endless (Delay place) = None
endless (Send place chan e) = None
endless (Receive place chan t) = None
endless (Prialt place cases) = None
endless (PrialtElse place cases rest) = None
endless (Seq place parts) = None
endless (Par place branches) = None
endless (If place c a b) = None
endless (While place c body) = nameless (zero body)
endless (DoWhile place body c) = nameless (zero body)
endless (Switch place e arms) = None

-- ---- S18

-- the channels of all send cases, and of all receive cases, within a statement
abbrev mutual
  pub send_channels : Statement → List ℕ
  send_channels Skip = []
  send_channels (Assign place t e) = []
  send_channels (Delay place) = []
  send_channels (Send place chan e) = []
  send_channels (Receive place chan t) = []
  send_channels (Prialt place cases) = cases_send cases
  send_channels (PrialtElse place cases rest) = cases_send cases ++ send_channels rest
  send_channels (Seq place parts) = all_send parts
  send_channels (Par place branches) = all_send branches
  send_channels (If place c a b) = send_channels a ++ send_channels b
  send_channels (While place c body) = send_channels body
  send_channels (DoWhile place body c) = send_channels body
  send_channels (Switch place e arms) = arms_send arms

  pub all_send : Statements → List ℕ
  all_send stop = []
  all_send (first ⨾ rest) = send_channels first ++ all_send rest

  pub cases_send : Cases → List ℕ
  cases_send no_case = []
  cases_send (send_case chan e first rest) = chan ∷ send_channels first ++ cases_send rest
  cases_send (receive_case chan t first rest) = send_channels first ++ cases_send rest

  pub arms_send : Arms → List ℕ
  arms_send no_arm = []
  arms_send (arm values other body rest) = send_channels body ++ arms_send rest

abbrev mutual
  pub receive_channels : Statement → List ℕ
  receive_channels Skip = []
  receive_channels (Assign place t e) = []
  receive_channels (Delay place) = []
  receive_channels (Send place chan e) = []
  receive_channels (Receive place chan t) = []
  receive_channels (Prialt place cases) = cases_receive cases
  receive_channels (PrialtElse place cases rest) = cases_receive cases ++ receive_channels rest
  receive_channels (Seq place parts) = all_receive parts
  receive_channels (Par place branches) = all_receive branches
  receive_channels (If place c a b) = receive_channels a ++ receive_channels b
  receive_channels (While place c body) = receive_channels body
  receive_channels (DoWhile place body c) = receive_channels body
  receive_channels (Switch place e arms) = arms_receive arms

  pub all_receive : Statements → List ℕ
  all_receive stop = []
  all_receive (first ⨾ rest) = receive_channels first ++ all_receive rest

  pub cases_receive : Cases → List ℕ
  cases_receive no_case = []
  cases_receive (send_case chan e first rest) = receive_channels first ++ cases_receive rest
  cases_receive (receive_case chan t first rest) = chan ∷ receive_channels first ++ cases_receive rest

  pub arms_receive : Arms → List ℕ
  arms_receive no_arm = []
  arms_receive (arm values other body rest) = receive_channels body ++ arms_receive rest

-- S18: a channel that stands in send cases and in receive cases of a statement
abbrev pub both_cases : Statement → ℕ → Kind → Found
both_cases main k (kind.Reg w s init) = None
both_cases main k (kind.Array w s n init) = None
both_cases main k (kind.Ram w s n init) = None
both_cases main k (kind.Rom w s n init) = None
both_cases main k (kind.Signal w s unset) = None
both_cases main k (kind.Chan w s queue) = if is_in k (send_channels main) && is_in k (receive_channels main) then Some (Some k) else None
both_cases main k (kind.Input w s pins) = None
both_cases main k (kind.Output w s pins value) = None

-- ---- S19

-- the channels of the cases of one `prialt`, without what stands in arms
abbrev pub channels : Cases → List ℕ
channels no_case = []
channels (send_case chan e first rest) = chan ∷ channels rest
channels (receive_case chan t first rest) = chan ∷ channels rest

-- S19: a channel that stands in two cases of one `prialt`
abbrev pub two_cases : Statement → Found
two_cases Skip = None
two_cases (Assign place t e) = None
two_cases (Delay place) = None
two_cases (Send place chan e) = None
two_cases (Receive place chan t) = None
two_cases (Prialt place cases) = by_object (least (repeated (channels cases)))
two_cases (PrialtElse place cases rest) = by_object (least (repeated (channels cases)))
two_cases (Seq place parts) = None
two_cases (Par place branches) = None
two_cases (If place c a b) = None
two_cases (While place c body) = None
two_cases (DoWhile place body c) = None
two_cases (Switch place e arms) = None

-- ---- S20

-- the RAMs and ROMs that one action, the arms of a `prialt` not counted, or one condition accesses
abbrev pub own_accesses : Statement → List Access
own_accesses Skip = []
own_accesses (Assign place t e) = target_accesses t ++ accesses e
own_accesses (Delay place) = []
own_accesses (Send place chan e) = accesses e
own_accesses (Receive place chan t) = target_accesses t
own_accesses (Prialt place cases) = case_accesses cases
own_accesses (PrialtElse place cases rest) = case_accesses cases
own_accesses (Seq place parts) = []
own_accesses (Par place branches) = []
own_accesses (If place c a b) = accesses c
own_accesses (While place c body) = accesses c
own_accesses (DoWhile place body c) = accesses c
own_accesses (Switch place e arms) = accesses e

-- S20: a RAM or ROM that is accessed twice in one action or one condition
abbrev pub accessed_twice : Statement → Found
accessed_twice s = by_object (least (repeated (accessed (own_accesses s))))

-- ---- S21

-- S21: a RAM or ROM in the value or target of a case, its arm not counted
abbrev pub in_a_case : Statement → Found
in_a_case Skip = None
in_a_case (Assign place t e) = None
in_a_case (Delay place) = None
in_a_case (Send place chan e) = None
in_a_case (Receive place chan t) = None
in_a_case (Prialt place cases) = by_object (least (accessed (case_accesses cases)))
in_a_case (PrialtElse place cases rest) = by_object (least (accessed (case_accesses cases)))
in_a_case (Seq place parts) = None
in_a_case (Par place branches) = None
in_a_case (If place c a b) = None
in_a_case (While place c body) = None
in_a_case (DoWhile place body c) = None
in_a_case (Switch place e arms) = None

-- S21: a RAM or ROM in the expression of an output
abbrev pub in_an_output : ℕ → Kind → Found
in_an_output k (kind.Reg w s init) = None
in_an_output k (kind.Array w s n init) = None
in_an_output k (kind.Ram w s n init) = None
in_an_output k (kind.Rom w s n init) = None
in_an_output k (kind.Signal w s unset) = None
in_an_output k (kind.Chan w s queue) = None
in_an_output k (kind.Input w s pins) = None
in_an_output k (kind.Output w s pins value) = by_object (least (accessed (accesses (expression value))))

-- ---- S22

-- the values of all labels of a `switch`, in text order
abbrev pub labels : Arms → List Number
labels no_arm = []
labels (arm values other body rest) = values ++ labels rest

-- whether a number is among others of its type
abbrev pub is_among : Number → List Number → Bool
is_among n [] = false
is_among n (m ∷ rest) = (m.bits == n.bits) || is_among n rest

abbrev pub has_twice : List Number → Bool
has_twice [] = false
has_twice (n ∷ rest) = is_among n rest || has_twice rest

-- S22: a `switch` that has a value twice among its labels, which have one type in a sound core
abbrev pub repeats_label : Statement → Found
repeats_label Skip = None
repeats_label (Assign place t e) = None
repeats_label (Delay place) = None
repeats_label (Send place chan e) = None
repeats_label (Receive place chan t) = None
repeats_label (Prialt place cases) = None
repeats_label (PrialtElse place cases rest) = None
repeats_label (Seq place parts) = None
repeats_label (Par place branches) = None
repeats_label (If place c a b) = None
repeats_label (While place c body) = None
repeats_label (DoWhile place body c) = None
repeats_label (Switch place e arms) = nameless (has_twice (labels arms))

-- ---- the first that is broken

-- the name of an object that a refusal names
abbrev pub name_of : Option Object → Detail
name_of None = Nothing
name_of (Some o) = Name o.name

abbrev pub detail_of : List Object → Option ℕ → Detail
detail_of objects None = Nothing
detail_of objects (Some k) = name_of (slice_get objects k)

abbrev pub refusal_of : List Object → Rule → Place → Option ℕ → Refusal
refusal_of objects rule place named = record { rule = rule; place = place; detail = detail_of objects named }

-- the refusal of a rule that is broken, else that of the rules behind it
abbrev pub or_else : List Object → Rule → Option (Place × Option ℕ) → Option Refusal → Option Refusal
or_else objects rule (Some found) behind = Some (refusal_of objects rule found.0 found.1)
or_else objects rule None behind = behind

-- the first of these rules that a core breaks, at its first place
unfoldable pub first_broken : Core → Option Refusal
first_broken core =
    or_else core.objects S16 (first_found by_no_object endless core)
    (or_else core.objects S18 (first_found (both_cases (statement core.main)) by_no_statement core)
    (or_else core.objects S19 (first_found by_no_object two_cases core)
    (or_else core.objects S20 (first_found by_no_object accessed_twice core)
    (or_else core.objects S21 (first_found in_an_output in_a_case core)
    (or_else core.objects S22 (first_found by_no_object repeats_label core)
    None)))))
