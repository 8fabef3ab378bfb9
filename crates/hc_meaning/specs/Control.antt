-- Which actions the threads stand at in a clock, and which conditions were evaluated on the way (after the timing of the Handel-C
-- manual; the rule on `prialt` and on loops whose body takes no clock is this project's own).
use Rattle.std.specs.Prelude.{ℕ, List, [], ◌∷◌, ◌++◌, Bool, true, false, not, ◌&&◌, ◌||◌, ◌==◌, if◌then◌else◌, slice_index_or}
use Rattle.std.specs.List.{list_any}
use Rattle.hc_num.specs.Number.{Number}
use Rattle.hc_core.specs.Program.{Expression}
use Rattle.hc_meaning.specs.Residual.{Action, Offer, Sends, Receives, Residual, Skip, Act, Prialt, PrialtElse, Then, Par, If, While, DoWhile, Switch, Branches, ended, ◌∥◌, Cases, no_case, case_of, Arms, no_arm, arm}
use Rattle.hc_meaning.specs.Value.{World, number_of, holds}

-- ---- cases

-- whether the partner of a case is there: a plain receive for a send, a plain send for a receive
abbrev pub is_ready : World → Offer → Bool
is_ready w (Sends chan e) = slice_index_or w.instant.receives chan false
is_ready w (Receives chan t) = slice_index_or w.instant.sends chan false

-- whether a case is ready
abbrev pub some_ready : World → Cases → Bool
some_ready w no_case = false
some_ready w (case_of n offer body rest) = is_ready w offer || some_ready w rest

-- ---- arms

-- whether a selector's number is among the values of an arm
abbrev pub chooses : Number → List Number → Bool
chooses n values = list_any (λ v. v.bits == n.bits) values

-- whether an arm is chosen
abbrev pub is_chosen : Number → Arms → Bool
is_chosen n no_arm = false
is_chosen n (arm values other body rest) = chooses n values || is_chosen n rest

-- ---- control

-- whether nothing is left
abbrev pub is_skip : Residual → Bool
is_skip Skip = true
is_skip _ = false

-- a sequence whose first part is resolved: the second part resolved where nothing of the first is left
abbrev pub followed_by : Residual → Residual → Residual → Residual
followed_by first now later = if is_skip first then now else Then first later

-- a loop whose body is resolved: passed where its condition doesn't hold or its body takes no clock
abbrev pub looped : Bool → Residual → Residual → Residual
looped goes_on body loop = if goes_on && not (is_skip body) then Then body loop else Skip

-- whether all branches are done
abbrev pub all_ended : Branches → Bool
all_ended ended = true
all_ended (first ∥ rest) = is_skip first && all_ended rest

-- branches that are resolved: passed where all are done
abbrev pub together : Branches → Residual
together branches = if all_ended branches then Skip else Par branches

abbrev mutual
  -- The statement with its control resolved: it stands at its next actions, or it is `Skip`.
  pub resolved : World → Residual → Residual
  resolved w Skip = Skip
  resolved w (Act n a) = Act n a
  resolved w (Prialt n cases) = Prialt n cases
  resolved w (PrialtElse n cases other) = if some_ready w cases then PrialtElse n cases other else resolved w other
  resolved w (Then a b) = followed_by (resolved w a) (resolved w b) b
  resolved w (Par branches) = together (all_resolved w branches)
  resolved w (If n c a b) = if holds (number_of w c) then resolved w a else resolved w b
  resolved w (While n c body) = looped (holds (number_of w c)) (resolved w body) (While n c body)
  resolved w (DoWhile body n c) = looped true (resolved w body) (While n c body)
  resolved w (Switch n e arms) = if is_chosen (number_of w e) arms then arm_resolved w (number_of w e) arms else default_resolved w arms

  pub all_resolved : World → Branches → Branches
  all_resolved w ended = ended
  all_resolved w (first ∥ rest) = resolved w first ∥ all_resolved w rest

  -- the first arm that a number chooses
  pub arm_resolved : World → Number → Arms → Residual
  arm_resolved w n no_arm = Skip
  arm_resolved w n (arm values other body rest) = if chooses n values then resolved w body else arm_resolved w n rest

  -- the arm with the label `default`
  pub default_resolved : World → Arms → Residual
  default_resolved w no_arm = Skip
  default_resolved w (arm values other body rest) = if other then resolved w body else default_resolved w rest

-- a condition or selector with its number
pub record Condition : Type 0 where
  pub number : ℕ
  pub value : Expression

abbrev mutual
  -- the conditions that are evaluated while control is resolved
  pub evaluated : World → Residual → List Condition
  evaluated w Skip = []
  evaluated w (Act n a) = []
  evaluated w (Prialt n cases) = []
  evaluated w (PrialtElse n cases other) = if some_ready w cases then [] else evaluated w other
  evaluated w (Then a b) = evaluated w a ++ (if is_skip (resolved w a) then evaluated w b else [])
  evaluated w (Par branches) = all_evaluated w branches
  evaluated w (If n c a b) = record { number = n; value = c } ∷ (if holds (number_of w c) then evaluated w a else evaluated w b)
  evaluated w (While n c body) = record { number = n; value = c } ∷ (if holds (number_of w c) then evaluated w body else [])
  evaluated w (DoWhile body n c) = evaluated w body ++ (if is_skip (resolved w body) then record { number = n; value = c } ∷ [] else [])
  evaluated w (Switch n e arms) = record { number = n; value = e } ∷ (if is_chosen (number_of w e) arms then arm_evaluated w (number_of w e) arms else default_evaluated w arms)

  pub all_evaluated : World → Branches → List Condition
  all_evaluated w ended = []
  all_evaluated w (first ∥ rest) = evaluated w first ++ all_evaluated w rest

  pub arm_evaluated : World → Number → Arms → List Condition
  arm_evaluated w n no_arm = []
  arm_evaluated w n (arm values other body rest) = if chooses n values then evaluated w body else arm_evaluated w n rest

  pub default_evaluated : World → Arms → List Condition
  default_evaluated w no_arm = []
  default_evaluated w (arm values other body rest) = if other then evaluated w body else default_evaluated w rest

-- ---- the front

-- an action that a thread stands at, with its number
pub data Leaf : Type 0 where
  does : ℕ → Action → Leaf
  chooses_from : ℕ → Cases → Leaf

abbrev mutual
  -- the actions that a resolved statement stands at, in text order
  pub front : Residual → List Leaf
  front Skip = []
  front (Act n a) = does n a ∷ []
  front (Prialt n cases) = chooses_from n cases ∷ []
  front (PrialtElse n cases other) = chooses_from n cases ∷ []
  front (Then a b) = front a
  front (Par branches) = all_fronts branches
  front (If n c a b) = []
  front (While n c body) = []
  front (DoWhile body n c) = []
  front (Switch n e arms) = []

  pub all_fronts : Branches → List Leaf
  all_fronts ended = []
  all_fronts (first ∥ rest) = front first ++ all_fronts rest
