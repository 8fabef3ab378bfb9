-- The actions and conditions of what is left, with their numbers, in text order.
use Rattle.std.specs.Prelude.{◌≡◌, ◌≤◌, ℕ, List, [], ◌∷◌, ◌++◌, length}
use Rattle.hc_core.specs.Program.{Expression}
use Rattle.hc_core.specs.Depends.{Access, accesses}
use Rattle.hc_meaning.specs.Residual.{Action, Offer, Residual, Skip, Act, Prialt, PrialtElse, Then, Par, If, While, DoWhile, Switch, Branches, ended, ◌∥◌, Cases, no_case, case_of, Arms, no_arm, arm}
use Rattle.hc_meaning.specs.Uses.{indexes}
use Rattle.hc_meaning.specs.Clock.{action_accesses}
use Rattle.hc_meaning.specs.Nets.{Member}
use Rattle.hc_meaning.proofs.Sets.{offer_accesses}

pub data Mark : Type 0 where
  Does : Action → Mark
  Tests : Expression → Mark
  Offers : Offer → Mark

abbrev mutual
  pub marks : Residual → List (ℕ × Mark)
  marks Skip = []
  marks (Act n a) = (n, Does a) ∷ []
  marks (Prialt n cases) = case_marks cases
  marks (PrialtElse n cases other) = case_marks cases ++ marks other
  marks (Then a b) = marks a ++ marks b
  marks (Par branches) = all_marks branches
  marks (If n c a b) = (n, Tests c) ∷ (marks a ++ marks b)
  marks (While n c body) = (n, Tests c) ∷ marks body
  marks (DoWhile body n c) = marks body ++ ((n, Tests c) ∷ [])
  marks (Switch n e arms) = (n, Tests e) ∷ arm_marks arms

  pub all_marks : Branches → List (ℕ × Mark)
  all_marks ended = []
  all_marks (first ∥ rest) = marks first ++ all_marks rest

  pub case_marks : Cases → List (ℕ × Mark)
  case_marks no_case = []
  case_marks (case_of n offer body rest) = (n, Offers offer) ∷ (marks body ++ case_marks rest)

  pub arm_marks : Arms → List (ℕ × Mark)
  arm_marks no_arm = []
  arm_marks (arm values other body rest) = marks body ++ arm_marks rest

abbrev pub mark_accesses : Mark → List Access
mark_accesses (Does a) = action_accesses a
mark_accesses (Tests e) = accesses e
mark_accesses (Offers o) = []

-- no action or condition accesses a RAM or ROM twice
abbrev pub AccessOnce : Residual → Type 0
AccessOnce r = (x : ℕ × Mark) → Member x (marks r) → (k : ℕ) → length (indexes k (mark_accesses x.1)) ≤ 1

-- the cases of a `prialt`, without their arms
abbrev pub case_offers : Cases → List (ℕ × Mark)
case_offers no_case = []
case_offers (case_of n offer body rest) = (n, Offers offer) ∷ case_offers rest

-- no case of a `prialt` accesses a RAM or ROM
abbrev pub reaches_no_word : Mark → Type 0
reaches_no_word (Does a) = Unit {0}
reaches_no_word (Tests e) = Unit {0}
reaches_no_word (Offers o) = offer_accesses o ≡ []

abbrev pub OffersReadNothing : Residual → Type 0
OffersReadNothing r = (x : ℕ × Mark) → Member x (marks r) → reaches_no_word x.1
