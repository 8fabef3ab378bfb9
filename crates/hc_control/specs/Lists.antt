-- The bits of the branches of a `par` and of the arms of a `switch`, and how a circuit joins them.
use Rattle.std.specs.Prelude.{◌≡◌, ℕ, zero, suc, List, [], ◌∷◌, ◌++◌, map, Bool, true, false, not, ◌&&◌, ◌||◌, if◌then◌else◌, Some, slice_get}
use Rattle.hc_num.specs.Number.{Number}
use Rattle.hc_meaning.specs.Residual.{Branches, ended, ◌∥◌, Arms, no_arm, arm}
use Rattle.hc_meaning.specs.Control.{Condition, Leaf, chooses, is_chosen}
use Rattle.hc_control.specs.Token.{Clocks, Follows}

-- the bits of a part by the clock, and its actions and conditions whose enables hold
pub record Wires : Type 0 where
  pub pass : ℕ → Bool
  pub finish : ℕ → Bool
  pub enabled : ℕ → List Leaf
  pub tested : ℕ → List Condition

-- the wires of each branch follow it; all branches have one start
abbrev pub FollowAll : Clocks → (ℕ → Type 0) → (ℕ → Bool) → Branches → List Wires → Type 0
FollowAll c Good start ended [] = Unit {0}
FollowAll c Good start ended (x ∷ xs) = ⊥
FollowAll c Good start (s ∥ rest) [] = ⊥
FollowAll c Good start (s ∥ rest) (x ∷ xs) = Follows c Good s start x.pass x.finish x.enabled x.tested × FollowAll c Good start rest xs

-- all branches are passed at once
abbrev pub all_pass : List Wires → ℕ → Bool
all_pass [] t = true
all_pass (x ∷ xs) t = x.pass t && all_pass xs t

-- each branch ends in the clock, or ended before
abbrev pub all_done : List Wires → (ℕ → Bool) → ℕ → Bool
all_done [] latch t = true
all_done (x ∷ xs) latch t = (x.finish t || latch zero) && all_done xs (λ i. latch (suc i)) t

abbrev pub are_some : List Wires → Bool
are_some [] = false
are_some (x ∷ xs) = true

-- the enabled actions of the branches, one branch after the other
abbrev pub all_enabled : List Wires → ℕ → List Leaf
all_enabled [] t = []
all_enabled (x ∷ xs) t = x.enabled t ++ all_enabled xs t

-- the enabled conditions of the branches, one branch after the other
abbrev pub all_tested : List Wires → ℕ → List Condition
all_tested [] t = []
all_tested (x ∷ xs) t = x.tested t ++ all_tested xs t

-- How a `par` joins its branches: a latch, by clock and branch, holds that the branch has ended and others go on.
pub record IsJoined (wires : List Wires) (start pass finish : ℕ → Bool) (latch : ℕ → ℕ → Bool) : Type 0 where
  pub passes : (t : ℕ) → pass t ≡ all_pass wires t
  pub finishes : (t : ℕ) → finish t ≡ (are_some wires && all_done wires (latch t) t)
  pub first : (i : ℕ) → latch zero i ≡ false
  pub next : (t i : ℕ) (x : Wires) → slice_get wires i ≡ Some x
      → latch (suc t) i ≡ ((start t && (x.pass t && not (pass t))) || ((x.finish t || latch t i) && not (finish t)))

-- ---- arms

-- the bits of an arm by the clock, and its actions and conditions whose enables hold
pub record ArmWires : Type 0 where
  pub chosen : ℕ → Bool
  pub start : ℕ → Bool
  pub pass : ℕ → Bool
  pub finish : ℕ → Bool
  pub enabled : ℕ → List Leaf
  pub tested : ℕ → List Condition

-- the wires of each arm follow it
abbrev pub FollowArms : Clocks → (ℕ → Type 0) → Arms → List ArmWires → Type 0
FollowArms c Good no_arm [] = Unit {0}
FollowArms c Good no_arm (x ∷ xs) = ⊥
FollowArms c Good (arm values other body rest) [] = ⊥
FollowArms c Good (arm values other body rest) (x ∷ xs) = Follows c Good body x.start x.pass x.finish x.enabled x.tested × FollowArms c Good rest xs

-- for each arm no
abbrev pub none_taken : Arms → List Bool
none_taken no_arm = []
none_taken (arm values other body rest) = false ∷ none_taken rest

-- for each arm whether it is the first that a selector's number chooses
abbrev pub first_chosen : Number → Arms → List Bool
first_chosen n no_arm = []
first_chosen n (arm values other body rest) = if chooses n values then true ∷ none_taken rest else false ∷ first_chosen n rest

-- for each arm whether it is the one with the label `default`
abbrev pub first_default : Arms → List Bool
first_default no_arm = []
first_default (arm values other body rest) = if other then true ∷ none_taken rest else false ∷ first_default rest

-- for each arm whether a selector's number takes it
abbrev pub taken_arms : Number → Arms → List Bool
taken_arms n arms = if is_chosen n arms then first_chosen n arms else first_default arms

-- the pass of the chosen arm; where none is chosen the whole is passed
abbrev pub chosen_pass : List ArmWires → ℕ → Bool
chosen_pass [] t = true
chosen_pass (x ∷ xs) t = if x.chosen t then x.pass t else chosen_pass xs t

-- a chosen arm is passed
abbrev pub some_pass : List ArmWires → ℕ → Bool
some_pass [] t = false
some_pass (x ∷ xs) t = (x.chosen t && x.pass t) || some_pass xs t

abbrev pub some_chosen : List ArmWires → ℕ → Bool
some_chosen [] t = false
some_chosen (x ∷ xs) t = x.chosen t || some_chosen xs t

abbrev pub some_finish : List ArmWires → ℕ → Bool
some_finish [] t = false
some_finish (x ∷ xs) t = x.finish t || some_finish xs t

-- the enabled actions of the arms, one arm after the other
abbrev pub arms_enabled : List ArmWires → ℕ → List Leaf
arms_enabled [] t = []
arms_enabled (x ∷ xs) t = x.enabled t ++ arms_enabled xs t

-- the enabled conditions of the arms, one arm after the other
abbrev pub arms_tested : List ArmWires → ℕ → List Condition
arms_tested [] t = []
arms_tested (x ∷ xs) t = x.tested t ++ arms_tested xs t

-- How a `switch` joins its arms, where `taken` tells of each arm in a clock whether it is the one that is taken.
pub record IsSwitched (Good : ℕ → Type 0) (taken : ℕ → List Bool) (wires : List ArmWires) (start pass finish : ℕ → Bool) : Type 0 where
  pub chooses : (t : ℕ) → Good t → map (λ x. x.chosen t) wires ≡ taken t
  pub starts : (t i : ℕ) (x : ArmWires) → slice_get wires i ≡ Some x → x.start t ≡ (start t && x.chosen t)
  pub passes : (t : ℕ) → Good t → pass t ≡ chosen_pass wires t
  pub finishes : (t : ℕ) → finish t ≡ some_finish wires t
