-- What a form gives, or the first rule that it breaks, with what is said beside the place.
use Rattle.std.specs.Prelude.{◌≡◌, Bool, true, false, ◌==◌, ℕ, if◌then◌else◌, Result, Ok, Err}
use Rattle.hc_tree.specs.declared.place.Place.{Place}
use Rattle.hc_tree.specs.declared.refusal.Rule.{Rule}
use Rattle.hc_tree.specs.declared.refusal.Rule.TheVariants.{S9, S10}
use Rattle.hc_tree.specs.declared.refusal.Detail.{Detail}
use Rattle.hc_tree.specs.declared.refusal.Detail.TheVariants.{Nothing, Pair}
use Rattle.hc_tree.specs.declared.refusal.FrontErr.{FrontErr}
use Rattle.hc_tree.specs.declared.refusal.FrontErr.TheVariants.{Refused, NoMemory}
use Rattle.hc_tree.specs.declared.refusal.Refusal.{Refusal}
use Rattle.hc_num.specs.Number.{Number}
use Rattle.hc_width.specs.Operand.{Operand, operand}
use Rattle.hc_width.specs.declared.value.Value.{Value}

pub data Judged (A : Type 0) : Type 0 where
  Gives : A → Judged A
  Breaks : Rule → Detail → Judged A

-- a rule that holds, or is the one that is broken; the rules behind it are judged where it holds
abbrev pub unless : {A : Type 0} → Bool → Rule → Judged A → Judged A
unless broken rule other = if broken then Breaks rule Nothing else other

-- two widths that have to be equal
abbrev pub equal_widths : {A : Type 0} → ℕ → ℕ → Judged A → Judged A
equal_widths w v other = if w == v then other else Breaks S9 (Pair w v)

-- two signs that have to be equal
abbrev pub equal_signs : {A : Type 0} → Bool → Bool → Judged A → Judged A
equal_signs true true other = other
equal_signs false false other = other
equal_signs _ _ other = Breaks S10 Nothing

-- the answer of a call at a place
abbrev pub Answers : Judged Operand → Place → Result Value FrontErr → Type 0
Answers judged at (Ok v) = judged ≡ Gives (operand v)
Answers judged at (Err (Refused r)) = (judged ≡ Breaks r.rule r.detail) × (r.place ≡ at)
Answers judged at (Err NoMemory) = Unit {0}

-- the answer of a call that takes no memory, at a place
abbrev pub Finds : {A : Type 0} → Judged A → Place → Result A Refusal → Type 0
Finds judged at (Ok a) = judged ≡ Gives a
Finds judged at (Err r) = (judged ≡ Breaks r.rule r.detail) × (r.place ≡ at)

-- The answer of a test at a place: where it passes, a form is judged by what comes behind the test.
abbrev pub Passes : Judged Operand → Judged Operand → Place → Result (Unit {0}) Refusal → Type 0
Passes judged behind at (Ok _) = judged ≡ behind
Passes judged behind at (Err r) = (judged ≡ Breaks r.rule r.detail) × (r.place ≡ at)

-- The answer of a call at a place that finds a number, of which what is judged is made.
abbrev pub FindsBy : Judged Operand → (Number → Operand) → Place → Result Number Refusal → Type 0
FindsBy judged made at (Ok n) = judged ≡ Gives (made n)
FindsBy judged made at (Err r) = (judged ≡ Breaks r.rule r.detail) × (r.place ≡ at)
