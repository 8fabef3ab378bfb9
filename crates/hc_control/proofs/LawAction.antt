-- An action that each clock completes.
use Rattle.std.proofs.Common.{◌≡◌, ℕ, zero, suc, List, [], ◌∷◌, Bool, true, false, if◌then◌else◌, Option, Some, None, refl, sym, ◌∙◌}
use Rattle.hc_meaning.specs.Residual.{Action, Residual, Skip, Act}
use Rattle.hc_meaning.specs.Value.{World}
use Rattle.hc_meaning.specs.Control.{front, Leaf, does}
use Rattle.hc_meaning.specs.Clock.{is_completed}
use Rattle.hc_control.specs.Token.{Clocks, current, held_behind, token_at, ends, asked, SameMembers, Follows}
use Rattle.hc_control.proofs.Members.{same_refl}

-- what is left of an action at an edge: itself completed, where it stood in the clock before
abbrev completed : Bool → Option Residual
completed true = Some Skip
completed false = None

abbrev started_before : (ℕ → Bool) → ℕ → Bool
started_before start zero = false
started_before start (suc t) = start t

acted_behind : (w : World) (leaves : List Leaf) (n : ℕ) (a : Action) (start before : Bool) → is_completed w leaves a ≡ true
    → held_behind w leaves (current w (Act n a) start (completed before)) ≡ completed start
acted_behind w leaves n a true before is = rw is refl
acted_behind w leaves n a false true is = refl
acted_behind w leaves n a false false is = refl

acted_at : (c : Clocks) (n : ℕ) (a : Action) (start : ℕ → Bool) → ((t : ℕ) → is_completed (c.world t) (c.leaves t) a ≡ true)
    → (t : ℕ) → token_at c (Act n a) start t ≡ completed (started_before start t)
acted_at c n a start is zero = refl
acted_at c n a start is (suc t) = rw (acted_at c n a start is t) (acted_behind (c.world t) (c.leaves t) n a (start t) (started_before start t) (is t))

acted_ends : (w : World) (before : Bool) → ends w (completed before) ≡ before
acted_ends w true = refl
acted_ends w false = refl

acted_front : (w : World) (n : ℕ) (a : Action) (start before : Bool)
    → (if start then does n a ∷ [] else []) ≡ front (current w (Act n a) start (completed before))
acted_front w n a true before = refl
acted_front w n a false true = refl
acted_front w n a false false = refl

acted_asked : (w : World) (n : ℕ) (a : Action) (start before : Bool) → SameMembers [] (asked w (Act n a) start (completed before))
acted_asked w n a true true = same_refl []
acted_asked w n a true false = same_refl []
acted_asked w n a false true = same_refl []
acted_asked w n a false false = same_refl []

pub follows_act : (c : Clocks) (Good : ℕ → Type 0) (n : ℕ) (a : Action) (start pass finish : ℕ → Bool)
    → ((t : ℕ) → is_completed (c.world t) (c.leaves t) a ≡ true) → ((t : ℕ) → pass t ≡ false) → finish zero ≡ false → ((t : ℕ) → finish (suc t) ≡ start t)
    → Follows c Good (Act n a) start pass finish (λ t. if start t then does n a ∷ [] else []) (λ t. [])
follows_act c Good n a start pass finish completes passes first next = record {
  passes = λ t before good is. passes t;
  finishes = λ t before good. rw (acted_at c n a start completes t) (finishes t ∙ sym (acted_ends (c.world t) (started_before start t)));
  enables = λ t before good fair. rw (acted_at c n a start completes t) (acted_front (c.world t) n a (start t) (started_before start t));
  tests = λ t before good fair. rw (acted_at c n a start completes t) (acted_asked (c.world t) n a (start t) (started_before start t));
}
  where
    finishes : (t : ℕ) → finish t ≡ started_before start t
    finishes zero = first
    finishes (suc t) = next t
