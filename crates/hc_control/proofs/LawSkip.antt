-- A statement that takes no clock.
use Rattle.std.proofs.Common.{◌≡◌, ℕ, zero, suc, List, [], Bool, true, false, None, refl}
use Rattle.hc_meaning.specs.Residual.{Skip}
use Rattle.hc_meaning.specs.Value.{World}
use Rattle.hc_meaning.specs.Control.{Leaf}
use Rattle.hc_control.specs.Token.{Clocks, current, held_behind, token_at, asked, SameMembers, Follows}
use Rattle.hc_control.proofs.Members.{same_refl}

idle_now : (w : World) (start : Bool) → current w Skip start None ≡ Skip
idle_now w true = refl
idle_now w false = refl

idle_behind : (w : World) (leaves : List Leaf) (start : Bool) → held_behind w leaves (current w Skip start None) ≡ None
idle_behind w leaves true = refl
idle_behind w leaves false = refl

stands_nowhere : (c : Clocks) (start : ℕ → Bool) (t : ℕ) → token_at c Skip start t ≡ None
stands_nowhere c start zero = refl
stands_nowhere c start (suc t) = rw (stands_nowhere c start t) (idle_behind (c.world t) (c.leaves t) (start t))

idle_asked : (w : World) (start : Bool) → SameMembers [] (asked w Skip start None)
idle_asked w true = same_refl []
idle_asked w false = same_refl []

pub follows_skip : (c : Clocks) (Good : ℕ → Type 0) (start pass finish : ℕ → Bool) → ((t : ℕ) → pass t ≡ true) → ((t : ℕ) → finish t ≡ false)
    → Follows c Good Skip start pass finish (λ t. []) (λ t. [])
follows_skip c Good start pass finish passes finishes = record {
  passes = λ t before good is. passes t;
  finishes = λ t before good. rw (stands_nowhere c start t) (finishes t);
  enables = λ t before good fair. rw (stands_nowhere c start t, idle_now (c.world t) (start t)) refl;
  tests = λ t before good fair. rw (stands_nowhere c start t) (idle_asked (c.world t) (start t));
}
