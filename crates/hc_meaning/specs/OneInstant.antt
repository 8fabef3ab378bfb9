-- Exactly one instant agrees in each state that clean clocks reach.
use Rattle.std.specs.Prelude.{◌≡◌, ℕ, List, None}
use Rattle.hc_core.specs.Typed.{kinds_of}
use Rattle.hc_core.specs.FirstPlace.{first_found}
use Rattle.hc_core.specs.Rules.{by_no_object, endless}
use Rattle.hc_core.specs.declared.object.Core.{Core}
use Rattle.hc_meaning.specs.Run.{Run, world_of, IsSettled}

-- One thing has the property, and no other.
pub record ExactlyOne {A : Type 0} (P : A → Type 0) : Type 0 where
  pub one : A
  pub has : P one
  pub only : (other : A) → P other → other ≡ one

-- in the clock after n clean ones, on any inputs and whether or not it is clean itself, exactly one instant agrees
abbrev pub HasOneInstant : Core → Type 0
HasOneInstant core = (trace : ℕ → List ℕ) (n : ℕ) (run : Run core trace n) (inputs : List ℕ)
    → ExactlyOne (λ r. IsSettled (world_of (kinds_of core.objects) inputs (run.state n) r) (run.state n).rest)

-- S16 isn't broken: no loop has a body that may take no clock
abbrev pub LoopsWait : Core → Type 0
LoopsWait core = first_found by_no_object endless core ≡ None
