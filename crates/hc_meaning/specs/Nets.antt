-- A world that is made of nets: the same as a clock's own but for the instant, which is what the nets of signals and of sends
-- and receives say, and for the words of RAMs and ROMs, which at every index are what the one read port says.
use Rattle.std.specs.Prelude.{◌≡◌, ◌⊎◌, ℕ, List, [], ◌∷◌, Bool, true, None}
use Rattle.hc_core.specs.Program.{Expression}
use Rattle.hc_core.specs.Depends.{Access, accesses}
use Rattle.hc_core.specs.FirstPlace.{first_found}
use Rattle.hc_core.specs.Rules.{by_no_object, accessed_twice, in_an_output, in_a_case}
use Rattle.hc_core.specs.declared.object.Core.{Core}
use Rattle.hc_meaning.specs.Residual.{Residual}
use Rattle.hc_meaning.specs.Value.{World, Instant, number_of}
use Rattle.hc_meaning.specs.Control.{resolved, evaluated}
use Rattle.hc_meaning.specs.Clock.{users, all_writes, outputs}
use Rattle.hc_meaning.specs.Run.{front_of, IsSettled, state_after}
use Rattle.hc_meaning.specs.Uses.{words_used, clock_accesses}

-- S20 isn't broken: no action and no condition accesses a RAM or ROM twice
abbrev pub AccessesApart : Core → Type 0
AccessesApart core = first_found by_no_object accessed_twice core ≡ None

-- S21 isn't broken: no case and no output accesses a RAM or ROM
abbrev pub OffersApart : Core → Type 0
OffersApart core = first_found in_an_output in_a_case core ≡ None

-- x is one of a list
abbrev pub Member : {X : Type 0} → X → List X → Type 0
Member x [] = ⊥
Member x (y ∷ list) = (y ≡ x) ⊎ Member x list

-- a clock's world with another instant and other words
abbrev pub but_for : World → Instant → (ℕ → ℕ → ℕ) → World
but_for v q word = record { kinds = v.kinds; store = v.store; inputs = v.inputs; instant = q; word = word }

-- A use that is listed for a RAM or ROM: the number of its action or condition, its enable, and the number on its index nets.
pub record PortUse : Type 0 where
  pub number : ℕ
  pub enabled : Bool
  pub index : ℕ

-- What the circuits of a clock say of such a world, in its own terms: that its instant is what its own front shows; the uses
-- that are listed for each RAM and ROM, one for each number; that an enabled one is an access of the clock at its index, and
-- each user has one that is enabled; and that where one alone is enabled, the port shows the word at its index.
pub record Wired (v : World) (rest : Residual) (q : Instant) (word : ℕ → ℕ → ℕ) : Type 0 where
  pub agrees : IsSettled (but_for v q word) rest
  pub uses : ℕ → List PortUse
  pub distinct : (k : ℕ) (a b : PortUse) → Member a (uses k) → Member b (uses k) → a.number ≡ b.number → a ≡ b
  pub index : (k : ℕ) (a : PortUse) → Member a (uses k) → a.enabled ≡ true → Member (a.number, a.index) (words_used k (but_for v q word) rest)
  pub enable : (k n : ℕ) → Member n (users k (front_of (but_for v q word) rest) (evaluated (but_for v q word) rest))
      → (a : PortUse) × Member a (uses k) × (a.number ≡ n) × (a.enabled ≡ true)
  pub port : (k : ℕ) (a : PortUse) → Member a (uses k) → a.enabled ≡ true → ((b : PortUse) → Member b (uses k) → b.enabled ≡ true → b ≡ a)
      → (i : ℕ) → word k i ≡ v.word k a.index

-- an expression whose words are all read in the clock
abbrev pub IsUsed : World → Residual → Expression → Type 0
IsUsed v rest e = (a : Access) → Member a (accesses e) → Member a (clock_accesses v rest)

-- The two worlds are one for the clock: what is done in it, and what is behind it.
pub record Identified (v : World) (rest : Residual) (q : Instant) (word : ℕ → ℕ → ℕ) : Type 0 where
  pub instant : q ≡ v.instant
  pub control : resolved (but_for v q word) rest ≡ resolved v rest
  pub conditions : evaluated (but_for v q word) rest ≡ evaluated v rest
  pub values : (e : Expression) → IsUsed v rest e → number_of (but_for v q word) e ≡ number_of v e
  pub writes : all_writes (but_for v q word) (front_of (but_for v q word) rest) ≡ all_writes v (front_of v rest)
  pub next : state_after (but_for v q word) rest ≡ state_after v rest
  pub shows : outputs (but_for v q word) ≡ outputs v
