-- The choice of a `prialt`, clock by clock, and what its circuit adds to a builder (this project's own).
use Rattle.std.specs.Prelude.{◌≡◌, ◌<◌, ◌+◌, ◌*◌, ℕ, suc, List, [], ◌∷◌, length, take, Bool, true, false, not, ◌&&◌, ◌||◌, if◌then◌else◌, slice_index, All}
use Rattle.hc_net.specs.Run.{Trace}
use Rattle.hc_net.specs.Circuit.{Circuit, History, Explains}
use Rattle.hc_token.specs.Control.{Reaches}
use Rattle.hc_token.specs.Part.{AddsPart}
use Rattle.hc_prialt.specs.declared.choice.Pick.{Pick}

-- whether none of these nets is 1
abbrev pub none_ready : (ℕ → Bool) → List ℕ → Bool
none_ready v [] = true
none_ready v (k ∷ ks) = not (v k) && none_ready v ks

-- whether case i is ready and none before it is
abbrev pub first_ready : (ℕ → Bool) → List ℕ → ℕ → Bool
first_ready v ready i = v (slice_index ready i) && none_ready v (take i ready)

-- A `prialt` stands in a clock in which it starts or waits. In a clock in which it stands, the first ready case is taken and no
-- other; its arm starts in the next clock. Where none is ready, the default starts in the same clock, or the `prialt` waits for
-- the next one where it has no default.
pub record PicksFirst (start : ℕ) (ready : List ℕ) (has_default : Bool) (p : Pick) (h : History) : Type 0 where
  pub waits : ℕ → Bool
  pub first : waits 0 ≡ false
  pub later : (t : ℕ) → waits (suc t) ≡ (not has_default && (h t p.active && none_ready (h t) ready))
  pub active : (t : ℕ) → h t p.active ≡ (h t start || waits t)
  pub taken : (t i : ℕ) → i < length ready → h t (slice_index p.taken i) ≡ (h t p.active && first_ready (h t) ready i)
  pub default_start : (t : ℕ) → h t p.default_start ≡ (has_default && (h t p.active && none_ready (h t) ready))
  pub unstarted : (i : ℕ) → i < length ready → h 0 (slice_index p.arm_starts i) ≡ false
  pub arm_starts : (t i : ℕ) → i < length ready → h (suc t) (slice_index p.arm_starts i) ≡ h t (slice_index p.taken i)

-- the tokens of a `prialt` of n cases: one for each arm, and one in which it waits where it has no default
abbrev pub pick_tokens : ℕ → Bool → ℕ
pick_tokens n has_default = if has_default then n else n + 1

-- A choice is added, of at most two gates for each case and two more. What it stands by reaches the start and flip-flops alone,
-- and what it takes the ready cases too.
pub record MakesPick (token start : ℕ) (ready : List ℕ) (has_default : Bool) (old new : Circuit) (p : Pick) : Type 0 where
  pub adds : AddsPart (2 * length ready + 2) token (pick_tokens (length ready) has_default) [] old new
  pub taken_count : length p.taken ≡ length ready
  pub arm_count : length p.arm_starts ≡ length ready
  pub there : All (λ k. k < length new.nodes) (p.active ∷ p.default_start ∷ [])
  pub taken_there : All (λ k. k < length new.nodes) p.taken
  pub arms_there : All (λ k. k < length new.nodes) p.arm_starts
  pub active : Reaches new.nodes (start ∷ []) p.active
  pub default_start : Reaches new.nodes (start ∷ ready) p.default_start
  pub taken : All (Reaches new.nodes (start ∷ ready)) p.taken
  pub arm_starts : All (Reaches new.nodes []) p.arm_starts
  pub value : (trace : Trace) (h : History) → Explains new.nodes trace h → PicksFirst start ready has_default p h
