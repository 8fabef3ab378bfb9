-- A run goes on by a clean clock.
use Rattle.std.proofs.Common.{◌≡◌, ◌<◌, ◌≤◌, ◌⊎◌, inl, inr, ℕ, suc, List, None, refl, ◌∙◌, subst, arith}
use Rattle.std.specs.Prelude.{nat_lt, if◌then◌else◌}
use Rattle.std.proofs.lemmas.Bool.{lt-ltb, le-ltb, cases_lt}
use Rattle.hc_core.specs.Typed.{kinds_of}
use Rattle.hc_core.specs.declared.object.Core.{Core}
use Rattle.hc_meaning.specs.Clock.{outputs}
use Rattle.hc_meaning.specs.Run.{State, Settled, Clock, Run, AreInputs, world_in, conflict, state_after}

-- A run of one clock more, with the states of the one before and that behind its last clock.
module _ (core : Core) (trace : ℕ → List ℕ) (n : ℕ) (run : Run core trace n) (settled : Settled (kinds_of core.objects) (trace n) (run.state n)) where
  abbrev next : State
  next = state_after (world_in settled) (run.state n).rest

  abbrev state_at : ℕ → State
  state_at t = if nat_lt n t then next else run.state t

  abbrev shown_at : ℕ → List ℕ
  shown_at t = if nat_lt t n then run.shown t else outputs (world_in settled)

  early : (t : ℕ) → t ≤ n → state_at t ≡ run.state t
  early t h = let e = le-ltb n t h in rw e refl

  last : state_at (suc n) ≡ next
  last = let e = lt-ltb n (suc n) (omega arith) in rw e refl

  shown_early : (t : ℕ) → t < n → shown_at t ≡ run.shown t
  shown_early t h = let e = lt-ltb t n h in rw e refl

  shown_last : shown_at n ≡ outputs (world_in settled)
  shown_last = let e = le-ltb n n (omega arith) in rw e refl

  clock_at : conflict (world_in settled) (run.state n).rest ≡ None → (t : ℕ) → t < suc n → Clock (kinds_of core.objects) (trace t) (state_at t) (state_at (suc t)) (shown_at t)
  clock_at clean t within = by (cases_lt t n)
    where
      the_last : Clock (kinds_of core.objects) (trace n) (run.state n) next (outputs (world_in settled))
      the_last = record { settled = settled; clean = clean; next = refl; shows = refl }

      to_last : Clock (kinds_of core.objects) (trace n) (state_at n) (state_at (suc n)) (shown_at n)
      to_last = rw (early n (omega arith), last, shown_last) the_last

      by : (t < n) ⊎ (n ≤ t) → Clock (kinds_of core.objects) (trace t) (state_at t) (state_at (suc t)) (shown_at t)
      by (inl low) = rw (early t (omega arith), early (suc t) (omega arith), shown_early t low) (run.clock t low)
      by (inr high) =
          let e : n ≡ t = omega (arith, within) in
          subst (λ i. Clock (kinds_of core.objects) (trace i) (state_at i) (state_at (suc i)) (shown_at i)) e to_last

  inputs_at : AreInputs (kinds_of core.objects) (trace n) → (t : ℕ) → t < suc n → AreInputs (kinds_of core.objects) (trace t)
  inputs_at inputs t within = by (cases_lt t n)
    where
      by : (t < n) ⊎ (n ≤ t) → AreInputs (kinds_of core.objects) (trace t)
      by (inl low) = run.inputs t low
      by (inr high) = let e : n ≡ t = omega (arith, within) in subst (λ i. AreInputs (kinds_of core.objects) (trace i)) e inputs

  pub longer : AreInputs (kinds_of core.objects) (trace n) → conflict (world_in settled) (run.state n).rest ≡ None
      → (more : Run core trace (suc n)) × ((t : ℕ) → t ≤ n → more.state t ≡ run.state t) × (more.state (suc n) ≡ state_after (world_in settled) (run.state n).rest)
  longer inputs clean = (
    record {
      inputs = inputs_at inputs;
      state = state_at;
      shown = shown_at;
      first = early 0 (omega arith) ∙ run.first;
      clock = clock_at clean;
    },
    early,
    last,
  )
