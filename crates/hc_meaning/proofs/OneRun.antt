-- A core has one run on a trace.
use Rattle.std.proofs.Common.{◌≡◌, ◌<◌, ◌≤◌, ℕ, zero, suc, List, sym, ap, ◌∙◌, subst, arith}
use Rattle.hc_tree.specs.declared.refusal.Node.{Node}
use Rattle.hc_core.specs.Typed.{kinds_of}
use Rattle.hc_core.specs.Sound.{IsSound}
use Rattle.hc_core.specs.Depends.{IsOrder}
use Rattle.hc_core.specs.declared.object.Core.{Core}
use Rattle.hc_meaning.specs.Value.{Instant}
use Rattle.hc_meaning.specs.Clock.{outputs}
use Rattle.hc_meaning.specs.Run.{State, Run, world_of, IsSettled, state_after}
use Rattle.hc_meaning.specs.OneInstant.{HasOneInstant, LoopsWait}
use Rattle.hc_meaning.proofs.Law.{law}

-- the first t clocks of a run
abbrev first_clocks : {core : Core} {trace : ℕ → List ℕ} {n : ℕ} → Run core trace n → (t : ℕ) → t ≤ n → Run core trace t
first_clocks run t h = record {
  inputs = λ i within. run.inputs i (omega (arith, within, h));
  state = run.state;
  shown = run.shown;
  first = run.first;
  clock = λ i within. run.clock i (omega (arith, within, h));
}

module _ (core : Core) (trace : ℕ → List ℕ) (has : HasOneInstant core) (n : ℕ) (a b : Run core trace n) where
  -- two runs in one state have one instant
  instant_same : (t : ℕ) (within : t < n) → a.state t ≡ b.state t → (a.clock t within).settled.instant ≡ (b.clock t within).settled.instant
  instant_same t within same =
      let kinds = kinds_of core.objects in
      let one = has trace t (first_clocks a t (omega arith)) (trace t) in
      let r = (a.clock t within).settled in
      let q = (b.clock t within).settled in
      one.only r.instant r.agrees ∙ sym (one.only q.instant (subst (λ (s : State). IsSettled (world_of kinds (trace t) s q.instant) s.rest) (sym same) q.agrees))

  pub state_same : (t : ℕ) → t ≤ n → a.state t ≡ b.state t
  state_same zero h = a.first ∙ sym b.first
  state_same (suc t) h =
      let kinds = kinds_of core.objects in
      let within : t < n = omega arith in
      let same = state_same t (omega arith) in
      let r = instant_same t within same in
      (a.clock t within).next
      ∙ ap (λ (s : State). state_after (world_of kinds (trace t) s (a.clock t within).settled.instant) s.rest) same
      ∙ ap (λ (i : Instant). state_after (world_of kinds (trace t) (b.state t) i) (b.state t).rest) r
      ∙ sym (b.clock t within).next

  pub shown_same : (t : ℕ) → t < n → a.shown t ≡ b.shown t
  shown_same t within =
      let kinds = kinds_of core.objects in
      let same = state_same t (omega arith) in
      let r = instant_same t within same in
      (a.clock t within).shows
      ∙ ap (λ (s : State). outputs (world_of kinds (trace t) s (a.clock t within).settled.instant)) same
      ∙ ap (λ (i : Instant). outputs (world_of kinds (trace t) (b.state t) i)) r
      ∙ sym (b.clock t within).shows

pub one_state : (core : Core) (ranks : List (Node × ℕ)) → IsSound core → LoopsWait core → IsOrder core ranks → (trace : ℕ → List ℕ) (n : ℕ) (a b : Run core trace n) (t : ℕ) → t ≤ n → a.state t ≡ b.state t
one_state core ranks sound loops o trace n a b t h = state_same core trace (law core ranks sound loops o) n a b t h

pub one_output : (core : Core) (ranks : List (Node × ℕ)) → IsSound core → LoopsWait core → IsOrder core ranks → (trace : ℕ → List ℕ) (n : ℕ) (a b : Run core trace n) (t : ℕ) → t < n → a.shown t ≡ b.shown t
one_output core ranks sound loops o trace n a b t within = shown_same core trace (law core ranks sound loops o) n a b t within
