-- Runs and clocks of a program, computed: what the rows are made of.
use Rattle.std.proofs.Common.{◌≡◌, ◌<◌, ◌≤◌, ◌^◌, ◌+◌, ℕ, zero, suc, List, [], ◌∷◌, map, Bool, true, false, ◌&&◌, ◌==◌, Some, None, Option, ◌⊎◌, inl, inr, refl, ap, sym, ◌∙◌, arith}
use Rattle.std.specs.Prelude.{nat_lt, slice_get, slice_index_or}
use Rattle.std.proofs.lemmas.Bool.{eqb-true, ltb-true, cases_lt}
use Rattle.hc_core.specs.Typed.{kinds_of}
use Rattle.hc_core.specs.declared.object.Kind.{Kind}
use Rattle.hc_core.specs.declared.object.Kind.TheVariants as kind
use Rattle.hc_core.specs.declared.object.Core.{Core}
use Rattle.hc_meaning.specs.Value.{Instant, World, words, inputs_before}
use Rattle.hc_meaning.specs.Clock.{shown_by, outputs}
use Rattle.hc_meaning.specs.Run.{State, Settled, Clock, Run, AreInputs, world_of, front_of, conflict, state_after, first_state, world_in}

-- ---- what the rows say

-- so many numbers from one on
abbrev pub from : ℕ → ℕ → List ℕ
from k zero = []
from k (suc n) = k ∷ from (k + 1) n

-- A run of n clean clocks in which each of these objects holds these numbers at edges 0 to n.
pub record Holds (core : Core) (trace : ℕ → List ℕ) (n : ℕ) (objects : List ℕ) (numbers : List (List (List ℕ))) : Type 0 where
  pub run : Run core trace n
  pub held : map (λ k. map (λ t. words (run.state t).store k) (from 0 (n + 1))) objects ≡ numbers

-- A run of n clean clocks with these outputs in each.
pub record Shows (core : Core) (trace : ℕ → List ℕ) (n : ℕ) (numbers : List (List ℕ)) : Type 0 where
  pub run : Run core trace n
  pub shown : map run.shown (from 0 n) ≡ numbers

-- An instant of clock 0 that agrees and in which the signals have these numbers.
pub record Shown (core : Core) (trace : ℕ → List ℕ) (numbers : List ℕ) : Type 0 where
  pub settled : Settled (kinds_of core.objects) (trace 0) (first_state core)
  pub signals : settled.instant.signals ≡ numbers

-- A run of n clean clocks, and the clock behind it in which this object is the least that is used twice.
pub record Conflicts (core : Core) (trace : ℕ → List ℕ) (n k : ℕ) : Type 0 where
  pub run : Run core trace n
  pub settled : Settled (kinds_of core.objects) (trace n) (run.state n)
  pub object : conflict (world_in settled) (run.state n).rest ≡ Some k

-- ---- an instant, found by trying

abbrev pub nothing : Instant
nothing = record { signals = []; sends = []; receives = [] }

-- what the front shows where nothing is known, and then so many times where that is known
abbrev pub settled : List Kind → List ℕ → State → ℕ → Instant
settled kinds inputs s zero = nothing
settled kinds inputs s (suc n) = let w = world_of kinds inputs s (settled kinds inputs s n) in shown_by w (front_of w s.rest)

-- the world of a clock with what is shown after four times
abbrev pub world_at : List Kind → List ℕ → State → World
world_at kinds inputs s = world_of kinds inputs s (settled kinds inputs s 4)

abbrev pub edge : Core → (ℕ → List ℕ) → ℕ → State
edge core trace zero = first_state core
edge core trace (suc t) = let s = edge core trace t in state_after (world_at (kinds_of core.objects) (trace t) s) s.rest

-- ---- tests

abbrev pub equal_numbers : List ℕ → List ℕ → Bool
equal_numbers [] [] = true
equal_numbers (a ∷ xs) (b ∷ ys) = (a == b) && equal_numbers xs ys
equal_numbers _ _ = false

abbrev pub equal_bit : Bool → Bool → Bool
equal_bit true true = true
equal_bit false false = true
equal_bit _ _ = false

abbrev pub equal_bits : List Bool → List Bool → Bool
equal_bits [] [] = true
equal_bits (a ∷ xs) (b ∷ ys) = equal_bit a b && equal_bits xs ys
equal_bits _ _ = false

abbrev pub equal_instants : Instant → Instant → Bool
equal_instants r q = equal_numbers r.signals q.signals && (equal_bits r.sends q.sends && equal_bits r.receives q.receives)

first : (a b : Bool) → (a && b) ≡ true → a ≡ true
first true b h = refl
first false b h = absurd cc

second : (a b : Bool) → (a && b) ≡ true → b ≡ true
second true b h = h
second false b h = absurd cc

are_numbers : (xs ys : List ℕ) → equal_numbers xs ys ≡ true → xs ≡ ys
are_numbers [] [] h = refl
are_numbers [] (b ∷ ys) h = absurd (let is : false ≡ true = h in cc)
are_numbers (a ∷ xs) [] h = absurd (let is : false ≡ true = h in cc)
are_numbers (a ∷ xs) (b ∷ ys) h =
    ap (λ x. x ∷ xs) (eqb-true a b (first (a == b) (equal_numbers xs ys) h)) ∙ ap (λ l. b ∷ l) (are_numbers xs ys (second (a == b) (equal_numbers xs ys) h))

is_bit : (a b : Bool) → equal_bit a b ≡ true → a ≡ b
is_bit true true h = refl
is_bit false false h = refl
is_bit true false h = absurd (let is : false ≡ true = h in cc)
is_bit false true h = absurd (let is : false ≡ true = h in cc)

are_bits : (xs ys : List Bool) → equal_bits xs ys ≡ true → xs ≡ ys
are_bits [] [] h = refl
are_bits [] (b ∷ ys) h = absurd (let is : false ≡ true = h in cc)
are_bits (a ∷ xs) [] h = absurd (let is : false ≡ true = h in cc)
are_bits (a ∷ xs) (b ∷ ys) h =
    ap (λ x. x ∷ xs) (is_bit a b (first (equal_bit a b) (equal_bits xs ys) h)) ∙ ap (λ l. b ∷ l) (are_bits xs ys (second (equal_bit a b) (equal_bits xs ys) h))

are_instants : (r q : Instant) → equal_instants r q ≡ true → r ≡ q
are_instants r q h =
    let rest = second (equal_numbers r.signals q.signals) (equal_bits r.sends q.sends && equal_bits r.receives q.receives) h in
    let a = are_numbers r.signals q.signals (first (equal_numbers r.signals q.signals) (equal_bits r.sends q.sends && equal_bits r.receives q.receives) h) in
    let b = are_bits r.sends q.sends (first (equal_bits r.sends q.sends) (equal_bits r.receives q.receives) rest) in
    let c = are_bits r.receives q.receives (second (equal_bits r.sends q.sends) (equal_bits r.receives q.receives) rest) in
    ap (λ l. instant l r.sends r.receives) a ∙ ap (λ l. instant q.signals l r.receives) b ∙ ap (λ l. instant q.signals q.sends l) c
  where
    instant : List ℕ → List Bool → List Bool → Instant
    instant signals sends receives = record { signals = signals; sends = sends; receives = receives }

abbrev pub is_settled : World → State → Bool
is_settled w s = equal_instants w.instant (shown_by w (front_of w s.rest))

abbrev pub no_object : Option ℕ → Bool
no_object None = true
no_object (Some k) = false

is_none : (o : Option ℕ) → no_object o ≡ true → o ≡ None
is_none None h = refl
is_none (Some k) h = absurd (let is : false ≡ true = h in cc)

-- each input's number is below 2 to the power of its width
abbrev pub fit : List Kind → List ℕ → ℕ → Bool
fit [] inputs i = true
fit (kind.Input w s pins ∷ kinds) inputs i = nat_lt (slice_index_or inputs i 0) (2 ^ w) && fit kinds inputs (i + 1)
fit (kind.Reg w s init ∷ kinds) inputs i = fit kinds inputs i
fit (kind.Array w s n init ∷ kinds) inputs i = fit kinds inputs i
fit (kind.Ram w s n init ∷ kinds) inputs i = fit kinds inputs i
fit (kind.Rom w s n init ∷ kinds) inputs i = fit kinds inputs i
fit (kind.Signal w s unset ∷ kinds) inputs i = fit kinds inputs i
fit (kind.Chan w s queue ∷ kinds) inputs i = fit kinds inputs i
fit (kind.Output w s pins value ∷ kinds) inputs i = fit kinds inputs i

skips : (inputs : List ℕ) (i a : ℕ) (w : ℕ) (kinds : List Kind) (k : ℕ) → slice_index_or inputs ((i + a) + inputs_before kinds k) 0 < 2 ^ w
    → slice_index_or inputs (i + (a + inputs_before kinds k)) 0 < 2 ^ w
skips inputs i a w kinds k h = let e : (i + a) + inputs_before kinds k ≡ i + (a + inputs_before kinds k) = omega arith in rw (sym e) h

skips_none : (inputs : List ℕ) (i : ℕ) (w : ℕ) (kinds : List Kind) (k : ℕ) → slice_index_or inputs (i + inputs_before kinds k) 0 < 2 ^ w
    → slice_index_or inputs (i + (0 + inputs_before kinds k)) 0 < 2 ^ w
skips_none inputs i w kinds k h = let e : 0 + inputs_before kinds k ≡ inputs_before kinds k = omega arith in rw e h

are_below : (kinds : List Kind) (inputs : List ℕ) (i : ℕ) → fit kinds inputs i ≡ true → (k w : ℕ) (s : _) (pins : List (List ℕ)) → slice_get kinds k ≡ Some (kind.Input w s pins)
    → slice_index_or inputs (i + inputs_before kinds k) 0 < 2 ^ w
are_below [] inputs i h k w s pins is = absurd cc
are_below (x ∷ kinds) inputs i h (suc k) w s pins is = by x h (λ j g. are_below kinds inputs j g k w s pins is)
  where
    by : (x : Kind) → fit (x ∷ kinds) inputs i ≡ true → ((j : ℕ) → fit kinds inputs j ≡ true → slice_index_or inputs (j + inputs_before kinds k) 0 < 2 ^ w)
        → slice_index_or inputs (i + inputs_before (x ∷ kinds) (suc k)) 0 < 2 ^ w
    by (kind.Input v t names) g next = skips inputs i 1 w kinds k (next (i + 1) (second (nat_lt (slice_index_or inputs i 0) (2 ^ v)) (fit kinds inputs (i + 1)) g))
    by (kind.Reg v t init) g next = skips_none inputs i w kinds k (next i g)
    by (kind.Array v t n init) g next = skips_none inputs i w kinds k (next i g)
    by (kind.Ram v t n init) g next = skips_none inputs i w kinds k (next i g)
    by (kind.Rom v t n init) g next = skips_none inputs i w kinds k (next i g)
    by (kind.Signal v t unset) g next = skips_none inputs i w kinds k (next i g)
    by (kind.Chan v t queue) g next = skips_none inputs i w kinds k (next i g)
    by (kind.Output v t names value) g next = skips_none inputs i w kinds k (next i g)
are_below (x ∷ kinds) inputs i h zero w s pins is = by x h is
  where
    by : (x : Kind) → fit (x ∷ kinds) inputs i ≡ true → Some x ≡ Some (kind.Input w s pins) → slice_index_or inputs (i + 0) 0 < 2 ^ w
    by (kind.Input v t names) g e =
        let same : v ≡ w = ap width_of e in
        let low = ltb-true (slice_index_or inputs i 0) (2 ^ v) (first (nat_lt (slice_index_or inputs i 0) (2 ^ v)) (fit kinds inputs (i + 1)) g) in
        let at : i + 0 ≡ i = omega arith in
        rw (at, sym same) low
      where
        width_of : Option Kind → ℕ
        width_of (Some (kind.Input width sign names)) = width
        width_of _ = 0
    by (kind.Reg v t init) g e = absurd cc
    by (kind.Array v t n init) g e = absurd cc
    by (kind.Ram v t n init) g e = absurd cc
    by (kind.Rom v t n init) g e = absurd cc
    by (kind.Signal v t unset) g e = absurd cc
    by (kind.Chan v t queue) g e = absurd cc
    by (kind.Output v t names value) g e = absurd cc

are_inputs : (kinds : List Kind) (inputs : List ℕ) → fit kinds inputs 0 ≡ true → AreInputs kinds inputs
are_inputs kinds inputs h k w s pins is = let e : 0 + inputs_before kinds k ≡ inputs_before kinds k = omega arith in rw (sym e) (are_below kinds inputs 0 h k w s pins is)

-- ---- a run

abbrev pub clean_at : Core → (ℕ → List ℕ) → ℕ → Bool
clean_at core trace t =
    let s = edge core trace t in
    let w = world_at (kinds_of core.objects) (trace t) s in
    fit (kinds_of core.objects) (trace t) 0 && (is_settled w s && no_object (conflict w s.rest))

-- each of so many clocks is clean
abbrev pub all_clean : Core → (ℕ → List ℕ) → ℕ → Bool
all_clean core trace zero = true
all_clean core trace (suc n) = clean_at core trace n && all_clean core trace n

at_clock : (core : Core) (trace : ℕ → List ℕ) (n : ℕ) → all_clean core trace n ≡ true → (t : ℕ) → t < n → clean_at core trace t ≡ true
at_clock core trace zero h t within = absurd (omega arith)
at_clock core trace (suc n) h t within = by (cases_lt t n) (at_clock core trace n (second (clean_at core trace n) (all_clean core trace n) h) t)
  where
    by : (t < n) ⊎ (n ≤ t) → (t < n → clean_at core trace t ≡ true) → clean_at core trace t ≡ true
    by (inl low) next = next low
    by (inr high) next = let e : n ≡ t = omega (arith, within) in rw (sym e) (first (clean_at core trace n) (all_clean core trace n) h)

clock_at : (core : Core) (trace : ℕ → List ℕ) (t : ℕ) → clean_at core trace t ≡ true
    → Clock (kinds_of core.objects) (trace t) (edge core trace t) (edge core trace (suc t)) (outputs (world_at (kinds_of core.objects) (trace t) (edge core trace t)))
clock_at core trace t h =
    let s = edge core trace t in
    let w = world_at (kinds_of core.objects) (trace t) s in
    let rest = second (fit (kinds_of core.objects) (trace t) 0) (is_settled w s && no_object (conflict w s.rest)) h in
    record {
      settled = record { instant = w.instant; agrees = are_instants w.instant (shown_by w (front_of w s.rest)) (first (is_settled w s) (no_object (conflict w s.rest)) rest) };
      clean = is_none (conflict w s.rest) (second (is_settled w s) (no_object (conflict w s.rest)) rest);
      next = refl;
      shows = refl;
    }

run_of : (core : Core) (trace : ℕ → List ℕ) (n : ℕ) → all_clean core trace n ≡ true → Run core trace n
run_of core trace n h = record {
  inputs = λ t within. are_inputs (kinds_of core.objects) (trace t) (first (fit (kinds_of core.objects) (trace t) 0)
      (is_settled (world_at (kinds_of core.objects) (trace t) (edge core trace t)) (edge core trace t)
      && no_object (conflict (world_at (kinds_of core.objects) (trace t) (edge core trace t)) (edge core trace t).rest)) (at_clock core trace n h t within));
  state = edge core trace;
  shown = λ t. outputs (world_at (kinds_of core.objects) (trace t) (edge core trace t));
  first = refl;
  clock = λ t within. clock_at core trace t (at_clock core trace n h t within);
}

-- ---- rows

-- what these objects hold at edges 0 to n
abbrev pub held : Core → (ℕ → List ℕ) → ℕ → List ℕ → List (List (List ℕ))
held core trace n objects = map (λ k. map (λ t. words (edge core trace t).store k) (from 0 (n + 1))) objects

pub holds : (core : Core) (trace : ℕ → List ℕ) (n : ℕ) (objects : List ℕ) (numbers : List (List (List ℕ)))
    → all_clean core trace n ≡ true → held core trace n objects ≡ numbers → Holds core trace n objects numbers
unfolding run_of
holds core trace n objects numbers clean is = record { run = run_of core trace n clean; held = is }

pub conflicts : (core : Core) (trace : ℕ → List ℕ) (n k : ℕ) → all_clean core trace n ≡ true
    → is_settled (world_at (kinds_of core.objects) (trace n) (edge core trace n)) (edge core trace n) ≡ true
    → conflict (world_at (kinds_of core.objects) (trace n) (edge core trace n)) (edge core trace n).rest ≡ Some k → Conflicts core trace n k
unfolding run_of
conflicts core trace n k clean settles is =
    let s = edge core trace n in
    let w = world_at (kinds_of core.objects) (trace n) s in
    record {
      run = run_of core trace n clean;
      settled = record { instant = w.instant; agrees = are_instants w.instant (shown_by w (front_of w s.rest)) settles };
      object = is;
    }

pub shows : (core : Core) (trace : ℕ → List ℕ) (n : ℕ) (numbers : List (List ℕ)) → all_clean core trace n ≡ true
    → map (λ t. outputs (world_at (kinds_of core.objects) (trace t) (edge core trace t))) (from 0 n) ≡ numbers → Shows core trace n numbers
unfolding run_of
shows core trace n numbers clean is = record { run = run_of core trace n clean; shown = is }

pub is_shown : (core : Core) (trace : ℕ → List ℕ) (numbers : List ℕ) → is_settled (world_at (kinds_of core.objects) (trace 0) (first_state core)) (first_state core) ≡ true
    → (world_at (kinds_of core.objects) (trace 0) (first_state core)).instant.signals ≡ numbers → Shown core trace numbers
is_shown core trace numbers settles is =
    let s = first_state core in
    let w = world_at (kinds_of core.objects) (trace 0) s in
    record { settled = record { instant = w.instant; agrees = are_instants w.instant (shown_by w (front_of w s.rest)) settles }; signals = is }
