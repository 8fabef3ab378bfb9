-- What the forms share: induction over the clocks before a clock, what the bits of a part tell at one of them, and small facts of
-- residuals and bits.
use Rattle.std.proofs.Common.{◌≡◌, ◌<◌, ◌⊎◌, ⊎_elim, ℕ, zero, suc, List, Bool, true, false, not, ◌&&◌, ◌||◌, if◌then◌else◌, Option, Some, None, refl, sym, ◌∙◌, subst, arith}
use Rattle.hc_meaning.specs.Residual.{Residual, Skip}
use Rattle.hc_meaning.specs.Value.{World}
use Rattle.hc_meaning.specs.Control.{resolved, is_skip, Condition, Leaf}
use Rattle.hc_control.specs.Token.{Clocks, current, token_at, ends, IsFair, IsFairBefore, Follows}

-- ---- bits and residuals

pub skip_is : (r : Residual) → is_skip r ≡ true → r ≡ Skip
skip_is Skip is = refl
skip_is _ is = absurd cc

pub both_first : (a b : Bool) → (a && b) ≡ true → a ≡ true
both_first true b h = refl
both_first false b h = absurd cc

pub both_second : (a b : Bool) → (a && b) ≡ true → b ≡ true
both_second true b h = h
both_second false b h = absurd cc

pub or_false : (a : Bool) → (a || false) ≡ a
or_false true = refl
or_false false = refl

pub or_true : (a : Bool) → (a || true) ≡ true
or_true true = refl
or_true false = refl

pub and_false : (a : Bool) → (a && false) ≡ false
and_false true = refl
and_false false = refl

pub not_true : (a : Bool) → not a ≡ true → a ≡ false
not_true true h = absurd cc
not_true false h = refl

-- the second of two bits matters only where the first holds
pub both_if : (a b x y : Bool) → a ≡ x → (x ≡ true → b ≡ y) → (a && b) ≡ (x && y)
both_if a b true y e f = rw e (f refl)
both_if a b false y e f = rw e refl

-- ---- clocks

below_or_at : (i n : ℕ) → i < suc n → (i < n) ⊎ (i ≡ n)
below_or_at i n h = grind arith

pub below_next : (P : ℕ → Type 0) (t : ℕ) → ((i : ℕ) → i < t → P i) → P t → (i : ℕ) → i < suc t → P i
below_next P t before now i within = ⊎_elim (λ h. before i h) (λ e. subst P (sym e) now) (below_or_at i t within)

pub fair_at_first : (c : Clocks) (Good : ℕ → Type 0) (s : Residual) (start : ℕ → Bool) → IsFairBefore c Good s start zero
fair_at_first c Good s start = record { good = λ i within. absurd (omega arith); fair = λ i within. absurd (omega arith) }

pub fair_next : (c : Clocks) (Good : ℕ → Type 0) (s : Residual) (start : ℕ → Bool) (t : ℕ) → IsFairBefore c Good s start t → Good t → IsFair c s start t
    → IsFairBefore c Good s start (suc t)
fair_next c Good s start t before good fair = record {
  good = below_next Good t before.good good;
  fair = below_next (IsFair c s start) t before.fair fair;
}

-- what holds at edge 0 and goes on over each clock in order holds at every edge that has only such clocks before it
pub over_clocks : (c : Clocks) (Good : ℕ → Type 0) (s : Residual) (start : ℕ → Bool) (P : ℕ → Type 0) → P zero
    → ((t : ℕ) → Good t → IsFair c s start t → P t → P (suc t)) → (t : ℕ) → IsFairBefore c Good s start t → P t
over_clocks c Good s start P first next zero before = first
over_clocks c Good s start P first next (suc t) before =
    next t (before.good t (omega arith)) (before.fair t (omega arith))
    (over_clocks c Good s start P first next t (record {
      good = λ i within. before.good i (omega arith);
      fair = λ i within. before.fair i (omega arith);
    }))

-- ---- one clock

-- a start comes only where nothing is held, or what is held ends
abbrev pub IsFree : World → Bool → Option Residual → Type 0
IsFree w start held = start ≡ true → (r : Residual) → held ≡ Some r → is_skip (resolved w r) ≡ true

-- what the bits of a statement tell in a clock at whose edge this much of it is left
pub record Tells (w : World) (s : Residual) (start pass finish : Bool) (held : Option Residual) : Type 0 where
  pub passes : start ≡ true → pass ≡ is_skip (resolved w s)
  pub finishes : finish ≡ ends w held

pub tells : (c : Clocks) (Good : ℕ → Type 0) (s : Residual) (start pass finish : ℕ → Bool) (enabled : ℕ → List Leaf) (tested : ℕ → List Condition)
    → Follows c Good s start pass finish enabled tested
    → (t : ℕ) → IsFairBefore c Good s start t → Good t → Tells (c.world t) s (start t) (pass t) (finish t) (token_at c s start t)
tells c Good s start pass finish enabled tested follows t before good =
    record { passes = follows.passes t before good; finishes = follows.finishes t before good }

pub current_nowhere : (w : World) (s : Residual) (start : Bool) → current w s start None ≡ (if start then resolved w s else Skip)
current_nowhere w s true = refl
current_nowhere w s false = refl

pub current_held : (w : World) (s : Residual) (start : Bool) (r : Residual) → current w s start (Some r) ≡ (if start then resolved w s else resolved w r)
current_held w s true r = refl
current_held w s false r = refl

pub current_if : (w : World) (s : Residual) (start : Bool) (held : Option Residual) → current w s start held ≡ (if start then resolved w s else current w s false held)
current_if w s true held = refl
current_if w s false held = refl

-- what a start finds stands at nothing any more
pub ended_now : (w : World) (s : Residual) (held : Option Residual) → IsFree w true held → current w s false held ≡ Skip
ended_now w s None free = refl
ended_now w s (Some r) free = skip_is (resolved w r) (free refl r refl)

pub free_nowhere : (w : World) (start : Bool) → IsFree w start None
free_nowhere w start is r same = absurd cc

pub free_idle : (w : World) (held : Option Residual) → IsFree w false held
free_idle w held is r same = absurd cc

pub free_ended : (w : World) (start : Bool) (r : Residual) → is_skip (resolved w r) ≡ true → IsFree w start (Some r)
free_ended w start r ended is x same = ended_as x same
  where
    ended_as : (x : Residual) → Some r ≡ Some x → is_skip (resolved w x) ≡ true
    ended_as x same = let e : x ≡ r = cc in rw e ended

pub free_where : (w : World) (start : Bool) (r : Residual) → (start ≡ true → is_skip (resolved w r) ≡ true) → IsFree w start (Some r)
free_where w start r ended is = free_ended w start r (ended is) is

-- a part that starts only with the whole
pub free_part : (w : World) (start chosen part : Bool) (held : Option Residual) → part ≡ (start && chosen) → IsFree w start held → IsFree w part held
free_part w start chosen part held is free starts = free (both_first start chosen (sym is ∙ starts))
