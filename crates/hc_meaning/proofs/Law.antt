-- Exactly one instant agrees in each state that clean clocks reach.
use Rattle.std.proofs.Common.{◌≡◌, ℕ, zero, suc, ◌-◌, ◌^◌, ◌≤◌, Bool, true, false, ◌⊎◌, inl, inr, List, [], refl, sym, ap, subst, arith}
use Rattle.hc_tree.specs.declared.refusal.Node.{Node}
use Rattle.hc_core.specs.Read.{statement}
use Rattle.hc_core.specs.Typed.{kinds_of}
use Rattle.hc_core.specs.Depends.{needs_of, IsOrder}
use Rattle.hc_core.specs.FirstPlace.{first_object, first_where}
use Rattle.hc_core.specs.Rules.{by_no_object, endless}
use Rattle.hc_core.specs.declared.object.Core.{Core}
use Rattle.hc_meaning.specs.Residual.{Residual, Skip, residual}
use Rattle.hc_meaning.specs.Value.{World}
use Rattle.hc_meaning.specs.Control.{resolved, front, is_skip, Leaf}
use Rattle.hc_meaning.specs.Clock.{behind_edge}
use Rattle.hc_meaning.specs.Run.{Run, world_of}
use Rattle.hc_meaning.proofs.Sets.{Waits, needs, From}
use Rattle.hc_meaning.specs.OneInstant.{HasOneInstant, LoopsWait}
use Rattle.hc_meaning.proofs.Every.{HoldsAt}
use Rattle.hc_meaning.proofs.Waits.{skip_is}
use Rattle.hc_meaning.proofs.FromNeeds.{from_needs}
use Rattle.hc_meaning.proofs.Goes.{started, goes}
use Rattle.hc_meaning.proofs.Kept.{from_waits}
use Rattle.hc_meaning.proofs.Main.{needs_in}
use Rattle.hc_meaning.proofs.Loops.{waits_in, of_clear}
use Rattle.hc_meaning.proofs.Unique.{some, only}
use Rattle.hc_core.specs.Sound.{IsSound}
use Rattle.hc_meaning.proofs.There.{there}
use Rattle.hc_meaning.proofs.Order.{rank_in, rank_below, AreThere, falls_of}

-- what may be left of main at an edge
abbrev pub Reached : Residual → Residual → Type 0
Reached s r = (r ≡ s) ⊎ From s r ⊎ (r ≡ Skip)

pub reached_next : (w : World) (fr : List Leaf) (s r : Residual) → Reached s r → Reached s (behind_edge w fr (resolved w r))
reached_next w fr s r h = by (is_skip (resolved w r)) refl h
  where
    by : (b : Bool) → is_skip (resolved w r) ≡ b → Reached s r → Reached s (behind_edge w fr (resolved w r))
    by true e h = inr (inr (ap (behind_edge w fr) (skip_is (resolved w r) e)))
    by false e (inl i) = inr (inl (subst (λ x. is_skip (resolved w x) ≡ false → From s (behind_edge w fr (resolved w x))) (sym i) (started w fr s) e))
    by false e (inr (inl d)) = inr (inl (goes w fr s r d e))
    by false e (inr (inr i)) = inr (inr (rw i refl))

pub reached_waits : (s r : Residual) → Waits s → Reached s r → Waits r
reached_waits s r l (inl e) = rw e l
reached_waits s r l (inr (inl d)) = from_waits s r d l
reached_waits s r l (inr (inr e)) = rw e tt

pub reached_needs : (P : Node → Type 0) (m : Node) (s r : Residual) → Reached s r → HoldsAt P m (needs [] s) → HoldsAt P m (needs [] r)
reached_needs P m s r (inl e) h = rw e h
reached_needs P m s r (inr (inl d)) h = from_needs P m [] s r d h
reached_needs P m s r (inr (inr e)) h = rw e tt

abbrev pub main_of : Core → Residual
main_of core = (residual (statement core.main) 0).0

pub reached : (core : Core) (trace : ℕ → List ℕ) (n : ℕ) (run : Run core trace n) (t : ℕ) → t ≤ n → Reached (main_of core) (run.state t).rest
reached core trace n run zero h = inl (ap (λ s. s.rest) run.first)
reached core trace n run (suc t) h =
    let c = run.clock t (omega arith) in
    let w = world_of (kinds_of core.objects) (trace t) (run.state t) c.settled.instant in
    subst (Reached (main_of core)) (sym (ap (λ s. s.rest) c.next)) (reached_next w (front (resolved w (run.state t).rest)) (main_of core) (run.state t).rest (reached core trace n run t (omega arith)))

pub core_needs : (core : Core) (P : Node → Type 0) (m : Node) (r : Residual) → Reached (main_of core) r → HoldsAt P m (needs_of core) → HoldsAt P m (needs [] r)
core_needs core P m r h g = reached_needs P m (main_of core) r h (needs_in P m [] (statement core.main) 0 g)

-- no loop of main has a body that may take no clock
pub main_waits : (core : Core) → LoopsWait core → Waits (main_of core)
main_waits core loops = waits_in (statement core.main) 0 (of_clear (first_object by_no_object 0 core.objects) (first_where endless (statement core.main)) loops).1

pub one_instant : (core : Core) (ranks : List (Node × ℕ)) → AreThere core → LoopsWait core → IsOrder core ranks → HasOneInstant core
one_instant core ranks there loops o trace n run inputs =
    let s = run.state n in
    let h = reached core trace n run n (omega arith) in
    let waits = reached_waits (main_of core) s.rest (main_waits core loops) h in
    let kinds = kinds_of core.objects in
    let f = falls_of core ranks there o in
    let i = some kinds s.store inputs s.rest waits (needs_of core) (λ P m g. core_needs core P m s.rest h g) (rank_in ranks) f (2 ^ 32 - 1) (rank_below (2 ^ 32 - 1) ranks (omega arith) o.below) in
    record {
      one = i.0;
      has = i.1;
      only = λ q a. only kinds s.store inputs s.rest waits (needs_of core) (λ P m g. core_needs core P m s.rest h g) (rank_in ranks) f q i.0 a i.1;
    }

pub law : (core : Core) (ranks : List (Node × ℕ)) → IsSound core → LoopsWait core → IsOrder core ranks → HasOneInstant core
law core ranks sound loops o = one_instant core ranks (there core sound) loops o
