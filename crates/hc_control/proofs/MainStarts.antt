-- The control of `main`: its token starts it in clock 0 alone.
use Rattle.std.proofs.Common.{◌≡◌, ◌<◌, ◌≤◌, ℕ, zero, suc, ◌+◌, List, [], ◌∷◌, ◌++◌, length, map, set, Bool, true, false, Some, None, append_assoc, inl, inr, ◌⊎◌, refl, ap, sym, ◌∙◌, subst, arith}
use Rattle.std.specs.Prelude.{All}
use Rattle.std.proofs.Props.{props}
use Rattle.std.proofs.lemmas.Bool.{cases_lt}
use Rattle.std.proofs.lemmas.List.{get_or_push, set_at, length_push}
use Rattle.std.proofs.lemmas.List.Elements.{All-cons}
use Rattle.hc_core.specs.Read.{statement}
use Rattle.hc_core.specs.Typed.{kinds_of}
use Rattle.hc_core.specs.Weight.{statement_flops}
use Rattle.hc_core.specs.declared.object.Core.{Core}
use Rattle.hc_meaning.specs.Clock.{behind_edge}
use Rattle.hc_meaning.specs.Control.{front, resolved, Leaf}
use Rattle.hc_meaning.specs.Residual.{Residual, Skip, Act, Prialt, PrialtElse, Then, Par, If, While, DoWhile, Switch}
use Rattle.hc_meaning.specs.Run.{Run, State, first_state, world_of}
use Rattle.hc_meaning.specs.Value.{Instant, World}
use Rattle.hc_net.specs.Circuit.{Circuit, History, Explains, Does, node_at, with_node, with_node_at, reading}
use Rattle.hc_net.specs.Frame.{Keeps, keeps_behind}
use Rattle.hc_net.specs.Run.{Trace}
use Rattle.hc_net.specs.declared.net.FlopName.TheVariants.{Token}
use Rattle.hc_net.specs.declared.node.Node.{Node}
use Rattle.hc_net.specs.declared.node.Node.TheVariants.{Flop}
use Rattle.hc_token.specs.Control.{IsNever, IsPart, tokens_from}
use Rattle.hc_token.specs.Part.{IsClosed, none_open}
use Rattle.hc_token.specs.declared.ends.Ends.{Ends}
use Rattle.hc_value.specs.declared.objects.ObjectNets.{ObjectNets}
use Rattle.hc_control.specs.Building.{CanBuild, Builds}
use Rattle.hc_control.specs.Controlled.{CanControl, AreRight, StandAtFront, StartsMain}
use Rattle.hc_control.specs.Right.{IsRight}
use Rattle.hc_control.specs.Starts.{leaves, selected}
use Rattle.hc_control.specs.Token.{Clocks, current, token_at, held_behind, IsFair, IsFairBefore}
use Rattle.hc_control.specs.declared.started.Started.{Started}
use Rattle.hc_control.proofs.Adding.{keeps_control, reads_kept, never_holds, ranks_none, ranks_then, all_one}

-- ---- the first token

abbrev first_flop : ℕ → Node
first_flop low = Flop (Token 0) true (Some low)

-- The token that starts `main` was added, and reads a constant 0.
pub record HasFirst (low first : ℕ) (old new : Circuit) : Type 0 where
  pub at : first ≡ length old.nodes
  pub nodes : new.nodes ≡ old.nodes ++ first_flop low ∷ []
  pub clock : new.clock ≡ old.clock
  pub ports : new.ports ≡ old.ports

pub has_first : (low first : ℕ) (old one new : Circuit) → (first ≡ length old.nodes) × (one ≡ with_node old (Flop (Token 0) true None))
    → new ≡ with_node_at one first (reading low (node_at one.nodes first)) → HasFirst low first old new
has_first low first old one new p fed =
    let open_flop : Node = Flop (Token 0) true None in
    let one_is : one.nodes ≡ old.nodes ++ open_flop ∷ [] = ap (λ (c : Circuit). c.nodes) p.1 in
    record {
      at = p.0;
      nodes =
          ap (λ (c : Circuit). c.nodes) fed
          ∙ ap (λ l. set l first (reading low (node_at l first))) one_is
          ∙ ap (λ n. set (old.nodes ++ open_flop ∷ []) first (reading low n)) (get_or_push old.nodes open_flop _ first (sym p.0))
          ∙ set_at old.nodes open_flop [] (first_flop low) first (sym p.0);
      clock = ap (λ (c : Circuit). c.clock) fed ∙ ap (λ (c : Circuit). c.clock) p.1;
      ports = ap (λ (c : Circuit). c.ports) fed ∙ ap (λ (c : Circuit). c.ports) p.1;
    }

first_keeps : {low first : ℕ} {old new : Circuit} → HasFirst low first old new → Keeps old.nodes new.nodes
first_keeps {low} h = keeps_behind (first_flop low ∷ []) h.nodes

first_size : {low first : ℕ} {old new : Circuit} → HasFirst low first old new → length new.nodes ≡ length old.nodes + 1
first_size {low} {old = old} h = ap length h.nodes ∙ length_push old.nodes (first_flop low)

pub can_start : (core : Core) (at : ObjectNets) (low first : ℕ) (old new : Circuit) → CanControl core at old → HasFirst low first old new
    → CanBuild (kinds_of core.objects) at (statement core.main) first 1 new
can_start core at low first old new can h =
    let size = first_size h in
    let stands = h.at in
    let room = can.room in
    record {
      reads = reads_kept (first_keeps h) can.reads;
      there = omega arith;
      typed = can.typed;
      built = can.built;
      loops = can.loops;
      labels = can.labels;
      room = omega arith;
      numbers = omega arith;
    }

-- ---- it holds in clock 0 alone

abbrev pub is_first : ℕ → Bool
is_first zero = true
is_first (suc t) = false

pub first_holds : {low first : ℕ} {old mid : Circuit} (new : Circuit) → HasFirst low first old mid → Keeps mid.nodes new.nodes → IsNever old.nodes low
    → (trace : Trace) (h : History) → Explains new.nodes trace h → (t : ℕ) → h t first ≡ is_first t
first_holds {low} {first} {old} {mid} new has keeps never trace h e = by_clock
  where
    explains : Explains mid.nodes trace h
    explains = keeps.earlier trace h e

    does : Does trace h first (first_flop low)
    does =
        subst (λ (n : Node). Does trace h first n)
        (ap (λ l. node_at l first) has.nodes ∙ get_or_push old.nodes (first_flop low) _ first (sym has.at)) (explains.each first)

    by_clock : (t : ℕ) → h t first ≡ is_first t
    by_clock zero = does.0
    by_clock (suc t) = does.1 t ∙ never_holds low ((first_keeps has).constant low false never) trace h explains t

-- ---- the law of the whole program

-- the same starts leave the same
token_same : (c : Clocks) (s : Residual) (f g : ℕ → Bool) → ((t : ℕ) → f t ≡ g t) → (t : ℕ) → token_at c s f t ≡ token_at c s g t
token_same c s f g same zero = refl
token_same c s f g same (suc t) =
    ap (λ held. held_behind (c.world t) (c.leaves t) (current (c.world t) s (f t) held)) (token_same c s f g same t)
    ∙ ap (λ start. held_behind (c.world t) (c.leaves t) (current (c.world t) s start (token_at c s g t))) (same t)

-- what starts in clock 0 alone starts where nothing stands
fair_once : (c : Clocks) (s : Residual) (start : ℕ → Bool) → ((t : ℕ) → start t ≡ is_first t) → (t : ℕ) → IsFair c s start t
fair_once c s start once zero is r same = absurd cc
fair_once c s start once (suc t) is r same = let no : start (suc t) ≡ false = once (suc t) in absurd cc

-- the same for the circuit of `main`, over any run of worlds
stands : (core : Core) (at : ObjectNets) (low first : ℕ) (old mid new : Circuit) (before after : Started) (ends : Ends)
    → HasFirst low first old mid → IsNever old.nodes low → (b : Builds (kinds_of core.objects) at (statement core.main) first mid new before after ends)
    → (c : Clocks) (trace : Trace) (h : History) → Explains new.nodes trace h → (t : ℕ) → ((i : ℕ) → i < suc t → IsRight (kinds_of core.objects) at (c.world i) (h i))
    → selected (map (h t) b.starts) (leaves (first_state core).rest)
    ≡ front (current (c.world t) (first_state core).rest (is_first t) (token_at c (first_state core).rest is_first t))
stands core at low first old mid new before after ends has never b c trace h e t right =
    let once = first_holds new has (keeps_control b.adds) never trace h e in
    let follows = b.circuit.follows 0 c trace h e in
    let r : Residual = (first_state core).rest in
    let start : ℕ → Bool = λ i. h i first in
    let good : ℕ → Type 0 = λ i. IsRight (kinds_of core.objects) at (c.world i) (h i) in
    let fair : IsFairBefore c good r start t = record { good = λ i within. right i (omega arith); fair = λ i within. fair_once c r start once i } in
    follows.1.enables t fair (right t (omega arith)) (fair_once c r start once t)
    ∙ ap (λ held. front (current (c.world t) r (start t) held)) (token_same c r start is_first once t)
    ∙ ap (λ x. front (current (c.world t) r x (token_at c r is_first t))) (once t)

-- ---- the clocks of a run

-- what is left behind a clock is resolved in the next one as what is held is
left_next : (w next : World) (l : List Leaf) (s a : Residual) → current next s false (held_behind w l a) ≡ resolved next (behind_edge w l a)
left_next w next l s Skip = refl
left_next w next l s (Act n a) = refl
left_next w next l s (Prialt n cases) = refl
left_next w next l s (PrialtElse n cases other) = refl
left_next w next l s (Then a b) = refl
left_next w next l s (Par branches) = refl
left_next w next l s (If n c a b) = refl
left_next w next l s (While n c body) = refl
left_next w next l s (DoWhile body n c) = refl
left_next w next l s (Switch n e arms) = refl

module _ (core : Core) (trace : Trace) (n : ℕ) (run : Run core trace n) where
  -- beyond the run no object has anything within a clock
  abbrev instant_by : (i : ℕ) → (i < n) ⊎ (n ≤ i) → Instant
  instant_by i (inl inside) = (run.clock i inside).settled.instant
  instant_by i (inr outside) = record { signals = []; sends = []; receives = [] }

  same_by : (i : ℕ) (inside : i < n) (x : (i < n) ⊎ (n ≤ i)) → instant_by i x ≡ (run.clock i inside).settled.instant
  same_by i inside (inl p) = let prop : IsProp (i < n) = hlevel props in ap (λ q. (run.clock i q).settled.instant) (prop p inside)
  same_by i inside (inr outside) = absurd (omega (arith, inside, outside))

  abbrev world : ℕ → World
  world i = world_of (kinds_of core.objects) (trace i) (run.state i) (instant_by i (cases_lt i n))

  world_is : (i : ℕ) (inside : i < n) → world i ≡ world_of (kinds_of core.objects) (trace i) (run.state i) (run.clock i inside).settled.instant
  world_is i inside = ap (world_of (kinds_of core.objects) (trace i) (run.state i)) (same_by i inside (cases_lt i n))

  abbrev clocks : Clocks
  clocks = record { world = world; leaves = λ i. front (resolved (world i) (run.state i).rest) }

  rest_next : (t : ℕ) → t < n → (run.state (suc t)).rest ≡ behind_edge (world t) (front (resolved (world t) (run.state t).rest)) (resolved (world t) (run.state t).rest)
  rest_next t inside = ap (λ (s : State). s.rest) (run.clock t inside).next ∙ ap (λ w. behind_edge w (front (resolved w (run.state t).rest)) (resolved w (run.state t).rest)) (sym (world_is t inside))

  -- what the program stands at is what is left of it, resolved
  current_is : (t : ℕ) → t < n → current (world t) (first_state core).rest (is_first t) (token_at clocks (first_state core).rest is_first t) ≡ resolved (world t) (run.state t).rest
  current_is zero inside = ap (λ (s : State). resolved (world zero) s.rest) (sym run.first)
  current_is (suc t) inside =
      let r : Residual = (first_state core).rest in
      ap (λ a. current (world (suc t)) r false (held_behind (world t) (front (resolved (world t) (run.state t).rest)) a)) (current_is t (omega (arith, inside)))
      ∙ left_next (world t) (world (suc t)) (front (resolved (world t) (run.state t).rest)) r (resolved (world t) (run.state t).rest)
      ∙ ap (resolved (world (suc t))) (sym (rest_next t (omega (arith, inside))))

  right_clocks : (at : ObjectNets) (h : History) (t : ℕ) → t < n → AreRight core at trace n run h t → (i : ℕ) → i < suc t → IsRight (kinds_of core.objects) at (world i) (h i)
  right_clocks at h t inside right i within =
      let low : i < n = omega (arith, inside, within) in
      subst (λ w. IsRight (kinds_of core.objects) at w (h i)) (sym (world_is i low)) (right i low (omega (arith, within)))

pub stands_at_front : (core : Core) (at : ObjectNets) (low first : ℕ) (old mid new : Circuit) (before after : Started) (ends : Ends)
    → HasFirst low first old mid → IsNever old.nodes low → (b : Builds (kinds_of core.objects) at (statement core.main) first mid new before after ends)
    → StandAtFront core at new.nodes b.starts
stands_at_front core at low first old mid new before after ends has never b trace h e n run t inside right =
    stands core at low first old mid new before after ends has never b (clocks core trace n run) trace h e t (right_clocks core trace n run at h t inside right)
    ∙ ap front (current_is core trace n run t inside)
    ∙ ap (λ w. front (resolved w (run.state t).rest)) (world_is core trace n run t inside)

-- ---- all of it

pub main_starts : (core : Core) (at : ObjectNets) (first : ℕ) (old mid new : Circuit) (before after : Started) (ends : Ends) → CanControl core at old
    → before.next ≡ 1 → before.starts ≡ [] → HasFirst at.zero first old mid → Builds (kinds_of core.objects) at (statement core.main) first mid new before after ends
    → StartsMain core at old new after.starts
main_starts core at first old mid new before after ends can next none has b =
    let kinds = kinds_of core.objects in
    let flop : Node = first_flop at.zero in
    let part = b.adds.part in
    let nodes : new.nodes ≡ old.nodes ++ (flop ∷ part.added) =
    part.nodes ∙ ap (λ l. l ++ part.added) has.nodes ∙ append_assoc old.nodes (flop ∷ []) part.added in
    let starts : after.starts ≡ b.starts = b.put ∙ ap (λ l. l ++ b.starts) none in
    record {
      added = flop ∷ part.added;
      nodes = nodes;
      parts = All-cons (IsClosed new.nodes) flop part.added tt (none_open new.nodes (length mid.nodes) part.added part.parts);
      ranks = ranks_then old.nodes mid.nodes new.nodes part.added part.nodes
          (ranks_none IsPart (λ rank d is. is) old.nodes (flop ∷ []) mid.nodes has.nodes (all_one IsPart flop tt)) b.adds.ranks;
      size = let size = part.size in omega arith;
      gates = part.gates;
      tokens = ap (λ l. (Token 0, true) ∷ l) (part.tokens ∙ ap (λ n. tokens_from n (statement_flops (statement core.main))) next);
      clock = part.clock ∙ has.clock;
      ports = part.ports ∙ has.ports;
      starts_there = subst (λ l. All (λ k. k < length new.nodes) l) (sym starts) b.circuit.starts_there;
      count = ap length starts ∙ b.circuit.count 0;
      front_is = subst (StandAtFront core at new.nodes) (sym starts) (stands_at_front core at at.zero first old mid new before after ends has can.reads.places.zero b);
    }
