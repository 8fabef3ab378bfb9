-- A statement with two sides, of which a condition takes one.
use Rattle.std.proofs.Common.{◌≡◌, ℕ, List, [], ◌∷◌, ◌++◌, Bool, true, false, not, ◌&&◌, ◌||◌, if◌then◌else◌, Option, Some, None, refl, ◌∙◌}
use Rattle.std.proofs.lemmas.List.{append-nil}
use Rattle.hc_core.specs.Program.{Expression}
use Rattle.hc_meaning.specs.Residual.{Residual, Skip, If}
use Rattle.hc_meaning.specs.Value.{World, number_of, holds}
use Rattle.hc_meaning.specs.Control.{resolved, front, evaluated, is_skip, Condition, Leaf}
use Rattle.hc_control.specs.Token.{Clocks, current, held_behind, token_at, ends, IsFair, IsFairBefore, asked, SameMembers, Follows}
use Rattle.hc_control.proofs.Members.{same_refl, same_trans, same_append, empty, at, plus, same_by, rest_asked, asked_is}
use Rattle.hc_control.proofs.Steps.{or_false, fair_at_first, fair_next, over_clocks, IsFree, current_if, ended_now, free_nowhere, free_part}

-- what is left of the whole, of its first side and of its second side
data Held : Option Residual → Option Residual → Option Residual → Type 0 where
  in_first : (held : Option Residual) → Held held held None
  in_second : (held : Option Residual) → Held held None held

-- what the whole, its first side and its second side stand at
data Stands : Residual → Residual → Residual → Type 0 where
  at_first : (x : Residual) → Stands x x Skip
  at_second : (x : Residual) → Stands x Skip x

behind : (w : World) (leaves : List Leaf) (x y z : Residual) → Stands x y z → Held (held_behind w leaves x) (held_behind w leaves y) (held_behind w leaves z)
behind w leaves x y z (at_first first) = in_first (held_behind w leaves first)
behind w leaves x y z (at_second second) = in_second (held_behind w leaves second)

-- ---- one clock

record Clock (w : World) (n : ℕ) (e : Expression) (a b : Residual) (start start_a start_b : Bool) (held held_a held_b : Option Residual) : Type 0 where
  free_a : IsFree w start_a held_a
  free_b : IsFree w start_b held_b
  stands : Stands (current w (If n e a b) start held) (current w a start_a held_a) (current w b start_b held_b)

-- a start, where what is held stands at nothing any more
started : (w : World) (n : ℕ) (e : Expression) (a b : Residual) (condition : Bool) → condition ≡ holds (number_of w e) → (x y : Residual) → x ≡ Skip → y ≡ Skip
    → Stands (resolved w (If n e a b)) (if condition then resolved w a else x) (if not condition then resolved w b else y)
started w n e a b true is x y p q = rw (← is, q) (at_first (resolved w a))
started w n e a b false is x y p q = rw (← is, p) (at_second (resolved w b))

one_clock : (w : World) (n : ℕ) (e : Expression) (a b : Residual) (condition start start_a start_b : Bool) (held held_a held_b : Option Residual) → Held held held_a held_b
    → condition ≡ holds (number_of w e) → start_a ≡ (start && condition) → start_b ≡ (start && not condition) → IsFree w start held
    → Clock w n e a b start start_a start_b held held_a held_b
one_clock w n e a b condition true start_a start_b held held_a held_b (in_first was) is starts_a starts_b free = record {
  free_a = free_part w true condition start_a was starts_a free;
  free_b = free_nowhere w start_b;
  stands = rw (starts_a, starts_b, current_if w a condition was, current_if w b (not condition) None)
      (started w n e a b condition is (current w a false was) Skip (ended_now w a was free) refl);
}
one_clock w n e a b condition true start_a start_b held held_a held_b (in_second was) is starts_a starts_b free = record {
  free_a = free_nowhere w start_a;
  free_b = free_part w true (not condition) start_b was starts_b free;
  stands = rw (starts_a, starts_b, current_if w a condition None, current_if w b (not condition) was)
      (started w n e a b condition is Skip (current w b false was) refl (ended_now w b was free));
}
one_clock w n e a b condition false start_a start_b held held_a held_b (in_first None) is starts_a starts_b free = record {
  free_a = free_nowhere w start_a;
  free_b = free_nowhere w start_b;
  stands = rw (starts_a, starts_b) (at_first Skip);
}
one_clock w n e a b condition false start_a start_b held held_a held_b (in_first (Some r)) is starts_a starts_b free = record {
  free_a = free_part w false condition start_a (Some r) starts_a free;
  free_b = free_nowhere w start_b;
  stands = rw (starts_a, starts_b) (at_first (resolved w r));
}
one_clock w n e a b condition false start_a start_b held held_a held_b (in_second None) is starts_a starts_b free = record {
  free_a = free_nowhere w start_a;
  free_b = free_nowhere w start_b;
  stands = rw (starts_a, starts_b) (at_second Skip);
}
one_clock w n e a b condition false start_a start_b held held_a held_b (in_second (Some r)) is starts_a starts_b free = record {
  free_a = free_nowhere w start_a;
  free_b = free_part w false (not condition) start_b (Some r) starts_b free;
  stands = rw (starts_a, starts_b) (at_second (resolved w r));
}

passes_side : (w : World) (n : ℕ) (e : Expression) (a b : Residual) (condition pass_a pass_b : Bool) → condition ≡ holds (number_of w e)
    → (condition ≡ true → pass_a ≡ is_skip (resolved w a)) → (not condition ≡ true → pass_b ≡ is_skip (resolved w b))
    → ((condition && pass_a) || (not condition && pass_b)) ≡ is_skip (resolved w (If n e a b))
passes_side w n e a b true pass_a pass_b is first second = rw (← is) (or_false pass_a ∙ first refl)
passes_side w n e a b false pass_a pass_b is first second = rw (← is) (second refl)

ends_on_side : (w : World) (finish_a finish_b : Bool) (held held_a held_b : Option Residual) → Held held held_a held_b
    → finish_a ≡ ends w held_a → finish_b ≡ ends w held_b → (finish_a || finish_b) ≡ ends w held
ends_on_side w finish_a finish_b held held_a held_b (in_first was) first second = rw (first, second) (or_false (ends w was))
ends_on_side w finish_a finish_b held held_a held_b (in_second was) first second = rw (first, second) refl

shown_on_side : (x y z : Residual) → Stands x y z → (front y ++ front z) ≡ front x
shown_on_side x y z (at_first first) = append-nil (front first)
shown_on_side x y z (at_second second) = refl

-- what the rest r of the first side, the condition, the sides and the whole ask
asked_of_first : (start condition : Bool) (q : Condition) (r a b : List Condition)
    → SameMembers ((if start then q ∷ [] else []) ++ ((r ++ (if start && condition then a else [])) ++ (if start && not condition then b else [])))
    (r ++ (if start then q ∷ (if condition then a else b) else []))
asked_of_first true true q r a b =
    same_by ((q ∷ []) ∷ r ∷ a ∷ []) (plus (at 0) (plus (plus (at 1) (at 2)) empty)) (plus (at 1) (plus (at 0) (at 2))) refl refl
asked_of_first true false q r a b =
    same_by ((q ∷ []) ∷ r ∷ b ∷ []) (plus (at 0) (plus (plus (at 1) empty) (at 2))) (plus (at 1) (plus (at 0) (at 2))) refl refl
asked_of_first false condition q r a b = same_by (r ∷ []) (plus (plus (at 0) empty) empty) (plus (at 0) empty) refl refl

-- the same with the rest of the second side
asked_of_second : (start condition : Bool) (q : Condition) (r a b : List Condition)
    → SameMembers ((if start then q ∷ [] else []) ++ ((if start && condition then a else []) ++ (r ++ (if start && not condition then b else []))))
    (r ++ (if start then q ∷ (if condition then a else b) else []))
asked_of_second true true q r a b =
    same_by ((q ∷ []) ∷ r ∷ a ∷ []) (plus (at 0) (plus (at 2) (plus (at 1) empty))) (plus (at 1) (plus (at 0) (at 2))) refl refl
asked_of_second true false q r a b =
    same_by ((q ∷ []) ∷ r ∷ b ∷ []) (plus (at 0) (plus (at 1) (at 2))) (plus (at 1) (plus (at 0) (at 2))) refl refl
asked_of_second false condition q r a b = same_refl (r ++ [])

asked_on_side : (w : World) (n : ℕ) (e : Expression) (a b : Residual) (condition start start_a start_b : Bool) (held held_a held_b : Option Residual) → Held held held_a held_b
    → condition ≡ holds (number_of w e) → start_a ≡ (start && condition) → start_b ≡ (start && not condition)
    → SameMembers ((if start then record { number = n; value = e } ∷ [] else []) ++ (asked w a start_a held_a ++ asked w b start_b held_b)) (asked w (If n e a b) start held)
asked_on_side w n e a b condition start start_a start_b held held_a held_b (in_first was) is starts_a starts_b =
    rw (asked_is w (If n e a b) start was, asked_is w a start_a was, starts_a, starts_b, ← is)
    (asked_of_first start condition (record { number = n; value = e }) (rest_asked w was) (evaluated w a) (evaluated w b))
asked_on_side w n e a b condition start start_a start_b held held_a held_b (in_second was) is starts_a starts_b =
    rw (asked_is w (If n e a b) start was, asked_is w b start_b was, starts_a, starts_b, ← is)
    (asked_of_second start condition (record { number = n; value = e }) (rest_asked w was) (evaluated w a) (evaluated w b))

-- ---- all clocks

-- what is known of both sides behind the clocks before t
record Sides (c : Clocks) (Good : ℕ → Type 0) (s a b : Residual) (start start_a start_b : ℕ → Bool) (t : ℕ) : Type 0 where
  held : Held (token_at c s start t) (token_at c a start_a t) (token_at c b start_b t)
  before_a : IsFairBefore c Good a start_a t
  before_b : IsFairBefore c Good b start_b t

module _ (c : Clocks) (Good : ℕ → Type 0) (n : ℕ) (e : Expression) (a b : Residual) (condition start pass finish start_a pass_a finish_a start_b pass_b finish_b : ℕ → Bool)
    (enabled_a enabled_b : ℕ → List Leaf) (tested_a tested_b : ℕ → List Condition)
    (follows_a : Follows c Good a start_a pass_a finish_a enabled_a tested_a) (follows_b : Follows c Good b start_b pass_b finish_b enabled_b tested_b)
    (tests : (t : ℕ) → Good t → condition t ≡ holds (number_of (c.world t) e))
    (starts_a : (t : ℕ) → start_a t ≡ (start t && condition t)) (starts_b : (t : ℕ) → start_b t ≡ (start t && not (condition t)))
    (passes : (t : ℕ) → pass t ≡ ((condition t && pass_a t) || (not (condition t) && pass_b t))) (finishes : (t : ℕ) → finish t ≡ (finish_a t || finish_b t)) where
  clock_at : (t : ℕ) → Good t → IsFair c (If n e a b) start t → Sides c Good (If n e a b) a b start start_a start_b t
      → Clock (c.world t) n e a b (start t) (start_a t) (start_b t) (token_at c (If n e a b) start t) (token_at c a start_a t) (token_at c b start_b t)
  clock_at t good fair o =
      one_clock (c.world t) n e a b (condition t) (start t) (start_a t) (start_b t) (token_at c (If n e a b) start t) (token_at c a start_a t) (token_at c b start_b t) o.held
      (tests t good) (starts_a t) (starts_b t) fair

  sides_at : (t : ℕ) → IsFairBefore c Good (If n e a b) start t → Sides c Good (If n e a b) a b start start_a start_b t
  sides_at = over_clocks c Good (If n e a b) start (Sides c Good (If n e a b) a b start start_a start_b)
      (record { held = in_first None; before_a = fair_at_first c Good a start_a; before_b = fair_at_first c Good b start_b })
      (λ t good fair o. let clock = clock_at t good fair o in record {
        held = behind (c.world t) (c.leaves t) _ _ _ clock.stands;
        before_a = fair_next c Good a start_a t o.before_a good clock.free_a;
        before_b = fair_next c Good b start_b t o.before_b good clock.free_b;
      })

  passes_at : (t : ℕ) → Good t → Sides c Good (If n e a b) a b start start_a start_b t → start t ≡ true → pass t ≡ is_skip (resolved (c.world t) (If n e a b))
  passes_at t good o is =
      passes t
      ∙ passes_side (c.world t) n e a b (condition t) (pass_a t) (pass_b t) (tests t good)
      (λ first. follows_a.passes t o.before_a good (starts_a t ∙ rw (is, first) refl)) (λ second. follows_b.passes t o.before_b good (starts_b t ∙ rw (is, second) refl))

  finishes_at : (t : ℕ) → Good t → Sides c Good (If n e a b) a b start start_a start_b t → finish t ≡ ends (c.world t) (token_at c (If n e a b) start t)
  finishes_at t good o =
      finishes t
      ∙ ends_on_side (c.world t) (finish_a t) (finish_b t) _ _ _ o.held (follows_a.finishes t o.before_a good) (follows_b.finishes t o.before_b good)

  enables_at : (t : ℕ) → Good t → IsFair c (If n e a b) start t → Sides c Good (If n e a b) a b start start_a start_b t
      → (enabled_a t ++ enabled_b t) ≡ front (current (c.world t) (If n e a b) (start t) (token_at c (If n e a b) start t))
  enables_at t good fair o =
      let clock = clock_at t good fair o in
      rw (follows_a.enables t o.before_a good clock.free_a, follows_b.enables t o.before_b good clock.free_b) (shown_on_side _ _ _ clock.stands)

  tests_at : (t : ℕ) → Good t → IsFair c (If n e a b) start t → Sides c Good (If n e a b) a b start start_a start_b t
      → SameMembers ((if start t then record { number = n; value = e } ∷ [] else []) ++ (tested_a t ++ tested_b t))
      (asked (c.world t) (If n e a b) (start t) (token_at c (If n e a b) start t))
  tests_at t good fair o =
      let clock = clock_at t good fair o in
      same_trans (same_append (same_refl _) (same_append (follows_a.tests t o.before_a good clock.free_a) (follows_b.tests t o.before_b good clock.free_b)))
      (asked_on_side (c.world t) n e a b (condition t) (start t) (start_a t) (start_b t) _ _ _ o.held (tests t good) (starts_a t) (starts_b t))

  pub follows_if : Follows c Good (If n e a b) start pass finish (λ t. enabled_a t ++ enabled_b t)
      (λ t. (if start t then record { number = n; value = e } ∷ [] else []) ++ (tested_a t ++ tested_b t))
  follows_if = record {
    passes = λ t before good. passes_at t good (sides_at t before);
    finishes = λ t before good. finishes_at t good (sides_at t before);
    enables = λ t before good fair. enables_at t good fair (sides_at t before);
    tests = λ t before good fair. tests_at t good fair (sides_at t before);
  }
