-- Loops whose body takes at least one clock.
use Rattle.std.proofs.Common.{◌≡◌, ℕ, List, [], ◌∷◌, ◌++◌, Bool, true, false, not, ◌&&◌, ◌||◌, if◌then◌else◌, Option, Some, None, refl, ap, sym, ◌∙◌}
use Rattle.hc_core.specs.Program.{Expression}
use Rattle.hc_meaning.specs.Residual.{Residual, Skip, Then, While, DoWhile}
use Rattle.hc_meaning.specs.Value.{World, number_of, holds}
use Rattle.hc_meaning.specs.Control.{resolved, followed_by, looped, front, evaluated, is_skip, Condition, Leaf}
use Rattle.hc_meaning.specs.Clock.{behind_edge}
use Rattle.hc_control.specs.Token.{Clocks, current, held_behind, token_at, ends, IsFair, IsFairBefore, asked, SameMembers, Follows}
use Rattle.hc_control.proofs.Members.{same_refl, same_trans, same_append, empty, at, plus, same_by}
use Rattle.hc_control.proofs.Steps.{skip_is, both_first, both_second, not_true, fair_at_first, fair_next, over_clocks, IsFree, current_nowhere, current_held, free_nowhere, free_ended, free_where}

-- what is left of the whole and of its body: the rest of the body, and the loop behind it
data Held (loop : Residual) : Option Residual → Option Residual → Type 0 where
  nowhere : Held loop None None
  in_body : (p : Residual) → Held loop (Some (Then p loop)) (Some p)

-- what the whole and its body stand at
data Stands (loop : Residual) : Residual → Residual → Type 0 where
  at_nothing : Stands loop Skip Skip
  at_body : (x : Residual) → is_skip x ≡ false → Stands loop (Then x loop) x

behind : (w : World) (leaves : List Leaf) (loop x y : Residual) → Stands loop x y → Held loop (held_behind w leaves x) (held_behind w leaves y)
behind w leaves loop x y at_nothing = nowhere
behind w leaves loop x y (at_body body is) = rw is (in_body (behind_edge w leaves body))

shown : (loop x y : Residual) → Stands loop x y → front y ≡ front x
shown loop x y at_nothing = refl
shown loop x y (at_body body is) = refl

-- a loop, where its condition is tested
tested : (w : World) (n : ℕ) (e : Expression) (body loop : Residual) (condition : Bool) → condition ≡ holds (number_of w e) → is_skip (resolved w body) ≡ false
    → Stands loop (looped (holds (number_of w e)) (resolved w body) loop) (if condition then resolved w body else Skip)
tested w n e body loop true is takes = rw (← is, takes) (at_body (resolved w body) takes)
tested w n e body loop false is takes = rw (← is) at_nothing

-- it is passed where the condition doesn't hold
passed : (goes_on : Bool) (x loop : Residual) → is_skip x ≡ false → is_skip (looped goes_on x loop) ≡ not goes_on
passed true x loop takes = rw takes refl
passed false x loop takes = refl

-- the rest of a body goes on
going : (x next loop : Residual) → is_skip x ≡ false → Stands loop (followed_by x next loop) x
going x next loop is = rw is (at_body x is)

over_in_loop : (x next loop : Residual) (ended : Bool) → ended ≡ is_skip x → is_skip (followed_by x next loop) ≡ (is_skip x && is_skip next)
over_in_loop x next loop true is = rw (← is) refl
over_in_loop x next loop false is = rw (← is) refl

-- ---- one clock

record Clock (w : World) (loop whole body : Residual) (start start_body : Bool) (held held_body : Option Residual) : Type 0 where
  free : IsFree w start_body held_body
  stands : Stands loop (current w whole start held) (current w body start_body held_body)

-- the body starts again in the clock in which it ends, where the condition holds
again : (w : World) (n : ℕ) (e : Expression) (body p : Residual) (condition ended : Bool) → condition ≡ holds (number_of w e) → is_skip (resolved w body) ≡ false
    → ended ≡ is_skip (resolved w p)
    → Stands (While n e body) (followed_by (resolved w p) (resolved w (While n e body)) (While n e body)) (current w body (ended && condition) (Some p))
again w n e body p condition true is takes over =
    rw (current_held w body condition p, skip_is (resolved w p) (sym over)) (tested w n e body (While n e body) condition is takes)
again w n e body p condition false is takes over = going (resolved w p) (resolved w (While n e body)) (While n e body) (sym over)

-- where a loop may start, the rest of its body ends, and its condition doesn't hold
record Ended (w : World) (n : ℕ) (e : Expression) (p : Residual) : Type 0 where
  body : is_skip (resolved w p) ≡ true
  test : holds (number_of w e) ≡ false

ended_loop : (w : World) (n : ℕ) (e : Expression) (body p : Residual) → is_skip (resolved w body) ≡ false → IsFree w true (Some (Then p (While n e body))) → Ended w n e p
ended_loop w n e body p takes free =
    let loop = While n e body in
    let over = sym (over_in_loop (resolved w p) (resolved w loop) loop (is_skip (resolved w p)) refl) ∙ free refl (Then p loop) refl in
    record {
      body = both_first (is_skip (resolved w p)) (is_skip (resolved w loop)) over;
      test = not_true (holds (number_of w e))
          (sym (passed (holds (number_of w e)) (resolved w body) loop takes) ∙ both_second (is_skip (resolved w p)) (is_skip (resolved w loop)) over);
    }

while_clock : (w : World) (n : ℕ) (e : Expression) (body : Residual) (condition start start_body finish_body : Bool) (held held_body : Option Residual)
    → is_skip (resolved w body) ≡ false → condition ≡ holds (number_of w e) → start_body ≡ ((start || finish_body) && condition) → finish_body ≡ ends w held_body
    → IsFree w start held → Held (While n e body) held held_body → Clock w (While n e body) (While n e body) body start start_body held held_body
while_clock w n e body condition true start_body finish_body held held_body takes is starts finishes free nowhere = record {
  free = free_nowhere w start_body;
  stands = rw (starts, current_nowhere w body condition) (tested w n e body (While n e body) condition is takes);
}
while_clock w n e body condition false start_body finish_body held held_body takes is starts finishes free nowhere = record {
  free = free_nowhere w start_body;
  stands = rw (starts, finishes) at_nothing;
}
while_clock w n e body condition true start_body finish_body held held_body takes is starts finishes free (in_body p) =
    let ended = ended_loop w n e body p takes free in
    record {
      free = free_ended w start_body p ended.body;
      stands = rw (starts, is, ended.test, skip_is (resolved w p) ended.body) at_nothing;
    }
while_clock w n e body condition false start_body finish_body held held_body takes is starts finishes free (in_body p) = record {
  free = free_where w start_body p (λ on. both_first (is_skip (resolved w p)) condition (ap (λ f. f && condition) (sym finishes) ∙ sym starts ∙ on));
  stands = rw (starts, finishes) (again w n e body p condition (is_skip (resolved w p)) is takes refl);
}

do_clock : (w : World) (n : ℕ) (e : Expression) (body : Residual) (condition start start_body finish_body : Bool) (held held_body : Option Residual)
    → is_skip (resolved w body) ≡ false → condition ≡ holds (number_of w e) → start_body ≡ (start || (finish_body && condition)) → finish_body ≡ ends w held_body
    → IsFree w start held → Held (While n e body) held held_body → Clock w (While n e body) (DoWhile body n e) body start start_body held held_body
do_clock w n e body condition true start_body finish_body held held_body takes is starts finishes free nowhere = record {
  free = free_nowhere w start_body;
  stands = rw (starts, takes) (at_body (resolved w body) takes);
}
do_clock w n e body condition false start_body finish_body held held_body takes is starts finishes free nowhere = record {
  free = free_nowhere w start_body;
  stands = rw (starts, finishes) at_nothing;
}
do_clock w n e body condition true start_body finish_body held held_body takes is starts finishes free (in_body p) = record {
  free = free_ended w start_body p (ended_loop w n e body p takes free).body;
  stands = rw (starts, takes) (at_body (resolved w body) takes);
}
do_clock w n e body condition false start_body finish_body held held_body takes is starts finishes free (in_body p) = record {
  free = free_where w start_body p (λ on. both_first (is_skip (resolved w p)) condition (ap (λ f. f && condition) (sym finishes) ∙ sym starts ∙ on));
  stands = rw (starts, finishes) (again w n e body p condition (is_skip (resolved w p)) is takes refl);
}

ends_in_loop : (w : World) (n : ℕ) (e : Expression) (body : Residual) (condition finish_body : Bool) (held held_body : Option Residual) → is_skip (resolved w body) ≡ false
    → condition ≡ holds (number_of w e) → finish_body ≡ ends w held_body → Held (While n e body) held held_body → (finish_body && not condition) ≡ ends w held
ends_in_loop w n e body condition finish_body held held_body takes is finishes nowhere = rw finishes refl
ends_in_loop w n e body condition finish_body held held_body takes is finishes (in_body p) =
    let loop = While n e body in
    rw (finishes, is) (ap (λ x. is_skip (resolved w p) && x) (sym (passed (holds (number_of w e)) (resolved w body) loop takes))
    ∙ sym (over_in_loop (resolved w p) (resolved w loop) loop (is_skip (resolved w p)) refl))

-- ---- what is asked

-- a loop that starts, where nothing is left of it
asked_first : (start condition : Bool) (q : Condition) (b : List Condition)
    → SameMembers ((if start || false then q ∷ [] else []) ++ (if (start || false) && condition then b else []))
    (if start then q ∷ (if condition then b else []) else [])
asked_first true condition q b = same_refl (q ∷ (if condition then b else []))
asked_first false condition q b = same_refl []

-- a loop where the rest p of its body is over or not
asked_while : (start over condition : Bool) (q : Condition) (p b : List Condition)
    → SameMembers ((if start || over then q ∷ [] else []) ++ (p ++ (if (start || over) && condition then b else [])))
    ((p ++ (if over then q ∷ (if condition then b else []) else [])) ++ (if start then q ∷ (if condition then b else []) else []))
asked_while true true true q p b =
    same_by ((q ∷ []) ∷ p ∷ b ∷ []) (plus (at 0) (plus (at 1) (at 2))) (plus (plus (at 1) (plus (at 0) (at 2))) (plus (at 0) (at 2))) refl refl
asked_while true true false q p b =
    same_by ((q ∷ []) ∷ p ∷ []) (plus (at 0) (plus (at 1) empty)) (plus (plus (at 1) (at 0)) (at 0)) refl refl
asked_while true false true q p b =
    same_by ((q ∷ []) ∷ p ∷ b ∷ []) (plus (at 0) (plus (at 1) (at 2))) (plus (plus (at 1) empty) (plus (at 0) (at 2))) refl refl
asked_while true false false q p b =
    same_by ((q ∷ []) ∷ p ∷ []) (plus (at 0) (plus (at 1) empty)) (plus (plus (at 1) empty) (at 0)) refl refl
asked_while false true true q p b =
    same_by ((q ∷ []) ∷ p ∷ b ∷ []) (plus (at 0) (plus (at 1) (at 2))) (plus (plus (at 1) (plus (at 0) (at 2))) empty) refl refl
asked_while false true false q p b =
    same_by ((q ∷ []) ∷ p ∷ []) (plus (at 0) (plus (at 1) empty)) (plus (plus (at 1) (at 0)) empty) refl refl
asked_while false false condition q p b = same_by (p ∷ []) (plus (at 0) empty) (plus (plus (at 0) empty) empty) refl refl

-- the same of a loop that tests behind its body
asked_do : (start over condition : Bool) (q : Condition) (p b : List Condition)
    → SameMembers ((if over then q ∷ [] else []) ++ (p ++ (if start || (over && condition) then b else [])))
    ((p ++ (if over then q ∷ (if condition then b else []) else [])) ++ (if start then b ++ [] else []))
asked_do true true true q p b =
    same_by ((q ∷ []) ∷ p ∷ b ∷ []) (plus (at 0) (plus (at 1) (at 2))) (plus (plus (at 1) (plus (at 0) (at 2))) (plus (at 2) empty)) refl refl
asked_do true true false q p b =
    same_by ((q ∷ []) ∷ p ∷ b ∷ []) (plus (at 0) (plus (at 1) (at 2))) (plus (plus (at 1) (at 0)) (plus (at 2) empty)) refl refl
asked_do true false condition q p b =
    same_by (p ∷ b ∷ []) (plus (at 0) (at 1)) (plus (plus (at 0) empty) (plus (at 1) empty)) refl refl
asked_do false true true q p b =
    same_by ((q ∷ []) ∷ p ∷ b ∷ []) (plus (at 0) (plus (at 1) (at 2))) (plus (plus (at 1) (plus (at 0) (at 2))) empty) refl refl
asked_do false true false q p b =
    same_by ((q ∷ []) ∷ p ∷ []) (plus (at 0) (plus (at 1) empty)) (plus (plus (at 1) (at 0)) empty) refl refl
asked_do false false condition q p b = same_by (p ∷ []) (plus (at 0) empty) (plus (plus (at 0) empty) empty) refl refl

asked_do_first : (start : Bool) (b : List Condition) → SameMembers (if start || false then b else []) (if start then b ++ [] else [])
asked_do_first true b = same_by (b ∷ []) (at 0) (plus (at 0) empty) refl refl
asked_do_first false b = same_refl []

while_asked : (w : World) (n : ℕ) (e : Expression) (body : Residual) (condition start start_body finish_body : Bool) (held held_body : Option Residual)
    → condition ≡ holds (number_of w e) → start_body ≡ ((start || finish_body) && condition) → finish_body ≡ ends w held_body → Held (While n e body) held held_body
    → SameMembers ((if start || finish_body then record { number = n; value = e } ∷ [] else []) ++ asked w body start_body held_body) (asked w (While n e body) start held)
while_asked w n e body condition start start_body finish_body held held_body is starts finishes nowhere =
    rw (starts, finishes, ← is) (asked_first start condition (record { number = n; value = e }) (evaluated w body))
while_asked w n e body condition start start_body finish_body held held_body is starts finishes (in_body p) =
    rw (starts, finishes, ← is) (asked_while start (is_skip (resolved w p)) condition (record { number = n; value = e }) (evaluated w p) (evaluated w body))

do_asked : (w : World) (n : ℕ) (e : Expression) (body : Residual) (condition start start_body finish_body : Bool) (held held_body : Option Residual)
    → is_skip (resolved w body) ≡ false → condition ≡ holds (number_of w e) → start_body ≡ (start || (finish_body && condition)) → finish_body ≡ ends w held_body
    → Held (While n e body) held held_body
    → SameMembers ((if finish_body then record { number = n; value = e } ∷ [] else []) ++ asked w body start_body held_body) (asked w (DoWhile body n e) start held)
do_asked w n e body condition start start_body finish_body held held_body takes is starts finishes nowhere =
    rw (starts, finishes, takes) (asked_do_first start (evaluated w body))
do_asked w n e body condition start start_body finish_body held held_body takes is starts finishes (in_body p) =
    rw (starts, finishes, takes, ← is) (asked_do start (is_skip (resolved w p)) condition (record { number = n; value = e }) (evaluated w p) (evaluated w body))

-- ---- all clocks

-- what is known of the body behind the clocks before t
record Turns (c : Clocks) (Good : ℕ → Type 0) (loop whole body : Residual) (start start_body : ℕ → Bool) (t : ℕ) : Type 0 where
  held : Held loop (token_at c whole start t) (token_at c body start_body t)
  before : IsFairBefore c Good body start_body t

-- both loops, by what they do in one clock
module _ (c : Clocks) (Good : ℕ → Type 0) (n : ℕ) (e : Expression) (whole body : Residual) (condition start finish start_body pass_body finish_body : ℕ → Bool)
    (enabled_body : ℕ → List Leaf) (tested_body : ℕ → List Condition) (follows : Follows c Good body start_body pass_body finish_body enabled_body tested_body)
    (takes : (t : ℕ) → is_skip (resolved (c.world t) body) ≡ false) (tests : (t : ℕ) → Good t → condition t ≡ holds (number_of (c.world t) e))
    (finishes : (t : ℕ) → finish t ≡ (finish_body t && not (condition t)))
    (clock : (t : ℕ) → Good t → IsFair c whole start t → finish_body t ≡ ends (c.world t) (token_at c body start_body t)
    → Held (While n e body) (token_at c whole start t) (token_at c body start_body t)
    → Clock (c.world t) (While n e body) whole body (start t) (start_body t) (token_at c whole start t) (token_at c body start_body t)) where
  clock_at : (t : ℕ) → Good t → IsFair c whole start t → Turns c Good (While n e body) whole body start start_body t
      → Clock (c.world t) (While n e body) whole body (start t) (start_body t) (token_at c whole start t) (token_at c body start_body t)
  clock_at t good fair o = clock t good fair (follows.finishes t o.before good) o.held

  turns_at : (t : ℕ) → IsFairBefore c Good whole start t → Turns c Good (While n e body) whole body start start_body t
  turns_at = over_clocks c Good whole start (Turns c Good (While n e body) whole body start start_body)
      (record { held = nowhere; before = fair_at_first c Good body start_body })
      (λ t good fair o. let at = clock_at t good fair o in record {
        held = behind (c.world t) (c.leaves t) (While n e body) _ _ at.stands;
        before = fair_next c Good body start_body t o.before good at.free;
      })

  finishes_at : (t : ℕ) → IsFairBefore c Good whole start t → Good t → finish t ≡ ends (c.world t) (token_at c whole start t)
  finishes_at t before good =
      let o = turns_at t before in
      finishes t ∙ ends_in_loop (c.world t) n e body (condition t) (finish_body t) _ _ (takes t) (tests t good) (follows.finishes t o.before good) o.held

  enables_at : (t : ℕ) → IsFairBefore c Good whole start t → Good t → IsFair c whole start t
      → enabled_body t ≡ front (current (c.world t) whole (start t) (token_at c whole start t))
  enables_at t before good fair =
      let o = turns_at t before in
      let at = clock_at t good fair o in
      follows.enables t o.before good at.free ∙ shown (While n e body) _ _ at.stands

  -- the loop's own condition and those of its body, by what is asked in one clock
  tests_at : (own : ℕ → List Condition) → ((t : ℕ) → Good t → finish_body t ≡ ends (c.world t) (token_at c body start_body t)
      → Held (While n e body) (token_at c whole start t) (token_at c body start_body t)
      → SameMembers (own t ++ asked (c.world t) body (start_body t) (token_at c body start_body t)) (asked (c.world t) whole (start t) (token_at c whole start t)))
      → (t : ℕ) → IsFairBefore c Good whole start t → Good t → IsFair c whole start t
      → SameMembers (own t ++ tested_body t) (asked (c.world t) whole (start t) (token_at c whole start t))
  tests_at own asks t before good fair =
      let o = turns_at t before in
      let turn = clock_at t good fair o in
      same_trans (same_append (same_refl (own t)) (follows.tests t o.before good turn.free)) (asks t good (follows.finishes t o.before good) o.held)

pub follows_while : (c : Clocks) (Good : ℕ → Type 0) (n : ℕ) (e : Expression) (body : Residual) (condition start pass finish start_body pass_body finish_body : ℕ → Bool)
    (enabled_body : ℕ → List Leaf) (tested_body : ℕ → List Condition) → Follows c Good body start_body pass_body finish_body enabled_body tested_body
    → ((t : ℕ) → is_skip (resolved (c.world t) body) ≡ false) → ((t : ℕ) → Good t → condition t ≡ holds (number_of (c.world t) e))
    → ((t : ℕ) → start_body t ≡ ((start t || finish_body t) && condition t)) → ((t : ℕ) → pass t ≡ not (condition t))
    → ((t : ℕ) → finish t ≡ (finish_body t && not (condition t)))
    → Follows c Good (While n e body) start pass finish enabled_body (λ t. (if start t || finish_body t then record { number = n; value = e } ∷ [] else []) ++ tested_body t)
follows_while c Good n e body condition start pass finish start_body pass_body finish_body enabled_body tested_body follows takes tests starts passes finishes = record {
  passes = λ t before good is. rw (passes t, tests t good) (sym (passed (holds (number_of (c.world t) e)) (resolved (c.world t) body) (While n e body) (takes t)));
  finishes = finishes_at c Good n e (While n e body) body condition start finish start_body pass_body finish_body enabled_body tested_body follows takes tests finishes clock;
  enables = enables_at c Good n e (While n e body) body condition start finish start_body pass_body finish_body enabled_body tested_body follows takes tests finishes clock;
  tests = tests_at c Good n e (While n e body) body condition start finish start_body pass_body finish_body enabled_body tested_body follows takes tests finishes clock
      (λ t. if start t || finish_body t then record { number = n; value = e } ∷ [] else [])
      (λ t good ended held. while_asked (c.world t) n e body (condition t) (start t) (start_body t) (finish_body t) _ _ (tests t good) (starts t) ended held);
}
  where
    clock : (t : ℕ) → Good t → IsFair c (While n e body) start t → finish_body t ≡ ends (c.world t) (token_at c body start_body t)
        → Held (While n e body) (token_at c (While n e body) start t) (token_at c body start_body t)
        → Clock (c.world t) (While n e body) (While n e body) body (start t) (start_body t) (token_at c (While n e body) start t) (token_at c body start_body t)
    clock t good fair ended held = while_clock (c.world t) n e body (condition t) (start t) (start_body t) (finish_body t) _ _ (takes t) (tests t good) (starts t) ended fair held

pub follows_do : (c : Clocks) (Good : ℕ → Type 0) (n : ℕ) (e : Expression) (body : Residual) (condition start pass finish start_body pass_body finish_body : ℕ → Bool)
    (enabled_body : ℕ → List Leaf) (tested_body : ℕ → List Condition) → Follows c Good body start_body pass_body finish_body enabled_body tested_body
    → ((t : ℕ) → is_skip (resolved (c.world t) body) ≡ false) → ((t : ℕ) → Good t → condition t ≡ holds (number_of (c.world t) e))
    → ((t : ℕ) → start_body t ≡ (start t || (finish_body t && condition t))) → ((t : ℕ) → pass t ≡ false)
    → ((t : ℕ) → finish t ≡ (finish_body t && not (condition t)))
    → Follows c Good (DoWhile body n e) start pass finish enabled_body (λ t. (if finish_body t then record { number = n; value = e } ∷ [] else []) ++ tested_body t)
follows_do c Good n e body condition start pass finish start_body pass_body finish_body enabled_body tested_body follows takes tests starts passes finishes = record {
  passes = λ t before good is. rw (passes t, takes t) refl;
  finishes = finishes_at c Good n e (DoWhile body n e) body condition start finish start_body pass_body finish_body enabled_body tested_body follows takes tests finishes clock;
  enables = enables_at c Good n e (DoWhile body n e) body condition start finish start_body pass_body finish_body enabled_body tested_body follows takes tests finishes clock;
  tests = tests_at c Good n e (DoWhile body n e) body condition start finish start_body pass_body finish_body enabled_body tested_body follows takes tests finishes clock
      (λ t. if finish_body t then record { number = n; value = e } ∷ [] else [])
      (λ t good ended held. do_asked (c.world t) n e body (condition t) (start t) (start_body t) (finish_body t) _ _ (takes t) (tests t good) (starts t) ended held);
}
  where
    clock : (t : ℕ) → Good t → IsFair c (DoWhile body n e) start t → finish_body t ≡ ends (c.world t) (token_at c body start_body t)
        → Held (While n e body) (token_at c (DoWhile body n e) start t) (token_at c body start_body t)
        → Clock (c.world t) (While n e body) (DoWhile body n e) body (start t) (start_body t) (token_at c (DoWhile body n e) start t) (token_at c body start_body t)
    clock t good fair ended held = do_clock (c.world t) n e body (condition t) (start t) (start_body t) (finish_body t) _ _ (takes t) (tests t good) (starts t) ended fair held
