-- Two statements in sequence.
use Rattle.std.proofs.Common.{◌≡◌, ℕ, List, [], ◌∷◌, ◌++◌, Bool, true, false, ◌&&◌, ◌||◌, if◌then◌else◌, Option, Some, None, refl, ap, sym, ◌∙◌}
use Rattle.hc_meaning.specs.Residual.{Residual, Skip, Then}
use Rattle.hc_meaning.specs.Value.{World}
use Rattle.hc_meaning.specs.Control.{resolved, followed_by, front, evaluated, is_skip, Condition, Leaf}
use Rattle.hc_meaning.specs.Clock.{behind_edge}
use Rattle.std.proofs.lemmas.List.{append-nil}
use Rattle.hc_control.specs.Token.{Clocks, current, held_behind, token_at, ends, IsFair, IsFairBefore, asked, SameMembers, Follows}
use Rattle.hc_control.proofs.Members.{same_refl, same_trans, same_append, empty, at, plus, same_by}
use Rattle.hc_control.proofs.Steps.{skip_is, both_first, both_second, or_false, or_true, both_if, fair_at_first, fair_next, over_clocks, IsFree, current_nowhere, current_held, free_nowhere, free_idle, free_ended}

-- what is left of the whole, of its first part and of its second part b
data Held (b : Residual) : Option Residual → Option Residual → Option Residual → Type 0 where
  nowhere : Held b None None None
  in_first : (p : Residual) → Held b (Some (Then p b)) (Some p) None
  in_second : (r : Residual) → Held b (Some r) None (Some r)

-- what the whole, its first part and its second part b stand at
data Stands (b : Residual) : Residual → Residual → Residual → Type 0 where
  at_first : (x : Residual) → is_skip x ≡ false → Stands b (Then x b) x Skip
  at_second : (y : Residual) → Stands b y Skip y

-- the second part starts where nothing of the first part is left
stands_in_order : (b x y : Residual) (over : Bool) → over ≡ is_skip x → Stands b (followed_by x y b) x (if over then y else Skip)
stands_in_order b x y true is = rw (skip_is x (sym is)) (at_second y)
stands_in_order b x y false is = rw (← is) (at_first x (sym is))

-- the same where the second part takes no clock
stands_passing : (b x : Residual) (over : Bool) → over ≡ is_skip x → Stands b (followed_by x Skip b) x Skip
stands_passing b x true is = rw (skip_is x (sym is)) (at_second Skip)
stands_passing b x false is = rw (← is) (at_first x (sym is))

over_in_order : (x y b : Residual) (over : Bool) → over ≡ is_skip x → is_skip (followed_by x y b) ≡ (is_skip x && is_skip y)
over_in_order x y b true is = rw (← is) refl
over_in_order x y b false is = rw (← is) refl

behind_one : (w : World) (leaves : List Leaf) (b x : Residual) (over : Bool) → over ≡ is_skip x → Held b (held_behind w leaves x) None (held_behind w leaves x)
behind_one w leaves b x true is = rw (← is) nowhere
behind_one w leaves b x false is = rw (← is) (in_second (behind_edge w leaves x))

behind : (w : World) (leaves : List Leaf) (b x y z : Residual) → Stands b x y z → Held b (held_behind w leaves x) (held_behind w leaves y) (held_behind w leaves z)
behind w leaves b x y z (at_first first is) = rw is (in_first (behind_edge w leaves first))
behind w leaves b x y z (at_second second) = behind_one w leaves b second (is_skip second) refl

-- ---- one clock

record Clock (w : World) (a b : Residual) (start start_b : Bool) (held held_a held_b : Option Residual) : Type 0 where
  free_a : IsFree w start held_a
  free_b : IsFree w start_b held_b
  stands : Stands b (current w (Then a b) start held) (current w a start held_a) (current w b start_b held_b)

one_clock : (w : World) (a b : Residual) (start pass_a finish_a start_b : Bool) (held held_a held_b : Option Residual) → Held b held held_a held_b
    → (start ≡ true → pass_a ≡ is_skip (resolved w a)) → finish_a ≡ ends w held_a → start_b ≡ (finish_a || (start && pass_a)) → IsFree w start held
    → Clock w a b start start_b held held_a held_b
one_clock w a b true pass_a finish_a start_b held held_a held_b nowhere passes finishes starts free = record {
  free_a = free_nowhere w true;
  free_b = free_nowhere w start_b;
  stands = rw (current_nowhere w b start_b) (stands_in_order b (resolved w a) (resolved w b) start_b (rw (starts, finishes) (passes refl)));
}
one_clock w a b false pass_a finish_a start_b held held_a held_b nowhere passes finishes starts free = record {
  free_a = free_nowhere w false;
  free_b = free_nowhere w start_b;
  stands = rw (starts, finishes) (at_second Skip);
}
one_clock w a b true pass_a finish_a start_b held held_a held_b (in_first p) passes finishes starts free =
    let ended = sym (over_in_order (resolved w p) (resolved w b) b (is_skip (resolved w p)) refl) ∙ free refl (Then p b) refl in
    let first = both_first (is_skip (resolved w p)) (is_skip (resolved w b)) ended in
    let second = skip_is (resolved w b) (both_second (is_skip (resolved w p)) (is_skip (resolved w b)) ended) in
    record {
      free_a = free_ended w true p first;
      free_b = free_nowhere w start_b;
      stands = rw (starts, finishes, first, second) (stands_passing b (resolved w a) (is_skip (resolved w a)) refl);
    }
one_clock w a b false pass_a finish_a start_b held held_a held_b (in_first p) passes finishes starts free = record {
  free_a = free_idle w (Some p);
  free_b = free_nowhere w start_b;
  stands = rw (current_nowhere w b start_b) (stands_in_order b (resolved w p) (resolved w b) start_b (rw (starts, finishes) (or_false (is_skip (resolved w p)))));
}
one_clock w a b true pass_a finish_a start_b held held_a held_b (in_second r) passes finishes starts free =
    let ended = free refl r refl in
    record {
      free_a = free_nowhere w true;
      free_b = free_ended w start_b r ended;
      stands = rw (current_held w b start_b r, skip_is (resolved w r) ended)
          (stands_in_order b (resolved w a) (resolved w b) start_b (rw (starts, finishes) (passes refl)));
    }
one_clock w a b false pass_a finish_a start_b held held_a held_b (in_second r) passes finishes starts free = record {
  free_a = free_nowhere w false;
  free_b = rw (starts, finishes) (free_idle w (Some r));
  stands = rw (starts, finishes) (at_second (resolved w r));
}

ends_in_order : (w : World) (b : Residual) (finish_a finish_b pass_b : Bool) (held held_a held_b : Option Residual) → Held b held held_a held_b
    → finish_a ≡ ends w held_a → finish_b ≡ ends w held_b → (finish_a ≡ true → pass_b ≡ is_skip (resolved w b)) → (finish_b || (finish_a && pass_b)) ≡ ends w held
ends_in_order w b finish_a finish_b pass_b held held_a held_b nowhere first second passes = rw (first, second) refl
ends_in_order w b finish_a finish_b pass_b held held_a held_b (in_first p) first second passes =
    rw second (both_if finish_a pass_b (is_skip (resolved w p)) (is_skip (resolved w b)) first (λ over. passes (first ∙ over))
    ∙ sym (over_in_order (resolved w p) (resolved w b) b (is_skip (resolved w p)) refl))
ends_in_order w b finish_a finish_b pass_b held held_a held_b (in_second r) first second passes = rw (first, second) (or_false (is_skip (resolved w r)))

shown_in_order : (b x y z : Residual) → Stands b x y z → (front y ++ front z) ≡ front x
shown_in_order b x y z (at_first first is) = append-nil (front first)
shown_in_order b x y z (at_second second) = refl

-- what both parts ask, where the rest p of the first part is over or not and the first part starts anew
asked_again : (over passed : Bool) (p a b : List Condition)
    → SameMembers ((p ++ a) ++ (if over || passed then b else [])) ((p ++ (if over then b else [])) ++ (a ++ (if passed then b else [])))
asked_again true true p a b =
    same_by (p ∷ a ∷ b ∷ []) (plus (plus (at 0) (at 1)) (at 2)) (plus (plus (at 0) (at 2)) (plus (at 1) (at 2))) refl refl
asked_again true false p a b =
    same_by (p ∷ a ∷ b ∷ []) (plus (plus (at 0) (at 1)) (at 2)) (plus (plus (at 0) (at 2)) (plus (at 1) empty)) refl refl
asked_again false true p a b =
    same_by (p ∷ a ∷ b ∷ []) (plus (plus (at 0) (at 1)) (at 2)) (plus (plus (at 0) empty) (plus (at 1) (at 2))) refl refl
asked_again false false p a b =
    same_by (p ∷ a ∷ b ∷ []) (plus (plus (at 0) (at 1)) empty) (plus (plus (at 0) empty) (plus (at 1) empty)) refl refl

-- the same where nothing starts
asked_on : (over : Bool) (p b : List Condition)
    → SameMembers ((p ++ []) ++ (if over || false then b else [])) ((p ++ (if over then b else [])) ++ [])
asked_on true p b = same_by (p ∷ b ∷ []) (plus (plus (at 0) empty) (at 1)) (plus (plus (at 0) (at 1)) empty) refl refl
asked_on false p b = same_refl ((p ++ []) ++ [])

asked_in_order : (w : World) (a b : Residual) (start pass_a finish_a start_b : Bool) (held held_a held_b : Option Residual) → Held b held held_a held_b
    → (start ≡ true → pass_a ≡ is_skip (resolved w a)) → finish_a ≡ ends w held_a → start_b ≡ (finish_a || (start && pass_a))
    → SameMembers (asked w a start held_a ++ asked w b start_b held_b) (asked w (Then a b) start held)
asked_in_order w a b true pass_a finish_a start_b held held_a held_b nowhere passes finishes starts =
    rw (starts, finishes, passes refl) (same_refl (evaluated w (Then a b)))
asked_in_order w a b false pass_a finish_a start_b held held_a held_b nowhere passes finishes starts =
    rw (starts, finishes) (same_refl [])
asked_in_order w a b true pass_a finish_a start_b held held_a held_b (in_first p) passes finishes starts =
    rw (starts, finishes, passes refl) (asked_again (is_skip (resolved w p)) (is_skip (resolved w a)) (evaluated w p) (evaluated w a) (evaluated w b))
asked_in_order w a b false pass_a finish_a start_b held held_a held_b (in_first p) passes finishes starts =
    rw (starts, finishes) (asked_on (is_skip (resolved w p)) (evaluated w p) (evaluated w b))
asked_in_order w a b true pass_a finish_a start_b held held_a held_b (in_second r) passes finishes starts =
    rw (starts, finishes, passes refl) (same_by (evaluated w a ∷ evaluated w r ∷ (if is_skip (resolved w a) then evaluated w b else []) ∷ [])
    (plus (at 0) (plus (at 1) (at 2))) (plus (at 1) (plus (at 0) (at 2))) refl refl)
asked_in_order w a b false pass_a finish_a start_b held held_a held_b (in_second r) passes finishes starts =
    rw (starts, finishes) (same_refl (evaluated w r ++ []))

-- a part starts where another ends, or goes through at once
starts_by : (finish start pass : Bool) → start ≡ true → pass ≡ true → (finish || (start && pass)) ≡ true
starts_by finish start pass p q = rw (p, q) (or_true finish)

-- ---- all clocks

-- what is known of both parts behind the clocks before t
record Order (c : Clocks) (Good : ℕ → Type 0) (a b : Residual) (start start_b : ℕ → Bool) (t : ℕ) : Type 0 where
  held : Held b (token_at c (Then a b) start t) (token_at c a start t) (token_at c b start_b t)
  before_a : IsFairBefore c Good a start t
  before_b : IsFairBefore c Good b start_b t

module _ (c : Clocks) (Good : ℕ → Type 0) (a b : Residual) (start pass finish pass_a finish_a start_b pass_b finish_b : ℕ → Bool) (enabled_a enabled_b : ℕ → List Leaf)
    (tested_a tested_b : ℕ → List Condition) (follows_a : Follows c Good a start pass_a finish_a enabled_a tested_a)
    (follows_b : Follows c Good b start_b pass_b finish_b enabled_b tested_b)
    (starts : (t : ℕ) → start_b t ≡ (finish_a t || (start t && pass_a t))) (passes : (t : ℕ) → pass t ≡ (pass_a t && pass_b t))
    (finishes : (t : ℕ) → finish t ≡ (finish_b t || (finish_a t && pass_b t))) where
  clock_at : (t : ℕ) → Good t → IsFair c (Then a b) start t → Order c Good a b start start_b t
      → Clock (c.world t) a b (start t) (start_b t) (token_at c (Then a b) start t) (token_at c a start t) (token_at c b start_b t)
  clock_at t good fair o =
      one_clock (c.world t) a b (start t) (pass_a t) (finish_a t) (start_b t) (token_at c (Then a b) start t) (token_at c a start t) (token_at c b start_b t) o.held
      (follows_a.passes t o.before_a good) (follows_a.finishes t o.before_a good) (starts t) fair

  order_at : (t : ℕ) → IsFairBefore c Good (Then a b) start t → Order c Good a b start start_b t
  order_at = over_clocks c Good (Then a b) start (Order c Good a b start start_b)
      (record { held = nowhere; before_a = fair_at_first c Good a start; before_b = fair_at_first c Good b start_b })
      (λ t good fair o. let clock = clock_at t good fair o in record {
        held = behind (c.world t) (c.leaves t) b _ _ _ clock.stands;
        before_a = fair_next c Good a start t o.before_a good clock.free_a;
        before_b = fair_next c Good b start_b t o.before_b good clock.free_b;
      })

  passes_at : (t : ℕ) → Good t → Order c Good a b start start_b t → start t ≡ true → pass t ≡ is_skip (resolved (c.world t) (Then a b))
  passes_at t good o is =
      passes t
      ∙ both_if (pass_a t) (pass_b t) (is_skip (resolved (c.world t) a)) (is_skip (resolved (c.world t) b)) (follows_a.passes t o.before_a good is)
      (λ over. follows_b.passes t o.before_b good (starts t ∙ starts_by (finish_a t) (start t) (pass_a t) is (follows_a.passes t o.before_a good is ∙ over)))
      ∙ sym (over_in_order (resolved (c.world t) a) (resolved (c.world t) b) b (is_skip (resolved (c.world t) a)) refl)

  finishes_at : (t : ℕ) → Good t → Order c Good a b start start_b t → finish t ≡ ends (c.world t) (token_at c (Then a b) start t)
  finishes_at t good o =
      finishes t
      ∙ ends_in_order (c.world t) b (finish_a t) (finish_b t) (pass_b t) _ _ _ o.held (follows_a.finishes t o.before_a good) (follows_b.finishes t o.before_b good)
      (λ over. follows_b.passes t o.before_b good (starts t ∙ ap (λ f. f || (start t && pass_a t)) over))

  enables_at : (t : ℕ) → Good t → IsFair c (Then a b) start t → Order c Good a b start start_b t
      → (enabled_a t ++ enabled_b t) ≡ front (current (c.world t) (Then a b) (start t) (token_at c (Then a b) start t))
  enables_at t good fair o =
      let clock = clock_at t good fair o in
      rw (follows_a.enables t o.before_a good clock.free_a, follows_b.enables t o.before_b good clock.free_b) (shown_in_order b _ _ _ clock.stands)

  tests_at : (t : ℕ) → Good t → IsFair c (Then a b) start t → Order c Good a b start start_b t
      → SameMembers (tested_a t ++ tested_b t) (asked (c.world t) (Then a b) (start t) (token_at c (Then a b) start t))
  tests_at t good fair o =
      let clock = clock_at t good fair o in
      same_trans (same_append (follows_a.tests t o.before_a good clock.free_a) (follows_b.tests t o.before_b good clock.free_b))
      (asked_in_order (c.world t) a b (start t) (pass_a t) (finish_a t) (start_b t) _ _ _ o.held (follows_a.passes t o.before_a good) (follows_a.finishes t o.before_a good) (starts t))

  pub follows_then : Follows c Good (Then a b) start pass finish (λ t. enabled_a t ++ enabled_b t) (λ t. tested_a t ++ tested_b t)
  follows_then = record {
    passes = λ t before good. passes_at t good (order_at t before);
    finishes = λ t before good. finishes_at t good (order_at t before);
    enables = λ t before good fair. enables_at t good fair (order_at t before);
    tests = λ t before good fair. tests_at t good fair (order_at t before);
  }
