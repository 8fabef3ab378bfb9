-- What decides a pass, and what a front and the evaluated conditions show of a node: two worlds v and w. In v only that is
-- asked which is used in the clock: conditions that are evaluated, and actions of the front.
use Rattle.std.proofs.Common.{◌≡◌, Bool, true, false, ◌&&◌, ◌||◌, not, List, [], ◌++◌, refl, sym, ap, ◌∙◌}
use Rattle.std.specs.Prelude.{if◌then◌else◌}
use Rattle.hc_num.specs.Number.{Number}
use Rattle.hc_tree.specs.declared.refusal.Node.{Node}
use Rattle.hc_core.specs.Program.{Expression}
use Rattle.hc_core.specs.Zero.{always_holds}
use Rattle.hc_core.specs.Instant.{deps}
use Rattle.hc_meaning.specs.Residual.{Action, Residual, Skip, Act, Prialt, PrialtElse, Then, Par, If, While, DoWhile, Switch, Branches, ended, ◌∥◌, Cases, Arms, no_arm, arm}
use Rattle.hc_meaning.specs.Value.{World, number_of, holds}
use Rattle.hc_meaning.specs.Control.{resolved, all_resolved, arm_resolved, default_resolved, is_skip, all_ended, looped, together, some_ready, chooses, is_chosen, Condition, evaluated, all_evaluated, arm_evaluated, default_evaluated, front, all_fronts}
use Rattle.hc_meaning.proofs.Sets.{zero, all_zero, some_zero, has_default, Waits, AllWait, ArmsWait, partners, passes, all_passes, arm_passes}
use Rattle.hc_meaning.proofs.Every.{Every, every_left, every_right, where_true, both_left, both_right, in_case}
use Rattle.hc_meaning.proofs.Waits.{waits, skip_is, followed_skip, together_skip, looped_skip}

-- whether a statement that starts now may act on a node, or evaluate a condition that does
abbrev mutual
  pub may : (Action → Bool) → (Expression → Bool) → Residual → Bool
  may f g Skip = false
  may f g (Act n a) = f a
  may f g (Prialt n cases) = false
  may f g (PrialtElse n cases other) = may f g other
  may f g (Then a b) = may f g a || (zero a && may f g b)
  may f g (Par branches) = some_may f g branches
  may f g (If n c a b) = g c || (may f g a || may f g b)
  may f g (While n c body) = g c || may f g body
  may f g (DoWhile body n c) = may f g body
  may f g (Switch n e arms) = g e || arm_may f g arms

  pub some_may : (Action → Bool) → (Expression → Bool) → Branches → Bool
  some_may f g ended = false
  some_may f g (first ∥ rest) = may f g first || some_may f g rest

  pub arm_may : (Action → Bool) → (Expression → Bool) → Arms → Bool
  arm_may f g no_arm = false
  arm_may f g (arm values other body rest) = may f g body || arm_may f g rest

pub skip_front : (r : Residual) → is_skip r ≡ true → front r ≡ []
skip_front r e = ap front (skip_is r e)

pub together_front : (bs : Branches) → front (together bs) ≡ all_fronts bs
together_front bs = by (all_ended bs) refl
  where
    none : (rs : Branches) → all_ended rs ≡ true → all_fronts rs ≡ []
    none ended e = refl
    none (first ∥ rest) e = rw (skip_front first (both_left (is_skip first) (all_ended rest) e), none rest (both_right (is_skip first) (all_ended rest) e)) refl

    by : (k : Bool) → all_ended bs ≡ k → front (if k then Skip else Par bs) ≡ all_fronts bs
    by true e = sym (none bs e)
    by false e = refl

-- a loop whose body takes a clock
pub looped_front : (h : Bool) (x l : Residual) → is_skip x ≡ false → front (looped h x l) ≡ front (if h then x else Skip)
looped_front h x l e = rw e (by h)
  where
    by : (k : Bool) → front (if k && true then Then x l else Skip) ≡ front (if k then x else Skip)
    by true = refl
    by false = refl

abbrev pub UsedIn : (Expression → Type 0) → List Condition → Type 0
UsedIn Used list = Every (λ c. Used c.value) list

module _ (v w : World) (P : Node → Type 0) (Used : Expression → Type 0)
    (values : (e : Expression) → Used e → Every P (deps e) → number_of v e ≡ number_of w e)
    (ready : (cases : Cases) → Every P (partners cases) → some_ready v cases ≡ some_ready w cases)
  where
    abbrev In : List Condition → Type 0
    In list = UsedIn Used list

    left : (a b : List Node) → Every P (a ++ b) → Every P a
    left a b h = every_left P a b h

    right : (a b : List Node) → Every P (a ++ b) → Every P b
    right a b h = every_right P a b h

    in_left : (a b : List Condition) → In (a ++ b) → In a
    in_left a b h = every_left (λ c. Used c.value) a b h

    in_right : (a b : List Condition) → In (a ++ b) → In b
    in_right a b h = every_right (λ c. Used c.value) a b h

    -- ---- the pass

    either_way : (r : Residual) → Waits r → (zero r ≡ true → is_skip (resolved v r) ≡ is_skip (resolved w r)) → is_skip (resolved v r) ≡ is_skip (resolved w r)
    either_way r l f = in_case (zero r) (λ e. waits v r l e ∙ sym (waits w r l e)) f

    default_skip : (a b : Bool) (p x y : Residual) (es : List Condition) → a ≡ b → (In es → is_skip x ≡ is_skip y) → In (if a then [] else es)
        → is_skip (if a then p else x) ≡ is_skip (if b then p else y)
    default_skip true b p x y es e f u = rw (← e) refl
    default_skip false b p x y es e f u = rw (← e) (f u)

    then_skip : (a a' b b' : Bool) (ea eb : List Condition) → (In ea → a ≡ a') → (In eb → b ≡ b') → In (ea ++ (if a then eb else [])) → (a && b) ≡ (a' && b')
    then_skip true a' b b' ea eb p q u = rw (← p (in_left ea eb u)) (q (in_right ea eb u))
    then_skip false a' b b' ea eb p q u = rw (← p (in_left ea [] u)) refl

    if_skip : (h k : Bool) (xa xb ya yb : Residual) (ea eb : List Condition) → h ≡ k → (In ea → is_skip xa ≡ is_skip ya) → (In eb → is_skip xb ≡ is_skip yb)
        → In (if h then ea else eb) → is_skip (if h then xa else xb) ≡ is_skip (if k then ya else yb)
    if_skip true k xa xb ya yb ea eb e p q u = rw (← e) (p u)
    if_skip false k xa xb ya yb ea eb e p q u = rw (← e) (q u)

    mutual
      pub pass_same : (r : Residual) → Waits r → zero r ≡ true → Every P (passes r) → In (evaluated v r) → is_skip (resolved v r) ≡ is_skip (resolved w r)
      pass_same Skip l z h u = refl
      pass_same (Act n a) l z h u = refl
      pass_same (Prialt n cases) l z h u = refl
      pass_same (PrialtElse n cases other) l z h u =
          let g = where_true P (zero other) (partners cases ++ passes other) z h in
          default_skip (some_ready v cases) (some_ready w cases) (PrialtElse n cases other) (resolved v other) (resolved w other) (evaluated v other)
          (ready cases (left (partners cases) (passes other) g)) (pass_same other l.1 z (right (partners cases) (passes other) g)) u
      pass_same (Then a b) l z h u =
          let g = where_true P (zero a && zero b) (passes a ++ passes b) z h in
          followed_skip (resolved v a) (resolved v b) b
          ∙ then_skip (is_skip (resolved v a)) (is_skip (resolved w a)) (is_skip (resolved v b)) (is_skip (resolved w b)) (evaluated v a) (evaluated v b)
          (pass_same a l.0 (both_left (zero a) (zero b) z) (left (passes a) (passes b) g)) (pass_same b l.1 (both_right (zero a) (zero b) z) (right (passes a) (passes b) g)) u
          ∙ sym (followed_skip (resolved w a) (resolved w b) b)
      pass_same (Par branches) l z h u =
          together_skip (all_resolved v branches) ∙ all_same branches l z (where_true P (all_zero branches) (all_passes branches) z h) u ∙ sym (together_skip (all_resolved w branches))
      pass_same (If n c a b) l z h u =
          let g = where_true P (zero a || zero b) (deps c ++ passes a ++ passes b) z h in
          let s = left (deps c ++ passes a) (passes b) g in
          if_skip (holds (number_of v c)) (holds (number_of w c)) (resolved v a) (resolved v b) (resolved w a) (resolved w b) (evaluated v a) (evaluated v b)
          (ap holds (values c u.0 (left (deps c) (passes a) s)))
          (λ ua. either_way a l.0 (λ za. pass_same a l.0 za (right (deps c) (passes a) s) ua))
          (λ ub. either_way b l.1 (λ zb. pass_same b l.1 zb (right (deps c ++ passes a) (passes b) g) ub)) u.1
      pass_same (While n c body) l z h u =
          looped_skip (holds (number_of v c)) (resolved v body) (While n c body) (waits v body l.1 l.0)
          ∙ ap (λ n. not (holds n)) (values c u.0 (where_true P (not (always_holds c)) (deps c) z h))
          ∙ sym (looped_skip (holds (number_of w c)) (resolved w body) (While n c body) (waits w body l.1 l.0))
      pass_same (DoWhile body n c) l z h u = absurd (let e = l.0 in cc)
      pass_same (Switch n e arms) l z h u =
          let g = where_true P (some_zero arms || not (has_default arms)) (deps e ++ arm_passes arms) z h in
          let s = right (deps e) (arm_passes arms) g in
          rw (← values e u.0 (left (deps e) (arm_passes arms) g))
          (if_skip (is_chosen (number_of v e) arms) (is_chosen (number_of v e) arms) (arm_resolved v (number_of v e) arms) (default_resolved v arms) (arm_resolved w (number_of v e) arms) (default_resolved w arms)
          (arm_evaluated v (number_of v e) arms) (default_evaluated v arms) refl (arm_same (number_of v e) arms l s) (default_same arms l s) u.1)

      all_same : (bs : Branches) → AllWait bs → all_zero bs ≡ true → Every P (all_passes bs) → In (all_evaluated v bs) → all_ended (all_resolved v bs) ≡ all_ended (all_resolved w bs)
      all_same ended l z h u = refl
      all_same (first ∥ rest) l z h u =
          rw (
            pass_same first l.0 (both_left (zero first) (all_zero rest) z) (left (passes first) (all_passes rest) h) (in_left (evaluated v first) (all_evaluated v rest) u),
            all_same rest l.1 (both_right (zero first) (all_zero rest) z) (right (passes first) (all_passes rest) h) (in_right (evaluated v first) (all_evaluated v rest) u),
          ) refl

      arm_same : (n : Number) (arms : Arms) → ArmsWait arms → Every P (arm_passes arms) → In (arm_evaluated v n arms) → is_skip (arm_resolved v n arms) ≡ is_skip (arm_resolved w n arms)
      arm_same n no_arm l h u = refl
      arm_same n (arm values' other body rest) l h u =
          if_skip (chooses n values') (chooses n values') (resolved v body) (arm_resolved v n rest) (resolved w body) (arm_resolved w n rest) (evaluated v body) (arm_evaluated v n rest) refl
          (λ ua. either_way body l.0 (λ z. pass_same body l.0 z (left (passes body) (arm_passes rest) h) ua)) (arm_same n rest l.1 (right (passes body) (arm_passes rest) h)) u

      default_same : (arms : Arms) → ArmsWait arms → Every P (arm_passes arms) → In (default_evaluated v arms) → is_skip (default_resolved v arms) ≡ is_skip (default_resolved w arms)
      default_same no_arm l h u = refl
      default_same (arm values' other body rest) l h u =
          if_skip other other (resolved v body) (default_resolved v rest) (resolved w body) (default_resolved w rest) (evaluated v body) (default_evaluated v rest) refl
          (λ ua. either_way body l.0 (λ z. pass_same body l.0 z (left (passes body) (arm_passes rest) h) ua)) (default_same rest l.1 (right (passes body) (arm_passes rest) h)) u
