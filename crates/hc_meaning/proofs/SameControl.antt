-- Where all conditions that are evaluated are worth the same in two worlds, and the same cases are ready, control goes the same way.
use Rattle.std.proofs.Common.{◌≡◌, Bool, true, false, List, [], ◌∷◌, ◌++◌, refl, ap}
use Rattle.std.specs.Prelude.{if◌then◌else◌}
use Rattle.hc_num.specs.Number.{Number}
use Rattle.hc_core.specs.Program.{Expression}
use Rattle.hc_meaning.specs.Residual.{Residual, Skip, Act, Prialt, PrialtElse, Then, Par, If, While, DoWhile, Switch, Branches, ended, ◌∥◌, Cases, Arms, no_arm, arm}
use Rattle.hc_meaning.specs.Value.{World, number_of, holds}
use Rattle.hc_meaning.specs.Control.{resolved, all_resolved, arm_resolved, default_resolved, is_skip, looped, some_ready, chooses, is_chosen, Condition, evaluated, all_evaluated, arm_evaluated, default_evaluated}
use Rattle.hc_meaning.proofs.Every.{every_left, every_right}
use Rattle.hc_meaning.proofs.Alike.{UsedIn}

abbrev Both : Residual → Residual → List Condition → List Condition → Type 0
Both x y es fs = (x ≡ y) × (es ≡ fs)

module _ (v w : World) (Used : Expression → Type 0) (values : (e : Expression) → Used e → number_of v e ≡ number_of w e) (ready : (cases : Cases) → some_ready v cases ≡ some_ready w cases) where
  abbrev In : List Condition → Type 0
  In list = UsedIn Used list

  in_left : (a b : List Condition) → In (a ++ b) → In a
  in_left a b h = every_left (λ c. Used c.value) a b h

  in_right : (a b : List Condition) → In (a ++ b) → In b
  in_right a b h = every_right (λ c. Used c.value) a b h

  if_both : (k : Bool) (xa xb ya yb : Residual) (ea eb fa fb : List Condition) → (In ea → Both xa ya ea fa) → (In eb → Both xb yb eb fb) → In (if k then ea else eb)
      → Both (if k then xa else xb) (if k then ya else yb) (if k then ea else eb) (if k then fa else fb)
  if_both true xa xb ya yb ea eb fa fb p q u = p u
  if_both false xa xb ya yb ea eb fa fb p q u = q u

  then_both : (k : Bool) (x xb yb later : Residual) (es eb fb : List Condition) → (In eb → Both xb yb eb fb) → In (es ++ (if k then eb else []))
      → Both (if k then xb else Then x later) (if k then yb else Then x later) (es ++ (if k then eb else [])) (es ++ (if k then fb else []))
  then_both true x xb yb later es eb fb p u = let b = p (in_right es eb u) in (b.0, ap (λ l. es ++ l) b.1)
  then_both false x xb yb later es eb fb p u = (refl, refl)

  loop_both : (h : Bool) (x y l : Residual) (es fs : List Condition) → (In es → Both x y es fs) → In (if h then es else []) → Both (looped h x l) (looped h y l) (if h then es else []) (if h then fs else [])
  loop_both true x y l es fs p u = let b = p u in (ap (λ z. looped true z l) b.0, b.1)
  loop_both false x y l es fs p u = (refl, refl)

  skip_both : Both Skip Skip [] []
  skip_both = (refl, refl)

  mutual
    pub same_control : (r : Residual) → In (evaluated v r) → Both (resolved v r) (resolved w r) (evaluated v r) (evaluated w r)
    same_control Skip u = skip_both
    same_control (Act n a) u = (refl, refl)
    same_control (Prialt n cases) u = (refl, refl)
    same_control (PrialtElse n cases other) u =
        rw (← ready cases) (if_both (some_ready v cases) (PrialtElse n cases other) (resolved v other) (PrialtElse n cases other) (resolved w other) [] (evaluated v other) [] (evaluated w other) (λ u. (refl, refl)) (same_control other) u)
    same_control (Then a b) u =
        let p = same_control a (in_left (evaluated v a) (if is_skip (resolved v a) then evaluated v b else []) u) in
        rw (← p.0, ← p.1) (then_both (is_skip (resolved v a)) (resolved v a) (resolved v b) (resolved w b) b (evaluated v a) (evaluated v b) (evaluated w b) (same_control b) u)
    same_control (Par bs) u = let p = all_control bs u in rw (p.0, p.1) (refl, refl)
    same_control (If n c a b) u =
        rw (← values c u.0) (let p = if_both (holds (number_of v c)) (resolved v a) (resolved v b) (resolved w a) (resolved w b) (evaluated v a) (evaluated v b) (evaluated w a) (evaluated w b) (same_control a) (same_control b) u.1 in
        (p.0, ap (λ l. record { number = n; value = c } ∷ l) p.1))
    same_control (While n c body) u =
        rw (← values c u.0) (let p = loop_both (holds (number_of v c)) (resolved v body) (resolved w body) (While n c body) (evaluated v body) (evaluated w body) (same_control body) u.1 in
        (p.0, ap (λ l. record { number = n; value = c } ∷ l) p.1))
    same_control (DoWhile body n c) u =
        let p = same_control body (in_left (evaluated v body) (if is_skip (resolved v body) then record { number = n; value = c } ∷ [] else []) u) in
        rw (← p.0, ← p.1) (refl, refl)
    same_control (Switch n e arms) u =
        rw (← values e u.0) (let p = if_both (is_chosen (number_of v e) arms) (arm_resolved v (number_of v e) arms) (default_resolved v arms) (arm_resolved w (number_of v e) arms) (default_resolved w arms)
        (arm_evaluated v (number_of v e) arms) (default_evaluated v arms) (arm_evaluated w (number_of v e) arms) (default_evaluated w arms) (arm_control (number_of v e) arms) (default_control arms) u.1 in
        (p.0, ap (λ l. record { number = n; value = e } ∷ l) p.1))

    all_control : (bs : Branches) → In (all_evaluated v bs) → (all_resolved v bs ≡ all_resolved w bs) × (all_evaluated v bs ≡ all_evaluated w bs)
    all_control ended u = (refl, refl)
    all_control (x ∥ rest) u =
        let p = same_control x (in_left (evaluated v x) (all_evaluated v rest) u) in
        let q = all_control rest (in_right (evaluated v x) (all_evaluated v rest) u) in
        (rw (p.0, q.0) refl, rw (p.1, q.1) refl)

    arm_control : (i : Number) (arms : Arms) → In (arm_evaluated v i arms) → Both (arm_resolved v i arms) (arm_resolved w i arms) (arm_evaluated v i arms) (arm_evaluated w i arms)
    arm_control i no_arm u = skip_both
    arm_control i (arm values' other body rest) u =
        if_both (chooses i values') (resolved v body) (arm_resolved v i rest) (resolved w body) (arm_resolved w i rest) (evaluated v body) (arm_evaluated v i rest) (evaluated w body) (arm_evaluated w i rest) (same_control body) (arm_control i rest) u

    default_control : (arms : Arms) → In (default_evaluated v arms) → Both (default_resolved v arms) (default_resolved w arms) (default_evaluated v arms) (default_evaluated w arms)
    default_control no_arm u = skip_both
    default_control (arm values' other body rest) u =
        if_both other (resolved v body) (default_resolved v rest) (resolved w body) (default_resolved w rest) (evaluated v body) (default_evaluated v rest) (evaluated w body) (default_evaluated w rest) (same_control body) (default_control rest) u
