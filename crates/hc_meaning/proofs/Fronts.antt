-- What a front and the evaluated conditions show of a node, in two worlds v and w: the same, where all that the node needs is
-- the same in both.
use Rattle.std.proofs.Common.{◌≡◌, ℕ, Bool, true, false, ◌&&◌, ◌||◌, List, [], ◌∷◌, ◌++◌, flat_map, refl, sym, ap, ◌∙◌, subst, append-nil}
use Rattle.std.specs.Prelude.{if◌then◌else◌}
use Rattle.std.proofs.lemmas.Grind.{flat_map-append}
use Rattle.hc_num.specs.Number.{Number}
use Rattle.hc_tree.specs.declared.refusal.Node.{Node}
use Rattle.hc_core.specs.Program.{Expression}
use Rattle.hc_core.specs.Instant.{deps, where_it}
use Rattle.hc_core.specs.Depends.{Need, accesses, access_needs}
use Rattle.hc_meaning.specs.Residual.{Action, Residual, Skip, Act, Prialt, PrialtElse, Then, Par, If, While, DoWhile, Switch, Branches, ended, ◌∥◌, Cases, Arms, no_arm, arm}
use Rattle.hc_meaning.specs.Value.{World, number_of, holds}
use Rattle.hc_meaning.specs.Control.{resolved, all_resolved, arm_resolved, default_resolved, is_skip, looped, some_ready, chooses, is_chosen, Condition, evaluated, all_evaluated, arm_evaluated, default_evaluated, Leaf, does, chooses_from, front, all_fronts}
use Rattle.hc_meaning.proofs.Sets.{zero, Waits, AllWait, ArmsWait, partners, passes, finishes, action_needs, case_accesses, needs, all_needs, case_needs, arm_needs}
use Rattle.hc_meaning.proofs.Every.{Every, every_left, every_right, HoldsAt, needs_left, needs_right, where_true, both_left, both_right, neither_left, neither_right, either_true, in_case}
use Rattle.hc_meaning.proofs.Waits.{waits, passed_zero}
use Rattle.hc_meaning.proofs.Alike.{may, some_may, arm_may, skip_front, together_front, looped_front, UsedIn, pass_same}

-- what is shown of a node, by actions and conditions, in one world
pub record Shows (X : Type 0) (f : Action → Bool) (g : Expression → Bool) : Type 0 where
  pub leaf : Leaf → List X
  pub condition : Condition → List X
  pub cases : (n : ℕ) (cases : Cases) → leaf (chooses_from n cases) ≡ []
  pub action : (n : ℕ) (a : Action) → f a ≡ false → leaf (does n a) ≡ []
  pub tested : (n : ℕ) (c : Expression) → g c ≡ false → condition (record { number = n; value = c }) ≡ []

pub record Quiet (X : Type 0) (f : Action → Bool) (g : Expression → Bool) (o : Shows X f g) (r : Residual) (es : List Condition) : Type 0 where
  pub leaves : flat_map o.leaf (front r) ≡ []
  pub conditions : flat_map o.condition es ≡ []

abbrev pub AllQuiet : (X : Type 0) (f : Action → Bool) (g : Expression → Bool) → Shows X f g → Branches → List Condition → Type 0
AllQuiet X f g o rs es = (flat_map o.leaf (all_fronts rs) ≡ []) × (flat_map o.condition es ≡ [])

after_zero : (z m : Bool) → z ≡ true → (z && m) ≡ false → m ≡ false
after_zero true m e h = h
after_zero false m e h = absurd cc

module _ (X : Type 0) (f : Action → Bool) (g : Expression → Bool) (o : Shows X f g) where
  abbrev Q : Residual → List Condition → Type 0
  Q r es = Quiet X f g o r es

  quiet_skip : Q Skip []
  quiet_skip = record { leaves = refl; conditions = refl }

  quiet_then : (k : Bool) (x y later : Residual) (ea eb : List Condition) → Q x ea → (k ≡ true → Q y eb) → Q (if k then y else Then x later) (ea ++ (if k then eb else []))
  quiet_then true x y later ea eb p q = record { leaves = (q refl).leaves; conditions = flat_map-append o.condition ea eb ∙ rw (p.conditions, (q refl).conditions) refl }
  quiet_then false x y later ea eb p q = record { leaves = p.leaves; conditions = flat_map-append o.condition ea [] ∙ rw p.conditions refl }

  quiet_if : (k : Bool) (x y : Residual) (ea eb : List Condition) → Q x ea → Q y eb → Q (if k then x else y) (if k then ea else eb)
  quiet_if true x y ea eb p q = p
  quiet_if false x y ea eb p q = q

  quiet_head : (n : ℕ) (c : Expression) (r : Residual) (es : List Condition) → g c ≡ false → Q r es → Q r (record { number = n; value = c } ∷ es)
  quiet_head n c r es e q = record { leaves = q.leaves; conditions = rw (o.tested n c e, q.conditions) refl }

  quiet_loop : (h : Bool) (x l : Residual) (es : List Condition) → is_skip x ≡ false → Q x es → Q (looped h x l) (if h then es else [])
  quiet_loop h x l es e q =
      let i = quiet_if h x Skip es [] q quiet_skip in
      record { leaves = ap (flat_map o.leaf) (looped_front h x l e) ∙ i.leaves; conditions = i.conditions }

  mutual
    pub none : (x : World) (r : Residual) → Waits r → may f g r ≡ false → Quiet X f g o (resolved x r) (evaluated x r)
    none x Skip l h = quiet_skip
    none x (Act n a) l h = record { leaves = rw (o.action n a h) refl; conditions = refl }
    none x (Prialt n cases) l h = record { leaves = rw (o.cases n cases) refl; conditions = refl }
    none x (PrialtElse n cases other) l h =
        quiet_if (some_ready x cases) (PrialtElse n cases other) (resolved x other) [] (evaluated x other) (record { leaves = rw (o.cases n cases) refl; conditions = refl }) (none x other l.1 h)
    none x (Then a b) l h =
        quiet_then (is_skip (resolved x a)) (resolved x a) (resolved x b) b (evaluated x a) (evaluated x b) (none x a l.0 (neither_left (may f g a) (zero a && may f g b) h))
        (λ e. none x b l.1 (after_zero (zero a) (may f g b) (passed_zero x a l.0 e) (neither_right (may f g a) (zero a && may f g b) h)))
    none x (Par branches) l h =
        let q = some_none x branches l h in
        record { leaves = ap (flat_map o.leaf) (together_front (all_resolved x branches)) ∙ q.0; conditions = q.1 }
    none x (If n c a b) l h =
        let s = neither_right (g c) (may f g a || may f g b) h in
        quiet_head n c (resolved x (If n c a b)) (if holds (number_of x c) then evaluated x a else evaluated x b) (neither_left (g c) (may f g a || may f g b) h)
        (quiet_if (holds (number_of x c)) (resolved x a) (resolved x b) (evaluated x a) (evaluated x b) (none x a l.0 (neither_left (may f g a) (may f g b) s)) (none x b l.1 (neither_right (may f g a) (may f g b) s)))
    none x (While n c body) l h =
        quiet_head n c (resolved x (While n c body)) (if holds (number_of x c) then evaluated x body else []) (neither_left (g c) (may f g body) h)
        (quiet_loop (holds (number_of x c)) (resolved x body) (While n c body) (evaluated x body) (waits x body l.1 l.0) (none x body l.1 (neither_right (g c) (may f g body) h)))
    none x (DoWhile body n c) l h =
        let q = none x body l.1 h in
        let i = quiet_loop true (resolved x body) (While n c body) (evaluated x body) (waits x body l.1 l.0) q in
        record { leaves = i.leaves; conditions = rw (waits x body l.1 l.0) (flat_map-append o.condition (evaluated x body) [] ∙ rw q.conditions refl) }
    none x (Switch n e arms) l h =
        let s = neither_right (g e) (arm_may f g arms) h in
        quiet_head n e (resolved x (Switch n e arms)) (if is_chosen (number_of x e) arms then arm_evaluated x (number_of x e) arms else default_evaluated x arms) (neither_left (g e) (arm_may f g arms) h)
        (quiet_if (is_chosen (number_of x e) arms) (arm_resolved x (number_of x e) arms) (default_resolved x arms) (arm_evaluated x (number_of x e) arms) (default_evaluated x arms)
        (arm_none x (number_of x e) arms l s) (default_none x arms l s))

    some_none : (x : World) (bs : Branches) → AllWait bs → some_may f g bs ≡ false → AllQuiet X f g o (all_resolved x bs) (all_evaluated x bs)
    some_none x ended l h = (refl, refl)
    some_none x (first ∥ rest) l h =
        let p = none x first l.0 (neither_left (may f g first) (some_may f g rest) h) in
        let q = some_none x rest l.1 (neither_right (may f g first) (some_may f g rest) h) in (
          flat_map-append o.leaf (front (resolved x first)) (all_fronts (all_resolved x rest)) ∙ rw (p.leaves, q.0) refl,
          flat_map-append o.condition (evaluated x first) (all_evaluated x rest) ∙ rw (p.conditions, q.1) refl,
        )

    arm_none : (x : World) (n : Number) (arms : Arms) → ArmsWait arms → arm_may f g arms ≡ false → Quiet X f g o (arm_resolved x n arms) (arm_evaluated x n arms)
    arm_none x n no_arm l h = quiet_skip
    arm_none x n (arm values' other body rest) l h =
        quiet_if (chooses n values') (resolved x body) (arm_resolved x n rest) (evaluated x body) (arm_evaluated x n rest)
        (none x body l.0 (neither_left (may f g body) (arm_may f g rest) h)) (arm_none x n rest l.1 (neither_right (may f g body) (arm_may f g rest) h))

    default_none : (x : World) (arms : Arms) → ArmsWait arms → arm_may f g arms ≡ false → Quiet X f g o (default_resolved x arms) (default_evaluated x arms)
    default_none x no_arm l h = quiet_skip
    default_none x (arm values' other body rest) l h =
        quiet_if other (resolved x body) (default_resolved x rest) (evaluated x body) (default_evaluated x rest)
        (none x body l.0 (neither_left (may f g body) (arm_may f g rest) h)) (default_none x rest l.1 (neither_right (may f g body) (arm_may f g rest) h))

  -- where nothing that follows is shown, a sequence shows its first part
  pub alone : (k : Bool) (x y later : Residual) (ea eb : List Condition) → is_skip x ≡ k → (k ≡ true → Q y eb)
      → (flat_map o.leaf (front (if k then y else Then x later)) ≡ flat_map o.leaf (front x)) × (flat_map o.condition (ea ++ (if k then eb else [])) ≡ flat_map o.condition ea)
  alone true x y later ea eb e q =
      ((q refl).leaves ∙ sym (ap (flat_map o.leaf) (skip_front x e)), flat_map-append o.condition ea eb ∙ rw (q refl).conditions (append-nil (flat_map o.condition ea)))
  alone false x y later ea eb e q = (refl, ap (flat_map o.condition) (append-nil ea))

-- ---- two worlds

pub record Alike (X : Type 0) (f : Action → Bool) (g : Expression → Bool) (ov ow : Shows X f g) (r s : Residual) (es fs : List Condition) : Type 0 where
  pub leaves : flat_map ov.leaf (front r) ≡ flat_map ow.leaf (front s)
  pub conditions : flat_map ov.condition es ≡ flat_map ow.condition fs

abbrev pub AllAlike : (X : Type 0) (f : Action → Bool) (g : Expression → Bool) (ov ow : Shows X f g) → Branches → Branches → List Condition → List Condition → Type 0
AllAlike X f g ov ow rs ss es fs = (flat_map ov.leaf (all_fronts rs) ≡ flat_map ow.leaf (all_fronts ss)) × (flat_map ov.condition es ≡ flat_map ow.condition fs)

-- What is watched of a node m: who may act on it depends on its start, and then shows the same.
pub record Watch (P : Node → Type 0) (Used : Expression → Type 0) (UsedLeaf : Leaf → Type 0) (m : Node) (X : Type 0) : Type 0 where
  pub f : Action → Bool
  pub g : Expression → Bool
  pub one : Shows X f g
  pub two : Shows X f g
  pub starts : (start : List Node) (a : Action) → f a ≡ true → HoldsAt P m (action_needs start a) → Every P start
  pub starts_test : (start : List Node) (c : Expression) → g c ≡ true → HoldsAt P m (access_needs start (accesses c)) → Every P start
  pub same : (start : List Node) (n : ℕ) (a : Action) → f a ≡ true → HoldsAt P m (action_needs start a) → UsedLeaf (does n a) → one.leaf (does n a) ≡ two.leaf (does n a)
  pub same_test : (start : List Node) (n : ℕ) (c : Expression) → g c ≡ true → HoldsAt P m (access_needs start (accesses c)) → Used c
      → one.condition (record { number = n; value = c }) ≡ two.condition (record { number = n; value = c })

module _ (v w : World) (P : Node → Type 0) (Used : Expression → Type 0)
    (values : (e : Expression) → Used e → Every P (deps e) → number_of v e ≡ number_of w e)
    (ready : (cases : Cases) → Every P (partners cases) → some_ready v cases ≡ some_ready w cases)
    (UsedLeaf : Leaf → Type 0) (m : Node) (X : Type 0) (o : Watch P Used UsedLeaf m X)
  where
    abbrev Holds : List Need → Type 0
    Holds list = HoldsAt P m list

    abbrev In : List Condition → Type 0
    In list = UsedIn Used list

    abbrev On : List Leaf → Type 0
    On list = Every UsedLeaf list

    abbrev A : Residual → Residual → List Condition → List Condition → Type 0
    A r s es fs = Alike X o.f o.g o.one o.two r s es fs

    left : (a b : List Node) → Every P (a ++ b) → Every P a
    left a b h = every_left P a b h

    right : (a b : List Node) → Every P (a ++ b) → Every P b
    right a b h = every_right P a b h

    first : (a b : List Need) → Holds (a ++ b) → Holds a
    first a b h = needs_left P m a b h

    second : (a b : List Need) → Holds (a ++ b) → Holds b
    second a b h = needs_right P m a b h

    in_left : (a b : List Condition) → In (a ++ b) → In a
    in_left a b h = every_left (λ c. Used c.value) a b h

    in_right : (a b : List Condition) → In (a ++ b) → In b
    in_right a b h = every_right (λ c. Used c.value) a b h

    -- where a statement may act on the node, the node depends on its start
    mutual
      pub starts : (st : List Node) (r : Residual) → may o.f o.g r ≡ true → Holds (needs st r) → Every P st
      starts st Skip a h = absurd cc
      starts st (Act n x) a h = o.starts st x a h
      starts st (Prialt n cases) a h = absurd cc
      starts st (PrialtElse n cases other) a h =
          left st (partners cases) (starts (st ++ partners cases) other a (second (access_needs st (case_accesses cases) ++ case_needs cases) (needs (st ++ partners cases) other) h))
      starts st (Then x y) a h =
          either_true {P = Every P st} (may o.f o.g x) (zero x && may o.f o.g y) a (λ e. starts st x e (first (needs st x) (needs (finishes x ++ where_it (zero x) (st ++ passes x)) y) h))
          (λ e. left st (passes x) (where_true P (zero x) (st ++ passes x) (both_left (zero x) (may o.f o.g y) e) (right (finishes x) (where_it (zero x) (st ++ passes x))
          (starts (finishes x ++ where_it (zero x) (st ++ passes x)) y (both_right (zero x) (may o.f o.g y) e) (second (needs st x) (needs (finishes x ++ where_it (zero x) (st ++ passes x)) y) h)))))
      starts st (Par branches) a h = some_starts st branches a h
      starts st (If n c x y) a h =
          let hx = first (access_needs st (accesses c) ++ needs (st ++ deps c) x) (needs (st ++ deps c) y) h in
          either_true {P = Every P st} (o.g c) (may o.f o.g x || may o.f o.g y) a (λ e. o.starts_test st c e (first (access_needs st (accesses c)) (needs (st ++ deps c) x) hx))
          (λ e. left st (deps c) (either_true {P = Every P (st ++ deps c)} (may o.f o.g x) (may o.f o.g y) e (λ d. starts (st ++ deps c) x d (second (access_needs st (accesses c)) (needs (st ++ deps c) x) hx))
          (λ d. starts (st ++ deps c) y d (second (access_needs st (accesses c) ++ needs (st ++ deps c) x) (needs (st ++ deps c) y) h))))
      starts st (While n c body) a h =
          either_true {P = Every P st} (o.g c) (may o.f o.g body) a
          (λ e. left st (finishes body) (o.starts_test (st ++ finishes body) c e (first (access_needs (st ++ finishes body) (accesses c)) (needs (st ++ finishes body ++ deps c) body) h)))
          (λ e. left st (finishes body) (left (st ++ finishes body) (deps c) (starts (st ++ finishes body ++ deps c) body e (second (access_needs (st ++ finishes body) (accesses c)) (needs (st ++ finishes body ++ deps c) body) h))))
      starts st (DoWhile body n c) a h =
          left st (finishes body) (left (st ++ finishes body) (deps c) (starts (st ++ finishes body ++ deps c) body a (second (access_needs (finishes body) (accesses c)) (needs (st ++ finishes body ++ deps c) body) h)))
      starts st (Switch n e arms) a h =
          either_true {P = Every P st} (o.g e) (arm_may o.f o.g arms) a (λ d. o.starts_test st e d (first (access_needs st (accesses e)) (arm_needs (st ++ deps e) arms) h))
          (λ d. left st (deps e) (arm_starts (st ++ deps e) arms d (second (access_needs st (accesses e)) (arm_needs (st ++ deps e) arms) h)))

      some_starts : (st : List Node) (bs : Branches) → some_may o.f o.g bs ≡ true → Holds (all_needs st bs) → Every P st
      some_starts st ended a h = absurd cc
      some_starts st (x ∥ rest) a h =
          either_true {P = Every P st} (may o.f o.g x) (some_may o.f o.g rest) a (λ e. starts st x e (first (needs st x) (all_needs st rest) h)) (λ e. some_starts st rest e (second (needs st x) (all_needs st rest) h))

      pub arm_starts : (st : List Node) (arms : Arms) → arm_may o.f o.g arms ≡ true → Holds (arm_needs st arms) → Every P st
      arm_starts st no_arm a h = absurd cc
      arm_starts st (arm values' other body rest) a h =
          either_true {P = Every P st} (may o.f o.g body) (arm_may o.f o.g rest) a (λ e. starts st body e (first (needs st body) (arm_needs st rest) h)) (λ e. arm_starts st rest e (second (needs st body) (arm_needs st rest) h))

    both_quiet : (r s : Residual) (es fs : List Condition) → Quiet X o.f o.g o.one r es → Quiet X o.f o.g o.two s fs → A r s es fs
    both_quiet r s es fs p q = record { leaves = p.leaves ∙ sym q.leaves; conditions = p.conditions ∙ sym q.conditions }

    neither : (r : Residual) → Waits r → may o.f o.g r ≡ false → A (resolved v r) (resolved w r) (evaluated v r) (evaluated w r)
    neither r l e = both_quiet (resolved v r) (resolved w r) (evaluated v r) (evaluated w r) (none X o.f o.g o.one v r l e) (none X o.f o.g o.two w r l e)

    tests_alike : (st : List Node) (n : ℕ) (c : Expression) → Holds (access_needs st (accesses c)) → Used c
        → o.one.condition (record { number = n; value = c }) ≡ o.two.condition (record { number = n; value = c })
    tests_alike st n c h u = in_case (o.g c) (λ e. o.one.tested n c e ∙ sym (o.two.tested n c e)) (λ e. o.same_test st n c e h u)

    alike_head : (d : Condition) (r s : Residual) (es fs : List Condition) → o.one.condition d ≡ o.two.condition d → A r s es fs → A r s (d ∷ es) (d ∷ fs)
    alike_head d r s es fs e p = record { leaves = p.leaves; conditions = rw (e, p.conditions) refl }

    alike_skip : A Skip Skip [] []
    alike_skip = record { leaves = refl; conditions = refl }

    alike_if : (h k : Bool) (xa xb ya yb : Residual) (ea eb fa fb : List Condition) → h ≡ k → (In ea → On (front xa) → A xa ya ea fa) → (In eb → On (front xb) → A xb yb eb fb)
        → In (if h then ea else eb) → On (front (if h then xa else xb)) → A (if h then xa else xb) (if k then ya else yb) (if h then ea else eb) (if k then fa else fb)
    alike_if true k xa xb ya yb ea eb fa fb e p q u n = rw (← e) (p u n)
    alike_if false k xa xb ya yb ea eb fa fb e p q u n = rw (← e) (q u n)

    alike_then : (h k : Bool) (xa xb ya yb later : Residual) (ea eb fa fb : List Condition) → is_skip xa ≡ h → h ≡ k → (In ea → On (front xa) → A xa ya ea fa) → (In eb → On (front xb) → A xb yb eb fb)
        → In (ea ++ (if h then eb else [])) → On (front (if h then xb else Then xa later))
        → A (if h then xb else Then xa later) (if k then yb else Then ya later) (ea ++ (if h then eb else [])) (fa ++ (if k then fb else []))
    alike_then true k xa xb ya yb later ea eb fa fb s e p q u n =
        let one = p (in_left ea eb u) (subst On (sym (skip_front xa s)) tt) in
        let two = q (in_right ea eb u) n in
        rw (← e) (record { leaves = two.leaves; conditions = flat_map-append o.one.condition ea eb ∙ rw (one.conditions, two.conditions) (sym (flat_map-append o.two.condition fa fb)) })
    alike_then false k xa xb ya yb later ea eb fa fb s e p q u n =
        let one = p (in_left ea [] u) n in
        rw (← e) (record { leaves = one.leaves; conditions = ap (flat_map o.one.condition) (append-nil ea) ∙ one.conditions ∙ sym (ap (flat_map o.two.condition) (append-nil fa)) })

    -- the first part's own front is used
    on_first : (h : Bool) (xa xb later : Residual) → is_skip xa ≡ h → On (front (if h then xb else Then xa later)) → On (front xa)
    on_first true xa xb later s n = subst On (sym (skip_front xa s)) tt
    on_first false xa xb later s n = n

    alike_loop : (h k : Bool) (x y l : Residual) (es fs : List Condition) → is_skip x ≡ false → is_skip y ≡ false → h ≡ k → (In es → On (front x) → A x y es fs)
        → In (if h then es else []) → On (front (looped h x l)) → A (looped h x l) (looped k y l) (if h then es else []) (if k then fs else [])
    alike_loop h k x y l es fs sx sy e p u n =
        let i = alike_if h k x Skip y Skip es [] fs [] e p (λ u n. alike_skip) u (subst On (looped_front h x l sx) n) in
        record { leaves = ap (flat_map o.one.leaf) (looped_front h x l sx) ∙ i.leaves ∙ sym (ap (flat_map o.two.leaf) (looped_front k y l sy)); conditions = i.conditions }

    mutual
      pub alike : (st : List Node) (r : Residual) → Waits r → Holds (needs st r) → In (evaluated v r) → On (front (resolved v r)) → A (resolved v r) (resolved w r) (evaluated v r) (evaluated w r)
      alike st Skip l h u n = alike_skip
      alike st (Act k a) l h u n =
          record {
            leaves = ap (λ list. list ++ []) (in_case (o.f a) (λ e. o.one.action k a e ∙ sym (o.two.action k a e)) (λ e. o.same st k a e h n.0));
            conditions = refl;
          }
      alike st (Prialt k cases) l h u n = record { leaves = ap (λ list. list ++ []) (o.one.cases k cases ∙ sym (o.two.cases k cases)); conditions = refl }
      alike st (PrialtElse k cases other) l h u n =
          let g = second (access_needs st (case_accesses cases) ++ case_needs cases) (needs (st ++ partners cases) other) h in
          in_case (may o.f o.g other) (λ e. neither (PrialtElse k cases other) l e)
          (λ e. alike_if (some_ready v cases) (some_ready w cases) (PrialtElse k cases other) (resolved v other) (PrialtElse k cases other) (resolved w other) [] (evaluated v other) [] (evaluated w other)
          (ready cases (right st (partners cases) (starts (st ++ partners cases) other e g)))
          (λ u n. record { leaves = ap (λ list. list ++ []) (o.one.cases k cases ∙ sym (o.two.cases k cases)); conditions = refl })
          (alike (st ++ partners cases) other l.1 g) u n)
      alike st (Then a b) l h u n =
          let next = finishes a ++ where_it (zero a) (st ++ passes a) in
          let ha = first (needs st a) (needs next b) h in
          let hb = second (needs st a) (needs next b) h in
          in_case (zero a && may o.f o.g b)
          (λ e. let q = alike st a l.0 ha (in_left (evaluated v a) (if is_skip (resolved v a) then evaluated v b else []) u) (on_first (is_skip (resolved v a)) (resolved v a) (resolved v b) b refl n) in
          let x = alone X o.f o.g o.one (is_skip (resolved v a)) (resolved v a) (resolved v b) b (evaluated v a) (evaluated v b) refl
          (λ s. none X o.f o.g o.one v b l.1 (after_zero (zero a) (may o.f o.g b) (passed_zero v a l.0 s) e)) in
          let y = alone X o.f o.g o.two (is_skip (resolved w a)) (resolved w a) (resolved w b) b (evaluated w a) (evaluated w b) refl
          (λ s. none X o.f o.g o.two w b l.1 (after_zero (zero a) (may o.f o.g b) (passed_zero w a l.0 s) e)) in
          record { leaves = x.0 ∙ q.leaves ∙ sym y.0; conditions = x.1 ∙ q.conditions ∙ sym y.1 })
          (λ e. let z = both_left (zero a) (may o.f o.g b) e in
          let s = right st (passes a) (where_true P (zero a) (st ++ passes a) z (right (finishes a) (where_it (zero a) (st ++ passes a)) (starts next b (both_right (zero a) (may o.f o.g b) e) hb))) in
          alike_then (is_skip (resolved v a)) (is_skip (resolved w a)) (resolved v a) (resolved v b) (resolved w a) (resolved w b) b (evaluated v a) (evaluated v b) (evaluated w a) (evaluated w b) refl
          (pass_same v w P Used values ready a l.0 z s (in_left (evaluated v a) (if is_skip (resolved v a) then evaluated v b else []) u)) (alike st a l.0 ha) (alike next b l.1 hb) u n)
      alike st (Par branches) l h u n =
          let q = all_alike st branches l h u (subst On (together_front (all_resolved v branches)) n) in
          record { leaves = ap (flat_map o.one.leaf) (together_front (all_resolved v branches)) ∙ q.0 ∙ sym (ap (flat_map o.two.leaf) (together_front (all_resolved w branches))); conditions = q.1 }
      alike st (If k c a b) l h u n =
          let hx = first (access_needs st (accesses c) ++ needs (st ++ deps c) a) (needs (st ++ deps c) b) h in
          let ha = second (access_needs st (accesses c)) (needs (st ++ deps c) a) hx in
          let hb = second (access_needs st (accesses c) ++ needs (st ++ deps c) a) (needs (st ++ deps c) b) h in
          alike_head (record { number = k; value = c }) (resolved v (If k c a b)) (resolved w (If k c a b)) (if holds (number_of v c) then evaluated v a else evaluated v b) (if holds (number_of w c) then evaluated w a else evaluated w b)
          (tests_alike st k c (first (access_needs st (accesses c)) (needs (st ++ deps c) a) hx) u.0)
          (in_case (may o.f o.g a || may o.f o.g b)
          (λ e. let ea = neither_left (may o.f o.g a) (may o.f o.g b) e in
          let eb = neither_right (may o.f o.g a) (may o.f o.g b) e in
          both_quiet (resolved v (If k c a b)) (resolved w (If k c a b)) (if holds (number_of v c) then evaluated v a else evaluated v b) (if holds (number_of w c) then evaluated w a else evaluated w b)
          (quiet_if X o.f o.g o.one (holds (number_of v c)) (resolved v a) (resolved v b) (evaluated v a) (evaluated v b) (none X o.f o.g o.one v a l.0 ea) (none X o.f o.g o.one v b l.1 eb))
          (quiet_if X o.f o.g o.two (holds (number_of w c)) (resolved w a) (resolved w b) (evaluated w a) (evaluated w b) (none X o.f o.g o.two w a l.0 ea) (none X o.f o.g o.two w b l.1 eb)))
          (λ e. let s = either_true {P = Every P (st ++ deps c)} (may o.f o.g a) (may o.f o.g b) e (λ d. starts (st ++ deps c) a d ha) (λ d. starts (st ++ deps c) b d hb) in
          alike_if (holds (number_of v c)) (holds (number_of w c)) (resolved v a) (resolved v b) (resolved w a) (resolved w b) (evaluated v a) (evaluated v b) (evaluated w a) (evaluated w b)
          (ap holds (values c u.0 (right st (deps c) s))) (alike (st ++ deps c) a l.0 ha) (alike (st ++ deps c) b l.1 hb) u.1 n))
      alike st (While k c body) l h u n =
          let hc = first (access_needs (st ++ finishes body) (accesses c)) (needs (st ++ finishes body ++ deps c) body) h in
          let hb = second (access_needs (st ++ finishes body) (accesses c)) (needs (st ++ finishes body ++ deps c) body) h in
          alike_head (record { number = k; value = c }) (resolved v (While k c body)) (resolved w (While k c body)) (if holds (number_of v c) then evaluated v body else []) (if holds (number_of w c) then evaluated w body else [])
          (tests_alike (st ++ finishes body) k c hc u.0)
          (in_case (may o.f o.g body)
          (λ e. both_quiet (resolved v (While k c body)) (resolved w (While k c body)) (if holds (number_of v c) then evaluated v body else []) (if holds (number_of w c) then evaluated w body else [])
          (quiet_loop X o.f o.g o.one (holds (number_of v c)) (resolved v body) (While k c body) (evaluated v body) (waits v body l.1 l.0) (none X o.f o.g o.one v body l.1 e))
          (quiet_loop X o.f o.g o.two (holds (number_of w c)) (resolved w body) (While k c body) (evaluated w body) (waits w body l.1 l.0) (none X o.f o.g o.two w body l.1 e)))
          (λ e. alike_loop (holds (number_of v c)) (holds (number_of w c)) (resolved v body) (resolved w body) (While k c body) (evaluated v body) (evaluated w body) (waits v body l.1 l.0) (waits w body l.1 l.0)
          (ap holds (values c u.0 (right (st ++ finishes body) (deps c) (starts (st ++ finishes body ++ deps c) body e hb)))) (alike (st ++ finishes body ++ deps c) body l.1 hb) u.1 n))
      alike st (DoWhile body k c) l h u n =
          let hb = second (access_needs (finishes body) (accesses c)) (needs (st ++ finishes body ++ deps c) body) h in
          let p = alike (st ++ finishes body ++ deps c) body l.1 hb (in_left (evaluated v body) (if is_skip (resolved v body) then record { number = k; value = c } ∷ [] else []) u)
          (subst On (looped_front true (resolved v body) (While k c body) (waits v body l.1 l.0)) n) in
          record {
            leaves = ap (flat_map o.one.leaf) (looped_front true (resolved v body) (While k c body) (waits v body l.1 l.0)) ∙ p.leaves ∙ sym (ap (flat_map o.two.leaf) (looped_front true (resolved w body) (While k c body) (waits w body l.1 l.0)));
            conditions = rw (waits v body l.1 l.0, waits w body l.1 l.0) (ap (flat_map o.one.condition) (append-nil (evaluated v body)) ∙ p.conditions ∙ sym (ap (flat_map o.two.condition) (append-nil (evaluated w body))));
          }
      alike st (Switch k e arms) l h u n =
          let hc = first (access_needs st (accesses e)) (arm_needs (st ++ deps e) arms) h in
          let ha = second (access_needs st (accesses e)) (arm_needs (st ++ deps e) arms) h in
          alike_head (record { number = k; value = e }) (resolved v (Switch k e arms)) (resolved w (Switch k e arms)) (if is_chosen (number_of v e) arms then arm_evaluated v (number_of v e) arms else default_evaluated v arms)
          (if is_chosen (number_of w e) arms then arm_evaluated w (number_of w e) arms else default_evaluated w arms)
          (tests_alike st k e hc u.0)
          (in_case (arm_may o.f o.g arms)
          (λ a. both_quiet (resolved v (Switch k e arms)) (resolved w (Switch k e arms)) (if is_chosen (number_of v e) arms then arm_evaluated v (number_of v e) arms else default_evaluated v arms)
          (if is_chosen (number_of w e) arms then arm_evaluated w (number_of w e) arms else default_evaluated w arms)
          (quiet_if X o.f o.g o.one (is_chosen (number_of v e) arms) (arm_resolved v (number_of v e) arms) (default_resolved v arms) (arm_evaluated v (number_of v e) arms) (default_evaluated v arms)
          (arm_none X o.f o.g o.one v (number_of v e) arms l a) (default_none X o.f o.g o.one v arms l a))
          (quiet_if X o.f o.g o.two (is_chosen (number_of w e) arms) (arm_resolved w (number_of w e) arms) (default_resolved w arms) (arm_evaluated w (number_of w e) arms) (default_evaluated w arms)
          (arm_none X o.f o.g o.two w (number_of w e) arms l a) (default_none X o.f o.g o.two w arms l a)))
          (λ a. rw (← values e u.0 (right st (deps e) (arm_starts (st ++ deps e) arms a ha)))
          (alike_if (is_chosen (number_of v e) arms) (is_chosen (number_of v e) arms) (arm_resolved v (number_of v e) arms) (default_resolved v arms) (arm_resolved w (number_of v e) arms) (default_resolved w arms)
          (arm_evaluated v (number_of v e) arms) (default_evaluated v arms) (arm_evaluated w (number_of v e) arms) (default_evaluated w arms) refl
          (arm_alike (st ++ deps e) (number_of v e) arms l ha) (default_alike (st ++ deps e) arms l ha) u.1 n)))

      all_alike : (st : List Node) (bs : Branches) → AllWait bs → Holds (all_needs st bs) → In (all_evaluated v bs) → On (all_fronts (all_resolved v bs))
          → AllAlike X o.f o.g o.one o.two (all_resolved v bs) (all_resolved w bs) (all_evaluated v bs) (all_evaluated w bs)
      all_alike st ended l h u n = (refl, refl)
      all_alike st (x ∥ rest) l h u n =
          let p = alike st x l.0 (first (needs st x) (all_needs st rest) h) (in_left (evaluated v x) (all_evaluated v rest) u) (every_left UsedLeaf (front (resolved v x)) (all_fronts (all_resolved v rest)) n) in
          let q = all_alike st rest l.1 (second (needs st x) (all_needs st rest) h) (in_right (evaluated v x) (all_evaluated v rest) u) (every_right UsedLeaf (front (resolved v x)) (all_fronts (all_resolved v rest)) n) in (
            flat_map-append o.one.leaf (front (resolved v x)) (all_fronts (all_resolved v rest)) ∙ rw (p.leaves, q.0) (sym (flat_map-append o.two.leaf (front (resolved w x)) (all_fronts (all_resolved w rest)))),
            flat_map-append o.one.condition (evaluated v x) (all_evaluated v rest) ∙ rw (p.conditions, q.1) (sym (flat_map-append o.two.condition (evaluated w x) (all_evaluated w rest))),
          )

      arm_alike : (st : List Node) (i : Number) (arms : Arms) → ArmsWait arms → Holds (arm_needs st arms) → In (arm_evaluated v i arms) → On (front (arm_resolved v i arms))
          → A (arm_resolved v i arms) (arm_resolved w i arms) (arm_evaluated v i arms) (arm_evaluated w i arms)
      arm_alike st i no_arm l h u n = alike_skip
      arm_alike st i (arm values' other body rest) l h u n =
          alike_if (chooses i values') (chooses i values') (resolved v body) (arm_resolved v i rest) (resolved w body) (arm_resolved w i rest) (evaluated v body) (arm_evaluated v i rest) (evaluated w body) (arm_evaluated w i rest) refl
          (alike st body l.0 (first (needs st body) (arm_needs st rest) h)) (arm_alike st i rest l.1 (second (needs st body) (arm_needs st rest) h)) u n

      default_alike : (st : List Node) (arms : Arms) → ArmsWait arms → Holds (arm_needs st arms) → In (default_evaluated v arms) → On (front (default_resolved v arms))
          → A (default_resolved v arms) (default_resolved w arms) (default_evaluated v arms) (default_evaluated w arms)
      default_alike st no_arm l h u n = alike_skip
      default_alike st (arm values' other body rest) l h u n =
          alike_if other other (resolved v body) (default_resolved v rest) (resolved w body) (default_resolved w rest) (evaluated v body) (default_evaluated v rest) (evaluated w body) (default_evaluated w rest) refl
          (alike st body l.0 (first (needs st body) (arm_needs st rest) h)) (default_alike st rest l.1 (second (needs st body) (arm_needs st rest) h)) u n
