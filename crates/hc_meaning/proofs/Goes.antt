-- A clock leads from a statement to what may be left of it, and on.
use Rattle.std.proofs.Common.{◌≡◌, ℕ, Bool, true, false, ◌&&◌, ◌||◌, not, ◌⊎◌, inl, inr, List, Some, refl, sym, ap, subst}
use Rattle.std.specs.Prelude.{if◌then◌else◌}
use Rattle.hc_num.specs.Number.{Number}
use Rattle.hc_meaning.specs.Residual.{Action, Residual, Skip, Act, Prialt, PrialtElse, Then, Par, If, While, DoWhile, Switch, Branches, ended, ◌∥◌, Cases, no_case, case_of, Arms, no_arm, arm}
use Rattle.hc_meaning.specs.Value.{World, number_of, holds}
use Rattle.hc_meaning.specs.Control.{resolved, all_resolved, arm_resolved, default_resolved, is_skip, all_ended, is_ready, some_ready, chooses, is_chosen, Leaf}
use Rattle.hc_meaning.specs.Clock.{behind_edge, all_behind_edge, arm_or, first_ready, is_completed}
use Rattle.hc_meaning.proofs.Sets.{From, AllFrom, CaseFrom, ArmFrom}
use Rattle.hc_meaning.proofs.Waits.{skip_is}

module _ (w : World) (fr : List Leaf) where
  abbrev Started : Residual → Residual → Type 0
  Started s x = is_skip x ≡ false → From s (behind_edge w fr x)

  picked : (cases : Cases) (itself : Residual) → (arm_or itself (first_ready w cases) ≡ itself) ⊎ CaseFrom cases (arm_or itself (first_ready w cases))
  picked no_case itself = inl refl
  picked (case_of n offer body rest) itself = by (is_ready w offer) (picked rest itself)
    where
      by : (b : Bool) → (arm_or itself (first_ready w rest) ≡ itself) ⊎ CaseFrom rest (arm_or itself (first_ready w rest))
          → (arm_or itself (if b then Some ((n, offer), body) else first_ready w rest) ≡ itself) ⊎ CaseFrom (case_of n offer body rest) (arm_or itself (if b then Some ((n, offer), body) else first_ready w rest))
      by true p = inr (inl refl)
      by false (inl p) = inl p
      by false (inr p) = inr (inr (inr p))

  picked_ready : (cases : Cases) (itself : Residual) → some_ready w cases ≡ true → CaseFrom cases (arm_or itself (first_ready w cases))
  picked_ready no_case itself h = absurd cc
  picked_ready (case_of n offer body rest) itself h = by (is_ready w offer) h (picked_ready rest itself)
    where
      by : (b : Bool) → (b || some_ready w rest) ≡ true → (some_ready w rest ≡ true → CaseFrom rest (arm_or itself (first_ready w rest)))
          → CaseFrom (case_of n offer body rest) (arm_or itself (if b then Some ((n, offer), body) else first_ready w rest))
      by true h p = inl refl
      by false h p = inr (inr (p h))

  act_left : (b : Bool) (n : ℕ) (a : Action) → From (Act n a) (if b then Skip else Act n a)
  act_left true n a = inr refl
  act_left false n a = inl refl

  branch : (s x : Residual) → Started s x → From s (behind_edge w fr x) ⊎ (behind_edge w fr x ≡ Skip)
  branch s x go = by (is_skip x) refl
    where
      by : (b : Bool) → is_skip x ≡ b → From s (behind_edge w fr x) ⊎ (behind_edge w fr x ≡ Skip)
      by true e = inr (ap (behind_edge w fr) (skip_is x e))
      by false e = inl (go e)

  sequel : (k : Bool) (x y a b : Residual) → is_skip x ≡ k → Started a x → Started b y → Started (Then a b) (if k then y else Then x b)
  sequel true x y a b e p q h = inr (q h)
  sequel false x y a b e p q h = inl (behind_edge w fr x, p e, refl)

  defaulting : (b : Bool) (n : ℕ) (cases : Cases) (other x : Residual) → some_ready w cases ≡ b → Started other x → Started (PrialtElse n cases other) (if b then PrialtElse n cases other else x)
  defaulting true n cases other x e p h = inl (picked_ready cases (PrialtElse n cases other) e)
  defaulting false n cases other x e p h = inr (p h)

  choosing : (b : Bool) (n : ℕ) (c : _) (s t x y : Residual) → Started s x → Started t y → Started (If n c s t) (if b then x else y)
  choosing true n c s t x y p q h = inl (p h)
  choosing false n c s t x y p q h = inr (q h)

  abbrev Turned : Residual → Residual → Residual → Type 0
  Turned body loop x = is_skip x ≡ false → (p : Residual) × From body p × (behind_edge w fr x ≡ Then p loop)

  looping : (h k : Bool) (x body loop : Residual) → is_skip x ≡ k → Started body x → Turned body loop (if h && not k then Then x loop else Skip)
  looping true false x body loop e g h = (behind_edge w fr x, g e, refl)
  looping true true x body loop e g h = absurd cc
  looping false k x body loop e g h = absurd cc

  arm_first : (b : Bool) (values : List Number) (other : Bool) (s : Residual) (arms : Arms) (x y : Residual) → Started s x → (is_skip y ≡ false → ArmFrom arms (behind_edge w fr y))
      → is_skip (if b then x else y) ≡ false → ArmFrom (arm values other s arms) (behind_edge w fr (if b then x else y))
  arm_first true values other s arms x y p q h = inl (p h)
  arm_first false values other s arms x y p q h = inr (q h)

  either_arm : (b : Bool) (arms : Arms) (x y : Residual) → (is_skip x ≡ false → ArmFrom arms (behind_edge w fr x)) → (is_skip y ≡ false → ArmFrom arms (behind_edge w fr y))
      → is_skip (if b then x else y) ≡ false → ArmFrom arms (behind_edge w fr (if b then x else y))
  either_arm true arms x y p q h = p h
  either_arm false arms x y p q h = q h

  paring : (b : Bool) (bs rs : Branches) → AllFrom bs (all_behind_edge w fr rs) → Started (Par bs) (if b then Skip else Par rs)
  paring true bs rs r h = absurd cc
  paring false bs rs r h = (all_behind_edge w fr rs, r, refl)

  mutual
    pub started : (s : Residual) → is_skip (resolved w s) ≡ false → From s (behind_edge w fr (resolved w s))
    started Skip h = absurd cc
    started (Act n a) h = act_left (is_completed w fr a) n a
    started (Prialt n cases) h = picked cases (Prialt n cases)
    started (PrialtElse n cases other) h = defaulting (some_ready w cases) n cases other (resolved w other) refl (started other) h
    started (Then a b) h = sequel (is_skip (resolved w a)) (resolved w a) (resolved w b) a b refl (started a) (started b) h
    started (Par bs) h = paring (all_ended (all_resolved w bs)) bs (all_resolved w bs) (all_started bs) h
    started (If n c a b) h = choosing (holds (number_of w c)) n c a b (resolved w a) (resolved w b) (started a) (started b) h
    started (While n c body) h = looping (holds (number_of w c)) (is_skip (resolved w body)) (resolved w body) body (While n c body) refl (started body) h
    started (DoWhile body n c) h = looping true (is_skip (resolved w body)) (resolved w body) body (While n c body) refl (started body) h
    started (Switch n e arms) h =
        either_arm (is_chosen (number_of w e) arms) arms (arm_resolved w (number_of w e) arms) (default_resolved w arms) (arm_started (number_of w e) arms) (default_started arms) h

    all_started : (bs : Branches) → AllFrom bs (all_behind_edge w fr (all_resolved w bs))
    all_started ended = refl
    all_started (x ∥ rest) = (behind_edge w fr (resolved w x), all_behind_edge w fr (all_resolved w rest), branch x (resolved w x) (started x), all_started rest, refl)

    arm_started : (v : Number) (arms : Arms) → is_skip (arm_resolved w v arms) ≡ false → ArmFrom arms (behind_edge w fr (arm_resolved w v arms))
    arm_started v no_arm h = absurd cc
    arm_started v (arm values other body rest) h = arm_first (chooses v values) values other body rest (resolved w body) (arm_resolved w v rest) (started body) (arm_started v rest) h

    default_started : (arms : Arms) → is_skip (default_resolved w arms) ≡ false → ArmFrom arms (behind_edge w fr (default_resolved w arms))
    default_started no_arm h = absurd cc
    default_started (arm values other body rest) h = arm_first other values other body rest (resolved w body) (default_resolved w rest) (started body) (default_started rest) h

  -- ---- from what is left

  branch_goes : (s p : Residual) → (From s p → Started s (resolved w p)) → From s p ⊎ (p ≡ Skip) → From s (behind_edge w fr (resolved w p)) ⊎ (behind_edge w fr (resolved w p) ≡ Skip)
  branch_goes s p f (inl d) = branch s (resolved w p) (f d)
  branch_goes s p f (inr e) = inr (rw e refl)

  turning : (k : Bool) (x y body loop : Residual) → is_skip x ≡ k → Started body x → Turned body loop y → Turned body loop (if k then y else Then x loop)
  turning true x y body loop e p q h = q h
  turning false x y body loop e p q h = (behind_edge w fr x, p e, refl)

  mutual
    pub goes : (s r : Residual) → From s r → is_skip (resolved w r) ≡ false → From s (behind_edge w fr (resolved w r))
    goes Skip r d h = absurd d
    goes (Act n a) r (inl e) h = rw e (act_left (is_completed w fr a) n a)
    goes (Act n a) r (inr e) h = absurd (let z : is_skip (resolved w Skip) ≡ false = subst (λ x. is_skip (resolved w x) ≡ false) e h in cc)
    goes (Prialt n cases) r (inl e) h = rw e (picked cases (Prialt n cases))
    goes (Prialt n cases) r (inr d) h = inr (case_goes cases r d h)
    goes (PrialtElse n cases other) r (inl d) h = inl (case_goes cases r d h)
    goes (PrialtElse n cases other) r (inr d) h = inr (goes other r d h)
    goes (Then a b) r (inl d) h =
        subst (λ x. Started (Then a b) (resolved w x)) (sym d.2) (sequel (is_skip (resolved w d.0)) (resolved w d.0) (resolved w b) a b refl (goes a d.0 d.1) (started b)) h
    goes (Then a b) r (inr d) h = inr (goes b r d h)
    goes (Par bs) r d h = subst (λ x. Started (Par bs) (resolved w x)) (sym d.2) (paring (all_ended (all_resolved w d.0)) bs (all_resolved w d.0) (all_go bs d.0 d.1)) h
    goes (If n c a b) r (inl d) h = inl (goes a r d h)
    goes (If n c a b) r (inr d) h = inr (goes b r d h)
    goes (While n c body) r d h =
        subst (λ x. Turned body (While n c body) (resolved w x)) (sym d.2) (turning (is_skip (resolved w d.0)) (resolved w d.0) (resolved w (While n c body)) body (While n c body) refl (goes body d.0 d.1)
        (looping (holds (number_of w c)) (is_skip (resolved w body)) (resolved w body) body (While n c body) refl (started body))) h
    goes (DoWhile body n c) r d h =
        subst (λ x. Turned body (While n c body) (resolved w x)) (sym d.2) (turning (is_skip (resolved w d.0)) (resolved w d.0) (resolved w (While n c body)) body (While n c body) refl (goes body d.0 d.1)
        (looping (holds (number_of w c)) (is_skip (resolved w body)) (resolved w body) body (While n c body) refl (started body))) h
    goes (Switch n e arms) r d h = arm_goes arms r d h

    all_go : (bs rs : Branches) → AllFrom bs rs → AllFrom bs (all_behind_edge w fr (all_resolved w rs))
    all_go ended rs d = rw d refl
    all_go (x ∥ rest) rs d =
        rw d.4 (behind_edge w fr (resolved w d.0), all_behind_edge w fr (all_resolved w d.1), branch_goes x d.0 (goes x d.0) d.2, all_go rest d.1 d.3, refl)

    case_goes : (cases : Cases) (r : Residual) → CaseFrom cases r → is_skip (resolved w r) ≡ false → CaseFrom cases (behind_edge w fr (resolved w r))
    case_goes no_case r d h = absurd d
    case_goes (case_of n offer body rest) r (inl e) h = inr (inl (subst (λ x. Started body (resolved w x)) (sym e) (started body) h))
    case_goes (case_of n offer body rest) r (inr (inl d)) h = inr (inl (goes body r d h))
    case_goes (case_of n offer body rest) r (inr (inr d)) h = inr (inr (case_goes rest r d h))

    arm_goes : (arms : Arms) (r : Residual) → ArmFrom arms r → is_skip (resolved w r) ≡ false → ArmFrom arms (behind_edge w fr (resolved w r))
    arm_goes no_arm r d h = absurd d
    arm_goes (arm values other body rest) r (inl d) h = inl (goes body r d h)
    arm_goes (arm values other body rest) r (inr d) h = inr (arm_goes rest r d h)
