-- What decides what is left of a statement is among what decides the statement.
use Rattle.std.proofs.Common.{◌≡◌, ℕ, Bool, true, false, ◌&&◌, not, ◌⊎◌, inl, inr, List, [], ◌∷◌, ◌++◌}
use Rattle.std.specs.Prelude.{if◌then◌else◌}
use Rattle.hc_tree.specs.declared.refusal.Node.{Node}
use Rattle.hc_core.specs.Program.{Expression, Target, ToRegister, ToElement, ToWord, ToSignal}
use Rattle.hc_core.specs.Zero.{always_holds}
use Rattle.hc_core.specs.Instant.{deps, where_it}
use Rattle.hc_core.specs.Depends.{Need, Access, accesses, target_accesses, access_needs, signal_needs}
use Rattle.hc_meaning.specs.Residual.{Action, Assign, Delay, Send, Receive, Residual, Skip, Act, Prialt, PrialtElse, Then, Par, If, While, DoWhile, Switch, Branches, ended, ◌∥◌, Cases, no_case, case_of, Arms, no_arm, arm}
use Rattle.hc_meaning.proofs.Sets.{zero, all_zero, partners, passes, all_passes, finishes, all_finishes, case_finishes, arm_finishes, action_needs, case_accesses, needs, all_needs, case_needs, arm_needs, From, AllFrom, CaseFrom, ArmFrom}
use Rattle.hc_meaning.proofs.Every.{Every, every_left, every_right, every_both, HoldsAt, needs_left, needs_right, needs_both, where_true, where_made, both_right, not_true}

module _ (P : Node → Type 0) (m : Node) where
  abbrev Holds : List Need → Type 0
  Holds list = HoldsAt P m list

  left : (a b : List Node) → Every P (a ++ b) → Every P a
  left a b h = every_left P a b h

  right : (a b : List Node) → Every P (a ++ b) → Every P b
  right a b h = every_right P a b h

  both : (a b : List Node) → Every P a → Every P b → Every P (a ++ b)
  both a b h k = every_both P a b h k

  first : (a b : List Need) → Holds (a ++ b) → Holds a
  first a b h = needs_left P m a b h

  second : (a b : List Need) → Holds (a ++ b) → Holds b
  second a b h = needs_right P m a b h

  joined : (a b : List Need) → Holds a → Holds b → Holds (a ++ b)
  joined a b h k = needs_both P m a b h k

  more : (a b x : List Node) → (Every P a → Every P b) → Every P (a ++ x) → Every P (b ++ x)
  more a b x f h = both b x (f (left a x h)) (right a x h)

  pub access_fewer : (a b : List Node) (list : List Access) → (Every P a → Every P b) → Holds (access_needs a list) → Holds (access_needs b list)
  access_fewer a b [] f h = tt
  access_fewer a b (x ∷ list) f h = (λ e. more a b (deps x.1) f (h.0 e), access_fewer a b list f h.1)

  target_fewer : (a b : List Node) (t : Target) (e : Expression) → (Every P a → Every P b) → Holds (signal_needs a t e) → Holds (signal_needs b t e)
  target_fewer a b (ToRegister k) e f h = tt
  target_fewer a b (ToElement k i) e f h = tt
  target_fewer a b (ToWord k i) e f h = tt
  target_fewer a b (ToSignal k) e f h = (λ s. more a b (deps e) f (h.0 s), tt)

  action_fewer : (a b : List Node) (x : Action) → (Every P a → Every P b) → Holds (action_needs a x) → Holds (action_needs b x)
  action_fewer a b (Assign t e) f h =
      joined (signal_needs b t e) (access_needs b (target_accesses t ++ accesses e)) (target_fewer a b t e f (first (signal_needs a t e) (access_needs a (target_accesses t ++ accesses e)) h))
      (access_fewer a b (target_accesses t ++ accesses e) f (second (signal_needs a t e) (access_needs a (target_accesses t ++ accesses e)) h))
  action_fewer a b Delay f h = tt
  action_fewer a b (Send chan e) f h = (λ s. f (h.0 s), access_fewer a b (accesses e) f h.1)
  action_fewer a b (Receive chan t) f h = (λ s. f (h.0 s), access_fewer a b (target_accesses t) f h.1)

  behind : (a b : List Node) (r : Residual) → (Every P a → Every P b) → Every P (finishes r ++ where_it (zero r) (a ++ passes r)) → Every P (finishes r ++ where_it (zero r) (b ++ passes r))
  behind a b r f h =
      both (finishes r) (where_it (zero r) (b ++ passes r)) (left (finishes r) (where_it (zero r) (a ++ passes r)) h)
      (where_made P (zero r) (b ++ passes r) (λ z. more a b (passes r) f (where_true P (zero r) (a ++ passes r) z (right (finishes r) (where_it (zero r) (a ++ passes r)) h))))

  -- with a start that less decides
  mutual
    pub fewer : (a b : List Node) (r : Residual) → (Every P a → Every P b) → Holds (needs a r) → Holds (needs b r)
    fewer a b Skip f h = tt
    fewer a b (Act n x) f h = action_fewer a b x f h
    fewer a b (Prialt n cases) f h =
        joined (access_needs b (case_accesses cases)) (case_needs cases) (access_fewer a b (case_accesses cases) f (first (access_needs a (case_accesses cases)) (case_needs cases) h))
        (second (access_needs a (case_accesses cases)) (case_needs cases) h)
    fewer a b (PrialtElse n cases other) f h =
        let g = first (access_needs a (case_accesses cases) ++ case_needs cases) (needs (a ++ partners cases) other) h in
        joined (access_needs b (case_accesses cases) ++ case_needs cases) (needs (b ++ partners cases) other)
        (joined (access_needs b (case_accesses cases)) (case_needs cases) (access_fewer a b (case_accesses cases) f (first (access_needs a (case_accesses cases)) (case_needs cases) g)) (second (access_needs a (case_accesses cases)) (case_needs cases) g))
        (fewer (a ++ partners cases) (b ++ partners cases) other (more a b (partners cases) f) (second (access_needs a (case_accesses cases) ++ case_needs cases) (needs (a ++ partners cases) other) h))
    fewer a b (Then x y) f h =
        let na = finishes x ++ where_it (zero x) (a ++ passes x) in
        let nb = finishes x ++ where_it (zero x) (b ++ passes x) in
        joined (needs b x) (needs nb y) (fewer a b x f (first (needs a x) (needs na y) h)) (fewer na nb y (behind a b x f) (second (needs a x) (needs na y) h))
    fewer a b (Par branches) f h = all_fewer a b branches f h
    fewer a b (If n c x y) f h =
        let g = first (access_needs a (accesses c) ++ needs (a ++ deps c) x) (needs (a ++ deps c) y) h in
        joined (access_needs b (accesses c) ++ needs (b ++ deps c) x) (needs (b ++ deps c) y)
        (joined (access_needs b (accesses c)) (needs (b ++ deps c) x) (access_fewer a b (accesses c) f (first (access_needs a (accesses c)) (needs (a ++ deps c) x) g))
        (fewer (a ++ deps c) (b ++ deps c) x (more a b (deps c) f) (second (access_needs a (accesses c)) (needs (a ++ deps c) x) g)))
        (fewer (a ++ deps c) (b ++ deps c) y (more a b (deps c) f) (second (access_needs a (accesses c) ++ needs (a ++ deps c) x) (needs (a ++ deps c) y) h))
    fewer a b (While n c body) f h =
        joined (access_needs (b ++ finishes body) (accesses c)) (needs (b ++ finishes body ++ deps c) body)
        (access_fewer (a ++ finishes body) (b ++ finishes body) (accesses c) (more a b (finishes body) f) (first (access_needs (a ++ finishes body) (accesses c)) (needs (a ++ finishes body ++ deps c) body) h))
        (fewer (a ++ finishes body ++ deps c) (b ++ finishes body ++ deps c) body (more (a ++ finishes body) (b ++ finishes body) (deps c) (more a b (finishes body) f))
        (second (access_needs (a ++ finishes body) (accesses c)) (needs (a ++ finishes body ++ deps c) body) h))
    fewer a b (DoWhile body n c) f h =
        joined (access_needs (finishes body) (accesses c)) (needs (b ++ finishes body ++ deps c) body)
        (first (access_needs (finishes body) (accesses c)) (needs (a ++ finishes body ++ deps c) body) h)
        (fewer (a ++ finishes body ++ deps c) (b ++ finishes body ++ deps c) body (more (a ++ finishes body) (b ++ finishes body) (deps c) (more a b (finishes body) f))
        (second (access_needs (finishes body) (accesses c)) (needs (a ++ finishes body ++ deps c) body) h))
    fewer a b (Switch n e arms) f h =
        joined (access_needs b (accesses e)) (arm_needs (b ++ deps e) arms) (access_fewer a b (accesses e) f (first (access_needs a (accesses e)) (arm_needs (a ++ deps e) arms) h))
        (arm_fewer (a ++ deps e) (b ++ deps e) arms (more a b (deps e) f) (second (access_needs a (accesses e)) (arm_needs (a ++ deps e) arms) h))

    all_fewer : (a b : List Node) (bs : Branches) → (Every P a → Every P b) → Holds (all_needs a bs) → Holds (all_needs b bs)
    all_fewer a b ended f h = tt
    all_fewer a b (x ∥ rest) f h =
        joined (needs b x) (all_needs b rest) (fewer a b x f (first (needs a x) (all_needs a rest) h)) (all_fewer a b rest f (second (needs a x) (all_needs a rest) h))

    arm_fewer : (a b : List Node) (arms : Arms) → (Every P a → Every P b) → Holds (arm_needs a arms) → Holds (arm_needs b arms)
    arm_fewer a b no_arm f h = tt
    arm_fewer a b (arm values other body rest) f h =
        joined (needs b body) (arm_needs b rest) (fewer a b body f (first (needs a body) (arm_needs a rest) h)) (arm_fewer a b rest f (second (needs a body) (arm_needs a rest) h))

  -- ---- the ends of what is left

  abbrev pub Ends : Residual → Type 0
  Ends r = Every P (passes r) × Every P (finishes r)

  opened : (b : Bool) (x : List Node) → b ≡ false → Every P (if b then [] else x) → Every P x
  opened true x e h = absurd cc
  opened false x e h = h

  closed : (b : Bool) (x : List Node) → Every P x → Every P (if b then [] else x)
  closed true x h = tt
  closed false x h = h

  then_ends : (p b : Residual) → (zero b ≡ true → Ends p × Every P (passes b)) → Every P (finishes b) → Ends (Then p b)
  then_ends p b f h = (
    where_made P (zero p && zero b) (passes p ++ passes b) (λ z. let g = f (both_right (zero p) (zero b) z) in both (passes p) (passes b) g.0.0 g.1),
    both (finishes b) (where_it (zero b) (finishes p ++ passes b)) h (where_made P (zero b) (finishes p ++ passes b) (λ z. let g = f z in both (finishes p) (passes b) g.0.1 g.1)),
  )

  branch_ends : (x p : Residual) → (From x p → Ends p) → From x p ⊎ (p ≡ Skip) → Ends p
  branch_ends x p f (inl d) = f d
  branch_ends x p f (inr e) = rw e (tt, tt)

  mutual
    pub from_ends : (s r : Residual) → From s r → Every P (finishes s) → Ends r
    from_ends Skip r d h = absurd d
    from_ends (Act n a) r (inl e) h = rw e (tt, tt)
    from_ends (Act n a) r (inr e) h = rw e (tt, tt)
    from_ends (Prialt n cases) r (inl e) h = rw e (tt, h)
    from_ends (Prialt n cases) r (inr d) h = case_ends cases r d h
    from_ends (PrialtElse n cases other) r (inl d) h = case_ends cases r d (left (case_finishes cases) (finishes other) h)
    from_ends (PrialtElse n cases other) r (inr d) h = from_ends other r d (right (case_finishes cases) (finishes other) h)
    from_ends (Then a b) r (inl d) h =
        rw d.2 (then_ends d.0 b
        (λ z. let g = where_true P (zero b) (finishes a ++ passes b) z (right (finishes b) (where_it (zero b) (finishes a ++ passes b)) h) in
        (from_ends a d.0 d.1 (left (finishes a) (passes b) g), right (finishes a) (passes b) g))
        (left (finishes b) (where_it (zero b) (finishes a ++ passes b)) h))
    from_ends (Then a b) r (inr d) h = from_ends b r d (left (finishes b) (where_it (zero b) (finishes a ++ passes b)) h)
    from_ends (Par branches) r d h =
        let g = all_ends branches d.0 d.1 h in
        rw d.2 (where_made P (all_zero d.0) (all_passes d.0) (λ z. g.0), g.1)
    from_ends (If n c a b) r (inl d) h = from_ends a r d (left (finishes a) (finishes b) h)
    from_ends (If n c a b) r (inr d) h = from_ends b r d (right (finishes a) (finishes b) h)
    from_ends (While n c body) r d h =
        rw d.2 (then_ends d.0 (While n c body)
        (λ z. let g = opened (always_holds c) (finishes body ++ deps c) (not_true (always_holds c) z) h in
        (from_ends body d.0 d.1 (left (finishes body) (deps c) g), where_made P (not (always_holds c)) (deps c) (λ y. right (finishes body) (deps c) g)))
        h)
    from_ends (DoWhile body n c) r d h =
        rw d.2 (then_ends d.0 (While n c body)
        (λ z. (from_ends body d.0 d.1 (left (finishes body) (deps c) h), where_made P (not (always_holds c)) (deps c) (λ y. right (finishes body) (deps c) h)))
        (closed (always_holds c) (finishes body ++ deps c) h))
    from_ends (Switch n e arms) r d h = arm_ends arms r d h

    all_ends : (bs rs : Branches) → AllFrom bs rs → Every P (all_finishes bs) → Every P (all_passes rs) × Every P (all_finishes rs)
    all_ends ended rs d h = rw d (tt, tt)
    all_ends (x ∥ rest) rs d h =
        let g = branch_ends x d.0 (λ f. from_ends x d.0 f (left (finishes x) (all_finishes rest) h)) d.2 in
        let i = all_ends rest d.1 d.3 (right (finishes x) (all_finishes rest) h) in
        rw d.4 (both (passes d.0) (all_passes d.1) g.0 i.0, both (finishes d.0) (all_finishes d.1) g.1 i.1)

    case_ends : (cases : Cases) (r : Residual) → CaseFrom cases r → Every P (case_finishes cases) → Ends r
    case_ends no_case r d h = absurd d
    case_ends (case_of n offer body rest) r (inl e) h =
        let g = left (finishes body ++ passes body) (case_finishes rest) h in
        rw e (right (finishes body) (passes body) g, left (finishes body) (passes body) g)
    case_ends (case_of n offer body rest) r (inr (inl d)) h = from_ends body r d (left (finishes body) (passes body) (left (finishes body ++ passes body) (case_finishes rest) h))
    case_ends (case_of n offer body rest) r (inr (inr d)) h = case_ends rest r d (right (finishes body ++ passes body) (case_finishes rest) h)

    arm_ends : (arms : Arms) (r : Residual) → ArmFrom arms r → Every P (arm_finishes arms) → Ends r
    arm_ends no_arm r d h = absurd d
    arm_ends (arm values other body rest) r (inl d) h = from_ends body r d (left (finishes body) (arm_finishes rest) h)
    arm_ends (arm values other body rest) r (inr d) h = arm_ends rest r d (right (finishes body) (arm_finishes rest) h)

  -- ---- what is left needs no more

  -- the start of what follows a part that is left
  goes_on : (a p : Residual) → From a p → Every P (finishes a) → Every P (finishes p ++ where_it (zero p) ([] ++ passes p))
  goes_on a p d h =
      let g = from_ends a p d h in
      both (finishes p) (where_it (zero p) ([] ++ passes p)) g.1 (where_made P (zero p) ([] ++ passes p) (λ z. g.0))

  -- a loop whose body goes on
  turn : (p body : Residual) (n : ℕ) (st at : List Node) (c : Expression) → From body p → (Every P at → Every P (finishes body)) → Holds (access_needs at (accesses c))
      → Holds (needs (st ++ finishes body ++ deps c) body) → Holds (needs [] p) → Holds (needs [] (Then p (While n c body)))
  turn p body n st at c d f ha hb hp =
      let now = finishes p ++ where_it (zero p) ([] ++ passes p) in
      joined (needs [] p) (needs now (While n c body)) hp
      (joined (access_needs (now ++ finishes body) (accesses c)) (needs (now ++ finishes body ++ deps c) body)
      (access_fewer at (now ++ finishes body) (accesses c) (λ h. both now (finishes body) (goes_on body p d (f h)) (f h)) ha)
      (fewer (st ++ finishes body ++ deps c) (now ++ finishes body ++ deps c) body
      (λ h. let g = right st (finishes body) (left (st ++ finishes body) (deps c) h) in
      both (now ++ finishes body) (deps c) (both now (finishes body) (goes_on body p d g) g) (right (st ++ finishes body) (deps c) h)) hb))

  branch_from : (x p : Residual) → (From x p → Holds (needs [] p)) → From x p ⊎ (p ≡ Skip) → Holds (needs [] p)
  branch_from x p f (inl d) = f d
  branch_from x p f (inr e) = rw e tt

  mutual
    pub from_needs : (st : List Node) (s r : Residual) → From s r → Holds (needs st s) → Holds (needs [] r)
    from_needs st Skip r d h = absurd d
    from_needs st (Act n a) r (inl e) h = rw e (fewer st [] (Act n a) (λ x. tt) h)
    from_needs st (Act n a) r (inr e) h = rw e tt
    from_needs st (Prialt n cases) r (inl e) h = rw e (fewer st [] (Prialt n cases) (λ x. tt) h)
    from_needs st (Prialt n cases) r (inr d) h = case_from cases r d (second (access_needs st (case_accesses cases)) (case_needs cases) h)
    from_needs st (PrialtElse n cases other) r (inl d) h =
        case_from cases r d (second (access_needs st (case_accesses cases)) (case_needs cases) (first (access_needs st (case_accesses cases) ++ case_needs cases) (needs (st ++ partners cases) other) h))
    from_needs st (PrialtElse n cases other) r (inr d) h = from_needs (st ++ partners cases) other r d (second (access_needs st (case_accesses cases) ++ case_needs cases) (needs (st ++ partners cases) other) h)
    from_needs st (Then a b) r (inl d) h =
        let next = finishes a ++ where_it (zero a) (st ++ passes a) in
        let now = finishes d.0 ++ where_it (zero d.0) ([] ++ passes d.0) in
        rw d.2 (joined (needs [] d.0) (needs now b) (from_needs st a d.0 d.1 (first (needs st a) (needs next b) h))
        (fewer next now b (λ g. goes_on a d.0 d.1 (left (finishes a) (where_it (zero a) (st ++ passes a)) g)) (second (needs st a) (needs next b) h)))
    from_needs st (Then a b) r (inr d) h =
        let next = finishes a ++ where_it (zero a) (st ++ passes a) in
        from_needs next b r d (second (needs st a) (needs next b) h)
    from_needs st (Par branches) r d h = rw d.2 (all_from st branches d.0 d.1 h)
    from_needs st (If n c a b) r (inl d) h =
        from_needs (st ++ deps c) a r d (second (access_needs st (accesses c)) (needs (st ++ deps c) a) (first (access_needs st (accesses c) ++ needs (st ++ deps c) a) (needs (st ++ deps c) b) h))
    from_needs st (If n c a b) r (inr d) h = from_needs (st ++ deps c) b r d (second (access_needs st (accesses c) ++ needs (st ++ deps c) a) (needs (st ++ deps c) b) h)
    from_needs st (While n c body) r d h =
        let ha = first (access_needs (st ++ finishes body) (accesses c)) (needs (st ++ finishes body ++ deps c) body) h in
        let hb = second (access_needs (st ++ finishes body) (accesses c)) (needs (st ++ finishes body ++ deps c) body) h in
        rw d.2 (turn d.0 body n st (st ++ finishes body) c d.1 (right st (finishes body)) ha hb (from_needs (st ++ finishes body ++ deps c) body d.0 d.1 hb))
    from_needs st (DoWhile body n c) r d h =
        let ha = first (access_needs (finishes body) (accesses c)) (needs (st ++ finishes body ++ deps c) body) h in
        let hb = second (access_needs (finishes body) (accesses c)) (needs (st ++ finishes body ++ deps c) body) h in
        rw d.2 (turn d.0 body n st (finishes body) c d.1 (λ x. x) ha hb (from_needs (st ++ finishes body ++ deps c) body d.0 d.1 hb))
    from_needs st (Switch n e arms) r d h = arm_from (st ++ deps e) arms r d (second (access_needs st (accesses e)) (arm_needs (st ++ deps e) arms) h)

    all_from : (st : List Node) (bs rs : Branches) → AllFrom bs rs → Holds (all_needs st bs) → Holds (all_needs [] rs)
    all_from st ended rs d h = rw d tt
    all_from st (x ∥ rest) rs d h =
        rw d.4 (joined (needs [] d.0) (all_needs [] d.1) (branch_from x d.0 (λ f. from_needs st x d.0 f (first (needs st x) (all_needs st rest) h)) d.2) (all_from st rest d.1 d.3 (second (needs st x) (all_needs st rest) h)))

    case_from : (cases : Cases) (r : Residual) → CaseFrom cases r → Holds (case_needs cases) → Holds (needs [] r)
    case_from no_case r d h = absurd d
    case_from (case_of n offer body rest) r (inl e) h = rw e (first (needs [] body) (case_needs rest) h)
    case_from (case_of n offer body rest) r (inr (inl d)) h = from_needs [] body r d (first (needs [] body) (case_needs rest) h)
    case_from (case_of n offer body rest) r (inr (inr d)) h = case_from rest r d (second (needs [] body) (case_needs rest) h)

    arm_from : (st : List Node) (arms : Arms) (r : Residual) → ArmFrom arms r → Holds (arm_needs st arms) → Holds (needs [] r)
    arm_from st no_arm r d h = absurd d
    arm_from st (arm values other body rest) r (inl d) h = from_needs st body r d (first (needs st body) (arm_needs st rest) h)
    arm_from st (arm values other body rest) r (inr d) h = arm_from st rest r d (second (needs st body) (arm_needs st rest) h)
