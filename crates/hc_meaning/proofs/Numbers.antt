-- The numbers of actions and conditions: each is that of one action or condition of main.
use Rattle.std.proofs.Common.{◌≡◌, ◌⊎◌, inl, inr, ℕ, ◌+◌, ◌≤◌, Bool, true, false, ◌&&◌, not, List, [], ◌∷◌, ◌++◌, sym, ap, ◌∙◌, subst, arith}
use Rattle.std.specs.Prelude.{if◌then◌else◌}
use Rattle.hc_num.specs.Number.{Number}
use Rattle.hc_core.specs.Program as p
use Rattle.hc_core.specs.Program.{Expression}
use Rattle.hc_meaning.specs.Residual.{residual, sequence, sequence_behind, branches_left, cases_left, arms_left, Residual, Skip, Act, Prialt, PrialtElse, Then, Par, If, While, DoWhile, Switch, Branches, ended, ◌∥◌, Cases, no_case, case_of, Arms, no_arm, arm}
use Rattle.hc_meaning.specs.Value.{World, number_of, holds}
use Rattle.hc_meaning.specs.Control.{resolved, all_resolved, arm_resolved, default_resolved, is_skip, all_ended, looped, some_ready, chooses, is_chosen, Condition, evaluated, all_evaluated, arm_evaluated, default_evaluated, Leaf, does, chooses_from, front, all_fronts}
use Rattle.hc_meaning.proofs.Sets.{From, AllFrom, CaseFrom, ArmFrom}
use Rattle.hc_meaning.specs.Nets.{Member}
use Rattle.hc_meaning.proofs.Marks.{Mark, Does, Tests, case_offers, marks, all_marks, case_marks, arm_marks}
use Rattle.hc_meaning.proofs.Every.{Every, every_left, every_right, every_both}

-- ---- numbers rise in text order

abbrev pub Rising : ℕ → List (ℕ × Mark) → ℕ → Type 0
Rising low [] high = low ≤ high
Rising low (x ∷ list) high = (low ≤ x.0) × Rising (x.0 + 1) list high

lower : (a b : ℕ) (list : List (ℕ × Mark)) (high : ℕ) → a ≤ b → Rising b list high → Rising a list high
lower a b [] high h r = omega arith
lower a b (x ∷ list) high h r = ((let z = r.0 in omega arith), r.1)

higher : (a : ℕ) (list : List (ℕ × Mark)) (b c : ℕ) → b ≤ c → Rising a list b → Rising a list c
higher a [] b c h r = omega arith
higher a (x ∷ list) b c h r = (r.0, higher (x.0 + 1) list b c h r.1)

rise_both : (a : ℕ) (x : List (ℕ × Mark)) (b : ℕ) (y : List (ℕ × Mark)) (c : ℕ) → Rising a x b → Rising b y c → Rising a (x ++ y) c
rise_both a [] b y c r s = lower a b y c r s
rise_both a (x ∷ list) b y c r s = (r.0, rise_both (x.0 + 1) list b y c r.1 s)

mutual
  unfolding residual

  pub rising : (s : p.Statement) (n : ℕ) → Rising n (marks (residual s n).0) (residual s n).1
  rising p.Skip n = omega arith
  rising (p.Assign place t e) n = (omega arith, omega arith)
  rising (p.Delay place) n = (omega arith, omega arith)
  rising (p.Send place chan e) n = (omega arith, omega arith)
  rising (p.Receive place chan t) n = (omega arith, omega arith)
  rising (p.Prialt place cases) n = lower n (n + 1) (case_marks (cases_left cases (n + 1)).0) (cases_left cases (n + 1)).1 (omega arith) (cases_rise cases (n + 1))
  rising (p.PrialtElse place cases rest) n =
      let k = (cases_left cases (n + 1)).1 in
      lower n (n + 1) (case_marks (cases_left cases (n + 1)).0 ++ marks (residual rest k).0) (residual rest k).1 (omega arith)
      (rise_both (n + 1) (case_marks (cases_left cases (n + 1)).0) k (marks (residual rest k).0) (residual rest k).1 (cases_rise cases (n + 1)) (rising rest k))
  rising (p.Seq place parts) n = sequence_rises parts n
  rising (p.Par place bs) n = all_rise bs n
  rising (p.If place c a b) n =
      let k = (residual a (n + 1)).1 in
      (omega arith, rise_both (n + 1) (marks (residual a (n + 1)).0) k (marks (residual b k).0) (residual b k).1 (rising a (n + 1)) (rising b k))
  rising (p.While place c body) n = (omega arith, rising body (n + 1))
  rising (p.DoWhile place body c) n =
      let k = (residual body n).1 in
      rise_both n (marks (residual body n).0) k ((k, Tests c) ∷ []) (k + 1) (rising body n) (omega arith, omega arith)
  rising (p.Switch place e arms) n = (omega arith, arms_rise arms (n + 1))

  sequence_rises : (parts : p.Statements) (n : ℕ) → Rising n (marks (sequence parts n).0) (sequence parts n).1
  sequence_rises p.stop n = omega arith
  sequence_rises (p.◌⨾◌ first rest) n = behind_rises n (residual first n).0 rest (residual first n).1 (rising first n)

  behind_rises : (low : ℕ) (done : Residual) (rest : p.Statements) (n : ℕ) → Rising low (marks done) n → Rising low (marks (sequence_behind done rest n).0) (sequence_behind done rest n).1
  behind_rises low done p.stop n r = r
  behind_rises low done (p.◌⨾◌ next rest) n r =
      behind_rises low (Then done (residual next n).0) rest (residual next n).1 (rise_both low (marks done) n (marks (residual next n).0) (residual next n).1 r (rising next n))

  all_rise : (bs : p.Statements) (n : ℕ) → Rising n (all_marks (branches_left bs n).0) (branches_left bs n).1
  all_rise p.stop n = omega arith
  all_rise (p.◌⨾◌ first rest) n =
      let k = (residual first n).1 in
      rise_both n (marks (residual first n).0) k (all_marks (branches_left rest k).0) (branches_left rest k).1 (rising first n) (all_rise rest k)

  cases_rise : (cases : p.Cases) (n : ℕ) → Rising n (case_marks (cases_left cases n).0) (cases_left cases n).1
  cases_rise p.no_case n = omega arith
  cases_rise (p.send_case chan e first rest) n =
      let k = (residual first (n + 1)).1 in
      (omega arith, rise_both (n + 1) (marks (residual first (n + 1)).0) k (case_marks (cases_left rest k).0) (cases_left rest k).1 (rising first (n + 1)) (cases_rise rest k))
  cases_rise (p.receive_case chan t first rest) n =
      let k = (residual first (n + 1)).1 in
      (omega arith, rise_both (n + 1) (marks (residual first (n + 1)).0) k (case_marks (cases_left rest k).0) (cases_left rest k).1 (rising first (n + 1)) (cases_rise rest k))

  arms_rise : (arms : p.Arms) (n : ℕ) → Rising n (arm_marks (arms_left arms n).0) (arms_left arms n).1
  arms_rise p.no_arm n = omega arith
  arms_rise (p.arm values other body rest) n =
      let k = (residual body n).1 in
      rise_both n (marks (residual body n).0) k (arm_marks (arms_left rest k).0) (arms_left rest k).1 (rising body n) (arms_rise rest k)

above : (low : ℕ) (list : List (ℕ × Mark)) (high : ℕ) (x : ℕ × Mark) → Rising low list high → Member x list → low ≤ x.0
above low [] high x r m = absurd m
above low (y ∷ list) high x r (inl e) = subst (λ (z : ℕ × Mark). low ≤ z.0) e r.0
above low (y ∷ list) high x r (inr m) = let h = above (y.0 + 1) list high x r.1 m in let g = r.0 in omega arith

-- what has one number is one
pub one_number : (low : ℕ) (list : List (ℕ × Mark)) (high : ℕ) (x y : ℕ × Mark) → Rising low list high → Member x list → Member y list → x.0 ≡ y.0 → x ≡ y
one_number low [] high x y r m n e = absurd m
one_number low (z ∷ list) high x y r (inl a) (inl b) e = sym a ∙ b
one_number low (z ∷ list) high x y r (inl a) (inr n) e =
    let h = above (z.0 + 1) list high y r.1 n in
    let g : z.0 ≡ x.0 = ap (λ (i : ℕ × Mark). i.0) a in
    absurd (omega arith)
one_number low (z ∷ list) high x y r (inr m) (inl b) e =
    let h = above (z.0 + 1) list high x r.1 m in
    let g : z.0 ≡ y.0 = ap (λ (i : ℕ × Mark). i.0) b in
    absurd (omega arith)
one_number low (z ∷ list) high x y r (inr m) (inr n) e = one_number (z.0 + 1) list high x y r.1 m n e

-- ---- what is left has no others

module _ (Q : ℕ × Mark → Type 0) where
  abbrev All : List (ℕ × Mark) → Type 0
  All list = Every Q list

  left : (a b : List (ℕ × Mark)) → All (a ++ b) → All a
  left a b h = every_left Q a b h

  right : (a b : List (ℕ × Mark)) → All (a ++ b) → All b
  right a b h = every_right Q a b h

  both : (a b : List (ℕ × Mark)) → All a → All b → All (a ++ b)
  both a b h k = every_both Q a b h k

  branch_marks : (x p : Residual) → (From x p → All (marks p)) → From x p ⊎ (p ≡ Skip) → All (marks p)
  branch_marks x p f (inl d) = f d
  branch_marks x p f (inr e) = rw e tt

  mutual
    pub from_marks : (s r : Residual) → From s r → All (marks s) → All (marks r)
    from_marks Skip r d h = absurd d
    from_marks (Act n a) r (inl e) h = rw e h
    from_marks (Act n a) r (inr e) h = rw e tt
    from_marks (Prialt n cases) r (inl e) h = rw e h
    from_marks (Prialt n cases) r (inr d) h = cases_from cases r d h
    from_marks (PrialtElse n cases other) r (inl d) h = cases_from cases r d (left (case_marks cases) (marks other) h)
    from_marks (PrialtElse n cases other) r (inr d) h = from_marks other r d (right (case_marks cases) (marks other) h)
    from_marks (Then a b) r (inl d) h = rw d.2 (both (marks d.0) (marks b) (from_marks a d.0 d.1 (left (marks a) (marks b) h)) (right (marks a) (marks b) h))
    from_marks (Then a b) r (inr d) h = from_marks b r d (right (marks a) (marks b) h)
    from_marks (Par bs) r d h = rw d.2 (all_from bs d.0 d.1 h)
    from_marks (If n c a b) r (inl d) h = from_marks a r d (left (marks a) (marks b) h.1)
    from_marks (If n c a b) r (inr d) h = from_marks b r d (right (marks a) (marks b) h.1)
    from_marks (While n c body) r d h = rw d.2 (both (marks d.0) ((n, Tests c) ∷ marks body) (from_marks body d.0 d.1 h.1) h)
    from_marks (DoWhile body n c) r d h =
        let g = left (marks body) ((n, Tests c) ∷ []) h in
        rw d.2 (both (marks d.0) ((n, Tests c) ∷ marks body) (from_marks body d.0 d.1 g) ((right (marks body) ((n, Tests c) ∷ []) h).0, g))
    from_marks (Switch n e arms) r d h = arms_from arms r d h.1

    all_from : (bs rs : Branches) → AllFrom bs rs → All (all_marks bs) → All (all_marks rs)
    all_from ended rs d h = rw d tt
    all_from (x ∥ rest) rs d h =
        rw d.4 (both (marks d.0) (all_marks d.1) (branch_marks x d.0 (λ f. from_marks x d.0 f (left (marks x) (all_marks rest) h)) d.2) (all_from rest d.1 d.3 (right (marks x) (all_marks rest) h)))

    cases_from : (cases : Cases) (r : Residual) → CaseFrom cases r → All (case_marks cases) → All (marks r)
    cases_from no_case r d h = absurd d
    cases_from (case_of n offer body rest) r (inl e) h = rw e (left (marks body) (case_marks rest) h.1)
    cases_from (case_of n offer body rest) r (inr (inl d)) h = from_marks body r d (left (marks body) (case_marks rest) h.1)
    cases_from (case_of n offer body rest) r (inr (inr d)) h = cases_from rest r d (right (marks body) (case_marks rest) h.1)

    arms_from : (arms : Arms) (r : Residual) → ArmFrom arms r → All (arm_marks arms) → All (marks r)
    arms_from no_arm r d h = absurd d
    arms_from (arm values other body rest) r (inl d) h = from_marks body r d (left (marks body) (arm_marks rest) h)
    arms_from (arm values other body rest) r (inr d) h = arms_from rest r d (right (marks body) (arm_marks rest) h)

  -- ---- nor has what a clock does

  if_marks : (b : Bool) (x y : Residual) → All (marks x) → All (marks y) → All (marks (if b then x else y))
  if_marks true x y p q = p
  if_marks false x y p q = q

  followed_marks : (b : Bool) (x y l : Residual) → All (marks x) → All (marks y) → All (marks l) → All (marks (if b then y else Then x l))
  followed_marks true x y l p q r = q
  followed_marks false x y l p q r = both (marks x) (marks l) p r

  loop_marks : (b : Bool) (x l : Residual) → All (marks x) → All (marks l) → All (marks (if b then Then x l else Skip))
  loop_marks true x l p q = both (marks x) (marks l) p q
  loop_marks false x l p q = tt

  looped_marks : (h : Bool) (x l : Residual) → All (marks x) → All (marks l) → All (marks (looped h x l))
  looped_marks true x l p q = stands (is_skip x)
    where
      stands : (k : Bool) → All (marks (if true && not k then Then x l else Skip))
      stands true = tt
      stands false = both (marks x) (marks l) p q
  looped_marks false x l p q = tt

  par_marks : (b : Bool) (bs : Branches) → All (all_marks bs) → All (marks (if b then Skip else Par bs))
  par_marks true bs h = tt
  par_marks false bs h = h

  mutual
    pub resolved_marks : (w : World) (r : Residual) → All (marks r) → All (marks (resolved w r))
    resolved_marks w Skip h = tt
    resolved_marks w (Act n a) h = h
    resolved_marks w (Prialt n cases) h = h
    resolved_marks w (PrialtElse n cases other) h = if_marks (some_ready w cases) (PrialtElse n cases other) (resolved w other) h (resolved_marks w other (right (case_marks cases) (marks other) h))
    resolved_marks w (Then a b) h =
        let g = right (marks a) (marks b) h in
        followed_marks (is_skip (resolved w a)) (resolved w a) (resolved w b) b (resolved_marks w a (left (marks a) (marks b) h)) (resolved_marks w b g) g
    resolved_marks w (Par bs) h = par_marks (all_ended (all_resolved w bs)) (all_resolved w bs) (all_resolved_marks w bs h)
    resolved_marks w (If n c a b) h = if_marks (holds (number_of w c)) (resolved w a) (resolved w b) (resolved_marks w a (left (marks a) (marks b) h.1)) (resolved_marks w b (right (marks a) (marks b) h.1))
    resolved_marks w (While n c body) h = looped_marks (holds (number_of w c)) (resolved w body) (While n c body) (resolved_marks w body h.1) h
    resolved_marks w (DoWhile body n c) h =
        let g = left (marks body) ((n, Tests c) ∷ []) h in
        looped_marks true (resolved w body) (While n c body) (resolved_marks w body g) ((right (marks body) ((n, Tests c) ∷ []) h).0, g)
    resolved_marks w (Switch n e arms) h =
        if_marks (is_chosen (number_of w e) arms) (arm_resolved w (number_of w e) arms) (default_resolved w arms) (arm_resolved_marks w (number_of w e) arms h.1) (default_resolved_marks w arms h.1)

    all_resolved_marks : (w : World) (bs : Branches) → All (all_marks bs) → All (all_marks (all_resolved w bs))
    all_resolved_marks w ended h = tt
    all_resolved_marks w (x ∥ rest) h =
        both (marks (resolved w x)) (all_marks (all_resolved w rest)) (resolved_marks w x (left (marks x) (all_marks rest) h)) (all_resolved_marks w rest (right (marks x) (all_marks rest) h))

    arm_resolved_marks : (w : World) (i : Number) (arms : Arms) → All (arm_marks arms) → All (marks (arm_resolved w i arms))
    arm_resolved_marks w i no_arm h = tt
    arm_resolved_marks w i (arm values other body rest) h =
        if_marks (chooses i values) (resolved w body) (arm_resolved w i rest) (resolved_marks w body (left (marks body) (arm_marks rest) h)) (arm_resolved_marks w i rest (right (marks body) (arm_marks rest) h))

    default_resolved_marks : (w : World) (arms : Arms) → All (arm_marks arms) → All (marks (default_resolved w arms))
    default_resolved_marks w no_arm h = tt
    default_resolved_marks w (arm values other body rest) h =
        if_marks other (resolved w body) (default_resolved w rest) (resolved_marks w body (left (marks body) (arm_marks rest) h)) (default_resolved_marks w rest (right (marks body) (arm_marks rest) h))

  abbrev pub LeafIs : Leaf → Type 0
  LeafIs (does n a) = Q (n, Does a)
  LeafIs (chooses_from n cases) = Every Q (case_offers cases)

  abbrev pub ConditionIs : Condition → Type 0
  ConditionIs c = Q (c.number, Tests c.value)

  leaves_both : (a b : List Leaf) → Every LeafIs a → Every LeafIs b → Every LeafIs (a ++ b)
  leaves_both a b h k = every_both LeafIs a b h k

  tests_both : (a b : List Condition) → Every ConditionIs a → Every ConditionIs b → Every ConditionIs (a ++ b)
  tests_both a b h k = every_both ConditionIs a b h k

  offers_in : (cases : Cases) → All (case_marks cases) → Every Q (case_offers cases)
  offers_in no_case h = tt
  offers_in (case_of n offer body rest) h = (h.0, offers_in rest (right (marks body) (case_marks rest) h.1))

  mutual
    pub front_marks : (r : Residual) → All (marks r) → Every LeafIs (front r)
    front_marks Skip h = tt
    front_marks (Act n a) h = h
    front_marks (Prialt n cases) h = (offers_in cases h, tt)
    front_marks (PrialtElse n cases other) h = (offers_in cases (left (case_marks cases) (marks other) h), tt)
    front_marks (Then a b) h = front_marks a (left (marks a) (marks b) h)
    front_marks (Par bs) h = all_front_marks bs h
    front_marks (If n c a b) h = tt
    front_marks (While n c body) h = tt
    front_marks (DoWhile body n c) h = tt
    front_marks (Switch n e arms) h = tt

    all_front_marks : (bs : Branches) → All (all_marks bs) → Every LeafIs (all_fronts bs)
    all_front_marks ended h = tt
    all_front_marks (x ∥ rest) h = leaves_both (front x) (all_fronts rest) (front_marks x (left (marks x) (all_marks rest) h)) (all_front_marks rest (right (marks x) (all_marks rest) h))

  if_tests : (b : Bool) (x y : List Condition) → Every ConditionIs x → Every ConditionIs y → Every ConditionIs (if b then x else y)
  if_tests true x y p q = p
  if_tests false x y p q = q

  mutual
    pub evaluated_marks : (w : World) (r : Residual) → All (marks r) → Every ConditionIs (evaluated w r)
    evaluated_marks w Skip h = tt
    evaluated_marks w (Act n a) h = tt
    evaluated_marks w (Prialt n cases) h = tt
    evaluated_marks w (PrialtElse n cases other) h = if_tests (some_ready w cases) [] (evaluated w other) tt (evaluated_marks w other (right (case_marks cases) (marks other) h))
    evaluated_marks w (Then a b) h =
        tests_both (evaluated w a) (if is_skip (resolved w a) then evaluated w b else []) (evaluated_marks w a (left (marks a) (marks b) h))
        (if_tests (is_skip (resolved w a)) (evaluated w b) [] (evaluated_marks w b (right (marks a) (marks b) h)) tt)
    evaluated_marks w (Par bs) h = all_evaluated_marks w bs h
    evaluated_marks w (If n c a b) h =
        (h.0, if_tests (holds (number_of w c)) (evaluated w a) (evaluated w b) (evaluated_marks w a (left (marks a) (marks b) h.1)) (evaluated_marks w b (right (marks a) (marks b) h.1)))
    evaluated_marks w (While n c body) h = (h.0, if_tests (holds (number_of w c)) (evaluated w body) [] (evaluated_marks w body h.1) tt)
    evaluated_marks w (DoWhile body n c) h =
        tests_both (evaluated w body) (if is_skip (resolved w body) then record { number = n; value = c } ∷ [] else []) (evaluated_marks w body (left (marks body) ((n, Tests c) ∷ []) h))
        (if_tests (is_skip (resolved w body)) (record { number = n; value = c } ∷ []) [] ((right (marks body) ((n, Tests c) ∷ []) h).0, tt) tt)
    evaluated_marks w (Switch n e arms) h =
        (h.0, if_tests (is_chosen (number_of w e) arms) (arm_evaluated w (number_of w e) arms) (default_evaluated w arms) (arm_evaluated_marks w (number_of w e) arms h.1) (default_evaluated_marks w arms h.1))

    all_evaluated_marks : (w : World) (bs : Branches) → All (all_marks bs) → Every ConditionIs (all_evaluated w bs)
    all_evaluated_marks w ended h = tt
    all_evaluated_marks w (x ∥ rest) h =
        tests_both (evaluated w x) (all_evaluated w rest) (evaluated_marks w x (left (marks x) (all_marks rest) h)) (all_evaluated_marks w rest (right (marks x) (all_marks rest) h))

    arm_evaluated_marks : (w : World) (i : Number) (arms : Arms) → All (arm_marks arms) → Every ConditionIs (arm_evaluated w i arms)
    arm_evaluated_marks w i no_arm h = tt
    arm_evaluated_marks w i (arm values other body rest) h =
        if_tests (chooses i values) (evaluated w body) (arm_evaluated w i rest) (evaluated_marks w body (left (marks body) (arm_marks rest) h)) (arm_evaluated_marks w i rest (right (marks body) (arm_marks rest) h))

    default_evaluated_marks : (w : World) (arms : Arms) → All (arm_marks arms) → Every ConditionIs (default_evaluated w arms)
    default_evaluated_marks w no_arm h = tt
    default_evaluated_marks w (arm values other body rest) h =
        if_tests other (evaluated w body) (default_evaluated w rest) (evaluated_marks w body (left (marks body) (arm_marks rest) h)) (default_evaluated_marks w rest (right (marks body) (arm_marks rest) h))
