-- All of a statement: its sets over what is left are those that hc_core gives for the statement.
use Rattle.std.proofs.Common.{◌≡◌, ℕ, ◌+◌, Bool, true, false, ◌&&◌, ◌||◌, not, List, [], ◌++◌, refl, sym, ap, ◌∙◌, subst}
use Rattle.std.specs.Prelude.{if◌then◌else◌}
use Rattle.hc_tree.specs.declared.refusal.Node.{Node}
use Rattle.hc_core.specs.Program as p
use Rattle.hc_core.specs.Program.{Expression}
use Rattle.hc_core.specs.Zero as pz
use Rattle.hc_core.specs.Zero.{always_holds}
use Rattle.hc_core.specs.Instant as pi
use Rattle.hc_core.specs.Instant.{deps, where_it, Before, first_part, and_then}
use Rattle.hc_core.specs.Depends as pd
use Rattle.hc_core.specs.Depends.{Need, accesses, access_needs}
use Rattle.hc_meaning.specs.Residual.{residual, sequence, sequence_behind, branches_left, cases_left, arms_left, Residual, Skip, Act, Prialt, PrialtElse, Then, Par, If, While, DoWhile, Switch}
use Rattle.hc_meaning.proofs.Sets.{zero, all_zero, some_zero, has_default, partners, passes, all_passes, arm_passes, finishes, all_finishes, case_finishes, arm_finishes, case_accesses, needs, all_needs, case_needs, arm_needs}
use Rattle.hc_meaning.proofs.Every.{Every, every_left, every_right, every_both, HoldsAt, needs_left, needs_right, needs_both, where_true, where_made, in_case}
use Rattle.hc_meaning.proofs.FromNeeds.{access_fewer, fewer}

-- ---- whether it may take no clock

and_assoc : (a b c : Bool) → ((a && b) && c) ≡ (a && (b && c))
and_assoc true b c = refl
and_assoc false b c = refl

and_true : (a : Bool) → (a && true) ≡ a
and_true true = refl
and_true false = refl

mutual
  unfolding residual

  pub zero_is : (s : p.Statement) (n : ℕ) → zero (residual s n).0 ≡ pz.zero s
  zero_is p.Skip n = refl
  zero_is (p.Assign place t e) n = refl
  zero_is (p.Delay place) n = refl
  zero_is (p.Send place chan e) n = refl
  zero_is (p.Receive place chan t) n = refl
  zero_is (p.Prialt place cases) n = refl
  zero_is (p.PrialtElse place cases rest) n = zero_is rest _
  zero_is (p.Seq place parts) n = sequence_zero parts n
  zero_is (p.Par place branches) n = all_zero_is branches n
  zero_is (p.If place c a b) n = rw (zero_is a (n + 1), zero_is b (residual a (n + 1)).1) refl
  zero_is (p.While place c body) n = refl
  zero_is (p.DoWhile place body c) n = zero_is body n
  zero_is (p.Switch place e arms) n = rw (some_zero_is arms (n + 1), default_is arms (n + 1)) refl

  sequence_zero : (parts : p.Statements) (n : ℕ) → zero (sequence parts n).0 ≡ pz.all_zero parts
  sequence_zero p.stop n = refl
  sequence_zero (p.◌⨾◌ first rest) n = behind_zero (residual first n).0 rest (residual first n).1 ∙ ap (λ z. z && pz.all_zero rest) (zero_is first n)

  behind_zero : (done : Residual) (rest : p.Statements) (n : ℕ) → zero (sequence_behind done rest n).0 ≡ (zero done && pz.all_zero rest)
  behind_zero done p.stop n = sym (and_true (zero done))
  behind_zero done (p.◌⨾◌ next rest) n =
      behind_zero (Then done (residual next n).0) rest (residual next n).1 ∙ and_assoc (zero done) (zero (residual next n).0) (pz.all_zero rest)
      ∙ ap (λ z. zero done && (z && pz.all_zero rest)) (zero_is next n)

  all_zero_is : (bs : p.Statements) (n : ℕ) → all_zero (branches_left bs n).0 ≡ pz.all_zero bs
  all_zero_is p.stop n = refl
  all_zero_is (p.◌⨾◌ first rest) n = rw (zero_is first n, all_zero_is rest (residual first n).1) refl

  some_zero_is : (arms : p.Arms) (n : ℕ) → some_zero (arms_left arms n).0 ≡ pz.some_zero arms
  some_zero_is p.no_arm n = refl
  some_zero_is (p.arm values other body rest) n = rw (zero_is body n, some_zero_is rest (residual body n).1) refl

  default_is : (arms : p.Arms) (n : ℕ) → has_default (arms_left arms n).0 ≡ pz.has_default arms
  default_is p.no_arm n = refl
  default_is (p.arm values other body rest) n = rw (default_is rest (residual body n).1) refl

mutual
  unfolding residual

  pub partners_are : (cases : p.Cases) (n : ℕ) → partners (cases_left cases n).0 ≡ pi.partners cases
  partners_are p.no_case n = refl
  partners_are (p.send_case chan e first rest) n = rw (partners_are rest (residual first (n + 1)).1) refl
  partners_are (p.receive_case chan t first rest) n = rw (partners_are rest (residual first (n + 1)).1) refl

mutual
  unfolding residual

  pub case_accesses_are : (cases : p.Cases) (n : ℕ) → case_accesses (cases_left cases n).0 ≡ pd.case_accesses cases
  case_accesses_are p.no_case n = refl
  case_accesses_are (p.send_case chan e first rest) n = rw (case_accesses_are rest (residual first (n + 1)).1) refl
  case_accesses_are (p.receive_case chan t first rest) n = rw (case_accesses_are rest (residual first (n + 1)).1) refl

module _ (P : Node → Type 0) (m : Node) where
  abbrev Holds : List Need → Type 0
  Holds list = HoldsAt P m list

  left : (a b : List Node) → Every P (a ++ b) → Every P a
  left a b h = every_left P a b h

  right : (a b : List Node) → Every P (a ++ b) → Every P b
  right a b h = every_right P a b h

  both : (a b : List Node) → Every P a → Every P b → Every P (a ++ b)
  both a b h k = every_both P a b h k

  over : (a a' b b' : List Node) → (Every P a → Every P a') → (Every P b → Every P b') → Every P (a ++ b) → Every P (a' ++ b')
  over a a' b b' f g h = both a' b' (f (left a b h)) (g (right a b h))

  first : (a b : List Need) → Holds (a ++ b) → Holds a
  first a b h = needs_left P m a b h

  second : (a b : List Need) → Holds (a ++ b) → Holds b
  second a b h = needs_right P m a b h

  joined : (a b : List Need) → Holds a → Holds b → Holds (a ++ b)
  joined a b h k = needs_both P m a b h k

  join_over : (a a' b b' : List Need) → (Holds a → Holds a') → (Holds b → Holds b') → Holds (a ++ b) → Holds (a' ++ b')
  join_over a a' b b' f g h = joined a' b' (f (first a b h)) (g (second a b h))

  where_over : (a b : Bool) (x y : List Node) → a ≡ b → (Every P x → Every P y) → Every P (where_it a x) → Every P (where_it b y)
  where_over true b x y e f h = rw (← e) (f h)
  where_over false b x y e f h = rw (← e) tt

  loop_over : (b : Bool) (x y : List Node) → (Every P x → Every P y) → Every P (if b then [] else x) → Every P (if b then [] else y)
  loop_over true x y f h = tt
  loop_over false x y f h = f h

  none_where : (b : Bool) (x : List Node) → b ≡ false → Every P (where_it b x)
  none_where true x e = absurd cc
  none_where false x e = tt

  not_zero : (r : Residual) → zero r ≡ false → Every P (passes r)
  not_zero Skip z = tt
  not_zero (Act n a) z = tt
  not_zero (Prialt n cases) z = tt
  not_zero (PrialtElse n cases other) z = none_where (zero other) (partners cases ++ passes other) z
  not_zero (Then a b) z = none_where (zero a && zero b) (passes a ++ passes b) z
  not_zero (Par bs) z = none_where (all_zero bs) (all_passes bs) z
  not_zero (If n c a b) z = none_where (zero a || zero b) (deps c ++ passes a ++ passes b) z
  not_zero (While n c body) z = none_where (not (always_holds c)) (deps c) z
  not_zero (DoWhile body n c) z = tt
  not_zero (Switch n e arms) z = none_where (some_zero arms || not (has_default arms)) (deps e ++ arm_passes arms) z

  id : (a : List Node) → Every P a → Every P a
  id a h = h

  -- ---- the pass

  seq_pass : (parts : p.Statements) (n : ℕ) → (Every P (pi.all_passes parts) → Every P (passes (sequence parts n).0)) → Every P (where_it (pz.all_zero parts) (pi.all_passes parts)) → Every P (passes (sequence parts n).0)
  seq_pass parts n f h =
      in_case (pz.all_zero parts) (λ e. not_zero (sequence parts n).0 (sequence_zero parts n ∙ e)) (λ e. f (where_true P (pz.all_zero parts) (pi.all_passes parts) e h))

  mutual
    unfolding residual

    pub pass_in : (s : p.Statement) (n : ℕ) → Every P (pi.passes s) → Every P (passes (residual s n).0)
    pass_in p.Skip n h = tt
    pass_in (p.Assign place t e) n h = tt
    pass_in (p.Delay place) n h = tt
    pass_in (p.Send place chan e) n h = tt
    pass_in (p.Receive place chan t) n h = tt
    pass_in (p.Prialt place cases) n h = tt
    pass_in (p.PrialtElse place cases rest) n h =
        let x = (cases_left cases (n + 1)).0 in
        let k = (cases_left cases (n + 1)).1 in
        where_over (pz.zero rest) (zero (residual rest k).0) (pi.partners cases ++ pi.passes rest) (partners x ++ passes (residual rest k).0) (sym (zero_is rest k))
        (over (pi.partners cases) (partners x) (pi.passes rest) (passes (residual rest k).0) (λ g. subst (Every P) (sym (partners_are cases (n + 1))) g) (pass_in rest k)) h
    pass_in (p.Seq place parts) n h = seq_pass parts n (sequence_pass parts n) h
    pass_in (p.Par place bs) n h =
        where_over (pz.all_zero bs) (all_zero (branches_left bs n).0) (pi.all_passes bs) (all_passes (branches_left bs n).0) (sym (all_zero_is bs n)) (all_pass_in bs n) h
    pass_in (p.If place c a b) n h =
        let i = n + 1 in
        let j = (residual a (n + 1)).1 in
        where_over (pz.zero a || pz.zero b) (zero (residual a i).0 || zero (residual b j).0) (deps c ++ pi.passes a ++ pi.passes b) (deps c ++ passes (residual a i).0 ++ passes (residual b j).0)
        (rw (zero_is a i, zero_is b j) refl)
        (over (deps c ++ pi.passes a) (deps c ++ passes (residual a i).0) (pi.passes b) (passes (residual b j).0) (over (deps c) (deps c) (pi.passes a) (passes (residual a i).0) (id (deps c)) (pass_in a i)) (pass_in b j)) h
    pass_in (p.While place c body) n h = h
    pass_in (p.DoWhile place body c) n h = tt
    pass_in (p.Switch place e arms) n h =
        where_over (pz.some_zero arms || not (pz.has_default arms)) (some_zero (arms_left arms (n + 1)).0 || not (has_default (arms_left arms (n + 1)).0)) (deps e ++ pi.arm_passes arms) (deps e ++ arm_passes (arms_left arms (n + 1)).0)
        (rw (some_zero_is arms (n + 1), default_is arms (n + 1)) refl) (over (deps e) (deps e) (pi.arm_passes arms) (arm_passes (arms_left arms (n + 1)).0) (id (deps e)) (arm_pass_in arms (n + 1))) h

    sequence_pass : (parts : p.Statements) (n : ℕ) → Every P (pi.all_passes parts) → Every P (passes (sequence parts n).0)
    sequence_pass p.stop n h = tt
    sequence_pass (p.◌⨾◌ first rest) n h =
        behind_pass (residual first n).0 rest (residual first n).1 (pass_in first n (left (pi.passes first) (pi.all_passes rest) h)) (right (pi.passes first) (pi.all_passes rest) h)

    behind_pass : (done : Residual) (rest : p.Statements) (n : ℕ) → Every P (passes done) → Every P (pi.all_passes rest) → Every P (passes (sequence_behind done rest n).0)
    behind_pass done p.stop n d h = d
    behind_pass done (p.◌⨾◌ next rest) n d h =
        behind_pass (Then done (residual next n).0) rest (residual next n).1
        (where_made P (zero done && zero (residual next n).0) (passes done ++ passes (residual next n).0) (λ z. both (passes done) (passes (residual next n).0) d (pass_in next n (left (pi.passes next) (pi.all_passes rest) h))))
        (right (pi.passes next) (pi.all_passes rest) h)

    all_pass_in : (bs : p.Statements) (n : ℕ) → Every P (pi.all_passes bs) → Every P (all_passes (branches_left bs n).0)
    all_pass_in p.stop n h = tt
    all_pass_in (p.◌⨾◌ first rest) n h =
        over (pi.passes first) (passes (residual first n).0) (pi.all_passes rest) (all_passes (branches_left rest (residual first n).1).0) (pass_in first n) (all_pass_in rest (residual first n).1) h

    arm_pass_in : (arms : p.Arms) (n : ℕ) → Every P (pi.arm_passes arms) → Every P (arm_passes (arms_left arms n).0)
    arm_pass_in p.no_arm n h = tt
    arm_pass_in (p.arm values other body rest) n h =
        over (pi.passes body) (passes (residual body n).0) (pi.arm_passes rest) (arm_passes (arms_left rest (residual body n).1).0) (pass_in body n) (arm_pass_in rest (residual body n).1) h

  -- ---- the finish

  -- what is known of the parts of a sequence up to some part, of which this is left
  record Matches (b : Before) (done : Residual) : Type 0 where
    may_pass : b.may_pass ≡ zero done
    pass : Every P b.pass → Every P (passes done)
    finish : Every P b.finish → Every P (finishes done)

  matches_one : (s : p.Statement) (n : ℕ) → (Every P (pi.finishes s) → Every P (finishes (residual s n).0)) → Matches (first_part s (pi.finishes s)) (residual s n).0
  matches_one s n f = record { may_pass = sym (zero_is s n); pass = pass_in s n; finish = f }

  matches_more : (b : Before) (done : Residual) (s : p.Statement) (n : ℕ) → Matches b done → (Every P (pi.finishes s) → Every P (finishes (residual s n).0))
      → Matches (and_then b s (pi.finishes s)) (Then done (residual s n).0)
  matches_more b done s n k f =
      let x = (residual s n).0 in
      record {
        may_pass = rw (k.may_pass, zero_is s n) refl;
        pass = where_over (b.may_pass && pz.zero s) (zero done && zero x) (b.pass ++ pi.passes s) (passes done ++ passes x) (rw (k.may_pass, zero_is s n) refl)
            (over b.pass (passes done) (pi.passes s) (passes x) k.pass (pass_in s n));
        finish = over (pi.finishes s) (finishes x) (where_it (pz.zero s) (b.finish ++ pi.passes s)) (where_it (zero x) (finishes done ++ passes x)) f
            (where_over (pz.zero s) (zero x) (b.finish ++ pi.passes s) (finishes done ++ passes x) (sym (zero_is s n)) (over b.finish (finishes done) (pi.passes s) (passes x) k.finish (pass_in s n)));
      }

  mutual
    unfolding residual

    pub finish_in : (s : p.Statement) (n : ℕ) → Every P (pi.finishes s) → Every P (finishes (residual s n).0)
    finish_in p.Skip n h = tt
    finish_in (p.Assign place t e) n h = tt
    finish_in (p.Delay place) n h = tt
    finish_in (p.Send place chan e) n h = tt
    finish_in (p.Receive place chan t) n h = tt
    finish_in (p.Prialt place cases) n h = case_finish_in cases (n + 1) h
    finish_in (p.PrialtElse place cases rest) n h =
        let k = (cases_left cases (n + 1)).1 in
        over (pi.case_finishes cases) (case_finishes (cases_left cases (n + 1)).0) (pi.finishes rest) (finishes (residual rest k).0) (case_finish_in cases (n + 1)) (finish_in rest k) h
    finish_in (p.Seq place parts) n h = sequence_finish parts n h
    finish_in (p.Par place bs) n h = all_finish_in bs n h
    finish_in (p.If place c a b) n h =
        let j = (residual a (n + 1)).1 in
        over (pi.finishes a) (finishes (residual a (n + 1)).0) (pi.finishes b) (finishes (residual b j).0) (finish_in a (n + 1)) (finish_in b j) h
    finish_in (p.While place c body) n h =
        let x = (residual body (n + 1)).0 in
        loop_over (always_holds c) (pi.finishes body ++ deps c) (finishes x ++ deps c) (over (pi.finishes body) (finishes x) (deps c) (deps c) (finish_in body (n + 1)) (id (deps c))) h
    finish_in (p.DoWhile place body c) n h = over (pi.finishes body) (finishes (residual body n).0) (deps c) (deps c) (finish_in body n) (id (deps c)) h
    finish_in (p.Switch place e arms) n h = arm_finish_in arms (n + 1) h

    sequence_finish : (parts : p.Statements) (n : ℕ) → Every P (pi.sequence_finishes parts) → Every P (finishes (sequence parts n).0)
    sequence_finish p.stop n h = tt
    sequence_finish (p.◌⨾◌ first rest) n h =
        behind_finish (first_part first (pi.finishes first)) (residual first n).0 rest (residual first n).1 (matches_one first n (finish_in first n)) h

    behind_finish : (b : Before) (done : Residual) (rest : p.Statements) (n : ℕ) → Matches b done → Every P (pi.finishes_behind b rest) → Every P (finishes (sequence_behind done rest n).0)
    behind_finish b done p.stop n k h = k.finish h
    behind_finish b done (p.◌⨾◌ next rest) n k h =
        behind_finish (and_then b next (pi.finishes next)) (Then done (residual next n).0) rest (residual next n).1 (matches_more b done next n k (finish_in next n)) h

    all_finish_in : (bs : p.Statements) (n : ℕ) → Every P (pi.all_finishes bs) → Every P (all_finishes (branches_left bs n).0)
    all_finish_in p.stop n h = tt
    all_finish_in (p.◌⨾◌ first rest) n h =
        over (pi.finishes first) (finishes (residual first n).0) (pi.all_finishes rest) (all_finishes (branches_left rest (residual first n).1).0) (finish_in first n) (all_finish_in rest (residual first n).1) h

    case_finish_in : (cases : p.Cases) (n : ℕ) → Every P (pi.case_finishes cases) → Every P (case_finishes (cases_left cases n).0)
    case_finish_in p.no_case n h = tt
    case_finish_in (p.send_case chan e first rest) n h =
        let x = (residual first (n + 1)).0 in
        let k = (residual first (n + 1)).1 in
        over (pi.finishes first ++ pi.passes first) (finishes x ++ passes x) (pi.case_finishes rest) (case_finishes (cases_left rest k).0)
        (over (pi.finishes first) (finishes x) (pi.passes first) (passes x) (finish_in first (n + 1)) (pass_in first (n + 1))) (case_finish_in rest k) h
    case_finish_in (p.receive_case chan t first rest) n h =
        let x = (residual first (n + 1)).0 in
        let k = (residual first (n + 1)).1 in
        over (pi.finishes first ++ pi.passes first) (finishes x ++ passes x) (pi.case_finishes rest) (case_finishes (cases_left rest k).0)
        (over (pi.finishes first) (finishes x) (pi.passes first) (passes x) (finish_in first (n + 1)) (pass_in first (n + 1))) (case_finish_in rest k) h

    arm_finish_in : (arms : p.Arms) (n : ℕ) → Every P (pi.arm_finishes arms) → Every P (arm_finishes (arms_left arms n).0)
    arm_finish_in p.no_arm n h = tt
    arm_finish_in (p.arm values other body rest) n h =
        over (pi.finishes body) (finishes (residual body n).0) (pi.arm_finishes rest) (arm_finishes (arms_left rest (residual body n).1).0) (finish_in body n) (arm_finish_in rest (residual body n).1) h

  -- ---- what is needed

  mutual
    unfolding residual

    pub needs_in : (st : List Node) (s : p.Statement) (n : ℕ) → Holds (pd.needs st s) → Holds (needs st (residual s n).0)
    needs_in st p.Skip n h = tt
    needs_in st (p.Assign place t e) n h = h
    needs_in st (p.Delay place) n h = tt
    needs_in st (p.Send place chan e) n h = h
    needs_in st (p.Receive place chan t) n h = h
    needs_in st (p.Prialt place cases) n h =
        let x = (cases_left cases (n + 1)).0 in
        join_over (access_needs st (pd.case_accesses cases)) (access_needs st (case_accesses x)) (pd.case_needs cases) (case_needs x)
        (λ g. subst (λ l. Holds (access_needs st l)) (sym (case_accesses_are cases (n + 1))) g) (case_needs_in cases (n + 1)) h
    needs_in st (p.PrialtElse place cases rest) n h =
        let x = (cases_left cases (n + 1)).0 in
        let k = (cases_left cases (n + 1)).1 in
        join_over (access_needs st (pd.case_accesses cases) ++ pd.case_needs cases) (access_needs st (case_accesses x) ++ case_needs x) (pd.needs (st ++ pi.partners cases) rest) (needs (st ++ partners x) (residual rest k).0)
        (join_over (access_needs st (pd.case_accesses cases)) (access_needs st (case_accesses x)) (pd.case_needs cases) (case_needs x)
        (λ g. subst (λ l. Holds (access_needs st l)) (sym (case_accesses_are cases (n + 1))) g) (case_needs_in cases (n + 1)))
        (λ g. subst (λ l. Holds (needs (st ++ l) (residual rest k).0)) (sym (partners_are cases (n + 1))) (needs_in (st ++ pi.partners cases) rest k g)) h
    needs_in st (p.Seq place parts) n h = sequence_needs_in st parts n h
    needs_in st (p.Par place bs) n h = all_needs_in st bs n h
    needs_in st (p.If place c a b) n h =
        let x = (residual a (n + 1)).0 in
        let k = (residual a (n + 1)).1 in
        join_over (access_needs st (accesses c) ++ pd.needs (st ++ deps c) a) (access_needs st (accesses c) ++ needs (st ++ deps c) x) (pd.needs (st ++ deps c) b) (needs (st ++ deps c) (residual b k).0)
        (join_over (access_needs st (accesses c)) (access_needs st (accesses c)) (pd.needs (st ++ deps c) a) (needs (st ++ deps c) x) (λ g. g) (needs_in (st ++ deps c) a (n + 1)))
        (needs_in (st ++ deps c) b k) h
    needs_in st (p.While place c body) n h =
        let x = (residual body (n + 1)).0 in
        let f = over st st (pi.finishes body) (finishes x) (id st) (finish_in body (n + 1)) in
        join_over (access_needs (st ++ pi.finishes body) (accesses c)) (access_needs (st ++ finishes x) (accesses c)) (pd.needs (st ++ pi.finishes body ++ deps c) body) (needs (st ++ finishes x ++ deps c) x)
        (access_fewer P m (st ++ pi.finishes body) (st ++ finishes x) (accesses c) f)
        (λ g. fewer P m (st ++ pi.finishes body ++ deps c) (st ++ finishes x ++ deps c) x (over (st ++ pi.finishes body) (st ++ finishes x) (deps c) (deps c) f (id (deps c)))
        (needs_in (st ++ pi.finishes body ++ deps c) body (n + 1) g)) h
    needs_in st (p.DoWhile place body c) n h =
        let x = (residual body n).0 in
        let f = over st st (pi.finishes body) (finishes x) (id st) (finish_in body n) in
        join_over (access_needs (pi.finishes body) (accesses c)) (access_needs (finishes x) (accesses c)) (pd.needs (st ++ pi.finishes body ++ deps c) body) (needs (st ++ finishes x ++ deps c) x)
        (access_fewer P m (pi.finishes body) (finishes x) (accesses c) (finish_in body n))
        (λ g. fewer P m (st ++ pi.finishes body ++ deps c) (st ++ finishes x ++ deps c) x (over (st ++ pi.finishes body) (st ++ finishes x) (deps c) (deps c) f (id (deps c)))
        (needs_in (st ++ pi.finishes body ++ deps c) body n g)) h
    needs_in st (p.Switch place e arms) n h =
        join_over (access_needs st (accesses e)) (access_needs st (accesses e)) (pd.arm_needs (st ++ deps e) arms) (arm_needs (st ++ deps e) (arms_left arms (n + 1)).0) (λ g. g) (arm_needs_in (st ++ deps e) arms (n + 1)) h

    sequence_needs_in : (st : List Node) (parts : p.Statements) (n : ℕ) → Holds (pd.sequence_needs st parts) → Holds (needs st (sequence parts n).0)
    sequence_needs_in st p.stop n h = tt
    sequence_needs_in st (p.◌⨾◌ one rest) n h =
        behind_needs_in st (first_part one (pi.finishes one)) (residual one n).0 rest (residual one n).1 (matches_one one n (finish_in one n))
        (needs_in st one n (first (pd.needs st one) (pd.needs_behind st (first_part one (pi.finishes one)) rest) h))
        (second (pd.needs st one) (pd.needs_behind st (first_part one (pi.finishes one)) rest) h)

    behind_needs_in : (st : List Node) (b : Before) (done : Residual) (rest : p.Statements) (n : ℕ) → Matches b done → Holds (needs st done) → Holds (pd.needs_behind st b rest)
        → Holds (needs st (sequence_behind done rest n).0)
    behind_needs_in st b done p.stop n k d h = d
    behind_needs_in st b done (p.◌⨾◌ next rest) n k d h =
        let at = b.finish ++ where_it b.may_pass (st ++ b.pass) in
        let to = finishes done ++ where_it (zero done) (st ++ passes done) in
        let x = (residual next n).0 in
        let more = pd.needs_behind st (and_then b next (pi.finishes next)) rest in
        behind_needs_in st (and_then b next (pi.finishes next)) (Then done x) rest (residual next n).1 (matches_more b done next n k (finish_in next n))
        (joined (needs st done) (needs to x) d
        (fewer P m at to x
        (over b.finish (finishes done) (where_it b.may_pass (st ++ b.pass)) (where_it (zero done) (st ++ passes done)) k.finish
        (where_over b.may_pass (zero done) (st ++ b.pass) (st ++ passes done) k.may_pass (over st st b.pass (passes done) (id st) k.pass)))
        (needs_in at next n (first (pd.needs at next) more h))))
        (second (pd.needs at next) more h)

    all_needs_in : (st : List Node) (bs : p.Statements) (n : ℕ) → Holds (pd.all_needs st bs) → Holds (all_needs st (branches_left bs n).0)
    all_needs_in st p.stop n h = tt
    all_needs_in st (p.◌⨾◌ one rest) n h =
        join_over (pd.needs st one) (needs st (residual one n).0) (pd.all_needs st rest) (all_needs st (branches_left rest (residual one n).1).0) (needs_in st one n) (all_needs_in st rest (residual one n).1) h

    case_needs_in : (cases : p.Cases) (n : ℕ) → Holds (pd.case_needs cases) → Holds (case_needs (cases_left cases n).0)
    case_needs_in p.no_case n h = tt
    case_needs_in (p.send_case chan e one rest) n h =
        let k = (residual one (n + 1)).1 in
        join_over (pd.needs [] one) (needs [] (residual one (n + 1)).0) (pd.case_needs rest) (case_needs (cases_left rest k).0) (needs_in [] one (n + 1)) (case_needs_in rest k) h
    case_needs_in (p.receive_case chan t one rest) n h =
        let k = (residual one (n + 1)).1 in
        join_over (pd.needs [] one) (needs [] (residual one (n + 1)).0) (pd.case_needs rest) (case_needs (cases_left rest k).0) (needs_in [] one (n + 1)) (case_needs_in rest k) h

    arm_needs_in : (st : List Node) (arms : p.Arms) (n : ℕ) → Holds (pd.arm_needs st arms) → Holds (arm_needs st (arms_left arms n).0)
    arm_needs_in st p.no_arm n h = tt
    arm_needs_in st (p.arm values other body rest) n h =
        join_over (pd.needs st body) (needs st (residual body n).0) (pd.arm_needs st rest) (arm_needs st (arms_left rest (residual body n).1).0) (needs_in st body n) (arm_needs_in st rest (residual body n).1) h
