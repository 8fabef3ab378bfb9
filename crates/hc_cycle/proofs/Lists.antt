-- What the loops over statements, cases and arms keep: what was passed of a list and what is left of it make up the whole.
use Rattle.std.proofs.Common.{◌≡◌, ℕ, ◌≤◌, ◌<◌, ◌+◌, List, [], ◌∷◌, ◌++◌, length, Bool, true, false, ◌&&◌, ◌||◌, refl, sym, ap, ◌∙◌, subst, arith}
use Rattle.std.specs.Prelude.{Result, IfOk}
use Rattle.std.proofs.lemmas.List.{append-nil, append_assoc}
use Rattle.std.proofs.lemmas.Result.{IfOk-weaker}
use Rattle.hc_tree.specs.declared.place.Place.{Place}
use Rattle.hc_tree.specs.declared.refusal.Node.{Node}
use Rattle.hc_tree.specs.declared.refusal.Node.TheVariants.{Sends, Receives}
use Rattle.hc_core.specs.Program.{Expression, Target, Statement, Skip, Assign, Delay, Send, Receive, Prialt, PrialtElse, Seq, Par, If, While, DoWhile, Switch, Statements, stop, ◌⨾◌, Cases, no_case, send_case, receive_case, Arms, arm}
use Rattle.hc_core.specs.Read.{expression, target, statement, statements, cases, case_before, arms}
use Rattle.hc_core.specs.Parts.{statement_parts, all_parts, cases_parts, arms_parts}
use Rattle.hc_core.specs.Zero.{zero, all_zero, some_zero, has_default}
use Rattle.hc_core.specs.Depends.{Need, Access, accesses, access_needs, target_accesses, needs, needs_behind, all_needs, case_accesses, case_needs, arm_needs}
use Rattle.hc_core.specs.Instant.{deps, where_it, passes, finishes, all_passes, all_finishes, finishes_behind, partners, case_finishes, arm_passes, arm_finishes, Before, first_part, and_then}
use Rattle.hc_core.specs.declared.stmt.Stmt.{Stmt}
use Rattle.hc_core.specs.declared.stmt.Case.{Case}
use Rattle.hc_core.specs.declared.stmt.Case.TheVariants as c
use Rattle.hc_core.specs.declared.stmt.Arm.{Arm}
use Rattle.hc_core.proofs.Listing.{is_empty, rest_is}
use Rattle.hc_core.proofs.Read.{read_no_statement, read_no_case, read_no_arm, read_arms}
use Rattle.hc_cycle.specs.declared.sets.Set.{Set}
use Rattle.hc_cycle.specs.declared.sets.Set.TheVariants.{Empty, One}
use Rattle.hc_cycle.specs.declared.sets.Ends.{Ends}
use Rattle.hc_cycle.specs.declared.sets.Gather.{Gather}
use Rattle.hc_cycle.specs.Sets.{Shows, Joins, Adds, AreRead, Visits, VisitsOffers, VisitsCaseArms, VisitsTaken, VisitsArms, VisitsBehind, Beside, IsBehind, StartsBehind, Follows, behind_all}
use Rattle.hc_cycle.proofs.Unions.{extends_more, grows_itself, shows_none, shows_one, shows_both, shows_later, shows_as, shows_where, adds_none, adds_both, adds_after, adds_before, adds_from, adds_as}
use Rattle.hc_cycle.proofs.Accesses.{access_both}
use Rattle.hc_cycle.proofs.Ends.{is_later}
use Rattle.hc_cycle.proofs.Visiting.{ends_none, nothing_visited, adds_at_none}

and_assoc : (a b d : Bool) → (a && (b && d)) ≡ ((a && b) && d)
and_assoc true b d = refl
and_assoc false b d = refl

or_assoc : (a b d : Bool) → (a || (b || d)) ≡ ((a || b) || d)
or_assoc true b d = refl
or_assoc false b d = refl

and_true : (a : Bool) → (a && true) ≡ a
and_true true = refl
and_true false = refl

or_false : (a : Bool) → (a || false) ≡ a
or_false true = refl
or_false false = refl

-- ---- sequences

-- one of the parts passed is the last known, and what is left follows it
pub record PartBehind (old now : Gather) (start : Set) (e : Ends) (b : Before) (all rest : Statements) : Type 0 where
  pub at : Before
  pub is : IsBehind now e at
  pub done : List Node → List Need
  pub adds : Adds old now start done
  pub needs_are : (xs : List Node) → done xs ++ needs_behind xs at rest ≡ needs_behind xs b all
  pub ends_are : behind_all at rest ≡ behind_all b all

pub record BehindLeft (old now : Gather) (start : Set) (before e : Ends) (all rest : Statements) : Type 0 where
  pub each : (b : Before) → IsBehind old before b → PartBehind old now start e b all rest
  pub fewer : all_parts rest ≤ all_parts all

pub behind_start : (g : Gather) (start : Set) (before : Ends) (all : Statements) → BehindLeft g g start before before all all
behind_start g start before all = record {
  each = λ b is. record {
    at = b;
    is = is;
    done = λ xs. [];
    adds = adds_none g g start (grows_itself g.table) refl;
    needs_are = λ xs. refl;
    ends_are = refl;
  };
  fewer = omega arith;
}

module _ (g h : Gather) (start : Set) (before e : Ends) (all : Statements) (rest behind : List Stmt) (first : Stmt) (is : rest ≡ first ∷ behind)
    (left : BehindLeft g h start before e all (statements rest)) where
  from_part : BehindLeft g h start before e all (statement first ⨾ statements behind)
  from_part = subst (λ r. BehindLeft g h start before e all r) (rest_is rest behind first is) left

  pub behind_fewer : statement_parts (statement first) ≤ all_parts all
  behind_fewer = let l = from_part.fewer in omega arith

  pub behind_next : (i j k : Gather) (inner : Set) (n f : Ends) → StartsBehind h i start e inner → Visits i j inner n (statement first) → Follows j k e n f → BehindLeft g k start before f all (statements behind)
  behind_next i j k inner n f s v w = record {
    each = λ b before_is.
        let p = from_part.each b before_is in
        let starts : List Node → List Node = λ xs. p.at.finish ++ where_it p.at.may_pass (xs ++ p.at.pass) in
        let i_j = v.adds.grows.extends in
        let h_j = extends_more h.table i.table j.table s.grows.extends i_j in
        let next = adds_after h j k start (λ xs. needs (starts xs) (statement first))
        (adds_before h i j start (λ xs. needs (starts xs) (statement first)) s.grows s.same
        (adds_from i j start inner starts (λ xs. needs xs (statement first)) (λ t xs x r. s.shows p.at p.is t xs (extends_more i.table j.table t i_j x) r) v.adds)) w.grows w.same in
        record {
          at = and_then p.at (statement first) (finishes (statement first));
          is = w.ends p.at (statement first) (is_later h j e p.at h_j p.is) v.ends;
          done = λ xs. p.done xs ++ needs (starts xs) (statement first);
          adds = adds_both g h k start p.done (λ xs. needs (starts xs) (statement first)) p.adds next;
          needs_are = λ xs. append_assoc (p.done xs) (needs (starts xs) (statement first)) (needs_behind xs (and_then p.at (statement first) (finishes (statement first))) (statements behind)) ∙ p.needs_are xs;
          ends_are = p.ends_are;
        };
    fewer = let l = from_part.fewer in omega arith;
  }

pub behind_end : (g h : Gather) (start : Set) (before e : Ends) (all : Statements) (rest : List Stmt) → length rest < 1 → BehindLeft g h start before e all (statements rest) → VisitsBehind g h start before e all
behind_end g h start before e all rest few left =
    let last = subst (λ r. BehindLeft g h start before e all r) (ap statements (is_empty rest few) ∙ read_no_statement) left in
    record {
      adds = λ b is. let p = last.each b is in adds_as g h start p.done (λ xs. needs_behind xs b all) (λ xs. sym (append-nil (p.done xs)) ∙ p.needs_are xs) p.adds;
      ends = λ b is. let p = last.each b is in subst (λ (x : Before). IsBehind h e x) p.ends_are p.is;
    }

behind_zero : (b : Before) (all : Statements) → (behind_all b all).may_pass ≡ (b.may_pass && all_zero all)
behind_zero b stop = sym (and_true b.may_pass)
behind_zero b (n ⨾ r) = behind_zero (and_then b n (finishes n)) r ∙ sym (and_assoc b.may_pass (zero n) (all_zero r))

behind_finish : (b : Before) (all : Statements) → (behind_all b all).finish ≡ finishes_behind b all
behind_finish b stop = refl
behind_finish b (n ⨾ r) = behind_finish (and_then b n (finishes n)) r

where_twice : (m : Bool) (xs : List Node) → where_it m xs ≡ where_it m (where_it m xs)
where_twice true xs = refl
where_twice false xs = refl

where_none : (m : Bool) → [] ≡ where_it m []
where_none true = refl
where_none false = refl

where_end : (m : Bool) (xs : List Node) → where_it m xs ≡ where_it (m && true) (xs ++ [])
where_end true xs = sym (append-nil xs)
where_end false xs = refl

where_next : (m z r : Bool) (xs ys zs : List Node) → where_it ((m && z) && r) (where_it (m && z) (xs ++ ys) ++ zs) ≡ where_it (m && (z && r)) (xs ++ (ys ++ zs))
where_next true true true xs ys zs = append_assoc xs ys zs
where_next true true false xs ys zs = refl
where_next true false r xs ys zs = refl
where_next false z r xs ys zs = refl

behind_pass : (b : Before) (all : Statements) → b.pass ≡ where_it b.may_pass b.pass → (behind_all b all).pass ≡ where_it (b.may_pass && all_zero all) (b.pass ++ all_passes all)
behind_pass b stop norm = norm ∙ where_end b.may_pass b.pass
behind_pass b (n ⨾ r) norm =
    behind_pass (and_then b n (finishes n)) r (where_twice (b.may_pass && zero n) (b.pass ++ passes n)) ∙ where_next b.may_pass (zero n) (all_zero r) b.pass (passes n) (all_passes r)

-- nothing decides the pass of what can't be passed
passes_where : (s : Statement) → passes s ≡ where_it (zero s) (passes s)
passes_where Skip = refl
passes_where (Assign place t e) = refl
passes_where (Delay place) = refl
passes_where (Send place chan e) = refl
passes_where (Receive place chan t) = refl
passes_where (Prialt place cases) = refl
passes_where (PrialtElse place cases rest) = where_twice (zero rest) (partners cases ++ passes rest)
passes_where (Seq place parts) = where_twice (all_zero parts) (all_passes parts)
passes_where (Par place branches) = where_twice (all_zero branches) (all_passes branches)
passes_where (If place c a b) = where_twice (zero (If place c a b)) (deps c ++ passes a ++ passes b)
passes_where (While place c body) = where_twice (zero (While place c body)) (deps c)
passes_where (DoWhile place body c) = where_none (zero body)
passes_where (Switch place e arms) = where_twice (zero (Switch place e arms)) (deps e ++ arm_passes arms)

module _ (g h i : Gather) (start : Set) (a e : Ends) (all : List Stmt) (first : Stmt) (rest : List Stmt) (is : all ≡ first ∷ rest) where
  abbrev first_of : Before
  first_of = first_part (statement first) (finishes (statement first))

  abbrev last_of : Before
  last_of = behind_all first_of (statements rest)

  pub sequence_of : (place : Place) → Visits g h start a (statement first) → VisitsBehind h i start a e (statements rest) → Visits g i start e (Seq place (statements all))
  sequence_of place v w =
      let first_is : IsBehind h a first_of = record { zero_is = v.ends.zero_is; pass = v.ends.pass; finish = v.ends.finish } in
      let ends = w.ends first_of first_is in
      let whole : Visits g i start e (Seq place (statement first ⨾ statements rest)) = record {
        adds = adds_both g h i start (λ xs. needs xs (statement first)) (λ xs. needs_behind xs first_of (statements rest)) v.adds (w.adds first_of first_is);
        ends = record {
          zero_is = ends.zero_is ∙ behind_zero first_of (statements rest);
          pass = shows_as i e.pass last_of.pass (passes (Seq place (statement first ⨾ statements rest)))
              (behind_pass first_of (statements rest) (passes_where (statement first))) ends.pass;
          finish = shows_as i e.finish last_of.finish (finishes (Seq place (statement first ⨾ statements rest))) (behind_finish first_of (statements rest)) ends.finish;
        };
      } in
      subst (λ r. Visits g i start e (Seq place r)) (sym (rest_is all rest first is)) whole

-- ---- branches

pub record BranchesLeft (old now : Gather) (start : Set) (e : Ends) (all rest : Statements) : Type 0 where
  pub zero_is : (e.zero && all_zero rest) ≡ all_zero all
  pub passed : List Node
  pub pass : Shows now e.pass passed
  pub pass_is : passed ++ all_passes rest ≡ all_passes all
  pub finished : List Node
  pub finish : Shows now e.finish finished
  pub finish_is : finished ++ all_finishes rest ≡ all_finishes all
  pub done : List Node → List Need
  pub adds : Adds old now start done
  pub needs_are : (xs : List Node) → done xs ++ all_needs xs rest ≡ all_needs xs all
  pub fewer : all_parts rest ≤ all_parts all

pub branches_start : (g : Gather) (start : Set) (all : Statements) → BranchesLeft g g start (ends_none true) all all
branches_start g start all = record {
  zero_is = refl;
  passed = [];
  pass = shows_none g;
  pass_is = refl;
  finished = [];
  finish = shows_none g;
  finish_is = refl;
  done = λ xs. [];
  adds = adds_none g g start (grows_itself g.table) refl;
  needs_are = λ xs. refl;
  fewer = omega arith;
}

module _ (g h : Gather) (start : Set) (e : Ends) (all : Statements) (rest behind : List Stmt) (first : Stmt) (is : rest ≡ first ∷ behind)
    (left : BranchesLeft g h start e all (statements rest)) where
  from_branch : BranchesLeft g h start e all (statement first ⨾ statements behind)
  from_branch = subst (λ r. BranchesLeft g h start e all r) (rest_is rest behind first is) left

  pub branch_fewer : statement_parts (statement first) ≤ all_parts all
  branch_fewer = let l = from_branch.fewer in omega arith

  pub branches_next : (i j : Gather) (n f : Ends) (z : Bool) → Visits h i start n (statement first) → z ≡ (e.zero && n.zero) → Beside i j z e n f → BranchesLeft g j start f all (statements behind)
  branches_next i j n f z v z_is b =
      let p = from_branch in
      let s = statement first in
      record {
        zero_is = ap (λ x. x && all_zero (statements behind)) (b.zero_is ∙ z_is ∙ ap (λ x. e.zero && x) v.ends.zero_is) ∙ sym (and_assoc e.zero (zero s) (all_zero (statements behind))) ∙ p.zero_is;
        passed = p.passed ++ passes s;
        pass = b.pass p.passed (passes s) (shows_later h i e.pass p.passed v.adds.grows.extends p.pass) v.ends.pass;
        pass_is = append_assoc p.passed (passes s) (all_passes (statements behind)) ∙ p.pass_is;
        finished = p.finished ++ finishes s;
        finish = b.finish p.finished (finishes s) (shows_later h i e.finish p.finished v.adds.grows.extends p.finish) v.ends.finish;
        finish_is = append_assoc p.finished (finishes s) (all_finishes (statements behind)) ∙ p.finish_is;
        done = λ xs. p.done xs ++ needs xs s;
        adds = adds_after g i j start (λ xs. p.done xs ++ needs xs s) (adds_both g h i start p.done (λ xs. needs xs s) p.adds v.adds) b.grows b.same;
        needs_are = λ xs. append_assoc (p.done xs) (needs xs s) (all_needs xs (statements behind)) ∙ p.needs_are xs;
        fewer = let l = p.fewer in omega arith;
      }

pub branches_end : (g h : Gather) (start r : Set) (e : Ends) (all : Statements) (rest : List Stmt) (place : Place) → length rest < 1 → BranchesLeft g h start e all (statements rest)
    → (e.zero ≡ true → r ≡ e.pass) → (e.zero ≡ false → r ≡ Empty) → Visits g h start (record { zero = e.zero; pass = r; finish = e.finish }) (Par place all)
branches_end g h start r e all rest place few left on off =
    let p = subst (λ x. BranchesLeft g h start e all x) (ap statements (is_empty rest few) ∙ read_no_statement) left in
    let zero_is : e.zero ≡ all_zero all = sym (and_true e.zero) ∙ p.zero_is in
    let pass = shows_as h e.pass p.passed (all_passes all) (sym (append-nil p.passed) ∙ p.pass_is) p.pass in
    record {
      adds = adds_as g h start p.done (λ xs. all_needs xs all) (λ xs. sym (append-nil (p.done xs)) ∙ p.needs_are xs) p.adds;
      ends = record {
        zero_is = zero_is;
        pass = shows_as h r (where_it e.zero (all_passes all)) (where_it (all_zero all) (all_passes all)) (ap (λ b. where_it b (all_passes all)) zero_is)
            (shows_where h e.zero e.pass r (all_passes all) on off pass);
        finish = shows_as h e.finish p.finished (all_finishes all) (sym (append-nil p.finished) ∙ p.finish_is) p.finish;
      };
    }

-- ---- arms

pub record ArmsLeft (old now : Gather) (start : Set) (e : Ends) (other : Bool) (all rest : Arms) : Type 0 where
  pub zero_is : (e.zero || some_zero rest) ≡ some_zero all
  pub other_is : (other || has_default rest) ≡ has_default all
  pub passed : List Node
  pub pass : Shows now e.pass passed
  pub pass_is : passed ++ arm_passes rest ≡ arm_passes all
  pub finished : List Node
  pub finish : Shows now e.finish finished
  pub finish_is : finished ++ arm_finishes rest ≡ arm_finishes all
  pub done : List Node → List Need
  pub adds : Adds old now start done
  pub needs_are : (xs : List Node) → done xs ++ arm_needs xs rest ≡ arm_needs xs all
  pub fewer : arms_parts rest ≤ arms_parts all

pub arms_start : (g : Gather) (start : Set) (all : Arms) → ArmsLeft g g start (ends_none false) false all all
arms_start g start all = record {
  zero_is = refl;
  other_is = refl;
  passed = [];
  pass = shows_none g;
  pass_is = refl;
  finished = [];
  finish = shows_none g;
  finish_is = refl;
  done = λ xs. [];
  adds = adds_none g g start (grows_itself g.table) refl;
  needs_are = λ xs. refl;
  fewer = omega arith;
}

module _ (g h : Gather) (start : Set) (e : Ends) (other : Bool) (all : Arms) (rest behind : List Arm) (first : Arm) (is : rest ≡ first ∷ behind)
    (left : ArmsLeft g h start e other all (arms rest)) where
  from_arm : ArmsLeft g h start e other all (arm first.values first.other (statement first.body) (arms behind))
  from_arm = subst (λ r. ArmsLeft g h start e other all r) (ap arms is ∙ read_arms first behind) left

  pub arm_fewer : statement_parts (statement first.body) < arms_parts all
  arm_fewer = let l = from_arm.fewer in omega arith

  pub arms_next : (i j : Gather) (n f : Ends) (z o : Bool) → Visits h i start n (statement first.body) → z ≡ (e.zero || n.zero) → Beside i j z e n f → o ≡ (other || first.other)
      → ArmsLeft g j start f o all (arms behind)
  arms_next i j n f z o v z_is b o_is =
      let p = from_arm in
      let s = statement first.body in
      record {
        zero_is = ap (λ x. x || some_zero (arms behind)) (b.zero_is ∙ z_is ∙ ap (λ x. e.zero || x) v.ends.zero_is) ∙ sym (or_assoc e.zero (zero s) (some_zero (arms behind))) ∙ p.zero_is;
        other_is = ap (λ x. x || has_default (arms behind)) o_is ∙ sym (or_assoc other first.other (has_default (arms behind))) ∙ p.other_is;
        passed = p.passed ++ passes s;
        pass = b.pass p.passed (passes s) (shows_later h i e.pass p.passed v.adds.grows.extends p.pass) v.ends.pass;
        pass_is = append_assoc p.passed (passes s) (arm_passes (arms behind)) ∙ p.pass_is;
        finished = p.finished ++ finishes s;
        finish = b.finish p.finished (finishes s) (shows_later h i e.finish p.finished v.adds.grows.extends p.finish) v.ends.finish;
        finish_is = append_assoc p.finished (finishes s) (arm_finishes (arms behind)) ∙ p.finish_is;
        done = λ xs. p.done xs ++ needs xs s;
        adds = adds_after g i j start (λ xs. p.done xs ++ needs xs s) (adds_both g h i start p.done (λ xs. needs xs s) p.adds v.adds) b.grows b.same;
        needs_are = λ xs. append_assoc (p.done xs) (needs xs s) (arm_needs xs (arms behind)) ∙ p.needs_are xs;
        fewer = let l = p.fewer in omega arith;
      }

pub arms_end : (g h : Gather) (start : Set) (e : Ends) (other : Bool) (all : Arms) (rest : List Arm) → length rest < 1 → ArmsLeft g h start e other all (arms rest)
    → VisitsArms g h start (record { ends = e; other = other }) all
arms_end g h start e other all rest few left =
    let p = subst (λ x. ArmsLeft g h start e other all x) (ap arms (is_empty rest few) ∙ read_no_arm) left in
    record {
      adds = adds_as g h start p.done (λ xs. arm_needs xs all) (λ xs. sym (append-nil (p.done xs)) ∙ p.needs_are xs) p.adds;
      zero_is = sym (or_false e.zero) ∙ p.zero_is;
      other_is = sym (or_false other) ∙ p.other_is;
      pass = shows_as h e.pass p.passed (arm_passes all) (sym (append-nil p.passed) ∙ p.pass_is) p.pass;
      finish = shows_as h e.finish p.finished (arm_finishes all) (sym (append-nil p.finished) ∙ p.finish_is) p.finish;
    }

-- ---- cases: their partners and the words that they access

pub record OffersLeft (old now : Gather) (start s : Set) (all rest : Cases) : Type 0 where
  pub known : List Node
  pub shows : Shows now s known
  pub partners_are : known ++ partners rest ≡ partners all
  pub done : List Access
  pub adds : Adds old now start (λ xs. access_needs xs done)
  pub accesses_are : done ++ case_accesses rest ≡ case_accesses all

pub offers_start : (g : Gather) (start : Set) (all : Cases) → OffersLeft g g start Empty all all
offers_start g start all = record {
  known = [];
  shows = shows_none g;
  partners_are = refl;
  done = [];
  adds = adds_none g g start (grows_itself g.table) refl;
  accesses_are = refl;
}

case_partners : (first : Case) (behind : List Case) → partners (cases (first ∷ behind)) ≡ partners (cases (first ∷ [])) ++ partners (cases behind)
unfolding cases case_before
case_partners (c.Send chan value body) behind = refl
case_partners (c.Recv chan to body) behind = refl

case_accessed : (first : Case) (behind : List Case) → case_accesses (cases (first ∷ behind)) ≡ case_accesses (cases (first ∷ [])) ++ case_accesses (cases behind)
unfolding cases case_before
case_accessed (c.Send chan value body) behind = ap (λ l. l ++ case_accesses (cases behind)) (sym (append-nil (accesses (expression value))))
case_accessed (c.Recv chan to body) behind = ap (λ l. l ++ case_accesses (cases behind)) (sym (append-nil (target_accesses (target to))))

case_needed : (first : Case) (behind : List Case) → case_needs (cases (first ∷ behind)) ≡ case_needs (cases (first ∷ [])) ++ case_needs (cases behind)
unfolding cases case_before
case_needed (c.Send chan value body) behind = ap (λ l. l ++ case_needs (cases behind)) (sym (append-nil (needs [] (statement body))))
case_needed (c.Recv chan to body) behind = ap (λ l. l ++ case_needs (cases behind)) (sym (append-nil (needs [] (statement body))))

finished_by : (f p r : List Node) → f ++ p ++ r ≡ (f ++ p ++ []) ++ r
finished_by f p r = ap (λ l. l ++ r) (sym (append-nil (f ++ p)))

case_finished : (first : Case) (behind : List Case) → case_finishes (cases (first ∷ behind)) ≡ case_finishes (cases (first ∷ [])) ++ case_finishes (cases behind)
unfolding cases case_before
case_finished (c.Send chan value body) behind = finished_by (finishes (statement body)) (passes (statement body)) (case_finishes (cases behind))
case_finished (c.Recv chan to body) behind = finished_by (finishes (statement body)) (passes (statement body)) (case_finishes (cases behind))

case_parts : (first : Case) (behind : List Case) → cases_parts (cases (first ∷ behind)) ≡ cases_parts (cases (first ∷ [])) + cases_parts (cases behind)
unfolding cases case_before
case_parts (c.Send chan value body) behind = omega arith
case_parts (c.Recv chan to body) behind = omega arith

pub offers_next : (g h i j : Gather) (start s p r : Set) (all : Cases) (rest behind : List Case) (first : Case) → rest ≡ first ∷ behind → OffersLeft g h start s all (cases rest)
    → VisitsOffers h i start p (cases (first ∷ [])) → Joins i j s p r → OffersLeft g j start r all (cases behind)
offers_next g h i j start s p r all rest behind first is left v u =
    let one = cases (first ∷ []) in
    record {
      known = left.known ++ partners one;
      shows = shows_both i j s p r left.known (partners one) u (shows_later h i s left.known v.adds.grows.extends left.shows) v.partners_are;
      partners_are = append_assoc left.known (partners one) (partners (cases behind)) ∙ ap (λ l. left.known ++ l) (sym (ap (λ l. partners (cases l)) is ∙ case_partners first behind)) ∙ left.partners_are;
      done = left.done ++ case_accesses one;
      adds = adds_after g i j start (λ xs. access_needs xs (left.done ++ case_accesses one))
          (adds_as g i start (λ xs. access_needs xs left.done ++ access_needs xs (case_accesses one)) (λ xs. access_needs xs (left.done ++ case_accesses one))
          (λ xs. sym (access_both xs left.done (case_accesses one))) (adds_both g h i start (λ xs. access_needs xs left.done) (λ xs. access_needs xs (case_accesses one)) left.adds v.adds)) u.grows u.same;
      accesses_are = append_assoc left.done (case_accesses one) (case_accesses (cases behind)) ∙ ap (λ l. left.done ++ l) (sym (ap (λ l. case_accesses (cases l)) is ∙ case_accessed first behind)) ∙ left.accesses_are;
    }

pub offers_end : (g h : Gather) (start s : Set) (all : Cases) (rest : List Case) → length rest < 1 → OffersLeft g h start s all (cases rest) → VisitsOffers g h start s all
offers_end g h start s all rest few left =
    let p = subst (λ x. OffersLeft g h start s all x) (ap cases (is_empty rest few) ∙ read_no_case) left in
    record {
      adds = adds_as g h start (λ xs. access_needs xs p.done) (λ xs. access_needs xs (case_accesses all)) (λ xs. ap (access_needs xs) (sym (append-nil p.done) ∙ p.accesses_are)) p.adds;
      partners_are = shows_as h s p.known (partners all) (sym (append-nil p.known) ∙ p.partners_are) p.shows;
    }

pub offer_send : (g h : Gather) (start s : Set) (chan : ℕ) (e : Expression) (body : Statement) (all : Cases) → all ≡ send_case chan e body no_case → AreRead g h start s e
    → VisitsOffers g h start (One (Receives chan)) all
offer_send g h start s chan e body all is r = rw is (record {
  adds = adds_as g h start (λ xs. access_needs xs (accesses e)) (λ xs. access_needs xs (accesses e ++ [])) (λ xs. ap (access_needs xs) (sym (append-nil (accesses e)))) r.adds;
  partners_are = shows_one h (Receives chan);
})

pub offer_receive : (g h : Gather) (start : Set) (chan : ℕ) (t : Target) (body : Statement) (all : Cases) → all ≡ receive_case chan t body no_case
    → Adds g h start (λ xs. access_needs xs (target_accesses t)) → VisitsOffers g h start (One (Sends chan)) all
offer_receive g h start chan t body all is a = rw is (record {
  adds = adds_as g h start (λ xs. access_needs xs (target_accesses t)) (λ xs. access_needs xs (target_accesses t ++ [])) (λ xs. ap (access_needs xs) (sym (append-nil (target_accesses t)))) a;
  partners_are = shows_one h (Sends chan);
})

-- ---- the arms of cases

pub record CaseArmsLeft (old now : Gather) (s : Set) (all rest : Cases) : Type 0 where
  pub known : List Node
  pub shows : Shows now s known
  pub finish_is : known ++ case_finishes rest ≡ case_finishes all
  pub done : List Need
  pub adds : (start : Set) → Adds old now start (λ xs. done)
  pub needs_are : done ++ case_needs rest ≡ case_needs all
  pub fewer : cases_parts rest ≤ cases_parts all

pub case_arms_start : (g : Gather) (all : Cases) → CaseArmsLeft g g Empty all all
case_arms_start g all = record {
  known = [];
  shows = shows_none g;
  finish_is = refl;
  done = [];
  adds = λ start. adds_none g g start (grows_itself g.table) refl;
  needs_are = refl;
  fewer = omega arith;
}

module _ (g h : Gather) (s : Set) (all : Cases) (rest behind : List Case) (first : Case) (is : rest ≡ first ∷ behind) (left : CaseArmsLeft g h s all (cases rest)) where
  pub case_arm_fewer : cases_parts (cases (first ∷ [])) ≤ cases_parts all
  case_arm_fewer = let f = left.fewer in let e = ap (λ l. cases_parts (cases l)) is ∙ case_parts first behind in omega arith

  pub case_arms_next : (i j : Gather) (p r : Set) → VisitsCaseArms h i p (cases (first ∷ [])) → Joins i j s p r → CaseArmsLeft g j r all (cases behind)
  case_arms_next i j p r v u =
      let one = cases (first ∷ []) in
      record {
        known = left.known ++ case_finishes one;
        shows = shows_both i j s p r left.known (case_finishes one) u (shows_later h i s left.known (v.adds s).grows.extends left.shows) v.finish;
        finish_is = append_assoc left.known (case_finishes one) (case_finishes (cases behind)) ∙ ap (λ l. left.known ++ l) (sym (ap (λ l. case_finishes (cases l)) is ∙ case_finished first behind)) ∙ left.finish_is;
        done = left.done ++ case_needs one;
        adds = λ start. adds_after g i j start (λ xs. left.done ++ case_needs one) (adds_both g h i start (λ xs. left.done) (λ xs. case_needs one) (left.adds start) (v.adds start)) u.grows u.same;
        needs_are = append_assoc left.done (case_needs one) (case_needs (cases behind)) ∙ ap (λ l. left.done ++ l) (sym (ap (λ l. case_needs (cases l)) is ∙ case_needed first behind)) ∙ left.needs_are;
        fewer = let f = left.fewer in let e = ap (λ l. cases_parts (cases l)) is ∙ case_parts first behind in omega arith;
      }

pub case_arms_end : (g h : Gather) (s : Set) (all : Cases) (rest : List Case) → length rest < 1 → CaseArmsLeft g h s all (cases rest) → VisitsCaseArms g h s all
case_arms_end g h s all rest few left =
    let p = subst (λ x. CaseArmsLeft g h s all x) (ap cases (is_empty rest few) ∙ read_no_case) left in
    record {
      adds = λ start. adds_as g h start (λ xs. p.done) (λ xs. case_needs all) (λ xs. sym (append-nil p.done) ∙ p.needs_are) (p.adds start);
      finish = shows_as h s p.known (case_finishes all) (sym (append-nil p.known) ∙ p.finish_is) p.shows;
    }

-- one case
pub taken_of : (g h i : Gather) (e : Ends) (s : Set) (body : Statement) → Visits g h Empty e body → Joins h i e.finish e.pass s → VisitsTaken g i s body
taken_of g h i e s body v u = record {
  adds = λ start. adds_after g h i start (λ xs. needs [] body) (adds_at_none g h start (λ xs. needs xs body) v.adds) u.grows u.same;
  finish = shows_both h i e.finish e.pass s (finishes body) (passes body) u v.ends.finish v.ends.pass;
}

pub case_arm_of : {E : Type 0} (r : Result Set E) (g h : Gather) (body : Statement) (all : Cases) → case_needs all ≡ needs [] body ++ [] → case_finishes all ≡ finishes body ++ passes body ++ []
    → IfOk r (λ s. VisitsTaken g h s body) → IfOk r (λ s. VisitsCaseArms g h s all)
case_arm_of r g h body all n f v = IfOk-weaker r (λ s. VisitsTaken g h s body) (λ s. VisitsCaseArms g h s all)
    (λ s w. record {
      adds = λ start. adds_as g h start (λ xs. needs [] body) (λ xs. case_needs all) (λ xs. sym (n ∙ append-nil (needs [] body))) (w.adds start);
      finish = shows_as h s (finishes body ++ passes body) (case_finishes all) (sym (f ∙ append-nil (finishes body ++ passes body))) w.finish;
    }) v

pub case_send_of : {E : Type 0} (r : Result Set E) (g h : Gather) (chan : ℕ) (e : Expression) (body : Statement) (all : Cases) → all ≡ send_case chan e body no_case
    → IfOk r (λ s. VisitsTaken g h s body) → IfOk r (λ s. VisitsCaseArms g h s all)
case_send_of r g h chan e body all is v = case_arm_of r g h body all (ap case_needs is) (ap case_finishes is) v

pub case_receive_of : {E : Type 0} (r : Result Set E) (g h : Gather) (chan : ℕ) (t : Target) (body : Statement) (all : Cases) → all ≡ receive_case chan t body no_case
    → IfOk r (λ s. VisitsTaken g h s body) → IfOk r (λ s. VisitsCaseArms g h s all)
case_receive_of r g h chan t body all is v = case_arm_of r g h body all (ap case_needs is) (ap case_finishes is) v

-- ---- sequences as a whole

pub first_fewer : (all rest : List Stmt) (first : Stmt) → all ≡ first ∷ rest → statement_parts (statement first) ≤ all_parts (statements all)
first_fewer all rest first is = let e : all_parts (statements all) ≡ statement_parts (statement first) + all_parts (statements rest) = ap all_parts (rest_is all rest first is) in omega arith

pub rest_fewer : (all rest : List Stmt) (first : Stmt) → all ≡ first ∷ rest → all_parts (statements rest) ≤ all_parts (statements all)
rest_fewer all rest first is = let e : all_parts (statements all) ≡ statement_parts (statement first) + all_parts (statements rest) = ap all_parts (rest_is all rest first is) in omega arith

pub sequence_none : (g : Gather) (start : Set) (all : List Stmt) (place : Place) → length all < 1 → Visits g g start (ends_none true) (Seq place (statements all))
sequence_none g start all place few =
    subst (λ (x : Statements). Visits g g start (ends_none true) (Seq place x)) (sym (ap statements (is_empty all few) ∙ read_no_statement))
    (nothing_visited g start (Seq place stop) true (λ xs. refl) refl refl refl)

pub sequence_all : {E : Type 0} (r : Result Ends E) (g h i : Gather) (start : Set) (a : Ends) (all : List Stmt) (first : Stmt) (rest : List Stmt) → all ≡ first ∷ rest → Visits g h start a (statement first)
    → IfOk r (λ e. VisitsBehind h i start a e (statements rest)) → IfOk r (λ e. (place : Place) → Visits g i start e (Seq place (statements all)))
sequence_all r g h i start a all first rest is v w = IfOk-weaker r (λ e. VisitsBehind h i start a e (statements rest)) (λ e. (place : Place) → Visits g i start e (Seq place (statements all)))
    (λ e b place. sequence_of g h i start a e all first rest is place v b) w
