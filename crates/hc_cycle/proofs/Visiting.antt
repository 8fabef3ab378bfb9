-- The dependencies and the ends of a statement, by its form.
use Rattle.std.proofs.Common.{◌≡◌, ℕ, List, [], ◌∷◌, ◌++◌, Some, None, Bool, true, false, not, ◌||◌, if◌then◌else◌, refl, sym, ap, ◌∙◌}
use Rattle.std.specs.Prelude.{slice_get, Result, IfOk}
use Rattle.std.proofs.lemmas.Result.{IfOk-weaker}
use Rattle.std.proofs.lemmas.List.{append_assoc}
use Rattle.hc_tree.specs.declared.place.Place.{Place}
use Rattle.hc_tree.specs.declared.refusal.Node.{Node}
use Rattle.hc_tree.specs.declared.refusal.Node.TheVariants.{Value, Sends, Receives}
use Rattle.hc_core.specs.Program.{Expression, Target, ToSignal, Statement, Assign, Send, Receive, Prialt, PrialtElse, If, While, DoWhile, Switch, Cases, Arms}
use Rattle.hc_core.specs.Zero.{zero, always_holds, some_zero, has_default}
use Rattle.hc_core.specs.Depends.{Need, accesses, access_needs, target_accesses, signal_needs, needs, case_accesses, case_needs, arm_needs}
use Rattle.hc_core.specs.Instant.{deps, where_it, passes, finishes, partners, case_finishes, arm_passes, arm_finishes}
use Rattle.hc_cycle.specs.declared.sets.Set.{Set}
use Rattle.hc_cycle.specs.declared.sets.Set.TheVariants.{Empty, Union}
use Rattle.hc_cycle.specs.declared.sets.Ends.{Ends}
use Rattle.hc_cycle.specs.declared.sets.CaseEnds.{CaseEnds}
use Rattle.hc_cycle.specs.declared.sets.ArmEnds.{ArmEnds}
use Rattle.hc_cycle.specs.declared.sets.Gather.{Gather}
use Rattle.hc_cycle.specs.Sets.{Table, Reads, Extends, Grows, Shows, Joins, Adds, AreEnds, AreRead, Keeps, Fills, Visits, VisitsCases, VisitsOffers, VisitsCaseArms, VisitsArms, Assigns, Beside, Decided}
use Rattle.hc_cycle.proofs.Unions.{extends_more, grows_itself, grows_more, shows_none, shows_both, shows_later, shows_as, adds_none, adds_both, adds_turned, adds_after, adds_before, adds_from, adds_as, more_decides, filled_extends, filled_at, grows_to_filled, until_of, until_from, until_both, of_until, reads_kept}
use Rattle.hc_cycle.proofs.Accesses.{access_both}
use Rattle.hc_cycle.proofs.Ends.{ends_later}

abbrev pub ends_none : Bool → Ends
ends_none z = record { zero = z; pass = Empty; finish = Empty }

pub no_ends : (g : Gather) (s : Statement) (z : Bool) → z ≡ zero s → passes s ≡ [] → finishes s ≡ [] → AreEnds g (ends_none z) s
no_ends g s z zero_is p f = record { zero_is = zero_is; pass = shows_as g Empty [] (passes s) (sym p) (shows_none g); finish = shows_as g Empty [] (finishes s) (sym f) (shows_none g) }

-- a statement with no dependencies
pub nothing_visited : (g : Gather) (start : Set) (s : Statement) (z : Bool) → ((xs : List Node) → needs xs s ≡ []) → z ≡ zero s → passes s ≡ [] → finishes s ≡ [] → Visits g g start (ends_none z) s
nothing_visited g start s z nothing zero_is p f = record {
  adds = adds_as g g start (λ xs. []) (λ xs. needs xs s) (λ xs. sym (nothing xs)) (adds_none g g start (grows_itself g.table) refl);
  ends = no_ends g s z zero_is p f;
}

-- where a start is this one and what else is read
pub adds_within : (h i j : Gather) (start more inner : Set) (ys : List Node) (f : List Node → List Need) → Joins h i start more inner → Shows h more ys → Adds i j inner f
    → Adds h j start (λ xs. f (xs ++ ys))
adds_within h i j start more inner ys f u s a =
    adds_before h i j start (λ xs. f (xs ++ ys)) u.grows u.same (adds_from i j start inner (λ xs. xs ++ ys) f (more_decides h i j start more inner ys u s a.grows.extends) a)

-- where nothing of the clock decides the start
pub adds_at_none : (g h : Gather) (start : Set) (f : List Node → List Need) → Adds g h Empty f → Adds g h start (λ xs. f [])
adds_at_none g h start f a = record { grows = a.grows; added = a.added; needs_are = a.needs_are; says = λ t xs e r. a.says t [] e Rattle.hc_cycle.specs.Sets.no_member }

-- a statement that has some place
pub at_place : {E : Type 0} (r : Result Ends E) (g h : Gather) (start : Set) (s : Place → Statement) (place : Place) → IfOk r (λ e. (at : Place) → Visits g h start e (s at))
    → IfOk r (λ e. Visits g h start e (s place))
at_place r g h start s place v = IfOk-weaker r (λ e. (at : Place) → Visits g h start e (s at)) (λ e. Visits g h start e (s place)) (λ e w. w place) v

-- ---- actions
pub assigns_nothing : (g : Gather) (start read : Set) (t : Target) → ((xs : List Node) (e : Expression) → signal_needs xs t e ≡ []) → Assigns g g start read t
assigns_nothing g start read t nothing = record {
  grows = grows_itself g.table;
  adds = λ e s. adds_as g g start (λ xs. []) (λ xs. signal_needs xs t e) (λ xs. sym (nothing xs e)) (adds_none g g start (grows_itself g.table) refl);
}

pub assigns_signal : (g h i : Gather) (start read on : Set) (k : ℕ) → Joins g h start read on → Adds h i on (λ xs. record { node = Value k; on = xs } ∷ []) → Assigns g i start read (ToSignal k)
assigns_signal g h i start read on k u a = record {
  grows = grows_more g.table h.table i.table u.grows a.grows;
  adds = λ e s. adds_within g h i start read on (deps e) (λ xs. record { node = Value k; on = xs } ∷ []) u s a;
}

pub assign_of : (g h i j : Gather) (start read : Set) (t : Target) (e : Expression) (place : Place) → Adds g h start (λ xs. access_needs xs (target_accesses t)) → AreRead h i start read e
    → Assigns i j start read t → Visits g j start (ends_none false) (Assign place t e)
assign_of g h i j start read t e place a r s = record {
  adds = adds_turned g j start (λ xs. access_needs xs (target_accesses t ++ accesses e)) (λ xs. signal_needs xs t e)
      (adds_both g i j start (λ xs. access_needs xs (target_accesses t ++ accesses e)) (λ xs. signal_needs xs t e)
      (adds_as g i start (λ xs. access_needs xs (target_accesses t) ++ access_needs xs (accesses e)) (λ xs. access_needs xs (target_accesses t ++ accesses e))
      (λ xs. sym (access_both xs (target_accesses t) (accesses e)))
      (adds_both g h i start (λ xs. access_needs xs (target_accesses t)) (λ xs. access_needs xs (accesses e)) a r.adds)) (s.adds e r.reads));
  ends = no_ends j (Assign place t e) false refl refl refl;
}

pub send_of : (g h i : Gather) (start read : Set) (chan : ℕ) (e : Expression) (place : Place) → Adds g h start (λ xs. record { node = Sends chan; on = xs } ∷ []) → AreRead h i start read e
    → Visits g i start (ends_none false) (Send place chan e)
send_of g h i start read chan e place a r = record {
  adds = adds_both g h i start (λ xs. record { node = Sends chan; on = xs } ∷ []) (λ xs. access_needs xs (accesses e)) a r.adds;
  ends = no_ends i (Send place chan e) false refl refl refl;
}

pub receive_of : (g h i : Gather) (start : Set) (chan : ℕ) (t : Target) (place : Place) → Adds g h start (λ xs. record { node = Receives chan; on = xs } ∷ [])
    → Adds h i start (λ xs. access_needs xs (target_accesses t)) → Visits g i start (ends_none false) (Receive place chan t)
receive_of g h i start chan t place a b = record {
  adds = adds_both g h i start (λ xs. record { node = Receives chan; on = xs } ∷ []) (λ xs. access_needs xs (target_accesses t)) a b;
  ends = no_ends i (Receive place chan t) false refl refl refl;
}

-- ---- prialt
pub cases_of : (g h i : Gather) (start s f : Set) (all : Cases) → VisitsOffers g h start s all → VisitsCaseArms h i f all → VisitsCases g i start (record { partners = s; finish = f }) all
cases_of g h i start s f all o a = record {
  adds = adds_both g h i start (λ xs. access_needs xs (case_accesses all)) (λ xs. case_needs all) o.adds (a.adds start);
  partners_are = shows_later h i s (partners all) (a.adds start).grows.extends o.partners_are;
  finish = a.finish;
}

pub prialt_of : (g h : Gather) (start : Set) (e : CaseEnds) (all : Cases) (place : Place) → VisitsCases g h start e all
    → Visits g h start (record { zero = false; pass = Empty; finish = e.finish }) (Prialt place all)
prialt_of g h start e all place v = record { adds = v.adds; ends = record { zero_is = refl; pass = shows_none h; finish = v.finish } }

pub prialt_else_of : (g h i j k l : Gather) (start inner f : Set) (e : CaseEnds) (r d : Ends) (all : Cases) (rest : Statement) (place : Place) → VisitsCases g h start e all
    → Joins h i start e.partners inner → Visits i j inner r rest → Decided j k e.partners r d → Joins k l e.finish d.finish f
    → Visits g l start (record { zero = d.zero; pass = d.pass; finish = f }) (PrialtElse place all rest)
prialt_else_of g h i j k l start inner f e r d all rest place c u v w x =
    let early : List Node → List Need = λ xs. access_needs xs (case_accesses all) ++ case_needs all in
    let late : List Node → List Need = λ xs. needs (xs ++ partners all) rest in
    let h_j = extends_more h.table i.table j.table u.grows.extends v.adds.grows.extends in
    let j_k = w.grows.extends in
    let finish_k = shows_later h k e.finish (case_finishes all) (extends_more h.table j.table k.table h_j j_k) c.finish in
    record {
      adds = adds_after g k l start (λ xs. needs xs (PrialtElse place all rest))
          (adds_after g j k start (λ xs. needs xs (PrialtElse place all rest))
          (adds_both g h j start early late c.adds (adds_within h i j start e.partners inner (partners all) (λ xs. needs xs rest) u c.partners_are v.adds)) w.grows w.same) x.grows x.same;
      ends = record {
        zero_is = w.zero_is ∙ v.ends.zero_is;
        pass = shows_as l d.pass (where_it r.zero (partners all ++ passes rest)) (where_it (zero rest) (partners all ++ passes rest)) (ap (λ z. where_it z (partners all ++ passes rest)) v.ends.zero_is)
            (shows_later k l d.pass (where_it r.zero (partners all ++ passes rest)) x.grows.extends
            (w.pass (partners all) (passes rest) (shows_later h j e.partners (partners all) h_j c.partners_are) v.ends.pass));
        finish = shows_both k l e.finish d.finish f (case_finishes all) (finishes rest) x finish_k (w.finish (finishes rest) v.ends.finish);
      };
    }

-- ---- branches
pub choose_of : (g h i j k l m : Gather) (start read inner : Set) (z : Bool) (y n both e : Ends) (c : Expression) (a b : Statement) (place : Place) → AreRead g h start read c
    → Joins h i start read inner → Visits i j inner y a → Visits j k inner n b → z ≡ (y.zero || n.zero) → Beside k l z y n both → Decided l m read both e
    → Visits g m start e (If place c a b)
choose_of g h i j k l m start read inner z y n both e c a b place r u v w z_is o d =
    let late : List Node → List Need = λ xs. needs xs a ++ needs xs b in
    let i_k = extends_more i.table j.table k.table v.adds.grows.extends w.adds.grows.extends in
    let h_k = extends_more h.table i.table k.table u.grows.extends i_k in
    let yes_k = ends_later j k y a w.adds.grows.extends v.ends in
    let read_l = shows_later h l read (deps c) (extends_more h.table k.table l.table h_k o.grows.extends) r.reads in
    let zz : both.zero ≡ (zero a || zero b) = o.zero_is ∙ z_is ∙ ap (λ x. x || n.zero) v.ends.zero_is ∙ ap (λ x. zero a || x) w.ends.zero_is in
    record {
      adds = adds_after g l m start (λ xs. needs xs (If place c a b)) (adds_after g k l start (λ xs. needs xs (If place c a b))
          (adds_as g k start (λ xs. access_needs xs (accesses c) ++ late (xs ++ deps c)) (λ xs. needs xs (If place c a b))
          (λ xs. sym (append_assoc (access_needs xs (accesses c)) (needs (xs ++ deps c) a) (needs (xs ++ deps c) b)))
          (adds_both g h k start (λ xs. access_needs xs (accesses c)) (λ xs. late (xs ++ deps c)) r.adds
          (adds_within h i k start read inner (deps c) late u r.reads (adds_both i j k inner (λ xs. needs xs a) (λ xs. needs xs b) v.adds w.adds)))) o.grows o.same) d.grows d.same;
      ends = record {
        zero_is = d.zero_is ∙ zz;
        pass = shows_as m e.pass (where_it both.zero (deps c ++ (passes a ++ passes b))) (passes (If place c a b))
            (ap (where_it both.zero) (sym (append_assoc (deps c) (passes a) (passes b))) ∙ ap (λ x. where_it x (deps c ++ passes a ++ passes b)) zz)
            (d.pass (deps c) (passes a ++ passes b) read_l (o.pass (passes a) (passes b) yes_k.pass w.ends.pass));
        finish = d.finish (finishes a ++ finishes b) (o.finish (finishes a) (finishes b) yes_k.finish w.ends.finish);
      };
    }

pub switch_of : (g h i j k : Gather) (start read inner : Set) (z : Bool) (a : ArmEnds) (e : Ends) (c : Expression) (all : Arms) (place : Place) → AreRead g h start read c
    → Joins h i start read inner → VisitsArms i j inner a all → z ≡ (a.ends.zero || not a.other) → Decided j k read (record { zero = z; pass = a.ends.pass; finish = a.ends.finish }) e
    → Visits g k start e (Switch place c all)
switch_of g h i j k start read inner z a e c all place r u v z_is d =
    let h_j = extends_more h.table i.table j.table u.grows.extends v.adds.grows.extends in
    let zz : z ≡ (some_zero all || not (has_default all)) = z_is ∙ ap (λ x. x || not a.other) v.zero_is ∙ ap (λ x. some_zero all || not x) v.other_is in
    record {
      adds = adds_after g j k start (λ xs. needs xs (Switch place c all))
          (adds_both g h j start (λ xs. access_needs xs (accesses c)) (λ xs. arm_needs (xs ++ deps c) all) r.adds
          (adds_within h i j start read inner (deps c) (λ xs. arm_needs xs all) u r.reads v.adds)) d.grows d.same;
      ends = record {
        zero_is = d.zero_is ∙ zz;
        pass = shows_as k e.pass (where_it z (deps c ++ arm_passes all)) (passes (Switch place c all)) (ap (λ x. where_it x (deps c ++ arm_passes all)) zz)
            (d.pass (deps c) (arm_passes all) (shows_later h j read (deps c) h_j r.reads) v.pass);
        finish = d.finish (arm_finishes all) v.finish;
      };
    }

-- ---- loops

-- a number that was kept has still no union
still_none : (g h i : Gather) (at : ℕ) → Keeps g h at → Grows h.table i.table → slice_get i.table at ≡ Some None
still_none g h i at k w = w.waits at k.none

pub turn_waits : (g h i j k : Gather) (at : ℕ) (read inner : Set) (e : Ends) (c : Expression) (body : Statement) → Keeps g h at → AreRead h i (Union at) read c → Joins i j (Union at) read inner
    → Visits j k inner e body → slice_get k.table at ≡ Some None
turn_waits g h i j k at read inner e c body kept r u v =
    still_none g h k at kept (grows_more h.table i.table k.table r.adds.grows (grows_more i.table j.table k.table u.grows v.adds.grows))

pub round_waits : (g h i j k : Gather) (at : ℕ) (start read inner : Set) (e : Ends) (c : Expression) (body : Statement) → Keeps g h at → Joins h i start (Union at) inner → Visits i j inner e body
    → AreRead j k e.finish read c → slice_get k.table at ≡ Some None
round_waits g h i j k at start read inner e c body kept u v r =
    still_none g h k at kept (grows_more h.table i.table k.table u.grows (grows_more i.table j.table k.table v.adds.grows r.adds.grows))

module _ (g h i j k l : Gather) (at : ℕ) (start read inner : Set) (e : Ends) (c : Expression) (body : Statement)
    (kept : Keeps g h at) (r : AreRead h i (Union at) read c) (u : Joins i j (Union at) read inner) (v : Visits j k inner e body) (f : Fills k l at start e.finish) where
  pub grows_turn : Grows h.table k.table
  grows_turn = grows_more h.table i.table k.table r.adds.grows (grows_more i.table j.table k.table u.grows v.adds.grows)

  turn_none : slice_get k.table at ≡ Some None
  turn_none = still_none g h k at kept grows_turn

  k_l : Extends k.table l.table
  k_l = filled_extends k l at start e.finish f turn_none

  turns : (t : Table) (xs : List Node) → Extends l.table t → Reads t start xs → Reads t (Union at) (xs ++ finishes body)
  turns t xs x s = reads_kept t at start e.finish xs (finishes body) (x at (start, e.finish) (filled_at k l at start e.finish f turn_none)) s
      (v.ends.finish.shows t (extends_more k.table l.table t k_l x))

  abbrev decide : List Node → List Need
  decide xs = access_needs xs (accesses c) ++ needs (xs ++ deps c) body

  pub while_adds : (place : Place) → Adds g l start (λ xs. needs xs (While place c body))
  while_adds place =
      let all = adds_both h i k (Union at) (λ xs. access_needs xs (accesses c)) (λ xs. needs (xs ++ deps c) body) r.adds
      (adds_within i j k (Union at) read inner (deps c) (λ xs. needs xs body) u r.reads v.adds) in
      of_until g h k l start (λ xs. decide (xs ++ finishes body)) kept.same
      (until_from h k l.table start (Union at) (λ xs. xs ++ finishes body) decide turns (until_of h k l.table (Union at) decide all k_l)) f.same
      (grows_to_filled g h k l at start e.finish kept grows_turn f)

  read_l : Shows l read (deps c)
  read_l = shows_later i l read (deps c) (extends_more i.table k.table l.table (extends_more i.table j.table k.table u.grows.extends v.adds.grows.extends) k_l) r.reads

  finish_l : Shows l e.finish (finishes body)
  finish_l = shows_later k l e.finish (finishes body) k_l v.ends.finish

  pub endless_of : (place : Place) → true ≡ always_holds c → Visits g l start (ends_none false) (While place c body)
  endless_of place holds = record {
    adds = while_adds place;
    ends = record {
      zero_is = ap not holds;
      pass = shows_as l Empty [] (passes (While place c body)) (ap (λ b. where_it (not b) (deps c)) holds) (shows_none l);
      finish = shows_as l Empty [] (finishes (While place c body)) (ap (λ b. if b then [] else finishes body ++ deps c) holds) (shows_none l);
    };
  }

  pub while_of : (m : Gather) (s : Set) (place : Place) → false ≡ always_holds c → Joins l m e.finish read s → Visits g m start (record { zero = true; pass = read; finish = s }) (While place c body)
  while_of m s place holds x = record {
    adds = adds_after g l m start (λ xs. needs xs (While place c body)) (while_adds place) x.grows x.same;
    ends = record {
      zero_is = ap not holds;
      pass = shows_as m read (deps c) (passes (While place c body)) (ap (λ b. where_it (not b) (deps c)) holds) (shows_later l m read (deps c) x.grows.extends read_l);
      finish = shows_as m s (finishes body ++ deps c) (finishes (While place c body)) (ap (λ b. if b then [] else finishes body ++ deps c) holds)
          (shows_both l m e.finish read s (finishes body) (deps c) x finish_l read_l);
    };
  }

module _ (g h i j k l : Gather) (at : ℕ) (start read inner : Set) (e : Ends) (c : Expression) (body : Statement)
    (kept : Keeps g h at) (u : Joins h i start (Union at) inner) (v : Visits i j inner e body) (r : AreRead j k e.finish read c) (f : Fills k l at e.finish read) where
  pub grows_round : Grows h.table k.table
  grows_round = grows_more h.table i.table k.table u.grows (grows_more i.table j.table k.table v.adds.grows r.adds.grows)

  round_none : slice_get k.table at ≡ Some None
  round_none = still_none g h k at kept grows_round

  round_l : Extends k.table l.table
  round_l = filled_extends k l at e.finish read f round_none

  again : (t : Table) → Extends l.table t → Reads t (Union at) (finishes body ++ deps c)
  again t x =
      let k_t = extends_more k.table l.table t round_l x in
      reads_kept t at e.finish read (finishes body) (deps c) (x at (e.finish, read) (filled_at k l at e.finish read f round_none))
      (v.ends.finish.shows t (extends_more j.table k.table t r.adds.grows.extends k_t)) (r.reads.shows t k_t)

  pub do_of : (place : Place) → Visits g l start (record { zero = e.zero; pass = Empty; finish = Union at }) (DoWhile place body c)
  do_of place =
      let around : List Node → List Need = λ xs. access_needs (finishes body) (accesses c) ++ needs (xs ++ (finishes body ++ deps c)) body in
      let j_l = extends_more j.table k.table l.table r.adds.grows.extends round_l in
      let i_l = extends_more i.table j.table l.table v.adds.grows.extends j_l in
      let body_until = until_from i j l.table start inner (λ xs. xs ++ (finishes body ++ deps c)) (λ xs. needs xs body)
      (λ t xs x s. u.shows t xs (finishes body ++ deps c) (extends_more i.table l.table t i_l x) s (again t x)) (until_of i j l.table inner (λ xs. needs xs body) v.adds j_l) in
      let read_until = until_from j k l.table start e.finish (λ xs. finishes body) (λ xs. access_needs xs (accesses c))
      (λ t xs x s. v.ends.finish.shows t (extends_more j.table l.table t j_l x)) (until_of j k l.table e.finish (λ xs. access_needs xs (accesses c)) r.adds round_l) in
      record {
        adds = adds_as g l start around (λ xs. needs xs (DoWhile place body c))
            (λ xs. ap (λ ys. access_needs (finishes body) (accesses c) ++ needs ys body) (sym (append_assoc xs (finishes body) (deps c))))
            (of_until g i k l start around (u.same ∙ kept.same)
            (until_both i j j k l.table start (λ xs. needs (xs ++ (finishes body ++ deps c)) body) (λ xs. access_needs (finishes body) (accesses c)) body_until refl read_until) f.same
            (grows_to_filled g h k l at e.finish read kept grows_round f));
        ends = record { zero_is = v.ends.zero_is; pass = shows_none l; finish = record { shows = λ t x. again t x } };
      }
