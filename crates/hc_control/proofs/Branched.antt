-- Branches side by side.
use Rattle.std.proofs.Common.{◌≡◌, ◌<◌, ◌≤◌, ℕ, zero, suc, ◌+◌, ◌*◌, ◌^◌, List, [], ◌∷◌, ◌++◌, length, map, Bool, true, false, ◌&&◌, Some, refl, ap, sym, ◌∙◌, ◌⊎◌, inl, inr, subst, arith, append_assoc}
use Rattle.std.specs.Prelude.{All, slice_get}
use Rattle.std.specs.List.{concat}
use Rattle.std.proofs.lemmas.List.{append-nil}
use Rattle.std.proofs.lemmas.List.Elements.{All-nil, All-cons, All-append}
use Rattle.std.proofs.lemmas.List.Folds.{concat-append}
use Rattle.hc_tree.specs.declared.place.Place.{Place}
use Rattle.hc_core.specs.Parts.{statement_parts, all_parts}
use Rattle.hc_core.specs.Program.{Par, Statements, stop, ◌⨾◌}
use Rattle.hc_core.specs.Read.{statement, statements}
use Rattle.hc_core.specs.Weight.{statement_flops, list_flops}
use Rattle.hc_core.specs.Zero.{zero as may_take_none, all_zero}
use Rattle.hc_core.specs.declared.object.Kind.{Kind}
use Rattle.hc_core.specs.declared.stmt.Stmt.{Stmt}
use Rattle.hc_core.proofs.Listing.{is_empty, rest_is}
use Rattle.hc_core.proofs.Read.{read_no_statement}
use Rattle.hc_meaning.specs.Residual.{residual, Branches, branches_left}
use Rattle.hc_net.specs.Circuit.{Circuit, History, Explains}
use Rattle.hc_net.specs.Frame.{Keeps, keeps_same, keeps_then}
use Rattle.hc_net.specs.MadeLemmas.{Over-within}
use Rattle.hc_net.specs.Run.{Trace}
use Rattle.hc_net.specs.Seal.{Within}
use Rattle.hc_net.specs.declared.node.Node.{Node}
use Rattle.hc_token.specs.Circuits.{Joins, every, some_and_every, done_from}
use Rattle.hc_token.specs.Control.{Controls, AreThere, IsNever}
use Rattle.hc_token.specs.Part.{keeps_tokens}
use Rattle.hc_token.specs.declared.ends.Ends.{Ends}
use Rattle.hc_value.specs.declared.objects.ObjectNets.{ObjectNets}
use Rattle.hc_control.specs.Building.{AddsControl, CanBuild, Builds, IsCircuit, CanBuildEach, AreCircuits, BuildsEach}
use Rattle.hc_control.specs.Lists.{Wires, FollowAll, all_pass, all_done, are_some, all_enabled, all_tested, IsJoined}
use Rattle.hc_control.specs.Right.{IsRight}
use Rattle.hc_control.specs.Starts.{leaves, leaves_of_branches, selected}
use Rattle.hc_control.specs.Token.{Clocks}
use Rattle.hc_control.specs.Weighs.{control_weight, parts_control}
use Rattle.hc_control.specs.declared.started.Started.{Started}
use Rattle.hc_control.proofs.Adding.{keeps_control, circuit_kept, reaches_within, control_none, control_most, control_then, control_tokens, control_room, selected_starts, count_append}
use Rattle.hc_control.proofs.LawParallel.{follows_par}
use Rattle.hc_control.proofs.Ordered.{CanGoOn, first_can, rest_can, enabled_as}

-- ---- each branch, one after the other

-- The branches in front of `rest` were built, each with one start.
pub record EachBuilt (kinds : List Kind) (at : ObjectNets) (all rest : Statements) (start : ℕ) (old new : Circuit) (before after : Started) (ends : List Ends) : Type 0 where
  pub starts : List (List ℕ)
  pub weight : ℕ
  pub flops : ℕ
  pub weight_is : weight + parts_control kinds 0 rest ≡ parts_control kinds 0 all
  pub flops_is : flops + list_flops 0 rest ≡ list_flops 0 all
  pub fewer : all_parts rest ≤ all_parts all
  pub put : after.starts ≡ before.starts ++ concat starts
  pub next : after.next ≡ before.next + flops
  pub adds : AddsControl weight before.next flops old new
  pub can : CanGoOn kinds at 0 rest start after.next new
  pub circuits : (nodes : List Node) (more : List (List ℕ)) (behind : List Ends) → Keeps new.nodes nodes → AreCircuits kinds at rest start nodes more behind
      → AreCircuits kinds at all start nodes (starts ++ more) (ends ++ behind)

pub each_can : {kinds : List Kind} {at : ObjectNets} {list : Statements} {start token : ℕ} {c : Circuit} → CanBuildEach kinds at list start token c → CanGoOn kinds at 0 list start token c
each_can can = record { reads = can.reads; there = can.there; typed = can.typed; built = can.built; loops = can.loops; labels = can.labels; room = can.room; numbers = can.numbers }

pub each_start : (kinds : List Kind) (at : ObjectNets) (all : Statements) (start : ℕ) (c : Circuit) (before : Started) (ends : List Ends) → ends ≡ []
    → CanBuildEach kinds at all start before.next c → EachBuilt kinds at all all start c c before before ends
each_start kinds at all start c before ends none can = record {
  starts = [];
  weight = 0;
  flops = 0;
  weight_is = omega arith;
  flops_is = omega arith;
  fewer = omega arith;
  put = sym (append-nil before.starts);
  next = omega arith;
  adds = control_none before.next c;
  can = each_can can;
  circuits = λ nodes more behind keeps circuits. rw none circuits;
}

module _ (kinds : List Kind) (at : ObjectNets) (all : Statements) (rest behind : List Stmt) (first : Stmt) (start : ℕ) (old front : Circuit) (before after : Started) (ends : List Ends)
    (is : rest ≡ first ∷ behind) (now : EachBuilt kinds at all (statements rest) start old front before after ends) where
  each_here : EachBuilt kinds at all (statement first ⨾ statements behind) start old front before after ends
  each_here = subst (λ l. EachBuilt kinds at all l start old front before after ends) (rest_is rest behind first is) now

  pub branch_can : CanBuild kinds at (statement first) start after.next front
  branch_can = first_can start each_here.can (keeps_same front.nodes) (omega arith) each_here.can.there

  pub branch_fewer : statement_parts (statement first) ≤ all_parts all
  branch_fewer = let few = each_here.fewer in omega arith

  pub each_next : (new : Circuit) (later : Started) (one : Ends) (more : List Ends) → more ≡ ends ++ one ∷ [] → Builds kinds at (statement first) start front new after later one
      → EachBuilt kinds at all (statements behind) start old new before later more
  each_next new later one more pushed b =
      let here = each_here in
      record {
        starts = here.starts ++ b.starts ∷ [];
        weight = here.weight + control_weight kinds (statement first);
        flops = here.flops + statement_flops (statement first);
        weight_is = let is = here.weight_is in omega arith;
        flops_is = let is = here.flops_is in omega arith;
        fewer = let few = here.fewer in omega arith;
        put = b.put ∙ ap (λ l. l ++ b.starts) here.put ∙ append_assoc before.starts (concat here.starts) b.starts
            ∙ ap (λ l. before.starts ++ l) (ap (λ l. concat here.starts ++ l) (sym (append-nil b.starts)) ∙ sym (concat-append here.starts (b.starts ∷ [])));
        next = let x = b.next in let y = here.next in omega arith;
        adds = control_then here.next here.adds b.adds;
        can = rest_can here.can (keeps_control b.adds) (let room = control_room b.adds in omega arith) b.next;
        circuits = λ nodes others rest_ends keeps circuits.
            rw (pushed, append_assoc here.starts (b.starts ∷ []) others, append_assoc ends (one ∷ []) rest_ends)
            (here.circuits nodes (b.starts ∷ others) (one ∷ rest_ends) (keeps_then (keeps_control b.adds) keeps) (circuit_kept keeps b.circuit, circuits));
      }

pub each_end : (kinds : List Kind) (at : ObjectNets) (all : Statements) (rest : List Stmt) (start : ℕ) (old new : Circuit) (before after : Started) (ends : List Ends) → length rest < 1
    → EachBuilt kinds at all (statements rest) start old new before after ends → BuildsEach kinds at all start old new before after ends
each_end kinds at all rest start old new before after ends none now =
    let last = subst (λ l. EachBuilt kinds at all l start old new before after ends) (ap statements (is_empty rest none) ∙ read_no_statement) now in
    let weight : last.weight ≡ parts_control kinds 0 all = let is = last.weight_is in omega arith in
    let flops : last.flops ≡ list_flops 0 all = let is = last.flops_is in omega arith in
    record {
      starts = last.starts;
      put = last.put;
      next = let next = last.next in omega arith;
      adds = subst (λ n. AddsControl (parts_control kinds 0 all) before.next n old new) flops (subst (λ n. AddsControl n before.next last.flops old new) weight last.adds);
      circuits = rw (← append-nil last.starts, ← append-nil ends) (last.circuits new.nodes [] [] (keeps_same new.nodes) tt);
    }

-- ---- the wires of the branches

-- the wires are those of the ends in a history
abbrev Shows : History → List Wires → List Ends → Type 0
Shows h [] [] = Unit {0}
Shows h [] (e ∷ es) = ⊥
Shows h (x ∷ xs) [] = ⊥
Shows h (x ∷ xs) (e ∷ es) = ((t : ℕ) → x.pass t ≡ h t e.pass) × ((t : ℕ) → x.finish t ≡ h t e.finish) × Shows h xs es

-- The wires of each branch follow it, and show its ends and its starts.
record Wired (kinds : List Kind) (at : ObjectNets) (branches : Branches) (start : ℕ) (c : Clocks) (h : History) (starts : List (List ℕ)) (ends : List Ends) : Type 0 where
  wires : List Wires
  follow : FollowAll c (λ t. IsRight kinds at (c.world t) (h t)) (λ t. h t start) branches wires
  shows : Shows h wires ends
  enables : (t : ℕ) → all_enabled wires t ≡ selected (map (h t) (concat starts)) (leaves_of_branches branches)

circuits_kept : (kinds : List Kind) (at : ObjectNets) (list : Statements) (start : ℕ) (old new : List Node) (starts : List (List ℕ)) (all : List Ends) → Keeps old new
    → AreCircuits kinds at list start old starts all → AreCircuits kinds at list start new starts all
circuits_kept kinds at stop start old new [] [] keeps is = tt
circuits_kept kinds at stop start old new [] (e ∷ all) keeps is = absurd is
circuits_kept kinds at stop start old new (x ∷ more) [] keeps is = absurd is
circuits_kept kinds at stop start old new (x ∷ more) (e ∷ all) keeps is = absurd is
circuits_kept kinds at (first ⨾ rest) start old new [] [] keeps is = absurd is
circuits_kept kinds at (first ⨾ rest) start old new [] (e ∷ all) keeps is = absurd is
circuits_kept kinds at (first ⨾ rest) start old new (x ∷ more) [] keeps is = absurd is
circuits_kept kinds at (first ⨾ rest) start old new (x ∷ more) (e ∷ all) keeps is = (circuit_kept keeps is.0, circuits_kept kinds at rest start old new more all keeps is.1)

wired : (kinds : List Kind) (at : ObjectNets) (list : Statements) (start : ℕ) (nodes : List Node) (starts : List (List ℕ)) (all : List Ends) → AreCircuits kinds at list start nodes starts all
    → (n : ℕ) (c : Clocks) (trace : Trace) (h : History) → Explains nodes trace h → Wired kinds at (branches_left list n).0 start c h starts all
unfolding branches_left
wired kinds at stop start nodes [] [] is n c trace h e = record { wires = []; follow = tt; shows = tt; enables = λ t. refl }
wired kinds at stop start nodes [] (x ∷ all) is n c trace h e = absurd is
wired kinds at stop start nodes (s ∷ more) [] is n c trace h e = absurd is
wired kinds at stop start nodes (s ∷ more) (x ∷ all) is n c trace h e = absurd is
wired kinds at (first ⨾ rest) start nodes [] [] is n c trace h e = absurd is
wired kinds at (first ⨾ rest) start nodes [] (x ∷ all) is n c trace h e = absurd is
wired kinds at (first ⨾ rest) start nodes (s ∷ more) [] is n c trace h e = absurd is
wired kinds at (first ⨾ rest) start nodes (s ∷ more) (x ∷ all) is n c trace h e =
    let one = is.0.follows n c trace h e in
    let others = wired kinds at rest start nodes more all is.1 (residual first n).1 c trace h e in
    record {
      wires = record { pass = λ t. h t x.pass; finish = λ t. h t x.finish; enabled = λ t. selected (map (h t) s) (leaves (residual first n).0); tested = one.0 } ∷ others.wires;
      follow = (one.1, others.follow);
      shows = (λ t. refl, λ t. refl, others.shows);
      enables = λ t.
          ap (λ l. selected (map (h t) s) (leaves (residual first n).0) ++ l) (others.enables t)
          ∙ sym (selected_starts (h t) s (concat more) (leaves (residual first n).0) (leaves_of_branches (branches_left rest (residual first n).1).0) (is.0.count n));
    }

shown_pass : (h : History) (xs : List Wires) (es : List Ends) → Shows h xs es → (t : ℕ) → all_pass xs t ≡ every (map (λ e. h t e.pass) es)
shown_pass h [] [] is t = refl
shown_pass h [] (e ∷ es) is t = absurd is
shown_pass h (x ∷ xs) [] is t = absurd is
shown_pass h (x ∷ xs) (e ∷ es) is t = rw (is.0 t, shown_pass h xs es is.2 t) refl

shown_done : (h : History) (xs : List Wires) (es : List Ends) → Shows h xs es → (t : ℕ) (shifted latch : ℕ → Bool) (i : ℕ) → ((j : ℕ) → shifted j ≡ latch (i + j))
    → all_done xs shifted t ≡ every (done_from (h t) latch i es)
shown_done h [] [] is t shifted latch i same = refl
shown_done h [] (e ∷ es) is t shifted latch i same = absurd is
shown_done h (x ∷ xs) [] is t shifted latch i same = absurd is
shown_done h (x ∷ xs) (e ∷ es) is t shifted latch i same =
    let here : i + 0 ≡ i = omega arith in
    let first : shifted 0 ≡ latch i = same 0 ∙ ap latch here in
    rw (is.1 t, first, shown_done h xs es is.2 t (λ j. shifted (suc j)) latch (suc i) (λ j. let e : i + suc j ≡ suc i + j = omega arith in same (suc j) ∙ ap latch e)) refl

shown_all : (h : History) (xs : List Wires) (es : List Ends) → Shows h xs es → (t : ℕ) (latch : ℕ → Bool) → some_and_every (done_from (h t) latch 0 es) ≡ (are_some xs && all_done xs latch t)
shown_all h [] [] is t latch = refl
shown_all h [] (e ∷ es) is t latch = absurd is
shown_all h (x ∷ xs) [] is t latch = absurd is
shown_all h (x ∷ xs) (e ∷ es) is t latch = sym (shown_done h (x ∷ xs) (e ∷ es) is t latch latch 0 (λ j. let same : j ≡ 0 + j = omega arith in ap latch same))

-- the ends that a branch's wires are of
record Shown (h : History) (es : List Ends) (i : ℕ) (x : Wires) : Type 0 where
  ends : Ends
  there : slice_get es i ≡ Some ends
  pass : (t : ℕ) → x.pass t ≡ h t ends.pass
  finish : (t : ℕ) → x.finish t ≡ h t ends.finish

shown_at : (h : History) (xs : List Wires) (es : List Ends) → Shows h xs es → (i : ℕ) (x : Wires) → slice_get xs i ≡ Some x → Shown h es i x
shown_at h [] [] is i x at = absurd cc
shown_at h [] (e ∷ es) is i x at = absurd is
shown_at h (y ∷ xs) [] is i x at = absurd is
shown_at h (y ∷ xs) (e ∷ es) is zero x at =
    let same : y ≡ x = cc in
    record { ends = e; there = refl; pass = λ t. ap (λ (w : Wires). w.pass t) (sym same) ∙ is.0 t; finish = λ t. ap (λ (w : Wires). w.finish t) (sym same) ∙ is.1 t }
shown_at h (y ∷ xs) (e ∷ es) is (suc i) x at = let found = shown_at h xs es is.2 i x at in record { ends = found.ends; there = found.there; pass = found.pass; finish = found.finish }

joined_wires : (h : History) (start : ℕ) (xs : List Wires) (es : List Ends) (whole : Ends) → Shows h xs es → (j : Joins start es whole h)
    → IsJoined xs (λ t. h t start) (λ t. h t whole.pass) (λ t. h t whole.finish) j.latch
joined_wires h start xs es whole is j = record {
  passes = λ t. j.pass t ∙ sym (shown_pass h xs es is t);
  finishes = λ t. j.finish t ∙ shown_all h xs es is t (j.latch t);
  first = j.first;
  next = λ t i x at. let found = shown_at h xs es is i x at in rw (found.pass t, found.finish t) (j.later t i found.ends found.there);
}

-- ---- what the circuits of the branches say together

module _ (kinds : List Kind) (at : ObjectNets) (start : ℕ) (nodes : List Node) where
  all_count : (list : Statements) (starts : List (List ℕ)) (all : List Ends) → AreCircuits kinds at list start nodes starts all
      → (n : ℕ) → length (concat starts) ≡ length (leaves_of_branches (branches_left list n).0)
  unfolding branches_left
  all_count stop [] [] is n = refl
  all_count stop [] (e ∷ all) is n = absurd is
  all_count stop (s ∷ more) [] is n = absurd is
  all_count stop (s ∷ more) (e ∷ all) is n = absurd is
  all_count (first ⨾ rest) [] [] is n = absurd is
  all_count (first ⨾ rest) [] (e ∷ all) is n = absurd is
  all_count (first ⨾ rest) (s ∷ more) [] is n = absurd is
  all_count (first ⨾ rest) (s ∷ more) (e ∷ all) is n =
      count_append s (concat more) (leaves (residual first n).0) (leaves_of_branches (branches_left rest (residual first n).1).0) (is.0.count n) (all_count rest more all is.1 (residual first n).1)

  -- the nets of all branches
  record AllThere (list : Statements) (starts : List (List ℕ)) (all : List Ends) : Type 0 where
    starts_there : All (λ k. k < length nodes) (concat starts)
    there : All (λ e. (e.pass < length nodes) × (e.finish < length nodes)) all
    passes : All (Within nodes 0) (map (λ e. e.pass) all)
    finishes : All (Within nodes 0) (map (λ e. e.finish) all)
    weight : parts_control kinds 16 list ≡ parts_control kinds 0 list + 16 * length all
    flops : list_flops 1 list ≡ list_flops 0 list + length all

  all_there : (list : Statements) (starts : List (List ℕ)) (all : List Ends) → AreCircuits kinds at list start nodes starts all → AllThere list starts all
  all_there stop [] [] is = record { starts_there = All-nil _; there = All-nil _; passes = All-nil _; finishes = All-nil _; weight = omega arith; flops = omega arith }
  all_there stop [] (e ∷ all) is = absurd is
  all_there stop (s ∷ more) [] is = absurd is
  all_there stop (s ∷ more) (e ∷ all) is = absurd is
  all_there (first ⨾ rest) [] [] is = absurd is
  all_there (first ⨾ rest) [] (e ∷ all) is = absurd is
  all_there (first ⨾ rest) (s ∷ more) [] is = absurd is
  all_there (first ⨾ rest) (s ∷ more) (e ∷ all) is =
      let others = all_there rest more all is.1 in
      record {
        starts_there = All-append (λ k. k < length nodes) s (concat more) is.0.starts_there others.starts_there;
        there = All-cons (λ (x : Ends). (x.pass < length nodes) × (x.finish < length nodes)) e all is.0.there others.there;
        passes = All-cons (Within nodes 0) e.pass (map (λ (x : Ends). x.pass) all) is.0.pass others.passes;
        finishes = All-cons (Within nodes 0) e.finish (map (λ (x : Ends). x.finish) all) is.0.finish others.finishes;
        weight = let weight = others.weight in omega arith;
        flops = let flops = others.flops in omega arith;
      }

  -- a branch that takes a clock
  record Takes (all : List Ends) : Type 0 where
    place : ℕ
    ends : Ends
    there : slice_get all place ≡ Some ends
    never : IsNever nodes ends.pass

  some_takes : (first rest : Bool) → (first && rest) ≡ false → (first ≡ false) ⊎ (rest ≡ false)
  some_takes true rest is = inr is
  some_takes false rest is = inl refl

  a_branch_takes : (list : Statements) (starts : List (List ℕ)) (all : List Ends) → AreCircuits kinds at list start nodes starts all → all_zero list ≡ false → Takes all
  a_branch_takes stop [] [] is takes = absurd cc
  a_branch_takes stop [] (e ∷ all) is takes = absurd is
  a_branch_takes stop (s ∷ more) [] is takes = absurd is
  a_branch_takes stop (s ∷ more) (e ∷ all) is takes = absurd is
  a_branch_takes (first ⨾ rest) [] [] is takes = absurd is
  a_branch_takes (first ⨾ rest) [] (e ∷ all) is takes = absurd is
  a_branch_takes (first ⨾ rest) (s ∷ more) [] is takes = absurd is
  a_branch_takes (first ⨾ rest) (s ∷ more) (e ∷ all) is takes = elim (some_takes (may_take_none first) (all_zero rest) takes) [
    | inl here ↦ record { place = zero; ends = e; there = refl; never = is.0.never here }
    | inr behind ↦ let found = a_branch_takes rest more all is.1 behind in record { place = suc found.place; ends = found.ends; there = found.there; never = found.never }
  ]

-- ---- all of it

fewer_gates : (kinds : List Kind) (list : Statements) → parts_control kinds 0 list ≤ parts_control kinds 16 list
fewer_gates kinds stop = omega arith
fewer_gates kinds (first ⨾ rest) = omega (arith, fewer_gates kinds rest)

fewer_flops : (list : Statements) → list_flops 0 list ≤ list_flops 1 list
fewer_flops stop = omega arith
fewer_flops (first ⨾ rest) = omega (arith, fewer_flops rest)

list_count : (list : List Stmt) → list_flops 1 (statements list) ≡ list_flops 0 (statements list) + length list
unfolding statements
list_count [] = omega arith
list_count (first ∷ rest) = omega (arith, list_count rest)

pub all_can : {kinds : List Kind} {at : ObjectNets} {list : Statements} {start token : ℕ} {c : Circuit} (place : Place) → CanBuild kinds at (Par place list) start token c
    → CanBuildEach kinds at list start token c
all_can {kinds} {list = list} place can = record {
  reads = can.reads;
  there = can.there;
  typed = can.typed;
  built = can.built;
  loops = can.loops;
  labels = can.labels;
  room = let room = can.room in omega (arith, fewer_gates kinds list, fewer_flops list);
  numbers = let numbers = can.numbers in omega (arith, fewer_flops list);
}

-- what can be built doesn't depend on the place
pub can_as : {kinds : List Kind} {at : ObjectNets} {list : Statements} {start token : ℕ} {c : Circuit} {place : Place} (other : Place)
    → CanBuild kinds at (Par place list) start token c → CanBuild kinds at (Par other list) start token c
can_as other can = record {
  reads = can.reads;
  there = can.there;
  typed = can.typed;
  built = can.built;
  loops = can.loops;
  labels = can.labels;
  room = can.room;
  numbers = can.numbers;
}

pub each_as : {kinds : List Kind} {at : ObjectNets} {list : Statements} {start : ℕ} {old new : Circuit} {before after : Started} {all : List Ends} (shown : List Ends) → shown ≡ all
    → BuildsEach kinds at list start old new before after all → BuildsEach kinds at list start old new before after shown
each_as {kinds} {at} {list} {start} {old} {new} {before} {after} shown same b = subst (λ l. BuildsEach kinds at list start old new before after l) (sym same) b

module _ (kinds : List Kind) (at : ObjectNets) (place : Place) (list : List Stmt) (start : ℕ) (old mid : Circuit) (before between : Started) (all : List Ends)
    (can : CanBuild kinds at (Par place (statements list)) start before.next old) (each : BuildsEach kinds at (statements list) start old mid before between all) where
  of_all : AllThere kinds at start mid.nodes (statements list) each.starts all
  of_all = all_there kinds at start mid.nodes (statements list) each.starts all each.circuits

  pub count_is : length all ≡ length list
  count_is = let flops = of_all.flops in omega (arith, list_count list)

  pub join_numbers : between.next + length all ≤ 2 ^ 32
  join_numbers = let numbers = can.numbers in let next = each.next in let flops = of_all.flops in omega arith

  pub numbers_fit : between.next + length list < 2 ^ 32
  numbers_fit = let numbers = can.numbers in let next = each.next in omega (arith, list_count list)

  pub join_room : length mid.nodes + (7 * length all + 2) < 2 ^ 32
  join_room = let room = can.room in let more = control_room each.adds in let weight = of_all.weight in let flops = of_all.flops in omega arith

  pub join_branches : All (AreThere mid) all
  join_branches = of_all.there

  module _ (new : Circuit) (after : Started) (whole : Ends) (put : after.starts ≡ between.starts) (next : after.next ≡ between.next + length list)
      (j : Controls (6 * length all + 2) between.next (length all) (map (λ e. e.pass) all) (map (λ e. e.finish) all) mid new whole (Joins start all whole))
      (never : (i : ℕ) (e : Ends) → slice_get all i ≡ Some e → IsNever mid.nodes e.pass → IsNever new.nodes whole.pass) where
    kept : Keeps mid.nodes new.nodes
    kept = keeps_tokens j.adds

    later : AreCircuits kinds at (statements list) start new.nodes each.starts all
    later = circuits_kept kinds at (statements list) start mid.nodes new.nodes each.starts all kept each.circuits

    of_later : AllThere kinds at start new.nodes (statements list) each.starts all
    of_later = all_there kinds at start new.nodes (statements list) each.starts all later

    parallel_circuit : IsCircuit kinds at (Par place (statements list)) start new.nodes (concat each.starts) whole
    unfolding residual branches_left
    parallel_circuit = record {
      there = j.there;
      starts_there = of_later.starts_there;
      count = all_count kinds at start new.nodes (statements list) each.starts all later;
      pass = Over-within of_later.passes j.pass;
      finish = reaches_within of_later.finishes j.finish;
      never = λ takes. let found = a_branch_takes kinds at start mid.nodes (statements list) each.starts all each.circuits takes in never found.place found.ends found.there found.never;
      follows = λ n c trace h e.
          let w = wired kinds at (statements list) start new.nodes each.starts all later n c trace h e in
          let joins = j.value trace h e in (
            all_tested w.wires,
            enabled_as (λ t. sym (w.enables t))
                (follows_par c (λ t. IsRight kinds at (c.world t) (h t)) (branches_left (statements list) n).0 w.wires (λ t. h t start) (λ t. h t whole.pass) (λ t. h t whole.finish) joins.latch
                w.follow (joined_wires h start w.wires all whole w.shows joins)),
          );
    }

    pub parallel_built : Builds kinds at (Par place (statements list)) start old new before after whole
    parallel_built =
        let most : parts_control kinds 0 (statements list) + (6 * length all + 2) ≤ 40 + parts_control kinds 16 (statements list) = let weight = of_all.weight in omega arith in
        let flops : list_flops 0 (statements list) + length all ≡ list_flops 1 (statements list) = sym of_all.flops in
        record {
          starts = concat each.starts;
          put = put ∙ each.put;
          next = let a = each.next in omega (arith, list_count list);
          adds = subst (λ n. AddsControl (40 + parts_control kinds 16 (statements list)) before.next n old new) flops (control_most most (control_then each.next each.adds (control_tokens j.adds)));
          circuit = parallel_circuit;
        }
