-- Statements one behind another.
use Rattle.std.proofs.Common.{◌≡◌, ◌<◌, ◌≤◌, ◌⊎◌, ℕ, ◌+◌, ◌^◌, List, [], ◌∷◌, ◌++◌, length, map, Bool, true, false, ◌&&◌, ◌||◌, None, refl, ap, sym, ◌∙◌, subst, inl, inr, arith, append_assoc}
use Rattle.std.specs.Prelude.{All}
use Rattle.std.proofs.lemmas.List.{append-nil}
use Rattle.std.proofs.lemmas.List.Elements.{All-nil, All-cons, All-append}
use Rattle.hc_tree.specs.declared.place.Place.{Place}
use Rattle.hc_core.specs.FirstPlace.{first_where, first_in}
use Rattle.hc_core.specs.Rules.{endless, repeats_label}
use Rattle.hc_core.specs.Parts.{statement_parts, all_parts}
use Rattle.hc_core.specs.Program.{Statement, Seq, Statements, stop, ◌⨾◌}
use Rattle.hc_core.specs.Read.{statement, statements}
use Rattle.hc_core.specs.Sound.{AllTyped}
use Rattle.hc_core.specs.Weight.{statement_flops, list_flops}
use Rattle.hc_core.specs.Zero.{zero, all_zero}
use Rattle.hc_core.specs.declared.object.Kind.{Kind}
use Rattle.hc_core.specs.declared.stmt.Stmt.{Stmt}
use Rattle.hc_core.proofs.Listing.{is_empty, rest_is}
use Rattle.hc_core.proofs.Read.{read_no_statement}
use Rattle.hc_meaning.specs.Control.{Leaf, Condition}
use Rattle.hc_meaning.specs.Residual.{Residual, Skip, Then, residual, sequence, sequence_behind}
use Rattle.hc_net.specs.Circuit.{Circuit, History, Explains}
use Rattle.hc_net.specs.Frame.{Keeps, keeps_same, keeps_then, keeps_gates, keeps_within}
use Rattle.hc_net.specs.Made.{Over, argument, Makes}
use Rattle.hc_net.specs.MadeLemmas.{Over-over, Over-within, Adds-room, Makes-last, Makes-holds}
use Rattle.hc_net.specs.Run.{Trace}
use Rattle.hc_net.specs.Seal.{Within}
use Rattle.hc_net.specs.declared.node.Node.{Node}
use Rattle.hc_token.specs.Circuits as circuits
use Rattle.hc_token.specs.Control.{Controls, IsNever, IsAlways}
use Rattle.hc_token.specs.Kept.{there_kept, all_there_kept, never_kept}
use Rattle.hc_token.specs.Part.{keeps_tokens}
use Rattle.hc_token.specs.declared.ends.Ends.{Ends}
use Rattle.hc_value.specs.declared.objects.ObjectNets.{ObjectNets}
use Rattle.hc_control.specs.Building.{AddsControl, CanBuild, Builds, IsCircuit, FollowsAlways}
use Rattle.hc_control.specs.Built.{unbuilt_parts}
use Rattle.hc_control.specs.Right.{CanRead, IsRight}
use Rattle.hc_control.specs.Starts.{leaves, selected}
use Rattle.hc_control.specs.Token.{Clocks, Follows}
use Rattle.hc_control.specs.Weighs.{control_weight, parts_control}
use Rattle.hc_control.specs.declared.started.Started.{Started}
use Rattle.hc_control.proofs.Adding.{keeps_control, reads_kept, reaches_within, never_within, always_within, never_holds, always_holds_true, control_none, control_most, control_then, control_tokens, control_behind_gates, control_room, selected_starts, count_append, control_number}
use Rattle.hc_control.proofs.NoneFound.{none_first}
use Rattle.hc_control.proofs.LawSequence.{follows_then}
use Rattle.hc_control.proofs.LawSkip.{follows_skip}

All-one : {X : Type 0} (P : X → Type 0) (x : X) → P x → All P (x ∷ [])
All-one P x px = All-cons P x [] px (All-nil P)

All-two : {X : Type 0} (P : X → Type 0) (x y : X) → P x → P y → All P (x ∷ y ∷ [])
All-two P x y px py = All-cons P x (y ∷ []) px (All-one P y py)

-- ---- where what stands behind a part starts

-- two gates: one where the part starts and passes, and one where it finishes or does so
pub behind_made : (start pass finish through z : ℕ) (old mid new : Circuit)
    → Makes 1 (start ∷ pass ∷ []) old mid (through ∷ []) (λ v. v through ≡ (v start && v pass))
    → Makes 1 (finish ∷ through ∷ []) mid new (z ∷ []) (λ v. v z ≡ (v finish || v through))
    → Makes 2 (finish ∷ start ∷ pass ∷ []) old new (z ∷ []) (λ v. v z ≡ (v finish || (v start && v pass)))
behind_made start pass finish through z old mid new a b =
    let args = finish ∷ start ∷ pass ∷ [] in
    let wide : Makes 1 args old mid (through ∷ []) (λ v. v through ≡ (v start && v pass)) = record {
      adds = a.adds;
      there = a.there;
      reach = λ i d within. Over-over (All-two (Over mid.nodes args) start pass (argument start 1 (omega arith) refl) (argument pass 2 (omega arith) refl)) (a.reach i d within);
      value = a.value;
    } in
    Makes-holds (Makes-last wide b (All-two (Over mid.nodes args) finish through (argument finish 0 (omega arith) refl) (wide.reach 0 0 (omega arith)))) (omega arith)
    (λ v holds. holds.1 ∙ ap (λ p. v finish || p) (holds.0))

-- ---- what can be built of a list

-- What it takes to build the control of each statement of a list, where each may take so many gates more.
pub record CanGoOn (kinds : List Kind) (at : ObjectNets) (each : ℕ) (list : Statements) (start token : ℕ) (c : Circuit) : Type 0 where
  pub reads : CanRead kinds at c
  pub there : start < length c.nodes
  pub typed : AllTyped kinds list
  pub built : unbuilt_parts list ≡ None
  pub loops : first_in endless list ≡ None
  pub labels : first_in repeats_label list ≡ None
  pub room : length c.nodes + (parts_control kinds each list + list_flops 0 list) < 2 ^ 32
  pub numbers : token + list_flops 0 list < 2 ^ 32

-- the first of a list, with a start of its own
pub first_can : {kinds : List Kind} {at : ObjectNets} {each : ℕ} {first : Statement} {rest : Statements} {start token : ℕ} {c mid : Circuit} (begin : ℕ)
    → CanGoOn kinds at each (first ⨾ rest) start token c → Keeps c.nodes mid.nodes → length mid.nodes ≤ length c.nodes + each → begin < length mid.nodes
    → CanBuild kinds at first begin token mid
first_can {first = first} {rest = rest} begin can keeps few there = record {
  reads = reads_kept keeps can.reads;
  there = there;
  typed = can.typed.0;
  built = (none_first _ _ can.built).0;
  loops = (none_first (first_where endless first) (first_in endless rest) can.loops).0;
  labels = (none_first (first_where repeats_label first) (first_in repeats_label rest) can.labels).0;
  room = let room = can.room in omega arith;
  numbers = let numbers = can.numbers in omega arith;
}

-- what stands behind the first
pub rest_can : {kinds : List Kind} {at : ObjectNets} {each : ℕ} {first : Statement} {rest : Statements} {start token next : ℕ} {c new : Circuit}
    → CanGoOn kinds at each (first ⨾ rest) start token c → Keeps c.nodes new.nodes
    → length new.nodes ≤ length c.nodes + (each + control_weight kinds first + statement_flops first) → next ≡ token + statement_flops first
    → CanGoOn kinds at each rest start next new
rest_can {first = first} {rest = rest} {start = start} can keeps few is = record {
  reads = reads_kept keeps can.reads;
  there = there_kept keeps start can.there;
  typed = can.typed.1;
  built = (none_first _ _ can.built).1;
  loops = (none_first (first_where endless first) (first_in endless rest) can.loops).1;
  labels = (none_first (first_where repeats_label first) (first_in repeats_label rest) can.labels).1;
  room = let room = can.room in omega arith;
  numbers = let numbers = can.numbers in omega arith;
}

-- ---- what nets follow

-- A circuit as that of a statement, for what is left of one by the number of its first action.
pub record Leads (kinds : List Kind) (at : ObjectNets) (left : ℕ → Residual) (may_pass : Bool) (start : ℕ) (nodes : List Node) (starts : List ℕ) (ends : Ends) : Type 0 where
  pub there : (ends.pass < length nodes) × (ends.finish < length nodes)
  pub starts_there : All (λ k. k < length nodes) starts
  pub count : (n : ℕ) → length starts ≡ length (leaves (left n))
  pub pass : Within nodes 0 ends.pass
  pub finish : Within nodes 0 ends.finish
  pub never : may_pass ≡ false → IsNever nodes ends.pass
  pub follows : FollowsAlways kinds at left start nodes starts ends

pub circuit_leads : {kinds : List Kind} {at : ObjectNets} {s : Statement} {start : ℕ} {nodes : List Node} {starts : List ℕ} {ends : Ends} → IsCircuit kinds at s start nodes starts ends
    → Leads kinds at (λ n. (residual s n).0) (zero s) start nodes starts ends
circuit_leads c = record { there = c.there; starts_there = c.starts_there; count = c.count; pass = c.pass; finish = c.finish; never = c.never; follows = c.follows }

pub leads_circuit : {kinds : List Kind} {at : ObjectNets} {left : ℕ → Residual} {may_pass : Bool} {s : Statement} {start : ℕ} {nodes : List Node} {starts : List ℕ} {ends : Ends}
    → Leads kinds at left may_pass start nodes starts ends → ((n : ℕ) → left n ≡ (residual s n).0) → zero s ≡ may_pass → IsCircuit kinds at s start nodes starts ends
leads_circuit {kinds} {at} {start = start} {starts = starts} {ends = ends} l is same = record {
  there = l.there;
  starts_there = l.starts_there;
  count = λ n. l.count n ∙ ap (λ r. length (leaves r)) (is n);
  pass = l.pass;
  finish = l.finish;
  never = λ takes. l.never (sym same ∙ takes);
  follows = λ n c trace h e.
      subst (λ (r : Residual). (tested : ℕ → List Condition) × Follows c (λ t. IsRight kinds at (c.world t) (h t)) r (λ t. h t start) (λ t. h t ends.pass) (λ t. h t ends.finish)
      (λ t. selected (map (h t) starts) (leaves r)) tested) (is n) (l.follows n c trace h e);
}

pub leads_kept : {kinds : List Kind} {at : ObjectNets} {left : ℕ → Residual} {may_pass : Bool} {start : ℕ} {old new : List Node} {starts : List ℕ} {ends : Ends}
    → Keeps old new → Leads kinds at left may_pass start old starts ends → Leads kinds at left may_pass start new starts ends
leads_kept {starts = starts} {ends = ends} keeps l = record {
  there = (there_kept keeps ends.pass l.there.0, there_kept keeps ends.finish l.there.1);
  starts_there = all_there_kept keeps starts l.starts_there;
  count = l.count;
  pass = keeps_within keeps ends.pass l.pass;
  finish = keeps_within keeps ends.finish l.finish;
  never = λ takes. never_kept keeps ends.pass (l.never takes);
  follows = λ n c trace h e. l.follows n c trace h (keeps.earlier trace h e);
}

-- the enabled actions, written in another way
pub enabled_as : {c : Clocks} {Good : ℕ → Type 0} {s : Residual} {start pass finish : ℕ → Bool} {enabled other : ℕ → List Leaf} {tested : ℕ → List Condition}
    → ((t : ℕ) → other t ≡ enabled t) → Follows c Good s start pass finish enabled tested → Follows c Good s start pass finish other tested
enabled_as same f = record {
  passes = f.passes;
  finishes = f.finishes;
  enables = λ t before good fair. same t ∙ f.enables t before good fair;
  tests = f.tests;
}

may_take : (a b : Bool) → (a && b) ≡ false → (a ≡ false) ⊎ (b ≡ false)
may_take true b is = inr is
may_take false b is = inl refl

-- two parts one behind the other
leads_then : (kinds : List Kind) (at : ObjectNets) (a b : ℕ → Residual) (number : ℕ → ℕ) (zero_a zero_b : Bool) (start next : ℕ) (nodes : List Node) (xs ys : List ℕ) (first second whole : Ends)
    → Leads kinds at a zero_a start nodes xs first → Leads kinds at b zero_b next nodes ys second
    → ((trace : Trace) (h : History) → Explains nodes trace h → (t : ℕ) → h t next ≡ (h t first.finish || (h t start && h t first.pass)))
    → ((trace : Trace) (h : History) → Explains nodes trace h → circuits.Follows first second whole h)
    → (whole.pass < length nodes) × (whole.finish < length nodes) → Within nodes 0 whole.pass → Within nodes 0 whole.finish
    → ((zero_a ≡ false) ⊎ (zero_b ≡ false) → IsNever nodes whole.pass)
    → Leads kinds at (λ n. Then (a n) (b (number n))) (zero_a && zero_b) start nodes (xs ++ ys) whole
leads_then kinds at a b number zero_a zero_b start next nodes xs ys first second whole one two starts joins there pass finish never = record {
  there = there;
  starts_there = All-append (λ k. k < length nodes) xs ys one.starts_there two.starts_there;
  count = λ n. count_append xs ys (leaves (a n)) (leaves (b (number n))) (one.count n) (two.count (number n));
  pass = pass;
  finish = finish;
  never = λ takes. never (may_take zero_a zero_b takes);
  follows = λ n c trace h e.
      let x = one.follows n c trace h e in
      let y = two.follows (number n) c trace h e in (
        λ t. x.0 t ++ y.0 t,
        enabled_as (λ t. selected_starts (h t) xs ys (leaves (a n)) (leaves (b (number n))) (one.count n))
            (follows_then c (λ t. IsRight kinds at (c.world t) (h t)) (a n) (b (number n)) (λ t. h t start) (λ t. h t whole.pass) (λ t. h t whole.finish) (λ t. h t first.pass) (λ t. h t first.finish)
            (λ t. h t next) (λ t. h t second.pass) (λ t. h t second.finish) _ _ x.0 y.0 x.1 y.1 (starts trace h e) (joins trace h e).pass (joins trace h e).finish),
      );
}

-- ---- a sequence, part by part

-- The parts of a sequence in front of `rest` were built: as one statement, whose token the others follow.
pub record Ordered (kinds : List Kind) (at : ObjectNets) (all rest : Statements) (start : ℕ) (old new : Circuit) (before after : Started) (ends : Ends) : Type 0 where
  pub left : ℕ → Residual × ℕ
  pub may_pass : Bool
  pub starts : List ℕ
  pub weight : ℕ
  pub flops : ℕ
  pub left_is : (n : ℕ) → sequence all n ≡ sequence_behind (left n).0 rest (left n).1
  pub zero_is : all_zero all ≡ (may_pass && all_zero rest)
  pub weight_is : weight + parts_control kinds 8 rest ≤ parts_control kinds 8 all
  pub flops_is : flops + list_flops 0 rest ≡ list_flops 0 all
  pub fewer : all_parts rest ≤ all_parts all
  pub put : after.starts ≡ before.starts ++ starts
  pub next : after.next ≡ before.next + flops
  pub adds : AddsControl weight before.next flops old new
  pub can : CanGoOn kinds at 8 rest start after.next new
  pub leads : Leads kinds at (λ n. (left n).0) may_pass start new.nodes starts ends

pub ordered_first : (kinds : List Kind) (at : ObjectNets) (first : Statement) (behind : Statements) (start : ℕ) (old new : Circuit) (before after : Started) (ends : Ends)
    → CanGoOn kinds at 8 (first ⨾ behind) start before.next old → Builds kinds at first start old new before after ends
    → Ordered kinds at (first ⨾ behind) behind start old new before after ends
unfolding residual sequence sequence_behind
ordered_first kinds at first behind start old new before after ends can b = record {
  left = residual first;
  may_pass = zero first;
  starts = b.starts;
  weight = control_weight kinds first;
  flops = statement_flops first;
  left_is = λ n. refl;
  zero_is = refl;
  weight_is = omega arith;
  flops_is = omega arith;
  fewer = omega arith;
  put = b.put;
  next = b.next;
  adds = b.adds;
  can = rest_can can (keeps_control b.adds) (let room = control_room b.adds in omega arith) b.next;
  leads = circuit_leads b.circuit;
}

and_assoc : (a b c : Bool) → (a && (b && c)) ≡ ((a && b) && c)
and_assoc true b c = refl
and_assoc false b c = refl

module _ (kinds : List Kind) (at : ObjectNets) (all : Statements) (next : Statement) (behind : Statements) (start begin : ℕ) (old front mid : Circuit) (before after : Started) (ends : Ends)
    (now : Ordered kinds at all (next ⨾ behind) start old front before after ends)
    (made : Makes 2 (ends.finish ∷ start ∷ ends.pass ∷ []) front mid (begin ∷ []) (λ v. v begin ≡ (v ends.finish || (v start && v ends.pass)))) where
  -- the next part can be built
  pub next_can : CanBuild kinds at next begin after.next mid
  next_can = first_can begin now.can (keeps_gates made.adds) (let room = Adds-room made.adds in omega arith) (made.there 0 0 (omega arith))

  module _ (built new : Circuit) (later : Started) (ends_next whole : Ends) (b : Builds kinds at next begin mid built after later ends_next)
      (c : Controls 3 0 0 (ends.pass ∷ ends_next.pass ∷ []) (ends_next.finish ∷ ends.finish ∷ ends_next.pass ∷ []) built new whole (circuits.Follows ends ends_next whole))
      (never : IsNever built.nodes ends.pass ⊎ IsNever built.nodes ends_next.pass → IsNever new.nodes whole.pass) where
    kept : Keeps front.nodes new.nodes
    kept = keeps_then (keeps_gates made.adds) (keeps_then (keeps_control b.adds) (keeps_tokens c.adds))

    added : AddsControl (2 + control_weight kinds next + 3) after.next (statement_flops next + 0) front new
    added = control_then refl (control_behind_gates made.adds b.adds) (control_number (after.next + statement_flops next) (control_tokens c.adds))

    leads_first : Leads kinds at (λ n. (now.left n).0) now.may_pass start new.nodes now.starts ends
    leads_first = leads_kept kept now.leads

    leads_next : Leads kinds at (λ n. (residual next n).0) (zero next) begin new.nodes b.starts ends_next
    leads_next = leads_kept (keeps_tokens c.adds) (circuit_leads b.circuit)

    pub leads_whole : Leads kinds at (λ n. Then (now.left n).0 (residual next (now.left n).1).0) (now.may_pass && zero next) start new.nodes (now.starts ++ b.starts) whole
    leads_whole =
        leads_then kinds at (λ n. (now.left n).0) (λ n. (residual next n).0) (λ n. (now.left n).1) now.may_pass (zero next) start begin new.nodes now.starts b.starts ends ends_next whole
        leads_first leads_next
        (λ trace h e. made.value trace h ((keeps_then (keeps_control b.adds) (keeps_tokens c.adds)).earlier trace h e))
        c.value c.there
        (Over-within (All-two (Within new.nodes 0) ends.pass ends_next.pass leads_first.pass leads_next.pass) c.pass)
        (reaches_within (All-cons (Within new.nodes 0) ends_next.finish (ends.finish ∷ ends_next.pass ∷ []) leads_next.finish (All-two (Within new.nodes 0) ends.finish ends_next.pass leads_first.finish leads_next.pass)) c.finish)
        (λ either. never (elim either [
          | inl takes ↦ inl (never_kept (keeps_then (keeps_gates made.adds) (keeps_control b.adds)) ends.pass (now.leads.never takes))
          | inr takes ↦ inr (b.circuit.never takes)
        ]))

    pub ordered_next : Ordered kinds at all behind start old new before later whole
    unfolding residual sequence sequence_behind
    ordered_next = record {
      left = λ n. (Then (now.left n).0 (residual next (now.left n).1).0, (residual next (now.left n).1).1);
      may_pass = now.may_pass && zero next;
      starts = now.starts ++ b.starts;
      weight = now.weight + (2 + control_weight kinds next + 3);
      flops = now.flops + (statement_flops next + 0);
      left_is = now.left_is;
      zero_is = now.zero_is ∙ and_assoc now.may_pass (zero next) (all_zero behind);
      weight_is = let is = now.weight_is in omega arith;
      flops_is = let is = now.flops_is in omega arith;
      fewer = let few = now.fewer in omega arith;
      put = b.put ∙ ap (λ l. l ++ b.starts) now.put ∙ append_assoc before.starts now.starts b.starts;
      next = let x = b.next in let y = now.next in omega arith;
      adds = control_then now.next now.adds added;
      can = rest_can now.can kept (let room = control_room added in omega arith) b.next;
      leads = leads_whole;
    }

pub ordered_all : (kinds : List Kind) (at : ObjectNets) (place : Place) (all : Statements) (start : ℕ) (old new : Circuit) (before after : Started) (ends : Ends)
    → Ordered kinds at all stop start old new before after ends → Builds kinds at (Seq place all) start old new before after ends
unfolding residual sequence sequence_behind
ordered_all kinds at place all start old new before after ends o = record {
  starts = o.starts;
  put = o.put;
  next = let is = o.flops_is in let next = o.next in omega arith;
  adds =
      let few : o.weight ≤ 40 + parts_control kinds 8 all = let le = o.weight_is in omega arith in
      let same : o.flops ≡ list_flops 0 all = let is = o.flops_is in omega arith in
      subst (λ count. AddsControl (40 + parts_control kinds 8 all) before.next count old new) same (control_most few o.adds);
  circuit = leads_circuit o.leads (λ n. ap (λ (x : Residual × ℕ). x.0) (sym (o.left_is n))) (o.zero_is ∙ and_true o.may_pass);
}
  where
    and_true : (a : Bool) → (a && true) ≡ a
    and_true true = refl
    and_true false = refl

-- nothing: what starts passes
pub idle_leads : (kinds : List Kind) (at : ObjectNets) (start : ℕ) (c : Circuit) (ends : Ends) → CanRead kinds at c → ends.pass ≡ at.one → ends.finish ≡ at.zero
    → Leads kinds at (λ n. Skip) true start c.nodes [] ends
idle_leads kinds at start c ends reads pass finish =
    let one : IsAlways c.nodes ends.pass = rw pass reads.places.one in
    let zero : IsNever c.nodes ends.finish = rw finish reads.places.zero in
    record {
      there = (rw pass reads.places.constants.one, rw finish reads.places.constants.zero);
      starts_there = All-nil _;
      count = λ n. refl;
      pass = always_within ends.pass one;
      finish = never_within ends.finish zero;
      never = λ takes. absurd cc;
      follows = λ n c trace h e. (
        λ t. [],
        follows_skip c (λ t. IsRight kinds at (c.world t) (h t)) (λ t. h t start) (λ t. h t ends.pass) (λ t. h t ends.finish)
            (always_holds_true ends.pass one trace h e) (never_holds ends.finish zero trace h e),
      );
    }

pub ordered_none : (kinds : List Kind) (at : ObjectNets) (place : Place) (start : ℕ) (c : Circuit) (before : Started) (ends : Ends) → CanRead kinds at c → ends.pass ≡ at.one → ends.finish ≡ at.zero
    → Builds kinds at (Seq place stop) start c c before before ends
unfolding residual sequence
ordered_none kinds at place start c before ends reads pass finish = record {
  starts = [];
  put = sym (append-nil before.starts);
  next = omega arith;
  adds = control_most (omega arith) (control_none before.next c);
  circuit = leads_circuit (idle_leads kinds at start c ends reads pass finish) (λ n. refl) refl;
}

-- ---- the parts as the code has them

pub parts_can : {kinds : List Kind} {at : ObjectNets} {list : Statements} {start token : ℕ} {c : Circuit} (place : Place) → CanBuild kinds at (Seq place list) start token c
    → CanGoOn kinds at 8 list start token c
parts_can place can = record {
  reads = can.reads;
  there = can.there;
  typed = can.typed;
  built = can.built;
  loops = can.loops;
  labels = can.labels;
  room = let room = can.room in omega arith;
  numbers = let numbers = can.numbers in omega arith;
}

module _ (kinds : List Kind) (at : ObjectNets) (place : Place) (parts behind : List Stmt) (first : Stmt) (start : ℕ) (old : Circuit) (before : Started) (is : parts ≡ first ∷ behind)
    (can : CanBuild kinds at (Seq place (statements parts)) start before.next old) where
  first_here : CanGoOn kinds at 8 (statement first ⨾ statements behind) start before.next old
  first_here = subst (λ l. CanGoOn kinds at 8 l start before.next old) (rest_is parts behind first is) (parts_can place can)

  pub begin_can : CanBuild kinds at (statement first) start before.next old
  begin_can = first_can start first_here (keeps_same old.nodes) (omega arith) can.there

  pub begin_fewer : statement_parts (statement first) ≤ all_parts (statements parts)
  begin_fewer = rw (rest_is parts behind first is) (omega arith)

  pub begin_ordered : (new : Circuit) (after : Started) (ends : Ends) → Builds kinds at (statement first) start old new before after ends
      → Ordered kinds at (statements parts) (statements behind) start old new before after ends
  begin_ordered new after ends b =
      subst (λ l. Ordered kinds at l (statements behind) start old new before after ends) (sym (rest_is parts behind first is))
      (ordered_first kinds at (statement first) (statements behind) start old new before after ends first_here b)

module _ (kinds : List Kind) (at : ObjectNets) (all : Statements) (rest behind : List Stmt) (next : Stmt) (start begin : ℕ) (old front mid : Circuit) (before after : Started) (ends : Ends)
    (is : rest ≡ next ∷ behind) (now : Ordered kinds at all (statements rest) start old front before after ends)
    (made : Makes 2 (ends.finish ∷ start ∷ ends.pass ∷ []) front mid (begin ∷ []) (λ v. v begin ≡ (v ends.finish || (v start && v ends.pass)))) where
  next_here : Ordered kinds at all (statement next ⨾ statements behind) start old front before after ends
  next_here = subst (λ l. Ordered kinds at all l start old front before after ends) (rest_is rest behind next is) now

  pub step_can : CanBuild kinds at (statement next) begin after.next mid
  step_can = next_can kinds at all (statement next) (statements behind) start begin old front mid before after ends next_here made

  pub step_fewer : statement_parts (statement next) ≤ all_parts all
  step_fewer = let few = next_here.fewer in omega arith

  module _ (built : Circuit) (later : Started) (ends_next : Ends) (b : Builds kinds at (statement next) begin mid built after later ends_next) where
    pub step_room : length built.nodes + 3 < 2 ^ 32
    step_room =
        let room = next_here.can.room in
        let gates = Adds-room made.adds in
        let control = control_room b.adds in
        omega arith

    pub step_ordered : (new : Circuit) (whole : Ends)
        → Controls 3 0 0 (ends.pass ∷ ends_next.pass ∷ []) (ends_next.finish ∷ ends.finish ∷ ends_next.pass ∷ []) built new whole (circuits.Follows ends ends_next whole)
        → (IsNever built.nodes ends.pass ⊎ IsNever built.nodes ends_next.pass → IsNever new.nodes whole.pass)
        → Ordered kinds at all (statements behind) start old new before later whole
    step_ordered new whole c never =
        ordered_next kinds at all (statement next) (statements behind) start begin old front mid before after ends next_here made built new later ends_next whole b c never

pub end_built : (kinds : List Kind) (at : ObjectNets) (all : Statements) (rest : List Stmt) (start : ℕ) (old new : Circuit) (before after : Started) (ends : Ends) → length rest < 1
    → Ordered kinds at all (statements rest) start old new before after ends → (place : Place) → Builds kinds at (Seq place all) start old new before after ends
end_built kinds at all rest start old new before after ends none o place =
    ordered_all kinds at place all start old new before after ends
    (subst (λ l. Ordered kinds at all l start old new before after ends) (ap statements (is_empty rest none) ∙ read_no_statement) o)

pub none_built : (kinds : List Kind) (at : ObjectNets) (parts : List Stmt) (start : ℕ) (c : Circuit) (before : Started) (ends : Ends) → length parts < 1 → CanRead kinds at c
    → ends.pass ≡ at.one → ends.finish ≡ at.zero → (place : Place) → Builds kinds at (Seq place (statements parts)) start c c before before ends
none_built kinds at parts start c before ends none reads pass finish place =
    subst (λ l. Builds kinds at (Seq place l) start c c before before ends) (sym (ap statements (is_empty parts none) ∙ read_no_statement))
    (ordered_none kinds at place start c before ends reads pass finish)
