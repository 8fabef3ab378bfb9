-- The control of the arms of a `switch`, arm by arm.
use Rattle.std.proofs.Common.{◌≡◌, ◌<◌, ◌≤◌, ◌⊎◌, ℕ, zero, suc, ◌+◌, ◌^◌, List, [], ◌∷◌, ◌++◌, length, map, drop, get_or, Bool, true, false, not, ◌&&◌, ◌||◌, Some, refl, ap, sym, ◌∙◌, subst, inr, arith, append_assoc, length-append, if◌then◌else◌}
use Rattle.std.specs.Prelude.{All, slice_get}
use Rattle.std.proofs.lemmas.List.{append-nil, map_push, drop_more, get_or_default}
use Rattle.std.proofs.lemmas.List.Elements.{All-nil, All-tail, All-append, All-weaker}
use Rattle.hc_num.specs.Number.{Number}
use Rattle.hc_core.specs.Program.{Statement, Arms, no_arm, arm}
use Rattle.hc_core.specs.Parts.{statement_parts, arms_parts}
use Rattle.hc_core.specs.Read.{statement as read, arms as read_arms}
use Rattle.hc_core.specs.Weight.{statement_flops, arms_flops}
use Rattle.hc_core.specs.Zero.{zero as may_pass, some_zero, has_default}
use Rattle.hc_core.specs.declared.object.Kind.{Kind}
use Rattle.hc_core.specs.declared.stmt.Arm.{Arm}
use Rattle.hc_core.proofs.Read as reading
use Rattle.hc_meaning.specs.Residual.{residual, arms_left}
use Rattle.hc_meaning.specs.Control.{Leaf}
use Rattle.hc_net.specs.Circuit.{Circuit, Explains}
use Rattle.hc_net.specs.Frame.{Keeps, keeps_then, keeps_gates, keeps_within}
use Rattle.hc_net.specs.Run.{Trace}
use Rattle.hc_net.specs.Made.{Makes}
use Rattle.hc_net.specs.MadeLemmas.{Over-within, Adds-room}
use Rattle.hc_net.specs.Seal.{Within}
use Rattle.hc_net.specs.declared.node.Node.{Node}
use Rattle.hc_token.specs.Control.{IsNever}
use Rattle.hc_token.specs.Kept.{there_kept, all_there_kept, never_kept}
use Rattle.hc_token.specs.declared.ends.Ends.{Ends}
use Rattle.hc_token.proofs.Parts.{All-two}
use Rattle.hc_value.specs.declared.objects.ObjectNets.{ObjectNets}
use Rattle.hc_control.specs.Building.{CanBuild, Builds, AddsControl}
use Rattle.hc_control.specs.Lists.{ArmWires, FollowArms, some_pass, some_finish, arms_enabled}
use Rattle.hc_control.specs.Right.{CanRead, IsRight}
use Rattle.hc_control.specs.Starts.{leaves, leaves_of_arms, selected}
use Rattle.hc_control.specs.Taking.{marked, take_weight, CanTake, Takes, CanTakeOne, TakesOne}
use Rattle.hc_control.specs.Token.{Clocks}
use Rattle.hc_control.specs.Weighs.{control_weight}
use Rattle.hc_control.specs.declared.started.Started.{Started}
use Rattle.hc_control.proofs.Adding.{keeps_control, circuit_kept, reads_kept, never_within, never_holds, control_none, control_most, control_then, control_behind_gates, gates_behind_control, control_room, selected_starts}
use Rattle.hc_control.proofs.Buildable.{IsBuildable, ArmsBuildable, first_arm_buildable, rest_arms_buildable}
use Rattle.hc_control.proofs.Choosing.{or_assoc, or_parts}
use Rattle.hc_control.proofs.Selectors.{arms_at, arms_past}
use Rattle.hc_control.proofs.Steps.{or_false}

-- ---- one arm

-- what it takes to build the body of an arm, behind the gate of its start
pub can_build_body : (kinds : List Kind) (at : ObjectNets) (s : Statement) (start chosen token begin : ℕ) (old one : Circuit) {holds : (ℕ → Bool) → Type 0}
    → CanTakeOne kinds at s start chosen token old → Makes 1 (start ∷ chosen ∷ []) old one (begin ∷ []) holds → CanBuild kinds at s begin token one
can_build_body kinds at s start chosen token begin old one can made = record {
  reads = reads_kept (keeps_gates made.adds) can.reads;
  there = made.there 0 0 (omega arith);
  typed = can.typed;
  built = can.built;
  loops = can.loops;
  labels = can.labels;
  room = let room = can.room in omega (arith, Adds-room made.adds);
  numbers = can.numbers;
}

pub taken_one : (kinds : List Kind) (at : ObjectNets) (s : Statement) (start chosen begin pass : ℕ) (body : Ends) (old one two new : Circuit) (before after : Started)
    → Within old.nodes 0 chosen
    → Makes 1 (start ∷ chosen ∷ []) old one (begin ∷ []) (λ v. v begin ≡ (v start && v chosen))
    → Builds kinds at s begin one two before after body
    → Makes 1 (chosen ∷ body.pass ∷ []) two new (pass ∷ []) (λ v. v pass ≡ (v chosen && v body.pass))
    → (IsNever two.nodes chosen ⊎ IsNever two.nodes body.pass → IsNever new.nodes pass)
    → TakesOne kinds at s start chosen old new before after (record { pass = pass; finish = body.finish })
taken_one kinds at s start chosen begin pass body old one two new before after low first built last never =
    let keeps_first = keeps_gates first.adds in
    let keeps_body = keeps_control built.adds in
    let keeps_last = keeps_gates last.adds in
    let circuit = circuit_kept keeps_last built.circuit in
    let chosen_low : Within new.nodes 0 chosen = keeps_within keeps_last chosen (keeps_within keeps_body chosen (keeps_within keeps_first chosen low)) in
    record {
      starts = built.starts;
      put = built.put;
      next = built.next;
      adds = control_most (omega arith) (gates_behind_control (control_behind_gates first.adds built.adds) last.adds);
      there = (last.there 0 0 (omega arith), circuit.there.1);
      starts_there = circuit.starts_there;
      count = circuit.count;
      pass = Over-within (All-two (Within new.nodes 0) chosen body.pass chosen_low circuit.pass) (last.reach 0 0 (omega arith));
      finish = circuit.finish;
      never = λ takes. never (inr (built.circuit.never takes));
      begin = begin;
      body = body;
      finish_is = refl;
      begins = λ trace h e t. first.value trace h (keeps_body.earlier trace h (keeps_last.earlier trace h e)) t;
      passes = λ trace h e t. last.value trace h e t;
      follows = circuit.follows;
    }

-- ---- the arms so far

-- In a history the wires of the arms before the last ones of a list, and what they say of all of the list.
pub record FollowSome (kinds : List Kind) (at : ObjectNets) (all rest : Arms) (start : ℕ) (nets others : List ℕ) (otherwise : ℕ) (defaulted : Bool) (starts : List ℕ) (front : List Leaf) (ends : Ends) (n m : ℕ)
    (c : Clocks) (h : ℕ → ℕ → Bool) : Type 0 where
  pub wires : List ArmWires
  pub follow : (more : List ArmWires) → FollowArms c (λ t. IsRight kinds at (c.world t) (h t)) (arms_left rest m).0 more
      → FollowArms c (λ t. IsRight kinds at (c.world t) (h t)) (arms_left all n).0 (wires ++ more)
  pub chooses : (t : ℕ) → map (λ x. x.chosen t) wires ++ marked (map (h t) others) (h t otherwise) defaulted rest ≡ marked (map (h t) nets) (h t otherwise) false all
  pub begins : (t i : ℕ) (x : ArmWires) → slice_get wires i ≡ Some x → x.start t ≡ (h t start && x.chosen t)
  pub passes : (t : ℕ) → h t ends.pass ≡ some_pass wires t
  pub finishes : (t : ℕ) → h t ends.finish ≡ some_finish wires t
  pub enables : (t : ℕ) → arms_enabled wires t ≡ selected (map (h t) starts) front

-- The control of the arms before the last ones of a list was built, and there is room for that of the others.
pub record TakesSome (kinds : List Kind) (at : ObjectNets) (all rest : Arms) (start : ℕ) (nets others : List ℕ) (otherwise : ℕ) (defaulted : Bool) (old new : Circuit) (before after : Started) (ends : Ends) : Type 0 where
  pub starts : List ℕ
  pub most : ℕ
  pub flops : ℕ
  pub may : Bool
  pub behind : ℕ → ℕ
  pub front : ℕ → List Leaf
  pub width : ℕ
  pub signed : Bool
  pub is : ArmsBuildable kinds width signed rest
  pub reads : CanRead kinds at new
  pub start_there : start < length new.nodes
  pub nets_there : All (λ k. (k < length new.nodes) × Within new.nodes 0 k) others
  pub otherwise_there : (otherwise < length new.nodes) × Within new.nodes 0 otherwise
  pub room : length new.nodes + (take_weight kinds rest + arms_flops rest) < 2 ^ 32
  pub numbers : after.next + arms_flops rest < 2 ^ 32
  pub put : after.starts ≡ before.starts ++ starts
  pub next : after.next ≡ before.next + flops
  pub flops_are : flops + arms_flops rest ≡ arms_flops all
  pub most_is : most + take_weight kinds rest ≡ take_weight kinds all
  pub adds : AddsControl most before.next flops old new
  pub there : (ends.pass < length new.nodes) × (ends.finish < length new.nodes)
  pub starts_there : All (λ k. k < length new.nodes) starts
  pub pass : Within new.nodes 0 ends.pass
  pub finish : Within new.nodes 0 ends.finish
  pub zeros : (may || some_zero rest) ≡ some_zero all
  pub never : may ≡ false → IsNever new.nodes ends.pass
  pub defaults : (defaulted || has_default rest) ≡ has_default all
  pub count : (n : ℕ) → length starts ≡ length (front n)
  pub leaves_are : (n : ℕ) → leaves_of_arms (arms_left all n).0 ≡ front n ++ leaves_of_arms (arms_left rest (behind n)).0
  pub follows : (n : ℕ) (c : Clocks) (trace : Trace) (h : _) → Explains new.nodes trace h
      → FollowSome kinds at all rest start nets others otherwise defaulted starts (front n) ends n (behind n) c h

-- before the first arm
pub takes_none : (kinds : List Kind) (at : ObjectNets) (all : Arms) (start : ℕ) (nets : List ℕ) (otherwise : ℕ) (old : Circuit) (before : Started) → CanTake kinds at all start before.next nets otherwise old
    → TakesSome kinds at all all start nets nets otherwise false old old before before (record { pass = at.zero; finish = at.zero })
takes_none kinds at all start nets otherwise old before can =
    let never : IsNever old.nodes at.zero = can.reads.places.zero in
    let there : at.zero < length old.nodes = can.reads.places.constants.zero in
    record {
      starts = [];
      most = 0;
      flops = 0;
      may = false;
      behind = λ n. n;
      front = λ n. [];
      width = can.typed.0;
      signed = can.typed.1;
      is = record { typed = can.typed.2; built = can.built; loops = can.loops; labels = can.labels };
      reads = can.reads;
      start_there = can.there;
      nets_there = can.nets_there;
      otherwise_there = can.otherwise_there;
      room = can.room;
      numbers = can.numbers;
      put = sym (append-nil before.starts);
      next = omega arith;
      flops_are = omega arith;
      most_is = omega arith;
      adds = control_none before.next old;
      there = (there, there);
      starts_there = All-nil (λ k. k < length old.nodes);
      pass = never_within at.zero never;
      finish = never_within at.zero never;
      zeros = refl;
      never = λ takes. never;
      defaults = refl;
      count = λ n. refl;
      leaves_are = λ n. refl;
      follows = λ n c trace h e. record {
        wires = [];
        follow = λ more f. f;
        chooses = λ t. refl;
        begins = λ t i x is. absurd cc;
        passes = λ t. never_holds at.zero never trace h e t;
        finishes = λ t. never_holds at.zero never trace h e t;
        enables = λ t. refl;
      };
    }

-- ---- one arm more

pass_more : (wires : List ArmWires) (x : ArmWires) (t : ℕ) → some_pass (wires ++ x ∷ []) t ≡ (some_pass wires t || (x.chosen t && x.pass t))
pass_more [] x t = or_false (x.chosen t && x.pass t)
pass_more (y ∷ wires) x t = ap (λ b. (y.chosen t && y.pass t) || b) (pass_more wires x t) ∙ sym (or_assoc (y.chosen t && y.pass t) (some_pass wires t) (x.chosen t && x.pass t))

finish_more : (wires : List ArmWires) (x : ArmWires) (t : ℕ) → some_finish (wires ++ x ∷ []) t ≡ (some_finish wires t || x.finish t)
finish_more [] x t = or_false (x.finish t)
finish_more (y ∷ wires) x t = ap (λ b. y.finish t || b) (finish_more wires x t) ∙ sym (or_assoc (y.finish t) (some_finish wires t) (x.finish t))

enabled_more : (wires : List ArmWires) (x : ArmWires) (t : ℕ) → arms_enabled (wires ++ x ∷ []) t ≡ arms_enabled wires t ++ x.enabled t
enabled_more [] x t = append-nil (x.enabled t)
enabled_more (y ∷ wires) x t = ap (λ l. y.enabled t ++ l) (enabled_more wires x t) ∙ sym (append_assoc (y.enabled t) (arms_enabled wires t) (x.enabled t))

begins_more : (P : ArmWires → Type 0) (wires : List ArmWires) (y : ArmWires) → ((i : ℕ) (x : ArmWires) → slice_get wires i ≡ Some x → P x) → P y
    → (i : ℕ) (x : ArmWires) → slice_get (wires ++ y ∷ []) i ≡ Some x → P x
begins_more P [] y all here zero x is = subst P (let e : y ≡ x = cc in e) here
begins_more P [] y all here (suc i) x is = absurd cc
begins_more P (z ∷ wires) y all here zero x is = all zero x is
begins_more P (z ∷ wires) y all here (suc i) x is = begins_more P wires y (λ j w at. all (suc j) w at) here i x is

others_kept : {old new : List Node} → Keeps old new → (net : ℕ) (more : List ℕ) → All (λ k. (k < length old) × Within old 0 k) (net ∷ more) → All (λ k. (k < length new) × Within new 0 k) more
others_kept {old} {new} keeps net more all =
    All-weaker (λ k. (k < length old) × Within old 0 k) (λ k. (k < length new) × Within new 0 k) (λ k h. (there_kept keeps k h.0, keeps_within keeps k h.1)) more
    (All-tail (λ k. (k < length old) × Within old 0 k) net more all)

pub takes_more : (kinds : List Kind) (at : ObjectNets) (all behind : Arms) (values : List Number) (other : Bool) (body : Statement) (start net otherwise chosen : ℕ) (nets more : List ℕ) (defaulted : Bool)
    (old now one two new : Circuit) (before mid after : Started) (whole ends next : Ends)
    → TakesSome kinds at all (arm values other body behind) start nets (net ∷ more) otherwise defaulted old now before mid whole
    → Makes 1 (net ∷ otherwise ∷ []) now one (chosen ∷ []) (λ v. v chosen ≡ (if other && not defaulted then v net || v otherwise else v net))
    → TakesOne kinds at body start chosen one two mid after ends
    → Makes 2 (whole.pass ∷ ends.pass ∷ whole.finish ∷ ends.finish ∷ []) two new (next.pass ∷ next.finish ∷ [])
    (λ v. (v next.pass ≡ (v whole.pass || v ends.pass)) × (v next.finish ≡ (v whole.finish || v ends.finish)))
    → (IsNever two.nodes whole.pass → IsNever two.nodes ends.pass → IsNever new.nodes next.pass)
    → TakesSome kinds at all behind start nets more otherwise (defaulted || other) old new before after next
unfolding arms_left residual
takes_more kinds at all behind values other body start net otherwise chosen nets more defaulted old now one two new before mid after whole ends next so selects taken joins never =
    let keeps_chosen = keeps_gates selects.adds in
    let keeps_arm = keeps_control taken.adds in
    let keeps_join = keeps_gates joins.adds in
    let keeps_two = keeps_then keeps_chosen keeps_arm in
    let keeps = keeps_then keeps_two keeps_join in
    let lows : All (Within new.nodes 0) (whole.pass ∷ ends.pass ∷ whole.finish ∷ ends.finish ∷ []) =
    All-append (Within new.nodes 0) (whole.pass ∷ ends.pass ∷ []) (whole.finish ∷ ends.finish ∷ [])
    (All-two (Within new.nodes 0) whole.pass ends.pass (keeps_within keeps whole.pass so.pass) (keeps_within keeps_join ends.pass taken.pass))
    (All-two (Within new.nodes 0) whole.finish ends.finish (keeps_within keeps whole.finish so.finish) (keeps_within keeps_join ends.finish taken.finish)) in
    record {
      starts = so.starts ++ taken.starts;
      most = so.most + (5 + control_weight kinds body);
      flops = so.flops + statement_flops body;
      may = so.may || may_pass body;
      behind = λ n. (residual body (so.behind n)).1;
      front = λ n. so.front n ++ leaves (residual body (so.behind n)).0;
      width = so.width;
      signed = so.signed;
      is = rest_arms_buildable values other body behind so.is;
      reads = reads_kept keeps so.reads;
      start_there = there_kept keeps start so.start_there;
      nets_there = others_kept keeps net more so.nets_there;
      otherwise_there = (there_kept keeps otherwise so.otherwise_there.0, keeps_within keeps otherwise so.otherwise_there.1);
      room = let room = so.room in omega (arith, Adds-room selects.adds, control_room taken.adds, Adds-room joins.adds);
      numbers = let numbers = so.numbers in let n = taken.next in omega arith;
      put = taken.put ∙ ap (λ l. l ++ taken.starts) so.put ∙ append_assoc before.starts so.starts taken.starts;
      next = let a = so.next in let b = taken.next in omega arith;
      flops_are = let a = so.flops_are in omega arith;
      most_is = let a = so.most_is in omega arith;
      adds = control_most (omega arith) (gates_behind_control (control_then so.next so.adds (control_behind_gates selects.adds taken.adds)) joins.adds);
      there = (joins.there 0 0 (omega arith), joins.there 1 0 (omega arith));
      starts_there = All-append (λ k. k < length new.nodes) so.starts taken.starts (all_there_kept keeps so.starts so.starts_there) (all_there_kept keeps_join taken.starts taken.starts_there);
      pass = Over-within lows (joins.reach 0 0 (omega arith));
      finish = Over-within lows (joins.reach 1 0 (omega arith));
      zeros = or_assoc so.may (may_pass body) (some_zero behind) ∙ so.zeros;
      never = λ none.
          let both = or_parts so.may (may_pass body) none in
          never (never_kept keeps_two whole.pass (so.never both.0)) (taken.never both.1);
      defaults = or_assoc defaulted other (has_default behind) ∙ so.defaults;
      count = λ n.
          let a = so.count n in
          let b = taken.count (so.behind n) in
          omega (arith, length-append so.starts taken.starts, length-append (so.front n) (leaves (residual body (so.behind n)).0));
      leaves_are = λ n.
          so.leaves_are n ∙ sym (append_assoc (so.front n) (leaves (residual body (so.behind n)).0) (leaves_of_arms (arms_left behind (residual body (so.behind n)).1).0));
      follows = λ n c trace h e.
          let e_two = keeps_join.earlier trace h e in
          let e_one = keeps_arm.earlier trace h e_two in
          let e_now = keeps_chosen.earlier trace h e_one in
          let f = so.follows n c trace h e_now in
          let g = taken.follows (so.behind n) c trace h e_two in
          let x : ArmWires = record {
            chosen = λ t. h t chosen;
            start = λ t. h t taken.begin;
            pass = λ t. h t taken.body.pass;
            finish = λ t. h t taken.body.finish;
            enabled = λ t. selected (map (h t) taken.starts) (leaves (residual body (so.behind n)).0);
            tested = g.0;
          } in
          record {
            wires = f.wires ++ x ∷ [];
            follow = λ more_wires rest.
                subst (λ (l : List ArmWires). FollowArms c (λ t. IsRight kinds at (c.world t) (h t)) (arms_left all n).0 l) (sym (append_assoc f.wires (x ∷ []) more_wires))
                (f.follow (x ∷ more_wires) (g.1, rest));
            chooses = λ t.
                ap (λ l. l ++ marked (map (h t) more) (h t otherwise) (defaulted || other) behind) (map_push (λ (y : ArmWires). y.chosen t) f.wires x)
                ∙ append_assoc (map (λ (y : ArmWires). y.chosen t) f.wires) (h t chosen ∷ []) (marked (map (h t) more) (h t otherwise) (defaulted || other) behind)
                ∙ ap (λ b. map (λ (y : ArmWires). y.chosen t) f.wires ++ b ∷ marked (map (h t) more) (h t otherwise) (defaulted || other) behind) (selects.value trace h e_one t)
                ∙ f.chooses t;
            begins = λ t. begins_more (λ (y : ArmWires). y.start t ≡ (h t start && y.chosen t)) f.wires x (f.begins t) (taken.begins trace h e_two t);
            passes = λ t.
                (joins.value trace h e t).0 ∙ ap (λ b. b || h t ends.pass) (f.passes t) ∙ ap (λ b. some_pass f.wires t || b) (taken.passes trace h e_two t)
                ∙ sym (pass_more f.wires x t);
            finishes = λ t.
                (joins.value trace h e t).1 ∙ ap (λ b. b || h t ends.finish) (f.finishes t) ∙ ap (λ k. some_finish f.wires t || h t k) taken.finish_is
                ∙ sym (finish_more f.wires x t);
            enables = λ t.
                enabled_more f.wires x t ∙ ap (λ l. l ++ x.enabled t) (f.enables t)
                ∙ sym (selected_starts (h t) so.starts taken.starts (so.front n) (leaves (residual body (so.behind n)).0) (so.count n));
          };
    }

-- what it takes to take the next arm
pub next_can : (kinds : List Kind) (at : ObjectNets) (all behind : Arms) (values : List Number) (other : Bool) (body : Statement) (start net otherwise chosen : ℕ) (nets more : List ℕ) (defaulted : Bool)
    (old now one : Circuit) (before mid : Started) (whole : Ends) {holds : (ℕ → Bool) → Type 0}
    → TakesSome kinds at all (arm values other body behind) start nets (net ∷ more) otherwise defaulted old now before mid whole
    → Makes 1 (net ∷ otherwise ∷ []) now one (chosen ∷ []) holds
    → CanTakeOne kinds at body start chosen mid.next one
next_can kinds at all behind values other body start net otherwise chosen nets more defaulted old now one before mid whole so selects =
    let keeps = keeps_gates selects.adds in
    let is : IsBuildable kinds body = first_arm_buildable values other body behind so.is in
    let net_there : (net < length now.nodes) × Within now.nodes 0 net = so.nets_there 0 0 (omega arith) in
    record {
      reads = reads_kept keeps so.reads;
      there = there_kept keeps start so.start_there;
      chosen_there = (
        selects.there 0 0 (omega arith),
        Over-within (All-two (Within one.nodes 0) net otherwise (keeps_within keeps net net_there.1) (keeps_within keeps otherwise so.otherwise_there.1)) (selects.reach 0 0 (omega arith)),
      );
      typed = is.typed;
      built = is.built;
      loops = is.loops;
      labels = is.labels;
      room = let room = so.room in omega (arith, Adds-room selects.adds, take_least behind);
      numbers = let numbers = so.numbers in omega arith;
    }
  where
    take_least : (rest : Arms) → 1 ≤ take_weight kinds rest
    take_least no_arm = omega arith
    take_least (arm values other body rest) = omega (arith, take_least rest)

-- ---- all arms

-- marks stop where arms do
marked_none : (bits : List Bool) (otherwise defaulted : Bool) → marked bits otherwise defaulted no_arm ≡ []
marked_none [] otherwise defaulted = refl
marked_none (b ∷ bits) otherwise defaulted = refl

pub takes_defaulted : (kinds : List Kind) (at : ObjectNets) (all : Arms) (start otherwise : ℕ) (nets others : List ℕ) (old new : Circuit) (before after : Started) (ends : Ends)
    → TakesSome kinds at all no_arm start nets others otherwise true old new before after ends → Takes kinds at all start nets otherwise old new before after ends
unfolding arms_left
takes_defaulted kinds at all start otherwise nets others old new before after ends so =
    let flops : so.flops ≡ arms_flops all = let a = so.flops_are in omega arith in
    record {
      starts = so.starts;
      put = so.put;
      next = let a = so.next in omega arith;
      adds = subst (λ (k : ℕ). AddsControl (take_weight kinds all) before.next k old new) flops (control_most (let a = so.most_is in omega arith) so.adds);
      there = so.there;
      starts_there = so.starts_there;
      count = λ n. so.count n ∙ sym (ap length (so.leaves_are n ∙ append-nil (so.front n)));
      pass = so.pass;
      finish = so.finish;
      never = λ none has. so.never (sym (or_false so.may) ∙ so.zeros ∙ none);
      follows = λ n c trace h e. let f = so.follows n c trace h e in record {
        wires = f.wires;
        follow = subst (λ (l : List ArmWires). FollowArms c (λ t. IsRight kinds at (c.world t) (h t)) (arms_left all n).0 l) (append-nil f.wires) (f.follow [] tt);
        chooses = λ t. sym (append-nil _) ∙ ap (λ l. map (λ (y : ArmWires). y.chosen t) f.wires ++ l) (sym (marked_none (map (h t) others) (h t otherwise) true)) ∙ f.chooses t;
        begins = f.begins;
        passes = λ t. f.passes t ∙ sym (ap (λ b. some_pass f.wires t || (not b && h t otherwise)) (sym so.defaults) ∙ or_false (some_pass f.wires t));
        finishes = f.finishes;
        enables = λ t. f.enables t ∙ ap (selected (map (h t) so.starts)) (sym (so.leaves_are n ∙ append-nil (so.front n)));
      };
    }

pub takes_otherwise : (kinds : List Kind) (at : ObjectNets) (all : Arms) (start otherwise pass : ℕ) (nets others : List ℕ) (old now new : Circuit) (before after : Started) (ends : Ends)
    → TakesSome kinds at all no_arm start nets others otherwise false old now before after ends
    → Makes 1 (ends.pass ∷ otherwise ∷ []) now new (pass ∷ []) (λ v. v pass ≡ (v ends.pass || v otherwise))
    → Takes kinds at all start nets otherwise old new before after (record { pass = pass; finish = ends.finish })
unfolding arms_left
takes_otherwise kinds at all start otherwise pass nets others old now new before after ends so joins =
    let keeps = keeps_gates joins.adds in
    let flops : so.flops ≡ arms_flops all = let a = so.flops_are in omega arith in
    record {
      starts = so.starts;
      put = so.put;
      next = let a = so.next in omega arith;
      adds = subst (λ (k : ℕ). AddsControl (take_weight kinds all) before.next k old new) flops (control_most (let a = so.most_is in omega arith) (gates_behind_control so.adds joins.adds));
      there = (joins.there 0 0 (omega arith), there_kept keeps ends.finish so.there.1);
      starts_there = all_there_kept keeps so.starts so.starts_there;
      count = λ n. so.count n ∙ sym (ap length (so.leaves_are n ∙ append-nil (so.front n)));
      pass = Over-within (All-two (Within new.nodes 0) ends.pass otherwise (keeps_within keeps ends.pass so.pass) (keeps_within keeps otherwise so.otherwise_there.1)) (joins.reach 0 0 (omega arith));
      finish = keeps_within keeps ends.finish so.finish;
      never = λ none has. let e : false ≡ true = so.defaults ∙ has in absurd cc;
      follows = λ n c trace h e. let f = so.follows n c trace h (keeps.earlier trace h e) in record {
        wires = f.wires;
        follow = subst (λ (l : List ArmWires). FollowArms c (λ t. IsRight kinds at (c.world t) (h t)) (arms_left all n).0 l) (append-nil f.wires) (f.follow [] tt);
        chooses = λ t. sym (append-nil _) ∙ ap (λ l. map (λ (y : ArmWires). y.chosen t) f.wires ++ l) (sym (marked_none (map (h t) others) (h t otherwise) false)) ∙ f.chooses t;
        begins = f.begins;
        passes = λ t. joins.value trace h e t ∙ ap (λ b. b || h t otherwise) (f.passes t) ∙ ap (λ b. some_pass f.wires t || (not b && h t otherwise)) so.defaults;
        finishes = f.finishes;
        enables = λ t. f.enables t ∙ ap (selected (map (h t) so.starts)) (sym (so.leaves_are n ∙ append-nil (so.front n)));
      };
    }

-- ---- arms by their index

-- The next arm by its index, and its net.
pub at_arm : (kinds : List Kind) (at : ObjectNets) (all : Arms) (list : List Arm) (i : ℕ) (d : Arm) (start otherwise : ℕ) (nets : List ℕ) (defaulted : Bool) (old now : Circuit) (before mid : Started) (whole : Ends)
    → i < length list → length nets ≡ length list
    → TakesSome kinds at all (read_arms (drop i list)) start nets (drop i nets) otherwise defaulted old now before mid whole
    → TakesSome kinds at all (arm (get_or list i d).values (get_or list i d).other (read (get_or list i d).body) (read_arms (drop (i + 1) list))) start nets (get_or nets i 0 ∷ drop (i + 1) nets) otherwise defaulted
    old now before mid whole
at_arm kinds at all list i d start otherwise nets defaulted old now before mid whole within size so =
    subst (λ (r : Arms). TakesSome kinds at all r start nets (get_or nets i 0 ∷ drop (i + 1) nets) otherwise defaulted old now before mid whole) (arms_at list i d within)
    (subst (λ (l : List ℕ). TakesSome kinds at all (read_arms (drop i list)) start nets l otherwise defaulted old now before mid whole) (drop_more nets i 0 (omega (arith, size))) so)

-- no arm is left
pub past_arms : (kinds : List Kind) (at : ObjectNets) (all : Arms) (list : List Arm) (i start otherwise : ℕ) (nets : List ℕ) (defaulted : Bool) (old now : Circuit) (before mid : Started) (whole : Ends)
    → length list ≤ i → TakesSome kinds at all (read_arms (drop i list)) start nets (drop i nets) otherwise defaulted old now before mid whole
    → TakesSome kinds at all no_arm start nets (drop i nets) otherwise defaulted old now before mid whole
past_arms kinds at all list i start otherwise nets defaulted old now before mid whole past so =
    subst (λ (r : Arms). TakesSome kinds at all r start nets (drop i nets) otherwise defaulted old now before mid whole) (arms_past list i past) so

-- the body of an arm has fewer parts than all arms
pub body_fewer : (list : List Arm) (i : ℕ) (d : Arm) → i < length list → statement_parts (read (get_or list i d).body) ≤ arms_parts (read_arms list)
body_fewer [] i d within = absurd (omega (arith, within))
body_fewer (first ∷ rest) zero d within = let e = ap arms_parts (reading.read_arms first rest) in omega arith
body_fewer (first ∷ rest) (suc i) d within = let e = ap arms_parts (reading.read_arms first rest) in omega (arith, body_fewer rest i d (omega (arith, within)))

-- there is room for five gates more before each arm, and for one behind the last
pub arm_room : (kinds : List Kind) (at : ObjectNets) (all behind : Arms) (values : List Number) (other : Bool) (body : Statement) (start otherwise : ℕ) (nets others : List ℕ) (defaulted : Bool)
    (old now : Circuit) (before mid : Started) (whole : Ends) → TakesSome kinds at all (arm values other body behind) start nets others otherwise defaulted old now before mid whole
    → length now.nodes + (5 + control_weight kinds body + statement_flops body) < 2 ^ 32
arm_room kinds at all behind values other body start otherwise nets others defaulted old now before mid whole so = let room = so.room in omega arith

pub last_room : (kinds : List Kind) (at : ObjectNets) (all : Arms) (start otherwise : ℕ) (nets others : List ℕ) (defaulted : Bool)
    (old now : Circuit) (before mid : Started) (whole : Ends) → TakesSome kinds at all no_arm start nets others otherwise defaulted old now before mid whole → length now.nodes + 1 < 2 ^ 32
last_room kinds at all start otherwise nets others defaulted old now before mid whole so = let room = so.room in omega arith

-- the net by which an arm is chosen, whichever list names it
pub same_net : (xs ys : List ℕ) (i otherwise z : ℕ) (old new : Circuit) (b d : Bool) → xs ≡ ys → b ≡ d
    → Makes 1 (get_or xs i 0 ∷ otherwise ∷ []) old new (z ∷ []) (λ v. v z ≡ (if b then v (get_or xs i 0) || v otherwise else v (get_or xs i 0)))
    → Makes 1 (get_or ys i 0 ∷ otherwise ∷ []) old new (z ∷ []) (λ v. v z ≡ (if d then v (get_or ys i 0) || v otherwise else v (get_or ys i 0)))
same_net xs ys i otherwise z old new b d same is made =
    subst (λ (a : Bool). Makes 1 (get_or ys i 0 ∷ otherwise ∷ []) old new (z ∷ []) (λ v. v z ≡ (if a then v (get_or ys i 0) || v otherwise else v (get_or ys i 0)))) is
    (subst (λ (l : List ℕ). Makes 1 (get_or l i 0 ∷ otherwise ∷ []) old new (z ∷ []) (λ v. v z ≡ (if b then v (get_or l i 0) || v otherwise else v (get_or l i 0)))) same made)

-- whether an arm has the label `default`, whichever arm stands for one that isn't there
pub same_other : (list : List Arm) (i : ℕ) (d e : Arm) (b : Bool) → i < length list → (get_or list i d).other ≡ b → (get_or list i e).other ≡ b
same_other list i d e b within is = ap (λ (a : Arm). a.other) (get_or_default list i e d within) ∙ is

-- whether an arm had the label `default`, by another name
pub flag_is : (kinds : List Kind) (at : ObjectNets) (all rest : Arms) (start otherwise : ℕ) (nets others : List ℕ) (b d : Bool) (old now : Circuit) (before mid : Started) (whole : Ends) → b ≡ d
    → TakesSome kinds at all rest start nets others otherwise b old now before mid whole → TakesSome kinds at all rest start nets others otherwise d old now before mid whole
flag_is kinds at all rest start otherwise nets others b d old now before mid whole is so =
    subst (λ (a : Bool). TakesSome kinds at all rest start nets others otherwise a old now before mid whole) is so
