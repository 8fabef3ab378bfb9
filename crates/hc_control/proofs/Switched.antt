-- Which arms a selector takes, and the control of a `switch`.
use Rattle.std.proofs.Common.{◌≡◌, ◌<◌, ◌≤◌, ℕ, ◌+◌, ◌*◌, ◌^◌, List, [], ◌∷◌, ◌++◌, length, map, Bool, true, false, not, ◌==◌, ◌&&◌, ◌||◌, refl, ap, sym, ◌∙◌, inl, inr, arith, if◌then◌else◌}
use Rattle.std.specs.Prelude.{All}
use Rattle.std.specs.List.{list_any}
use Rattle.std.proofs.lemmas.Bool.Decides.{eqb_tells}
use Rattle.std.proofs.lemmas.List.Elements.{All-cons, All-weaker}
use Rattle.hc_tree.specs.declared.place.Place.{Place}
use Rattle.hc_num.specs.Number.{Number}
use Rattle.hc_core.specs.Program.{Expression, Switch, Arms, no_arm, arm}
use Rattle.hc_core.specs.Sound.{HasType, ArmsTyped}
use Rattle.hc_core.specs.Typed.{HasSomeType, IsNumber, width_of, sign_of}
use Rattle.hc_core.specs.Weight.{expression_weight}
use Rattle.hc_core.specs.Zero.{some_zero, has_default}
use Rattle.hc_core.specs.declared.object.Kind.{Kind}
use Rattle.hc_core.specs.declared.stmt.Arm.{Arm}
use Rattle.hc_core.specs.Read.{arms as read_arms}
use Rattle.hc_core.proofs.Read as reading
use Rattle.hc_meaning.specs.Value.{World, number_of}
use Rattle.hc_meaning.specs.Residual as left
use Rattle.hc_meaning.specs.Residual.{residual, arms_left}
use Rattle.hc_meaning.specs.Control.{chooses, is_chosen}
use Rattle.hc_net.specs.Bits.{number}
use Rattle.hc_net.specs.Circuit.{Circuit, Explains}
use Rattle.hc_net.specs.Frame.{Keeps, keeps_then, keeps_gates, keeps_within}
use Rattle.hc_net.specs.Run.{Trace}
use Rattle.hc_net.specs.Made.{Makes}
use Rattle.hc_net.specs.MadeLemmas.{Over-within, Adds-room, Adds-then}
use Rattle.hc_net.specs.Seal.{Within}
use Rattle.hc_core.specs.Rules as rules
use Rattle.hc_core.specs.Rules.{labels, has_twice, repeats_label}
use Rattle.hc_bits.specs.Held.{held}
use Rattle.hc_token.specs.Kept.{there_kept}
use Rattle.hc_token.specs.declared.ends.Ends.{Ends}
use Rattle.hc_token.proofs.Parts.{All-one}
use Rattle.hc_value.specs.Reads.{MakesValue}
use Rattle.hc_value.specs.declared.objects.ObjectNets.{ObjectNets}
use Rattle.hc_control.specs.Building.{CanBuild, Builds}
use Rattle.hc_control.specs.Built.{is_built_expression}
use Rattle.hc_control.specs.Lists.{ArmWires, none_taken, first_chosen, first_default, taken_arms, some_pass, some_chosen, IsSwitched}
use Rattle.hc_control.specs.Right.{IsRight}
use Rattle.hc_control.specs.Selecting.{is_among, among_each, label_count, AreLabels}
use Rattle.hc_control.specs.Taking.{marked, take_weight, CanTake, FollowTaken, Takes}
use Rattle.hc_control.specs.Token.{Clocks}
use Rattle.hc_control.specs.Weighs.{control_weight, arms_control}
use Rattle.hc_control.specs.declared.started.Started.{Started}
use Rattle.hc_control.proofs.Adding.{keeps_control, reads_kept, never_within, control_most, control_behind_gates}
use Rattle.hc_control.proofs.Buildable.{buildable, switch_test, switch_arms}
use Rattle.hc_control.proofs.NoneFound.{none_here, unbroken}
use Rattle.hc_control.proofs.Choosing.{or_assoc, or_parts}
use Rattle.hc_control.proofs.LawArms.{follows_switch, passes_by_gates}
use Rattle.hc_control.proofs.Steps.{and_false}
use Rattle.hc_control.proofs.Tested.{value_low, value_right}

-- ---- labels that stand once

any_append : (f : Number → Bool) (xs ys : List Number) → list_any f (xs ++ ys) ≡ (list_any f xs || list_any f ys)
any_append f [] ys = refl
any_append f (x ∷ xs) ys = ap (λ b. f x || b) (any_append f xs ys) ∙ sym (or_assoc (f x) (list_any f xs) (list_any f ys))

same_among : (n : Number) (xs : List Number) → rules.is_among n xs ≡ is_among n.bits xs
same_among n [] = refl
same_among n (x ∷ xs) = ap (λ b. (x.bits == n.bits) || b) (same_among n xs)

once_behind : (xs ys : List Number) → has_twice (xs ++ ys) ≡ false → has_twice ys ≡ false
once_behind [] ys once = once
once_behind (x ∷ xs) ys once = once_behind xs ys (or_parts (rules.is_among x (xs ++ ys)) (has_twice (xs ++ ys)) once).1

-- a number among the first of these isn't among the others
apart : (b : ℕ) (xs ys : List Number) → has_twice (xs ++ ys) ≡ false → is_among b xs ≡ true → is_among b ys ≡ false
apart b [] ys once among = absurd cc
apart b (x ∷ xs) ys once among =
    let both = or_parts (rules.is_among x (xs ++ ys)) (has_twice (xs ++ ys)) once in
    elim (eqb_tells x.bits b) [
      | inl is ↦
          let nowhere : (is_among x.bits xs || is_among x.bits ys) ≡ false = sym (same_among x (xs ++ ys) ∙ any_append (λ m. m.bits == x.bits) xs ys) ∙ both.0 in
          ap (λ k. is_among k ys) (sym is.1) ∙ (or_parts (is_among x.bits xs) (is_among x.bits ys) nowhere).1
      | inr is ↦ apart b xs ys both.1 (ap (λ c. c || is_among b xs) (sym is.0) ∙ among)
    ]

-- ---- the arms that are marked

any_among : (b : ℕ) (arms : Arms) → list_any (λ c. c) (among_each b arms) ≡ is_among b (labels arms)
any_among b no_arm = refl
any_among b (arm values other body rest) = ap (λ c. is_among b values || c) (any_among b rest) ∙ sym (any_append (λ m. m.bits == b) values (labels rest))

pub any_chosen : (n : Number) (arms : Arms) (m : ℕ) → list_any (λ c. c) (among_each n.bits arms) ≡ is_chosen n (arms_left arms m).0
unfolding arms_left residual
any_chosen n no_arm m = refl
any_chosen n (arm values other body rest) m = ap (λ c. is_among n.bits values || c) (any_chosen n rest (residual body m).1)

unnamed_step : (x o d other : Bool) (marks none first : List Bool) → x ≡ false → marks ≡ (if o && not (d || other) then first else none)
    → (if other && not d then x || o else x) ∷ marks ≡ (if o && not d then (if other then true ∷ none else false ∷ first) else false ∷ none)
unnamed_step true o d other marks none first e h = absurd cc
unnamed_step false true false true marks none first e h = ap (λ l. true ∷ l) h
unnamed_step false true false false marks none first e h = ap (λ l. false ∷ l) h
unnamed_step false true true true marks none first e h = ap (λ l. false ∷ l) h
unnamed_step false true true false marks none first e h = ap (λ l. false ∷ l) h
unnamed_step false false false true marks none first e h = ap (λ l. false ∷ l) h
unnamed_step false false false false marks none first e h = ap (λ l. false ∷ l) h
unnamed_step false false true true marks none first e h = ap (λ l. false ∷ l) h
unnamed_step false false true false marks none first e h = ap (λ l. false ∷ l) h

unnamed_end : (o d : Bool) → ◌≡◌ {A = List Bool} [] (if o && not d then [] else [])
unnamed_end true true = refl
unnamed_end true false = refl
unnamed_end false d = refl

-- where no arm is named, the first with the label `default` is marked, if none came before, and only where the bit for the others holds
marked_unnamed : (n : Number) (arms : Arms) (m : ℕ) (o d : Bool) → list_any (λ c. c) (among_each n.bits arms) ≡ false
    → marked (among_each n.bits arms) o d arms ≡ (if o && not d then first_default (arms_left arms m).0 else none_taken (arms_left arms m).0)
unfolding arms_left residual
marked_unnamed n no_arm m o d none = unnamed_end o d
marked_unnamed n (arm values other body rest) m o d none =
    let both = or_parts (is_among n.bits values) (list_any (λ c. c) (among_each n.bits rest)) none in
    unnamed_step (is_among n.bits values) o d other (marked (among_each n.bits rest) o (d || other) rest) (none_taken (arms_left rest (residual body m).1).0) (first_default (arms_left rest (residual body m).1).0)
    both.0 (marked_unnamed n rest (residual body m).1 o (d || other) both.1)

named_step : (x d other : Bool) (marks none chosen : List Bool) → (x ≡ true → marks ≡ none) → (x ≡ false → marks ≡ chosen)
    → (if other && not d then x || false else x) ∷ marks ≡ (if x then true ∷ none else false ∷ chosen)
named_step true true true marks none chosen f g = ap (λ l. true ∷ l) (f refl)
named_step true true false marks none chosen f g = ap (λ l. true ∷ l) (f refl)
named_step true false true marks none chosen f g = ap (λ l. true ∷ l) (f refl)
named_step true false false marks none chosen f g = ap (λ l. true ∷ l) (f refl)
named_step false true true marks none chosen f g = ap (λ l. false ∷ l) (g refl)
named_step false true false marks none chosen f g = ap (λ l. false ∷ l) (g refl)
named_step false false true marks none chosen f g = ap (λ l. false ∷ l) (g refl)
named_step false false false marks none chosen f g = ap (λ l. false ∷ l) (g refl)

-- where one is, it alone is marked
marked_named : (n : Number) (arms : Arms) (m : ℕ) (d : Bool) → has_twice (labels arms) ≡ false → marked (among_each n.bits arms) false d arms ≡ first_chosen n (arms_left arms m).0
unfolding arms_left residual
marked_named n no_arm m d once = refl
marked_named n (arm values other body rest) m d once =
    named_step (is_among n.bits values) d other (marked (among_each n.bits rest) false (d || other) rest) (none_taken (arms_left rest (residual body m).1).0) (first_chosen n (arms_left rest (residual body m).1).0)
    (λ is. marked_unnamed n rest (residual body m).1 false (d || other) (any_among n.bits rest ∙ apart n.bits values (labels rest) once is))
    (λ is. marked_named n rest (residual body m).1 (d || other) (once_behind values (labels rest) once))

by_choice : (chosen : Bool) (marks : Bool → List Bool) (named other : List Bool) → (chosen ≡ true → marks false ≡ named) → (chosen ≡ false → marks true ≡ other)
    → marks (not chosen) ≡ (if chosen then named else other)
by_choice true marks named other f g = f refl
by_choice false marks named other f g = g refl

-- the marks are the arms that the selector's number takes
pub marked_taken : (n : Number) (arms : Arms) (m : ℕ) → has_twice (labels arms) ≡ false
    → marked (among_each n.bits arms) (not (is_chosen n (arms_left arms m).0)) false arms ≡ taken_arms n (arms_left arms m).0
marked_taken n arms m once =
    by_choice (is_chosen n (arms_left arms m).0) (λ o. marked (among_each n.bits arms) o false arms) (first_chosen n (arms_left arms m).0) (first_default (arms_left arms m).0)
    (λ is. marked_named n arms m false once)
    (λ is. marked_unnamed n arms m true false (any_chosen n arms m ∙ is))

-- ---- where no arm is taken

any_named : (n : Number) (arms : left.Arms) → list_any (λ c. c) (first_chosen n arms) ≡ is_chosen n arms
any_named n left.no_arm = refl
any_named n (left.arm values other body rest) = step (chooses n values) (none_taken rest) (first_chosen n rest) (is_chosen n rest) (any_named n rest)
  where
    step : (x : Bool) (none first : List Bool) (chosen : Bool) → list_any (λ c. c) first ≡ chosen → list_any (λ c. c) (if x then true ∷ none else false ∷ first) ≡ (x || chosen)
    step true none first chosen h = refl
    step false none first chosen h = h

any_default : (arms : Arms) (m : ℕ) → list_any (λ c. c) (first_default (arms_left arms m).0) ≡ has_default arms
unfolding arms_left residual
any_default no_arm m = refl
any_default (arm values other body rest) m =
    step other (none_taken (arms_left rest (residual body m).1).0) (first_default (arms_left rest (residual body m).1).0) (has_default rest) (any_default rest (residual body m).1)
  where
    step : (x : Bool) (none first : List Bool) (has : Bool) → list_any (λ c. c) first ≡ has → list_any (λ c. c) (if x then true ∷ none else false ∷ first) ≡ (x || has)
    step true none first has h = refl
    step false none first has h = h

some_map : (wires : List ArmWires) (t : ℕ) → some_chosen wires t ≡ list_any (λ c. c) (map (λ x. x.chosen t) wires)
some_map [] t = refl
some_map (x ∷ wires) t = ap (λ b. x.chosen t || b) (some_map wires t)

none_step : (chosen has : Bool) (named other : List Bool) → list_any (λ c. c) named ≡ chosen → list_any (λ c. c) other ≡ has
    → not (list_any (λ c. c) (if chosen then named else other)) ≡ (not has && not chosen)
none_step true has named other f g = ap not f ∙ sym (and_false (not has))
none_step false true named other f g = ap not g
none_step false false named other f g = ap not g

-- no arm is taken where none is named and none has the label `default`
pub none_is_taken : (n : Number) (arms : Arms) (m : ℕ) (wires : List ArmWires) (t : ℕ) → map (λ x. x.chosen t) wires ≡ taken_arms n (arms_left arms m).0
    → not (some_chosen wires t) ≡ (not (has_default arms) && not (is_chosen n (arms_left arms m).0))
none_is_taken n arms m wires t is =
    ap not (some_map wires t ∙ ap (list_any (λ c. c)) is)
    ∙ none_step (is_chosen n (arms_left arms m).0) (has_default arms) (first_chosen n (arms_left arms m).0) (first_default (arms_left arms m).0) (any_named n (arms_left arms m).0) (any_default arms m)

-- ---- the circuits of a selector

-- the number of arms
abbrev pub arm_count : Arms → ℕ
arm_count no_arm = 0
arm_count (arm values other body rest) = 1 + arm_count rest

pub arms_length : (list : List Arm) → arm_count (read_arms list) ≡ length list
arms_length [] = ap arm_count reading.read_no_arm
arms_length (first ∷ rest) = ap arm_count (reading.read_arms first rest) ∙ (let h = arms_length rest in omega arith)

-- the gates for the labels, for whether an arm is named, and of the arms, are within the weight
pub switch_weight : (kinds : List Kind) (w : ℕ) (arms : Arms) → (2 * w + 1) * label_count arms + arm_count arms + take_weight kinds arms ≤ arms_control kinds (2 * w + 8) arms + 1
switch_weight kinds w no_arm = omega arith
switch_weight kinds w (arm values other body rest) =
    let h = switch_weight kinds w rest in
    step w (length values) (label_count rest) (arm_count rest) (control_weight kinds body) (take_weight kinds rest) (arms_control kinds (2 * w + 8) rest) h
  where
    step : (w l c n b t a : ℕ) → (2 * w + 1) * c + n + t ≤ a + 1 → (2 * w + 1) * (l + c) + (1 + n) + (5 + b + t) ≤ (2 * w + 8) * l + 16 + b + a + 1
    step w l c n b t a h = omega arith

-- the labels have the width of the selector
pub labels_typed : (kinds : List Kind) (w v : ℕ) (s : Bool) (arms : Arms) → v ≡ w → ArmsTyped kinds w s arms → AreLabels v arms
labels_typed kinds w v s no_arm same typed = tt
labels_typed kinds w v s (arm values other body rest) same typed =
    (All-weaker (HasType w s) (λ n. IsNumber n × (n.width ≡ v)) (λ n h. (h.number, h.width ∙ sym same)) values typed.0, labels_typed kinds w v s rest same typed.2)

-- The nets of a selector: its number, for each arm whether it is named, whether any is, and whether none is.
pub record Selects (kinds : List Kind) (at : ObjectNets) (e : Expression) (arms : Arms) (x nets : List ℕ) (some otherwise : ℕ) (old one two three new : Circuit) : Type 0 where
  pub width : length x ≡ width_of kinds e
  pub value : MakesValue kinds at e old one x
  pub count : length nets ≡ arm_count arms
  pub named : Makes ((2 * length x + 1) * label_count arms) (at.zero ∷ x) one two nets (λ v. v at.zero ≡ false → map v nets ≡ among_each (number (map v x)) arms)
  pub any : Makes (length nets) (at.zero ∷ nets) two three (some ∷ []) (λ v. v some ≡ (v at.zero || list_any v nets))
  pub none : Makes 1 (some ∷ []) three new (otherwise ∷ []) (λ v. v otherwise ≡ not (v some))

module _ (kinds : List Kind) (at : ObjectNets) (place : Place) (e : Expression) (arms : Arms) (start token : ℕ) (x nets : List ℕ) (some otherwise : ℕ) (old one two three new : Circuit)
    (can : CanBuild kinds at (Switch place e arms) start token old) (so : Selects kinds at e arms x nets some otherwise old one two three new) where
  typed : HasSomeType kinds e
  typed = (can.typed.0, can.typed.1, can.typed.2)

  keeps_named : Keeps one.nodes new.nodes
  keeps_named = keeps_then (keeps_gates so.named.adds) (keeps_then (keeps_gates so.any.adds) (keeps_gates so.none.adds))

  keeps : Keeps old.nodes new.nodes
  keeps = keeps_then (keeps_gates so.value.adds) keeps_named

  zero_low : Within new.nodes 0 at.zero
  zero_low = keeps_within keeps at.zero (never_within at.zero can.reads.places.zero)

  x_low : All (Within new.nodes 0) x
  x_low = All-weaker (Within one.nodes 0) (Within new.nodes 0) (keeps_within keeps_named) x (value_low kinds at old one e x can.reads typed (switch_test place e arms (buildable can)) so.value)

  nets_low : All (Within new.nodes 0) nets
  nets_low i d within =
      let keeps_two = keeps_then (keeps_gates so.any.adds) (keeps_gates so.none.adds) in
      Over-within (All-cons (Within new.nodes 0) at.zero x zero_low x_low) (keeps_two.over (at.zero ∷ x) _ (so.named.reach i d within))

  some_low : Within new.nodes 0 some
  some_low =
      let keeps_three = keeps_gates so.none.adds in
      Over-within (All-cons (Within new.nodes 0) at.zero nets zero_low nets_low) (keeps_three.over (at.zero ∷ nets) some (so.any.reach 0 0 (omega arith)))

  -- what it takes to build the control of the arms
  pub can_take : CanTake kinds at arms start token nets otherwise new
  can_take =
      let is = switch_arms place e arms (buildable can) in
      let keeps_two = keeps_then (keeps_gates so.any.adds) (keeps_gates so.none.adds) in
      let weight = switch_weight kinds (length x) arms in
      record {
        reads = reads_kept keeps can.reads;
        there = there_kept keeps start can.there;
        typed = (can.typed.0, can.typed.1, can.typed.3);
        built = is.built;
        loops = is.loops;
        labels = is.labels;
        nets_there = λ i d within. (there_kept keeps_two _ (so.named.there i d within), nets_low i d within);
        otherwise_there = (so.none.there 0 0 (omega arith), Over-within (All-one (Within new.nodes 0) some some_low) (so.none.reach 0 0 (omega arith)));
        room =
            let room = can.room in
            let count = so.count in
            let same : arms_control kinds (2 * length x + 8) arms ≡ arms_control kinds (2 * width_of kinds e + 8) arms = ap (λ w. arms_control kinds (2 * w + 8) arms) so.width in
            omega (arith, Adds-room so.value.adds, Adds-room so.named.adds, Adds-room so.any.adds, Adds-room so.none.adds);
        numbers = can.numbers;
      }

  once : has_twice (labels arms) ≡ false
  once = unbroken (has_twice (labels arms)) (none_here (repeats_label (Switch place e arms)) place _ can.labels).0

  -- in a clock in which all is right the nets tell the arms that the selector's number takes
  taken : (n : ℕ) (trace : Trace) (h : _) → Explains new.nodes trace h → (t : ℕ) (w : World) → IsRight kinds at w (h t)
      → (marked (map (h t) nets) (h t otherwise) false arms ≡ taken_arms (number_of w e) (arms_left arms n).0) × (h t otherwise ≡ not (is_chosen (number_of w e) (arms_left arms n).0))
  taken n trace h explains t w right =
      let explains_three = (keeps_gates so.none.adds).earlier trace h explains in
      let explains_two = (keeps_gates so.any.adds).earlier trace h explains_three in
      let explains_one = keeps_named.earlier trace h explains in
      let low = right.zero in
      let held_is : held (sign_of kinds e) (h t) x ≡ number_of w e =
      value_right kinds at e x (h t) w typed (switch_test place e arms (buildable can)) (so.value.value trace h explains_one t) right in
      let bits : map (h t) nets ≡ among_each (number_of w e).bits arms = so.named.value trace h explains_two t low ∙ ap (λ (m : Number). among_each m.bits arms) held_is in
      let some_is : h t some ≡ is_chosen (number_of w e) (arms_left arms n).0 =
      so.any.value trace h explains_three t ∙ ap (λ b. b || list_any (h t) nets) low ∙ any_map (h t) nets ∙ ap (list_any (λ c. c)) bits ∙ any_chosen (number_of w e) arms n in
      let other_is : h t otherwise ≡ not (is_chosen (number_of w e) (arms_left arms n).0) = so.none.value trace h explains t ∙ ap not some_is in
      (ap (λ l. marked l (h t otherwise) false arms) bits ∙ ap (λ b. marked (among_each (number_of w e).bits arms) b false arms) other_is ∙ marked_taken (number_of w e) arms n once, other_is)
    where
      any_map : (v : ℕ → Bool) (ks : List ℕ) → list_any v ks ≡ list_any (λ c. c) (map v ks)
      any_map v [] = refl
      any_map v (k ∷ ks) = ap (λ b. v k || b) (any_map v ks)

  switched : (n : ℕ) (c : Clocks) (trace : Trace) (h : _) → Explains new.nodes trace h → (starts : List ℕ) (ends : Ends)
      → (f : FollowTaken kinds at arms start nets otherwise starts ends n c h)
      → IsSwitched (λ t. IsRight kinds at (c.world t) (h t)) (λ t. taken_arms (number_of (c.world t) e) (arms_left arms n).0) f.wires (λ t. h t start) (λ t. h t ends.pass) (λ t. h t ends.finish)
  switched n c trace h explains starts ends f = record {
    chooses = λ t right. f.chooses t ∙ (taken n trace h explains t (c.world t) right).0;
    starts = f.begins;
    passes = λ t right.
        let is = taken n trace h explains t (c.world t) right in
        let marks : map (λ (y : ArmWires). y.chosen t) f.wires ≡ taken_arms (number_of (c.world t) e) (arms_left arms n).0 = f.chooses t ∙ is.0 in
        f.passes t
        ∙ ap (λ b. some_pass f.wires t || (not (has_default arms) && b)) is.1
        ∙ ap (λ b. some_pass f.wires t || b) (sym (none_is_taken (number_of (c.world t) e) arms n f.wires t marks))
        ∙ sym (passes_by_gates e (arms_left arms n).0 (c.world t) f.wires t marks);
    finishes = f.finishes;
  }

  -- The control of a `switch` was built, wherever it stands.
  pub switch_built : (last : Circuit) (before after : Started) (ends : Ends) → Takes kinds at arms start nets otherwise new last before after ends
      → (any_place : Place) → Builds kinds at (Switch any_place e arms) start old last before after ends
  unfolding residual arms_left
  switch_built last before after ends takes any_place = record {
    starts = takes.starts;
    put = takes.put;
    next = takes.next;
    adds =
        let weight = switch_weight kinds (length x) arms in
        let count = so.count in
        let width : arms_control kinds (2 * length x + 8) arms ≡ arms_control kinds (2 * width_of kinds e + 8) arms = ap (λ w. arms_control kinds (2 * w + 8) arms) so.width in
        control_most (omega arith) (control_behind_gates (Adds-then (Adds-then (Adds-then so.value.adds so.named.adds) so.any.adds) so.none.adds) takes.adds);
    circuit = record {
      there = takes.there;
      starts_there = takes.starts_there;
      count = λ n. takes.count (n + 1);
      pass = takes.pass;
      finish = takes.finish;
      never = λ none. let both = or_parts (some_zero arms) (not (has_default arms)) none in takes.never both.0 (true_of (has_default arms) both.1);
      follows = λ n c trace h explains.
          let f = takes.follows (n + 1) c trace h explains in
          let is = switched (n + 1) c trace h ((keeps_control takes.adds).earlier trace h explains) takes.starts ends f in
          let g = follows_switch c (λ t. IsRight kinds at (c.world t) (h t)) n e (arms_left arms (n + 1)).0 f.wires (λ t. h t start) (λ t. h t ends.pass) (λ t. h t ends.finish) f.follow is in (
            _,
            record {
              passes = g.passes;
              finishes = g.finishes;
              enables = λ t ready right fair. sym (f.enables t) ∙ g.enables t ready right fair;
              tests = g.tests;
            },
          );
    };
  }
    where
      true_of : (b : Bool) → not b ≡ false → b ≡ true
      true_of true h = refl
      true_of false h = absurd cc

-- there is room for all gates of a selector and of its arms, and for 39 more
pub selector_room : (kinds : List Kind) (at : ObjectNets) (place : Place) (e : Expression) (arms : Arms) (start token : ℕ) (x : List ℕ) (old : Circuit) → CanBuild kinds at (Switch place e arms) start token old
    → length x ≡ width_of kinds e → length old.nodes + (expression_weight kinds e + (2 * length x + 1) * label_count arms + arm_count arms + take_weight kinds arms + 39) < 2 ^ 32
selector_room kinds at place e arms start token x old can width =
    let room = can.room in
    let weight = switch_weight kinds (length x) arms in
    let same : arms_control kinds (2 * length x + 8) arms ≡ arms_control kinds (2 * width_of kinds e + 8) arms = ap (λ w. arms_control kinds (2 * w + 8) arms) width in
    omega arith

pub selector_built : (kinds : List Kind) (at : ObjectNets) (place : Place) (e : Expression) (arms : Arms) (start token : ℕ) (old : Circuit) → CanBuild kinds at (Switch place e arms) start token old
    → is_built_expression e ≡ true
selector_built kinds at place e arms start token old can = switch_test place e arms (buildable can)
