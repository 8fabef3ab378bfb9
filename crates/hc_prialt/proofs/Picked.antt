-- The cases of a `prialt` as its choice, with a default and without.
use Rattle.std.proofs.Common.{◌≡◌, ◌<◌, ◌≤◌, ℕ, suc, ◌+◌, ◌*◌, List, [], ◌∷◌, length, Bool, true, false, ◌&&◌, ◌||◌, None, refl, ap, sym, ◌∙◌, subst, arith}
use Rattle.std.specs.Prelude.{All}
use Rattle.std.proofs.lemmas.List.{get_or_default, take_all}
use Rattle.std.proofs.lemmas.List.Elements.{All-nil, All-cons, All-weaker}
use Rattle.hc_net.specs.Run.{Trace}
use Rattle.hc_net.specs.Circuit.{Circuit, Extends, History, Explains, IsUnfed, node_at}
use Rattle.hc_net.specs.Made.{Over, argument, Always, Makes}
use Rattle.hc_net.specs.MadeLemmas.{Over-over, Makes-gate}
use Rattle.hc_net.specs.declared.net.FlopName.TheVariants.{Token}
use Rattle.hc_net.specs.declared.node.Node.TheVariants.{Flop, Gate}
use Rattle.hc_net.specs.declared.gate.GateKind.TheVariants as kind
use Rattle.hc_token.specs.Control.{IsFlop, Reaches}
use Rattle.hc_token.specs.Growing.{Puts, Feeds, Grows, grows_then, grows_node, grows_connected, put_size, put_at, put_there, put_front, reach_over, reach_flop, flop_reach}
use Rattle.hc_token.specs.Part.{AddsPart, keeps_part, grows_part, part_front, part_most, part_then, part_gate, part_fed}
use Rattle.hc_prialt.specs.Picks.{none_ready, PicksFirst, MakesPick}
use Rattle.hc_prialt.specs.Cases.{AddsCases}
use Rattle.hc_prialt.specs.declared.choice.Pick.{Pick}

or_false : (a : Bool) → a ≡ (a || false)
or_false true = refl
or_false false = refl

-- where all cases are added, none is ready where no case is
all_free : (token active free : ℕ) (ready taken arms : List ℕ) (old new : Circuit) → AddsCases token active ready (length ready) old new taken arms free
    → Always new.nodes (λ v. v free ≡ (v active && none_ready v ready))
all_free token active free ready taken arms old new cases trace h e t =
    cases.free trace h e t ∙ ap (λ l. h t active && none_ready (h t) l) (take_all (length ready) ready (omega arith))

-- ---- with a default

pub picked_default : (token start free : ℕ) (ready taken arms : List ℕ) (old new : Circuit) → start < length old.nodes
    → AddsCases token start ready (length ready) old new taken arms free
    → MakesPick token start ready true old new (record { active = start; taken = taken; default_start = free; arm_starts = arms })
picked_default token start free ready taken arms old new there cases =
    let grows : Grows old.nodes new.nodes = grows_part cases.adds in
    record {
      adds = part_most (omega arith) cases.adds;
      taken_count = cases.taken_count;
      arm_count = cases.arm_count;
      there = All-cons (λ k. k < length new.nodes) start (free ∷ []) (let longer = grows.keeps.longer in omega arith) (All-cons (λ k. k < length new.nodes) free [] cases.free_there (All-nil _));
      taken_there = cases.taken_there;
      arms_there = cases.arms_there;
      active = reach_over new.nodes (start ∷ []) start (argument start 0 (omega arith) refl);
      default_start = reach_over new.nodes (start ∷ ready) free cases.free_over;
      taken = All-weaker (Over new.nodes (start ∷ ready)) (Reaches new.nodes (start ∷ ready)) (reach_over new.nodes (start ∷ ready)) taken cases.taken_over;
      arm_starts = All-weaker (λ k. IsFlop (node_at new.nodes k)) (Reaches new.nodes []) (flop_reach new.nodes) arms cases.arms_over;
      value = λ trace h e. record {
        waits = λ t. false;
        first = refl;
        later = λ t. refl;
        active = λ t. or_false (h t start);
        taken = cases.taken trace h e;
        default_start = all_free token start free ready taken arms old new cases trace h e;
        unstarted = cases.unstarted trace h e;
        arm_starts = cases.arm_starts trace h e;
      };
    }

-- ---- without a default

-- what the calls ask: behind the cases the flip-flop in which it waits isn't fed, and what is left free is there
module _ (token first start waits active free never : ℕ) (ready taken arms : List ℕ) (old one two three four : Circuit)
    (puts_waits : Puts (Flop (Token token) false None) old one waits) (puts_active : Puts (Gate kind.Or start waits) one two active)
    (cases : AddsCases first active ready (length ready) two three taken arms free)
    (puts_never : Puts (Gate kind.Zero 0 0) three four never)
  where
    waits_low : waits < length one.nodes
    waits_low = put_there _ old puts_waits

    longer_two : length two.nodes ≡ length one.nodes + 1
    longer_two = put_size _ one puts_active

    longer_three : length two.nodes ≤ length three.nodes
    longer_three = (keeps_part cases.adds).longer

    pub is_unfed : IsUnfed (node_at four.nodes waits)
    is_unfed = subst IsUnfed (sym (
        put_front _ three waits puts_never (omega (arith, waits_low, longer_two, longer_three))
        ∙ part_front waits cases.adds (omega (arith, waits_low, longer_two))
        ∙ put_front _ one waits puts_active waits_low
        ∙ put_at old puts_waits)) tt

    pub free_low : free < length four.nodes
    free_low = let low = cases.free_there in omega (arith, put_size _ three puts_never)

module _ (token first start waits active free never : ℕ) (ready taken arms : List ℕ) (old one two three four new : Circuit)
    (follows : first ≡ token + 1)
    (puts_waits : Puts (Flop (Token token) false None) old one waits) (puts_active : Puts (Gate kind.Or start waits) one two active)
    (cases : AddsCases first active ready (length ready) two three taken arms free)
    (puts_never : Puts (Gate kind.Zero 0 0) three four never) (feeds : Feeds waits free four new) (earlier : Extends four.nodes new.nodes)
    (waits_first : (trace : Trace) (h : History) → Explains one.nodes trace h → h 0 waits ≡ false)
    (waits_later : (trace : Trace) (h : History) → Explains new.nodes trace h → (t : ℕ) → h (suc t) waits ≡ h t free)
  where
    from_four : Grows four.nodes new.nodes
    from_four = grows_connected waits free feeds earlier

    from_three : Grows three.nodes new.nodes
    from_three = grows_then (grows_node _ puts_never.1) from_four

    from_two : Grows two.nodes new.nodes
    from_two = grows_then (grows_part cases.adds) from_three

    from_one : Grows one.nodes new.nodes
    from_one = grows_then (grows_node _ puts_active.1) from_two

    active_made : Makes 1 (waits ∷ start ∷ []) one two (active ∷ []) (λ v. v active ≡ (v start || v waits))
    active_made = Makes-gate (waits ∷ start ∷ []) one two kind.Or start waits active puts_active.0 puts_active.1 (argument start 1 (omega arith) refl, argument waits 0 (omega arith) refl)

    never_made : Makes 1 [] three four (never ∷ []) (λ v. v never ≡ false)
    never_made = Makes-gate [] three four kind.Zero 0 0 never puts_never.0 puts_never.1 tt

    adds : AddsPart (2 * length ready + 2) token (length ready + 1) [] old new
    adds =
        let none : 0 + length ready ≡ length ready = omega arith in
        let front : AddsPart (1 + 2 * length ready) first (length ready) [] one three =
        subst (λ n. AddsPart (1 + 2 * length ready) first n [] one three) none (part_then {next = first} {i = 0} (omega arith) (part_gate first kind.Or start waits puts_active.1) cases.adds) in
        let inner = part_then {i = length ready} refl front (part_gate (first + length ready) kind.Zero 0 0 puts_never.1) in
        let count : 1 + (length ready + 0) ≡ length ready + 1 = omega arith in
        subst (λ n. AddsPart (2 * length ready + 2) token n [] old new) count (part_most (omega arith) (part_fed free puts_waits.0 puts_waits.1 follows inner feeds earlier))

    waits_is_flop : IsFlop (node_at new.nodes waits)
    waits_is_flop = from_one.flops waits (subst IsFlop (sym (put_at old puts_waits)) tt)

    -- the nets of the cases, as nets over the start and the flip-flop
    args_over : All (Over new.nodes (waits ∷ start ∷ ready)) (active ∷ ready)
    args_over = All-cons (Over new.nodes (waits ∷ start ∷ ready)) active ready
        (from_two.keeps.over (waits ∷ start ∷ ready) active
        ((Makes-gate (waits ∷ start ∷ ready) one two kind.Or start waits active puts_active.0 puts_active.1 (argument start 1 (omega arith) refl, argument waits 0 (omega arith) refl)).reach 0 0 (omega arith)))
        (λ i d within. argument _ (suc (suc i)) (omega (arith, within)) (get_or_default ready i 0 d within))

    taken_reach : (k : ℕ) → Over three.nodes (active ∷ ready) k → Reaches new.nodes (start ∷ ready) k
    taken_reach k over = reach_flop new.nodes (start ∷ ready) waits k waits_is_flop (Over-over args_over (from_three.keeps.over (active ∷ ready) k over))

    kept : (k : ℕ) → k < length three.nodes → k < length new.nodes
    kept k low = let longer = from_three.keeps.longer in omega arith

    abbrev picked : Pick
    picked = record { active = active; taken = taken; default_start = never; arm_starts = arms }

    picks : (trace : Trace) (h : History) → Explains new.nodes trace h → PicksFirst start ready false picked h
    picks trace h e =
        let before = from_three.keeps.earlier trace h e in
        record {
          waits = λ t. h t waits;
          first = waits_first trace h (from_one.keeps.earlier trace h e);
          later = λ t. waits_later trace h e t ∙ all_free first active free ready taken arms two three cases trace h before t;
          active = active_made.value trace h (from_two.keeps.earlier trace h e);
          taken = cases.taken trace h before;
          default_start = never_made.value trace h (from_four.keeps.earlier trace h e);
          unstarted = cases.unstarted trace h before;
          arm_starts = cases.arm_starts trace h before;
        }

    pub picked_waiting : MakesPick token start ready false old new picked
    picked_waiting = record {
      adds = adds;
      taken_count = cases.taken_count;
      arm_count = cases.arm_count;
      there =
          let active_at = put_there _ one puts_active in
          let never_at = put_there _ three puts_never in
          let longer = from_two.keeps.longer in
          let more = from_four.keeps.longer in
          All-cons (λ k. k < length new.nodes) active (never ∷ []) (omega arith) (All-cons (λ k. k < length new.nodes) never [] (omega arith) (All-nil _));
      taken_there = All-weaker (λ k. k < length three.nodes) (λ k. k < length new.nodes) kept taken cases.taken_there;
      arms_there = All-weaker (λ k. k < length three.nodes) (λ k. k < length new.nodes) kept arms cases.arms_there;
      active = reach_flop new.nodes (start ∷ []) waits active waits_is_flop (from_two.keeps.over (waits ∷ start ∷ []) active (active_made.reach 0 0 (omega arith)));
      default_start = reach_over new.nodes (start ∷ ready) never (Over-over (All-nil _) (from_four.keeps.over [] never (never_made.reach 0 0 (omega arith))));
      taken = All-weaker (Over three.nodes (active ∷ ready)) (Reaches new.nodes (start ∷ ready)) taken_reach taken cases.taken_over;
      arm_starts = All-weaker (λ k. IsFlop (node_at three.nodes k)) (Reaches new.nodes []) (λ k is. flop_reach new.nodes k (from_three.flops k is)) arms cases.arms_over;
      value = picks;
    }
