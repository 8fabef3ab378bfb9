-- The cases of a `prialt`: one that is added, and one more behind others.
use Rattle.std.proofs.Common.{◌≡◌, ◌<◌, ℕ, suc, ◌+◌, List, [], ◌∷◌, ◌++◌, length, take, get_or, Bool, true, false, not, ◌&&◌, None, refl, ap, sym, ◌∙◌, subst, inl, inr, arith}
use Rattle.std.specs.Prelude.{All}
use Rattle.std.proofs.lemmas.List.{get_or_append_left, get_or_push, length_push, take_more}
use Rattle.std.proofs.lemmas.List.Elements.{All-nil, All-cons, All-push, All-weaker}
use Rattle.std.proofs.lemmas.Bool.{cases_lt}
use Rattle.hc_net.specs.Run.{Trace}
use Rattle.hc_net.specs.Circuit.{Circuit, Extends, History, Explains, node_at}
use Rattle.hc_net.specs.Gate.{differ}
use Rattle.hc_net.specs.Made.{Over, argument, Always, Makes}
use Rattle.hc_net.specs.MadeLemmas.{Over-over, Makes-gate}
use Rattle.hc_net.specs.declared.net.FlopName.TheVariants.{Token}
use Rattle.hc_net.specs.declared.node.Node.TheVariants.{Flop, Gate}
use Rattle.hc_net.specs.declared.gate.GateKind.TheVariants as kind
use Rattle.hc_token.specs.Control.{IsFlop}
use Rattle.hc_token.specs.Growing.{Puts, Feeds, Grows, grows_then, grows_node, grows_connected, put_at, put_there}
use Rattle.hc_token.specs.Part.{grows_part, part_none, part_most, part_then, part_gate, part_token}
use Rattle.hc_prialt.specs.Picks.{none_ready, first_ready}
use Rattle.hc_prialt.specs.Cases.{AddsCase, AddsCases}
use Rattle.hc_prialt.specs.declared.cases.Case.{Case}

-- ---- bits

and_assoc : (a b c : Bool) → ((a && b) && c) ≡ (a && (b && c))
and_assoc true b c = refl
and_assoc false b c = refl

pub and_true : (a : Bool) → a ≡ (a && true)
and_true true = refl
and_true false = refl

and_comm : (a b : Bool) → (a && b) ≡ (b && a)
and_comm true b = and_true b
and_comm false true = refl
and_comm false false = refl

-- what is free and isn't taken
rest_is : (f r : Bool) → differ f (f && r) ≡ (f && not r)
rest_is true true = refl
rest_is true false = refl
rest_is false r = refl

none_push : (v : ℕ → Bool) (nets : List ℕ) (k : ℕ) → none_ready v (nets ++ k ∷ []) ≡ (none_ready v nets && not (v k))
none_push v [] k = sym (and_true (not (v k)))
none_push v (n ∷ nets) k = ap (λ b. not (v n) && b) (none_push v nets k) ∙ sym (and_assoc (not (v n)) (none_ready v nets) (not (v k)))

none_more : (v : ℕ → Bool) (ready : List ℕ) (i : ℕ) → i < length ready → none_ready v (take (i + 1) ready) ≡ (none_ready v (take i ready) && not (v (get_or ready i 0)))
none_more v ready i within = ap (none_ready v) (take_more ready i 0 within) ∙ none_push v (take i ready) (get_or ready i 0)

-- ---- one case

module _ (token free ready taken rest arm : ℕ) (old one two three new : Circuit)
    (puts_taken : Puts (Gate kind.And free ready) old one taken) (puts_rest : Puts (Gate kind.Xor free taken) one two rest)
    (puts_arm : Puts (Flop (Token token) false None) two three arm) (feeds : Feeds arm taken three new) (earlier : Extends three.nodes new.nodes)
    (arm_first : (trace : Trace) (h : History) → Explains three.nodes trace h → h 0 arm ≡ false)
    (arm_later : (trace : Trace) (h : History) → Explains new.nodes trace h → (t : ℕ) → h (suc t) arm ≡ h t taken)
  where
    abbrev args : List ℕ
    args = free ∷ ready ∷ []

    taken_made : Makes 1 args old one (taken ∷ []) (λ v. v taken ≡ (v free && v ready))
    taken_made = Makes-gate args old one kind.And free ready taken puts_taken.0 puts_taken.1 (argument free 0 (omega arith) refl, argument ready 1 (omega arith) refl)

    rest_made : Makes 1 args one two (rest ∷ []) (λ v. v rest ≡ differ (v free) (v taken))
    rest_made = Makes-gate args one two kind.Xor free taken rest puts_rest.0 puts_rest.1 (argument free 0 (omega arith) refl, taken_made.reach 0 0 (omega arith))

    from_three : Grows three.nodes new.nodes
    from_three = grows_connected arm taken feeds earlier

    from_two : Grows two.nodes new.nodes
    from_two = grows_then (grows_node _ puts_arm.1) from_three

    from_one : Grows one.nodes new.nodes
    from_one = grows_then (grows_node _ puts_rest.1) from_two

    is_taken : Always new.nodes (λ v. v taken ≡ (v free && v ready))
    is_taken trace h e = taken_made.value trace h (from_one.keeps.earlier trace h e)

    pub case_added : AddsCase token free ready old new (record { taken = taken; free = rest; arm_start = arm })
    case_added = record {
      adds =
          part_then (omega arith) (part_gate token kind.And free ready puts_taken.1)
          (part_then (omega arith) (part_gate token kind.Xor free taken puts_rest.1) (part_token taken puts_arm.0 puts_arm.1 feeds earlier));
      taken_there = let at = put_there _ old puts_taken in let longer = from_one.keeps.longer in omega arith;
      free_there = let at = put_there _ one puts_rest in let longer = from_two.keeps.longer in omega arith;
      arm_there = let at = put_there _ two puts_arm in let longer = from_three.keeps.longer in omega arith;
      taken_over = from_one.keeps.over args taken (taken_made.reach 0 0 (omega arith));
      free_over = from_two.keeps.over args rest (rest_made.reach 0 0 (omega arith));
      arm_over = from_three.flops arm (subst IsFlop (sym (put_at two puts_arm)) tt);
      taken = is_taken;
      free = λ trace h e t.
          rest_made.value trace h (from_two.keeps.earlier trace h e) t
          ∙ ap (differ (h t free)) (is_taken trace h e t)
          ∙ rest_is (h t free) (h t ready);
      unstarted = λ trace h e. arm_first trace h (from_three.keeps.earlier trace h e);
      arm_start = arm_later;
    }

-- ---- the cases so far

no_cases : (token active : ℕ) (ready : List ℕ) (c : Circuit) → active < length c.nodes → AddsCases token active ready 0 c c [] [] active
no_cases token active ready c there = record {
  adds = part_none token c;
  taken_count = refl;
  arm_count = refl;
  free_there = there;
  taken_there = All-nil _;
  arms_there = All-nil _;
  free_over = argument active 0 (omega arith) refl;
  taken_over = All-nil _;
  arms_over = All-nil _;
  free = λ trace h e t. and_true (h t active);
  taken = λ trace h e t i within. absurd (omega (arith, within));
  unstarted = λ trace h e i within. absurd (omega (arith, within));
  arm_starts = λ trace h e t i within. absurd (omega (arith, within));
}

pub cases_none : (token active : ℕ) (ready taken arms : List ℕ) (c : Circuit) → taken ≡ [] → arms ≡ [] → active < length c.nodes → AddsCases token active ready 0 c c taken arms active
cases_none token active ready taken arms c taken_is arms_are there =
    subst (λ (l : List ℕ). AddsCases token active ready 0 c c l arms active) (sym taken_is)
    (subst (λ (l : List ℕ). AddsCases token active ready 0 c c [] l active) (sym arms_are) (no_cases token active ready c there))

-- what holds of a list and of one more
pushed : (P : ℕ → Type 0) (nets more : List ℕ) (net : ℕ) → more ≡ nets ++ net ∷ [] → All P nets → P net → All P more
pushed P nets more net is all one = subst (All P) (sym is) (All-push P nets net all one)

-- the net in a place of a list and of one more
before : (nets more : List ℕ) (net i : ℕ) → more ≡ nets ++ net ∷ [] → i < length nets → get_or more i 0 ≡ get_or nets i 0
before nets more net i is low = ap (λ l. get_or l i 0) is ∙ get_or_append_left nets (net ∷ []) 0 i low

last : (nets more : List ℕ) (net i : ℕ) → more ≡ nets ++ net ∷ [] → i ≡ length nets → get_or more i 0 ≡ net
last nets more net i is at = ap (λ l. get_or l i 0) is ∙ get_or_push nets net 0 i (sym at)

module _ (token next active i free : ℕ) (ready taken more_taken arms more_arms : List ℕ) (case : Case) (old mid new : Circuit)
    (slice : List ℕ) (slice_is : slice ≡ ready) (within : i < length ready) (follows : next ≡ token + i) (taken_is : more_taken ≡ taken ++ case.taken ∷ []) (arms_are : more_arms ≡ arms ++ case.arm_start ∷ [])
    (cases : AddsCases token active ready i old mid taken arms free) (added : AddsCase next free (get_or slice i 0) mid new case)
  where
    one : AddsCase next free (get_or ready i 0) mid new case
    one = subst (λ (l : List ℕ). AddsCase next free (get_or l i 0) mid new case) slice_is added

    grows : Grows mid.nodes new.nodes
    grows = grows_part one.adds

    kept : (k : ℕ) → k < length mid.nodes → k < length new.nodes
    kept k low = let longer = grows.keeps.longer in omega arith

    abbrev nets : List ℕ
    nets = active ∷ ready

    both_over : All (Over new.nodes nets) (free ∷ get_or ready i 0 ∷ [])
    both_over = All-cons (Over new.nodes nets) free (get_or ready i 0 ∷ []) (grows.keeps.over nets free cases.free_over)
        (All-cons (Over new.nodes nets) (get_or ready i 0) [] (argument _ (suc i) (omega (arith, within)) refl) (All-nil _))

    is_free : (trace : Trace) (h : History) → Explains new.nodes trace h → (t : ℕ) → h t free ≡ (h t active && none_ready (h t) (take i ready))
    is_free trace h e = cases.free trace h (grows.keeps.earlier trace h e)

    -- case k is one of those before, or this one
    is_taken_among : (trace : Trace) (h : History) → Explains new.nodes trace h → (t k : ℕ) → k < i + 1 → h t (get_or more_taken k 0) ≡ (h t active && first_ready (h t) ready k)
    is_taken_among trace h e t k low = elim (cases_lt k i) [
      | inl earlier ↦
          ap (h t) (before taken more_taken case.taken k taken_is (omega (arith, earlier, cases.taken_count)))
          ∙ cases.taken trace h (grows.keeps.earlier trace h e) t k earlier
      | inr late ↦
          let same : i ≡ k = omega (arith, low, late) in
          ap (h t) (last taken more_taken case.taken k taken_is (omega (arith, low, late, cases.taken_count)))
          ∙ one.taken trace h e t
          ∙ ap (λ b. b && h t (get_or ready i 0)) (is_free trace h e t)
          ∙ and_assoc (h t active) (none_ready (h t) (take i ready)) (h t (get_or ready i 0))
          ∙ ap (λ b. h t active && b) (and_comm (none_ready (h t) (take i ready)) (h t (get_or ready i 0)))
          ∙ ap (λ n. h t active && first_ready (h t) ready n) same
    ]

    is_unstarted : (trace : Trace) (h : History) → Explains new.nodes trace h → (k : ℕ) → k < i + 1 → h 0 (get_or more_arms k 0) ≡ false
    is_unstarted trace h e k low = elim (cases_lt k i) [
      | inl earlier ↦
          ap (h 0) (before arms more_arms case.arm_start k arms_are (omega (arith, earlier, cases.arm_count)))
          ∙ cases.unstarted trace h (grows.keeps.earlier trace h e) k earlier
      | inr late ↦
          ap (h 0) (last arms more_arms case.arm_start k arms_are (omega (arith, low, late, cases.arm_count)))
          ∙ one.unstarted trace h e
    ]

    arm_starts : (trace : Trace) (h : History) → Explains new.nodes trace h → (t k : ℕ) → k < i + 1 → h (suc t) (get_or more_arms k 0) ≡ h t (get_or more_taken k 0)
    arm_starts trace h e t k low = elim (cases_lt k i) [
      | inl earlier ↦
          ap (h (suc t)) (before arms more_arms case.arm_start k arms_are (omega (arith, earlier, cases.arm_count)))
          ∙ cases.arm_starts trace h (grows.keeps.earlier trace h e) t k earlier
          ∙ ap (h t) (sym (before taken more_taken case.taken k taken_is (omega (arith, earlier, cases.taken_count))))
      | inr late ↦
          ap (h (suc t)) (last arms more_arms case.arm_start k arms_are (omega (arith, low, late, cases.arm_count)))
          ∙ one.arm_start trace h e t
          ∙ ap (h t) (sym (last taken more_taken case.taken k taken_is (omega (arith, low, late, cases.taken_count))))
    ]

    pub cases_more : AddsCases token active ready (i + 1) old new more_taken more_arms case.free
    cases_more = record {
      adds = part_most (omega arith) (part_then follows cases.adds one.adds);
      taken_count = ap length taken_is ∙ length_push taken case.taken ∙ ap (λ n. n + 1) cases.taken_count;
      arm_count = ap length arms_are ∙ length_push arms case.arm_start ∙ ap (λ n. n + 1) cases.arm_count;
      free_there = one.free_there;
      taken_there = pushed (λ k. k < length new.nodes) taken more_taken case.taken taken_is (All-weaker (λ k. k < length mid.nodes) (λ k. k < length new.nodes) kept taken cases.taken_there) one.taken_there;
      arms_there = pushed (λ k. k < length new.nodes) arms more_arms case.arm_start arms_are (All-weaker (λ k. k < length mid.nodes) (λ k. k < length new.nodes) kept arms cases.arms_there) one.arm_there;
      free_over = Over-over both_over one.free_over;
      taken_over = pushed (Over new.nodes nets) taken more_taken case.taken taken_is (All-weaker (Over mid.nodes nets) (Over new.nodes nets) (grows.keeps.over nets) taken cases.taken_over) (Over-over both_over one.taken_over);
      arms_over = pushed (λ k. IsFlop (node_at new.nodes k)) arms more_arms case.arm_start arms_are
          (All-weaker (λ k. IsFlop (node_at mid.nodes k)) (λ k. IsFlop (node_at new.nodes k)) grows.flops arms cases.arms_over) one.arm_over;
      free = λ trace h e t.
          one.free trace h e t
          ∙ ap (λ b. b && not (h t (get_or ready i 0))) (is_free trace h e t)
          ∙ and_assoc (h t active) (none_ready (h t) (take i ready)) (not (h t (get_or ready i 0)))
          ∙ ap (λ b. h t active && b) (sym (none_more (h t) ready i within));
      taken = is_taken_among;
      unstarted = is_unstarted;
      arm_starts = arm_starts;
    }
