-- Branches side by side: the pass, the latches, the gates of those that wait, and the latches fed.
use Rattle.std.proofs.Common.{◌≡◌, ◌<◌, ◌≤◌, ℕ, zero, suc, ◌+◌, ◌-◌, ◌*◌, ◌^◌, List, [], ◌∷◌, ◌++◌, length, map, get_or, Bool, true, false, not, ◌&&◌, ◌||◌, Some, refl, ap, sym, ◌∙◌, subst, inl, inr, arith, append_assoc, length-append}
use Rattle.std.specs.Prelude.{All, ◌==◌, slice_get, slice_index}
use Rattle.std.specs.List.{range_with_len}
use Rattle.std.proofs.lemmas.List.{get_or-map, get_or_past, get_or_append_left, get_or-append-add, get_or_default, length-map, append-nil}
use mathlib.Core.List.{map-map}
use Rattle.std.proofs.lemmas.List.Elements.{All-nil, All-append, All-weaker, All-same, All-map}
use Rattle.std.proofs.lemmas.List.FromFn.{length-range_with_len, length-map-range_with_len, get_or-map-range_with_len, fill_by_all}
use Rattle.std.proofs.lemmas.Option.{slice_get_within, get_or_from_slice_get}
use Rattle.std.proofs.lemmas.Bool.{cases_lt, ne_eqb}
use Rattle.hc_net.specs.Run.{Trace}
use Rattle.hc_net.specs.Circuit.{Circuit, with_node, History, Does, Explains, Extends, node_at, constant_at, flops_of, gates_of}
use Rattle.hc_net.specs.Made as made
use Rattle.hc_net.specs.Made.{Over, IsGate, Makes}
use Rattle.hc_net.specs.MadeLemmas.{Over-kept, Over-over, Over-left, Over-self, Adds-longer, Adds-room, Makes-gate, Makes-then, Makes-holds, all_there}
use Rattle.hc_net.specs.declared.net.FlopName.TheVariants.{Token}
use Rattle.hc_net.specs.declared.node.Node.{Node}
use Rattle.hc_net.specs.declared.node.Node.TheVariants.{Gate}
use Rattle.hc_net.specs.declared.gate.GateKind.{GateKind}
use Rattle.hc_net.specs.declared.gate.GateKind.TheVariants as kind
use Rattle.hc_token.specs.Control.{IsPart, IsFlop, AddsControl, Controls, AreThere, IsNever, tokens_from}
use Rattle.hc_token.specs.Counting.{gates_append, flops_append, gates_most, no_flops}
use Rattle.hc_token.specs.Circuits.{Joins, every, some_and_every, done_from}
use Rattle.hc_token.specs.Latches.{open_latch, fed_latch, open_latches, fed_latches, with_latches, StandOpen}
use Rattle.hc_token.specs.Waits.{Waits, done_at}
use Rattle.hc_token.specs.declared.ends.Ends.{Ends}
use Rattle.hc_token.specs.declared.waiting.Waiting.{Waiting}
use Rattle.hc_token.proofs.Constants.{constant_left}
use Rattle.hc_token.proofs.Controlled.{is_part, AddsControl-gates}
use Rattle.hc_token.proofs.LatchNodes.{latch_place, latches_size}
use Rattle.hc_token.proofs.Parts.{Over-right}

-- ---- nodes that are added

-- latches that are fed
latches_are_parts : (token : ℕ) (sources is : List ℕ) → All IsPart (map (fed_latch token sources) is)
latches_are_parts token sources is i d within = subst IsPart (sym (get_or-map (fed_latch token sources) is i 0 d (omega (arith, length-map is (fed_latch token sources))))) tt

latches_have_no_gates : (token : ℕ) (sources is : List ℕ) → gates_of (map (fed_latch token sources) is) ≡ 0
latches_have_no_gates token sources [] = refl
latches_have_no_gates token sources (i ∷ is) = latches_have_no_gates token sources is

latches_are_tokens : (token : ℕ) (sources is : List ℕ) → flops_of (map (fed_latch token sources) is) ≡ map (λ i. (Token (token + i), false)) is
latches_are_tokens token sources [] = refl
latches_are_tokens token sources (i ∷ is) = ap (λ l. (Token (token + i), false) ∷ l) (latches_are_tokens token sources is)

-- ---- gates stay gates where latches are fed

stays_behind : (token : ℕ) (sources is : List ℕ) (back : List Node) (k : ℕ) (g : GateKind) (a b : ℕ)
    → node_at (map (open_latch token) is ++ back) k ≡ Gate g a b → node_at (map (fed_latch token sources) is ++ back) k ≡ Gate g a b
stays_behind token sources [] back k g a b is = is
stays_behind token sources (i ∷ js) back zero g a b is = absurd cc
stays_behind token sources (i ∷ js) back (suc k) g a b is = stays_behind token sources js back k g a b is

stays : (token : ℕ) (sources is : List ℕ) (front back : List Node) (k : ℕ) (g : GateKind) (a b : ℕ)
    → node_at (front ++ (map (open_latch token) is ++ back)) k ≡ Gate g a b → node_at (front ++ (map (fed_latch token sources) is ++ back)) k ≡ Gate g a b
stays token sources js [] back k g a b is = stays_behind token sources js back k g a b is
stays token sources js (n ∷ front) back zero g a b is = is
stays token sources js (n ∷ front) back (suc k) g a b is = stays token sources js front back k g a b is

Over-same : {nodes more : List Node} {args : List ℕ} {k : ℕ} → ((j : ℕ) (g : GateKind) (a b : ℕ) → node_at nodes j ≡ Gate g a b → node_at more j ≡ Gate g a b) → Over nodes args k → Over more args k
Over-same same (made.argument k i within is) = made.argument k i within is
Over-same same (made.zero k a b is) = made.zero k a b (same k _ a b is)
Over-same same (made.one k a b is) = made.one k a b (same k _ a b is)
Over-same same (made.negation k a b is x) = made.negation k a b (same k _ a b is) (Over-same same x)
Over-same same (made.conjunction k a b is x y) = made.conjunction k a b (same k _ a b is) (Over-same same x) (Over-same same y)
Over-same same (made.disjunction k a b is x y) = made.disjunction k a b (same k _ a b is) (Over-same same x) (Over-same same y)
Over-same same (made.exclusion k a b is x y) = made.exclusion k a b (same k _ a b is) (Over-same same x) (Over-same same y)

explains_left : (xs ys : List Node) → Extends xs (xs ++ ys)
explains_left xs ys trace h e = record {
  each = λ k. elim (cases_lt k (length xs)) [
    | inl low ↦ subst (λ (n : Node). Does trace h k n) (get_or_append_left xs ys _ k low) (e.each k)
    | inr high ↦ subst (λ (n : Node). Does trace h k n) (sym (get_or_past xs k _ high)) tt
  ];
}

-- ---- bits

-- whether a latch holds, and 0 past the last
abbrev pub latch_of : List ℕ → (ℕ → Bool) → ℕ → Bool
latch_of latches v i = get_or (map v latches) i false

latch_is : (latches : List ℕ) (v : ℕ → Bool) (i : ℕ) → i < length latches → latch_of latches v i ≡ v (get_or latches i 0)
latch_is latches v i within = get_or-map v latches i 0 false within

length-done : (v l : ℕ → Bool) (i : ℕ) (es : List Ends) → length (done_from v l i es) ≡ length es
length-done v l i [] = refl
length-done v l i (e ∷ es) = ap suc (length-done v l (suc i) es)

done_from-at : (v l : ℕ → Bool) (i : ℕ) (es : List Ends) (k : ℕ) → k < length es → get_or (done_from v l i es) k false ≡ (v (get_or (map (λ (e : Ends). e.finish) es) k 0) || l (i + k))
done_from-at v l i [] k within = absurd (omega arith)
done_from-at v l i (e ∷ es) zero within = let same : i ≡ i + 0 = omega arith in ap (λ n. v e.finish || l n) same
done_from-at v l i (e ∷ es) (suc k) within =
    let same : suc i + k ≡ i + suc k = omega arith in
    done_from-at v l (suc i) es k (omega arith) ∙ ap (λ n. v (get_or (map (λ (e : Ends). e.finish) es) k 0) || l n) same

done_is : (v : ℕ → Bool) (es : List Ends) (finishes latches : List ℕ) → finishes ≡ map (λ (e : Ends). e.finish) es → length latches ≡ length es
    → map (done_at finishes latches v) (range_with_len 0 (length es)) ≡ done_from v (latch_of latches v) 0 es
done_is v es finishes latches are size =
    sym (fill_by_all (done_at finishes latches v) (done_from v (latch_of latches v) 0 es) (length es) false (length-done v (latch_of latches v) 0 es)
    (λ k within.
    let here : 0 + k ≡ k = omega arith in
    done_from-at v (latch_of latches v) 0 es k within
    ∙ ap (λ n. v (get_or (map (λ (e : Ends). e.finish) es) k 0) || latch_of latches v n) here
    ∙ ap (λ b. v (get_or (map (λ (e : Ends). e.finish) es) k 0) || b) (latch_is latches v k (omega arith))
    ∙ ap (λ (l : List ℕ). v (get_or l k 0) || v (get_or latches k 0)) (sym are)))

some_is : (bits : List Bool) → 1 ≤ length bits → every bits ≡ some_and_every bits
some_is [] some = absurd (omega arith)
some_is (b ∷ bits) some = refl

-- what an end of a branch is, in the list of these ends
end_is : (end : Ends → ℕ) (es : List Ends) (nets : List ℕ) (i : ℕ) (e : Ends) → nets ≡ map end es → slice_get es i ≡ Some e → get_or nets i 0 ≡ end e
end_is end es nets i e are there =
    ap (λ l. get_or l i 0) are ∙ get_or-map end es i e 0 (slice_get_within es i e there) ∙ ap end (get_or_from_slice_get es i e e there)

-- a latch is set where its branch passes and the whole doesn't
set_by : (a b c : Bool) → ((a && not b) && c) ≡ (a && (c && not b))
set_by true true true = refl
set_by true true false = refl
set_by true false true = refl
set_by true false false = refl
set_by false b c = refl

kept_by : (a b : Bool) → (not a && b) ≡ (b && not a)
kept_by true true = refl
kept_by true false = refl
kept_by false true = refl
kept_by false false = refl

-- ---- what the calls ask

pub ends_there : (end : Ends → ℕ) (c : Circuit) (branches : List Ends) (nets : List ℕ) → nets ≡ map end branches
    → All (λ (e : Ends). end e < length c.nodes) branches → All (λ k. k < length c.nodes) nets
ends_there end c branches nets are all = All-same (λ k. k < length c.nodes) nets (map end branches) are (All-map (λ k. k < length c.nodes) end branches all)

pub passes_there : (c : Circuit) (branches : List Ends) (nets : List ℕ) → nets ≡ map (λ (e : Ends). e.pass) branches → All (AreThere c) branches → All (λ k. k < length c.nodes) nets
passes_there c branches nets are all = ends_there (λ (e : Ends). e.pass) c branches nets are (λ i d within. (all i d within).0)

pub finishes_there : (c : Circuit) (branches : List Ends) (nets : List ℕ) → nets ≡ map (λ (e : Ends). e.finish) branches → All (AreThere c) branches → All (λ k. k < length c.nodes) nets
finishes_there c branches nets are all = ends_there (λ (e : Ends). e.finish) c branches nets are (λ i d within. (all i d within).1)

pub ends_size : (end : Ends → ℕ) (branches : List Ends) (nets : List ℕ) → nets ≡ map end branches → length nets ≡ length branches
ends_size end branches nets are = ap length are ∙ length-map branches end

-- behind the latches all that the waiting gates read is there
pub record Ready (start pass : ℕ) (passes finishes latches : List ℕ) (mid : Circuit) : Type 0 where
  pub start_there : start < length mid.nodes
  pub pass_there : pass < length mid.nodes
  pub passes_there : All (λ k. k < length mid.nodes) passes
  pub finishes_there : All (λ k. k < length mid.nodes) finishes
  pub latches_there : All (λ k. k < length mid.nodes) latches
  pub some : 1 ≤ length passes
  pub width : length finishes ≡ length passes
  pub size : length latches ≡ length passes
  pub room : length mid.nodes + (5 * length passes + 3) < 2 ^ 32

pub ready : {holds : (ℕ → Bool) → Type 0} (token start pass : ℕ) (branches : List Ends) (passes finishes latches : List ℕ) (old first mid : Circuit)
    → passes ≡ map (λ (e : Ends). e.pass) branches → finishes ≡ map (λ (e : Ends). e.finish) branches → 1 ≤ length branches
    → All (AreThere old) branches → start < length old.nodes → length old.nodes + (7 * length branches + 2) < 2 ^ 32
    → Makes (length passes - 1) passes old first (pass ∷ []) holds
    → (latches ≡ range_with_len (length first.nodes) (length branches)) × (mid ≡ with_latches first token (length branches))
    → Ready start pass passes finishes latches mid
ready token start pass branches passes finishes latches old first mid passes_are finishes_are some there start_there room passed opened =
    let longer = Adds-longer passed.adds in
    let few = Adds-room passed.adds in
    let size = latches_size token (length branches) first mid opened.1 in
    let a = ends_size (λ (e : Ends). e.pass) branches passes passes_are in
    let b = ends_size (λ (e : Ends). e.finish) branches finishes finishes_are in
    let c : length latches ≡ length branches = ap length opened.0 ∙ length-range_with_len (length first.nodes) (length branches) in
    let at = passed.there 0 0 (omega arith) in
    record {
      start_there = omega arith;
      pass_there = omega arith;
      passes_there = all_there passes (omega arith) (passes_there old branches passes passes_are there);
      finishes_there = all_there finishes (omega arith) (finishes_there old branches finishes finishes_are there);
      latches_there = λ i d within.
          let place = latch_place latches (length first.nodes) (length branches) i d opened.0 (omega arith) in
          omega arith;
      some = omega arith;
      width = omega arith;
      size = omega arith;
      room = omega arith;
    }

pub stands_open : (token : ℕ) (branches : List Ends) (latches : List ℕ) (back : List Node) (first mid all : Circuit)
    → (latches ≡ range_with_len (length first.nodes) (length branches)) × (mid ≡ with_latches first token (length branches))
    → all.nodes ≡ mid.nodes ++ back → StandOpen token first.nodes back latches all.nodes
stands_open token branches latches back first mid all opened nodes =
    let size : length latches ≡ length branches = ap length opened.0 ∙ length-range_with_len (length first.nodes) (length branches) in
    record {
      nets = opened.0 ∙ ap (λ m. range_with_len (length first.nodes) m) (sym size);
      nodes_are = nodes ∙ ap (λ (c : Circuit). c.nodes ++ back) opened.1
          ∙ append_assoc first.nodes (open_latches token (length branches)) back
          ∙ ap (λ m. first.nodes ++ (open_latches token m ++ back)) (sym size);
    }

pub some_of : (n : ℕ) → (n == 0) ≡ false → 1 ≤ n
some_of zero e = absurd cc
some_of (suc n) e = omega arith

pub none_of : (n : ℕ) → (n == 0) ≡ true → n ≡ 0
none_of zero e = refl
none_of (suc n) e = absurd (let never : true ≡ false = sym e ∙ ne_eqb (suc n) 0 (λ q. omega (arith, q)) in cc)

-- ---- the whole

module _ (token start pass : ℕ) (branches : List Ends) (passes finishes latches : List ℕ) (w : Waiting) (old first mid all new : Circuit)
    (passes_are : passes ≡ map (λ (e : Ends). e.pass) branches) (finishes_are : finishes ≡ map (λ (e : Ends). e.finish) branches) (some : 1 ≤ length branches)
    (passed : Makes (length passes - 1) passes old first (pass ∷ []) (λ v. v pass ≡ every (map v passes)))
    (opened : (latches ≡ range_with_len (length first.nodes) (length branches)) × (mid ≡ with_latches first token (length branches)))
    (waits : Waits start pass passes finishes latches mid all w)
    (clock : new.clock ≡ all.clock) (ports : new.ports ≡ all.ports)
    (fed : (t : ℕ) (front back : List Node) → StandOpen t front back latches all.nodes → new.nodes ≡ front ++ (fed_latches t w.sources (length latches) ++ back))
    (earlier : Extends all.nodes new.nodes) where
  abbrev pub n : ℕ
  n = length branches

  passes_size : length passes ≡ n
  passes_size = ap length passes_are ∙ length-map branches (λ (e : Ends). e.pass)

  latch_count : length latches ≡ n
  latch_count = ap length opened.0 ∙ length-range_with_len (length first.nodes) n

  abbrev pub back : List Node
  back = waits.adds.gates

  -- where the latches stand before they are fed
  stands : StandOpen token first.nodes back latches all.nodes
  stands = stands_open token branches latches back first mid all opened waits.adds.nodes

  nodes : new.nodes ≡ first.nodes ++ (fed_latches token w.sources (length latches) ++ back)
  nodes = fed token first.nodes back stands

  kept : (k : ℕ) (g : GateKind) (a b : ℕ) → node_at all.nodes k ≡ Gate g a b → node_at new.nodes k ≡ Gate g a b
  kept k g a b is =
      ap (λ l. node_at l k) nodes
      ∙ stays token w.sources (range_with_len 0 (length latches)) first.nodes back k g a b (ap (λ l. node_at l k) (sym stands.nodes_are) ∙ is)

  -- each latch is a flip-flop that reads its source
  latch_node : (i : ℕ) → i < length latches → node_at new.nodes (get_or latches i 0) ≡ fed_latch token w.sources i
  latch_node i within =
      ap (λ l. node_at l (get_or latches i 0)) nodes
      ∙ ap (λ m. node_at (first.nodes ++ (fed_latches token w.sources (length latches) ++ back)) m) (latch_place latches (length first.nodes) (length latches) i 0 stands.nets within)
      ∙ get_or-append-add first.nodes (fed_latches token w.sources (length latches) ++ back) i _
      ∙ get_or_append_left (fed_latches token w.sources (length latches)) back _ i (omega (arith, within, length-map-range_with_len (fed_latch token w.sources) 0 (length latches)))
      ∙ get_or-map-range_with_len (fed_latch token w.sources) 0 (length latches) i i _ within (omega arith)

  latch_does : (trace : Trace) (h : History) → Explains new.nodes trace h → (i : ℕ) → i < length latches
      → (h 0 (get_or latches i 0) ≡ false) × ((t : ℕ) → h (suc t) (get_or latches i 0) ≡ h t (slice_index w.sources i))
  latch_does trace h e i within = subst (λ (n : Node). Does trace h (get_or latches i 0) n) (latch_node i within) (e.each (get_or latches i 0))

  adds : AddsControl (6 * n + 2) token n old new
  adds =
      let gates = passed.adds.gates in
      let flops : List Node = fed_latches token w.sources (length latches) in
      record {
        added = gates ++ (flops ++ back);
        nodes = nodes ∙ ap (λ l. l ++ (flops ++ back)) passed.adds.nodes ∙ append_assoc old.nodes gates (flops ++ back);
        parts = All-append IsPart gates (flops ++ back) (All-weaker IsGate IsPart is_part gates passed.adds.only)
            (All-append IsPart flops back (latches_are_parts token w.sources (range_with_len 0 (length latches))) (All-weaker IsGate IsPart is_part back waits.adds.only));
        gates =
            let whole = gates_append gates (flops ++ back) in
            let part = gates_append flops back in
            let none = latches_have_no_gates token w.sources (range_with_len 0 (length latches)) in
            let a = gates_most gates in
            let b = gates_most back in
            let c = passed.adds.few in
            let d = waits.adds.few in
            let size = passes_size in
            omega arith;
        tokens =
            flops_append gates (flops ++ back)
            ∙ ap (λ l. l ++ flops_of (flops ++ back)) (no_flops gates passed.adds.only)
            ∙ flops_append flops back
            ∙ ap (λ l. flops_of flops ++ l) (no_flops back waits.adds.only)
            ∙ append-nil (flops_of flops)
            ∙ latches_are_tokens token w.sources (range_with_len 0 (length latches))
            ∙ ap (λ m. tokens_from token m) latch_count;
        clock = clock ∙ waits.adds.clock ∙ ap (λ (c : Circuit). c.clock) opened.1 ∙ passed.adds.clock;
        ports = ports ∙ waits.adds.ports ∙ ap (λ (c : Circuit). c.ports) opened.1 ∙ passed.adds.ports;
      }

  sizes : (length first.nodes ≤ length new.nodes) × (length all.nodes ≡ length new.nodes)
  sizes =
      let before = ap length stands.nodes_are in
      let a = length-append first.nodes (open_latches token (length latches) ++ back) in
      let b = length-append (open_latches token (length latches)) back in
      let c = length-map-range_with_len (open_latch token) 0 (length latches) in
      let after = ap length nodes in
      let d = length-append first.nodes (fed_latches token w.sources (length latches) ++ back) in
      let e = length-append (fed_latches token w.sources (length latches)) back in
      let f = length-map-range_with_len (fed_latch token w.sources) 0 (length latches) in
      (omega arith, omega arith)

  abbrev pub ends : Ends
  ends = record { pass = pass; finish = w.finish }

  front_explained : (trace : Trace) (h : History) → Explains new.nodes trace h → Explains first.nodes trace h
  front_explained trace h e =
      subst (λ (l : List Node). Explains l trace h → Explains first.nodes trace h) (sym nodes) (explains_left first.nodes _ trace h) e

  joins : (trace : Trace) (h : History) → Explains new.nodes trace h → Joins start branches ends h
  joins trace h e =
      let before = earlier trace h e in
      record {
        latch = λ t i. latch_of latches (h t) i;
        pass = λ t.
            passed.value trace h (front_explained trace h e) t
            ∙ ap (λ (l : List ℕ). every (map (h t) l)) passes_are
            ∙ ap every (map-map (h t) (λ (e : Ends). e.pass) branches);
        finish = λ t.
            waits.finish trace h before t
            ∙ ap (λ m. every (map (done_at finishes latches (h t)) (range_with_len 0 m))) passes_size
            ∙ ap every (done_is (h t) branches finishes latches finishes_are latch_count)
            ∙ some_is (done_from (h t) (latch_of latches (h t)) 0 branches) (omega (arith, some, length-done (h t) (latch_of latches (h t)) 0 branches));
        first = λ i. elim (cases_lt i (length latches)) [
          | inl low ↦ latch_is latches (h 0) i low ∙ (latch_does trace h e i low).0
          | inr high ↦ get_or_past (map (h 0) latches) i false (omega (arith, high, length-map latches (h 0)))
        ];
        later = λ t i b there.
            let within : i < n = slice_get_within branches i b there in
            let low : i < length latches = omega (arith, within, latch_count) in
            latch_is latches (h (suc t)) i low
            ∙ (latch_does trace h e i low).1 t
            ∙ waits.next trace h before t i (omega (arith, within, passes_size))
            ∙ ap (λ x. ((h t start && not (h t pass)) && h t x) || (not (h t w.finish) && done_at finishes latches (h t) i)) (end_is (λ (e : Ends). e.pass) branches passes i b passes_are there)
            ∙ ap (λ x. ((h t start && not (h t pass)) && h t b.pass) || (not (h t w.finish) && (h t x || h t (get_or latches i 0)))) (end_is (λ (e : Ends). e.finish) branches finishes i b finishes_are there)
            ∙ ap (λ x. ((h t start && not (h t pass)) && h t b.pass) || (not (h t w.finish) && (h t b.finish || x))) (sym (latch_is latches (h t) i low))
            ∙ ap (λ x. x || (not (h t w.finish) && (h t b.finish || latch_of latches (h t) i))) (set_by (h t start) (h t pass) (h t b.pass))
            ∙ ap (λ x. (h t start && (h t b.pass && not (h t pass))) || x) (kept_by (h t w.finish) (h t b.finish || latch_of latches (h t) i));
      }

  pub joined : Controls (6 * n + 2) token n (map (λ (e : Ends). e.pass) branches) (map (λ (e : Ends). e.finish) branches) old new ends (Joins start branches ends)
  joined = record {
    adds = adds;
    there = (let p = passed.there 0 0 (omega arith) in let s = sizes.0 in omega arith, let f = waits.there in let s = sizes.1 in omega arith);
    pass = subst (λ (l : List ℕ). Over new.nodes l pass) passes_are (subst (λ (l : List Node). Over l passes pass) (sym nodes) (Over-kept _ (passed.reach 0 0 (omega arith))));
    finish = record {
      own = latches;
      flops = λ i d within. subst (λ (k : ℕ). IsFlop (node_at new.nodes k)) (get_or_default latches i 0 d within) (subst IsFlop (sym (latch_node i within)) tt);
      over = subst (λ (l : List ℕ). Over new.nodes (latches ++ l) w.finish) finishes_are
          (Over-over (All-append (Over new.nodes (latches ++ finishes)) finishes latches (Over-right latches finishes) (Over-left latches finishes)) (Over-same kept waits.over));
    };
    value = joins;
  }

  -- where the pass of a branch is the constant 0, so is that of the whole
  pub joined_never : ((i : ℕ) → i < length passes → IsNever old.nodes (get_or passes i 0) → IsNever first.nodes pass)
      → (i : ℕ) (e : Ends) → slice_get branches i ≡ Some e → IsNever old.nodes e.pass → IsNever new.nodes pass
  joined_never never i e there is =
      let within : i < n = slice_get_within branches i e there in
      ap (λ l. constant_at (node_at l pass)) nodes
      ∙ constant_left first.nodes (fed_latches token w.sources (length latches) ++ back) pass false
      (never i (omega (arith, within, passes_size)) (ap (λ k. constant_at (node_at old.nodes k)) (end_is (λ (e : Ends). e.pass) branches passes i e passes_are there) ∙ is))

-- no branches
pub idle_made : (pass finish : ℕ) (old one new : Circuit)
    → (pass ≡ length old.nodes) × (one ≡ with_node old (Gate kind.One 0 0)) → (finish ≡ length one.nodes) × (new ≡ with_node one (Gate kind.Zero 0 0))
    → Makes 2 [] old new (pass ∷ finish ∷ []) (λ v. (v pass ≡ true) × (v finish ≡ false))
idle_made pass finish old one new p q =
    Makes-holds (Makes-then (Makes-gate [] old one kind.One 0 0 pass p.0 p.1 tt) (Makes-gate [] one new kind.Zero 0 0 finish q.0 q.1 tt) (Over-self [])) (omega arith) (λ v holds. holds)

pub idled : (token start : ℕ) (branches : List Ends) (old new : Circuit) (ends : Ends) → length branches ≡ 0
    → Makes 2 [] old new (ends.pass ∷ ends.finish ∷ []) (λ v. (v ends.pass ≡ true) × (v ends.finish ≡ false))
    → Controls (6 * length branches + 2) token (length branches) (map (λ (e : Ends). e.pass) branches) (map (λ (e : Ends). e.finish) branches) old new ends (Joins start branches ends)
idled token start [] old new ends none m = record {
  adds = AddsControl-gates token m.adds;
  there = (m.there 0 0 (omega arith), m.there 1 0 (omega arith));
  pass = m.reach 0 0 (omega arith);
  finish = record { own = []; flops = All-nil _; over = m.reach 1 0 (omega arith) };
  value = λ trace h e. record {
    latch = λ t i. false;
    pass = λ t. (m.value trace h e t).0;
    finish = λ t. (m.value trace h e t).1;
    first = λ i. refl;
    later = λ t i b there. absurd cc;
  };
}
idled token start (b ∷ branches) old new ends none m = absurd (omega arith)
