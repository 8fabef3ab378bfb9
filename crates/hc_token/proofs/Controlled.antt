-- What gates and flip-flops add, as control.
use Rattle.std.proofs.Common.{◌≡◌, ◌≤◌, ℕ, ◌+◌, List, [], ◌∷◌, ◌++◌, length, set, Bool, false, not, ◌&&◌, ◌||◌, Some, None, refl, ap, sym, ◌∙◌, subst, arith, append_assoc, length-append}
use Rattle.std.proofs.lemmas.List.{get_or_push, get_or_append_left, set_at, length_push}
use Rattle.std.proofs.lemmas.List.Elements.{All-nil, All-weaker}
use Rattle.hc_net.specs.Circuit.{Circuit, History, Does, node_at, reading, with_node, with_node_at}
use Rattle.hc_net.specs.Made.{Over, argument, IsGate, Adds, Makes}
use Rattle.hc_net.specs.MadeLemmas.{Adds-most, Adds-then, Adds-there, Adds-over, Adds-extends, Makes-then, Makes-last}
use Rattle.hc_net.specs.Made as made
use Rattle.hc_net.specs.declared.net.FlopName.{FlopName}
use Rattle.hc_net.specs.declared.net.FlopName.TheVariants.{Token}
use Rattle.hc_net.specs.declared.node.Node.{Node}
use Rattle.hc_net.specs.declared.node.Node.TheVariants.{Input, Flop, Wire, Gate, Ram}
use Rattle.hc_net.specs.declared.gate.GateKind.TheVariants as kind
use Rattle.hc_token.specs.Control.{IsPart, IsFlop, AddsControl, Controls, tokens_from}
use Rattle.hc_token.specs.Counting.{gates_most, no_flops}
use Rattle.hc_token.specs.Circuits.{Acts, Follows, Branches, Repeats}
use Rattle.hc_token.specs.declared.ends.Ends.{Ends}
use Rattle.hc_token.proofs.Parts.{All-one, All-two, Makes-over}

-- ---- gates alone

pub is_part : (n : Node) → IsGate n → IsPart n
is_part (Input p i) g = absurd g
is_part (Flop name init d) g = absurd g
is_part (Wire rank from) g = absurd g
is_part (Gate k a b) g = tt
is_part (Ram rank first ram) g = absurd g

pub AddsControl-gates : {most : ℕ} {old new : Circuit} (token : ℕ) → Adds most old new → AddsControl most token 0 old new
AddsControl-gates token a = record {
  added = a.gates;
  nodes = a.nodes;
  parts = All-weaker IsGate IsPart is_part a.gates a.only;
  gates = let count = gates_most a.gates in let few = a.few in omega arith;
  tokens = no_flops a.gates a.only;
  clock = a.clock;
  ports = a.ports;
}

-- a circuit that gives the pass, and behind it one that gives the finish
pub Controls-both : {m n most : ℕ} {passes finishes : List ℕ} {old mid new : Circuit} {first second : (ℕ → Bool) → Type 0} (token pass finish : ℕ) (holds : History → Type 0)
    → Makes m passes old mid (pass ∷ []) first → Makes n finishes mid new (finish ∷ []) second → m + n ≤ most
    → ((h : History) → ((t : ℕ) → first (h t) × second (h t)) → holds h)
    → Controls most token 0 passes finishes old new (record { pass = pass; finish = finish }) holds
Controls-both token pass finish holds a b le follows = record {
  adds = AddsControl-gates token (Adds-most le (Adds-then a.adds b.adds));
  there = (Adds-there (pass ∷ []) b.adds a.there 0 0 (omega arith), b.there 0 0 (omega arith));
  pass = Adds-over (pass ∷ []) b.adds a.reach 0 0 (omega arith);
  finish = record { own = []; flops = All-nil _; over = b.reach 0 0 (omega arith) };
  value = λ trace h e. follows h (λ t. (a.value trace h (Adds-extends b.adds trace h e) t, b.value trace h e t));
}

-- ---- the circuits

pub followed : (token pass through finish : ℕ) (first second : Ends) (old one two new : Circuit)
    → Makes 1 (first.pass ∷ second.pass ∷ []) old one (pass ∷ []) (λ v. v pass ≡ (v first.pass && v second.pass))
    → Makes 1 (first.finish ∷ second.pass ∷ []) one two (through ∷ []) (λ v. v through ≡ (v first.finish && v second.pass))
    → Makes 1 (second.finish ∷ through ∷ []) two new (finish ∷ []) (λ v. v finish ≡ (v second.finish || v through))
    → Controls 3 token 0 (first.pass ∷ second.pass ∷ []) (second.finish ∷ first.finish ∷ second.pass ∷ []) old new (record { pass = pass; finish = finish }) (Follows first second (record { pass = pass; finish = finish }))
followed token pass through finish first second old one two new a b c =
    let finishes = second.finish ∷ first.finish ∷ second.pass ∷ [] in
    let wide = Makes-over b (All-two (Over one.nodes finishes) first.finish second.pass (argument _ 1 (omega arith) refl) (argument _ 2 (omega arith) refl)) in
    let ends = Makes-last wide c (All-two (Over two.nodes finishes) second.finish through (argument _ 0 (omega arith) refl) (wide.reach 0 0 (omega arith))) in
    Controls-both token pass finish _ a ends (omega arith)
    (λ h holds. record {
      pass = λ t. (holds t).0;
      finish = λ t. (holds t).1.1 ∙ ap (λ x. h t second.finish || x) (holds t).1.0;
    })

pub branched : (token c by_yes otherwise by_no pass finish : ℕ) (x y : Ends) (old one two three four new : Circuit)
    → Makes 1 (c ∷ x.pass ∷ []) old one (by_yes ∷ []) (λ v. v by_yes ≡ (v c && v x.pass))
    → Makes 1 (c ∷ []) one two (otherwise ∷ []) (λ v. v otherwise ≡ not (v c))
    → Makes 1 (otherwise ∷ y.pass ∷ []) two three (by_no ∷ []) (λ v. v by_no ≡ (v otherwise && v y.pass))
    → Makes 1 (by_yes ∷ by_no ∷ []) three four (pass ∷ []) (λ v. v pass ≡ (v by_yes || v by_no))
    → Makes 1 (x.finish ∷ y.finish ∷ []) four new (finish ∷ []) (λ v. v finish ≡ (v x.finish || v y.finish))
    → Controls 5 token 0 (c ∷ x.pass ∷ y.pass ∷ []) (x.finish ∷ y.finish ∷ []) old new (record { pass = pass; finish = finish }) (Branches c x y (record { pass = pass; finish = finish }))
branched token c by_yes otherwise by_no pass finish x y old one two three four new a b d e f =
    let passes = c ∷ x.pass ∷ y.pass ∷ [] in
    let wide = Makes-over a (All-two (Over old.nodes passes) c x.pass (argument _ 0 (omega arith) refl) (argument _ 1 (omega arith) refl)) in
    let ab = Makes-then wide b (All-one (Over one.nodes passes) c (argument _ 0 (omega arith) refl)) in
    let abd = Makes-then ab d (All-two (Over two.nodes passes) otherwise y.pass (ab.reach 1 0 (omega arith)) (argument _ 2 (omega arith) refl)) in
    let abde = Makes-last abd e (All-two (Over three.nodes passes) by_yes by_no (abd.reach 0 0 (omega arith)) (abd.reach 2 0 (omega arith))) in
    Controls-both token pass finish _ abde f (omega arith)
    (λ h holds. record {
      pass = λ t.
          (holds t).0.1
          ∙ ap (λ z. z || h t by_no) (holds t).0.0.0.0
          ∙ ap (λ z. (h t c && h t x.pass) || z) ((holds t).0.0.1 ∙ ap (λ z. z && h t y.pass) (holds t).0.0.0.1);
      finish = λ t. (holds t).1;
    })

pub repeated : (token c pass finish : ℕ) (body : Ends) (old one new : Circuit)
    → Makes 1 (c ∷ []) old one (pass ∷ []) (λ v. v pass ≡ not (v c))
    → Makes 1 (body.finish ∷ pass ∷ []) one new (finish ∷ []) (λ v. v finish ≡ (v body.finish && v pass))
    → Controls 2 token 0 (c ∷ []) (body.finish ∷ c ∷ []) old new (record { pass = pass; finish = finish }) (Repeats c body (record { pass = pass; finish = finish }))
repeated token c pass finish body old one new a b =
    let finishes = body.finish ∷ c ∷ [] in
    let wide = Makes-over a (All-one (Over old.nodes finishes) c (argument _ 1 (omega arith) refl)) in
    let ends = Makes-over b (All-two (Over one.nodes finishes) body.finish pass (argument _ 0 (omega arith) refl) (wide.reach 0 0 (omega arith))) in
    Controls-both token pass finish _ a ends (omega arith)
    (λ h holds. record {
      pass = λ t. (holds t).0;
      finish = λ t. (holds t).1 ∙ ap (λ x. h t body.finish && x) (holds t).0;
    })

-- ---- an action

-- a flip-flop that was added is fed where it stands
fed_push : (nodes : List Node) (net d : ℕ) (name : FlopName) (init : Bool) → net ≡ length nodes
    → set (nodes ++ Flop name init None ∷ []) net (reading d (node_at (nodes ++ Flop name init None ∷ []) net)) ≡ nodes ++ Flop name init (Some d) ∷ []
fed_push nodes net d name init at =
    ap (λ n. set (nodes ++ Flop name init None ∷ []) net (reading d n)) (get_or_push nodes (Flop name init None) _ net (sym at))
    ∙ set_at nodes (Flop name init None) [] (Flop name init (Some d)) net (sym at)

one_token : (token : ℕ) → (Token token, false) ∷ [] ≡ tokens_from token 1
one_token token = let e : token ≡ token + 0 = omega arith in ap (λ n. (Token n, false) ∷ []) e

-- the flip-flop of a token, added and then fed
token_added : (token start finish : ℕ) (one two new : Circuit)
    → (finish ≡ length one.nodes) × (two ≡ with_node one (Flop (Token token) false None))
    → new ≡ with_node_at two finish (reading start (node_at two.nodes finish))
    → new.nodes ≡ one.nodes ++ Flop (Token token) false (Some start) ∷ []
token_added token start finish one two new q fed =
    ap (λ (c : Circuit). c.nodes) fed ∙ ap (λ (c : Circuit). set c.nodes finish (reading start (node_at c.nodes finish))) q.1 ∙ fed_push one.nodes finish start (Token token) false q.0

-- the pass is a gate that gives the constant 0
pub acted_pass : (token start pass finish : ℕ) (old one two new : Circuit)
    → (pass ≡ length old.nodes) × (one ≡ with_node old (Gate kind.Zero 0 0))
    → (finish ≡ length one.nodes) × (two ≡ with_node one (Flop (Token token) false None))
    → new ≡ with_node_at two finish (reading start (node_at two.nodes finish))
    → node_at new.nodes pass ≡ Gate kind.Zero 0 0
acted_pass token start pass finish old one two new p q fed =
    let zero_gate : Node = Gate kind.Zero 0 0 in
    let first : one.nodes ≡ old.nodes ++ zero_gate ∷ [] = ap (λ (c : Circuit). c.nodes) p.1 in
    let before : length one.nodes ≡ length old.nodes + 1 = ap length first ∙ length_push old.nodes zero_gate in
    ap (λ l. node_at l pass) (token_added token start finish one two new q fed)
    ∙ get_or_append_left one.nodes _ _ pass (omega (arith, p.0))
    ∙ ap (λ l. node_at l pass) first
    ∙ get_or_push old.nodes zero_gate _ pass (sym p.0)

pub acted : (token start pass finish : ℕ) (old one two new : Circuit)
    → (pass ≡ length old.nodes) × (one ≡ with_node old (Gate kind.Zero 0 0))
    → (finish ≡ length one.nodes) × (two ≡ with_node one (Flop (Token token) false None))
    → new ≡ with_node_at two finish (reading start (node_at two.nodes finish))
    → Controls 1 token 1 [] [] old new (record { pass = pass; finish = finish }) (Acts start (record { pass = pass; finish = finish }))
acted token start pass finish old one two new p q fed =
    let zero_gate : Node = Gate kind.Zero 0 0 in
    let flop : Node = Flop (Token token) false (Some start) in
    let first : one.nodes ≡ old.nodes ++ zero_gate ∷ [] = ap (λ (c : Circuit). c.nodes) p.1 in
    let last : new.nodes ≡ one.nodes ++ flop ∷ [] = token_added token start finish one two new q fed in
    let nodes : new.nodes ≡ old.nodes ++ (zero_gate ∷ flop ∷ []) = last ∙ ap (λ l. l ++ flop ∷ []) first ∙ append_assoc old.nodes (zero_gate ∷ []) (flop ∷ []) in
    let gate_at : node_at new.nodes pass ≡ zero_gate = acted_pass token start pass finish old one two new p q fed in
    let flop_at : node_at new.nodes finish ≡ flop = ap (λ l. node_at l finish) last ∙ get_or_push one.nodes flop _ finish (sym q.0) in
    let size : length new.nodes ≡ length old.nodes + 2 = ap length nodes ∙ length-append old.nodes (zero_gate ∷ flop ∷ []) in
    let before : length one.nodes ≡ length old.nodes + 1 = ap length first ∙ length_push old.nodes zero_gate in
    record {
      adds = record {
        added = zero_gate ∷ flop ∷ [];
        nodes = nodes;
        parts = All-two IsPart zero_gate flop tt tt;
        gates = omega arith;
        tokens = one_token token;
        clock = ap (λ (c : Circuit). c.clock) fed ∙ ap (λ (c : Circuit). c.clock) q.1 ∙ ap (λ (c : Circuit). c.clock) p.1;
        ports = ap (λ (c : Circuit). c.ports) fed ∙ ap (λ (c : Circuit). c.ports) q.1 ∙ ap (λ (c : Circuit). c.ports) p.1;
      };
      there = (let at = p.0 in omega arith, let at = q.0 in omega arith);
      pass = made.zero pass 0 0 gate_at;
      finish = record {
        own = finish ∷ [];
        flops = All-one (λ k. IsFlop (node_at new.nodes k)) finish (subst IsFlop (sym flop_at) tt);
        over = argument finish 0 (omega arith) refl;
      };
      value = λ trace h e. record {
        pass = subst (λ (n : Node). Does trace h pass n) gate_at (e.each pass);
        first = (subst (λ (n : Node). Does trace h finish n) flop_at (e.each finish)).0;
        later = (subst (λ (n : Node). Does trace h finish n) flop_at (e.each finish)).1;
      };
    }
