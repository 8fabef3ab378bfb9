-- Circuits that are added one after another, as one circuit.
use Rattle.std.proofs.Common.{◌≡◌, ◌<◌, ◌≤◌, ℕ, zero, suc, ◌+◌, List, [], ◌∷◌, ◌++◌, length, get_or, Bool, None, refl, ap, sym, ◌∙◌, subst, inl, inr, arith, append_assoc, length-append}
use Rattle.std.specs.Prelude.{All}
use Rattle.std.proofs.lemmas.List.{append-nil, get_or_append_left, get_or_past, get_or_push, get_or_default}
use Rattle.std.proofs.lemmas.List.Elements.{All-nil, All-append}
use Rattle.std.proofs.lemmas.Bool.{cases_lt}
use Rattle.hc_net.specs.Circuit.{Circuit, Does, Extends, node_at, with_node}
use Rattle.hc_net.specs.Gate.{gate_bit}
use Rattle.hc_net.specs.Seal as seal
use Rattle.hc_net.specs.Seal.{Within}
use Rattle.hc_net.specs.Made as made
use Rattle.hc_net.specs.Made.{Over, Adds, IsGate, Always, Makes}
use Rattle.hc_net.specs.declared.node.Node.{Node}
use Rattle.hc_net.specs.declared.node.Node.TheVariants.{Wire, Gate}
use Rattle.hc_net.specs.declared.gate.GateKind.{GateKind}
use Rattle.hc_net.specs.declared.gate.GateKind.TheVariants as kind

-- ---- nodes that stay

pub node_kept : (old more : List Node) (k : ℕ) (g : GateKind) (a b : ℕ) → node_at old k ≡ Gate g a b → node_at (old ++ more) k ≡ Gate g a b
node_kept old more k g a b is = elim (cases_lt k (length old)) [
  | inl low ↦ get_or_append_left old more _ k low ∙ is
  | inr high ↦ let gone : node_at old k ≡ Wire 0 None = get_or_past old k _ high in absurd cc
]

-- what a net reaches, it reaches among more nodes
pub Over-kept : {old : List Node} {args : List ℕ} {k : ℕ} (more : List Node) → Over old args k → Over (old ++ more) args k
Over-kept more (made.argument k i within is) = made.argument k i within is
Over-kept {old} more (made.zero k a b is) = made.zero k a b (node_kept old more k _ a b is)
Over-kept {old} more (made.one k a b is) = made.one k a b (node_kept old more k _ a b is)
Over-kept {old} more (made.negation k a b is x) = made.negation k a b (node_kept old more k _ a b is) (Over-kept more x)
Over-kept {old} more (made.conjunction k a b is x y) = made.conjunction k a b (node_kept old more k _ a b is) (Over-kept more x) (Over-kept more y)
Over-kept {old} more (made.disjunction k a b is x y) = made.disjunction k a b (node_kept old more k _ a b is) (Over-kept more x) (Over-kept more y)
Over-kept {old} more (made.exclusion k a b is x y) = made.exclusion k a b (node_kept old more k _ a b is) (Over-kept more x) (Over-kept more y)

-- nets that are over nets over others are over those
pub Over-over : {nodes : List Node} {args wide : List ℕ} {k : ℕ} → All (Over nodes wide) args → Over nodes args k → Over nodes wide k
Over-over {nodes} {wide = wide} all (made.argument k i within is) = subst (Over nodes wide) is (all i 0 within)
Over-over all (made.zero k a b is) = made.zero k a b is
Over-over all (made.one k a b is) = made.one k a b is
Over-over all (made.negation k a b is x) = made.negation k a b is (Over-over all x)
Over-over all (made.conjunction k a b is x y) = made.conjunction k a b is (Over-over all x) (Over-over all y)
Over-over all (made.disjunction k a b is x y) = made.disjunction k a b is (Over-over all x) (Over-over all y)
Over-over all (made.exclusion k a b is x y) = made.exclusion k a b is (Over-over all x) (Over-over all y)

-- nets over nets that reach smaller ranks alone do so too
pub Over-within : {nodes : List Node} {args : List ℕ} {rank k : ℕ} → All (Within nodes rank) args → Over nodes args k → Within nodes rank k
Over-within {nodes} {rank = rank} all (made.argument k i within is) = subst (Within nodes rank) is (all i 0 within)
Over-within all (made.zero k a b is) = seal.zero k a b is
Over-within all (made.one k a b is) = seal.one k a b is
Over-within all (made.negation k a b is x) = seal.negation k a b is (Over-within all x)
Over-within all (made.conjunction k a b is x y) = seal.conjunction k a b is (Over-within all x) (Over-within all y)
Over-within all (made.disjunction k a b is x y) = seal.disjunction k a b is (Over-within all x) (Over-within all y)
Over-within all (made.exclusion k a b is x y) = seal.exclusion k a b is (Over-within all x) (Over-within all y)

-- each of the nets themselves
pub Over-self : {nodes : List Node} (args : List ℕ) → All (Over nodes args) args
Over-self args i d within = made.argument _ i within (get_or_default args i 0 d within)

-- the first and the last of the nets
pub Over-left : {nodes : List Node} (xs ys : List ℕ) → All (Over nodes (xs ++ ys)) xs
Over-left xs ys i d within =
    made.argument _ i (omega (arith, length-append xs ys, within)) (get_or_append_left xs ys 0 i within ∙ get_or_default xs i 0 d within)

-- ---- what is added

pub Adds-none : (c : Circuit) → Adds 0 c c
Adds-none c = record { gates = []; nodes = sym (append-nil _); only = All-nil IsGate; few = omega arith; clock = refl; ports = refl }

pub Adds-most : {most more : ℕ} {old new : Circuit} → most ≤ more → Adds most old new → Adds more old new
Adds-most le a = record { gates = a.gates; nodes = a.nodes; only = a.only; few = let few = a.few in omega arith; clock = a.clock; ports = a.ports }

pub Adds-then : {m n : ℕ} {old mid new : Circuit} → Adds m old mid → Adds n mid new → Adds (m + n) old new
Adds-then {old} a b = record {
  gates = a.gates ++ b.gates;
  nodes = b.nodes ∙ ap (λ l. l ++ b.gates) a.nodes ∙ append_assoc old.nodes a.gates b.gates;
  only = All-append IsGate a.gates b.gates a.only b.only;
  few = let x = a.few in let y = b.few in omega (arith, length-append a.gates b.gates);
  clock = b.clock ∙ a.clock;
  ports = b.ports ∙ a.ports;
}

pub Adds-longer : {most : ℕ} {old new : Circuit} → Adds most old new → length old.nodes ≤ length new.nodes
Adds-longer {old} a = omega (arith, ap length a.nodes, length-append old.nodes a.gates)

pub Adds-room : {most : ℕ} {old new : Circuit} → Adds most old new → length new.nodes ≤ length old.nodes + most
Adds-room {old} a = let few = a.few in omega (arith, ap length a.nodes, length-append old.nodes a.gates)

-- nets that are there stay there
pub all_there : {m n : ℕ} (nets : List ℕ) → m ≤ n → All (λ k. k < m) nets → All (λ k. k < n) nets
all_there nets le all i d within = let h = all i d within in omega arith

pub Adds-there : {most : ℕ} {old new : Circuit} (nets : List ℕ) → Adds most old new → All (λ k. k < length old.nodes) nets → All (λ k. k < length new.nodes) nets
Adds-there nets a all = all_there nets (Adds-longer a) all

pub Adds-over : {most : ℕ} {old new : Circuit} {args : List ℕ} (nets : List ℕ) → Adds most old new → All (Over old.nodes args) nets → All (Over new.nodes args) nets
Adds-over {args = args} nets a all = subst (λ (l : List Node). All (Over l args) nets) (sym a.nodes) (λ i d within. Over-kept a.gates (all i d within))

-- histories that explain more nodes explain the first ones
explains_front : (xs ys : List Node) → Extends xs (xs ++ ys)
explains_front xs ys trace h e = record {
  each = λ k. elim (cases_lt k (length xs)) [
    | inl low ↦ subst (λ (n : Node). Does trace h k n) (get_or_append_left xs ys _ k low) (e.each k)
    | inr high ↦ subst (λ (n : Node). Does trace h k n) (sym (get_or_past xs k _ high)) tt
  ];
}

pub Adds-extends : {most : ℕ} {old new : Circuit} → Adds most old new → Extends old.nodes new.nodes
Adds-extends {old} a = subst (λ (l : List Node). Extends old.nodes l) (sym a.nodes) (explains_front old.nodes a.gates)

pub Adds-always : {most : ℕ} {old new : Circuit} (holds : (ℕ → Bool) → Type 0) → Adds most old new → Always old.nodes holds → Always new.nodes holds
Adds-always holds a all trace h e t = all trace h (Adds-extends a trace h e) t

-- ---- circuits one after another

-- nothing is added: some of the nets themselves
pub Makes-none : (c : Circuit) (args nets : List ℕ) → All (λ k. k < length c.nodes) nets → All (Over c.nodes args) nets → Makes 0 args c c nets (λ v. Unit {0})
Makes-none c args nets there reach = record { adds = Adds-none c; there = there; reach = reach; value = λ trace h e t. tt }

-- the second circuit over nets of the first: the nets of both, and what holds of both
pub Makes-then : {m n : ℕ} {args mid_args nets more : List ℕ} {old mid new : Circuit} {first second : (ℕ → Bool) → Type 0}
    → Makes m args old mid nets first → Makes n mid_args mid new more second → All (Over mid.nodes args) mid_args
    → Makes (m + n) args old new (nets ++ more) (λ v. first v × second v)
Makes-then {args = args} {mid_args = mid_args} {nets = nets} {more = more} {new = new} a b over = record {
  adds = Adds-then a.adds b.adds;
  there = All-append (λ k. k < length new.nodes) nets more (Adds-there nets b.adds a.there) b.there;
  reach = All-append (Over new.nodes args) nets more (Adds-over nets b.adds a.reach) (λ i d within. Over-over (Adds-over mid_args b.adds over) (b.reach i d within));
  value = λ trace h e t. (a.value trace h (Adds-extends b.adds trace h e) t, b.value trace h e t);
}

-- the same where the nets of the first are not wanted
pub Makes-last : {m n : ℕ} {args mid_args nets more : List ℕ} {old mid new : Circuit} {first second : (ℕ → Bool) → Type 0}
    → Makes m args old mid nets first → Makes n mid_args mid new more second → All (Over mid.nodes args) mid_args
    → Makes (m + n) args old new more (λ v. first v × second v)
Makes-last {mid_args = mid_args} a b over = record {
  adds = Adds-then a.adds b.adds;
  there = b.there;
  reach = λ i d within. Over-over (Adds-over mid_args b.adds over) (b.reach i d within);
  value = λ trace h e t. (a.value trace h (Adds-extends b.adds trace h e) t, b.value trace h e t);
}

-- other nets that the first ones or the arguments name, a greater bound, and what follows of the bits
pub Makes-as : {m n : ℕ} {args nets chosen : List ℕ} {old new : Circuit} {holds so : (ℕ → Bool) → Type 0}
    → Makes m args old new nets holds → m ≤ n → All (λ k. k < length new.nodes) chosen → All (Over new.nodes args) chosen
    → ((v : ℕ → Bool) → holds v → so v) → Makes n args old new chosen so
Makes-as a le there reach follows = record {
  adds = Adds-most le a.adds;
  there = there;
  reach = reach;
  value = λ trace h e t. follows (h t) (a.value trace h e t);
}

pub Makes-holds : {m n : ℕ} {args nets : List ℕ} {old new : Circuit} {holds so : (ℕ → Bool) → Type 0}
    → Makes m args old new nets holds → m ≤ n → ((v : ℕ → Bool) → holds v → so v) → Makes n args old new nets so
Makes-holds a le follows = Makes-as a le a.there a.reach follows

-- ---- one gate

-- a gate over nets of `args` alone
abbrev pub GateOver : List Node → List ℕ → GateKind → ℕ → ℕ → Type 0
GateOver nodes args kind.Zero a b = Unit {0}
GateOver nodes args kind.One a b = Unit {0}
GateOver nodes args kind.Not a b = Over nodes args a
GateOver nodes args kind.And a b = Over nodes args a × Over nodes args b
GateOver nodes args kind.Or a b = Over nodes args a × Over nodes args b
GateOver nodes args kind.Xor a b = Over nodes args a × Over nodes args b

gate_over : (nodes : List Node) (args : List ℕ) (k : ℕ) (g : GateKind) (a b : ℕ) → node_at nodes k ≡ Gate g a b → GateOver nodes args g a b → Over nodes args k
gate_over nodes args k kind.Zero a b is over = made.zero k a b is
gate_over nodes args k kind.One a b is over = made.one k a b is
gate_over nodes args k kind.Not a b is over = made.negation k a b is over
gate_over nodes args k kind.And a b is over = made.conjunction k a b is over.0 over.1
gate_over nodes args k kind.Or a b is over = made.disjunction k a b is over.0 over.1
gate_over nodes args k kind.Xor a b is over = made.exclusion k a b is over.0 over.1

gate_kept : (old more : List Node) (args : List ℕ) (g : GateKind) (a b : ℕ) → GateOver old args g a b → GateOver (old ++ more) args g a b
gate_kept old more args kind.Zero a b over = tt
gate_kept old more args kind.One a b over = tt
gate_kept old more args kind.Not a b over = Over-kept more over
gate_kept old more args kind.And a b over = (Over-kept more over.0, Over-kept more over.1)
gate_kept old more args kind.Or a b over = (Over-kept more over.0, Over-kept more over.1)
gate_kept old more args kind.Xor a b over = (Over-kept more over.0, Over-kept more over.1)

-- what `Builder::gate` adds, as a circuit
pub Makes-gate : (args : List ℕ) (old new : Circuit) (g : GateKind) (a b net : ℕ) → net ≡ length old.nodes → new ≡ with_node old (Gate g a b) → GateOver old.nodes args g a b
    → Makes 1 args old new (net ∷ []) (λ v. v net ≡ gate_bit g (v a) (v b))
Makes-gate args old new g a b net net_is new_is over =
    let nodes : new.nodes ≡ old.nodes ++ Gate g a b ∷ [] = ap (λ c. c.nodes) new_is in
    let at : node_at new.nodes net ≡ Gate g a b = ap (λ l. node_at l net) nodes ∙ get_or_push old.nodes (Gate g a b) _ net (sym net_is) in
    record {
      adds = record {
        gates = Gate g a b ∷ [];
        nodes = nodes;
        only = λ i d within. one_gate i d within;
        few = omega arith;
        clock = ap (λ c. c.clock) new_is;
        ports = ap (λ c. c.ports) new_is;
      };
      there = λ i d within. one_there i d within (omega (arith, ap length nodes, length-append old.nodes (Gate g a b ∷ [])));
      reach = λ i d within. one_over i d within (gate_over new.nodes args net g a b at (subst (λ (l : List Node). GateOver l args g a b) (sym nodes) (gate_kept old.nodes (Gate g a b ∷ []) args g a b over)));
      value = λ trace h e t. subst (λ (n : Node). Does trace h net n) at (e.each net) t;
    }
  where
    one_gate : (i : ℕ) (d : Node) → i < 1 → IsGate (get_or (Gate g a b ∷ []) i d)
    one_gate zero d within = tt
    one_gate (suc i) d within = absurd (omega (arith, within))

    one_there : (i d : ℕ) → i < 1 → net < length new.nodes → get_or (net ∷ []) i d < length new.nodes
    one_there zero d within is = is
    one_there (suc i) d within is = absurd (omega (arith, within))

    one_over : (i d : ℕ) → i < 1 → Over new.nodes args net → Over new.nodes args (get_or (net ∷ []) i d)
    one_over zero d within is = is
    one_over (suc i) d within is = absurd (omega (arith, within))
