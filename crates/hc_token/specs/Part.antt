-- What a part of control adds to a circuit: gates, tokens, and placeholders that are driven once what drives them stands, as a loop's
-- start behind its own finish, or an end of a channel before its partner is built.
use Rattle.std.proofs.Common.{◌≡◌, ◌<◌, ◌≤◌, ℕ, zero, suc, ◌+◌, ◌-◌, ◌⊎◌, List, [], ◌∷◌, ◌++◌, length, set, false, Some, None, refl, ap, sym, ◌∙◌, subst, inl, inr, arith, append_assoc, length-append}
use Rattle.std.specs.Prelude.{All}
use Rattle.std.specs.List.{Contains}
use Rattle.std.proofs.lemmas.List.{append-nil, get_or_append_left, get_or-append_right, get_or_at, length_push, length-set, set-append_right, set_at}
use Rattle.std.proofs.lemmas.List.Elements.{All-nil, All-cons, All-head, All-tail, All-weaker, Contains-append_left, Contains-append_right, Contains-push}
use Rattle.std.proofs.lemmas.Map.Made.{Contains-tail}
use Rattle.hc_net.specs.Circuit.{Circuit, Extends, IsUndriven, flops_of, gates_of, node_at, reading, with_node, with_node_at}
use Rattle.hc_net.specs.Frame.{Low, Keeps, keeps_behind, keeps_connected, keeps_same}
use Rattle.hc_net.specs.Made.{Adds, IsGate}
use Rattle.hc_net.specs.declared.gate.GateKind.{GateKind}
use Rattle.hc_net.specs.declared.net.FlopName.TheVariants.{Token}
use Rattle.hc_net.specs.declared.node.Node.{Node}
use Rattle.hc_net.specs.declared.node.Node.TheVariants.{Input, Flop, Wire, Gate, Ram}
use Rattle.hc_token.specs.Control as control
use Rattle.hc_token.specs.Control.{IsPart, tokens_from}
use Rattle.hc_token.specs.Counting.{gates_append, flops_append, gates_driven, flops_driven, gates_most, no_flops, part_size, tokens_size, tokens_append, tokens_before}
use Rattle.hc_token.specs.Growing.{Grows, grows_behind}

-- a gate, a flip-flop that is fed, or a placeholder that is driven by what reaches smaller ranks alone
abbrev pub IsClosed : List Node → Node → Type 0
IsClosed nodes (Input p i) = ⊥
IsClosed nodes (Flop name init None) = ⊥
IsClosed nodes (Flop name init (Some d)) = Unit {0}
IsClosed nodes (Wire rank None) = ⊥
IsClosed nodes (Wire rank (Some d)) = Low nodes rank d
IsClosed nodes (Gate g a b) = Unit {0}
IsClosed nodes (Ram rank first ram) = ⊥

pub closed_kept : {old new : List Node} → Keeps old new → (n : Node) → IsClosed old n → IsClosed new n
closed_kept keeps (Input p i) is = absurd is
closed_kept keeps (Flop name init None) is = absurd is
closed_kept keeps (Flop name init (Some d)) is = tt
closed_kept keeps (Wire rank None) is = absurd is
closed_kept keeps (Wire rank (Some d)) is = keeps.low rank d is
closed_kept keeps (Gate g a b) is = tt
closed_kept keeps (Ram rank first ram) is = absurd is

-- Nodes from net k on are closed, save placeholders that are open yet and that this list names.
abbrev pub AreClosed : List Node → List ℕ → ℕ → List Node → Type 0
AreClosed nodes undriven k [] = Unit {0}
AreClosed nodes undriven k (n ∷ rest) = (IsClosed nodes n ⊎ (IsUndriven n × Contains undriven k)) × AreClosed nodes undriven (suc k) rest

-- A part of control was added: at most so many gates and placeholders, so many tokens from this number on, and all of it is
-- closed but the placeholders that a list names.
pub record AddsPart (most token count : ℕ) (undriven : List ℕ) (old new : Circuit) : Type 0 where
  pub added : List Node
  pub nodes : new.nodes ≡ old.nodes ++ added
  pub parts : AreClosed new.nodes undriven (length old.nodes) added
  pub size : length added ≤ most + count
  pub gates : gates_of added ≤ most
  pub tokens : flops_of added ≡ tokens_from token count
  pub clock : new.clock ≡ old.clock
  pub ports : new.ports ≡ old.ports

-- where no placeholder is open, all nodes are closed, and the other way round
pub all_closed : (nodes : List Node) (undriven : List ℕ) (k : ℕ) (list : List Node) → All (IsClosed nodes) list → AreClosed nodes undriven k list
all_closed nodes undriven k [] all = tt
all_closed nodes undriven k (n ∷ rest) all = (inl (All-head (IsClosed nodes) n rest all), all_closed nodes undriven (suc k) rest (All-tail (IsClosed nodes) n rest all))

pub none_open : (nodes : List Node) (k : ℕ) (list : List Node) → AreClosed nodes [] k list → All (IsClosed nodes) list
none_open nodes k [] are = All-nil (IsClosed nodes)
none_open nodes k (n ∷ rest) are = elim are.0 [
  | inl closed ↦ All-cons (IsClosed nodes) n rest closed (none_open nodes (suc k) rest are.1)
  | inr left ↦ absurd (omega (arith, left.1.1))
]

-- more of a circuit, and more names
pub part_kept : {old new : List Node} (undriven wide : List ℕ) → Keeps old new → ((k : ℕ) → Contains undriven k → Contains wide k) → (k : ℕ) (list : List Node)
    → AreClosed old undriven k list → AreClosed new wide k list
part_kept undriven wide keeps names k [] are = tt
part_kept undriven wide keeps names k (n ∷ rest) are = (
  elim are.0 [
    | inl closed ↦ inl (closed_kept keeps n closed)
    | inr left ↦ inr (left.0, names k left.1)
  ],
  part_kept undriven wide keeps names (suc k) rest are.1,
)

-- nodes behind nodes
pub closed_append : (nodes : List Node) (undriven : List ℕ) (k : ℕ) (xs ys : List Node) → AreClosed nodes undriven k xs → AreClosed nodes undriven (k + length xs) ys → AreClosed nodes undriven k (xs ++ ys)
closed_append nodes undriven k [] ys first behind = let e : k + 0 ≡ k = omega arith in subst (λ n. AreClosed nodes undriven n ys) e behind
closed_append nodes undriven k (x ∷ xs) ys first behind =
    let e : k + suc (length xs) ≡ suc k + length xs = omega arith in
    (first.0, closed_append nodes undriven (suc k) xs ys first.1 (subst (λ n. AreClosed nodes undriven n ys) e behind))

-- a name that none of the nodes has is no matter
closed_less : (nodes : List Node) (net : ℕ) (rest : List ℕ) (k : ℕ) (list : List Node) → net < k → AreClosed nodes (net ∷ rest) k list → AreClosed nodes rest k list
closed_less nodes net rest k [] below are = tt
closed_less nodes net rest k (n ∷ list) below are = (
  elim are.0 [
    | inl closed ↦ inl closed
    | inr left ↦ inr (left.0, Contains-tail net rest k (λ same. absurd (omega (arith, same, below))) left.1)
  ],
  closed_less nodes net rest (suc k) list (omega (arith, below)) are.1,
)

-- A placeholder that is open is driven by what reaches smaller ranks alone: it is open no longer.
closed_driven : (nodes : List Node) (net d rank : ℕ) (rest : List ℕ) (k i : ℕ) (list : List Node) → net ≡ k + i → i < length list → Low nodes rank d
    → AreClosed nodes (net ∷ rest) k list → AreClosed nodes rest k (set list i (Wire rank (Some d)))
closed_driven nodes net d rank rest k i [] is within low are = absurd (omega (arith, within))
closed_driven nodes net d rank rest k zero (n ∷ list) is within low are = (inl low, closed_less nodes net rest (suc k) list (omega (arith, is)) are.1)
closed_driven nodes net d rank rest k (suc i) (n ∷ list) is within low are = (
  elim are.0 [
    | inl closed ↦ inl closed
    | inr left ↦ inr (left.0, Contains-tail net rest k (λ same. absurd (omega (arith, same, is))) left.1)
  ],
  closed_driven nodes net d rank rest (suc k) i list (omega (arith, is)) (omega (arith, within)) low are.1,
)

-- gates, and gates with tokens, are closed
pub closed_gate : (nodes : List Node) (n : Node) → IsGate n → IsClosed nodes n
closed_gate nodes (Input p i) is = absurd is
closed_gate nodes (Flop name init d) is = absurd is
closed_gate nodes (Wire rank from) is = absurd is
closed_gate nodes (Gate k a b) is = tt
closed_gate nodes (Ram rank first ram) is = absurd is

pub closed_part : (nodes : List Node) (n : Node) → IsPart n → IsClosed nodes n
closed_part nodes (Input p i) is = absurd is
closed_part nodes (Flop name init None) is = absurd is
closed_part nodes (Flop name init (Some d)) is = tt
closed_part nodes (Wire rank from) is = absurd is
closed_part nodes (Gate k a b) is = tt
closed_part nodes (Ram rank first ram) is = absurd is

-- ---- parts

pub keeps_part : {most token count : ℕ} {undriven : List ℕ} {old new : Circuit} → AddsPart most token count undriven old new → Keeps old.nodes new.nodes
keeps_part a = keeps_behind a.added a.nodes

pub grows_part : {most token count : ℕ} {undriven : List ℕ} {old new : Circuit} → AddsPart most token count undriven old new → Grows old.nodes new.nodes
grows_part a = grows_behind a.added a.nodes

pub keeps_tokens : {most token count : ℕ} {old new : Circuit} → control.AddsControl most token count old new → Keeps old.nodes new.nodes
keeps_tokens a = keeps_behind a.added a.nodes

-- how many nodes there are
pub part_room : {most token count : ℕ} {undriven : List ℕ} {old new : Circuit} → AddsPart most token count undriven old new → length new.nodes ≤ length old.nodes + (most + count)
part_room {old = old} a = let size = a.size in omega (arith, ap length a.nodes, length-append old.nodes a.added)

-- what stands before it
pub part_front : {most token count : ℕ} {undriven : List ℕ} {old new : Circuit} (k : ℕ) → AddsPart most token count undriven old new → k < length old.nodes
    → node_at new.nodes k ≡ node_at old.nodes k
part_front {old = old} k a low = ap (λ l. node_at l k) a.nodes ∙ get_or_append_left old.nodes a.added _ k low

pub part_none : (token : ℕ) (c : Circuit) → AddsPart 0 token 0 [] c c
part_none token c = record {
  added = [];
  nodes = sym (append-nil c.nodes);
  parts = tt;
  size = omega arith;
  gates = omega arith;
  tokens = refl;
  clock = refl;
  ports = refl;
}

-- a gate
pub part_gate : {old new : Circuit} (token : ℕ) (g : GateKind) (a b : ℕ) → new ≡ with_node old (Gate g a b) → AddsPart 1 token 0 [] old new
part_gate token g a b is = record {
  added = Gate g a b ∷ [];
  nodes = ap (λ (c : Circuit). c.nodes) is;
  parts = (inl tt, tt);
  size = omega arith;
  gates = omega arith;
  tokens = refl;
  clock = ap (λ (c : Circuit). c.clock) is;
  ports = ap (λ (c : Circuit). c.ports) is;
}

-- a placeholder, which is open
pub part_wire : {old new : Circuit} (token rank net : ℕ) → net ≡ length old.nodes → new ≡ with_node old (Wire rank None) → AddsPart 1 token 0 (net ∷ []) old new
part_wire {old} token rank net at is = record {
  added = Wire rank None ∷ [];
  nodes = ap (λ (c : Circuit). c.nodes) is;
  parts = (inr (tt, subst (λ k. Contains (net ∷ []) k) at (Contains-push [] net)), tt);
  size = omega arith;
  gates = omega arith;
  tokens = refl;
  clock = ap (λ (c : Circuit). c.clock) is;
  ports = ap (λ (c : Circuit). c.ports) is;
}

-- gates are a part without tokens
pub part_gates : {most : ℕ} {old new : Circuit} (token : ℕ) → Adds most old new → AddsPart most token 0 [] old new
part_gates {old = old} {new = new} token a = record {
  added = a.gates;
  nodes = a.nodes;
  parts = all_closed new.nodes [] (length old.nodes) a.gates (All-weaker IsGate (IsClosed new.nodes) (closed_gate new.nodes) a.gates a.only);
  size = let few = a.few in omega arith;
  gates = let few = a.few in omega (arith, gates_most a.gates);
  tokens = no_flops a.gates a.only;
  clock = a.clock;
  ports = a.ports;
}

-- gates and tokens
pub part_tokens : {most token count : ℕ} {old new : Circuit} → control.AddsControl most token count old new → AddsPart most token count [] old new
part_tokens {token = token} {count = count} {old = old} {new = new} a = record {
  added = a.added;
  nodes = a.nodes;
  parts = all_closed new.nodes [] (length old.nodes) a.added (All-weaker IsPart (IsClosed new.nodes) (closed_part new.nodes) a.added a.parts);
  size = let gates = a.gates in omega (arith, part_size a.added a.parts, ap length a.tokens, tokens_size token count);
  gates = a.gates;
  tokens = a.tokens;
  clock = a.clock;
  ports = a.ports;
}

-- a greater bound, and the same number of tokens
pub part_most : {most more token count : ℕ} {undriven : List ℕ} {old new : Circuit} → most ≤ more → AddsPart most token count undriven old new
    → AddsPart more token count undriven old new
part_most le a = record {
  added = a.added;
  nodes = a.nodes;
  parts = a.parts;
  size = let size = a.size in omega arith;
  gates = let gates = a.gates in omega arith;
  tokens = a.tokens;
  clock = a.clock;
  ports = a.ports;
}

pub part_fit : {most more token count same : ℕ} {undriven : List ℕ} {old new : Circuit} → most ≤ more → count ≡ same → AddsPart most token count undriven old new
    → AddsPart more token same undriven old new
part_fit {more = more} {token = token} {undriven = undriven} {old = old} {new = new} le is a = subst (λ i. AddsPart more token i undriven old new) is (part_most le a)

-- tokens that are none have no number
pub part_number : {most token : ℕ} {undriven : List ℕ} {old new : Circuit} (number : ℕ) → AddsPart most token 0 undriven old new → AddsPart most number 0 undriven old new
part_number number a = record { added = a.added; nodes = a.nodes; parts = a.parts; size = a.size; gates = a.gates; tokens = a.tokens; clock = a.clock; ports = a.ports }

-- a part behind a part, whose tokens follow, with the open placeholders of both
pub part_then : {m n token next i j : ℕ} {first second : List ℕ} {old mid new : Circuit} → next ≡ token + i → AddsPart m token i first old mid → AddsPart n next j second mid new
    → AddsPart (m + n) token (i + j) (first ++ second) old new
part_then {token = token} {i = i} {j = j} {first = first} {second = second} {old = old} {mid = mid} {new = new} follows a b =
    let both : List ℕ = first ++ second in
    let middle : length mid.nodes ≡ length old.nodes + length a.added = ap length a.nodes ∙ length-append old.nodes a.added in
    record {
      added = a.added ++ b.added;
      nodes = b.nodes ∙ ap (λ l. l ++ b.added) a.nodes ∙ append_assoc old.nodes a.added b.added;
      parts = closed_append new.nodes both (length old.nodes) a.added b.added
          (part_kept first both (keeps_part b) (Contains-append_left first second) (length old.nodes) a.added a.parts)
          (subst (λ k. AreClosed new.nodes both k b.added) middle (part_kept second both (keeps_same new.nodes) (Contains-append_right first second) (length mid.nodes) b.added b.parts));
      size = let x = a.size in let y = b.size in omega (arith, length-append a.added b.added);
      gates = let x = a.gates in let y = b.gates in omega (arith, gates_append a.added b.added);
      tokens = flops_append a.added b.added ∙ ap (λ l. l ++ flops_of b.added) a.tokens ∙ ap (λ l. tokens_from token i ++ l) (b.tokens ∙ ap (λ k. tokens_from k j) follows)
          ∙ sym (tokens_append token i j);
      clock = b.clock ∙ a.clock;
      ports = b.ports ∙ a.ports;
    }

-- A token, and a part behind it. The token's flip-flop is fed once that part stands.
pub part_fed : {most token next count net : ℕ} {undriven : List ℕ} {old first mid new : Circuit} (d : ℕ) → net ≡ length old.nodes → first ≡ with_node old (Flop (Token token) false None)
    → next ≡ token + 1 → AddsPart most next count undriven first mid
    → new ≡ with_node_at mid net (reading d (node_at mid.nodes net)) → Extends mid.nodes new.nodes → AddsPart most token (1 + count) undriven old new
part_fed {most} {token} {next} {count} {net} {undriven} {old} {first} {mid} {new} d at added follows a fed earlier =
    let unfed : Node = Flop (Token token) false None in
    let flop : Node = Flop (Token token) false (Some d) in
    let front : first.nodes ≡ old.nodes ++ unfed ∷ [] = ap (λ (c : Circuit). c.nodes) added in
    let stands : mid.nodes ≡ old.nodes ++ (unfed ∷ a.added) = a.nodes ∙ ap (λ l. l ++ a.added) front ∙ append_assoc old.nodes (unfed ∷ []) a.added in
    let node : node_at mid.nodes net ≡ unfed = ap (λ l. node_at l net) stands ∙ get_or_at old.nodes unfed a.added _ net (sym at) in
    let place : length first.nodes ≡ suc (length old.nodes) = omega (arith, ap length front, length_push old.nodes unfed) in
    record {
      added = flop ∷ a.added;
      nodes =
          ap (λ (c : Circuit). c.nodes) fed
          ∙ ap (λ n. set mid.nodes net (reading d n)) node
          ∙ ap (λ l. set l net flop) stands
          ∙ set_at old.nodes unfed a.added flop net (sym at);
      parts = (inl tt, subst (λ k. AreClosed new.nodes undriven k a.added) place (part_kept undriven undriven (keeps_connected net d fed earlier) (λ k has. has) (length first.nodes) a.added a.parts));
      size = let size = a.size in omega arith;
      gates = a.gates;
      tokens = ap (λ l. (Token token, false) ∷ l) (a.tokens ∙ ap (λ k. tokens_from k count) follows) ∙ tokens_before token count;
      clock = ap (λ (c : Circuit). c.clock) fed ∙ a.clock ∙ ap (λ (c : Circuit). c.clock) added;
      ports = ap (λ (c : Circuit). c.ports) fed ∙ a.ports ∙ ap (λ (c : Circuit). c.ports) added;
    }

-- a token whose flip-flop is fed at once
pub part_token : {token net : ℕ} {old mid new : Circuit} (d : ℕ) → net ≡ length old.nodes → mid ≡ with_node old (Flop (Token token) false None)
    → new ≡ with_node_at mid net (reading d (node_at mid.nodes net)) → Extends mid.nodes new.nodes → AddsPart 0 token 1 [] old new
part_token {token} {mid = mid} d at added fed earlier = part_fed d at added refl (part_none (token + 1) mid) fed earlier

-- The first placeholder that is open is driven by what reaches smaller ranks, and so is open no longer.
pub part_driven : {most token count rank : ℕ} {rest : List ℕ} {old mid new : Circuit} (net from : ℕ) → AddsPart most token count (net ∷ rest) old mid
    → length old.nodes ≤ net → net < length mid.nodes → node_at mid.nodes net ≡ Wire rank None
    → new ≡ with_node_at mid net (reading from (node_at mid.nodes net)) → Low new.nodes rank from → Keeps mid.nodes new.nodes
    → AddsPart most token count rest old new
part_driven {rank = rank} {rest = rest} {old = old} {mid = mid} {new = new} net from a past inside stands driven low keeps =
    let i : ℕ = net - length old.nodes in
    let size : length mid.nodes ≡ length old.nodes + length a.added = ap length a.nodes ∙ length-append old.nodes a.added in
    let here : node_at a.added i ≡ Wire rank None =
    sym (get_or-append_right old.nodes a.added (length old.nodes) net (Wire 0 None) refl past) ∙ ap (λ l. node_at l net) (sym a.nodes) ∙ stands in
    record {
      added = set a.added i (Wire rank (Some from));
      nodes = ap (λ (c : Circuit). c.nodes) driven ∙ ap (λ n. set mid.nodes net (reading from n)) stands ∙ ap (λ l. set l net (Wire rank (Some from))) a.nodes
          ∙ set-append_right old.nodes a.added (length old.nodes) net (Wire rank (Some from)) refl past;
      parts = closed_driven new.nodes net from rank rest (length old.nodes) i a.added (omega (arith, past)) (omega (arith, past, inside, size)) low
          (part_kept (net ∷ rest) (net ∷ rest) keeps (λ k is. is) (length old.nodes) a.added a.parts);
      size = let most = a.size in omega (arith, length-set a.added i (Wire rank (Some from)));
      gates = let most = a.gates in omega (arith, gates_driven a.added i rank None (Some from) here);
      tokens = flops_driven a.added i rank None (Some from) here ∙ a.tokens;
      clock = ap (λ (c : Circuit). c.clock) driven ∙ a.clock;
      ports = ap (λ (c : Circuit). c.ports) driven ∙ a.ports;
    }
