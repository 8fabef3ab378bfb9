-- Control that is added part by part, and what its nets reach and do.
use Rattle.std.proofs.Common.{◌≡◌, ◌≤◌, ℕ, ◌+◌, ◌-◌, List, [], ◌∷◌, ◌++◌, length, map, set, Bool, true, false, Option, Some, None, Result, Ok, Err, refl, ap, sym, ◌∙◌, subst, inl, inr, arith, length-append}
use Rattle.std.specs.Prelude.{IfOk, All}
use Rattle.std.proofs.lemmas.List.{append-nil, map-append, length-map, get_or_append_left, get_or-append_right, get_or_past, get_or_push, get_or-set_same, get_or-set_other, length_push}
use Rattle.std.proofs.lemmas.List.Elements.{All-nil, All-cons, All-append, All-weaker}
use Rattle.std.proofs.lemmas.Bool.{cases_lt, cases_eq}
use Rattle.hc_core.specs.Program.{Statement}
use Rattle.hc_core.specs.declared.object.Kind.{Kind}
use Rattle.hc_meaning.specs.Residual.{Residual}
use Rattle.hc_meaning.specs.Control.{Condition, Leaf}
use Rattle.hc_net.specs.Run.{Trace}
use Rattle.hc_net.specs.Circuit.{Circuit, History, Does, Explains, node_at, constant_at, with_node, with_node_at, reading}
use Rattle.hc_net.specs.Frame.{Keeps, keeps_within, within_low}
use Rattle.hc_net.specs.Made.{Adds, IsGate}
use Rattle.hc_net.specs.MadeLemmas.{Over-within}
use Rattle.hc_net.specs.Seal as seal
use Rattle.hc_net.specs.Seal.{Within}
use Rattle.hc_net.specs.declared.node.Node.{Node}
use Rattle.hc_net.specs.declared.node.Node.TheVariants.{Input, Flop, Wire, Gate, Ram}
use Rattle.hc_net.specs.declared.gate.GateKind.TheVariants as kind
use Rattle.hc_token.specs.Control as tokens
use Rattle.hc_token.specs.Control.{IsPart, IsFlop, Reaches, IsNever, IsAlways}
use Rattle.hc_token.specs.Kept.{there_kept, all_there_kept, all_within_kept, never_kept, always_kept}
use Rattle.hc_token.specs.Part.{keeps_part, part_room, part_none, part_wire, part_gates, part_tokens, part_most, part_fit, part_number, part_then, part_driven}
use Rattle.hc_token.specs.declared.ends.Ends.{Ends}
use Rattle.hc_value.specs.Objects.{nets_of}
use Rattle.hc_value.specs.declared.objects.ObjectNets.{ObjectNets}
use Rattle.hc_control.specs.Right.{CanRead}
use Rattle.hc_control.specs.Starts.{selected}
use Rattle.hc_control.specs.Token.{Clocks, Follows}
use Rattle.hc_control.specs.Building.{HaveRankZero, AddsControl, IsCircuit}

-- ---- what is kept

pub reads_kept : {kinds : List Kind} {at : ObjectNets} {old new : Circuit} → Keeps old.nodes new.nodes → CanRead kinds at old → CanRead kinds at new
reads_kept {kinds} {at} {old} {new} keeps reads = record {
  sound = reads.sound;
  places = record {
    count = reads.places.count;
    each = λ k kind is. let nets = reads.places.each k kind is in record { count = nets.count; there = all_there_kept keeps (nets_of at k) nets.there };
    zero = never_kept keeps at.zero reads.places.zero;
    one = always_kept keeps at.one reads.places.one;
    constants = record { zero = there_kept keeps at.zero reads.places.constants.zero; one = there_kept keeps at.one reads.places.constants.one };
  };
  low = record {
    register = λ k w s init is. all_within_kept keeps (nets_of at k) (reads.low.register k w s init is);
    array = λ k w n s init is. all_within_kept keeps (nets_of at k) (reads.low.array k w n s init is);
    input = λ k w s pins is. all_within_kept keeps (nets_of at k) (reads.low.input k w s pins is);
  };
}

pub circuit_kept : {kinds : List Kind} {at : ObjectNets} {s : Statement} {start : ℕ} {old new : List Node} {starts : List ℕ} {ends : Ends} → Keeps old new
    → IsCircuit kinds at s start old starts ends → IsCircuit kinds at s start new starts ends
circuit_kept {starts = starts} {ends = ends} keeps c = record {
  there = (there_kept keeps ends.pass c.there.0, there_kept keeps ends.finish c.there.1);
  starts_there = all_there_kept keeps starts c.starts_there;
  count = c.count;
  pass = keeps_within keeps ends.pass c.pass;
  finish = keeps_within keeps ends.finish c.finish;
  never = λ takes. never_kept keeps ends.pass (c.never takes);
  follows = λ n clocks trace h e. c.follows n clocks trace h (keeps.earlier trace h e);
}

-- ---- what nets reach, and constants

flop_within : (nodes : List Node) (k : ℕ) (n : Node) → node_at nodes k ≡ n → IsFlop n → Within nodes 0 k
flop_within nodes k (Input p i) is flop = absurd flop
flop_within nodes k (Flop name init d) is flop = seal.flop k name init d is
flop_within nodes k (Wire rank from) is flop = absurd flop
flop_within nodes k (Gate g a b) is flop = absurd flop
flop_within nodes k (Ram rank first ram) is flop = absurd flop

-- a net that reaches such nets and flip-flops alone
pub reaches_within : {nodes : List Node} {args : List ℕ} {net : ℕ} → All (Within nodes 0) args → Reaches nodes args net → Within nodes 0 net
reaches_within {nodes} {args} all reaches =
    Over-within (All-append (Within nodes 0) reaches.own args (All-weaker (λ k. IsFlop (node_at nodes k)) (Within nodes 0) (λ k. flop_within nodes k (node_at nodes k) refl) reaches.own reaches.flops) all)
    reaches.over

constant_within : (nodes : List Node) (k : ℕ) (n : Node) (b : Bool) → node_at nodes k ≡ n → constant_at n ≡ Some b → Within nodes 0 k
constant_within nodes k (Input p i) b is at = absurd cc
constant_within nodes k (Flop name init d) b is at = absurd cc
constant_within nodes k (Wire rank from) b is at = absurd cc
constant_within nodes k (Gate kind.Zero x y) b is at = seal.zero k x y is
constant_within nodes k (Gate kind.One x y) b is at = seal.one k x y is
constant_within nodes k (Gate kind.Not x y) b is at = absurd cc
constant_within nodes k (Gate kind.And x y) b is at = absurd cc
constant_within nodes k (Gate kind.Or x y) b is at = absurd cc
constant_within nodes k (Gate kind.Xor x y) b is at = absurd cc
constant_within nodes k (Ram rank first ram) b is at = absurd cc

pub never_within : {nodes : List Node} (k : ℕ) → IsNever nodes k → Within nodes 0 k
never_within {nodes} k is = constant_within nodes k (node_at nodes k) false refl is

pub always_within : {nodes : List Node} (k : ℕ) → IsAlways nodes k → Within nodes 0 k
always_within {nodes} k is = constant_within nodes k (node_at nodes k) true refl is

constant_does : (trace : Trace) (h : History) (k : ℕ) (n : Node) (b : Bool) → constant_at n ≡ Some b → Does trace h k n → (t : ℕ) → h t k ≡ b
constant_does trace h k (Input p i) b is does t = absurd cc
constant_does trace h k (Flop name init d) b is does t = absurd cc
constant_does trace h k (Wire rank from) b is does t = absurd cc
constant_does trace h k (Gate kind.Zero x y) b is does t = let same : b ≡ false = cc in does t ∙ sym same
constant_does trace h k (Gate kind.One x y) b is does t = let same : b ≡ true = cc in does t ∙ sym same
constant_does trace h k (Gate kind.Not x y) b is does t = absurd cc
constant_does trace h k (Gate kind.And x y) b is does t = absurd cc
constant_does trace h k (Gate kind.Or x y) b is does t = absurd cc
constant_does trace h k (Gate kind.Xor x y) b is does t = absurd cc
constant_does trace h k (Ram rank first ram) b is does t = absurd cc

-- a constant's net holds it in every clock
pub never_holds : {nodes : List Node} (k : ℕ) → IsNever nodes k → (trace : Trace) (h : History) → Explains nodes trace h → (t : ℕ) → h t k ≡ false
never_holds {nodes} k is trace h e = constant_does trace h k (node_at nodes k) false is (e.each k)

pub always_holds_true : {nodes : List Node} (k : ℕ) → IsAlways nodes k → (trace : Trace) (h : History) → Explains nodes trace h → (t : ℕ) → h t k ≡ true
always_holds_true {nodes} k is trace h e = constant_does trace h k (node_at nodes k) true is (e.each k)

-- ---- ranks

-- behind these nodes no node of a kind that isn't a placeholder has a rank
pub ranks_none : (P : Node → Type 0) → ((rank : ℕ) (from : Option ℕ) → P (Wire rank from) → ⊥) → (old added new : List Node) → new ≡ old ++ added → All P added → HaveRankZero old new
ranks_none P never old added new new_is all k rank from past is =
    let i : ℕ = k - length old in
    let at : node_at added i ≡ Wire rank from = sym (get_or-append_right old added (length old) k (Wire 0 None) refl past) ∙ sym (ap (λ l. node_at l k) new_is) ∙ is in
    elim (cases_lt i (length added)) [
      | inl low ↦ absurd (never rank from (subst P at (all i (Wire 0 None) low)))
      | inr high ↦ let gone : node_at added i ≡ Wire 0 None = get_or_past added i _ high in cc
    ]

pub ranks_then : (old mid new more : List Node) → new ≡ mid ++ more → HaveRankZero old mid → HaveRankZero mid new → HaveRankZero old new
ranks_then old mid new more new_is first second k rank from past is = elim (cases_lt k (length mid)) [
  | inl low ↦ first k rank from past (sym (get_or_append_left mid more _ k low) ∙ sym (ap (λ l. node_at l k) new_is) ∙ is)
  | inr high ↦ second k rank from high is
]

-- ---- control that is added

pub keeps_control : {most token count : ℕ} {old new : Circuit} → AddsControl most token count old new → Keeps old.nodes new.nodes
keeps_control a = keeps_part a.part

-- how many nodes there are
pub control_room : {most token count : ℕ} {old new : Circuit} → AddsControl most token count old new → length new.nodes ≤ length old.nodes + (most + count)
control_room a = part_room a.part

pub control_none : (token : ℕ) (c : Circuit) → AddsControl 0 token 0 c c
control_none token c = record { part = part_none token c; ranks = ranks_none IsGate (λ rank from is. is) c.nodes [] c.nodes (sym (append-nil c.nodes)) (All-nil IsGate) }

-- a greater bound, and the same number of tokens
pub control_most : {most more token count : ℕ} {old new : Circuit} → most ≤ more → AddsControl most token count old new → AddsControl more token count old new
control_most le a = record { part = part_most le a.part; ranks = a.ranks }

pub control_fit : {most more token count same : ℕ} {old new : Circuit} → most ≤ more → count ≡ same → AddsControl most token count old new → AddsControl more token same old new
control_fit le is a = record { part = part_fit le is a.part; ranks = a.ranks }

-- tokens that are none have no number
pub control_number : {most token : ℕ} {old new : Circuit} (number : ℕ) → AddsControl most token 0 old new → AddsControl most number 0 old new
control_number number a = record { part = part_number number a.part; ranks = a.ranks }

-- control behind control, whose tokens follow
pub control_then : {m n token next i j : ℕ} {old mid new : Circuit} → next ≡ token + i → AddsControl m token i old mid → AddsControl n next j mid new
    → AddsControl (m + n) token (i + j) old new
control_then {old = old} {mid = mid} {new = new} follows a b = record {
  part = part_then follows a.part b.part;
  ranks = ranks_then old.nodes mid.nodes new.nodes b.part.added b.part.nodes a.ranks b.ranks;
}

-- gates are control without tokens
pub control_gates : {most : ℕ} {old new : Circuit} (token : ℕ) → Adds most old new → AddsControl most token 0 old new
control_gates {old = old} {new = new} token a = record { part = part_gates token a; ranks = ranks_none IsGate (λ rank from is. is) old.nodes a.gates new.nodes a.nodes a.only }

-- gates and tokens
pub control_tokens : {most token count : ℕ} {old new : Circuit} → tokens.AddsControl most token count old new → AddsControl most token count old new
control_tokens {old = old} {new = new} a = record { part = part_tokens a; ranks = ranks_none IsPart (λ rank from is. is) old.nodes a.added new.nodes a.nodes a.parts }

-- control behind gates, and gates behind control
pub control_behind_gates : {m n token count : ℕ} {old mid new : Circuit} → Adds m old mid → AddsControl n token count mid new → AddsControl (m + n) token count old new
control_behind_gates {token = token} a b = control_fit (omega arith) (omega arith) (control_then (omega arith) (control_gates token a) b)

pub gates_behind_control : {m n token count : ℕ} {old mid new : Circuit} → AddsControl m token count old mid → Adds n mid new → AddsControl (m + n) token count old new
gates_behind_control {token = token} {count = count} a b = control_fit (omega arith) (omega arith) (control_then refl a (control_gates (token + count) b))

-- control behind control, without tokens of its own
pub control_joined : {m n token none count : ℕ} {old mid new : Circuit} → AddsControl m token count old mid → tokens.AddsControl n none 0 mid new → AddsControl (m + n) token count old new
control_joined {token = token} {count = count} a b = control_fit (omega arith) (omega arith) (control_then refl a (control_number (token + count) (control_tokens b)))

-- Control behind a placeholder, which is driven when the control stands.
pub control_driven : {most token count : ℕ} {old opened mid new : Circuit} (net from : ℕ) → net ≡ length old.nodes → opened ≡ with_node old (Wire 0 None)
    → AddsControl most token count opened mid → new ≡ with_node_at mid net (reading from (node_at mid.nodes net)) → Within new.nodes 0 from
    → Keeps mid.nodes new.nodes → AddsControl (1 + most) token count old new
control_driven {token = token} {old = old} {opened = opened} {mid = mid} {new = new} net from net_is opened_is a driven low keeps =
    let nodes : opened.nodes ≡ old.nodes ++ Wire 0 None ∷ [] = ap (λ (c : Circuit). c.nodes) opened_is in
    let size : length opened.nodes ≡ length old.nodes + 1 = ap length nodes ∙ length_push old.nodes (Wire 0 None) in
    let longer = (keeps_control a).longer in
    let stands : node_at mid.nodes net ≡ Wire 0 None =
    ap (λ l. node_at l net) a.part.nodes ∙ get_or_append_left opened.nodes a.part.added (Wire 0 None) net (omega arith) ∙ ap (λ l. node_at l net) nodes
    ∙ get_or_push old.nodes (Wire 0 None) (Wire 0 None) net (sym net_is) in
    let new_is : new.nodes ≡ set mid.nodes net (Wire 0 (Some from)) = ap (λ (c : Circuit). c.nodes) driven ∙ ap (λ n. set mid.nodes net (reading from n)) stands in
    record {
      part = part_fit (omega arith) (omega arith)
          (part_driven net from (part_then (omega arith) (part_wire token 0 net net_is opened_is) a.part) (omega arith) (omega arith) stands driven (within_low low) keeps);
      ranks = λ k rank d past is. elim (cases_eq k net) [
        | inl same ↦
            let at : node_at new.nodes k ≡ Wire 0 (Some from) =
            ap (λ l. node_at l k) new_is ∙ ap (node_at (set mid.nodes net (Wire 0 (Some from)))) same ∙ get_or-set_same mid.nodes net (Wire 0 (Some from)) (Wire 0 None) (omega arith) in
            cc
        | inr other ↦ a.ranks k rank d (omega arith) (sym (get_or-set_other mid.nodes net k (Wire 0 (Some from)) (Wire 0 None) other) ∙ sym (ap (λ l. node_at l k) new_is) ∙ is)
      ];
    }

-- ---- the actions whose starts hold

pub selected_append : (xs ys : List Bool) (front behind : List Leaf) → length xs ≡ length front
    → selected (xs ++ ys) (front ++ behind) ≡ selected xs front ++ selected ys behind
selected_append [] ys [] behind same = refl
selected_append [] ys (a ∷ front) behind same = absurd (omega (arith, same))
selected_append (x ∷ xs) ys [] behind same = absurd (omega (arith, same))
selected_append (true ∷ xs) ys (a ∷ front) behind same = ap (λ l. a ∷ l) (selected_append xs ys front behind (omega (arith, same)))
selected_append (false ∷ xs) ys (a ∷ front) behind same = selected_append xs ys front behind (omega (arith, same))

-- by the starts' nets
pub selected_starts : (v : ℕ → Bool) (xs ys : List ℕ) (front behind : List Leaf) → length xs ≡ length front
    → selected (map v (xs ++ ys)) (front ++ behind) ≡ selected (map v xs) front ++ selected (map v ys) behind
selected_starts v xs ys front behind same =
    ap (λ l. selected l (front ++ behind)) (map-append v xs ys) ∙ selected_append (map v xs) (map v ys) front behind (length-map xs v ∙ same)

pub count_append : (xs ys : List ℕ) (front behind : List Leaf) → length xs ≡ length front → length ys ≡ length behind → length (xs ++ ys) ≡ length (front ++ behind)
count_append xs ys front behind first second = omega (arith, length-append xs ys, length-append front behind, first, second)

-- ---- what is shown

-- the same enabled actions by other words
pub follows_as : {c : Clocks} {Good : ℕ → Type 0} {s : Residual} {start pass finish : ℕ → Bool} {enabled other : ℕ → List Leaf} {tested : ℕ → List Condition}
    → ((t : ℕ) → other t ≡ enabled t) → Follows c Good s start pass finish enabled tested → Follows c Good s start pass finish other tested
follows_as same follows = record {
  passes = follows.passes;
  finishes = follows.finishes;
  enables = λ t before good fair. same t ∙ follows.enables t before good fair;
  tests = follows.tests;
}

-- ---- short lists

pub all_one : {X : Type 0} (P : X → Type 0) (x : X) → P x → All P (x ∷ [])
all_one P x px = All-cons P x [] px (All-nil P)

pub all_two : {X : Type 0} (P : X → Type 0) (x y : X) → P x → P y → All P (x ∷ y ∷ [])
all_two P x y px py = All-cons P x (y ∷ []) px (all_one P y py)

pub all_three : {X : Type 0} (P : X → Type 0) (x y z : X) → P x → P y → P z → All P (x ∷ y ∷ z ∷ [])
all_three P x y z px py pz = All-cons P x (y ∷ z ∷ []) px (all_two P y z py pz)

-- ---- results

-- what follows from two clauses on a result
pub both_ok : {X E : Type 0} (r : Result X E) {P Q R : X → Type 0} → IfOk r P → IfOk r Q → ((x : X) → P x → Q x → R x) → IfOk r R
both_ok (Ok x) p q f = f x p q
both_ok (Err e) p q f = tt
