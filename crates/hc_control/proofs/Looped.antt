-- The control of both loops, from that of the condition and of the body, whose finish comes round on a placeholder.
use Rattle.std.proofs.Common.{◌≡◌, ◌<◌, ℕ, ◌+◌, ◌^◌, List, [], ◌∷◌, length, Bool, true, false, ◌&&◌, ◌||◌, None, refl, ap, ◌∙◌, arith, length-append}
use Rattle.hc_tree.specs.declared.place.Place.{Place}
use Rattle.hc_core.specs.Program.{Expression, Statement, While, DoWhile}
use Rattle.hc_core.specs.Weight.{condition_weight, statement_flops}
use Rattle.hc_core.specs.Zero.{always_holds}
use Rattle.hc_core.specs.declared.object.Kind.{Kind}
use Rattle.hc_meaning.specs.Residual.{residual}
use Rattle.hc_meaning.specs.Control.{resolved, is_skip}
use Rattle.hc_meaning.specs.Value.{World, number_of, holds}
use Rattle.hc_net.specs.Circuit.{Circuit, Explains, Extends, node_at, reading, with_node, with_node_at}
use Rattle.hc_net.specs.Frame.{Keeps, keeps_then, keeps_gates, keeps_node, keeps_connected, keeps_within}
use Rattle.hc_net.specs.Run.{Trace}
use Rattle.hc_net.specs.Made.{Adds, Always}
use Rattle.hc_net.specs.MadeLemmas.{Over-within, Adds-room}
use Rattle.hc_net.specs.Seal.{Within}
use Rattle.hc_net.specs.declared.node.Node.{Node}
use Rattle.hc_net.specs.declared.node.Node.TheVariants.{Wire}
use Rattle.hc_token.specs.Circuits.{Repeats}
use Rattle.hc_token.specs.Control.{Controls, IsNever, IsAlways}
use Rattle.hc_token.specs.Kept.{always_kept}
use Rattle.hc_token.specs.Part.{keeps_tokens}
use Rattle.hc_token.specs.declared.ends.Ends.{Ends}
use Rattle.hc_value.specs.declared.objects.ObjectNets.{ObjectNets}
use Rattle.hc_control.specs.Building.{CanBuild, AddsControl, Builds, FollowsAlways, IsCircuit}
use Rattle.hc_control.specs.Conditions.{MakesCondition}
use Rattle.hc_control.specs.Right.{CanRead, IsRight}
use Rattle.hc_control.specs.Starts.{leaves}
use Rattle.hc_control.specs.Weighs.{control_weight}
use Rattle.hc_control.specs.declared.started.Started.{Started}
use Rattle.hc_control.proofs.Adding.{keeps_control, control_behind_gates, control_driven, control_joined, control_fit, circuit_kept, reads_kept, reaches_within, never_within, never_holds, all_one, all_two}
use Rattle.hc_control.proofs.Buildable.{IsBuildable, buildable, can_build, while_body, do_body}
use Rattle.hc_control.proofs.LawLoops.{follows_while, follows_do}
use Rattle.hc_control.proofs.ZeroStatements.{not_false}

-- The body can be built behind the condition, the placeholder and the gates of its start.
can_turn : (kinds : List Kind) (at : ObjectNets) (e : Expression) (body : Statement) (token : ℕ) (old one two four : Circuit) (net begin : ℕ) → IsBuildable kinds body → CanRead kinds at old
    → length old.nodes + (40 + condition_weight kinds e + control_weight kinds body + statement_flops body) < 2 ^ 32 → token + statement_flops body < 2 ^ 32
    → MakesCondition kinds at e old one net → two ≡ with_node one (Wire 0 None) → Adds 2 two four → begin < length four.nodes
    → CanBuild kinds at body begin token four
can_turn kinds at e body token old one two four net begin is reads room numbers condition hung gates there =
    let first = Adds-room condition.adds in
    let last = Adds-room gates in
    let open_room = ap (λ (c : Circuit). length c.nodes) hung in
    can_build is (reads_kept (keeps_then (keeps_gates condition.adds) (keeps_then (keeps_node (Wire 0 None) hung) (keeps_gates gates))) reads) there
    (omega (arith, length-append one.nodes (Wire 0 None ∷ []))) numbers

pub while_can : (kinds : List Kind) (at : ObjectNets) (place : Place) (e : Expression) (body : Statement) (start token : ℕ) (old one two four : Circuit) (net begin : ℕ)
    → CanBuild kinds at (While place e body) start token old → MakesCondition kinds at e old one net → two ≡ with_node one (Wire 0 None) → Adds 2 two four
    → begin < length four.nodes → CanBuild kinds at body begin token four
while_can kinds at place e body start token old one two four net begin can =
    can_turn kinds at e body token old one two four net begin (while_body place e body (buildable can)) can.reads (let room = can.room in omega arith) can.numbers

pub do_can : (kinds : List Kind) (at : ObjectNets) (place : Place) (e : Expression) (body : Statement) (start token : ℕ) (old one two four : Circuit) (net begin : ℕ)
    → CanBuild kinds at (DoWhile place body e) start token old → MakesCondition kinds at e old one net → two ≡ with_node one (Wire 0 None) → Adds 2 two four
    → begin < length four.nodes → CanBuild kinds at body begin token four
do_can kinds at place e body start token old one two four net begin can =
    can_turn kinds at e body token old one two four net begin (do_body place body e (buildable can)) can.reads (let room = can.room in omega arith) can.numbers

-- What is known where all is built: the control of the condition, the placeholder, the start of the body by the whole's start, the
-- placeholder and the condition, the body, the placeholder's driver, and the circuit of a loop.
pub record Looped (turn : Bool → Bool → Bool → Bool) (kinds : List Kind) (at : ObjectNets) (e : Expression) (body : Statement) (start : ℕ) (old one two four five six new : Circuit)
    (before after : Started) (net back begin : ℕ) (ends_body ends : Ends) : Type 0 where
  pub condition : MakesCondition kinds at e old one net
  pub hung : (back ≡ length one.nodes) × (two ≡ with_node one (Wire 0 None))
  pub gates : Adds 2 two four
  pub begins : Always four.nodes (λ v. v begin ≡ turn (v start) (v back) (v net))
  pub inner : Builds kinds at body begin four five before after ends_body
  pub driven : six ≡ with_node_at five back (reading ends_body.finish (node_at five.nodes back))
  pub earlier : Extends five.nodes six.nodes
  pub comes_round : (trace : Trace) (h : _) → Explains six.nodes trace h → (t : ℕ) → h t back ≡ h t ends_body.finish
  pub join : Controls 2 0 0 (net ∷ []) (ends_body.finish ∷ net ∷ []) six new ends (Repeats net ends_body ends)
  pub never : IsAlways six.nodes net → IsNever new.nodes ends.pass × IsNever new.nodes ends.finish

module _ (turn : Bool → Bool → Bool → Bool) (kinds : List Kind) (at : ObjectNets) (e : Expression) (body : Statement) (start : ℕ) (old one two four five six new : Circuit)
    (before after : Started) (net back begin : ℕ) (ends_body ends : Ends) (s : Looped turn kinds at e body start old one two four five six new before after net back begin ends_body ends) where
  behind_wire : AddsControl (2 + control_weight kinds body) before.next (statement_flops body) two five
  behind_wire = control_behind_gates s.gates s.inner.adds

  over_drive : Keeps five.nodes six.nodes
  over_drive = keeps_connected back ends_body.finish s.driven s.earlier

  from_six : Keeps six.nodes new.nodes
  from_six = keeps_tokens s.join.adds

  from_five : Keeps five.nodes new.nodes
  from_five = keeps_then over_drive from_six

  from_four : Keeps four.nodes new.nodes
  from_four = keeps_then (keeps_control s.inner.adds) from_five

  one_to_six : Keeps one.nodes six.nodes
  one_to_six = keeps_then (keeps_node (Wire 0 None) s.hung.1) (keeps_then (keeps_gates s.gates) (keeps_then (keeps_control s.inner.adds) over_drive))

  from_one : Keeps one.nodes new.nodes
  from_one = keeps_then one_to_six from_six

  from_old : Keeps old.nodes new.nodes
  from_old = keeps_then (keeps_gates s.condition.adds) from_one

  body_kept : IsCircuit kinds at body begin new.nodes s.inner.starts ends_body
  body_kept = circuit_kept from_five s.inner.circuit

  pass_low : Within new.nodes 0 ends.pass
  pass_low = Over-within (all_one (Within new.nodes 0) net (keeps_within from_one net s.condition.low)) s.join.pass

  finish_low : Within new.nodes 0 ends.finish
  finish_low = reaches_within (all_two (Within new.nodes 0) ends_body.finish net body_kept.finish (keeps_within from_one net s.condition.low)) s.join.finish

  tests : (trace : Trace) (h : _) → Explains new.nodes trace h → (t : ℕ) (w : World) → IsRight kinds at w (h t) → h t net ≡ holds (number_of w e)
  tests trace h x = s.condition.holds_where trace h (from_one.earlier trace h x)

  starts_body : (trace : Trace) (h : _) → Explains new.nodes trace h → (t : ℕ) → h t begin ≡ turn (h t start) (h t ends_body.finish) (h t net)
  starts_body trace h x t =
      s.begins trace h (from_four.earlier trace h x) t ∙ ap (λ z. turn (h t start) z (h t net)) (s.comes_round trace h (from_six.earlier trace h x) t)

  passed_never : always_holds e ≡ true → IsNever new.nodes ends.pass
  passed_never always = (s.never (always_kept one_to_six net (s.condition.always always))).0

  added : (place : Place) → AddsControl (40 + condition_weight kinds e + control_weight kinds body) before.next (statement_flops body) old new
  added place =
      let round : AddsControl (1 + (2 + control_weight kinds body)) before.next (statement_flops body) one six =
      control_driven back ends_body.finish s.hung.0 s.hung.1 behind_wire s.driven (keeps_within over_drive ends_body.finish s.inner.circuit.finish) over_drive in
      control_fit (omega arith) refl (control_joined (control_behind_gates s.condition.adds round) s.join.adds)

-- ---- while

abbrev pub while_turn : Bool → Bool → Bool → Bool
while_turn start finish test = (start || finish) && test

abbrev pub do_turn : Bool → Bool → Bool → Bool
do_turn start finish test = start || (finish && test)

count_while : (place : Place) (e : Expression) (body : Statement) (starts : List ℕ) → ((n : ℕ) → length starts ≡ length (leaves (residual body n).0))
    → (n : ℕ) → length starts ≡ length (leaves (residual (While place e body) n).0)
unfolding residual
count_while place e body starts count n = count (n + 1)

count_do : (place : Place) (body : Statement) (e : Expression) (starts : List ℕ) → ((n : ℕ) → length starts ≡ length (leaves (residual body n).0))
    → (n : ℕ) → length starts ≡ length (leaves (residual (DoWhile place body e) n).0)
unfolding residual
count_do place body e starts count n = count n

follow_while : (kinds : List Kind) (at : ObjectNets) (place : Place) (e : Expression) (body : Statement) (start net begin : ℕ) (nodes : List Node) (starts : List ℕ) (ends_body ends : Ends)
    → ((w : World) (n : ℕ) → is_skip (resolved w (residual body n).0) ≡ false)
    → ((trace : Trace) (h : _) → Explains nodes trace h → (t : ℕ) (w : World) → IsRight kinds at w (h t) → h t net ≡ holds (number_of w e))
    → ((trace : Trace) (h : _) → Explains nodes trace h → (t : ℕ) → h t begin ≡ while_turn (h t start) (h t ends_body.finish) (h t net))
    → IsCircuit kinds at body begin nodes starts ends_body → ((trace : Trace) (h : _) → Explains nodes trace h → Repeats net ends_body ends h)
    → FollowsAlways kinds at (λ n. (residual (While place e body) n).0) start nodes starts ends
unfolding residual
follow_while kinds at place e body start net begin nodes starts ends_body ends takes tests begins x repeats n c trace h explains =
    let follows = x.follows (n + 1) c trace h explains in
    let join = repeats trace h explains in (
      _,
      follows_while c (λ t. IsRight kinds at (c.world t) (h t)) n e (residual body (n + 1)).0 (λ t. h t net) (λ t. h t start) (λ t. h t ends.pass) (λ t. h t ends.finish)
          (λ t. h t begin) (λ t. h t ends_body.pass) (λ t. h t ends_body.finish) _ _ follows.1
          (λ t. takes (c.world t) (n + 1))
          (λ t good. tests trace h explains t (c.world t) good) (begins trace h explains) join.pass join.finish,
    )

pub while_built : (kinds : List Kind) (at : ObjectNets) (place : Place) (e : Expression) (body : Statement) (start : ℕ) (old one two four five six new : Circuit)
    (before after : Started) (net back begin : ℕ) (ends_body ends : Ends) → ((w : World) (n : ℕ) → is_skip (resolved w (residual body n).0) ≡ false)
    → Looped while_turn kinds at e body start old one two four five six new before after net back begin ends_body ends
    → Builds kinds at (While place e body) start old new before after ends
while_built kinds at place e body start old one two four five six new before after net back begin ends_body ends takes s =
    let kept = body_kept while_turn kinds at e body start old one two four five six new before after net back begin ends_body ends s in
    record {
      starts = s.inner.starts;
      put = s.inner.put;
      next = s.inner.next;
      adds = added while_turn kinds at e body start old one two four five six new before after net back begin ends_body ends s place;
      circuit = record {
        there = s.join.there;
        starts_there = kept.starts_there;
        count = count_while place e body s.inner.starts kept.count;
        pass = pass_low while_turn kinds at e body start old one two four five six new before after net back begin ends_body ends s;
        finish = finish_low while_turn kinds at e body start old one two four five six new before after net back begin ends_body ends s;
        never = λ not_zero. passed_never while_turn kinds at e body start old one two four five six new before after net back begin ends_body ends s (not_false (always_holds e) not_zero);
        follows = follow_while kinds at place e body start net begin new.nodes s.inner.starts ends_body ends takes
            (tests while_turn kinds at e body start old one two four five six new before after net back begin ends_body ends s)
            (starts_body while_turn kinds at e body start old one two four five six new before after net back begin ends_body ends s)
            kept s.join.value;
      };
    }

-- ---- do

follow_do : (kinds : List Kind) (at : ObjectNets) (place : Place) (e : Expression) (body : Statement) (start net begin never : ℕ) (nodes : List Node) (starts : List ℕ) (ends_body ends : Ends)
    → ((w : World) (n : ℕ) → is_skip (resolved w (residual body n).0) ≡ false) → IsNever nodes never
    → ((trace : Trace) (h : _) → Explains nodes trace h → (t : ℕ) (w : World) → IsRight kinds at w (h t) → h t net ≡ holds (number_of w e))
    → ((trace : Trace) (h : _) → Explains nodes trace h → (t : ℕ) → h t begin ≡ do_turn (h t start) (h t ends_body.finish) (h t net))
    → IsCircuit kinds at body begin nodes starts ends_body → ((trace : Trace) (h : _) → Explains nodes trace h → Repeats net ends_body ends h)
    → FollowsAlways kinds at (λ n. (residual (DoWhile place body e) n).0) start nodes starts (record { pass = never; finish = ends.finish })
unfolding residual
follow_do kinds at place e body start net begin never nodes starts ends_body ends takes is_never tests begins x repeats n c trace h explains =
    let follows = x.follows n c trace h explains in
    let join = repeats trace h explains in (
      _,
      follows_do c (λ t. IsRight kinds at (c.world t) (h t)) (residual body n).1 e (residual body n).0 (λ t. h t net) (λ t. h t start) (λ t. h t never) (λ t. h t ends.finish)
          (λ t. h t begin) (λ t. h t ends_body.pass) (λ t. h t ends_body.finish) _ _ follows.1
          (λ t. takes (c.world t) n)
          (λ t good. tests trace h explains t (c.world t) good) (begins trace h explains) (never_holds never is_never trace h explains) join.finish,
    )

pub do_built : (kinds : List Kind) (at : ObjectNets) (place : Place) (e : Expression) (body : Statement) (start : ℕ) (old one two four five six new : Circuit)
    (before after : Started) (net back begin : ℕ) (ends_body ends : Ends) → ((w : World) (n : ℕ) → is_skip (resolved w (residual body n).0) ≡ false) → CanRead kinds at old
    → Looped do_turn kinds at e body start old one two four five six new before after net back begin ends_body ends
    → Builds kinds at (DoWhile place body e) start old new before after (record { pass = at.zero; finish = ends.finish })
do_built kinds at place e body start old one two four five six new before after net back begin ends_body ends takes reads s =
    let kept = body_kept do_turn kinds at e body start old one two four five six new before after net back begin ends_body ends s in
    let places = (reads_kept {new = new} (from_old do_turn kinds at e body start old one two four five six new before after net back begin ends_body ends s) reads).places in
    record {
      starts = s.inner.starts;
      put = s.inner.put;
      next = s.inner.next;
      adds = added do_turn kinds at e body start old one two four five six new before after net back begin ends_body ends s place;
      circuit = record {
        there = (places.constants.zero, s.join.there.1);
        starts_there = kept.starts_there;
        count = count_do place body e s.inner.starts kept.count;
        pass = never_within at.zero places.zero;
        finish = finish_low do_turn kinds at e body start old one two four five six new before after net back begin ends_body ends s;
        never = λ not_zero. places.zero;
        follows = follow_do kinds at place e body start net begin at.zero new.nodes s.inner.starts ends_body ends takes places.zero
            (tests do_turn kinds at e body start old one two four five six new before after net back begin ends_body ends s)
            (starts_body do_turn kinds at e body start old one two four five six new before after net back begin ends_body ends s)
            kept s.join.value;
      };
    }
