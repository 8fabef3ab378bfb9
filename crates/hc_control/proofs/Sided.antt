-- The control of an `if`, from that of its condition and of its two sides.
use Rattle.std.proofs.Common.{◌≡◌, ◌<◌, ℕ, ◌+◌, List, [], ◌∷◌, ◌++◌, length, false, not, ◌&&◌, ap, ◌∙◌, arith, append_assoc}
use Rattle.std.proofs.lemmas.List.Elements.{All-append}
use Rattle.hc_tree.specs.declared.place.Place.{Place}
use Rattle.hc_core.specs.Program.{Expression, Statement, If}
use Rattle.hc_core.specs.Zero.{zero}
use Rattle.hc_core.specs.declared.object.Kind.{Kind}
use Rattle.hc_meaning.specs.Residual.{residual}
use Rattle.hc_meaning.specs.Value.{World, number_of, holds}
use Rattle.hc_net.specs.Circuit.{Circuit, Explains}
use Rattle.hc_net.specs.Frame.{Keeps, keeps_then, keeps_gates, keeps_within}
use Rattle.hc_net.specs.Run.{Trace}
use Rattle.hc_net.specs.Made.{Adds, Always, Makes}
use Rattle.hc_net.specs.MadeLemmas.{Over-within, Adds-then, Adds-room}
use Rattle.hc_net.specs.Seal.{Within}
use Rattle.hc_net.specs.declared.node.Node.{Node}
use Rattle.hc_token.specs.Circuits.{Branches}
use Rattle.hc_token.specs.Control.{Controls, IsNever}
use Rattle.hc_token.specs.Kept.{there_kept, never_kept}
use Rattle.hc_token.specs.Part.{keeps_tokens}
use Rattle.hc_token.specs.declared.ends.Ends.{Ends}
use Rattle.hc_value.specs.declared.objects.ObjectNets.{ObjectNets}
use Rattle.hc_control.specs.Building.{CanBuild, Builds, FollowsAlways, IsCircuit}
use Rattle.hc_control.specs.Conditions.{MakesCondition}
use Rattle.hc_control.specs.Right.{IsRight}
use Rattle.hc_control.specs.Starts.{leaves}
use Rattle.hc_control.specs.declared.started.Started.{Started}
use Rattle.hc_control.proofs.Adding.{keeps_control, control_then, control_behind_gates, control_joined, control_room, circuit_kept, reaches_within, selected_starts, count_append, reads_kept, follows_as, control_fit, all_two, all_three}
use Rattle.hc_control.proofs.Buildable.{buildable, can_build, if_yes, if_no}
use Rattle.hc_control.proofs.LawSides.{follows_if}
use Rattle.hc_control.proofs.ZeroStatements.{neither}

-- the sides and the condition in a history
follow : (kinds : List Kind) (at : ObjectNets) (place : Place) (e : Expression) (a b : Statement) (start net start_a otherwise start_b : ℕ) (nodes : List Node) (starts_a starts_b : List ℕ) (ends_a ends_b ends : Ends)
    → Always nodes (λ v. (w : World) → IsRight kinds at w v → v net ≡ holds (number_of w e))
    → Always nodes (λ v. v start_a ≡ (v start && v net)) → Always nodes (λ v. v otherwise ≡ not (v net)) → Always nodes (λ v. v start_b ≡ (v start && v otherwise))
    → IsCircuit kinds at a start_a nodes starts_a ends_a → IsCircuit kinds at b start_b nodes starts_b ends_b
    → ((trace : Trace) (h : _) → Explains nodes trace h → Branches net ends_a ends_b ends h)
    → FollowsAlways kinds at (λ n. (residual (If place e a b) n).0) start nodes (starts_a ++ starts_b) ends
unfolding residual
follow kinds at place e a b start net start_a otherwise start_b nodes starts_a starts_b ends_a ends_b ends tests begins_a other begins_b x y joins n c trace h explains =
    let first = residual a (n + 1) in
    let second = residual b first.1 in
    let left = x.follows (n + 1) c trace h explains in
    let right = y.follows first.1 c trace h explains in
    let join = joins trace h explains in (
      _,
      follows_as
          (λ t. selected_starts (h t) starts_a starts_b (leaves first.0) (leaves second.0) (x.count (n + 1)))
          (follows_if c (λ t. IsRight kinds at (c.world t) (h t)) n e first.0 second.0 (λ t. h t net) (λ t. h t start) (λ t. h t ends.pass) (λ t. h t ends.finish)
          (λ t. h t start_a) (λ t. h t ends_a.pass) (λ t. h t ends_a.finish) (λ t. h t start_b) (λ t. h t ends_b.pass) (λ t. h t ends_b.finish) _ _ left.0 right.0 left.1 right.1
          (λ t good. tests trace h explains t (c.world t) good)
          (λ t. begins_a trace h explains t)
          (λ t. begins_b trace h explains t ∙ ap (λ z. h t start && z) (other trace h explains t))
          join.pass join.finish),
    )

count_sides : (place : Place) (e : Expression) (a b : Statement) (starts_a starts_b : List ℕ)
    → ((n : ℕ) → length starts_a ≡ length (leaves (residual a n).0)) → ((n : ℕ) → length starts_b ≡ length (leaves (residual b n).0))
    → (n : ℕ) → length (starts_a ++ starts_b) ≡ length (leaves (residual (If place e a b) n).0)
unfolding residual
count_sides place e a b starts_a starts_b first second n =
    count_append starts_a starts_b (leaves (residual a (n + 1)).0) (leaves (residual b (residual a (n + 1)).1).0) (first (n + 1)) (second (residual a (n + 1)).1)

-- Both sides can be built, one behind the other, behind the condition and the gates of their starts.
pub first_can : (kinds : List Kind) (at : ObjectNets) (place : Place) (e : Expression) (a b : Statement) (start token : ℕ) (old one four : Circuit) (net start_a : ℕ)
    → CanBuild kinds at (If place e a b) start token old → MakesCondition kinds at e old one net → Adds 3 one four → start_a < length four.nodes → CanBuild kinds at a start_a token four
first_can kinds at place e a b start token old one four net start_a can condition gates there =
    let room = can.room in
    let numbers = can.numbers in
    let first = Adds-room condition.adds in
    let last = Adds-room gates in
    can_build (if_yes place e a b (buildable can)) (reads_kept (keeps_then (keeps_gates condition.adds) (keeps_gates gates)) can.reads) there (omega arith) (omega arith)

pub second_can : (kinds : List Kind) (at : ObjectNets) (place : Place) (e : Expression) (a b : Statement) (start : ℕ) (old one four five : Circuit) (net start_a start_b : ℕ) (before middle : Started) (ends_a : Ends)
    → CanBuild kinds at (If place e a b) start before.next old → MakesCondition kinds at e old one net → Adds 3 one four → start_b < length four.nodes
    → Builds kinds at a start_a four five before middle ends_a → CanBuild kinds at b start_b middle.next five
second_can kinds at place e a b start old one four five net start_a start_b before middle ends_a can condition gates there first =
    let room = can.room in
    let numbers = can.numbers in
    let begun = Adds-room condition.adds in
    let last = Adds-room gates in
    let inner = control_room first.adds in
    let next = first.next in
    can_build (if_no place e a b (buildable can))
    (reads_kept (keeps_then (keeps_gates condition.adds) (keeps_then (keeps_gates gates) (keeps_control first.adds))) can.reads)
    (there_kept (keeps_control first.adds) start_b there) (omega arith) (omega arith)

-- What is known where all is built: the control of the condition, the starts of both sides, the sides, and the circuit that joins
-- them.
pub record Sided (kinds : List Kind) (at : ObjectNets) (e : Expression) (a b : Statement) (start : ℕ) (old one two three four five six new : Circuit) (before middle after : Started)
    (net start_a otherwise start_b : ℕ) (ends_a ends_b ends : Ends) : Type 0 where
  pub condition : MakesCondition kinds at e old one net
  pub begin_a : Makes 1 (start ∷ net ∷ []) one two (start_a ∷ []) (λ v. v start_a ≡ (v start && v net))
  pub other : Makes 1 (net ∷ []) two three (otherwise ∷ []) (λ v. v otherwise ≡ not (v net))
  pub begin_b : Makes 1 (start ∷ otherwise ∷ []) three four (start_b ∷ []) (λ v. v start_b ≡ (v start && v otherwise))
  pub first : Builds kinds at a start_a four five before middle ends_a
  pub second : Builds kinds at b start_b five six middle after ends_b
  pub join : Controls 5 0 0 (net ∷ ends_a.pass ∷ ends_b.pass ∷ []) (ends_a.finish ∷ ends_b.finish ∷ []) six new ends (Branches net ends_a ends_b ends)
  pub never : IsNever six.nodes ends_a.pass → IsNever six.nodes ends_b.pass → IsNever new.nodes ends.pass

module _ (kinds : List Kind) (at : ObjectNets) (place : Place) (e : Expression) (a b : Statement) (start : ℕ) (old one two three four five six new : Circuit) (before middle after : Started)
    (net start_a otherwise start_b : ℕ) (ends_a ends_b ends : Ends) (s : Sided kinds at e a b start old one two three four five six new before middle after net start_a otherwise start_b ends_a ends_b ends) where
  from_six : Keeps six.nodes new.nodes
  from_six = keeps_tokens s.join.adds

  from_five : Keeps five.nodes new.nodes
  from_five = keeps_then (keeps_control s.second.adds) from_six

  from_four : Keeps four.nodes new.nodes
  from_four = keeps_then (keeps_control s.first.adds) from_five

  from_three : Keeps three.nodes new.nodes
  from_three = keeps_then (keeps_gates s.begin_b.adds) from_four

  from_two : Keeps two.nodes new.nodes
  from_two = keeps_then (keeps_gates s.other.adds) from_three

  from_one : Keeps one.nodes new.nodes
  from_one = keeps_then (keeps_gates s.begin_a.adds) from_two

  first_kept : IsCircuit kinds at a start_a new.nodes s.first.starts ends_a
  first_kept = circuit_kept from_five s.first.circuit

  second_kept : IsCircuit kinds at b start_b new.nodes s.second.starts ends_b
  second_kept = circuit_kept from_six s.second.circuit

  whole_never : zero (If place e a b) ≡ false → IsNever new.nodes ends.pass
  whole_never takes =
      let each = neither (zero a) (zero b) takes in
      s.never (never_kept (keeps_control s.second.adds) ends_a.pass (s.first.circuit.never each.0)) (s.second.circuit.never each.1)

  circuit : IsCircuit kinds at (If place e a b) start new.nodes (s.first.starts ++ s.second.starts) ends
  circuit = record {
    there = s.join.there;
    starts_there = All-append (λ k. k < length new.nodes) s.first.starts s.second.starts first_kept.starts_there second_kept.starts_there;
    count = count_sides place e a b s.first.starts s.second.starts first_kept.count second_kept.count;
    pass = Over-within (all_three (Within new.nodes 0) net ends_a.pass ends_b.pass (keeps_within from_one net s.condition.low) first_kept.pass second_kept.pass) s.join.pass;
    finish = reaches_within (all_two (Within new.nodes 0) ends_a.finish ends_b.finish first_kept.finish second_kept.finish) s.join.finish;
    never = whole_never;
    follows = follow kinds at place e a b start net start_a otherwise start_b new.nodes s.first.starts s.second.starts ends_a ends_b ends
        (λ trace h x. s.condition.holds_where trace h (from_one.earlier trace h x))
        (λ trace h x. s.begin_a.value trace h (from_two.earlier trace h x))
        (λ trace h x. s.other.value trace h (from_three.earlier trace h x))
        (λ trace h x. s.begin_b.value trace h (from_four.earlier trace h x))
        first_kept second_kept s.join.value;
  }

  pub sided : Builds kinds at (If place e a b) start old new before after ends
  sided = record {
    starts = s.first.starts ++ s.second.starts;
    put = s.second.put ∙ ap (λ l. l ++ s.second.starts) s.first.put ∙ append_assoc before.starts s.first.starts s.second.starts;
    next = let x = s.first.next in let y = s.second.next in omega arith;
    adds =
        let front = control_behind_gates (Adds-then s.condition.adds (Adds-then s.begin_a.adds (Adds-then s.other.adds s.begin_b.adds))) (control_then s.first.next s.first.adds s.second.adds) in
        control_fit (omega arith) (omega arith) (control_joined front s.join.adds);
    circuit = circuit;
  }
