-- The uses, action by action.
use Rattle.std.proofs.Common.{◌<◌, ◌≤◌, length, map, ap, arith}
use Rattle.std.specs.Borrow.{Bor}
use Rattle.std.specs.Prelude.{slice_index}
use Rattle.std.proofs.lemmas.List.{length-map}
use Rattle.hc_core.specs.Typed.{kinds_of}
use Rattle.hc_core.specs.declared.object.Object.{Object}
use Rattle.hc_core.specs.declared.stmt.Stmt.{Stmt}
use Rattle.hc_control.specs.Listing.{IsAction, action_of}
use Rattle.hc_control.specs.Uses.{IsBuiltAction}
use Rattle.hc_control.proofs.UsesNets.{places_kept}
use Rattle.hc_control.proofs.UsesAdded.{no_uses_made, part_at, holds_at, uses_step, uses_room, uses_all}
use Rattle.hc_control.proofs.uses.uses.Goals as goal

pub loop-i-init : goal.loop-i-init
loop-i-init c =
    no_uses_made (kinds_of c.args.core.now.objects) c.args.at.now c.args.starts.now c.args.b.now c.len.result c.in_ok-uses.uses.items
    (omega (arith, c.len.ensures, length-map c.args.core.now.objects (λ (o : Object). o.kind))) c.in_ok-uses.ensures

pub add_action-requires-clause-places : goal.add_action-requires-clause-places
add_action-requires-clause-places c = places_kept (kinds_of c.args.core.now.objects) c.args.at.now c.loop-i.invariant.adds c.requires.places

pub add_action-requires-clause-action : goal.add_action-requires-clause-action
add_action-requires-clause-action c =
    let inside : c.loop-i.i < length (map (λ (s : Bor Stmt). s.now) c.args.actions.now) = rw (length-map c.args.actions.now (λ (s : Bor Stmt). s.now)) c.loop-i-test.true in
    holds_at IsAction (map (λ (s : Bor Stmt). s.now) c.args.actions.now) c.loop-i.i c.index-actions-i.result.now c.requires.actions inside
    (part_at (λ (s : Bor Stmt). s.now) c.args.actions.now c.loop-i.i c.index-actions-i.result c.loop-i-test.true c.index-actions-i.is)

pub add_action-requires-clause-built : goal.add_action-requires-clause-built
add_action-requires-clause-built c =
    let inside : c.loop-i.i < length (map (λ (s : Bor Stmt). action_of s.now) c.args.actions.now) = rw (length-map c.args.actions.now (λ (s : Bor Stmt). action_of s.now)) c.loop-i-test.true in
    holds_at (IsBuiltAction (kinds_of c.args.core.now.objects)) (map (λ (s : Bor Stmt). action_of s.now) c.args.actions.now) c.loop-i.i (action_of c.index-actions-i.result.now) c.requires.built inside
    (part_at (λ (s : Bor Stmt). action_of s.now) c.args.actions.now c.loop-i.i c.index-actions-i.result c.loop-i-test.true c.index-actions-i.is)

pub add_action-requires-clause-room : goal.add_action-requires-clause-room
add_action-requires-clause-room c =
    let inside : c.loop-i.i < length (map (λ (s : Bor Stmt). action_of s.now) c.args.actions.now) = rw (length-map c.args.actions.now (λ (s : Bor Stmt). action_of s.now)) c.loop-i-test.true in
    uses_room (kinds_of c.args.core.now.objects) c.args.at.now c.args.starts.now (map (λ (s : Bor Stmt). action_of s.now) c.args.actions.now) c.loop-i.i (action_of c.index-actions-i.result.now) c.args.b.now c.loop-i.b c.loop-i.uses.items
    inside (part_at (λ (s : Bor Stmt). action_of s.now) c.args.actions.now c.loop-i.i c.index-actions-i.result c.loop-i-test.true c.index-actions-i.is) c.requires.room c.loop-i.invariant

pub loop-i-preserved : goal.loop-i-preserved
loop-i-preserved c =
    let all = map (λ (s : Bor Stmt). action_of s.now) c.args.actions.now in
    let size = length-map c.args.actions.now (λ (s : Bor Stmt). action_of s.now) in
    let inside : c.loop-i.i < length (map (λ (s : Bor Stmt). action_of s.now) c.args.actions.now) = rw (length-map c.args.actions.now (λ (s : Bor Stmt). action_of s.now)) c.loop-i-test.true in
    uses_step (kinds_of c.args.core.now.objects) c.args.at.now c.args.starts.now all c.loop-i.i (slice_index c.as_slice.result.now c.loop-i.i) (action_of c.index-actions-i.result.now) c.args.b.now c.loop-i.b c.add_action.new.b
    c.loop-i.uses.items c.add_action.new.uses.items c.requires.places c.requires.starts (omega (arith, size, c.requires.count)) c.requires.built inside
    (part_at (λ (s : Bor Stmt). action_of s.now) c.args.actions.now c.loop-i.i c.index-actions-i.result c.loop-i-test.true c.index-actions-i.is) (ap (λ l. slice_index l c.loop-i.i) c.as_slice.ensures) c.loop-i.invariant c.in_ok-add_action.ensures

pub returns : goal.returns
returns c =
    let all : length c.args.actions.now ≤ c.loop-i.i = omega (arith, c.loop-i-test.false) in
    uses_all (kinds_of c.args.core.now.objects) c.args.at.now c.args.starts.now (map (λ (s : Bor Stmt). action_of s.now) c.args.actions.now) c.loop-i.i c.args.b.now c.loop-i.b c.loop-i.uses.items
    (omega (arith, all, length-map c.args.actions.now (λ (s : Bor Stmt). action_of s.now))) c.loop-i.invariant
