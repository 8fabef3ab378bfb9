-- Each action by its form.
use Rattle.std.proofs.Common.{◌<◌, ◌+◌, ◌^◌, length, refl, sym, subst}
use Rattle.std.specs.Prelude.{OnOk}
use Rattle.hc_core.specs.Typed.{kinds_of}
use Rattle.hc_core.specs.declared.stmt.Stmt.{Stmt}
use Rattle.hc_control.specs.Listing.{action_of}
use Rattle.hc_control.specs.Uses.{IsBuiltAction, AddsUses, action_gates}
use Rattle.hc_control.proofs.uses.add_action.Goals as goal

pub add_write-requires-clause-built : goal.add_write-requires-clause-built
add_write-requires-clause-built c = subst (λ (a : Stmt). IsBuiltAction (kinds_of c.args.core.now.objects) (action_of a)) c.in-Assign.is c.requires.built

pub add_write-requires-clause-room : goal.add_write-requires-clause-room
add_write-requires-clause-room c = subst (λ (a : Stmt). length c.args.b.now.nodes + action_gates (kinds_of c.args.core.now.objects) (action_of a) < 2 ^ 32) c.in-Assign.is c.requires.room

pub returns-in-Assign : goal.returns-in-Assign
returns-in-Assign c =
    subst (λ (a : Stmt). OnOk c.add_write.result (AddsUses (kinds_of c.args.core.now.objects) c.args.at.now c.args.start (action_of a) c.args.b.now c.add_write.new.b c.args.uses.now.items c.add_write.new.uses.items))
    (sym c.in-Assign.is) c.add_write.ensures

pub returns-in-Delay : goal.returns-in-Delay
returns-in-Delay c =
    subst (λ (a : Stmt). AddsUses (kinds_of c.args.core.now.objects) c.args.at.now c.args.start (action_of a) c.args.b.now c.args.b.now c.args.uses.now.items c.args.uses.now.items) (sym c.in-Delay.is) (refl, refl)
