-- What it takes to call each stage of a netlist for a core within its bounds: there is room, and what is named is there.
use Rattle.std.proofs.Common.{◌≡◌, ◌<◌, ◌+◌, ◌^◌, List, length, sym, subst}
use Rattle.std.specs.List.{sum_by}
use Rattle.hc_core.specs.Typed.{kinds_of}
use Rattle.hc_core.specs.Weigh.{AreSound}
use Rattle.hc_core.specs.declared.object.Core.{Core}
use Rattle.hc_core.specs.declared.object.Kind.{Kind}
use Rattle.hc_net.specs.Circuit.{Circuit}
use Rattle.hc_value.specs.declared.objects.ObjectNets.{ObjectNets}
use Rattle.hc_control.specs.Controlled.{CanControl, IsControlled}
use Rattle.hc_control.specs.Right.{HasPlaces}
use Rattle.hc_control.specs.declared.uses.ObjectUses.{ObjectUses}
use Rattle.hc_build.specs.Built.{IsBuildable}
use Rattle.hc_build.specs.Objects.{Places}
use Rattle.hc_build.specs.Sources.{AreBuiltOutputs, output_gates}
use Rattle.hc_build.specs.Uses.{HasUses, all_next_gates}
use Rattle.hc_build.proofs.Program.{built_outputs, core_main}
use Rattle.hc_build.proofs.StructureStages.{control_room, sources_room, has_uses, placed_low, placed_places, used_places}

-- The control can be built.
pub can_control : (core : Core) (placed : Circuit) (at : ObjectNets) → IsBuildable core → Places core placed at → CanControl core at placed
can_control core placed at b p = record {
  reads = record { sound = b.sound.kinds; places = placed_places core placed at p; low = placed_low core placed at p };
  typed = b.sound.main;
  built = core_main core b;
  loops = b.loops;
  labels = b.labels;
  room = control_room core placed at b.light p;
}

-- What it takes to make the sources.
pub record CanMakeSources (kinds : List Kind) (used : Circuit) (at : ObjectNets) (uses : List ObjectUses) : Type 0 where
  pub sound : AreSound kinds
  pub places : HasPlaces kinds used.nodes at
  pub uses_are : HasUses kinds used.nodes uses
  pub built : AreBuiltOutputs kinds
  pub room : length used.nodes + (all_next_gates used.nodes kinds uses + sum_by (output_gates kinds) kinds) < 2 ^ 32

pub can_make_sources : (core : Core) (placed used : Circuit) (at : ObjectNets) (uses : List ObjectUses) → IsBuildable core → Places core placed at → IsControlled core at placed used uses
    → CanMakeSources (kinds_of core.objects) used at uses
can_make_sources core placed used at uses b p c = record {
  sound = b.sound.kinds;
  places = used_places core placed used at p c.adds;
  uses_are = has_uses c;
  built = built_outputs core b;
  room = sources_room b p c;
}

-- the uses of all objects, where they are taken as a slice
pub sliced_uses : {core : Core} {at : ObjectNets} {old new : Circuit} {items slice : List ObjectUses} → slice ≡ items → IsControlled core at old new items → IsControlled core at old new slice
sliced_uses {core} {at} {old} {new} same controlled = subst (λ (l : List ObjectUses). IsControlled core at old new l) (sym same) controlled
