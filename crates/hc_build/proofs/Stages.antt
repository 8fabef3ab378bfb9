-- The stages in which a netlist is made: the objects are placed, then control is built with the nets of what the actions write,
-- then what each object reads, and at last each object is connected.
use Rattle.std.proofs.Common.{ℕ, List}
use Rattle.hc_core.specs.Typed.{kinds_of}
use Rattle.hc_core.specs.declared.object.Core.{Core}
use Rattle.hc_net.specs.Circuit.{Circuit}
use Rattle.hc_value.specs.declared.objects.ObjectNets.{ObjectNets}
use Rattle.hc_control.specs.Controlled.{IsControlled}
use Rattle.hc_control.specs.declared.uses.ObjectUses.{ObjectUses}
use Rattle.hc_build.specs.Built.{IsBuildable}
use Rattle.hc_build.specs.Objects.{Places}
use Rattle.hc_build.specs.Sources.{MakesSources, Connects}

-- What is made from stage to stage.
pub record Stages (core : Core) (at : ObjectNets) (uses : List ObjectUses) (sources : List (List ℕ)) (placed used read last : Circuit) : Type 0 where
  pub buildable : IsBuildable core
  pub places : Places core placed at
  pub controlled : IsControlled core at placed used uses
  pub makes_sources : MakesSources (kinds_of core.objects) at uses used read sources
  pub connects : Connects (kinds_of core.objects) at sources read last
