-- A netlist whose circuit was made stage by stage is one of the core.
use Rattle.std.proofs.Common.{ℕ, List, Result, Ok, Err, IfOk}
use Rattle.hc_core.specs.declared.object.Core.{Core}
use Rattle.hc_net.specs.Circuit.{Circuit}
use Rattle.hc_net.specs.Seal.{Seals}
use Rattle.hc_net.specs.declared.net.RawNet.{RawNet}
use Rattle.hc_value.specs.declared.objects.ObjectNets.{ObjectNets}
use Rattle.hc_control.specs.declared.uses.ObjectUses.{ObjectUses}
use Rattle.hc_build.specs.Implements.{IsNetlistOf}
use Rattle.hc_build.proofs.Meaning.{holds, shows}
use Rattle.hc_build.proofs.Stages.{Stages}
use Rattle.hc_build.proofs.StructureNetlist.{history, is_netlist}
use Rattle.hc_build.proofs.StructureRuns.{objects_run}

pub netlist_of : (core : Core) (at : ObjectNets) (uses : List ObjectUses) (sources : List (List ℕ)) (placed used read last : Circuit) (s : Stages core at uses sources placed used read last)
    (raw : RawNet) → Seals last raw → IsNetlistOf core raw
netlist_of core at uses sources placed used read last s raw seals =
    is_netlist s raw seals (λ trace n run. record {
      holds = λ t le k e low. holds core at uses sources placed used read last s trace (history s raw seals trace) (seals.explains trace)
          (objects_run s trace (history s raw seals trace) (seals.explains trace)) n run t le k e low;
      shows = λ t within k w sign pins value is. shows core at uses sources placed used read last s trace (history s raw seals trace) (seals.explains trace)
          (objects_run s trace (history s raw seals trace) (seals.explains trace)) n run t within k w sign pins value is;
    })

-- what follows of a value that is there
pub if_ok : {T E : Type 0} (r : Result T E) (P Q : T → Type 0) → ((x : T) → P x → Q x) → IfOk r P → IfOk r Q
if_ok (Ok x) P Q f h = f x h
if_ok (Err x) P Q f h = tt
