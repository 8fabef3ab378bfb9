-- What the parts of the top call hand on to each other.
use Rattle.std.specs.Prelude.{◌≡◌, ◌⊎◌, ◌++◌, ℕ, false, List, length, Result, Ok, Err}
use Rattle.std.specs.Option.{option_map}
use Rattle.hc_outside.specs.declared.errors.WriteErr.{WriteErr}
use Rattle.hc_outside.specs.declared.errors.WriteErr.TheVariants as write
use Rattle.hc_outside.specs.Count.{HasRisen}
use Rattle.hc_outside.specs.Store.{Disk, StoreState, SameFiles, appended, closed}
use Rattle.hc_outside.specs.Sink.{SinkState, Wrote, WroteFront}
use Rattle.hc_tree.specs.declared.refusal.Refusal.{Refusal}
use Rattle.hc_core.specs.Weight.{weight_of, flops_of}
use Rattle.hc_core.specs.declared.object.Core.{Core}
use Rattle.hc_net.specs.declared.net.RawNet.{RawNet}
use Rattle.hc_net.specs.Run.{gate_count, ram_count}
use Rattle.hc_net.specs.Valid.{IsValid}
use Rattle.hc_run.specs.declared.status.Status.{Status}
use Rattle.hc_run.specs.declared.status.Status.TheVariants as status
use Rattle.hc_run.specs.declared.due.Due.{Due}
use Rattle.hc_run.specs.declared.due.Due.TheVariants.{Built, Checked, Refused, Usage, ReadFault, Longer}
use Rattle.hc_run.specs.Edif.{edif}
use Rattle.hc_build.specs.Implements.{IsNetlistOf}
use Rattle.hc_run.specs.Refused.{refusal_line}
use Rattle.hc_run.specs.Lines.{built_line, checked_line, usage_line, read_fault_line, longer_line}
use Rattle.hc_run.specs.Answer.{Accepted, First, Saved, files_of, HoldsFront, IsDue, IsWriteFault, IsNoMemory, IsCutOff}

-- the status that is due
abbrev pub status_of : Due → Status
status_of (Built gates flops rams) = status.Done
status_of (Checked objects weight flops) = status.Done
status_of (Refused refusal) = status.Refused refusal
status_of Usage = status.Usage
status_of (ReadFault role) = status.ReadFault role
status_of (Longer role) = status.Longer role

-- the line of that status
abbrev pub text_of : Due → List ℕ
text_of (Built gates flops rams) = built_line gates flops rams
text_of (Checked objects weight flops) = checked_line objects weight flops
text_of (Refused refusal) = refusal_line refusal
text_of Usage = usage_line
text_of (ReadFault role) = read_fault_line role
text_of (Longer role) = longer_line role

-- These bytes were appended to the open file, and it was closed.
abbrev pub filled : List ℕ → Disk → Disk
filled bytes d = closed (appended bytes d)

pub record Filled (bytes : List ℕ) (old new : StoreState) : Type 0 where
  pub disk : new.disk ≡ option_map (filled bytes) old.disk
  pub is_open : new.is_open ≡ false

-- Some front part of these bytes was appended to the open file; it may be closed.
pub record FilledFront (bytes : List ℕ) (old new : StoreState) : Type 0 where
  pub front : List ℕ
  pub back : List ℕ
  pub parts : front ++ back ≡ bytes
  pub files : files_of new.disk ≡ files_of (option_map (appended front) old.disk)

-- how a netlist was saved under a name
abbrev pub Saves : RawNet → List ℕ → StoreState → StoreState → Result Due WriteErr → Type 0
Saves raw name old new (Ok (Built gates flops rams)) = (gates ≡ gate_count raw.cells) × (flops ≡ length raw.flops) × (rams ≡ ram_count raw.cells) × Saved name (edif raw) old new
Saves raw name old new (Ok (Checked objects weight flops)) = ⊥
Saves raw name old new (Ok (Refused refusal)) = ⊥
Saves raw name old new (Ok Usage) = ⊥
Saves raw name old new (Ok (ReadFault role)) = ⊥
Saves raw name old new (Ok (Longer role)) = ⊥
Saves raw name old new (Err write.WriteFault) = HasRisen old.writes new.writes × (SameFiles old new ⊎ HoldsFront name (edif raw) old new)
Saves raw name old new (Err write.NoMemory) = SameFiles old new ⊎ HoldsFront name (edif raw) old new

-- The netlist does what the core does, and this is how it was saved.
pub record SavesNet (core : Core) (name : List ℕ) (old new : StoreState) (result : Result Due WriteErr) : Type 0 where
  pub raw : RawNet
  pub netlist : IsNetlistOf core raw
  pub valid : IsValid raw
  pub saves : Saves raw name old new result

-- how a core was built: a netlist was saved, or there was no memory for it
abbrev pub BuildsCore : Core → List ℕ → StoreState → StoreState → Result Due WriteErr → Type 0
BuildsCore core name old new result = SavesNet core name old new result ⊎ ((result ≡ Err write.NoMemory) × SameFiles old new)

-- The source has this core, and this is how it was built.
pub record BuildsAccepted (bytes name : List ℕ) (old new : StoreState) (result : Result Due WriteErr) : Type 0 where
  pub core : Core
  pub accepted : Accepted bytes core
  pub builds : BuildsCore core name old new result

-- The source is refused.
pub record RefusesSource (bytes : List ℕ) (old new : StoreState) (result : Result Due WriteErr) : Type 0 where
  pub refusal : Refusal
  pub first : First bytes refusal
  pub store : new ≡ old
  pub is : result ≡ Ok (Refused refusal)

-- how a source was compiled
abbrev pub CompilesSource : List ℕ → List ℕ → StoreState → StoreState → Result Due WriteErr → Type 0
CompilesSource bytes name old new result = BuildsAccepted bytes name old new result ⊎ RefusesSource bytes old new result ⊎ ((result ≡ Err write.NoMemory) × SameFiles old new)

-- The source has this core, and these are its counts.
pub record Counts (bytes : List ℕ) (of_objects of_weight of_flops : ℕ) : Type 0 where
  pub core : Core
  pub accepted : Accepted bytes core
  pub objects : of_objects ≡ length core.objects
  pub weight : of_weight ≡ weight_of core
  pub flops : of_flops ≡ flops_of core

-- how a source was checked
abbrev pub ChecksSource : List ℕ → Result Due WriteErr → Type 0
ChecksSource bytes (Ok (Checked objects weight flops)) = Counts bytes objects weight flops
ChecksSource bytes (Ok (Refused refusal)) = First bytes refusal
ChecksSource bytes (Ok (Built gates flops rams)) = ⊥
ChecksSource bytes (Ok Usage) = ⊥
ChecksSource bytes (Ok (ReadFault role)) = ⊥
ChecksSource bytes (Ok (Longer role)) = ⊥
ChecksSource bytes (Err write.WriteFault) = ⊥
ChecksSource bytes (Err write.NoMemory) = Unit {0}

-- how a job ended, before its line is written
abbrev pub Performs : List (List ℕ) → StoreState → StoreState → Result Due WriteErr → Type 0
Performs words old new (Ok due) = IsDue words old new (status_of due) (text_of due)
Performs words old new (Err write.WriteFault) = IsWriteFault words old new
Performs words old new (Err write.NoMemory) = IsNoMemory words old new

-- how a line was written, and what is answered then
pub data Reports (due : Status) (line : List ℕ) (old new : SinkState) (result : Status) : Type 0 where
  written : result ≡ due → Wrote line old new → Reports due line old new result
  stopped_by_fault : result ≡ status.WriteFault → HasRisen old.faults new.faults → WroteFront line old new → Reports due line old new result
  stopped_by_memory : result ≡ status.NoMemory → WroteFront line old new → Reports due line old new result

-- all answers of the top call
pub data Answers (words : List (List ℕ)) (old new : StoreState) (out out' : SinkState) (result : Status) : Type 0 where
  told : (line : List ℕ) → IsDue words old new result line → Wrote line out out' → Answers words old new out out' result
  fault : result ≡ status.WriteFault → IsWriteFault words old new → out' ≡ out → Answers words old new out out' result
  no_memory : result ≡ status.NoMemory → IsNoMemory words old new → out' ≡ out → Answers words old new out out' result
  cut_by_fault : result ≡ status.WriteFault → HasRisen out.faults out'.faults → IsCutOff words old new out out' → Answers words old new out out' result
  cut_by_memory : result ≡ status.NoMemory → IsCutOff words old new out out' → Answers words old new out out' result
