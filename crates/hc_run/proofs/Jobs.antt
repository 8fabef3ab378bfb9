-- How the steps of a job come together.
use Rattle.std.specs.Prelude.{◌≡◌, ◌⊎◌, ◌≤◌, ◌++◌, ℕ, List, [], length, Option, Some, None, unwrap_or, Result, Ok, Err, refl}
use Rattle.std.proofs.Common.{sym, ◌∙◌, ap, subst, inl, inr}
use Rattle.std.proofs.lemmas.List.{append-nil}
use Rattle.std.specs.Option.{option_map}
use Rattle.std.specs.FinMap.{insert}
use Rattle.hc_outside.specs.declared.errors.WriteErr.{WriteErr}
use Rattle.hc_outside.specs.declared.errors.WriteErr.TheVariants as write
use Rattle.hc_outside.specs.Count.{HasRisen}
use Rattle.hc_outside.specs.Store.{Files, Disk, StoreState, IsFile, IsMissing, IsLonger, SameFiles, Created, Appended, AppendedFront, Closed, created, appended, closed, MovesReads, MovesWrites}
use Rattle.hc_outside.specs.SinkLemmas.{Moves-none, Moves-more}
use Rattle.hc_outside.specs.FilesLemmas.{get-insert_same, insert-insert}
use Rattle.hc_core.specs.Weight.{weight_of}
use Rattle.hc_core.specs.declared.object.Core.{Core}
use Rattle.hc_net.specs.declared.net.RawNet.{RawNet}
use Rattle.hc_run.specs.declared.due.Due.{Due}
use Rattle.hc_run.specs.declared.due.Due.TheVariants.{Built, Checked, Refused, Usage, ReadFault, Longer}
use Rattle.hc_net.specs.Run.{gate_count}
use Rattle.hc_net.specs.Valid.{IsValid}
use Rattle.hc_build.specs.Implements.{IsNetlistOf}
use Rattle.hc_run.specs.Lines.{built_line, checked_line}
use Rattle.hc_run.specs.Words.{IsBuild, IsCheck, Loads, to_build, to_check}
use Rattle.hc_run.specs.declared.status.Role.TheVariants.{Source}
use Rattle.hc_run.specs.Answer.{source_limit, Accepted, Compiles, saved, Saved, files_of, HoldsFront, MovesCounts}
use Rattle.hc_run.specs.Steps.{filled, Filled, FilledFront, Saves, CompilesSource, ChecksSource, Performs}

-- the file of that name after it was created and filled
pub files-filled : (name bytes : List ℕ) (d : Disk) → (appended bytes (created name d)).files ≡ insert d.files name bytes
files-filled name bytes d =
    ap (λ o. insert (insert d.files name []) name (unwrap_or o [] ++ bytes)) (get-insert_same d.files name [])
    ∙ insert-insert d.files name [] bytes

then_closed : (bytes : List ℕ) (disk : Option Disk) → option_map closed (option_map (appended bytes) disk) ≡ option_map (filled bytes) disk
then_closed bytes None = refl
then_closed bytes (Some d) = refl

files-closed : (disk : Option Disk) → files_of (option_map closed disk) ≡ files_of disk
files-closed None = refl
files-closed (Some d) = refl

filled_created : (name bytes : List ℕ) (disk : Option Disk) → option_map (filled bytes) (option_map (created name) disk) ≡ option_map (saved name bytes) disk
filled_created name bytes None = refl
filled_created name bytes (Some d) = ap (λ (files : Files). Some (record { files = files; open_name = None })) (files-filled name bytes d)

files_created : (name bytes : List ℕ) (disk : Option Disk) → files_of (option_map (appended bytes) (option_map (created name) disk)) ≡ option_map (λ files. insert files name bytes) (files_of disk)
files_created name bytes None = refl
files_created name bytes (Some d) = ap Some (files-filled name bytes d)

-- the open file was filled and closed
pub Filled-closed : {bytes : List ℕ} {old mid new : StoreState} → Appended bytes old mid → Closed mid new → Filled bytes old new
Filled-closed {bytes} {old} first second = record {
  disk = second.disk ∙ ap (option_map closed) first.disk ∙ then_closed bytes old.disk;
  is_open = second.is_open;
}

-- it was filled, and the close failed
pub FilledFront-closed : {bytes : List ℕ} {old mid new : StoreState} → Appended bytes old mid → Closed mid new → FilledFront bytes old new
FilledFront-closed {bytes} {old} {mid} first second = record {
  front = bytes;
  back = [];
  parts = append-nil bytes;
  files = ap files_of second.disk ∙ files-closed mid.disk ∙ ap files_of first.disk;
}

-- it was filled in part
pub FilledFront-part : {bytes : List ℕ} {old new : StoreState} → AppendedFront bytes old new → FilledFront bytes old new
FilledFront-part h = record { front = h.front; back = h.back; parts = h.parts; files = ap files_of h.appended.disk }

-- a file was created, filled and closed
pub Saved-filled : {name bytes : List ℕ} {old mid new : StoreState} → Created name old mid → Filled bytes mid new → Saved name bytes old new
Saved-filled {name} {bytes} {old} first second = record {
  disk = second.disk ∙ ap (option_map (filled bytes)) first.disk ∙ filled_created name bytes old.disk;
  is_open = second.is_open;
}

-- a file was created and filled in part
pub HoldsFront-filled : {name bytes : List ℕ} {old mid new : StoreState} → Created name old mid → FilledFront bytes mid new → HoldsFront name bytes old new
HoldsFront-filled {name} {bytes} {old} first second = record {
  front = second.front;
  back = second.back;
  parts = second.parts;
  files = second.files ∙ ap (λ disk. files_of (option_map (appended second.front) disk)) first.disk ∙ files_created name second.front old.disk;
}

pub MovesWrites-none : (s : StoreState) → MovesWrites s s
MovesWrites-none s = record { told = refl; sure = refl; reads = refl; writes = Moves-none s.sure s.writes }

pub MovesWrites-more : {x y z : StoreState} → MovesWrites x y → MovesWrites y z → MovesWrites x z
MovesWrites-more first second = record {
  told = second.told ∙ first.told;
  sure = second.sure ∙ first.sure;
  reads = second.reads ∙ first.reads;
  writes = Moves-more first.sure first.writes second.writes;
}

-- a call that read, and then calls that wrote
pub MovesCounts-both : {x y z : StoreState} → MovesReads x y → MovesWrites y z → MovesCounts x z
MovesCounts-both {x} first second = record {
  told = second.told ∙ first.told;
  sure = second.sure ∙ first.sure;
  reads = record { no_less = rw second.reads first.reads.no_less; stands = λ h. second.reads ∙ first.reads.stands h };
  writes = record { no_less = rw (← first.writes) second.writes.no_less; stands = λ h. second.writes.stands (first.sure ∙ h) ∙ first.writes };
}

pub MovesCounts-reads : {x y : StoreState} → MovesReads x y → MovesCounts x y
MovesCounts-reads {x} {y} h = MovesCounts-both h (MovesWrites-none y)

pub MovesCounts-none : (s : StoreState) → MovesCounts s s
MovesCounts-none s = record { told = refl; sure = refl; reads = Moves-none s.sure s.reads; writes = Moves-none s.sure s.writes }

pub SameFiles-none : (s : StoreState) → SameFiles s s
SameFiles-none s = record { disk = refl; is_open = refl }

-- what was saved after a load was saved to the files before it

pub SameFiles-more : {x y z : StoreState} → SameFiles x y → SameFiles y z → SameFiles x z
SameFiles-more first second = record { disk = second.disk ∙ first.disk; is_open = second.is_open ∙ first.is_open }

pub Saved-loaded : {name bytes : List ℕ} {x y z : StoreState} → SameFiles x y → Saved name bytes y z → Saved name bytes x z
Saved-loaded {name} {bytes} first second = record { disk = second.disk ∙ ap (option_map (saved name bytes)) first.disk; is_open = second.is_open }

pub HoldsFront-loaded : {name bytes : List ℕ} {x y z : StoreState} → SameFiles x y → HoldsFront name bytes y z → HoldsFront name bytes x z
HoldsFront-loaded {name} first second = record {
  front = second.front;
  back = second.back;
  parts = second.parts;
  files = second.files ∙ ap (λ disk. option_map (λ files. insert files name second.front) (files_of disk)) first.disk;
}

files-loaded : {name bytes : List ℕ} {x y z : StoreState} → SameFiles x y → SameFiles y z ⊎ HoldsFront name bytes y z → SameFiles x z ⊎ HoldsFront name bytes x z
files-loaded first (inl h) = inl (SameFiles-more first h)
files-loaded first (inr h) = inr (HoldsFront-loaded first h)

-- what is known once the source is loaded and has a netlist
compiles : (words : List (List ℕ)) (file name bytes : List ℕ) (core : Core) (raw : RawNet) (x : StoreState) → IsBuild words file name
    → IsFile x.disk file bytes → length bytes ≤ source_limit → Accepted bytes core → IsNetlistOf core raw → IsValid raw → Compiles words x name raw
compiles words file name bytes core raw x job source within accepted netlist valid = record {
  file = file;
  job = job;
  bytes = bytes;
  source = source;
  within = within;
  core = core;
  accepted = accepted;
  netlist = netlist;
  valid = valid;
}

-- a netlist that was saved after a load, as an end of the job
saves-loaded : (words : List (List ℕ)) (name : List ℕ) (raw : RawNet) (x y z : StoreState) (result : Result Due WriteErr) → Compiles words x name raw
    → SameFiles x y → MovesReads x y → Saves raw name y z result → Performs words x z result
saves-loaded words name raw x y z (Ok (Built gates flops rams)) known files counts h = inl (record {
  name = name;
  raw = raw;
  compiles = known;
  saves = Saved-loaded files h.3;
  says =
      ap (λ n. built_line n flops rams) h.0 ∙ ap (λ n. built_line (gate_count raw.cells) n rams) h.1
      ∙ ap (built_line (gate_count raw.cells) (length raw.flops)) h.2;
})
saves-loaded words name raw x y z (Ok (Checked objects weight flops)) known files counts h = absurd h
saves-loaded words name raw x y z (Ok (Refused refusal)) known files counts h = absurd h
saves-loaded words name raw x y z (Ok Usage) known files counts h = absurd h
saves-loaded words name raw x y z (Ok (ReadFault role)) known files counts h = absurd h
saves-loaded words name raw x y z (Ok (Longer role)) known files counts h = absurd h
saves-loaded words name raw x y z (Err write.WriteFault) known files counts h = record {
  name = name;
  raw = raw;
  compiles = known;
  cause = subst (λ (n : ℕ). HasRisen n z.writes) counts.writes h.0;
  files = files-loaded files h.1;
}
saves-loaded words name raw x y z (Err write.NoMemory) known files counts (inl h) = inl (SameFiles-more files h)
saves-loaded words name raw x y z (Err write.NoMemory) known files counts (inr h) = inr (record {
  name = name;
  raw = raw;
  compiles = known;
  files = HoldsFront-loaded files h;
})

no_memory-loaded : (words : List (List ℕ)) (x y z : StoreState) (result : Result Due WriteErr) → SameFiles x y → result ≡ Err write.NoMemory → SameFiles y z → Performs words x z result
no_memory-loaded words x y z result files is h = subst (Performs words x z) (sym is) (inl (SameFiles-more files h))

-- A source that was loaded and compiled, as an end of the job.
pub Performs-compiled : (words : List (List ℕ)) (file name bytes : List ℕ) (x y z : StoreState) (result : Result Due WriteErr) → IsBuild words file name
    → IsFile x.disk file bytes → length bytes ≤ source_limit → SameFiles x y → MovesReads x y → CompilesSource bytes name y z result → Performs words x z result
Performs-compiled words file name bytes x y z result job source within files counts (inl h) = elim h.builds [
  | inl b ↦ saves-loaded words name b.raw x y z result (compiles words file name bytes h.core b.raw x job source within h.accepted b.netlist b.valid) files counts b.saves
  | inr b ↦ no_memory-loaded words x y z result files b.0 b.1
]
Performs-compiled words file name bytes x y z result job source within files counts (inr (inl h)) = subst (Performs words x z) (sym h.is) (record {
  file = file;
  job = to_build name job;
  bytes = bytes;
  source = source;
  within = within;
  first = h.first;
  files = subst (λ (s : StoreState). SameFiles x s) (sym h.store) files;
  counts = subst (λ (s : StoreState). MovesReads x s) (sym h.store) counts;
  says = refl;
})
Performs-compiled words file name bytes x y z result job source within files counts (inr (inr h)) = no_memory-loaded words x y z result files h.0 h.1

-- A source that couldn't be loaded, as an end of the job.
pub Performs-failed : (words : List (List ℕ)) (file : List ℕ) (x y : StoreState) → Loads words file
    → HasRisen x.reads y.reads ⊎ IsMissing x.disk file → SameFiles x y → MovesReads x y → Performs words x y (Ok (ReadFault Source))
Performs-failed words file x y job cause files counts = record { file = file; job = job; cause = cause; files = files; counts = counts; says = refl }

-- A source over its limit, as an end of the job.
pub Performs-longer : (words : List (List ℕ)) (file : List ℕ) (x y : StoreState) → Loads words file
    → IsLonger x.disk file source_limit → SameFiles x y → MovesReads x y → Performs words x y (Ok (Longer Source))
Performs-longer words file x y job longer files counts = record { file = file; job = job; longer = longer; files = files; counts = counts; says = refl }

-- A source that was loaded and checked, as an end of the job.
pub Performs-checked : (words : List (List ℕ)) (file bytes : List ℕ) (x y : StoreState) (result : Result Due WriteErr) → IsCheck words file
    → IsFile x.disk file bytes → length bytes ≤ source_limit → SameFiles x y → MovesReads x y → ChecksSource bytes result → Performs words x y result
Performs-checked words file bytes x y (Ok (Built gates flops rams)) job source within files counts h = absurd h
Performs-checked words file bytes x y (Ok (Checked objects weight flops)) job source within files counts h = inr (record {
  file = file;
  job = job;
  bytes = bytes;
  source = source;
  within = within;
  core = h.core;
  accepted = h.accepted;
  files = files;
  counts = counts;
  says = ap (λ n. checked_line n weight flops) h.objects
      ∙ ap (λ n. checked_line (length h.core.objects) n flops) h.weight
      ∙ ap (checked_line (length h.core.objects) (weight_of h.core)) h.flops;
})
Performs-checked words file bytes x y (Ok (Refused refusal)) job source within files counts h = record {
  file = file;
  job = to_check job;
  bytes = bytes;
  source = source;
  within = within;
  first = h;
  files = files;
  counts = counts;
  says = refl;
}
Performs-checked words file bytes x y (Ok Usage) job source within files counts h = absurd h
Performs-checked words file bytes x y (Ok (ReadFault role)) job source within files counts h = absurd h
Performs-checked words file bytes x y (Ok (Longer role)) job source within files counts h = absurd h
Performs-checked words file bytes x y (Err write.WriteFault) job source within files counts h = absurd h
Performs-checked words file bytes x y (Err write.NoMemory) job source within files counts h = inl files
