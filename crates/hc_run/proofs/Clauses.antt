-- What each answer of the top call says, from all of them together.
use Rattle.std.specs.Prelude.{◌≡◌, ◌≢◌, ◌⊎◌, ◌<◌, ◌≤◌, ℕ, Bool, true, false, List, length, Option, Some, None, refl}
use Rattle.std.proofs.Common.{sym, ◌∙◌, ap, subst, inl, inr, arith}
use Rattle.hc_outside.specs.Count.{HasRisen, Moves, IsCount}
use Rattle.hc_outside.specs.Store.{Disk, StoreState, IsFile, IsMissing, IsLonger, SameFiles}
use Rattle.hc_outside.specs.Sink.{SinkState}
use Rattle.hc_core.specs.declared.object.Core.{Core}
use Rattle.hc_tree.specs.declared.refusal.Refusal.{Refusal}
use Rattle.hc_net.specs.declared.net.RawNet.{RawNet}
use Rattle.hc_run.specs.declared.status.Role.{Role}
use Rattle.hc_run.specs.declared.status.Role.TheVariants.{Source}
use Rattle.hc_run.specs.declared.status.Status.{Status}
use Rattle.hc_run.specs.declared.status.Status.TheVariants.{Done, Refused, Usage, ReadFault, WriteFault, NoMemory, Longer}
use Rattle.hc_run.specs.Words.{IsBuild, IsCheck, Loads, to_build, to_check, HasNoJob}
use Rattle.hc_run.specs.Answer.{source_limit, Accepted, First, AreAlike, Compiles, HasChecked, IsWriteFault, IsNoMemory, IsDue, IsCutOff, Prints, MovesCounts, HasFile, LineFails, LoadFails, KeepsFiles, RefusesAs}
use Rattle.hc_run.specs.Steps.{Reports, written, stopped_by_fault, stopped_by_memory, Answers, told, fault, no_memory, cut_by_fault, cut_by_memory}
use Rattle.hc_run.proofs.Jobs.{SameFiles-none}

-- what is answered once the line of a due status was written, or cut off
pub Answers-reported : (words : List (List ℕ)) (old new : StoreState) (out out' : SinkState) (due : Status) (line : List ℕ) (result : Status)
    → IsDue words old new due line → Reports due line out out' result → Answers words old new out out' result
Answers-reported words old new out out' due line result known (written is wrote) =
    told line (subst (λ (s : Status). IsDue words old new s line) (sym is) known) wrote
Answers-reported words old new out out' due line result known (stopped_by_fault is risen front) =
    cut_by_fault is risen (record { due = due; line = line; is_due = known; front = front })
Answers-reported words old new out out' due line result known (stopped_by_memory is front) =
    cut_by_memory is (record { due = due; line = line; is_due = known; front = front })

-- The clauses on a status.

-- a status that has a line was due, and its line was written
pub told_of : (words : List (List ℕ)) (old new : StoreState) (out out' : SinkState) (result due : Status) → due ≢ WriteFault → due ≢ NoMemory
    → Answers words old new out out' result → result ≡ due → Prints (λ line. IsDue words old new due line) out out'
told_of words old new out out' result due a b (told line known wrote) e =
    record { line = line; fits = subst (λ (s : Status). IsDue words old new s line) e known; wrote = wrote }
told_of words old new out out' result due a b (fault is h same) e = absurd (a (sym e ∙ is))
told_of words old new out out' result due a b (no_memory is h same) e = absurd (b (sym e ∙ is))
told_of words old new out out' result due a b (cut_by_fault is risen cut) e = absurd (a (sym e ∙ is))
told_of words old new out out' result due a b (cut_by_memory is cut) e = absurd (b (sym e ∙ is))

pub write_fault_of : (words : List (List ℕ)) (old new : StoreState) (out out' : SinkState) (result : Status)
    → Answers words old new out out' result → result ≡ WriteFault
    → (IsWriteFault words old new × (out' ≡ out)) ⊎ (IsCutOff words old new out out' × HasRisen out.faults out'.faults)
write_fault_of words old new out out' result (told line known wrote) e = absurd (subst (λ (s : Status). IsDue words old new s line) e known)
write_fault_of words old new out out' result (fault is h same) e = inl (h, same)
write_fault_of words old new out out' result (no_memory is h same) e = absurd (cc)
write_fault_of words old new out out' result (cut_by_fault is risen cut) e = inr (cut, risen)
write_fault_of words old new out out' result (cut_by_memory is cut) e = absurd (cc)

pub no_memory_of : (words : List (List ℕ)) (old new : StoreState) (out out' : SinkState) (result : Status)
    → Answers words old new out out' result → result ≡ NoMemory
    → (IsNoMemory words old new × (out' ≡ out)) ⊎ IsCutOff words old new out out'
no_memory_of words old new out out' result (told line known wrote) e = absurd (subst (λ (s : Status). IsDue words old new s line) e known)
no_memory_of words old new out out' result (fault is h same) e = absurd (cc)
no_memory_of words old new out out' result (no_memory is h same) e = inl (h, same)
no_memory_of words old new out out' result (cut_by_fault is risen cut) e = absurd (cc)
no_memory_of words old new out out' result (cut_by_memory is cut) e = inr cut

-- The clauses that say where a status comes.

-- what is due, or what comes in its place where the line can't be written
where_due : (words : List (List ℕ)) (old new : StoreState) (out out' : SinkState) (result : Status) (P : Status → Type 0)
    → ((due : Status) (line : List ℕ) → IsDue words old new due line → P due) → (IsWriteFault words old new → ⊥)
    → Answers words old new out out' result → P result ⊎ LineFails out out' result
where_due words old new out out' result P due other (told line known wrote) = inl (due result line known)
where_due words old new out out' result P due other (fault is h same) = absurd (other h)
where_due words old new out out' result P due other (no_memory is h same) = inr (subst (LineFails out out') (sym is) tt)
where_due words old new out out' result P due other (cut_by_fault is risen cut) = inr (subst (LineFails out out') (sym is) risen)
where_due words old new out out' result P due other (cut_by_memory is cut) = inr (subst (LineFails out out') (sym is) tt)

split : {A B C : Type 0} → (A ⊎ B) ⊎ C → A ⊎ B ⊎ C
split (inl (inl a)) = inl a
split (inl (inr b)) = inr (inl b)
split (inr c) = inr (inr c)

-- the words name one source
two_builds : {words : List (List ℕ)} {f n g m : List ℕ} → IsBuild words f n → IsBuild words g m → g ≡ f
two_builds h k = let a = h.words in let b = k.words in cc

two_checks : {words : List (List ℕ)} {f g : List ℕ} → IsCheck words f → IsCheck words g → g ≡ f
two_checks h k = let a = h.words in let b = k.words in cc

two_jobs : {words : List (List ℕ)} {f n g : List ℕ} → IsBuild words f n → IsCheck words g → ⊥
two_jobs h k = let a = h.words in let b = k.words in cc

same_source : (words : List (List ℕ)) (f g : List ℕ) → Loads words f → Loads words g → g ≡ f
same_source words f g (to_build name h) (to_build other k) = two_builds h k
same_source words f g (to_build name h) (to_check k) = absurd (two_jobs h k)
same_source words f g (to_check h) (to_build name k) = absurd (two_jobs k h)
same_source words f g (to_check h) (to_check k) = two_checks h k

file-missing : (disk : Option Disk) (name bytes : List ℕ) → IsFile disk name bytes → IsMissing disk name → ⊥
file-missing None name bytes h m = m
file-missing (Some d) name bytes h m = cc

longer-missing : (disk : Option Disk) (name : List ℕ) (limit : ℕ) → IsLonger disk name limit → IsMissing disk name → ⊥
longer-missing None name limit h m = m
longer-missing (Some d) name limit h m = rw m at h

file-there : (disk : Option Disk) (name bytes : List ℕ) → HasFile disk name bytes → IsMissing disk name → ⊥
file-there None name bytes h m = m
file-there (Some d) name bytes h m = cc

same_bytes : (disk : Option Disk) (name a b : List ℕ) → HasFile disk name a → IsFile disk name b → b ≡ a
same_bytes None name a b h k = absurd h
same_bytes (Some d) name a b h k = cc

longer-there : (disk : Option Disk) (name bytes : List ℕ) (limit : ℕ) → HasFile disk name bytes → IsLonger disk name limit → limit < length bytes
longer-there None name bytes limit h k = absurd h
longer-there (Some d) name bytes limit h k = rw h at k

-- words without a job

usage_due : (words : List (List ℕ)) (old new : StoreState) → HasNoJob words → (due : Status) (line : List ℕ) → IsDue words old new due line → due ≡ Usage
usage_due words old new none Done line (inl h) = absurd (none _ (to_build _ h.compiles.job))
usage_due words old new none Done line (inr h) = absurd (none _ (to_check h.job))
usage_due words old new none (Refused refusal) line h = absurd (none _ h.job)
usage_due words old new none Usage line h = refl
usage_due words old new none (ReadFault role) line h = absurd (none _ h.job)
usage_due words old new none (Longer role) line h = absurd (none _ h.job)
usage_due words old new none WriteFault line h = absurd h
usage_due words old new none NoMemory line h = absurd h

pub usage_where : (words : List (List ℕ)) (old new : StoreState) (out out' : SinkState) (result : Status)
    → Answers words old new out out' result → HasNoJob words → (result ≡ Usage) ⊎ LineFails out out' result
usage_where words old new out out' result h none =
    where_due words old new out out' result (λ s. s ≡ Usage) (usage_due words old new none) (λ w. none _ (to_build _ w.compiles.job)) h

-- a source that isn't there

source-missing : (words : List (List ℕ)) (old : StoreState) (file other bytes : List ℕ) → Loads words file → IsMissing old.disk file → Loads words other → IsFile old.disk other bytes → ⊥
source-missing words old file other bytes job missing same source =
    file-missing old.disk file bytes (subst (λ (f : List ℕ). IsFile old.disk f bytes) (same_source words file other job same) source) missing

compiles-missing : (words : List (List ℕ)) (old : StoreState) (file other : List ℕ) (raw : RawNet) → Loads words file → IsMissing old.disk file → Compiles words old other raw → ⊥
compiles-missing words old file other raw job missing h = source-missing words old file h.file h.bytes job missing (to_build other h.job) h.source

missing_due : (words : List (List ℕ)) (old new : StoreState) (file : List ℕ) → Loads words file → IsMissing old.disk file
    → (due : Status) (line : List ℕ) → IsDue words old new due line → due ≡ ReadFault Source
missing_due words old new file job missing Done line (inl h) = absurd (compiles-missing words old file h.name h.raw job missing h.compiles)
missing_due words old new file job missing Done line (inr h) = absurd (source-missing words old file h.file h.bytes job missing (to_check h.job) h.source)
missing_due words old new file job missing (Refused refusal) line h = absurd (source-missing words old file h.file h.bytes job missing h.job h.source)
missing_due words old new file job missing Usage line h = absurd (h.no_job _ job)
missing_due words old new file job missing (ReadFault Source) line h = refl
missing_due words old new file job missing (Longer role) line h =
    absurd (longer-missing old.disk file source_limit (subst (λ (f : List ℕ). IsLonger old.disk f source_limit) (same_source words file h.file job h.job) h.longer) missing)
missing_due words old new file job missing WriteFault line h = absurd h
missing_due words old new file job missing NoMemory line h = absurd h

pub missing_where : (words : List (List ℕ)) (old new : StoreState) (out out' : SinkState) (result : Status)
    → Answers words old new out out' result → (file : List ℕ) → Loads words file → IsMissing old.disk file
    → (result ≡ ReadFault Source) ⊎ LineFails out out' result
missing_where words old new out out' result h file job missing =
    where_due words old new out out' result (λ s. s ≡ ReadFault Source) (missing_due words old new file job missing)
    (λ w. compiles-missing words old file w.name w.raw job missing w.compiles) h

-- A source that is there, with these bytes.

pub record Given (words : List (List ℕ)) (old : StoreState) (bytes : List ℕ) : Type 0 where
  pub file : List ℕ
  pub job : Loads words file
  pub there : HasFile old.disk file bytes

given_bytes : (words : List (List ℕ)) (old : StoreState) (bytes file other : List ℕ) → Given words old bytes → Loads words file → IsFile old.disk file other → other ≡ bytes
given_bytes words old bytes file other given job h =
    same_bytes old.disk given.file bytes other given.there (subst (λ (f : List ℕ). IsFile old.disk f other) (same_source words given.file file given.job job) h)

given_longer : (words : List (List ℕ)) (old : StoreState) (bytes file : List ℕ) → Given words old bytes → Loads words file → IsLonger old.disk file source_limit → source_limit < length bytes
given_longer words old bytes file given job h =
    longer-there old.disk given.file bytes source_limit given.there (subst (λ (f : List ℕ). IsLonger old.disk f source_limit) (same_source words given.file file given.job job) h)

given_fault : (words : List (List ℕ)) (old new : StoreState) (bytes file : List ℕ) → Given words old bytes → Loads words file
    → HasRisen old.reads new.reads ⊎ IsMissing old.disk file → HasRisen old.reads new.reads
given_fault words old new bytes file given job (inl risen) = risen
given_fault words old new bytes file given job (inr missing) =
    absurd (file-there old.disk given.file bytes given.there (subst (IsMissing old.disk) (same_source words given.file file given.job job) missing))

given_compiles : (words : List (List ℕ)) (old : StoreState) (bytes name : List ℕ) (raw : RawNet) → Given words old bytes → (h : Compiles words old name raw) → h.bytes ≡ bytes
given_compiles words old bytes name raw given h = given_bytes words old bytes h.file h.bytes given (to_build name h.job) h.source

given_checked : (words : List (List ℕ)) (old new : StoreState) (bytes line : List ℕ) → Given words old bytes → (h : HasChecked words old new line) → h.bytes ≡ bytes
given_checked words old new bytes line given h = given_bytes words old bytes h.file h.bytes given (to_check h.job) h.source

-- a source over its limit

longer_due : (words : List (List ℕ)) (old new : StoreState) (bytes : List ℕ) → Given words old bytes → source_limit < length bytes
    → (due : Status) (line : List ℕ) → IsDue words old new due line → (due ≡ Longer Source) ⊎ LoadFails old new due
longer_due words old new bytes given over Done line (inl h) =
    let e = given_compiles words old bytes h.name h.raw given h.compiles in let w = rw e at h.compiles.within in absurd (omega arith)
longer_due words old new bytes given over Done line (inr h) =
    let e = given_checked words old new bytes line given h in let w = rw e at h.within in absurd (omega arith)
longer_due words old new bytes given over (Refused refusal) line h =
    let e = given_bytes words old bytes h.file h.bytes given h.job h.source in let w = rw e at h.within in absurd (omega arith)
longer_due words old new bytes given over Usage line h = absurd (h.no_job _ given.job)
longer_due words old new bytes given over (ReadFault role) line h = inr (given_fault words old new bytes h.file given h.job h.cause)
longer_due words old new bytes given over (Longer Source) line h = inl refl
longer_due words old new bytes given over WriteFault line h = absurd h
longer_due words old new bytes given over NoMemory line h = absurd h

pub longer_where : (words : List (List ℕ)) (old new : StoreState) (out out' : SinkState) (result : Status)
    → Answers words old new out out' result → (file bytes : List ℕ) → Loads words file → HasFile old.disk file bytes → source_limit < length bytes
    → (result ≡ Longer Source) ⊎ LoadFails old new result ⊎ LineFails out out' result
longer_where words old new out out' result h file bytes job there over =
    let given : Given words old bytes = record { file = file; job = job; there = there } in
    split (where_due words old new out out' result (λ s. (s ≡ Longer Source) ⊎ LoadFails old new s) (longer_due words old new bytes given over)
    (λ w. let e = given_compiles words old bytes w.name w.raw given w.compiles in let v = rw e at w.compiles.within in omega arith) h)

-- a source that is refused

-- the laws of sources: first refusals are alike, and there is none where there is a core
abbrev pub OneFirst : Type 0
OneFirst = (bytes : List ℕ) (refusal other : Refusal) → First bytes refusal → First bytes other → AreAlike refusal other

abbrev pub NeverBoth : Type 0
NeverBoth = (bytes : List ℕ) (core : Core) (refusal : Refusal) → Accepted bytes core → First bytes refusal → ⊥

compiles-refused : NeverBoth → (words : List (List ℕ)) (old : StoreState) (bytes name : List ℕ) (raw : RawNet) (refusal : Refusal) → Given words old bytes → First bytes refusal → Compiles words old name raw → ⊥
compiles-refused both words old bytes name raw refusal given first h =
    both bytes h.core refusal (subst (λ (b : List ℕ). Accepted b h.core) (given_compiles words old bytes name raw given h) h.accepted) first

refused_due : OneFirst → NeverBoth → (words : List (List ℕ)) (old new : StoreState) (bytes : List ℕ) (refusal : Refusal) → Given words old bytes → length bytes ≤ source_limit → First bytes refusal
    → (due : Status) (line : List ℕ) → IsDue words old new due line → RefusesAs refusal due ⊎ LoadFails old new due
refused_due one both words old new bytes refusal given within first Done line (inl h) = absurd (compiles-refused both words old bytes h.name h.raw refusal given first h.compiles)
refused_due one both words old new bytes refusal given within first Done line (inr h) =
    absurd (both bytes h.core refusal (subst (λ (b : List ℕ). Accepted b h.core) (given_checked words old new bytes line given h) h.accepted) first)
refused_due one both words old new bytes refusal given within first (Refused other) line h =
    inl (one bytes other refusal (subst (λ (b : List ℕ). First b other) (given_bytes words old bytes h.file h.bytes given h.job h.source) h.first) first)
refused_due one both words old new bytes refusal given within first Usage line h = absurd (h.no_job _ given.job)
refused_due one both words old new bytes refusal given within first (ReadFault role) line h = inr (given_fault words old new bytes h.file given h.job h.cause)
refused_due one both words old new bytes refusal given within first (Longer role) line h =
    let over = given_longer words old bytes h.file given h.job h.longer in absurd (omega arith)
refused_due one both words old new bytes refusal given within first WriteFault line h = absurd h
refused_due one both words old new bytes refusal given within first NoMemory line h = absurd h

pub refused_where : OneFirst → NeverBoth → (words : List (List ℕ)) (old new : StoreState) (out out' : SinkState) (result : Status)
    → Answers words old new out out' result → (file bytes : List ℕ) (refusal : Refusal) → Loads words file → HasFile old.disk file bytes → length bytes ≤ source_limit → First bytes refusal
    → RefusesAs refusal result ⊎ LoadFails old new result ⊎ LineFails out out' result
refused_where one both words old new out out' result h file bytes refusal job there within first =
    let given : Given words old bytes = record { file = file; job = job; there = there } in
    split (where_due words old new out out' result (λ s. RefusesAs refusal s ⊎ LoadFails old new s) (refused_due one both words old new bytes refusal given within first)
    (λ w. compiles-refused both words old bytes w.name w.raw refusal given first w.compiles) h)

-- completeness

done_due : NeverBoth → (words : List (List ℕ)) (old new : StoreState) (bytes : List ℕ) (core : Core) → Given words old bytes → length bytes ≤ source_limit → Accepted bytes core
    → (HasRisen old.reads new.reads → ⊥) → (due : Status) (line : List ℕ) → IsDue words old new due line → due ≡ Done
done_due both words old new bytes core given within some no_fault Done line h = refl
done_due both words old new bytes core given within some no_fault (Refused refusal) line h =
    absurd (both bytes core refusal some (subst (λ (b : List ℕ). First b refusal) (given_bytes words old bytes h.file h.bytes given h.job h.source) h.first))
done_due both words old new bytes core given within some no_fault Usage line h = absurd (h.no_job _ given.job)
done_due both words old new bytes core given within some no_fault (ReadFault role) line h = absurd (no_fault (given_fault words old new bytes h.file given h.job h.cause))
done_due both words old new bytes core given within some no_fault (Longer role) line h =
    let over = given_longer words old bytes h.file given h.job h.longer in absurd (omega arith)
done_due both words old new bytes core given within some no_fault WriteFault line h = absurd h
done_due both words old new bytes core given within some no_fault NoMemory line h = absurd h

pub completeness : NeverBoth → (words : List (List ℕ)) (old new : StoreState) (out out' : SinkState) (result : Status)
    → Answers words old new out out' result → (file bytes : List ℕ) (core : Core) → Loads words file → HasFile old.disk file bytes → length bytes ≤ source_limit → Accepted bytes core
    → (HasRisen old.reads new.reads → ⊥) → (HasRisen old.writes new.writes → ⊥) → (HasRisen out.faults out'.faults → ⊥) → (result ≡ Done) ⊎ (result ≡ NoMemory)
completeness both words old new out out' result (told line known wrote) file bytes core job there within some reads writes faults =
    inl (done_due both words old new bytes core (record { file = file; job = job; there = there }) within some reads result line known)
completeness both words old new out out' result (fault is h same) file bytes core job there within some reads writes faults = absurd (writes h.cause)
completeness both words old new out out' result (no_memory is h same) file bytes core job there within some reads writes faults = inr is
completeness both words old new out out' result (cut_by_fault is risen cut) file bytes core job there within some reads writes faults = absurd (faults risen)
completeness both words old new out out' result (cut_by_memory is cut) file bytes core job there within some reads writes faults = inr is

-- The files.

kept_due : (words : List (List ℕ)) (old new : StoreState) (due : Status) (line : List ℕ) → KeepsFiles due → IsDue words old new due line → SameFiles old new
kept_due words old new Done line keeps h = absurd keeps
kept_due words old new (Refused refusal) line keeps h = h.files
kept_due words old new Usage line keeps h = rw h.store (SameFiles-none old)
kept_due words old new (ReadFault role) line keeps h = h.files
kept_due words old new (Longer role) line keeps h = h.files
kept_due words old new WriteFault line keeps h = absurd keeps
kept_due words old new NoMemory line keeps h = absurd keeps

pub files_kept : (words : List (List ℕ)) (old new : StoreState) (out out' : SinkState) (result : Status) → Answers words old new out out' result → KeepsFiles result → SameFiles old new
files_kept words old new out out' result (told line known wrote) keeps = kept_due words old new result line keeps known
files_kept words old new out out' result (fault is h same) keeps = absurd (subst KeepsFiles is keeps)
files_kept words old new out out' result (no_memory is h same) keeps = absurd (subst KeepsFiles is keeps)
files_kept words old new out out' result (cut_by_fault is risen cut) keeps = absurd (subst KeepsFiles is keeps)
files_kept words old new out out' result (cut_by_memory is cut) keeps = absurd (subst KeepsFiles is keeps)

pub files_due : (words : List (List ℕ)) (old new : StoreState) (out out' : SinkState) (result : Status)
    → Answers words old new out out' result → result ≡ WriteFault → (HasRisen old.writes new.writes → ⊥) → IsCutOff words old new out out'
files_due words old new out out' result (told line known wrote) e none = absurd (subst (λ (s : Status). IsDue words old new s line) e known)
files_due words old new out out' result (fault is h same) e none = absurd (none h.cause)
files_due words old new out out' result (no_memory is h same) e none = absurd (cc)
files_due words old new out out' result (cut_by_fault is risen cut) e none = cut
files_due words old new out out' result (cut_by_memory is cut) e none = absurd (cc)

closed_due : (words : List (List ℕ)) (old new : StoreState) (due : Status) (line : List ℕ) → old.is_open ≡ false → IsDue words old new due line → new.is_open ≡ false
closed_due words old new Done line shut (inl h) = h.saves.is_open
closed_due words old new Done line shut (inr h) = h.files.is_open ∙ shut
closed_due words old new (Refused refusal) line shut h = h.files.is_open ∙ shut
closed_due words old new Usage line shut h = ap (λ (s : StoreState). s.is_open) h.store ∙ shut
closed_due words old new (ReadFault role) line shut h = h.files.is_open ∙ shut
closed_due words old new (Longer role) line shut h = h.files.is_open ∙ shut
closed_due words old new WriteFault line shut h = absurd h
closed_due words old new NoMemory line shut h = absurd h

pub closed_after : (words : List (List ℕ)) (old new : StoreState) (out out' : SinkState) (result : Status)
    → Answers words old new out out' result → old.is_open ≡ false → result ≢ WriteFault → result ≢ NoMemory → new.is_open ≡ false
closed_after words old new out out' result (told line known wrote) shut a b = closed_due words old new result line shut known
closed_after words old new out out' result (fault is h same) shut a b = absurd (a is)
closed_after words old new out out' result (no_memory is h same) shut a b = absurd (b is)
closed_after words old new out out' result (cut_by_fault is risen cut) shut a b = absurd (a is)
closed_after words old new out out' result (cut_by_memory is cut) shut a b = absurd (b is)

-- Sure stores and sinks.

-- a count of a sure object doesn't rise
sure_stands : (sure : Bool) (old new : ℕ) → sure ≡ true → IsCount sure old → Moves sure old new → HasRisen old new → ⊥
sure_stands sure old new is_sure count moves risen =
    let stands = moves.stands is_sure in let below = count.below is_sure in let up = risen (rw stands below) in omega arith

pub sure_writes : (words : List (List ℕ)) (old new : StoreState) (out out' : SinkState) (result : Status)
    → Answers words old new out out' result → IsCount old.sure old.writes → IsCount out.sure out.faults → MovesCounts old new
    → old.sure ≡ true → out.sure ≡ true → result ≢ WriteFault
sure_writes words old new out out' result h writes faults moves a b e =
    elim (write_fault_of words old new out out' result h e) [
      | inl w ↦ sure_stands old.sure old.writes new.writes a writes moves.writes w.0.cause
      | inr w ↦ sure_stands out.sure out.faults out'.faults b faults w.0.front.wrote.faults w.1
    ]

pub sure_reads : (words : List (List ℕ)) (old new : StoreState) (out out' : SinkState) (result : Status)
    → Answers words old new out out' result → IsCount old.sure old.reads → MovesCounts old new
    → old.sure ≡ true → (role : Role) → result ≡ ReadFault role → (file : List ℕ) → Loads words file → IsMissing old.disk file
sure_reads words old new out out' result h reads moves a role e file job =
    let p = told_of words old new out out' result (ReadFault role) (λ w. cc) (λ w. cc) h e in
    elim p.fits.cause [
      | inl risen ↦ absurd (sure_stands old.sure old.reads new.reads a reads moves.reads risen)
      | inr missing ↦ subst (IsMissing old.disk) (same_source words file p.fits.file job p.fits.job) missing
    ]
