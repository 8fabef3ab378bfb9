-- What each answer of the top call says: of the words, of the source, of the files afterwards and of the line that is
-- written. The answers and their causes are this project's own.
use Rattle.std.specs.Prelude.{◌≡◌, ◌⊎◌, ◌<◌, ◌≤◌, ◌++◌, ℕ, false, List, length, Option, Some, None, is_some}
use Rattle.std.specs.Option.{option_map}
use Rattle.std.specs.FinMap.{get, insert}
use Rattle.hc_outside.specs.Count.{HasRisen, Moves}
use Rattle.hc_outside.specs.Store.{Files, Disk, StoreState, IsFile, IsMissing, IsLonger, SameFiles, MovesReads}
use Rattle.hc_outside.specs.Sink.{SinkState, Wrote, WroteFront}
use Rattle.hc_lex.specs.Lexes.{Stops, HasTokens}
use Rattle.hc_lex.specs.Place.{start}
use Rattle.hc_lex.specs.declared.token.Placed.{Placed}
use Rattle.hc_tree.specs.declared.place.Place.{Place}
use Rattle.hc_parse.specs.Parsed.{HasTree, FirstRefusal}
use Rattle.hc_tree.specs.declared.refusal.FrontErr.{FrontErr}
use Rattle.hc_tree.specs.declared.refusal.FrontErr.TheVariants as front
use Rattle.hc_tree.specs.declared.refusal.Rule.TheVariants.{S17, NotBuilt}
use Rattle.hc_tree.specs.declared.refusal.Detail.TheVariants.{Nothing}
use Rattle.hc_tree.specs.declared.refusal.Refusal.{Refusal}
use Rattle.hc_core.specs.Depends.{Cyclic}
use Rattle.hc_core.specs.Weight.{weight_of, flops_of}
use Rattle.hc_core.specs.declared.object.Core.{Core}
use Rattle.hc_scope.specs.Expands as tree
use Rattle.hc_core.specs.Rules.{first_broken}
use Rattle.hc_cycle.specs.Order.{NamesCycle}
use Rattle.hc_rules.specs.Weight.{most_weight, too_heavy}
use Rattle.hc_net.specs.declared.net.RawNet.{RawNet}
use Rattle.hc_net.specs.Run.{gate_count, ram_count}
use Rattle.hc_net.specs.Valid.{IsValid}
use Rattle.hc_run.specs.declared.status.Role.{Role}
use Rattle.hc_run.specs.declared.status.Status.{Status}
use Rattle.hc_run.specs.declared.status.Status.TheVariants.{Done, Refused, Usage, ReadFault, WriteFault, NoMemory, Longer}
use Rattle.hc_build.specs.Built.{unbuilt}
use Rattle.hc_run.specs.Edif.{edif}
use Rattle.hc_build.specs.Implements.{IsNetlistOf}
use Rattle.hc_run.specs.Words.{IsBuild, IsCheck, Loads, HasNoJob}
use Rattle.hc_run.specs.Refused.{refusal_line}
use Rattle.hc_run.specs.Lines.{built_line, checked_line, usage_line, read_fault_line, longer_line}

-- how many bytes a source may have: 4 MiB
abbrev pub source_limit : ℕ
source_limit = 4194304

-- The tokens have a tree that expands to this core, which breaks no rule over the core, has no value within a clock that reaches
-- itself, is within the limit of the weight and is of built forms alone.
pub record IsSource (tokens : List Placed) (core : Core) : Type 0 where
  pub has_tree : HasTree tokens
  pub expands : tree.Expands has_tree.tree core
  pub rules : first_broken core ≡ None
  pub acyclic : Cyclic core → ⊥
  pub light : weight_of core ≤ most_weight
  pub built : unbuilt core ≡ None

-- The bytes are a source of this core: they have tokens within the limits, and these are the core's.
pub record Accepted (bytes : List ℕ) (core : Core) : Type 0 where
  pub lexed : HasTokens 0 start bytes
  pub source : IsSource lexed.tokens core

-- The bytes break S1, L1 or L2, and this is the first breach by place.
pub record BreaksTokens (bytes : List ℕ) (refusal : Refusal) : Type 0 where
  pub stops : Stops 0 start bytes refusal.rule refusal.place
  pub detail : refusal.detail ≡ Nothing

-- the refusal of what isn't built at a place
abbrev pub not_built : Place → Refusal
not_built place = record { rule = NotBuilt; place = place; detail = Nothing }

-- A core breaks a rule, and this refusal comes first: that of the rules over the core, then one that names a cycle of values within
-- a clock, then the limit of the weight, then the first form that isn't built.
pub data FirstOfCore (core : Core) (refusal : Refusal) : Type 0 where
  of_rule : first_broken core ≡ Some refusal → FirstOfCore core refusal
  of_cycle : first_broken core ≡ None → NamesCycle core refusal → FirstOfCore core refusal
  of_weight : first_broken core ≡ None → (Cyclic core → ⊥) → most_weight < weight_of core → refusal ≡ too_heavy → FirstOfCore core refusal
  of_form : first_broken core ≡ None → (Cyclic core → ⊥) → weight_of core ≤ most_weight → (place : Place) → unbuilt core ≡ Some place → refusal ≡ not_built place → FirstOfCore core refusal

-- The tokens have a tree, which breaks a rule or limit before it has a core; this refusal is the first.
pub record BreaksTree (tokens : List Placed) (refusal : Refusal) : Type 0 where
  pub has_tree : HasTree tokens
  pub stops : tree.Stops has_tree.tree refusal

-- The tokens have a tree that expands to a core, which breaks a rule; this refusal is the first.
pub record BreaksCore (tokens : List Placed) (refusal : Refusal) : Type 0 where
  pub has_tree : HasTree tokens
  pub core : Core
  pub expands : tree.Expands has_tree.tree core
  pub breaks : FirstOfCore core refusal

-- Tokens break a rule, and this refusal comes first: what they break where they have no tree (a word that is left out, then
-- the nesting, then the grammar), then what their tree breaks where it has no core, then what its core breaks.
pub data FirstOfTokens (tokens : List Placed) (end : Place) (refusal : Refusal) : Type 0 where
  of_grammar : FirstRefusal tokens end refusal → FirstOfTokens tokens end refusal
  of_tree : BreaksTree tokens refusal → FirstOfTokens tokens end refusal
  of_core : BreaksCore tokens refusal → FirstOfTokens tokens end refusal

-- The bytes have tokens within the limits, and this refusal is the first of these.
pub record BreaksSource (bytes : List ℕ) (refusal : Refusal) : Type 0 where
  pub lexed : HasTokens 0 start bytes
  pub breaks : FirstOfTokens lexed.tokens lexed.end refusal

-- The bytes break a rule, and this refusal comes first: what breaks a rule or limit of tokens, then what the tokens break.
pub data First (bytes : List ℕ) (refusal : Refusal) : Type 0 where
  of_bytes : BreaksTokens bytes refusal → First bytes refusal
  of_tokens : BreaksSource bytes refusal → First bytes refusal

-- two refusals that are one, or name two cycles
abbrev pub AreAlike : Refusal → Refusal → Type 0
AreAlike first second = (first ≡ second) ⊎ ((first.rule ≡ S17) × (second.rule ≡ S17))

-- a refusal of which this holds, or want of memory
abbrev pub IfRefusal : FrontErr → (Refusal → Type 0) → Type 0
IfRefusal (front.Refused refusal) holds = holds refusal
IfRefusal front.NoMemory holds = Unit {0}

-- the bytes have a core
pub record HasCore (bytes : List ℕ) : Type 0 where
  pub core : Core
  pub accepted : Accepted bytes core

-- the bytes have a first refusal
pub record HasRefusal (bytes : List ℕ) : Type 0 where
  pub refusal : Refusal
  pub first : First bytes refusal

-- The words name a job and its netlist file, the source is there within its limit, and the netlist is one of its core.
pub record Compiles (words : List (List ℕ)) (old : StoreState) (name : List ℕ) (raw : RawNet) : Type 0 where
  pub file : List ℕ
  pub job : IsBuild words file name
  pub bytes : List ℕ
  pub source : IsFile old.disk file bytes
  pub within : length bytes ≤ source_limit
  pub core : Core
  pub accepted : Accepted bytes core
  pub netlist : IsNetlistOf core raw
  pub valid : IsValid raw

-- a disk whose file of that name has these bytes, all other files being as before; none is open
abbrev pub saved : List ℕ → List ℕ → Disk → Disk
saved name bytes d = record { files = insert d.files name bytes; open_name = None }

-- The file of that name has these bytes, all other files are as before, and none is open.
pub record Saved (name bytes : List ℕ) (old new : StoreState) : Type 0 where
  pub disk : new.disk ≡ option_map (saved name bytes) old.disk
  pub is_open : new.is_open ≡ false

-- the files, where they are told
abbrev pub files_of : Option Disk → Option Files
files_of disk = option_map (λ d. d.files) disk

-- The file of that name has some front part of these bytes, and all other files are as before.
pub record HoldsFront (name bytes : List ℕ) (old new : StoreState) : Type 0 where
  pub front : List ℕ
  pub back : List ℕ
  pub parts : front ++ back ≡ bytes
  pub files : files_of new.disk ≡ option_map (λ files. insert files name front) (files_of old.disk)

-- Done of `build`: the netlist's text is saved under the name that the words give, and the line has the netlist's counts.
pub record HasBuilt (words : List (List ℕ)) (old new : StoreState) (line : List ℕ) : Type 0 where
  pub name : List ℕ
  pub raw : RawNet
  pub compiles : Compiles words old name raw
  pub saves : Saved name (edif raw) old new
  pub says : line ≡ built_line (gate_count raw.cells) (length raw.flops) (ram_count raw.cells)

-- Done of `check`: the source that the words name is there within its limit, it has a core, no file has changed, and the
-- line has the core's counts.
pub record HasChecked (words : List (List ℕ)) (old new : StoreState) (line : List ℕ) : Type 0 where
  pub file : List ℕ
  pub job : IsCheck words file
  pub bytes : List ℕ
  pub source : IsFile old.disk file bytes
  pub within : length bytes ≤ source_limit
  pub core : Core
  pub accepted : Accepted bytes core
  pub files : SameFiles old new
  pub counts : MovesReads old new
  pub says : line ≡ checked_line (length core.objects) (weight_of core) (flops_of core)

-- Done: the job of the words was done.
abbrev pub IsDone : List (List ℕ) → StoreState → StoreState → List ℕ → Type 0
IsDone words old new line = HasBuilt words old new line ⊎ HasChecked words old new line

-- Refused: the source that the words name is there within its limit, this refusal is its first, and no file has changed.
pub record IsRefused (words : List (List ℕ)) (old new : StoreState) (refusal : Refusal) (line : List ℕ) : Type 0 where
  pub file : List ℕ
  pub job : Loads words file
  pub bytes : List ℕ
  pub source : IsFile old.disk file bytes
  pub within : length bytes ≤ source_limit
  pub first : First bytes refusal
  pub files : SameFiles old new
  pub counts : MovesReads old new
  pub says : line ≡ refusal_line refusal

-- Usage: the words have no job, and the store is as before.
pub record IsUsage (words : List (List ℕ)) (old new : StoreState) (line : List ℕ) : Type 0 where
  pub no_job : HasNoJob words
  pub store : new ≡ old
  pub says : line ≡ usage_line

-- ReadFault: there was a fault of reading, or there is no source of that name. No file has changed.
pub record IsReadFault (words : List (List ℕ)) (old new : StoreState) (role : Role) (line : List ℕ) : Type 0 where
  pub file : List ℕ
  pub job : Loads words file
  pub cause : HasRisen old.reads new.reads ⊎ IsMissing old.disk file
  pub files : SameFiles old new
  pub counts : MovesReads old new
  pub says : line ≡ read_fault_line role

-- Longer: the source is over its limit. No file has changed.
pub record IsOverLimit (words : List (List ℕ)) (old new : StoreState) (role : Role) (line : List ℕ) : Type 0 where
  pub file : List ℕ
  pub job : Loads words file
  pub longer : IsLonger old.disk file source_limit
  pub files : SameFiles old new
  pub counts : MovesReads old new
  pub says : line ≡ longer_line role

-- WriteFault of the job: every check has passed, and there was a fault of writing. The netlist's file is as before or
-- has a front part of its text, and all other files are as before.
pub record IsWriteFault (words : List (List ℕ)) (old new : StoreState) : Type 0 where
  pub name : List ℕ
  pub raw : RawNet
  pub compiles : Compiles words old name raw
  pub cause : HasRisen old.writes new.writes
  pub files : SameFiles old new ⊎ HoldsFront name (edif raw) old new

-- every check has passed, and the netlist's file has a front part of its text; all other files are as before
pub record IsCutShort (words : List (List ℕ)) (old new : StoreState) : Type 0 where
  pub name : List ℕ
  pub raw : RawNet
  pub compiles : Compiles words old name raw
  pub files : HoldsFront name (edif raw) old new

-- NoMemory of the job: no file has changed, or the netlist's file is cut short.
abbrev pub IsNoMemory : List (List ℕ) → StoreState → StoreState → Type 0
IsNoMemory words old new = SameFiles old new ⊎ IsCutShort words old new

-- This status is due, with this line.
abbrev pub IsDue : List (List ℕ) → StoreState → StoreState → Status → List ℕ → Type 0
IsDue words old new Done line = IsDone words old new line
IsDue words old new (Refused refusal) line = IsRefused words old new refusal line
IsDue words old new Usage line = IsUsage words old new line
IsDue words old new (ReadFault role) line = IsReadFault words old new role line
IsDue words old new (Longer role) line = IsOverLimit words old new role line
IsDue words old new WriteFault line = ⊥
IsDue words old new NoMemory line = ⊥

-- A line was written, and this is what it stands for.
pub record Prints (means : List ℕ → Type 0) (old new : SinkState) : Type 0 where
  pub line : List ℕ
  pub fits : means line
  pub wrote : Wrote line old new

-- Some status was due, and only a front part of its line was written.
pub record IsCutOff (words : List (List ℕ)) (old new : StoreState) (out out' : SinkState) : Type 0 where
  pub due : Status
  pub line : List ℕ
  pub is_due : IsDue words old new due line
  pub front : WroteFront line out out'

-- whether the files are told and whether the store is sure stay, and the counts don't fall
pub record MovesCounts (old new : StoreState) : Type 0 where
  pub told : is_some new.disk ≡ is_some old.disk
  pub sure : new.sure ≡ old.sure
  pub reads : Moves old.sure old.reads new.reads
  pub writes : Moves old.sure old.writes new.writes

-- the files are told, and the file of that name has these bytes
abbrev pub HasFile : Option Disk → List ℕ → List ℕ → Type 0
HasFile None name bytes = ⊥
HasFile (Some d) name bytes = get d.files name ≡ Some bytes

-- the answer that a source is refused, by this refusal or by one that is alike
abbrev pub RefusesAs : Refusal → Status → Type 0
RefusesAs refusal (Refused answer) = AreAlike answer refusal
RefusesAs refusal Done = ⊥
RefusesAs refusal Usage = ⊥
RefusesAs refusal (ReadFault role) = ⊥
RefusesAs refusal (Longer role) = ⊥
RefusesAs refusal WriteFault = ⊥
RefusesAs refusal NoMemory = ⊥

-- the answer for want of memory, or for a fault of writing the line
abbrev pub LineFails : SinkState → SinkState → Status → Type 0
LineFails out out' WriteFault = HasRisen out.faults out'.faults
LineFails out out' NoMemory = Unit {0}
LineFails out out' Done = ⊥
LineFails out out' (Refused refusal) = ⊥
LineFails out out' Usage = ⊥
LineFails out out' (ReadFault role) = ⊥
LineFails out out' (Longer role) = ⊥

-- the answer for a fault of reading
abbrev pub LoadFails : StoreState → StoreState → Status → Type 0
LoadFails old new (ReadFault role) = HasRisen old.reads new.reads
LoadFails old new Done = ⊥
LoadFails old new (Refused refusal) = ⊥
LoadFails old new Usage = ⊥
LoadFails old new WriteFault = ⊥
LoadFails old new NoMemory = ⊥
LoadFails old new (Longer role) = ⊥

-- a status after which every file is as before
abbrev pub KeepsFiles : Status → Type 0
KeepsFiles (Refused refusal) = Unit {0}
KeepsFiles Usage = Unit {0}
KeepsFiles (ReadFault role) = Unit {0}
KeepsFiles (Longer role) = Unit {0}
KeepsFiles Done = ⊥
KeepsFiles WriteFault = ⊥
KeepsFiles NoMemory = ⊥
