-- What a `Store` means, and what each of its calls does to that. The rules are this project's own.
use Rattle.std.specs.Prelude.{◌≡◌, ◌<◌, ◌++◌, ℕ, Bool, true, false, List, [], Option, Some, None, is_some, length, unwrap_or, IsSome, IfSome, IsSomeAnd}
use Rattle.std.specs.Option.{option_map}
use Rattle.std.specs.Ordering.{nat_cmp}
use Rattle.std.specs.Cmp.Lexicographic.{slice_cmp}
use Rattle.std.specs.FinMap.{FinMap, empty, get, insert}
use Rattle.hc_outside.specs.Count.{Moves, IsCount}

-- files by name: the bytes of a name, and the bytes of the file
abbrev pub Files : Type 0
Files = FinMap (slice_cmp nat_cmp) (List ℕ)

-- the files of a store, and the name of the one that is open
pub record Disk : Type 0 where
  pub files : Files
  pub open_name : Option (List ℕ)

-- what a store means; a store that doesn't tell its bytes has no disk here
pub record StoreState : Type 0 where
  pub disk : Option Disk
  pub is_open : Bool
  -- how many faults of reading there were, and how many of the other calls
  pub reads : ℕ
  pub writes : ℕ
  -- a sure store has no faults
  pub sure : Bool

-- the file of that name has these bytes, where the files are told
abbrev pub IsFile : Option Disk → List ℕ → List ℕ → Type 0
IsFile None name bytes = Unit {0}
IsFile (Some d) name bytes = get d.files name ≡ Some bytes

-- the files are told and none has that name
abbrev pub IsMissing : Option Disk → List ℕ → Type 0
IsMissing None name = ⊥
IsMissing (Some d) name = get d.files name ≡ None

-- the file of that name is there and has more bytes than the limit, where the files are told
abbrev pub IsLonger : Option Disk → List ℕ → ℕ → Type 0
IsLonger None name limit = Unit {0}
IsLonger (Some d) name limit = IsSomeAnd (get d.files name) (λ bytes. limit < length bytes)

-- the bytes of the file of that name, where there is a name
abbrev pub bytes_under : Files → Option (List ℕ) → List ℕ
bytes_under files None = []
bytes_under files (Some name) = unwrap_or (get files name) []

-- the files, with these bytes under the name
abbrev pub with_bytes : Files → Option (List ℕ) → List ℕ → Files
with_bytes files None bytes = files
with_bytes files (Some name) bytes = insert files name bytes

-- the bytes of the open file
abbrev pub open_bytes : Disk → List ℕ
open_bytes d = bytes_under d.files d.open_name

-- a disk after `create`: the file of that name is empty, and is the open one
abbrev pub created : List ℕ → Disk → Disk
created name d = record { files = insert d.files name []; open_name = Some name }

-- a disk after `append`: these bytes stand at the end of the open file
abbrev pub appended : List ℕ → Disk → Disk
appended bytes d = record { files = with_bytes d.files d.open_name (open_bytes d ++ bytes); open_name = d.open_name }

-- a disk after `close`: no file is open
abbrev pub closed : Disk → Disk
closed d = record { files = d.files; open_name = None }

-- a store with no file and no fault, which is sure
abbrev pub empty_store : StoreState
empty_store = record {
  disk = Some (record { files = empty; open_name = None });
  is_open = false;
  reads = 0;
  writes = 0;
  sure = true;
}

-- a store that tells nothing of its files, and is not sure
abbrev pub untold_store : Bool → ℕ → ℕ → StoreState
untold_store is_open reads writes = record { disk = None; is_open = is_open; reads = reads; writes = writes; sure = false }

-- a store whose file of that name has these bytes, and which is as before else
abbrev pub with_file : List ℕ → List ℕ → StoreState → StoreState
with_file name bytes s = record {
  disk = option_map (λ (d : Disk). record { files = insert d.files name bytes; open_name = d.open_name }) s.disk;
  is_open = s.is_open;
  reads = s.reads;
  writes = s.writes;
  sure = s.sure;
}

-- the new store has the old one's files, with an empty file of that name, which is open
pub record Created (name : List ℕ) (old new : StoreState) : Type 0 where
  pub disk : new.disk ≡ option_map (created name) old.disk
  pub is_open : new.is_open ≡ true

-- the new store has the old one's files, with these bytes at the end of the open file, which stays open
pub record Appended (bytes : List ℕ) (old new : StoreState) : Type 0 where
  pub disk : new.disk ≡ option_map (appended bytes) old.disk
  pub is_open : new.is_open ≡ old.is_open

-- the same with some front part of these bytes
pub record AppendedFront (bytes : List ℕ) (old new : StoreState) : Type 0 where
  pub front : List ℕ
  pub back : List ℕ
  pub parts : front ++ back ≡ bytes
  pub appended : Appended front old new

-- the new store has the old one's files, and no file is open
pub record Closed (old new : StoreState) : Type 0 where
  pub disk : new.disk ≡ option_map closed old.disk
  pub is_open : new.is_open ≡ false

-- a disk after a file was made, written and closed
abbrev pub saved : List ℕ → List ℕ → Disk → Disk
saved name bytes d = record { files = insert d.files name bytes; open_name = None }

-- the new store has the old one's files, with these bytes under that name, and no file is open
pub record Saved (name bytes : List ℕ) (old new : StoreState) : Type 0 where
  pub disk : new.disk ≡ option_map (saved name bytes) old.disk
  pub is_open : new.is_open ≡ false

-- the new store has the old one's files and open file
pub record SameFiles (old new : StoreState) : Type 0 where
  pub disk : new.disk ≡ old.disk
  pub is_open : new.is_open ≡ old.is_open

-- whether the files are told and whether the store is sure stay, and only the count of read faults moves
pub record MovesReads (old new : StoreState) : Type 0 where
  pub told : is_some new.disk ≡ is_some old.disk
  pub sure : new.sure ≡ old.sure
  pub reads : Moves old.sure old.reads new.reads
  pub writes : new.writes ≡ old.writes

-- whether the files are told and whether the store is sure stay, and only the count of write faults moves
pub record MovesWrites (old new : StoreState) : Type 0 where
  pub told : is_some new.disk ≡ is_some old.disk
  pub sure : new.sure ≡ old.sure
  pub reads : new.reads ≡ old.reads
  pub writes : Moves old.sure old.writes new.writes

-- a file is open exactly where the disk has an open name, and that file is there
pub record IsSoundDisk (is_open : Bool) (d : Disk) : Type 0 where
  pub named : is_some d.open_name ≡ is_open
  pub there : IfSome d.open_name (λ name. IsSome (get d.files name))

-- what holds of every store
pub record IsSound (s : StoreState) : Type 0 where
  pub disk : IfSome s.disk (IsSoundDisk s.is_open)
  pub reads : IsCount s.sure s.reads
  pub writes : IsCount s.sure s.writes
