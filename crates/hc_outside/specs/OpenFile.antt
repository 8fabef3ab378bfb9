-- The sink over the open file of a store. The rules are this project's own.
use Rattle.std.specs.Prelude.{ℕ, List, Option, Some, None}
use Rattle.std.specs.Option.{option_map}
use Rattle.std.specs.FinMap.{remove}
use Rattle.std.specs.Borrow.{MutBor}
use Rattle.hc_outside.specs.declared.open_file.OpenFile.{OpenFile}
use Rattle.hc_outside.specs.Store.{Files, Disk, StoreState, open_bytes}
use Rattle.hc_outside.specs.Sink.{SinkState}

-- the files but the one of that name
abbrev pub files_but : Files → Option (List ℕ) → Files
files_but files None = files
files_but files (Some name) = remove files name

-- the open file's name, and all other files
abbrev pub others : Disk → Files × Option (List ℕ)
others d = (files_but d.files d.open_name, d.open_name)

-- the sink that appends to the open file of a store, over that loan of the store
abbrev pub over : ℕ → StoreState → SinkState
over loan s = record {
  text = option_map open_bytes s.disk;
  faults = s.writes;
  ready = s.is_open;
  sure = s.sure;
  rest = Some (record { loan = loan; others = option_map others s.disk; reads = s.reads });
}

-- the loan of the store that an `OpenFile` has
abbrev pub lent : {S : Type 0} → OpenFile S → MutBor S
lent f = f.store

-- what an `OpenFile` means, where its store means that
abbrev pub state_of : {S : Type 0} → (S → StoreState) → OpenFile S → SinkState
state_of store_state f = over f.store.ghost_name (store_state f.store.now)
