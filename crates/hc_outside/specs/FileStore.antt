-- What a `FileStore` means.
use Rattle.std.specs.Prelude.{is_some}
use Rattle.std.specs.declared.io.traits.Read as read
use Rattle.std.specs.declared.io.traits.Write as write
use Rattle.std.specs.declared.io.traits.Seek as seek
use Rattle.hc_outside.specs.declared.file_store.FileStore.{FileStore}
use Rattle.hc_outside.specs.Store.{StoreState, untold_store}

-- for any runtime, with its files and folders
module _ {R F D : Type 0} {fr : read.Ghosts F} {fw : write.Ghosts F} {fs : seek.Ghosts F} {dr : read.Ghosts D} where
  -- it tells nothing, and has a file open where it holds one
  abbrev pub state_of : FileStore R F D fr fw fs dr → StoreState
  state_of s = untold_store (is_some s.file) s.reads s.writes
