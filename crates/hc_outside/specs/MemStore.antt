-- What a `MemStore` means.
use Rattle.std.specs.Prelude.{Some, is_some}
use Rattle.hc_outside.specs.declared.mem_store.MemStore.{MemStore}
use Rattle.hc_outside.specs.MemFiles.{disk_of}
use Rattle.hc_outside.specs.Plan.{Plan, is_calm}
use Rattle.hc_outside.specs.Store.{StoreState}

-- it tells its files, and is sure exactly where no call is to fail
abbrev pub state_of : MemStore → StoreState
state_of m = record {
  disk = Some (disk_of m.files.items m.opened);
  is_open = is_some m.opened;
  reads = m.reads;
  writes = m.writes;
  sure = is_calm m.plan;
}

-- which of its calls fail, and what an append takes at most
abbrev pub plan_of : MemStore → Plan
plan_of m = m.plan
