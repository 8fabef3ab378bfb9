use Rattle.std.proofs.Common.{ap}
use Rattle.std.specs.Prelude.{Some, is_some}
use Rattle.hc_outside.specs.Plan.{is_calm}
use Rattle.hc_outside.specs.Store.{Disk, StoreState}
use Rattle.hc_outside.proofs.Opened.{IsOpened-after, disk-Sets}
use Rattle.hc_outside.proofs.mem_store.MemStore.put.Goals as goal

pub invariant_of-self-clause-open_there : goal.invariant_of-self-clause-open_there
invariant_of-self-clause-open_there c =
    IsOpened-after c.set_file.result c.args.name.now c.args.bytes.now c.args.self.now.files.items _ _ c.set_file.ensures.sets
    c.set_file.ensures.err c.args.self.now.open_there

pub returns-in-Ok-clause-ok : goal.returns-in-Ok-clause-ok
returns-in-Ok-clause-ok c =
    let s = c.args.self.now in
    let disk = disk-Sets c.args.name.now c.args.bytes.now s.files.items c.set_file.new.files.items s.opened c.in-Ok.ensures.sets s.open_there in
    ap (λ (d : Disk). let after : StoreState = record { disk = Some d; is_open = is_some s.opened; reads = s.reads; writes = s.writes; sure = is_calm s.plan } in after) disk
