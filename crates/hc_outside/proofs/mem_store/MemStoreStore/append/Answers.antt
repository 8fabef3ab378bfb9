use Rattle.std.proofs.Common.{ap}
use Rattle.std.specs.Prelude.{Some, refl, take}
use Rattle.hc_outside.proofs.Opened.{IsOpened-after, disk-appended_at}
use Rattle.hc_outside.proofs.mem_store.MemStoreStore.append.Goals as goal

pub invariant_of-self-2-clause-open_there : goal.invariant_of-self-2-clause-open_there
invariant_of-self-2-clause-open_there c =
    IsOpened-after c.append_at.result _ _ c.args.self.now.files.items _ _ c.append_at.ensures.ok c.append_at.ensures.err
    c.args.self.now.open_there

pub returns-in-Ok-clause-ok : goal.returns-in-Ok-clause-ok
returns-in-Ok-clause-ok c =
    let s = c.args.self.now in
    record {
      disk = ap Some (disk-appended_at (take c.taken-taken.result c.args.piece.now) s.files.items c.append_at.new.files.items s.opened c.unwrap-i.result c.unwrap-i.ensures s.open_there c.in-Ok.ensures.ok);
      is_open = refl;
    }
