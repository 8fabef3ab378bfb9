use Rattle.std.proofs.Common.{ap, subst, ◌≡◌, ℕ, true}
use Rattle.std.specs.Prelude.{Some, refl}
use Rattle.hc_outside.specs.MemFiles.{is_place, name_at, names, own_place}
use Rattle.hc_outside.proofs.Opened.{disk-created}
use Rattle.hc_outside.proofs.mem_store.MemStoreStore.create.Goals as goal

pub invariant_of-self-in-Ok-clause-open_there : goal.invariant_of-self-in-Ok-clause-open_there
invariant_of-self-in-Ok-clause-open_there c x is =
    let files = c.set_file.new.files.items in
    let same : c.in-Ok.i ≡ x = cc in
    subst (λ (i : ℕ). is_place i (name_at files i) (names files) ≡ true) same (own_place c.in-Ok.i c.args.name.now files c.in-Ok.ensures.place)

pub returns-in-Ok-clause-ok : goal.returns-in-Ok-clause-ok
returns-in-Ok-clause-ok c = record {
  disk = ap Some (disk-created c.args.name.now c.args.self.now.files.items c.set_file.new.files.items c.in-Ok.i c.args.self.now.opened c.in-Ok.ensures.sets c.in-Ok.ensures.place);
  is_open = refl;
}
