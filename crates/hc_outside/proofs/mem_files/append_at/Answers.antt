use Rattle.std.proofs.Common.{arith}
use Rattle.std.proofs.lemmas.Result.{on_ok_weaker}
use Rattle.hc_outside.specs.MemFiles.{name_at, place-within, Sets-appended}
use Rattle.hc_outside.proofs.mem_files.append_at.Goals as goal

pub index_mut-requires : goal.index_mut-requires
index_mut-requires c =
    let files = c.args.files.now in
    omega (arith, files.ok.0, place-within c.args.i (name_at files.items c.args.i) files.items c.requires)

pub returns-clause-ok : goal.returns-clause-ok
returns-clause-ok c =
    on_ok_weaker c.append.result
    (λ h. Sets-appended c.args.i c.args.files.now.items _ c.index_mut.result.now _ c.requires c.index_mut.ensures.value h)
    c.append.ensures.ok
