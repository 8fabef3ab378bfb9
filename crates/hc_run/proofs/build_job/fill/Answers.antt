use Rattle.std.proofs.Common.{rules}
use Rattle.std.proofs.lemmas.Result.{on_ok_weaker, on_err_weaker}
use Rattle.hc_outside.specs.OpenFileLemmas.{appended_lent}
use Rattle.hc_run.proofs.build_job.fill.Goals as goal

pub returns-clause-ok : goal.returns-clause-ok
returns-clause-ok g c =
    on_ok_weaker c.write_edif.result
    (appended_lent g.S.Store.state _ _ c.over-file.result.store.ghost_name c.write_edif.new.out.store.ghost_name
    c.args.store.now c.over-file.result.store.now c.write_edif.new.out.store.now _
    (g.met.S.Store.sound _) c.over-file.ensures.same_store c.over-file.ensures.same_state (search rules))
    c.write_edif.ensures.ok

pub returns-clause-err : goal.returns-clause-err
returns-clause-err g c =
    on_err_weaker c.write_edif.result
    (λ h. record {
      front = h.front;
      back = h.back;
      parts = h.parts;
      appended = appended_lent g.S.Store.state _ _ c.over-file.result.store.ghost_name c.write_edif.new.out.store.ghost_name
          c.args.store.now c.over-file.result.store.now c.write_edif.new.out.store.now _
          (g.met.S.Store.sound _) c.over-file.ensures.same_store c.over-file.ensures.same_state (search rules) h.wrote;
    })
    c.write_edif.ensures.err
