use Rattle.std.proofs.lemmas.Result.{on_ok_weaker, on_err_weaker}
use Rattle.hc_run.proofs.Sending.{Wrote-rest, WroteFront-rest}
use Rattle.hc_run.proofs.edif.write_edif.Goals as goal

pub returns-clause-ok : goal.returns-clause-ok
returns-clause-ok g c =
    on_ok_weaker c.write_all.result (Wrote-rest c.new-text.ensures.items c.as_slice.ensures.value c.in_ok-send_edif.ensures.ok) c.write_all.ensures.ok

pub returns-clause-err : goal.returns-clause-err
returns-clause-err g c =
    on_err_weaker c.write_all.result (WroteFront-rest c.new-text.ensures.items c.as_slice.ensures.value c.in_ok-send_edif.ensures.ok) c.write_all.ensures.err
