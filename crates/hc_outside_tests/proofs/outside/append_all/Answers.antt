use Rattle.std.proofs.Common.{rules}
use Rattle.std.proofs.lemmas.Result.{on_ok_weaker, on_err_weaker}
use Rattle.hc_outside.specs.OpenFileLemmas.{appended_lent, appended_front_lent}
use Rattle.hc_outside_tests.proofs.outside.append_all.Goals as goal

pub returns-clause-ok : goal.returns-clause-ok
returns-clause-ok g c =
    on_ok_weaker c.write_all.result
    (λ h. appended_lent g.S.Store.state _ _ _ _ _ _ _ _ (g.met.S.Store.sound _) c.over-file.ensures.same_store c.over-file.ensures.same_state (search rules) h)
    c.write_all.ensures.ok

pub returns-clause-err : goal.returns-clause-err
returns-clause-err g c =
    on_err_weaker c.write_all.result
    (λ h. appended_front_lent g.S.Store.state _ _ _ _ _ _ _ _ (g.met.S.Store.sound _) c.over-file.ensures.same_store c.over-file.ensures.same_state (search rules) h)
    c.write_all.ensures.err
