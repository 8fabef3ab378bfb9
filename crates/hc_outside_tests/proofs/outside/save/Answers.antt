use Rattle.std.proofs.lemmas.Result.{on_ok_weaker}
use Rattle.hc_outside.specs.OpenFileLemmas.{saved_by}
use Rattle.hc_outside_tests.proofs.outside.save.Goals as goal

pub returns-in-Ok-close-clause-ok : goal.returns-in-Ok-close-clause-ok
returns-in-Ok-close-clause-ok g c =
    on_ok_weaker c.append_all-written.result (λ h. saved_by c.in-Ok.ensures.ok h c.close.ensures.closed) c.append_all-written.ensures.ok
