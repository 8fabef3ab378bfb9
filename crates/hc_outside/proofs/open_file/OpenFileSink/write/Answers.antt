use Rattle.std.proofs.lemmas.Result.{IfOk-weaker}
use Rattle.hc_outside.specs.OpenFileLemmas.{over-Appended}
use Rattle.hc_outside.proofs.open_file.OpenFileSink.write.Goals as goal

pub returns-clause-ok : goal.returns-clause-ok
returns-clause-ok g c =
    IfOk-weaker c.append.result _ _
    (λ n h. over-Appended _ (g.met.S.Store.sound c.args.self.now.store.now) c.requires h c.append.ensures.counts)
    c.append.ensures.ok
