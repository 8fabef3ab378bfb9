use Rattle.hc_build.specs.Sources.{ReadsFirst}
use Rattle.hc_build.proofs.connect.feed_all.Given as goal

abbrev pub invariant-loop-i : goal.invariant-loop-i
invariant-loop-i l = ReadsFirst l.i l.nets l.from l.fn.b l.b
