use Rattle.std.proofs.Common.{sym, ◌∙◌}
use Rattle.hc_outside.proofs.Seen.{IsSeen-more, IsSeen-here}
use Rattle.hc_outside.proofs.mem_files.place.Goals as goal

pub loop-i-preserved : goal.loop-i-preserved
loop-i-preserved c =
    IsSeen-more c.args.files.now c.args.name.now c.loop-i.i c.index-files-i.result c.loop-i-test.true c.index-files-i.is
    c.loop-i.invariant (sym c.is_named.ensures ∙ c.if-is_named.false)

pub returns-then-is_named-clause-place : goal.returns-then-is_named-clause-place
returns-then-is_named-clause-place c =
    IsSeen-here c.args.files.now c.args.name.now c.loop-i.i c.index-files-i.result c.loop-i-test.true c.index-files-i.is
    c.loop-i.invariant (sym c.is_named.ensures ∙ c.if-is_named.true)
