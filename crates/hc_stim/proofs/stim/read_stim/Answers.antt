use Rattle.std.proofs.Common.{◌≢◌, ◌==◌, [], ap, length}
use Rattle.hc_stim.proofs.Kept.{Kept-more, Kept-bad}
use Rattle.hc_stim.proofs.stim.read_stim.Goals as goal

pub returns-in-Ok-None-clause-bad_line : goal.returns-in-Ok-None-clause-bad_line
returns-in-Ok-None-clause-bad_line c =
    let some : c.loop-rest.rest.now ≢ [] = λ e. let a = ap (λ t. length t == 0) e in let b = c.is_empty.ensures in let d = c.loop-rest-test.true in cc in
    Kept-bad c.loop-rest.invariant some (rw (c.as_slice.ensures.value, c.in-Ok-None.field-0-is) at c.in-Ok-None.ensures)

pub loop-rest-preserved : goal.loop-rest-preserved
loop-rest-preserved c = Kept-more c.loop-rest.invariant (rw (c.as_slice.ensures.value, c.in-Ok-Some.field-0-is) at c.in-Ok-Some.ensures)
