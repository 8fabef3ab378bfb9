-- One net more.
use Rattle.std.proofs.Common.{ap}
use Rattle.std.specs.Prelude.{slice_index}
use Rattle.hc_build.proofs.Connecting.{reads_none, reads_more}
use Rattle.hc_build.proofs.connect.drive_all.Goals as goal

pub loop-i-init : goal.loop-i-init
loop-i-init c = reads_none _ _ _

pub loop-i-preserved : goal.loop-i-preserved
loop-i-preserved c =
    reads_more _ _ _ _ _ _ _ _ c.requires.can c.loop-i.invariant (rw c.len-i-end.ensures at c.loop-i-test.true)
    (ap (λ l. slice_index l c.loop-i.i) c.as_slice.ensures) (ap (λ l. slice_index l c.loop-i.i) c.as_slice-in-loop-i.ensures)
    c.drive.ensures.driven c.drive.ensures.earlier
