-- One placeholder more.
use Rattle.std.proofs.lemmas.List.{replicate_more}
use Rattle.hc_build.specs.Objects.{output_wire}
use Rattle.hc_build.proofs.Adding.{adds_as, adds_push}
use Rattle.hc_build.proofs.objects.wires.Goals as goal

pub loop-i-preserved : goal.loop-i-preserved
loop-i-preserved c =
    adds_as (replicate_more c.loop-i.i output_wire)
    (adds_push _ _ _ _ _ _ _ _ _ c.loop-i.invariant c.in_ok-wire.ensures.ok.0 c.in_ok-wire.ensures.ok.1 c.in_ok-push.ensures.ok)
