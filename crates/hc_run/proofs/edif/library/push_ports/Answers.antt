use Rattle.std.proofs.Common.{arith}
use Rattle.hc_run.specs.Edif.{ram_pin, cell_port}
use Rattle.hc_run.proofs.Adding.{IsAdding-more}
use Rattle.hc_run.proofs.Numbered.{range_more}
use Rattle.hc_run.proofs.edif.library.push_ports.Goals as goal

pub loop-bit-preserved : goal.loop-bit-preserved
loop-bit-preserved c =
    IsAdding-more _ _ c.loop-bit.invariant c.in_ok-push_numbered_port.ensures
    (range_more (λ i. cell_port (ram_pin c.args.letter.now i) c.args.direction.now) c.loop-bit.bit c.args.count (omega arith))
