use Rattle.std.proofs.Common.{map, drop}
use Rattle.hc_run.specs.Edif.{each_from, numbered_net}
use Rattle.hc_run.specs.Pins.{ref_of, read_by}
use Rattle.hc_run.proofs.Order.{IsLeft}
use Rattle.hc_run.proofs.Sending.{IsSending}
use Rattle.hc_run.proofs.edif.nets.send_nets.Given as goal

abbrev pub invariant-loop-n : goal.invariant-loop-n
invariant-loop-n g l = record {
  left : IsLeft l.n (map read_by l.left) (map read_by l.readers);
  sending :
      IsSending (each_from (numbered_net (map read_by l.readers)) 0 (map ref_of l.drivers))
      (each_from (numbered_net (map read_by l.readers)) l.n (map ref_of (drop l.n l.drivers)))
      l.fn.text.items l.text.items (g.K.Sink.state l.fn.out) (g.K.Sink.state l.out);
}
