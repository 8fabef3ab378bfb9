use Rattle.std.proofs.Common.{◌-◌}
use Rattle.std.specs.List.{flat_map, range_with_len}
use Rattle.hc_run.specs.Edif.{bit_line, port_lines}
use Rattle.hc_run.proofs.Sending.{IsSending}
use Rattle.hc_run.proofs.edif.ports.send_bit_lines.Given as goal

abbrev pub invariant-loop-bit : goal.invariant-loop-bit
invariant-loop-bit g l =
    IsSending (port_lines l.number l.port) (flat_map (bit_line l.number l.port) (range_with_len l.bit (l.width - l.bit)))
    l.fn.text.items l.text.items (g.K.Sink.state l.fn.out) (g.K.Sink.state l.out)
