use Rattle.std.proofs.Common.{◌≡◌, ◌+◌, ◌++◌, take, drop}
use Rattle.hc_net.specs.Run.{net_bit, output_numbers}
use Rattle.hc_netsim.specs.Running.{output_count}
use Rattle.hc_netsim.proofs.outputs.put_outputs.Given as goal

abbrev pub invariant-loop-port : goal.invariant-loop-port
invariant-loop-port l = let rest = drop l.port-index l.ports in record {
  output : l.output + output_count rest ≡ output_count l.ports;
  numbers : take l.output l.outputs ++ output_numbers rest (net_bit l.values) ≡ output_numbers l.ports (net_bit l.values);
}
