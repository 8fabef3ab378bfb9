use Rattle.std.proofs.Common.{◌≡◌, ◌+◌, ◌++◌, length, take, drop}
use Rattle.std.specs.Prelude.{map}
use Rattle.hc_net.specs.Run.{input_bits, input_bits_from}
use Rattle.hc_netsim.specs.Running.{input_widths}
use Rattle.hc_netsim.specs.Pass.{input_bit, input_values}
use Rattle.hc_netsim.proofs.inputs.put_inputs.Given as goal

abbrev pub invariant-loop-port : goal.invariant-loop-port
invariant-loop-port l = let rest = drop l.port-index l.ports in record {
  input : l.input + length (input_widths rest) ≡ length (input_widths l.ports);
  net : l.net + length (input_bits_from l.input rest) ≡ length (input_bits l.ports);
  bits : take l.net l.values ++ map (input_bit l.inputs) (input_bits_from l.input rest) ≡ input_values l.ports l.inputs;
}
