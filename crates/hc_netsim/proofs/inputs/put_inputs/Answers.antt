use Rattle.std.proofs.Common.{◌≡◌, ◌+◌, ◌-◌, ◌++◌, ◌∙◌, ap, sym, arith, length, drop, take}
use Rattle.std.specs.Prelude.{map, slice_index}
use Rattle.std.proofs.lemmas.Slice.{take-put_mid}
use Rattle.std.proofs.lemmas.List.FromFn.{length-map-range_with_len}
use Rattle.hc_net.specs.Bits.{bit}
use Rattle.hc_net.specs.Run.{input_bits_from}
use Rattle.hc_net.specs.declared.net.Port.TheVariants.{Input}
use Rattle.hc_netsim.specs.Running.{input_widths}
use Rattle.hc_netsim.specs.Pass.{bits_of, input_bit}
use Rattle.hc_netsim.proofs.Passes.{at_item, input_size, input_front, part_size}
use Rattle.hc_netsim.proofs.inputs.put_inputs.Goals as goal

pub slice_bounds-put_bits-end : goal.slice_bounds-put_bits-end
slice_bounds-put_bits-end c =
    let rest = drop (c.loop-port.port-index + 1) c.args.ports.now in
    let port = Input c.in-Input.name c.in-Input.width c.in-Input.pins in
    let here = at_item c.args.ports.now c.loop-port.port-index c.port-item.result port c.loop-port-test.true c.port-item.is c.in-Input.is in
    let size = ap (λ ports. length (input_bits_from c.loop-port.input ports)) here in
    let first = input_size c.loop-port.input c.in-Input.width c.in-Input.name c.in-Input.pins rest in
    omega arith

pub loop-port-preserved : goal.loop-port-preserved
loop-port-preserved c =
    let rest = drop (c.loop-port.port-index + 1) c.args.ports.now in
    let port = Input c.in-Input.name c.in-Input.width c.in-Input.pins in
    let here = at_item c.args.ports.now c.loop-port.port-index c.port-item.result port c.loop-port-test.true c.port-item.is c.in-Input.is in
    let size = ap (λ ports. length (input_bits_from c.loop-port.input ports)) here in
    let first = input_size c.loop-port.input c.in-Input.width c.in-Input.name c.in-Input.pins rest in
    let widths = ap (λ ports. length (input_widths ports)) here in
    let part : length (take (c.loop-port.net + c.in-Input.width - c.loop-port.net) (drop c.loop-port.net c.loop-port.values)) ≡ c.in-Input.width = part_size c.loop-port.values c.loop-port.net c.in-Input.width (c.loop-port.net + c.in-Input.width - c.loop-port.net) (omega arith) (omega arith) in
    let bits : c.put_bits.new.bits ≡ bits_of (slice_index c.args.inputs.now c.loop-port.input) c.in-Input.width = c.put_bits.ensures ∙ ap (bits_of (slice_index c.args.inputs.now c.loop-port.input)) part in
    let count : length c.put_bits.new.bits ≡ c.in-Input.width = ap length bits ∙ length-map-range_with_len (bit (slice_index c.args.inputs.now c.loop-port.input)) 0 c.in-Input.width in
    record {
      input = omega arith;
      net = omega arith;
      bits =
          ap (λ bits. bits ++ map (input_bit c.args.inputs.now) (input_bits_from (c.loop-port.input + 1) rest))
          (take-put_mid c.loop-port.net (c.loop-port.net + c.in-Input.width - c.loop-port.net) c.loop-port.values c.put_bits.new.bits (c.loop-port.net + c.in-Input.width) (omega arith) (omega arith) ∙ ap (λ bits. take c.loop-port.net c.loop-port.values ++ bits) bits)
          ∙ sym (input_front c.args.inputs.now (take c.loop-port.net c.loop-port.values) c.loop-port.input c.in-Input.width c.in-Input.name c.in-Input.pins rest)
          ∙ sym (ap (λ ports. take c.loop-port.net c.loop-port.values ++ map (input_bit c.args.inputs.now) (input_bits_from c.loop-port.input ports)) here)
          ∙ c.loop-port.invariant.bits;
    }
