use Rattle.std.proofs.Common.{arith, ap, refl, ◌≡◌, ◌+◌, length}
use Rattle.hc_net.specs.Run.{input_bits_from, cell_base}
use Rattle.hc_run.specs.Pins.{input_total}
use Rattle.hc_run.proofs.Sizes.{length-input_bits}
use Rattle.hc_run.proofs.edif.sizes.first_cell.Goals as goal

pub input_total-requires : goal.input_total-requires
input_total-requires c =
    let few = c.requires.v1.few_nets in
    let bits = length-input_bits 0 c.args.net.now.ports in
    let same = ap input_total c.as_slice.ensures in
    omega arith

pub overflow_add-result : goal.overflow_add-result
overflow_add-result c =
    let few = c.requires.v1.few_nets in
    let bits = length-input_bits 0 c.args.net.now.ports in
    let same = ap input_total c.as_slice.ensures in
    omega arith

pub returns : goal.returns
returns c =
    let base : cell_base c.args.net.now ≡ length (input_bits_from 0 c.args.net.now.ports) + length c.args.net.now.flops = refl in
    let bits = length-input_bits 0 c.args.net.now.ports in
    let same = ap input_total c.as_slice.ensures in
    omega arith
