use Rattle.std.proofs.Common.{ap, arith, length}
use Rattle.std.specs.Prelude.{codes}
use Rattle.std.proofs.Math.Nat.{mul-le-mul_left}
use Rattle.std.proofs.lemmas.Result.{on_ok_weaker}
use Rattle.hc_run.specs.Edif.{ram_readers}
use Rattle.hc_run.specs.Pins.{ref_of}
use Rattle.hc_run.proofs.Append.{three_more, append_same}
use Rattle.hc_run.proofs.CellLists.{index_width-most}
use Rattle.hc_run.proofs.edif.readers.add_ram.Goals as goal

pub add_address-requires : goal.add_address-requires
add_address-requires c =
    let same = ap length c.as_slice.ensures in
    let size = c.requires.addr in
    let wide = index_width-most c.args.ram.now.words in
    let bits = c.requires.few in
    let words = mul-le-mul_left c.args.ram.now.words c.requires.least in
    omega arith

pub add_data-requires : goal.add_data-requires
add_data-requires c =
    let same = ap length c.as_slice-2.ensures in
    let size = c.requires.d in
    let most = c.requires.most in
    omega arith

pub returns : goal.returns
unfolding ref_of
returns c =
    let address = append_same _ (ap (ram_readers (codes "a") c.args.ram.now.object) c.as_slice.ensures) c.in_ok-add_address.ensures in
    let word = append_same _ (ap (ram_readers (codes "d") c.args.ram.now.object) c.as_slice-2.ensures) c.in_ok-add_data.ensures in
    on_ok_weaker c.add.result (three_more _ _ _ _ address word) c.add.ensures
