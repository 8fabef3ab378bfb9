-- Each kind of object, by its nodes and its port.
use Rattle.std.proofs.Common.{◌∙◌}
use Rattle.std.proofs.lemmas.Result.{IfOk-weaker}
use Rattle.hc_build.specs.Objects.{AddsObject}
use Rattle.hc_build.proofs.Placing.{adds_register, adds_array, adds_output, output_narrow, nets_there}
use Rattle.hc_build.proofs.objects.place.Goals as goal

pub output-requires-clause-nets : goal.output-requires-clause-nets
output-requires-clause-nets c = nets_there _ _ _ _ c.in_ok-nets-in-Output.ensures

pub returns-in_ok-add_word-in-Reg : goal.returns-in_ok-add_word-in-Reg
returns-in_ok-add_word-in-Reg c =
    adds_register _ _ _ _ _ _ _ _ _ _ c.in-Reg.is c.new-nets.ensures c.bits.ensures.bits c.in_ok-add_word-in-Reg.ensures

pub returns-in-Array : goal.returns-in-Array
returns-in-Array c =
    IfOk-weaker c.words.result _ (AddsObject c.args.k c.args.object.now c.args.b.now c.words.new.b)
    (λ nets m. adds_array _ _ _ _ _ _ _ nets _ _ c.in-Array.is c.as_slice.ensures m) c.words.ensures

pub returns-in_ok-output-in-Output : goal.returns-in_ok-output-in-Output
returns-in_ok-output-in-Output c =
    adds_output _ _ _ _ _ _ _ _ _ _ _ _ c.in-Output.is (c.in_ok-name-in-Output.ensures ∙ c.as_bytes-in-Output.ensures.bytes) c.in_ok-labels-in-Output.ensures
    (output_narrow _ _ _ _ _ _ c.in-Output.is c.requires.1.is) c.in_ok-nets-in-Output.ensures c.in_ok-output-in-Output.ensures.ok
