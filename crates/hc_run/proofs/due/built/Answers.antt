use Rattle.std.proofs.Common.{refl, ◌∙◌}
use Rattle.hc_run.specs.Lines.{built_line}
use Rattle.hc_run.proofs.Append.{one_more_is}
use Rattle.hc_run.proofs.due.built.Goals as goal

pub returns : goal.returns
unfolding built_line
returns c =
    let gates = one_more_is c.in_ok-line.ensures.items c.in_ok-extend_from_slice.ensures.items (c.as_bytes.ensures.value ∙ c.format.ensures.text) in
    let flops_words = one_more_is gates c.in_ok-extend_from_slice-2.ensures.items refl in
    let flops = one_more_is flops_words c.in_ok-extend_from_slice-3.ensures.items (c.as_bytes-2.ensures.value ∙ c.format-2.ensures.text) in
    let rams_words = one_more_is flops c.in_ok-extend_from_slice-4.ensures.items refl in
    let rams = one_more_is rams_words c.in_ok-extend_from_slice-5.ensures.items (c.as_bytes-3.ensures.value ∙ c.format-3.ensures.text) in
    one_more_is rams c.in_ok-extend_from_slice-6.ensures.items refl
