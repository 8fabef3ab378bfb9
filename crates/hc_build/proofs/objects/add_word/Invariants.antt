use Rattle.hc_build.specs.Objects.{AddsNodes, word_flops}
use Rattle.hc_build.proofs.objects.add_word.Given as goal

abbrev pub invariant-loop-i : goal.invariant-loop-i
invariant-loop-i l = AddsNodes (word_flops l.k l.from l.i l.bits) l.fn.nets l.fn.b l.b l.nets
