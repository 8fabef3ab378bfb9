use Rattle.std.proofs.Common.{[], take}
use Rattle.hc_meaning.specs.Value.{padded, bits_of}
use Rattle.hc_build.specs.Objects.{AddsNodes, words_flops}
use Rattle.hc_build.proofs.objects.words.Given as goal

abbrev pub invariant-loop-e : goal.invariant-loop-e
invariant-loop-e l = AddsNodes (words_flops l.k 0 l.width (take l.e (padded l.count (bits_of l.init)))) [] l.fn.b l.b l.nets
