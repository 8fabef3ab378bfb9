-- One word more.
use Rattle.std.proofs.Common.{ap, ◌∙◌, arith}
use Rattle.std.proofs.lemmas.List.{take_all}
use Rattle.hc_meaning.specs.Value.{bits_of}
use Rattle.hc_build.specs.Objects.{words_flops}
use Rattle.hc_build.proofs.Adding.{adds_as}
use Rattle.hc_build.proofs.Placing.{words_step, words_room, length-padded, word_some, word_none}
use Rattle.hc_build.proofs.objects.words.Goals as goal
use Rattle.hc_build.proofs.objects.words.Goals.{in-Some, in-None}

pub add_word-requires-clause-room : goal.add_word-requires-clause-room
add_word-requires-clause-room c =
    words_room _ _ _ _ _ _ _ _ c.loop-e.invariant c.loop-e-test.true c.requires.room

pub loop-e-preserved : goal.loop-e-preserved
loop-e-preserved c =
    words_step _ _ _ _ _ _ _ _ _ _ _ c.loop-e.invariant c.loop-e-test.true c.in_ok-add_word.ensures
    (elim c.match-get.branch [
      | in-Some w ↦ word_some _ _ _ _ w.in-Some.n.now c.loop-e-test.true w.in-Some.ensures.lookup.0 w.in-Some.ensures.lookup.1 (w.bits-is ∙ w.bits-bits.ensures.bits)
      | in-None w ↦ word_none _ _ _ _ c.loop-e-test.true w.in-None.ensures.lookup.0 w.bits-is
    ])

pub returns : goal.returns
returns c =
    adds_as (ap (words_flops c.args.k 0 c.args.width) (take_all _ _ (let n = length-padded c.args.count (bits_of c.args.init.now) in omega (arith, n, c.loop-e-test.false)))) c.loop-e.invariant
