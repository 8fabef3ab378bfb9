use Rattle.std.proofs.Common.{[], List, ℕ, get_or, ap, ◌∙◌, arith}
use Rattle.std.proofs.lemmas.List.{get_or_default}
use Rattle.hc_ram.proofs.Writing.{enables_more, enables_all, words_more, words_all}
use Rattle.hc_ram.proofs.writers.find_writers.Goals as goal

pub loop-i-preserved : goal.loop-i-preserved
loop-i-preserved c = record {
  enables = enables_more c.args.b.now.nodes c.args.writes.now c.args.enables.now c.loop-i.found.enables c.add_use.new.found.enables c.loop-i.i _ _ (omega arith) c.requires.enable_uses
      (ap (λ (l : List ℕ). get_or l c.loop-i.i 0) c.as_slice.ensures) (ap (λ (l : List ℕ). get_or l c.loop-i.i 0) c.as_slice-in-loop-i.ensures) c.loop-i.invariant.enables c.in_ok-add_use.ensures.enables;
  words = words_more c.args.b.now.nodes c.args.writes.now c.index-values-i.result c.args.values.now c.loop-i.found.words.items c.add_use.new.found.words.items c.loop-i.i _ (omega arith) c.requires.value_uses
      (c.index-values-i.is ∙ get_or_default c.args.values.now c.loop-i.i c.index-values-i.result [] (omega arith)) (ap (λ (l : List ℕ). get_or l c.loop-i.i 0) c.as_slice-in-loop-i.ensures)
      c.loop-i.invariant.words c.in_ok-add_use.ensures.words;
}

pub returns-clause-enables : goal.returns-clause-enables
returns-clause-enables c = enables_all c.args.b.now.nodes c.args.writes.now c.args.enables.now c.loop-i.found.enables c.loop-i.i (omega arith) c.requires.enable_uses c.loop-i.invariant.enables

pub returns-clause-words : goal.returns-clause-words
returns-clause-words c = words_all c.args.b.now.nodes c.args.writes.now c.args.values.now c.loop-i.found.words.items c.loop-i.i (omega arith) c.requires.value_uses c.loop-i.invariant.words
