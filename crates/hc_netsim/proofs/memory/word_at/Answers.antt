use Rattle.std.proofs.Common.{◌≡◌, ◌+◌, ◌-◌, ◌*◌, ◌∙◌, ap, arith, drop, take}
use Rattle.hc_netsim.proofs.Words.{word_is, word_within}
use Rattle.hc_netsim.proofs.memory.word_at.Goals as goal

pub returns-clause-word : goal.returns-clause-word
returns-clause-word c =
    let width = c.args.ram.now.width in
    let from = c.args.index * width in
    let within = word_within c.args.index c.args.ram.now.words width c.requires.inside in
    let size : (c.args.index + 1) * width - from ≡ width = omega arith in
    let first : from ≡ from + 0 = omega arith in
    ap (λ n. take n (drop from c.args.bits.now)) size ∙ ap (λ k. take width (drop k c.args.bits.now)) first ∙ word_is c.args.bits.now from 0 width (omega (arith, c.requires.held.bits))
