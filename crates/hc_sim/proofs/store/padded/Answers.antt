use Rattle.std.proofs.Common.{◌≡◌, ◌∙◌, ap, take, arith}
use Rattle.hc_meaning.specs.Value.{bits_of, padded}
use Rattle.hc_sim.proofs.Words.{one_more_padded, all_padded}
use Rattle.hc_sim.proofs.store.padded.Goals as goal

pub loop-k-preserved : goal.loop-k-preserved
loop-k-preserved c =
    c.in-Ok.ensures.items
    ∙ one_more_padded c.args.length (bits_of c.args.first.now) c.loop-k.found.items c.loop-k.k c.given_at.result c.loop-k-test.true c.loop-k.invariant c.given_at.ensures

pub returns : goal.returns
returns c =
    let end : c.loop-k.k ≡ c.args.length = omega arith in
    all_padded c.args.length (bits_of c.args.first.now) c.loop-k.found.items (c.loop-k.invariant ∙ ap (λ k. take k (padded c.args.length (bits_of c.args.first.now))) end)
