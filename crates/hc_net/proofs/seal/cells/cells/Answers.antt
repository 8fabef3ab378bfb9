use Rattle.std.proofs.Common.{◌≡◌, ◌<◌, ℕ, IsSome, subst, arith}
use Rattle.hc_net.specs.Order.{entry_at}
use Rattle.hc_net.specs.Place.{place_at}
use Rattle.hc_net.proofs.Levels.{reads_weaker}
use Rattle.hc_net.proofs.Places.{all_done}
use Rattle.hc_net.proofs.seal.cells.cells.Goals as goal

pub returns-clause-all : goal.returns-clause-all
returns-clause-all c = all_done c.args.nodes.now c.args.order.now c.loop-entry.places c.loop-entry.entry-index c.requires.order (omega arith) c.loop-entry.invariant.done

pub place_net-requires-clause-ready : goal.place_net-requires-clause-ready
place_net-requires-clause-ready c =
    reads_weaker (λ k. (j : ℕ) × (j < c.loop-entry.entry-index) × ((entry_at c.args.order.now j).net ≡ k)) (λ k. IsSome (place_at c.loop-entry.places k)) _
    (λ x p. subst (λ (k : ℕ). IsSome (place_at c.loop-entry.places k)) p.2 (c.loop-entry.invariant.done p.0 p.1)) (c.requires.order.after c.loop-entry.entry-index c.loop-entry-test.true)
