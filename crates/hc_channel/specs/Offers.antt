-- An end of a channel, clock by clock, and what its circuit adds to a builder (this project's own).
use Rattle.std.specs.Prelude.{◌≡◌, ◌<◌, ◌≤◌, ◌-◌, ◌^◌, ℕ, suc, [], ◌∷◌, length, Bool, false, not, ◌&&◌, ◌||◌, None, All}
use Rattle.hc_net.specs.Run.{Trace}
use Rattle.hc_net.specs.Circuit.{Circuit, History, Explains, node_at}
use Rattle.hc_net.specs.Made.{Over}
use Rattle.hc_net.specs.declared.node.Node.TheVariants.{Wire}
use Rattle.hc_token.specs.Control.{Reaches}
use Rattle.hc_token.specs.Part.{AddsPart}
use Rattle.hc_channel.specs.declared.end.Offer.{Offer}

-- An end stands in a clock in which it starts or waits. It is done in a clock in which it stands and its partner does; where it
-- isn't done, it waits in the next clock, and where it is, it finishes there.
pub record StandsUntilDone (start : ℕ) (o : Offer) (h : History) : Type 0 where
  pub waits : ℕ → Bool
  pub first : waits 0 ≡ false
  pub later : (t : ℕ) → waits (suc t) ≡ (h t o.active && not (h t o.partner))
  pub active : (t : ℕ) → h t o.active ≡ (h t start || waits t)
  pub done : (t : ℕ) → h t o.done ≡ (h t o.active && h t o.partner)
  pub pass : (t : ℕ) → h t o.ends.pass ≡ false
  pub unfinished : h 0 o.ends.finish ≡ false
  pub finish : (t : ℕ) → h (suc t) o.ends.finish ≡ h t o.done

-- the rank of what an end's partner drives, which no node of the order has
abbrev pub partner_rank : ℕ
partner_rank = 2 ^ 32 - 1

-- An end of a channel is added, with two tokens from this number on and one placeholder, that of its partner. What it stands by
-- reaches the start and flip-flops alone, and what it is done by the partner too.
pub record MakesOffer (token start : ℕ) (old new : Circuit) (o : Offer) : Type 0 where
  pub adds : AddsPart 5 token 2 (o.partner ∷ []) old new
  pub there : All (λ k. k < length new.nodes) (o.active ∷ o.partner ∷ o.done ∷ o.ends.pass ∷ o.ends.finish ∷ [])
  pub fresh : length old.nodes ≤ o.partner
  pub undriven : node_at new.nodes o.partner ≡ Wire partner_rank None
  pub active : Reaches new.nodes (start ∷ []) o.active
  pub done : Reaches new.nodes (start ∷ o.partner ∷ []) o.done
  pub pass : Over new.nodes [] o.ends.pass
  pub finish : Reaches new.nodes [] o.ends.finish
  pub value : (trace : Trace) (h : History) → Explains new.nodes trace h → StandsUntilDone start o h
