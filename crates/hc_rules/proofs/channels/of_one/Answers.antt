-- The loop goes on with the cases behind the first one.
use Rattle.std.proofs.Common.{ap, sym, ◌∙◌, ◌++◌}
use Rattle.hc_core.proofs.Listing.{uncons}
use Rattle.hc_rules.proofs.Adding.{adds_next, adds_end, channels_of, no_channels}
use Rattle.hc_rules.proofs.channels.of_one.Goals as goal

pub loop-rest-preserved : goal.loop-rest-preserved
loop-rest-preserved c =
    let is = uncons c.loop-rest.rest.now c.first-item.result c.in-len1-up.len_at_least c.first-item.is in
    adds_next _ _ _ _ _ _ _ c.loop-rest.invariant (channels_of c.loop-rest.rest.now _ c.first-item.result is)
    (c.in_ok-note.ensures ∙ ap (λ k. c.loop-rest.found.items ++ k) (sym c.channel.ensures))

pub returns : goal.returns
returns c = adds_end _ _ _ _ c.loop-rest.invariant (no_channels c.loop-rest.rest.now c.in_default.len_below)
