-- The loop goes on with the arms behind the first one.
use Rattle.std.proofs.Common.{sym, ◌∙◌}
use Rattle.hc_core.proofs.Listing.{uncons}
use Rattle.hc_rules.proofs.Clocks.{default_next, default_none}
use Rattle.hc_rules.proofs.loops.has_default.Goals as goal

pub loop-rest-preserved : goal.loop-rest-preserved
loop-rest-preserved c =
    let is = uncons c.loop-rest.rest.now c.first-item.result c.in-len1-up.len_at_least c.first-item.is in
    c.loop-rest.invariant ∙ default_next c.loop-rest.rest.now _ c.first-item.result is c.if-first.false

pub returns : goal.returns
returns c = sym (c.loop-rest.invariant ∙ default_none c.loop-rest.rest.now c.in_default.len_below)
