use Rattle.std.proofs.Common.{◌∙◌, sym}
use Rattle.std.proofs.lemmas.Result.{IfOk-weaker}
use Rattle.hc_control.proofs.MainUses.{listed_actions, listed_size, starts_count, uses_built, controlled}
use Rattle.hc_control.proofs.tokens.control.Goals as goal

pub uses-requires-clause-count : goal.uses-requires-clause-count
uses-requires-clause-count c =
    starts_count c.args.core.now c.args.at.now c.args.b.now c.starts.new.b c.in_ok-starts.starts c.requires c.in_ok-starts.ensures
    ∙ sym (listed_size (λ s. s.now) c.in_ok-list.list.items c.as_slice.result.now c.args.core.now.main c.as_slice.ensures.value c.in_ok-list.ensures)

pub uses-requires-clause-built : goal.uses-requires-clause-built
uses-requires-clause-built c =
    uses_built c.args.core.now c.args.at.now c.args.b.now _ c.requires
    (listed_actions (λ s. s.now) c.in_ok-list.list.items c.as_slice.result.now c.args.core.now.main c.as_slice.ensures.value c.in_ok-list.ensures)

pub returns : goal.returns
returns c =
    IfOk-weaker c.uses.result _ _
    (λ made makes.
    controlled c.args.core.now c.args.at.now c.args.b.now c.starts.new.b c.uses.new.b c.in_ok-starts.starts _ made.items c.requires c.in_ok-starts.ensures
    (listed_actions (λ s. s.now) c.in_ok-list.list.items c.as_slice.result.now c.args.core.now.main c.as_slice.ensures.value c.in_ok-list.ensures) makes)
    c.uses.ensures
