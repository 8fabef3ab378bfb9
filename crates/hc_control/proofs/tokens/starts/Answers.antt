use Rattle.std.proofs.Common.{refl}
use Rattle.hc_control.proofs.MainStarts.{has_first, can_start, main_starts}
use Rattle.hc_control.proofs.tokens.starts.Goals as goal

pub statement-requires : goal.statement-requires
statement-requires c =
    can_start c.args.core.now c.args.at.now c.args.at.now.zero c.in_ok-first.first c.args.b.now c.feed.new.self c.requires
    (has_first c.args.at.now.zero c.in_ok-first.first c.args.b.now c.flop.new.self c.feed.new.self c.in_ok-first.ensures.ok c.feed.ensures.fed)

pub returns : goal.returns
returns c =
    main_starts c.args.core.now c.args.at.now c.in_ok-first.first c.args.b.now c.feed.new.self c.statement.new.b _ c.statement.new.started c.in_ok-_ends._ends c.requires refl (c.new.ensures)
    (has_first c.args.at.now.zero c.in_ok-first.first c.args.b.now c.flop.new.self c.feed.new.self c.in_ok-first.ensures.ok c.feed.ensures.fed)
    c.in_ok-_ends.ensures
