use Rattle.hc_parse.proofs.TurnsStatement as turns
use Rattle.hc_parse.proofs.prialt.other_end.Goals as goal

pub returns : goal.returns
returns c = turns.other_ends c.args.c.now c.opt_break.new.c c.opt_break.result c.opt_break.ensures
