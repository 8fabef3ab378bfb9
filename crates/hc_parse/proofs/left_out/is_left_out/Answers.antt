use Rattle.hc_parse.specs.LeftOut.{is_left_out_word, left_out}
use Rattle.hc_parse.proofs.left_out.is_left_out.Goals as goal

pub returns : goal.returns
unfolding is_left_out_word left_out
returns c = c.is_among.ensures
