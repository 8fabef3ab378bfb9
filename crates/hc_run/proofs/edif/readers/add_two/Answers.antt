use Rattle.std.proofs.lemmas.Result.{on_ok_weaker}
use Rattle.hc_run.specs.Pins.{ref_of}
use Rattle.hc_run.proofs.Append.{two_more}
use Rattle.hc_run.proofs.edif.readers.add_two.Goals as goal

pub returns : goal.returns
unfolding ref_of
returns c = on_ok_weaker c.add-2.result (two_more _ _ _ c.in_ok-add.ensures) c.add-2.ensures
