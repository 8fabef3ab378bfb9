use Rattle.std.proofs.Common.{◌∙◌, ap, sym, length}
use Rattle.hc_stim.proofs.Kept.{clocks_of}
use Rattle.hc_stim.proofs.stim.Stim.clocks.Goals as goal

pub returns : goal.returns
returns c = sym (clocks_of c.self.inside.clocks c.self.inside.inputs c.self.inside.values.items) ∙ ap length c.self.view_is
