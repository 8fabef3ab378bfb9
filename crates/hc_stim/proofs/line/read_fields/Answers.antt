use Rattle.std.proofs.Common.{arith}
use Rattle.hc_stim.proofs.Fields.{Reading-more, Reading-none}
use Rattle.hc_stim.proofs.line.read_fields.Goals as goal

pub returns-in-None : goal.returns-in-None
returns-in-None c = Reading-none c.requires (omega arith) c.loop-i.invariant c.in-None.ensures

pub loop-i-preserved : goal.loop-i-preserved
loop-i-preserved c = Reading-more _ _ _ c.loop-i.invariant c.in-Some.ensures c.in_ok-push-in-Some.ensures.items
