use Rattle.hc_prialt.proofs.Picked.{picked_default}
use Rattle.hc_prialt.proofs.picking.pick_or_default.Goals as goal

pub returns : goal.returns
returns c = picked_default c.args.token c.args.start _ c.args.ready.now _ _ c.args.b.now c.add_cases.new.b c.requires.start c.in_ok-cases.ensures
