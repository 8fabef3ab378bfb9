use Rattle.hc_net.proofs.Built.{built_connected, extends_connected}
use Rattle.hc_net.proofs.builder.Builder.connect.Goals as goal

pub invariant_of-self : goal.invariant_of-self
invariant_of-self c = (c.self.invariant.0, built_connected _ c.args.self.now c.args.net c.args.from c.read_from.new.nodes c.self.view_is c.requires.net c.read_from.ensures c.self.invariant.1 c.requires.from)

pub returns-clause-earlier : goal.returns-clause-earlier
returns-clause-earlier c = extends_connected _ c.args.self.now c.args.net c.args.from c.read_from.new.nodes c.self.view_is c.requires.net c.read_from.ensures c.requires.unread
