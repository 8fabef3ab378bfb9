use Rattle.hc_scope.proofs.Longer.{grows_by_port}
use Rattle.hc_declare.proofs.interface.declare_port.Goals as goal

pub returns-in-Ok-declare-clause-grows : goal.returns-in-Ok-declare-clause-grows
returns-in-Ok-declare-clause-grows c =
    grows_by_port c.args.state.now.objects c.make.new.state.objects (record { name = c.args.x.now.name; place = c.args.x.now.place; kind = c.args.kind }) c.in-Ok.ensures.objects
    c.requires.sound c.requires.kind c.requires.port
