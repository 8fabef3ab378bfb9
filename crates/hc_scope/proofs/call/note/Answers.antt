use Rattle.hc_scope.proofs.Calls.{noted-new, noted-again}
use Rattle.hc_scope.proofs.call.note.Goals as goal

pub returns-then-added : goal.returns-then-added
returns-then-added c =
    noted-new c.args.x.now c.args.names.now.keys c.insert.new.self.keys c.as_bytes.result c.in-Ok.added c.as_bytes.ensures.bytes c.in-Ok.ensures.added c.in-Ok.ensures.keys c.if-added.true

pub returns-else-added : goal.returns-else-added
returns-else-added c =
    noted-again c.args.x.now c.args.names.now.keys c.insert.new.self.keys c.as_bytes.result c.in-Ok.added c.broken_name.result c.as_bytes.ensures.bytes c.in-Ok.ensures.added c.if-added.false
    c.broken_name.ensures
