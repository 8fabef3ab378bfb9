use Rattle.std.proofs.Common.{None}
use Rattle.hc_scope.specs.Declaration.{data_entries}
use Rattle.hc_scope.proofs.Stops.{entry_stops}
use Rattle.hc_scope.proofs.pins.data_entries.Goals as goal

pub returns-in-Err-clause-answers : goal.returns-in-Err-clause-answers
returns-in-Err-clause-answers c s =
    entry_stops c.args.width c.in-Some.data.now c.in-Some.rest.now (data_entries c.args.width None c.args.specs.now s) c.in-Err.e s
    (c.in-Some.ensures.entry c.args.width None s) (c.in-Err.ensures.answers s)
