use Rattle.std.proofs.Common.{◌≡◌, length}
use Rattle.hc_scope.specs.Nodes.{nodes}
use Rattle.hc_scope.specs.Sound.{Grows}
use Rattle.hc_scope.specs.Statement as spec
use Rattle.hc_scope.specs.Table.{context_in}
use Rattle.hc_declare.proofs.local_items.locals.Given as goal

-- the items that are left are those that are left of the whole list
abbrev pub invariant-each : goal.invariant-each
invariant-each l = record {
  answers : spec.locals (nodes l.room) (context_in l.fn.names.entries l.around l.calls) l.fn.items l.fn.state
      ≡ spec.locals (nodes l.room) (context_in l.names.entries l.around l.calls) l.items l.state;
  grows : Grows l.fn.state.objects l.state.objects;
}

abbrev pub decreases-each : goal.decreases-each
decreases-each l = length l.items
