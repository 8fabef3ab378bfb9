use Rattle.std.proofs.Common.{◌≡◌, length}
use Rattle.hc_scope.specs.Declaration as spec
use Rattle.hc_declare.specs.NamesRead.{list_read}
use Rattle.hc_scope.specs.Nodes.{nodes}
use Rattle.hc_scope.specs.Sound.{Grows}
use Rattle.hc_scope.specs.Table.{context_in}
use Rattle.hc_scope.specs.Types.{type_read}
use Rattle.hc_declare.proofs.declaration.each_name.Given as goal

-- the names that are left are those that are left of the whole list
abbrev pub invariant-loop-x : goal.invariant-loop-x
invariant-loop-x l = record {
  answers : spec.names (nodes l.room) (context_in l.fn.names.entries l.around l.calls) (type_read l.t) (list_read l.fn.list) l.fn.state
      ≡ spec.names (nodes l.room) (context_in l.names.entries l.around l.calls) (type_read l.t) (list_read l.list) l.state;
  grows : Grows l.fn.state.objects l.state.objects;
}

abbrev pub decreases-loop-x : goal.decreases-loop-x
decreases-loop-x l = length (list_read l.list)
