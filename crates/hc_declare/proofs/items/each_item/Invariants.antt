use Rattle.std.proofs.Common.{◌≡◌, length, All}
use Rattle.hc_core.specs.Typed.{kinds_of}
use Rattle.hc_scope.specs.Expands as spec
use Rattle.hc_declare.specs.Items.{items_in, IsPin, HasPorts}
use Rattle.hc_scope.specs.Nodes.{nodes}
use Rattle.hc_scope.specs.Plain.{IsPlainItem}
use Rattle.hc_scope.specs.Reading.{scope_in, scope_of}
use Rattle.hc_scope.specs.Sound.{AreSound}
use Rattle.hc_declare.proofs.items.each_item.Given as goal

-- the items that are left are those that are left of the whole list
abbrev pub invariant-loop-list : goal.invariant-loop-list
invariant-loop-list l = record {
  answers : spec.items (nodes 2000) (items_in l.fn.names.entries l.around l.fn.roots) l.fn.list l.fn.state
      ≡ spec.items (nodes 2000) (items_in l.names.entries l.around l.roots) l.list l.state;
  sound : AreSound (kinds_of l.state.objects);
  plain : All IsPlainItem l.list;
  pin : IsPin l.roots.clock;
  ports : HasPorts (scope_in l.names.entries (scope_of l.around)) l.state.objects;
}

abbrev pub decreases-loop-list : goal.decreases-loop-list
decreases-loop-list l = length l.list
