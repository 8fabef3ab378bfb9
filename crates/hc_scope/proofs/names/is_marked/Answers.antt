use Rattle.std.proofs.Common.{◌≡◌, arith, subst, take}
use Rattle.std.specs.Int.{bit_at}
use Rattle.hc_scope.specs.Marks.{Table, mark_of}
use Rattle.hc_scope.specs.declared.scope.Declared.{Declared}
use Rattle.hc_scope.specs.Places.{Passes}
use Rattle.hc_scope.specs.Reading.{declared_in}
use Rattle.hc_scope.proofs.Places.{passes-unmarked}
use Rattle.hc_scope.proofs.names.is_marked.Goals as goal

pub returns : goal.returns
returns c = λ unset name seen is around.
    let none : bit_at c.names.inside.marks (mark_of name) ≡ 0 = rw (← is) (grind arith) in
    subst (λ (t : Table Declared). Passes name (declared_in (take seen t.entries) around) around) c.names.view_is
    (passes-unmarked name c.names.inside.marks c.names.inside.table.entries seen around c.names.invariant none)
