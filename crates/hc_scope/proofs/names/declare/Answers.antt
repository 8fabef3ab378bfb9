use Rattle.std.proofs.Common.{◌≡◌, ◌*◌, ◌%◌, ◌^◌, bit_or, ap, sym, subst}
use Rattle.std.specs.Int.{bit_at}
use Rattle.hc_scope.specs.Marks.{Table, HasMarks, mark_of}
use Rattle.hc_scope.specs.declared.scope.Declared.{Declared}
use Rattle.hc_scope.proofs.Places.{declared-added, marked-added, mark_stays, mark_set}
use Rattle.hc_scope.proofs.names.declare.Goals as goal

pub returns-in-Ok-clause-added : goal.returns-in-Ok-clause-added
returns-in-Ok-clause-added c = λ around fresh.
    declared-added c.names.inside.table c.args.names.now.entries c.args.name c.args.what _ around (ap (λ (t : Table Declared). t.entries) c.names.view_is) c.in-Ok.ensures.entries fresh

pub invariant_of-names : goal.invariant_of-names
invariant_of-names c =
    let marks = c.names.inside.marks in
    let k = c.mark-place.result in
    let more = 1 * 2 ^ k % 2 ^ 64 in
    let set : bit_at (bit_or marks more) (mark_of c.args.name.now) ≡ 1 = subst (λ i. bit_at (bit_or marks more) i ≡ 1) c.mark-place.ensures.mark (mark_set marks k c.mark-place.ensures.small) in
    subst (HasMarks (bit_or marks more)) (sym c.in-Ok.ensures.entries)
    (marked-added marks (bit_or marks more) c.names.inside.table.entries c.args.name c.args.what c.names.invariant (λ i is. mark_stays marks more i is) set)
