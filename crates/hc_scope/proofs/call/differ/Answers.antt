use Rattle.std.proofs.Common.{◌≡◌, ◌<◌, length, slice_get, Some, refl, arith}
use Rattle.std.proofs.lemmas.Option.{slice_get_read}
use Rattle.hc_scope.specs.Calls.{texts}
use Rattle.hc_scope.proofs.Calls.{differs-more, differs-err}
use Rattle.hc_scope.proofs.call.differ.Goals as goal

pub returns-in-Err : goal.returns-in-Err
returns-in-Err c = λ s.
    let ps = c.args.parameters.now in
    let x = c.x-item.result in
    let lt : c.loop-x.x-index < length ps = omega arith in
    let at : slice_get ps c.loop-x.x-index ≡ Some x = slice_get_read ps _ c.loop-x.x-index x refl lt c.x-item.is in
    differs-err ps c.loop-x.x-index c.loop-x.names.keys c.note.new.names.keys x c.in-Err.e s at c.in-Err.ensures c.loop-x.invariant

pub loop-x-preserved : goal.loop-x-preserved
loop-x-preserved c =
    let ps = c.args.parameters.now in
    let x = c.x-item.result in
    let lt : c.loop-x.x-index < length ps = omega arith in
    let at : slice_get ps c.loop-x.x-index ≡ Some x = slice_get_read ps _ c.loop-x.x-index x refl lt c.x-item.is in
    differs-more ps c.loop-x.x-index (texts c.loop-x.names.keys) (texts c.note.new.names.keys) x at c.in-Ok.ensures.0 c.in-Ok.ensures.1 c.loop-x.invariant
