use Rattle.std.proofs.Common.{◌≡◌, ◌∙◌, ap, arith, length, set}
use Rattle.std.specs.Vec.{with_items}
use Rattle.std.proofs.lemmas.List.{with_items_is}
use Rattle.hc_sim.proofs.Words.{put_item}
use Rattle.hc_sim.proofs.store.Store.put.Goals as goal

pub returns-then-object-len : goal.returns-then-object-len
returns-then-object-len c =
    let size : length c.put_bits.new.words ≡ c.index_mut.result.now.len = omega (arith, c.as_mut_slice.ensures.len) in
    let new = with_items_is c.index_mut.result.now c.put_bits.new.words size ∙ c.put_bits.ensures ∙ ap (λ l. set l c.write.inside.index c.write.inside.bits) c.as_mut_slice.ensures.value in
    rw (← c.self.view_is, ← c.write.view_is) (put_item (λ v. v.items) c.self.inside.words.items c.write.inside.object c.write.inside.index c.write.inside.bits c.index_mut.result.now
    (with_items c.index_mut.result.now c.put_bits.new.words) (omega (arith, c.len.ensures)) c.index_mut.ensures.value new)
