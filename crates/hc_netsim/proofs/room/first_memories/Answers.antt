use Rattle.std.proofs.Common.{◌≡◌, ◌+◌, ◌++◌, ◌∷◌, [], ◌∙◌, ap, sym, subst, drop, append_assoc}
use Rattle.std.specs.Prelude.{All, map}
use Rattle.hc_net.specs.Run.{rams_of}
use Rattle.hc_net.specs.Valid.{RamHasSizes}
use Rattle.hc_net.specs.declared.net.Cell.TheVariants.{Ram}
use Rattle.hc_netsim.specs.Held.{first_held}
use Rattle.hc_netsim.proofs.Passes.{at_item}
use Rattle.hc_netsim.proofs.Walk.{all_behind}
use Rattle.hc_netsim.proofs.room.first_memories.Goals as goal

pub loop-cell-preserved : goal.loop-cell-preserved
loop-cell-preserved c =
    let r = c.in-Some.ram.now in
    let rest = drop (c.loop-cell.cell-index + 1) c.args.cells.now in
    let here : rams_of (drop c.loop-cell.cell-index c.args.cells.now) ≡ r ∷ rams_of rest = ap rams_of (at_item c.args.cells.now c.loop-cell.cell-index c.cell-item.result (Ram r) c.loop-cell-test.true c.cell-item.is c.in-Some.ensures) in
    record {
      sizes = all_behind RamHasSizes r (rams_of rest) (subst (All RamHasSizes) here c.loop-cell.invariant.sizes);
      memories =
          ap (λ l. l ++ map first_held (rams_of rest)) (c.in-Ok.ensures.items ∙ ap (λ x. c.loop-cell.memories.items ++ x ∷ []) c.in_ok-new.ensures)
          ∙ append_assoc c.loop-cell.memories.items (first_held r ∷ []) (map first_held (rams_of rest))
          ∙ sym (ap (λ rams. c.loop-cell.memories.items ++ map first_held rams) here)
          ∙ c.loop-cell.invariant.memories;
    }
