use Rattle.std.proofs.Common.{◌∙◌, ap, sym, subst, length, get_or}
use Rattle.hc_net.specs.Run.{net_bit}
use Rattle.hc_netsim.specs.Pass.{RamReadsWithin}
use Rattle.hc_netsim.specs.Held.{Held, after_edge}
use Rattle.hc_netsim.proofs.Walk.{edge_more, edge_ram, ram_at}
use Rattle.hc_netsim.proofs.outputs.put_words.Goals as goal

pub write-requires : goal.write-requires
write-requires c =
    let v = net_bit c.args.values.now in
    let k = c.loop-k.k in
    let m = c.index-memories-k.result in
    let n = length c.args.values.now in
    subst (λ (x : Held). RamReadsWithin n x.ram) (sym (ap (λ ms. get_or ms k m) c.loop-k.invariant ∙ edge_ram v c.args.memories.now k m c.loop-k-test.true))
    (ram_at (RamReadsWithin n) c.args.memories.now k m c.loop-k-test.true c.requires)

pub loop-k-preserved : goal.loop-k-preserved
loop-k-preserved c =
    let v = net_bit c.args.values.now in
    let m = c.index-memories-k.result in
    edge_more v c.args.memories.now c.loop-k.memories c.loop-k.k m c.write.new.self c.loop-k-test.true c.loop-k.invariant c.index-memories-k.is (c.write.ensures ∙ ap (after_edge v) (sym c.index-memories-k.is))
