use Rattle.std.proofs.Common.{◌≡◌, ◌∙◌, ap, sym, subst, ℕ, List, length}
use Rattle.std.specs.Prelude.{map, All}
use Rattle.hc_net.specs.Run.{net_bit, net_count, rams_of}
use Rattle.hc_net.specs.declared.ram.RamCell.{RamCell}
use Rattle.hc_netsim.specs.Pass.{RamReadsWithin}
use Rattle.hc_netsim.proofs.Walk.{rams_after, rams_read, state_next}
use Rattle.hc_netsim.proofs.clock.run_clock.Goals as goal

pub put_words-requires : goal.put_words-requires
put_words-requires c =
    let raw = c.args.raw.now in
    let count = length c.settle.new.values in
    let nets : count ≡ net_count raw = c.settle.auto.values ∙ c.requires.room.nets in
    let reads = rams_read (net_count raw) raw.cells c.requires.room.valid.v1.cells in
    subst (λ (rams : List RamCell). All (RamReadsWithin count) rams) (sym c.requires.room.rams) (subst (λ (n : ℕ). All (RamReadsWithin n) (rams_of raw.cells)) (sym nets) reads)

pub returns-clause-room : goal.returns-clause-room
returns-clause-room c = record {
  valid = c.requires.room.valid;
  flops = c.put_next.auto.state ∙ c.requires.room.flops;
  rams = ap (map (λ m. m.ram)) c.put_words.ensures ∙ rams_after (net_bit c.settle.new.values) c.args.memories.now ∙ c.requires.room.rams;
  nets = c.settle.auto.values ∙ c.requires.room.nets;
}

pub returns-clause-state : goal.returns-clause-state
returns-clause-state c = state_next c.args.raw.now c.args.state.now c.put_next.new.state c.settle.new.values _ c.as_slice-2.result.now c.args.memories.now c.put_words.new.memories c.requires.room.rams c.as_slice-2.ensures c.put_next.ensures c.put_words.ensures c.settle.ensures
