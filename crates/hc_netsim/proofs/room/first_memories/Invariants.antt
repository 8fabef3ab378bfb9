use Rattle.std.proofs.Common.{◌≡◌, ◌++◌, drop}
use Rattle.std.specs.Prelude.{map, All}
use Rattle.hc_net.specs.Run.{rams_of}
use Rattle.hc_net.specs.Valid.{RamHasSizes}
use Rattle.hc_netsim.specs.Held.{first_held}
use Rattle.hc_netsim.proofs.room.first_memories.Given as goal

abbrev pub invariant-loop-cell : goal.invariant-loop-cell
invariant-loop-cell l = let rest = rams_of (drop l.cell-index l.cells) in record {
  sizes : All RamHasSizes rest;
  memories : l.memories.items ++ map first_held rest ≡ map first_held (rams_of l.cells);
}
