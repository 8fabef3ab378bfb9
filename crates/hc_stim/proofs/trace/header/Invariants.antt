use Rattle.std.proofs.Common.{◌≡◌, ◌++◌, map, take}
use Rattle.std.specs.Prelude.{codes, flat_map}
use Rattle.hc_stim.specs.Text.{behind_space}
use Rattle.hc_stim.proofs.trace.header.Given as goal

abbrev pub invariant-loop-name : goal.invariant-loop-name
invariant-loop-name l = l.line.items ≡ codes "clock" ++ flat_map behind_space (map (λ n. n.items) (take l.name-index l.names))
