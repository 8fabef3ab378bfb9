use Rattle.std.proofs.Common.{◌≡◌, ◌++◌, take}
use Rattle.hc_ram.proofs.append.append.Given as goal

abbrev pub invariant-loop-net : goal.invariant-loop-net
invariant-loop-net l = l.nets ≡ l.initial.nets ++ take l.net-index l.more
