use Rattle.std.proofs.Common.{◌≡◌, ◌++◌, take}
use Rattle.hc_store.proofs.register.joined.Given as goal

abbrev pub invariant-loop-net : goal.invariant-loop-net
invariant-loop-net l = l.nets ≡ l.low ++ take l.net-index l.high
