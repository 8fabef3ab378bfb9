use Rattle.std.proofs.Common.{◌≡◌, ◌+◌, ◌≤◌, length}
use Rattle.hc_lex.specs.Place.{place_behind}
use Rattle.hc_lex.specs.Place.{HasRoom}
use Rattle.hc_lex.proofs.place.place_behind.Given as goal

abbrev pub invariant-loop-rest : goal.invariant-loop-rest
invariant-loop-rest l =
    (place_behind l.place l.rest ≡ place_behind l.fn.at l.fn.bytes) × HasRoom l.place (length l.rest)
    × (l.place.line + l.place.column + length l.rest ≤ l.fn.at.line + l.fn.at.column + length l.fn.bytes)

abbrev pub decreases-loop-rest : goal.decreases-loop-rest
decreases-loop-rest l = length l.rest
