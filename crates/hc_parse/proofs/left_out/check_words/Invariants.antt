use Rattle.std.proofs.Common.{◌≡◌, drop}
use Rattle.std.specs.List.{find}
use Rattle.hc_parse.specs.LeftOut.{is_left_out}
use Rattle.hc_parse.proofs.left_out.check_words.Given as goal

abbrev pub invariant-loop-t : goal.invariant-loop-t
invariant-loop-t l = find (λ t. is_left_out t.token) l.t-items ≡ find (λ t. is_left_out t.token) (drop l.t-index l.t-items)
