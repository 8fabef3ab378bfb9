use Rattle.std.proofs.Common.{List, ℕ, length, get_or, ap}
use Rattle.hc_ram.proofs.EachEnabled.{column_there, column_width, bit_made}
use Rattle.hc_ram.proofs.enabled.any_bit.Goals as goal

pub band-requires-clause-right : goal.band-requires-clause-right
band-requires-clause-right c = column_there (length c.args.b.now.nodes) c.args.i c.in_ok-bits.bits c.args.values.now c.in_ok-bits.ensures c.requires.within c.requires.values

pub band-requires-clause-width : goal.band-requires-clause-width
band-requires-clause-width c = column_width c.args.i c.in_ok-bits.bits c.args.enables.now c.args.values.now c.in_ok-bits.ensures c.requires.uses

pub returns : goal.returns
returns c =
    bit_made c.args.enables.now c.in_ok-bits.bits c.in_ok-both.both c.in_ok-some.some c.args.values.now c.args.i (get_or c.as_slice.result.now 0 0) c.args.b.now c.band.new.b c.truth.new.b
    c.requires.uses c.in_ok-bits.ensures c.requires.within c.in_ok-both.ensures.width c.in_ok-some.ensures.width (ap (λ (l : List ℕ). get_or l 0 0) c.as_slice.ensures)
    c.in_ok-both.ensures.circuit c.in_ok-some.ensures.circuit
