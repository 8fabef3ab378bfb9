use Rattle.std.proofs.Common.{arith, ◌-◌, ◌∙◌, length}
use Rattle.hc_bits.proofs.Terms.{terms_same, terms_all, decode_net, decode_most, decode_room, decoded_none, decoded_more, decoded_all}
use Rattle.hc_bits.proofs.decoder.decode.Goals as goal

pub loop-i-init : goal.loop-i-init
loop-i-init c = record {
  width = c.in-Ok.ensures.width ∙ c.terms_at.ensures ∙ terms_same c.args.n _ _ (omega arith);
  made = decoded_none c.args.x.now _ c.in-Ok.terms c.args.n (c.len-top.result - 1) c.terms_at.result c.args.b.now c.first_terms.new.b c.as_slice.ensures (omega arith) c.in-Ok.ensures.width c.in-Ok.ensures.circuit;
}

pub doubled-requires-clause-net : goal.doubled-requires-clause-net
doubled-requires-clause-net c =
    decode_net c.args.x.now _ (c.len-top.result - 1 - 1 - c.loop-i.i) c.args.b.now c.loop-i.b c.as_slice-in-loop-i.ensures (omega arith) c.requires.nets c.loop-i.invariant.made.adds

pub doubled-requires-clause-most : goal.doubled-requires-clause-most
doubled-requires-clause-most c =
    decode_most c.args.n (c.len-top.result - 1) c.loop-i.i (c.len-top.result - 1 - 1 - c.loop-i.i) c.terms_at-in-loop-i.result c.loop-i.terms (omega arith) c.terms_at-in-loop-i.ensures c.loop-i.invariant.width

pub doubled-requires-clause-room : goal.doubled-requires-clause-room
doubled-requires-clause-room c =
    decode_room c.args.n (length c.args.x.now) c.loop-i.i (c.len-top.result - 1 - 1 - c.loop-i.i) c.terms_at-in-loop-i.result c.args.b.now c.loop-i.b (omega arith) c.terms_at-in-loop-i.ensures (omega arith) c.requires.room c.loop-i.invariant.made.adds

pub loop-i-preserved : goal.loop-i-preserved
loop-i-preserved c = record {
  width = c.in-Ok-doubled.ensures.width ∙ c.terms_at-in-loop-i.ensures ∙ terms_same c.args.n _ _ (omega arith);
  made = decoded_more c.args.x.now _ c.loop-i.terms c.in-Ok-doubled.longer c.args.n (c.len-top.result - 1) c.loop-i.i (c.len-top.result - 1 - 1 - c.loop-i.i) c.terms_at-in-loop-i.result c.args.b.now c.loop-i.b c.doubled.new.b c.as_slice-in-loop-i.ensures (omega arith) (omega arith) (omega arith) c.terms_at-in-loop-i.ensures c.in-Ok-doubled.ensures.width c.loop-i.invariant.width c.loop-i.invariant.made c.in-Ok-doubled.ensures.circuit;
}

pub returns-clause-circuit : goal.returns-clause-circuit
returns-clause-circuit c =
    decoded_all c.args.x.now c.loop-i.terms c.args.n (c.len-top.result - 1) c.loop-i.i c.args.b.now c.loop-i.b (omega arith) (omega arith) (terms_all c.args.n _ (length c.loop-i.terms) (omega arith) (omega arith) c.loop-i.invariant.width) c.loop-i.invariant.made
