use Rattle.std.proofs.Common.{arith, ap, length, ◌∙◌, ◌+◌}
use Rattle.std.proofs.lemmas.List.{length_push}
use Rattle.hc_net.specs.MadeLemmas.{Adds-longer, Adds-there}
use Rattle.hc_store.proofs.Columns.{column_more, column_there, have_bit, values_stay}
use Rattle.hc_store.proofs.register.next_bits.Goals as goal

pub any_both-requires-clause-bits : goal.any_both-requires-clause-bits
any_both-requires-clause-bits c =
    let adds = c.loop-i.invariant.made.adds in
    column_there (length c.loop-i.b.nodes) c.loop-i.i c.args.q.now c.in_ok-column.column c.args.values.now (omega arith)
    (Adds-there c.args.q.now adds c.requires.present)
    (values_stay (length c.args.b.now.nodes) (length c.loop-i.b.nodes) (length c.args.q.now) c.args.values.now (Adds-longer adds) c.requires.values)
    c.in_ok-column.ensures

pub loop-i-preserved : goal.loop-i-preserved
loop-i-preserved c = record {
  width = ap length c.in_ok-push.ensures.ok ∙ length_push c.loop-i.next c.in_ok-bit.bit ∙ ap (λ n. n + 1) c.loop-i.invariant.width;
  made = column_more c.args.choices.now c.args.q.now c.in_ok-column.column c.loop-i.next _ c.args.values.now c.loop-i.i c.in_ok-bit.bit c.args.b.now c.loop-i.b c.any_both.new.b
      (omega arith) (have_bit (length c.args.b.now.nodes) c.loop-i.i c.args.q.now c.args.values.now (omega arith) c.requires.values)
      c.in_ok-column.ensures c.in_ok-push.ensures.ok c.loop-i.invariant.made c.in_ok-bit.ensures;
}
