use Rattle.std.proofs.Common.{arith, ap, length, ◌∙◌, ◌+◌}
use Rattle.std.proofs.lemmas.List.{length_push}
use Rattle.hc_net.specs.MadeLemmas.{Adds-longer}
use Rattle.hc_ram.proofs.EachEnabled.{lists_there, lists_within, enabled_more}
use Rattle.hc_ram.proofs.enabled.any_enabled.Goals as goal

pub any_bit-requires-clause-values : goal.any_bit-requires-clause-values
any_bit-requires-clause-values c =
    lists_there (length c.args.b.now.nodes) (length c.loop-i.b.nodes) c.args.width c.args.values.now (Adds-longer c.loop-i.invariant.made.adds) c.requires.values

pub any_bit-requires-clause-within : goal.any_bit-requires-clause-within
any_bit-requires-clause-within c = lists_within (length c.args.b.now.nodes) c.args.width c.loop-i.i c.args.values.now (omega arith) c.requires.values

pub loop-i-preserved : goal.loop-i-preserved
loop-i-preserved c = record {
  width = ap length c.in_ok-push.ensures.ok ∙ length_push c.loop-i.bits c.in_ok-bit.bit ∙ ap (λ n. n + 1) c.loop-i.invariant.width;
  made = enabled_more c.args.enables.now c.loop-i.bits _ c.args.values.now c.loop-i.i c.in_ok-bit.bit c.args.b.now c.loop-i.b c.any_bit.new.b
      c.in_ok-push.ensures.ok c.loop-i.invariant.made c.in_ok-bit.ensures;
}
