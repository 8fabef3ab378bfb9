use Rattle.std.proofs.Common.{◌∷◌, [], arith}
use Rattle.hc_net.specs.MadeLemmas.{Adds-there}
use Rattle.hc_control.proofs.Selectors.{found_none, found_more, found_all}
use Rattle.hc_control.proofs.labels.among.Goals as goal

pub loop-i-init : goal.loop-i-init
loop-i-init c = found_none c.args.zero c.args.x.now c.args.values.now c.args.b.now c.requires.zero

pub or-requires-clause-left : goal.or-requires-clause-left
or-requires-clause-left c = Adds-there (c.loop-i.net ∷ []) c.in_ok-one.ensures.adds c.loop-i.invariant.made.there 0 0 (omega arith)

pub or-requires-clause-right : goal.or-requires-clause-right
or-requires-clause-right c = c.in_ok-one.ensures.there 0 0 (omega arith)

pub loop-i-preserved : goal.loop-i-preserved
loop-i-preserved c =
    found_more c.args.zero c.args.x.now c.args.values.now _ c.loop-i.i c.loop-i.net c.in_ok-one.one c.in_ok-net.net c.index-as_slice-i.result c.args.b.now c.loop-i.b c.is.new.b c.or.new.b c.as_slice.ensures
    (omega arith) c.index-as_slice-i.is c.loop-i.invariant c.in_ok-one.ensures c.in_ok-net.ensures.circuit

pub returns : goal.returns
returns c =
    found_all c.args.zero c.args.x.now c.args.values.now c.loop-i.i c.loop-i.net c.args.b.now c.loop-i.b (omega arith) (omega arith) c.loop-i.invariant
