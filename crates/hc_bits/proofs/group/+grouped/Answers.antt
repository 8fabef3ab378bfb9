use Rattle.std.proofs.Common.{◌/◌, [], ◌∷◌, length, arith}
use Rattle.std.proofs.lemmas.Grind.{common_steps}
use Rattle.hc_net.specs.MadeLemmas.{Adds-there}
use Rattle.hc_bits.proofs.Groups.{group_one, group_made}
use Rattle.hc_bits.proofs.group.+grouped.Goals as goal

pub returns-then-g-eq1 : goal.returns-then-g-eq1
returns-then-g-eq1 t c = group_one c.args.b.now c.args.g.now c.args.p.now (grind arith) c.requires.width c.requires.generates c.requires.passes

pub carry_out-requires-clause-generates : goal.carry_out-requires-clause-generates
carry_out-requires-clause-generates t c = c.in_ok-high.ensures.there 0 0 (omega arith)

pub carry_out-requires-clause-passes : goal.carry_out-requires-clause-passes
carry_out-requires-clause-passes t c = c.in_ok-high.ensures.there 1 0 (omega arith)

pub carry_out-requires-clause-carry : goal.carry_out-requires-clause-carry
carry_out-requires-clause-carry t c = Adds-there (c.in_ok-low.low.generates ∷ c.in_ok-low.low.passes ∷ []) c.in_ok-high.ensures.adds c.in_ok-low.ensures.there 0 0 (omega arith)

pub and-requires-clause-left : goal.and-requires-clause-left
and-requires-clause-left t c = Adds-there (c.in_ok-high.high.generates ∷ c.in_ok-high.high.passes ∷ []) c.in_ok-generates.ensures.adds c.in_ok-high.ensures.there 1 0 (omega arith)

pub and-requires-clause-right : goal.and-requires-clause-right
and-requires-clause-right t c = Adds-there (c.in_ok-low.low.generates ∷ c.in_ok-low.low.passes ∷ []) c.in_ok-generates.ensures.adds (Adds-there (c.in_ok-low.low.generates ∷ c.in_ok-low.low.passes ∷ []) c.in_ok-high.ensures.adds c.in_ok-low.ensures.there) 1 0 (omega arith)

pub returns : goal.returns
returns t c =
    group_made c.args.b.now c.grouped.new.b c.grouped-2.new.b c.carry_out.new.b c.and.new.b c.args.g.now c.args.p.now _ _ _ _ (length c.args.g.now / 2)
    c.in_ok-low.low.generates c.in_ok-low.low.passes c.in_ok-high.high.generates c.in_ok-high.high.passes c.in_ok-generates.generates c.in_ok-passes.passes
    (grind arith) (grind arith) c.requires.width (grind (arith, common_steps)) (grind (arith, common_steps)) (grind (arith, common_steps)) (grind (arith, common_steps))
    c.in_ok-low.ensures c.in_ok-high.ensures c.in_ok-generates.ensures c.in_ok-passes.ensures
