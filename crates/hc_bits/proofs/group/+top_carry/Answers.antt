use Rattle.std.proofs.Common.{◌/◌, [], ◌∷◌, length, arith}
use Rattle.std.proofs.lemmas.Grind.{common_steps}
use Rattle.std.proofs.lemmas.Result.{IfOk-weaker}
use Rattle.hc_net.specs.MadeLemmas.{Adds-there}
use Rattle.hc_bits.proofs.Groups.{top_one, top_made}
use Rattle.hc_bits.proofs.group.+top_carry.Goals as goal

pub returns-then-g-eq1 : goal.returns-then-g-eq1
returns-then-g-eq1 t c = top_one c.args.b.now c.args.g.now c.args.p.now (grind arith) c.requires.width c.requires.generates

pub carry_out-requires-clause-generates : goal.carry_out-requires-clause-generates
carry_out-requires-clause-generates t c = c.in_ok-high.ensures.there 0 0 (omega arith)

pub carry_out-requires-clause-passes : goal.carry_out-requires-clause-passes
carry_out-requires-clause-passes t c = c.in_ok-high.ensures.there 1 0 (omega arith)

pub carry_out-requires-clause-carry : goal.carry_out-requires-clause-carry
carry_out-requires-clause-carry t c = Adds-there (c.in_ok-low.low ∷ []) c.in_ok-high.ensures.adds c.in_ok-low.ensures.there 0 0 (omega arith)

pub returns : goal.returns
returns t c =
    IfOk-weaker c.carry_out.result _ _ (λ z made. top_made c.args.b.now c.top_carry.new.b c.grouped.new.b c.carry_out.new.b c.args.g.now c.args.p.now _ _ _ _ (length c.args.g.now / 2)
    c.in_ok-low.low c.in_ok-high.high.generates c.in_ok-high.high.passes z
    (grind arith) (grind arith) c.requires.width (grind (arith, common_steps)) (grind (arith, common_steps)) (grind (arith, common_steps)) (grind (arith, common_steps))
    c.in_ok-low.ensures c.in_ok-high.ensures made) c.carry_out.ensures
