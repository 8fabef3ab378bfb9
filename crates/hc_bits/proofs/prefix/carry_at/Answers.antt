use Rattle.std.proofs.Common.{arith}
use Rattle.std.proofs.lemmas.Result.{IfOk-weaker}
use Rattle.hc_bits.proofs.Prefixes.{carry_at_pair, carry_at_lowest, carry_at_between}
use Rattle.hc_bits.proofs.prefix.carry_at.Goals as goal

pub returns-then-i-eq1 : goal.returns-then-i-eq1
returns-then-i-eq1 c = carry_at_pair c.args.b.now c.args.g.now c.args.p.now c.args.c.now c.args.i c.requires.width c.requires.pairs c.requires.place (grind arith) c.requires.carries

pub returns-then-i-eq0 : goal.returns-then-i-eq0
returns-then-i-eq0 c = carry_at_lowest c.args.b.now c.args.g.now c.args.p.now c.args.c.now c.args.i c.requires.place (grind arith) c.requires.generates

pub returns-else-i-eq0 : goal.returns-else-i-eq0
returns-else-i-eq0 c =
    IfOk-weaker c.carry_past.result _ _ (λ z made. carry_at_between c.args.b.now c.carry_past.new.b c.args.g.now c.args.p.now c.args.c.now c.args.i z c.requires.width c.requires.pairs c.requires.place (grind arith) (grind arith) made) c.carry_past.ensures
