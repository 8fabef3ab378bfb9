use Rattle.std.proofs.Common.{◌+◌, ◌*◌, ◌/◌, ◌++◌, List, ℕ, length, map, sym, subst, arith}
use Rattle.std.proofs.lemmas.List.{length-map}
use Rattle.hc_net.specs.MadeLemmas.{Makes-holds}
use Rattle.hc_bits.specs.Carry.{paired}
use Rattle.hc_bits.proofs.Prefixes.{RowMade, paired_more, row_done, length-paired}
use Rattle.hc_bits.proofs.prefix.paired.Goals as goal

pub loop-i-preserved : goal.loop-i-preserved
loop-i-preserved c =
    let g = c.args.g.now in
    let p = c.args.p.now in
    subst (λ (z : List ℕ). RowMade (2 * (c.loop-i.i + 1)) (g ++ p) c.args.b.now c.carry_past.new.b z (λ v. paired (map v g) (map v p)) (λ v. Unit {0}) (c.loop-i.i + 1)) (sym c.in_ok-push.ensures.ok)
    (paired_more c.args.b.now c.loop-i.b c.carry_past.new.b g p c.loop-i.z c.loop-i.i c.in_ok-carry.carry (omega arith) c.loop-i.invariant c.in_ok-carry.ensures)

pub returns-clause-circuit : goal.returns-clause-circuit
returns-clause-circuit c =
    let g = c.args.g.now in
    let p = c.args.p.now in
    Makes-holds (row_done c.loop-i.i (2 * (length g / 2)) c.loop-i.invariant (omega arith)
    (λ v. omega (arith, length-paired (map v g) (map v p), length-map g v))) (omega arith) (λ v h. h tt)
