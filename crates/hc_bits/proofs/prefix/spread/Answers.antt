use Rattle.std.proofs.Common.{◌+◌, ◌*◌, ◌/◌, ◌++◌, List, ℕ, length, map, false, sym, subst, arith}
use Rattle.std.proofs.lemmas.List.{length-map}
use Rattle.hc_bits.specs.Carry.{carries}
use Rattle.hc_bits.proofs.Carries.{length-carries}
use Rattle.hc_bits.proofs.Prefixes.{RowMade, PairsGiven, spread_more, row_done}
use Rattle.hc_bits.proofs.prefix.spread.Goals as goal

pub loop-i-preserved : goal.loop-i-preserved
loop-i-preserved c =
    let g = c.args.g.now in
    let p = c.args.p.now in
    subst (λ (z : List ℕ). RowMade (2 * ((c.loop-i.i + 1 + 1) / 2)) (g ++ (p ++ c.args.c.now)) c.args.b.now c.carry_at.new.b z (λ v. carries false (map v g) (map v p)) (λ v. PairsGiven v g p c.args.c.now) (c.loop-i.i + 1)) (sym c.in_ok-push.ensures.ok)
    (spread_more c.args.b.now c.loop-i.b c.carry_at.new.b g p c.args.c.now c.loop-i.z c.loop-i.i c.in_ok-carry.carry (omega arith) c.loop-i.invariant c.in_ok-carry.ensures)

pub returns-clause-circuit : goal.returns-clause-circuit
returns-clause-circuit c =
    let g = c.args.g.now in
    let p = c.args.p.now in
    row_done c.loop-i.i (2 * ((length g + 1) / 2)) c.loop-i.invariant (omega arith)
    (λ v. omega (arith, length-carries false (map v g) (map v p), length-map g v))
