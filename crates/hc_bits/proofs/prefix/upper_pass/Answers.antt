use Rattle.std.proofs.Common.{◌+◌, ◌/◌, ◌∷◌, ◌++◌, [], List, ℕ, length, map, get_or, ap, sym, subst, arith, ◌∙◌}
use Rattle.std.proofs.lemmas.List.{length-map}
use Rattle.hc_net.specs.MadeLemmas.{Makes-holds}
use Rattle.hc_bits.specs.Carry.{upper_pass}
use Rattle.hc_bits.proofs.Prefixes.{RowMade, upper_pass_first, upper_pass_more, row_done, length-upper_pass}
use Rattle.hc_bits.proofs.prefix.upper_pass.Goals as goal

pub loop-i-init : goal.loop-i-init
loop-i-init c =
    let p = c.args.p.now in
    subst (λ (z : List ℕ). RowMade 1 p c.args.b.now c.args.b.now z (λ v. upper_pass (map v p)) (λ v. Unit {0}) 1) (sym (c.in_ok-push.ensures.ok ∙ ap (λ (l : List ℕ). l ++ get_or p 1 0 ∷ []) c.new-z.ensures))
    (upper_pass_first c.args.b.now p (omega arith) c.requires.passes)

pub loop-i-preserved : goal.loop-i-preserved
loop-i-preserved c =
    let p = c.args.p.now in
    subst (λ (z : List ℕ). RowMade (c.loop-i.i + 1) p c.args.b.now c.and.new.b z (λ v. upper_pass (map v p)) (λ v. Unit {0}) (c.loop-i.i + 1)) (sym c.in_ok-push-2.ensures.ok)
    (upper_pass_more c.args.b.now c.loop-i.b c.and.new.b p c.loop-i.z c.loop-i.i c.in_ok-passes.passes (omega arith) (omega arith) c.loop-i.invariant c.in_ok-passes.ensures)

pub returns-clause-circuit : goal.returns-clause-circuit
returns-clause-circuit c =
    let p = c.args.p.now in
    Makes-holds (row_done c.loop-i.i (length p / 2) c.loop-i.invariant (omega arith) (λ v. omega (arith, length-upper_pass (map v p), length-map p v))) (omega arith) (λ v h. h tt)
