use Rattle.std.proofs.Common.{List, ℕ, ◌≡◌, ◌∷◌, [], ◌*◌, ◌++◌, length, map, get_or, subst, sym}
use Rattle.hc_net.specs.Made.{Makes}
use Rattle.hc_store.specs.Takes.{some_both}
use Rattle.hc_store.proofs.Columns.{any_both_made}
use Rattle.hc_store.proofs.register.any_both.Goals as goal

pub returns : goal.returns
returns c =
    subst (λ (l : List ℕ). Makes (2 * length c.args.choices.now) (c.args.choices.now ++ c.args.bits.now) c.args.b.now c.truth.new.b (get_or l 0 0 ∷ []) (λ v. v (get_or l 0 0) ≡ some_both (map v c.args.choices.now) (map v c.args.bits.now)))
    (sym c.as_slice.ensures)
    (any_both_made c.args.choices.now c.args.bits.now c.in_ok-both.both c.in_ok-some.some c.args.b.now c.band.new.b c.truth.new.b
    c.requires.same c.in_ok-both.ensures.width c.in_ok-some.ensures.width c.in_ok-both.ensures.circuit c.in_ok-some.ensures.circuit)
