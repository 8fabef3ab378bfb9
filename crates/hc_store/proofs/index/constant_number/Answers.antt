use Rattle.std.proofs.Common.{List, ℕ, ◌-◌, ◌∙◌, get_or, ap, sym, arith}
use Rattle.hc_store.proofs.Constants.{constant_missing}
use Rattle.hc_store.proofs.index.constant_number.Goals as goal

pub returns-in-None : goal.returns-in-None
returns-in-None c =
    constant_missing c.args.b.now.nodes c.args.index.now c.loop-i.i _ (omega arith)
    (ap (λ (l : List ℕ). get_or l (c.args.width - 1 - c.loop-i.i) 0) c.as_slice.ensures ∙ ap (λ k. get_or c.args.index.now (k - 1 - c.loop-i.i) 0) (sym c.requires.width))
    c.in-None.ensures
