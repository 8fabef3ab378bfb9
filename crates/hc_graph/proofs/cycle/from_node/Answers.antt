use Rattle.std.proofs.Common.{◌≡◌, ◌≤◌, ℕ, zero, suc, ◌-◌, List, [], ◌∷◌, ◌++◌, length, get_or, take, drop, refl, sym, ap, ◌∙◌, subst, arith}
use Rattle.std.specs.List.{Contains}
use Rattle.std.proofs.lemmas.List.{take_all, append_assoc}
use Rattle.hc_graph.proofs.cycle.from_node.Goals as goal

walk : (path rest : List ℕ) (node : ℕ) → ((before : List ℕ) × (path ≡ before ++ rest)) × Contains rest node → 1 ≤ length rest → (get_or rest 0 0 ≡ node → ⊥)
    → ((before : List ℕ) × (path ≡ before ++ take (length rest - 1) (drop 1 rest))) × Contains (take (length rest - 1) (drop 1 rest)) node
walk path [] node h some other = absurd (omega arith)
walk path (x ∷ xs) node ((before, is), (zero, within, at)) some other = absurd (other at)
walk path (x ∷ xs) node ((before, is), (suc k, within, at)) some other =
    let whole : take (length (x ∷ xs) - 1) xs ≡ xs = take_all (length (x ∷ xs) - 1) xs (omega arith) in
    let there : Contains xs node = (k, omega arith, at) in
    ((before ++ x ∷ [], is ∙ sym (rw append_assoc refl) ∙ ap (λ l. (before ++ x ∷ []) ++ l) (sym whole)), subst (λ (l : List ℕ). Contains l node) (sym whole) there)

pub loop-rest-preserved : goal.loop-rest-preserved
loop-rest-preserved c = walk c.args.path.now c.loop-rest.rest.now c.args.node c.loop-rest.invariant c.in-len1-up.len_at_least c.if-first-node.false
