use Rattle.std.proofs.Common.{◌≡◌, [], ◌∷◌, length, ℕ, List, slice_set, refl, arith}
use Rattle.std.proofs.lemmas.Bool.{ne_eqb}
use Rattle.hc_circuit_tests.proofs.stim.SumBench.clock.Goals as goal

one_output : (outputs : List ℕ) (n : ℕ) → length outputs ≡ 1 → slice_set outputs 0 n ≡ n ∷ []
one_output [] n e = absurd (omega arith)
one_output (x ∷ []) n e = refl
one_output (x ∷ y ∷ ys) n e = absurd (omega arith)

pub returns-clause-gives : goal.returns-clause-gives
returns-clause-gives c = rw (one_output c.args.outputs.now _ c.requires.outputs) (rw (ne_eqb _ _ c.if-inputs-eq255.false) refl)
