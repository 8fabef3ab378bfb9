-- What is received into is no signal.
use Rattle.std.proofs.Common.{◌≡◌, ℕ, Ok, subst}
use Rattle.hc_tree.specs.declared.name.Ident.{Ident}
use Rattle.hc_core.specs.Program.{Target, ToRegister, ToElement, ToWord, Expression}
use Rattle.hc_core.specs.Sound.{IsKept}
use Rattle.hc_scope.specs.declared.state.State.{State}
use Rattle.hc_scope.specs.Expansion.{Outcome, Yields, Refuses, and_then, pure}
use Rattle.hc_scope.specs.Parts.{Parts}
use Rattle.hc_scope.specs.Reading.{Answers}
use Rattle.hc_scope.specs.Statement.{Destination, a_register, a_signal, an_element, a_word, kept, target_of, index_at}

kept_element : (k : ℕ) (o : Outcome Expression) (to : Target) (v : State) → and_then o (λ i. pure (ToElement k i)) ≡ Yields to v → IsKept to
kept_element k (Yields i u) to v is = let same : ToElement k i ≡ to = cc in subst (λ (t : Target). IsKept t) same tt
kept_element k (Refuses r) to v is = absurd (cc)

kept_word : (k : ℕ) (o : Outcome Expression) (to : Target) (v : State) → and_then o (λ i. pure (ToWord k i)) ≡ Yields to v → IsKept to
kept_word k (Yields i u) to v is = let same : ToWord k i ≡ to = cc in subst (λ (t : Target). IsKept t) same tt
kept_word k (Refuses r) to v is = absurd (cc)

-- what isn't written as a signal is kept
pub kept_target : {A : Type 0} (x : Ident) (d : Destination) (u : A) (read : A → Unit {0}) (s : State) (to : Target) (p : Parts) (calls : ℕ) (t v : State)
    → Answers read (kept x d s) (Ok u) s → target_of p calls d t ≡ Yields to v → IsKept to
kept_target x (a_register k) u read s to p calls t v ok is = let same : ToRegister k ≡ to = cc in subst (λ (t : Target). IsKept t) same tt
kept_target x (a_signal k) u read s to p calls t v ok is = absurd (cc)
kept_target x (an_element k i) u read s to p calls t v ok is = kept_element k (index_at p calls k i t) to v is
kept_target x (a_word k i) u read s to p calls t v ok is = kept_word k (index_at p calls k i t) to v is
