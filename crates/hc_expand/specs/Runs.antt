-- Function values that expand the statements within a statement.
use Rattle.std.specs.Prelude.{◌<◌, ◌≤◌, ◌^◌, ℕ, IfOk, OnOk, Result}
use Rattle.std.specs.declared.alloc.Global.{Global}
use denote.Ref.{Bor, MutBor}
use Rattle.hc_tree.specs.declared.stmt.Stmt as tree
use Rattle.hc_tree.specs.declared.refusal.FrontErr.{FrontErr}
use Rattle.hc_core.specs.declared.stmt.Stmt.{Stmt}
use Rattle.hc_core.specs.Read.{statement}
use Rattle.hc_core.specs.Sound.{IsTyped}
use Rattle.hc_core.specs.Typed.{kinds_of}
use Rattle.hc_scope.specs.declared.scope.Scope.{Scope}
use Rattle.hc_scope.specs.declared.state.State.{State}
use Rattle.hc_scope.specs.Nodes.{nodes}
use Rattle.hc_scope.specs.Reading.{context_of, Answers}
use Rattle.hc_scope.specs.Sound.{AreSound, Grows}

-- statements around which at most so many more nodes may be open
pub record Runs (room : ℕ) (pre : Global → MutBor State → Bor Scope → ℕ → ℕ → Bor tree.Stmt → Type 0)
    (post : Global → MutBor State → Bor Scope → ℕ → ℕ → Bor tree.Stmt → Result Stmt FrontErr → MutBor State → Type 0) : Type 0 where
  pub callable : (alloc : Global) (old : MutBor State) (scope : Bor Scope) (calls at : ℕ) (s : Bor tree.Stmt) → calls < 2 ^ 32 → at ≤ room
      → AreSound (kinds_of old.now.objects) → pre alloc old scope calls at s
  pub answers : (alloc : Global) (old new : MutBor State) (scope : Bor Scope) (calls at : ℕ) (s : Bor tree.Stmt) (r : Result Stmt FrontErr)
      → calls < 2 ^ 32 → at ≤ room → post alloc old scope calls at s r new
      → Answers statement ((nodes at).statement (context_of scope.now calls) s.now old.now) r new.now
  pub typed : (alloc : Global) (old new : MutBor State) (scope : Bor Scope) (calls at : ℕ) (s : Bor tree.Stmt) (r : Result Stmt FrontErr)
      → calls < 2 ^ 32 → at ≤ room → post alloc old scope calls at s r new → IfOk r (λ v. IsTyped (kinds_of new.now.objects) (statement v))
  pub grows : (alloc : Global) (old new : MutBor State) (scope : Bor Scope) (calls at : ℕ) (s : Bor tree.Stmt) (r : Result Stmt FrontErr)
      → calls < 2 ^ 32 → at ≤ room → post alloc old scope calls at s r new → OnOk r (Grows old.now.objects new.now.objects)
