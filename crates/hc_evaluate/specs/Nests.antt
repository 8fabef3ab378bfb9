-- Function values that expand the parts of a node.
use Rattle.std.specs.Prelude.{◌≡◌, ◌<◌, ◌≤◌, ◌^◌, ℕ, IfOk, Result}
use Rattle.std.specs.declared.alloc.Global.{Global}
use denote.Ref.{Bor, MutBor}
use Rattle.hc_tree.specs.declared.expr.ExprTree.{ExprTree}
use Rattle.hc_tree.specs.declared.refusal.FrontErr.{FrontErr}
use Rattle.hc_core.specs.Typed.{kinds_of}
use Rattle.hc_width.specs.declared.value.Value.{Value}
use Rattle.hc_width.specs.Operand.{operand, IsOperand}
use Rattle.hc_scope.specs.declared.scope.Scope.{Scope}
use Rattle.hc_scope.specs.declared.shown.Shown.{Shown}
use Rattle.hc_scope.specs.declared.state.State.{State}
use Rattle.hc_scope.specs.Nodes.{nodes}
use Rattle.hc_scope.specs.Reading.{context_of, Answers, shown_of}
use Rattle.hc_scope.specs.Sound.{AreSound, IsShown}

-- expressions around which at most so many more nodes may be open
pub record Nests (room : ℕ) (pre : Global → MutBor State → Bor Scope → ℕ → ℕ → Bor ExprTree → Type 0)
    (post : Global → MutBor State → Bor Scope → ℕ → ℕ → Bor ExprTree → Result Value FrontErr → MutBor State → Type 0) : Type 0 where
  pub callable : (alloc : Global) (old : MutBor State) (scope : Bor Scope) (calls at : ℕ) (e : Bor ExprTree) → calls < 2 ^ 32 → at ≤ room
      → AreSound (kinds_of old.now.objects) → pre alloc old scope calls at e
  pub answers : (alloc : Global) (old new : MutBor State) (scope : Bor Scope) (calls at : ℕ) (e : Bor ExprTree) (r : Result Value FrontErr)
      → calls < 2 ^ 32 → at ≤ room → post alloc old scope calls at e r new
      → Answers operand ((nodes at).expression (context_of scope.now calls) e.now old.now) r new.now
  pub typed : (alloc : Global) (old new : MutBor State) (scope : Bor Scope) (calls at : ℕ) (e : Bor ExprTree) (r : Result Value FrontErr)
      → calls < 2 ^ 32 → at ≤ room → post alloc old scope calls at e r new → IfOk r (λ v. IsOperand (kinds_of old.now.objects) (operand v))
  pub objects : (alloc : Global) (old new : MutBor State) (scope : Bor Scope) (calls at : ℕ) (e : Bor ExprTree) (r : Result Value FrontErr)
      → calls < 2 ^ 32 → at ≤ room → post alloc old scope calls at e r new → new.now.objects ≡ old.now.objects

-- what stands before an index, around which at most so many more nodes may be open
pub record Shows (room : ℕ) (pre : Global → MutBor State → Bor Scope → ℕ → ℕ → Bor ExprTree → Type 0)
    (post : Global → MutBor State → Bor Scope → ℕ → ℕ → Bor ExprTree → Result Shown FrontErr → MutBor State → Type 0) : Type 0 where
  pub callable : (alloc : Global) (old : MutBor State) (scope : Bor Scope) (calls at : ℕ) (e : Bor ExprTree) → calls < 2 ^ 32 → at ≤ room
      → AreSound (kinds_of old.now.objects) → pre alloc old scope calls at e
  pub answers : (alloc : Global) (old new : MutBor State) (scope : Bor Scope) (calls at : ℕ) (e : Bor ExprTree) (r : Result Shown FrontErr)
      → calls < 2 ^ 32 → at ≤ room → post alloc old scope calls at e r new
      → Answers shown_of ((nodes at).before_index (context_of scope.now calls) e.now old.now) r new.now
  pub typed : (alloc : Global) (old new : MutBor State) (scope : Bor Scope) (calls at : ℕ) (e : Bor ExprTree) (r : Result Shown FrontErr)
      → calls < 2 ^ 32 → at ≤ room → post alloc old scope calls at e r new → IfOk r (λ v. IsShown (kinds_of old.now.objects) (shown_of v))
  pub objects : (alloc : Global) (old new : MutBor State) (scope : Bor Scope) (calls at : ℕ) (e : Bor ExprTree) (r : Result Shown FrontErr)
      → calls < 2 ^ 32 → at ≤ room → post alloc old scope calls at e r new → new.now.objects ≡ old.now.objects
