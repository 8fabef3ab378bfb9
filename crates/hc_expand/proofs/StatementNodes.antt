-- Nodes that statements have, by the room around them.
use Rattle.std.proofs.Common.{◌≡◌, ◌≤◌, ℕ, suc, zero, ◌-◌, false, ap, arith, Result}
use denote.Ref.{Bor, MutBor}
use Rattle.std.specs.declared.alloc.Global.{Global}
use Rattle.hc_core.specs.declared.stmt.Stmt.{Stmt}
use Rattle.hc_tree.specs.declared.refusal.FrontErr.{FrontErr}
use Rattle.hc_tree.specs.declared.stmt.Block.{Block, out-Block}
use Rattle.hc_tree.specs.declared.stmt.Simple.{Simple}
use Rattle.hc_tree.specs.declared.stmt.Stmt as tree
use Rattle.hc_scope.specs.declared.scope.Scope.{Scope}
use Rattle.hc_scope.specs.declared.state.State.{State}
use Rattle.hc_scope.specs.Expansion.{and_then, visit, entered}
use Rattle.hc_scope.specs.Nodes.{nodes}
use Rattle.hc_scope.specs.Parts.{Context, simple_place}
use Rattle.hc_expand.specs.Runs.{Runs}
use Rattle.hc_scope.specs.Statement.{statement_form, simple_form, block_form, stmt_place, is_run}
use Rattle.hc_evaluate.proofs.Depth.{refused_then, one_less}

pub block_is : (room : ℕ) (c : Context) (b : Block) (s : State)
    → (nodes room).block c b s ≡ and_then (entered room false c.calls (out-Block b).place s) (λ u. block_form (nodes (room - 1)) c b)
unfolding nodes
block_is zero c b s = refused_then (visit false c.calls (out-Block b).place s) (out-Block b).place (λ u. block_form (nodes zero) c b)
block_is (suc room) c b s =
    ap (λ (n : ℕ). and_then (entered (suc room) false c.calls (out-Block b).place s) (λ u. block_form (nodes n) c b)) (one_less room)

pub simple_is : (room : ℕ) (c : Context) (x : Simple) (s : State)
    → (nodes room).simple c x s ≡ and_then (entered room false c.calls (simple_place x) s) (λ u. simple_form (nodes (room - 1)) c x)
unfolding nodes
simple_is zero c x s = refused_then (visit false c.calls (simple_place x) s) (simple_place x) (λ u. simple_form (nodes zero) c x)
simple_is (suc room) c x s =
    ap (λ (n : ℕ). and_then (entered (suc room) false c.calls (simple_place x) s) (λ u. simple_form (nodes n) c x)) (one_less room)

pub statement_is : (room : ℕ) (c : Context) (x : tree.Stmt) (s : State)
    → (nodes room).statement c x s ≡ and_then (entered room (is_run x) c.calls (stmt_place x) s) (λ u. statement_form (nodes (room - 1)) c x)
unfolding nodes
statement_is zero c x s = refused_then (visit (is_run x) c.calls (stmt_place x) s) (stmt_place x) (λ u. statement_form (nodes zero) c x)
statement_is (suc room) c x s =
    ap (λ (n : ℕ). and_then (entered (suc room) (is_run x) c.calls (stmt_place x) s) (λ u. statement_form (nodes n) c x)) (one_less room)

-- what expands statements within a statement expands those within its parts
pub runs_inside : (room less : ℕ) (pre : Global → MutBor State → Bor Scope → ℕ → ℕ → Bor tree.Stmt → Type 0)
    (post : Global → MutBor State → Bor Scope → ℕ → ℕ → Bor tree.Stmt → Result Stmt FrontErr → MutBor State → Type 0)
    → Runs room pre post → less ≤ room → Runs less pre post
runs_inside room less pre post runs below = record {
  callable = λ alloc old scope calls at s few most. runs.callable alloc old scope calls at s few (omega arith);
  answers = λ alloc old new scope calls at s r few most. runs.answers alloc old new scope calls at s r few (omega arith);
  typed = λ alloc old new scope calls at s r few most. runs.typed alloc old new scope calls at s r few (omega arith);
  grows = λ alloc old new scope calls at s r few most. runs.grows alloc old new scope calls at s r few (omega arith);
}
