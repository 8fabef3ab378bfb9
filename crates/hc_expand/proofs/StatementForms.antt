-- Statements whose forms the search for a proof doesn't open by itself.
use Rattle.std.proofs.Common.{◌≡◌, sym, subst, ap}
use denote.Hole.Carrier.{out, shown, hidden}
use Rattle.hc_tree.specs.declared.place.Place.{Place}
use Rattle.hc_tree.specs.declared.stmt.Stmt as tree
use Rattle.hc_tree.specs.declared.stmt.Stmt.{out-Stmt}
use Rattle.hc_tree.specs.declared.stmt.Stmt.TheVariants as stmt
use Rattle.hc_core.specs.Read.{statement}
use Rattle.hc_core.specs.declared.stmt.Stmt.TheVariants.{Delay}
use Rattle.hc_core.proofs.Read.{read_Delay}
use Rattle.hc_scope.specs.declared.state.State.{State}
use Rattle.hc_scope.specs.Expansion.{Yields}
use Rattle.hc_scope.specs.Parts.{Context, Parts}
use Rattle.hc_scope.specs.Statement.{statement_form}

delay_itself : (p : Parts) (c : Context) (place : Place) (s : State) → statement_form p c (stmt.Delay place) s ≡ Yields (statement (Delay place)) s
unfolding statement_form out-Stmt out shown hidden
delay_itself p c place s = ap (λ v. Yields v s) (sym (read_Delay place))

pub delay_form : (p : Parts) (c : Context) (place : Place) (x : tree.Stmt) (s : State) → x ≡ stmt.Delay place → statement_form p c x s ≡ Yields (statement (Delay place)) s
delay_form p c place x s is = subst (λ (y : tree.Stmt). statement_form p c y s ≡ Yields (statement (Delay place)) s) (sym is) (delay_itself p c place s)
