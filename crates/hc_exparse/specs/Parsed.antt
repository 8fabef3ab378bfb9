-- What `parse_expr` answers.
use Rattle.std.specs.Prelude.{◌≡◌, ◌≤◌, ◌+◌, ℕ, length, take, drop}
use Rattle.hc_tree.specs.declared.expr.ExprTree.{ExprTree}
use Rattle.hc_tree.specs.declared.refusal.Rule.TheVariants.{S2}
use Rattle.hc_tree.specs.declared.refusal.Detail.TheVariants.{Nothing}
use Rattle.hc_tree.specs.declared.refusal.FrontErr.{FrontErr}
use Rattle.hc_tree.specs.declared.refusal.FrontErr.TheVariants.{Refused, NoMemory}
use Rattle.hc_lex.specs.TokenList.{TokenList}
use Rattle.hc_grammar.specs.Cursor.{place_before}
use Rattle.hc_grammar.specs.Form as f
use Rattle.hc_grammar.specs.Grammar.{grammar}
use Rattle.hc_grammar.specs.Table.{Spells, IsStop}

-- the token behind the expression is not before its first, and not behind the stop
pub record IsOrdered (from next stop count : ℕ) : Type 0 where
  pub begins : from ≤ next
  pub before : next ≤ stop
  pub within : stop ≤ count

-- no expression begins at token number `from`, and the refusal is S2 at the stop
pub record IsRefused (ts : TokenList) (from : ℕ) (stop : ℕ) : Type 0 where
  pub is_stop : IsStop grammar f.expr (drop from ts.tokens) stop
  pub none : (n : ℕ) (v : ExprTree) → n ≤ length (drop from ts.tokens) → ¬ Spells grammar f.expr v (take n (drop from ts.tokens))

abbrev pub IfRefused : TokenList → ℕ → FrontErr → Type 0
IfRefused ts from (Refused r) = (stop : ℕ) × IsRefused ts from stop × (r ≡ record { rule = S2; place = place_before ts.end (drop (from + stop) ts.tokens); detail = Nothing })
IfRefused ts from NoMemory = Unit {0}
