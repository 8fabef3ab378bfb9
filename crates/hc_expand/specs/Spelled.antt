-- Trees that spell tokens as a lexer makes them.
use Rattle.std.specs.Prelude.{List, All}
use Rattle.hc_tree.specs.declared.item.Tree.{Tree}
use Rattle.hc_lex.specs.Lexes.{IsPlain}
use Rattle.hc_lex.specs.declared.token.Placed.{Placed}
use Rattle.hc_grammar.specs.Table.{Spells}
use Rattle.hc_grammar.specs.Form as f
use Rattle.hc_grammar.specs.Grammar.{grammar}

-- the tree spells tokens whose words have letters, digits and `_` alone, and whose texts have the bytes that may stand
-- between quotes
pub record IsSpelled (tree : Tree) : Type 0 where
  pub tokens : List Placed
  pub spells : Spells grammar f.program tree tokens
  pub plain : All IsPlain tokens
