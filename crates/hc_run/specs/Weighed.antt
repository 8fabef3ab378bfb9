-- What a source weighs: its bytes, its tokens and its tree, by the core that they have.
use Rattle.std.specs.Prelude.{◌≡◌, ℕ, List}
use Rattle.hc_tree.specs.declared.item.Tree.{Tree}
use Rattle.hc_lex.specs.Lexes.{HasTokens}
use Rattle.hc_lex.specs.Place.{start}
use Rattle.hc_lex.specs.declared.token.Placed.{Placed}
use Rattle.hc_parse.specs.Parsed.{HasTree}
use Rattle.hc_core.specs.Weight.{weight_of}
use Rattle.hc_core.specs.declared.object.Core.{Core}
use Rattle.hc_scope.specs.Expands.{Expands}

-- The tree expands to a core of this weight.
pub record TreeWeighs (tree : Tree) (weight : ℕ) : Type 0 where
  pub core : Core
  pub expands : Expands tree core
  pub is : weight ≡ weight_of core

-- The tokens have a tree that does so.
pub record TokensWeigh (tokens : List Placed) (weight : ℕ) : Type 0 where
  pub has_tree : HasTree tokens
  pub tree : TreeWeighs has_tree.tree weight

-- The bytes have tokens within the limits that do so.
pub record Weighs (bytes : List ℕ) (weight : ℕ) : Type 0 where
  pub lexed : HasTokens 0 start bytes
  pub tokens : TokensWeigh lexed.tokens weight
