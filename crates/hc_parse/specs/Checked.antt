-- What is checked of tokens before the grammar, and what they break of it first.
use Rattle.hc_tree.specs.declared.refusal.Refusal.{Refusal}
use Rattle.hc_lex.specs.declared.token.Placed.{Placed}
use Rattle.std.specs.Prelude.{List}
use Rattle.hc_grammar.specs.Nesting.{IsShallow, FirstDeep}
use Rattle.hc_parse.specs.LeftOut.{HasNoLeftOut, FirstLeftOut}

-- No token is a word that is left out, and none is nested too deep.
pub record Passes (ts : List Placed) : Type 0 where
  pub words : HasNoLeftOut ts
  pub shallow : IsShallow ts

-- The tokens break one of these, and this refusal comes first: a word that is left out, then the nesting.
pub data FirstBreach (ts : List Placed) (refusal : Refusal) : Type 0 where
  word : FirstLeftOut ts refusal → FirstBreach ts refusal
  depth : HasNoLeftOut ts → FirstDeep ts refusal → FirstBreach ts refusal

-- the tokens break one of these
pub record HasBreach (ts : List Placed) : Type 0 where
  pub refusal : Refusal
  pub first : FirstBreach ts refusal
