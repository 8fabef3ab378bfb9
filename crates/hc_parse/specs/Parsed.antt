-- The tree of a source, or what the source breaks first.
use Rattle.std.specs.Prelude.{◌≡◌, ℕ, List, drop, Result, Ok, Err}
use Rattle.hc_tree.specs.declared.place.Place.{Place}
use Rattle.hc_tree.specs.declared.refusal.Rule.TheVariants.{S2}
use Rattle.hc_tree.specs.declared.refusal.Detail.TheVariants.{Nothing}
use Rattle.hc_tree.specs.declared.refusal.Refusal.{Refusal}
use Rattle.hc_tree.specs.declared.refusal.FrontErr.{FrontErr}
use Rattle.hc_tree.specs.declared.refusal.FrontErr.TheVariants.{Refused, NoMemory}
use Rattle.hc_tree.specs.declared.item.Tree.{Tree}
use Rattle.hc_lex.specs.declared.token.Placed.{Placed}
use Rattle.hc_grammar.specs.Table.{Spells, IsStop}
use Rattle.hc_grammar.specs.Form as f
use Rattle.hc_grammar.specs.Grammar.{grammar}
use Rattle.hc_grammar.specs.Nesting.{IsShallow, FirstDeep}
use Rattle.hc_grammar.specs.Cursor.{place_before}
use Rattle.hc_parse.specs.LeftOut.{HasNoLeftOut, FirstLeftOut}

-- A tree spells the tokens, of which none is left out or too deep.
pub record Parses (ts : List Placed) (tree : Tree) : Type 0 where
  pub words : HasNoLeftOut ts
  pub shallow : IsShallow ts
  pub spells : Spells grammar f.program tree ts

-- No tree spells the tokens. The refusal names the place of the first token with which the tokens so far begin no list
-- that a tree spells, or that of the end.
pub record Unspelled (ts : List Placed) (end : Place) (refusal : Refusal) : Type 0 where
  pub no_tree : (tree : Tree) → ¬ Spells grammar f.program tree ts
  pub k : ℕ
  pub stop : IsStop grammar f.program ts k
  pub refused : refusal ≡ record { rule = S2; place = place_before end (drop k ts); detail = Nothing }

-- The tokens break a rule, and this refusal comes first: a word that is left out, then the nesting, then the grammar.
pub data FirstRefusal (ts : List Placed) (end : Place) (refusal : Refusal) : Type 0 where
  of_word : FirstLeftOut ts refusal → FirstRefusal ts end refusal
  of_nesting : HasNoLeftOut ts → FirstDeep ts refusal → FirstRefusal ts end refusal
  of_grammar : HasNoLeftOut ts → IsShallow ts → Unspelled ts end refusal → FirstRefusal ts end refusal

-- the tokens have a tree
pub record HasTree (ts : List Placed) : Type 0 where
  pub tree : Tree
  pub parses : Parses ts tree

-- the tokens have a first refusal
pub record HasFirst (ts : List Placed) (end : Place) : Type 0 where
  pub refusal : Refusal
  pub first : FirstRefusal ts end refusal

-- a result is this tree, or want of memory
abbrev pub IsTree : Tree → Result Tree FrontErr → Type 0
IsTree tree (Ok found) = found ≡ tree
IsTree tree (Err (Refused r)) = ⊥
IsTree tree (Err NoMemory) = Unit {0}
