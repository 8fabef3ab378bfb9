-- The tokens of a source in order, and the place behind its last byte.
use Rattle.std.specs.Prelude.{List}
use Rattle.hc_tree.specs.declared.place.Place.{Place}
use Rattle.hc_lex.specs.declared.token.Placed.{Placed}

pub record TokenList : Type 0 where
  pub tokens : List Placed
  pub end : Place
