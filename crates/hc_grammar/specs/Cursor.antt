-- A cursor over the tokens of a source.
use Rattle.std.specs.Prelude.{◌≡◌, ◌≢◌, List, [], ◌∷◌, Some, Result, Ok, Err, option_map}
use Rattle.hc_tree.specs.declared.place.Place.{Place}
use Rattle.hc_lex.specs.declared.token.Placed.{Placed}
use Rattle.hc_grammar.specs.declared.kind.Kind.{Kind}
use Rattle.hc_grammar.specs.declared.halt.Halt.{Halt}
use Rattle.hc_grammar.specs.declared.halt.Halt.TheVariants.{Refused, NoMemory}
use Rattle.hc_grammar.specs.Kind.{kind}
use Rattle.hc_grammar.specs.Table.{front}

-- the tokens that are left, and the place of the end
pub record Ahead : Type 0 where
  pub rest : List Placed
  pub end : Place

abbrev pub place_before : Place → List Placed → Place
place_before end [] = end
place_before end (t ∷ rest) = t.place

-- the place of the next token, or of the end
abbrev pub place_at : Ahead → Place
place_at c = place_before c.end c.rest

-- the next token was of this kind and is taken, or it isn't and the cursor stands before it
abbrev pub MarkRead : Kind → Ahead → Ahead → Result (Unit {0}) Halt → Type 0
MarkRead k old new (Ok u) = (t : Placed) × (old.rest ≡ t ∷ new.rest) × (kind t ≡ k) × (new.end ≡ old.end)
MarkRead k old new (Err (Refused last)) = (new ≡ old) × (option_map kind (front old.rest) ≢ Some k)
MarkRead k old new (Err NoMemory) = ⊥
