-- Words of Handel-C that this profile leaves out. One among the tokens breaks S3.
use Rattle.std.specs.Prelude.{◌≡◌, ℕ, Bool, true, false, List, [], ◌∷◌, Some, codes}
use Rattle.std.specs.List.{list_any, find, All}
use Rattle.std.specs.Str.{bytes_eq}
use Rattle.hc_tree.specs.declared.place.Place.{Place}
use Rattle.hc_tree.specs.declared.refusal.Rule.TheVariants.{S3}
use Rattle.hc_tree.specs.declared.refusal.Detail.TheVariants.{Name}
use Rattle.hc_tree.specs.declared.refusal.Refusal.{Refusal}
use Rattle.hc_lex.specs.declared.token.Token.{Token}
use Rattle.hc_lex.specs.declared.token.Token.TheVariants.{Word, Number, Text, Mark}
use Rattle.hc_lex.specs.declared.token.Placed.{Placed}

-- the words that are left out
unfoldable pub left_out : List (List ℕ)
left_out =
    codes "assert" ∷ codes "auto" ∷ codes "chanin" ∷ codes "chanout" ∷ codes "char" ∷ codes "const" ∷ codes "continue" ∷ codes "double"
    ∷ codes "enum" ∷ codes "extern" ∷ codes "external_divide" ∷ codes "fifolength" ∷ codes "float" ∷ codes "goto" ∷ codes "inline"
    ∷ codes "internal" ∷ codes "internal_divide" ∷ codes "let" ∷ codes "long" ∷ codes "mpram" ∷ codes "register" ∷ codes "releasesema"
    ∷ codes "reset" ∷ codes "return" ∷ codes "sema" ∷ codes "shared" ∷ codes "short" ∷ codes "sizeof" ∷ codes "struct" ∷ codes "try"
    ∷ codes "trysema" ∷ codes "typedef" ∷ codes "typeof" ∷ codes "undefined" ∷ codes "union" ∷ codes "volatile" ∷ codes "wom" ∷ []

-- a word of that list
unfoldable pub is_left_out_word : List ℕ → Bool
is_left_out_word word = list_any (λ w. bytes_eq w word) left_out

-- a token that is such a word
abbrev pub is_left_out : Token → Bool
is_left_out (Word name) = is_left_out_word name
is_left_out (Number n) = false
is_left_out (Text name) = false
is_left_out (Mark mark) = false

-- the refusal of a token that is such a word
pub record IsLeftOut (t : Placed) (refusal : Refusal) : Type 0 where
  pub name : List ℕ
  pub word : t.token ≡ Word name
  pub left_out : is_left_out_word name ≡ true
  pub refused : refusal ≡ record { rule = S3; place = t.place; detail = Name name }

-- no token is such a word
abbrev pub HasNoLeftOut : List Placed → Type 0
HasNoLeftOut ts = All (λ t. is_left_out t.token ≡ false) ts

-- the first token that is such a word breaks S3, at its place and with its name
pub record FirstLeftOut (ts : List Placed) (refusal : Refusal) : Type 0 where
  pub name : List ℕ
  pub place : Place
  pub first : find (λ t. is_left_out t.token) ts ≡ Some (record { token = Word name; place = place })
  pub refused : refusal ≡ record { rule = S3; place = place; detail = Name name }
