-- Bytes and their tokens.
use Rattle.std.specs.Prelude.{ℕ, ◌≡◌, ◌≤◌, ◌+◌, ◌-◌, Bool, true, nat_le, if◌then◌else◌, IsTrue, List, [], ◌∷◌, length, take, drop, slice_range, Option, Some, None}
use Rattle.std.specs.List.{All, list_all}
use Rattle.hc_tree.specs.declared.place.Place.{Place}
use Rattle.hc_tree.specs.declared.refusal.Rule.{Rule}
use Rattle.hc_tree.specs.declared.refusal.Rule.TheVariants.{S1, L1, L2}
use Rattle.hc_tree.specs.declared.refusal.Detail.TheVariants.{Nothing}
use Rattle.hc_tree.specs.declared.refusal.FrontErr.{FrontErr}
use Rattle.hc_tree.specs.declared.refusal.FrontErr.TheVariants.{Refused, NoMemory}
use Rattle.hc_lex.specs.Front.{front, is_word_byte, is_text_byte}
use Rattle.hc_lex.specs.Place.{place_behind}
use Rattle.hc_lex.specs.declared.front.Kind.{Kind}
use Rattle.hc_lex.specs.declared.front.Kind.TheVariants as k
use Rattle.hc_lex.specs.declared.front.Front.TheVariants as f
use Rattle.hc_lex.specs.declared.token.Token.{Token}
use Rattle.hc_lex.specs.declared.token.Token.TheVariants.{Word, Number, Text, Mark}
use Rattle.hc_lex.specs.declared.token.Placed.{Placed}

-- the token of a kind that has these bytes; a text is what stands between its quotes
abbrev pub token_of : Kind → List ℕ → Token
token_of k.Word bytes = Word bytes
token_of (k.Number n) bytes = Number n
token_of k.Text bytes = Text (slice_range bytes 1 (length bytes - 1))
token_of (k.Mark mark) bytes = Mark mark

-- Bytes that begin at a place are these tokens, and end at that place. What stands at the front is taken first: a blank
-- or a comment, or else the longest token.
pub data Lexes : Place → List ℕ → List Placed → Place → Type 0 where
  ends : {at : Place} {bytes : List ℕ} → front bytes ≡ f.End → Lexes at bytes [] at
  skips : {at : Place} {bytes : List ℕ} {ts : List Placed} {end : Place} (n : ℕ) → front bytes ≡ f.Skip n
      → Lexes (place_behind at (take n bytes)) (drop n bytes) ts end → Lexes at bytes ts end
  takes : {at : Place} {bytes : List ℕ} {ts : List Placed} {end : Place} (kind : Kind) (n : ℕ) → front bytes ≡ f.Token kind n
      → Lexes (place_behind at (take n bytes)) (drop n bytes) ts end
      → Lexes at bytes (record { token = token_of kind (take n bytes); place = at } ∷ ts) end

-- words and texts have at most 255 bytes
abbrev pub is_short : Token → Bool
is_short (Word name) = nat_le (length name) 255
is_short (Number n) = true
is_short (Text name) = nat_le (length name) 255
is_short (Mark mark) = true

abbrev pub IsShort : Placed → Type 0
IsShort t = IsTrue (is_short t.token)

-- a word has letters, digits and `_` alone, and between the quotes of a text there are plain bytes alone
abbrev pub is_plain : Token → Bool
is_plain (Word name) = list_all is_word_byte name
is_plain (Number n) = true
is_plain (Text bytes) = list_all is_text_byte bytes
is_plain (Mark mark) = true

abbrev pub IsPlain : Placed → Type 0
IsPlain t = IsTrue (is_plain t.token)

-- the limit that a token passes where so many tokens stand before it
abbrev pub passed : ℕ → Token → Option Rule
passed before t = if is_short t then (if nat_le 1000000 before then Some L2 else None) else Some L1

-- Bytes that begin at a place behind so many tokens break a rule or a limit, and this one at this place first.
pub data Stops : ℕ → Place → List ℕ → Rule → Place → Type 0 where
  breaks : {before : ℕ} {at : Place} {bytes : List ℕ} → front bytes ≡ f.Bad → Stops before at bytes S1 at
  passes : {before : ℕ} {at : Place} {bytes : List ℕ} {rule : Rule} (kind : Kind) (n : ℕ) → front bytes ≡ f.Token kind n
      → passed before (token_of kind (take n bytes)) ≡ Some rule → Stops before at bytes rule at
  after_skip : {before : ℕ} {at : Place} {bytes : List ℕ} {rule : Rule} {place : Place} (n : ℕ) → front bytes ≡ f.Skip n
      → Stops before (place_behind at (take n bytes)) (drop n bytes) rule place → Stops before at bytes rule place
  after_token : {before : ℕ} {at : Place} {bytes : List ℕ} {rule : Rule} {place : Place} (kind : Kind) (n : ℕ) → front bytes ≡ f.Token kind n
      → passed before (token_of kind (take n bytes)) ≡ None
      → Stops (before + 1) (place_behind at (take n bytes)) (drop n bytes) rule place → Stops before at bytes rule place

-- bytes that begin at a place behind so many tokens have tokens within the limits
pub record HasTokens (before : ℕ) (at : Place) (bytes : List ℕ) : Type 0 where
  pub tokens : List Placed
  pub end : Place
  pub reads : Lexes at bytes tokens end
  pub short : All IsShort tokens
  pub few : before + length tokens ≤ 1000000

-- bytes that begin at a place behind so many tokens break a rule or a limit
pub record HasBreach (before : ℕ) (at : Place) (bytes : List ℕ) : Type 0 where
  pub rule : Rule
  pub place : Place
  pub stops : Stops before at bytes rule place

-- an error is want of memory, or a refusal with a rule and a place of which this holds and nothing more to say
abbrev pub IfRefused : FrontErr → (Rule → Place → Type 0) → Type 0
IfRefused (Refused r) holds = holds r.rule r.place × (r.detail ≡ Nothing)
IfRefused NoMemory holds = Unit
