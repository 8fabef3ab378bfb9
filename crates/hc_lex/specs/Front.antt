-- What stands at the front of a text. The rules are this project's profile of Handel-C.
use Rattle.std.specs.Prelude.{ℕ, ◌≤◌, ◌+◌, Bool, not, ◌&&◌, ◌||◌, ◌==◌, nat_le, if◌then◌else◌, List, [], ◌∷◌, length, take, drop, slice_index, Option, Some, None, option_map}
use Rattle.std.specs.Char.{is_ascii_digit, is_ascii_alphanumeric}
use Rattle.std.specs.List.{prefix_len}
use Rattle.hc_lex.specs.Mark.{one, two, three}
use Rattle.hc_lex.specs.Number.{number}
use Rattle.hc_lex.specs.declared.front.Kind.{Kind}
use Rattle.hc_lex.specs.declared.front.Kind.TheVariants.{Word, Number, Text, Mark}
use Rattle.hc_lex.specs.declared.front.Front.{Front}
use Rattle.hc_lex.specs.declared.front.Front.TheVariants.{End, Skip, Token, Bad}
use Rattle.hc_lex.specs.declared.mark.Mark as m

-- space, tab, line feed, vertical tab, form feed and carriage return
abbrev pub is_blank : ℕ → Bool
is_blank b = b == 32 || (nat_le 9 b && nat_le b 13)

-- a letter, a digit or `_`
abbrev pub is_word_byte : ℕ → Bool
is_word_byte b = is_ascii_alphanumeric b || b == 95

-- a byte that a text can hold: from 32 to 126, without `"`, `\` and `%`
abbrev pub is_text_byte : ℕ → Bool
is_text_byte b = nat_le 32 b && nat_le b 126 && not (b == 34) && not (b == 92) && not (b == 37)

-- a byte that isn't a line feed
abbrev pub is_in_line : ℕ → Bool
is_in_line b = not (b == 10)

-- how many bytes stand up to the next `*/` and with it, if there is one
abbrev pub closed : List ℕ → Option ℕ
closed [] = None
closed (b ∷ bytes) = if b == 42 && slice_index bytes 0 == 47 then Some 2 else option_map (λ n. n + 1) (closed bytes)

-- from `/*` on: a comment up to the next `*/` behind these two bytes
abbrev pub closing : Option ℕ → Front
closing None = Bad
closing (Some n) = Skip (n + 2)

unfoldable pub block_comment : List ℕ → Front
block_comment bytes = closing (closed (drop 2 bytes))

-- from a quote on: a text up to the next quote
unfoldable pub text : List ℕ → Front
text bytes = let end = 1 + prefix_len is_text_byte (drop 1 bytes) in if slice_index bytes end == 34 then Token Text (end + 1) else Bad

-- from a digit on: a number is the whole run of letters, digits and `_`
abbrev pub valued : ℕ → Option ℕ → Front
valued len None = Bad
valued len (Some n) = Token (Number n) len

unfoldable pub numbered : List ℕ → Front
numbered bytes = let len = prefix_len is_word_byte bytes in valued len (number (take len bytes))

-- the longest mark
abbrev pub of_len : ℕ → Option m.Mark → Front → Front
of_len n None other = other
of_len n (Some mark) other = Token (Mark mark) n

unfoldable pub marked : List ℕ → Front
marked bytes =
    let b = slice_index bytes 0 in
    let c = slice_index bytes 1 in
    let d = slice_index bytes 2 in
    of_len 3 (three b c d) (of_len 2 (two b c) (of_len 1 (one b) Bad))

-- What stands at the front: the end, a blank or comment of so many bytes, a token of so many bytes, or a byte with
-- which no token begins.
unfoldable pub front : List ℕ → Front
front bytes =
    let b = slice_index bytes 0 in
    let next = slice_index bytes 1 in
    if length bytes == 0 then End
    else (if is_blank b then Skip 1
    else (if is_ascii_digit b then numbered bytes
    else (if is_word_byte b then Token Word (prefix_len is_word_byte bytes)
    else (if b == 34 then text bytes
    else (if b == 47 && next == 47 then Skip (prefix_len is_in_line bytes)
    else (if b == 47 && next == 42 then block_comment bytes
    else marked bytes))))))

-- what stands at the front has at least one byte, a text two, and no more than there are
abbrev pub least : Kind → ℕ
least Word = 1
least (Number n) = 1
least Text = 2
least (Mark mark) = 1

abbrev pub IsWithin : Front → List ℕ → Type 0
IsWithin End bytes = Unit
IsWithin (Skip n) bytes = (1 ≤ n) × (n ≤ length bytes)
IsWithin (Token k n) bytes = (least k ≤ n) × (n ≤ length bytes)
IsWithin Bad bytes = Unit
