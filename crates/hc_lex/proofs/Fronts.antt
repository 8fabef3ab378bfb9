-- What stands at the front has bytes, and no more than there are.
use Rattle.std.proofs.Common.{◌≡◌, ℕ, ◌+◌, ◌-◌, ◌≤◌, ◌<◌, Bool, true, false, ◌&&◌, List, [], ◌∷◌, length, drop, Option, Some, None, refl, cond, arith, subst}
use Rattle.std.specs.Prelude.{◌==◌, slice_index, option_map}
use Rattle.std.specs.List.{prefix_len}
use Rattle.std.specs.Char.{is_ascii_digit}
use Rattle.std.proofs.lemmas.List.Sums.{prefix_len-le-length}
use Rattle.std.proofs.lemmas.List.{length-drop}
use Rattle.std.proofs.lemmas.Grind.{common_steps}
use Rattle.std.proofs.lemmas.Bool.Decides.{nat_tests}
use Rattle.hc_lex.specs.Front.{front, is_blank, is_word_byte, is_text_byte, is_in_line, closed, closing, block_comment, text, valued, numbered, of_len, marked, IsWithin}
use Rattle.hc_lex.specs.Mark.{one, two, three, doubled}
use Rattle.hc_lex.specs.declared.mark.Mark.{Mark}
use Rattle.hc_lex.specs.declared.front.Kind.TheVariants as k
use Rattle.hc_lex.specs.declared.front.Front.{Front}
use Rattle.hc_lex.specs.declared.front.Front.TheVariants as f

record Within (x : Front) (z : List ℕ) : Type 0 where
  holds : IsWithin x z

choice : (z : List ℕ) (t : Bool) (x y : Front) → (t ≡ true → Within x z) → (t ≡ false → Within y z) → Within (cond t x y) z
choice z true x y a b = a refl
choice z false x y a b = b refl

present : (z : List ℕ) (i : ℕ) → 0 < slice_index z i → i < length z
present z i h = grind (arith, common_steps)

prefix-some : (p : ℕ → Bool) (z : List ℕ) → 0 < length z → p (slice_index z 0) ≡ true → 1 ≤ prefix_len p z
prefix-some p [] h e = absurd (omega arith)
prefix-some p (b ∷ z) h e = rw e (omega arith)

valued-within : (z : List ℕ) (n : ℕ) (o : Option ℕ) → 1 ≤ n → n ≤ length z → Within (valued n o) z
valued-within z n None a b = record { holds = tt }
valued-within z n (Some v) a b = record { holds = (a, b) }

abbrev pub AtMost : Option ℕ → ℕ → Type 0
AtMost None n = Unit
AtMost (Some m) n = m ≤ n

closed-by : (b : ℕ) (z : List ℕ) (t : Bool) (o : Option ℕ) → (b == 42 && slice_index z 0 == 47) ≡ t → AtMost o (length z) → AtMost (cond t (Some 2) (option_map (λ n. n + 1) o)) (length (b ∷ z))
closed-by b z true o e h = let there : 0 < length z = present z 0 (grind (arith, nat_tests, common_steps)) in omega arith
closed-by b z false None e h = tt
closed-by b z false (Some m) e h = omega arith

closed-within : (z : List ℕ) → AtMost (closed z) (length z)
closed-within [] = tt
closed-within (b ∷ z) = closed-by b z (b == 42 && slice_index z 0 == 47) (closed z) refl (closed-within z)

closing-within : (z : List ℕ) (o : Option ℕ) → 2 ≤ length z → AtMost o (length z - 2) → Within (closing o) z
closing-within z None h a = record { holds = tt }
closing-within z (Some n) h a = record { holds = (omega arith, omega arith) }

block-within : (z : List ℕ) → 2 ≤ length z → Within (block_comment z) z
unfolding block_comment
block-within z h = closing-within z (closed (drop 2 z)) h (subst (λ n. AtMost (closed (drop 2 z)) n) (length-drop 2 z) (closed-within (drop 2 z)))

text-within : (z : List ℕ) → 0 < length z → Within (text z) z
unfolding text
text-within z h =
    let end = 1 + prefix_len is_text_byte (drop 1 z) in
    choice z (slice_index z end == 34) (f.Token k.Text (end + 1)) f.Bad
    (λ e. let there : end < length z = present z end (grind (arith, nat_tests, common_steps)) in record { holds = (omega arith, omega arith) }) (λ e. record { holds = tt })

numbered-within : (z : List ℕ) → 0 < length z → is_word_byte (slice_index z 0) ≡ true → Within (numbered z) z
unfolding numbered
numbered-within z h e = valued-within z _ _ (prefix-some is_word_byte z h e) (prefix_len-le-length is_word_byte z)

three-byte : (b c d : ℕ) (m : Mark) → three b c d ≡ Some m → 0 < d
unfolding three
three-byte b c d m e = grind (arith, nat_tests, common_steps)

doubled-byte : (b : ℕ) (m : Mark) → doubled b ≡ Some m → 0 < b
unfolding doubled
doubled-byte b m e = grind (arith, nat_tests, common_steps)

two-byte : (b c : ℕ) (m : Mark) → two b c ≡ Some m → 0 < c
unfolding two
two-byte b c m e = grind (arith, nat_tests, common_steps, doubled-byte b m)

of_len-within : (z : List ℕ) (n : ℕ) (o : Option Mark) (other : Front) → 1 ≤ n → ((m : Mark) → o ≡ Some m → n ≤ length z) → Within other z → Within (of_len n o other) z
of_len-within z n None other some h rest = rest
of_len-within z n (Some m) other some h rest = record { holds = (some, h m refl) }

marked-within : (z : List ℕ) → 0 < length z → Within (marked z) z
unfolding marked
marked-within z h =
    let b = slice_index z 0 in
    let c = slice_index z 1 in
    let d = slice_index z 2 in
    of_len-within z 3 (three b c d) (of_len 2 (two b c) (of_len 1 (one b) f.Bad)) (omega arith) (λ m e. let there : 2 < length z = present z 2 (three-byte b c d m e) in omega arith)
    (of_len-within z 2 (two b c) (of_len 1 (one b) f.Bad) (omega arith) (λ m e. let there : 1 < length z = present z 1 (two-byte b c m e) in omega arith)
    (of_len-within z 1 (one b) f.Bad (omega arith) (λ m e. omega arith) (record { holds = tt })))

digit-is_word : (b : ℕ) → is_ascii_digit b ≡ true → is_word_byte b ≡ true
digit-is_word b e = grind (arith, nat_tests, common_steps)

in_line : (b c : ℕ) → (b == 47 && c == 47) ≡ true → is_in_line b ≡ true
in_line b c e = grind (arith, nat_tests, common_steps)

star : (b c : ℕ) → (b == 47 && c == 42) ≡ true → 0 < c
star b c e = grind (arith, nat_tests, common_steps)

some : (z : List ℕ) → (length z == 0) ≡ false → 0 < length z
some z e = grind (arith, nat_tests)

within : (z : List ℕ) → Within (front z) z
unfolding front
within z = choice z (length z == 0) _ _ (λ e. record { holds = tt }) (λ e0.
    let h : 0 < length z = some z e0 in
    choice z (is_blank (slice_index z 0)) _ _ (λ e. record { holds = (omega arith, omega arith) }) (λ e1.
    choice z (is_ascii_digit (slice_index z 0)) _ _ (λ digit. numbered-within z h (digit-is_word (slice_index z 0) digit)) (λ e2.
    choice z (is_word_byte (slice_index z 0)) _ _ (λ word. record { holds = (prefix-some is_word_byte z h word, prefix_len-le-length is_word_byte z) }) (λ e3.
    choice z (slice_index z 0 == 34) _ _ (λ e. text-within z h) (λ e4.
    choice z (slice_index z 0 == 47 && slice_index z 1 == 47) _ _ (λ e. record { holds = (prefix-some is_in_line z h (in_line (slice_index z 0) (slice_index z 1) e), prefix_len-le-length is_in_line z) }) (λ e5.
    choice z (slice_index z 0 == 47 && slice_index z 1 == 42) _ _ (λ e. let there : 1 < length z = present z 1 (star (slice_index z 0) (slice_index z 1) e) in block-within z (omega arith)) (λ e6. marked-within z h)))))))

pub front-within : (z : List ℕ) → IsWithin (front z) z
front-within z = (within z).holds

pub front-end : (z : List ℕ) → length z ≡ 0 → front z ≡ f.End
unfolding front
front-end z h = grind (arith, nat_tests, common_steps)
