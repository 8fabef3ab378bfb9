-- A word has word bytes alone, and between the quotes of a text there are plain bytes alone.
use Rattle.std.proofs.Common.{◌≡◌, ◌∙◌, ℕ, zero, suc, ◌+◌, ◌-◌, ◌≤◌, ◌<◌, Bool, true, false, ◌&&◌, cond, IsTrue, List, [], ◌∷◌, length, take, drop, Option, Some, None, arith, refl, subst, ap}
use Rattle.std.specs.Prelude.{◌==◌, slice_index, slice_range}
use Rattle.std.proofs.lemmas.List.{length-take-le}
use Rattle.std.proofs.lemmas.List.Elements.{All-nil, All-cons}
use Rattle.std.proofs.lemmas.Grind.{common_steps}
use Rattle.std.proofs.lemmas.Bool.Decides.{nat_tests}
use Rattle.std.specs.List.{All, list_all, prefix_len}
use Rattle.std.specs.Char.{is_ascii_digit}
use Rattle.hc_lex.specs.Front.{front, is_blank, is_word_byte, is_text_byte, closing, block_comment, text, valued, numbered, of_len, marked}
use Rattle.hc_lex.specs.Lexes.{Lexes, ends, skips, takes, IsPlain, token_of}
use Rattle.hc_lex.specs.Mark.{one, two, three}
use Rattle.hc_lex.specs.declared.mark.Mark.{Mark}
use Rattle.hc_lex.specs.declared.front.Kind.{Kind}
use Rattle.hc_lex.specs.declared.front.Kind.TheVariants as k
use Rattle.hc_lex.specs.declared.front.Front.{Front}
use Rattle.hc_lex.specs.declared.front.Front.TheVariants as f
use Rattle.hc_lex.specs.declared.token.Placed.{Placed}
use Rattle.hc_tree.specs.declared.place.Place.{Place}

list_all-front_by : (p : ℕ → Bool) (b : ℕ) (z : List ℕ) (t : Bool) → p b ≡ t → IsTrue (list_all p (take (prefix_len p z) z)) → IsTrue (list_all p (take (cond t (1 + prefix_len p z) 0) (b ∷ z)))
list_all-front_by p b z true e h = grind (arith, common_steps)
list_all-front_by p b z false e h = refl

list_all-front : (p : ℕ → Bool) (z : List ℕ) → IsTrue (list_all p (take (prefix_len p z) z))
list_all-front p [] = refl
list_all-front p (b ∷ z) = list_all-front_by p b z (p b) refl (list_all-front p z)

take-take_suc : (n : ℕ) (z : List ℕ) → take n (take (suc n) z) ≡ take n z
take-take_suc zero z = refl
take-take_suc (suc n) [] = refl
take-take_suc (suc n) (b ∷ z) = ap (λ y. b ∷ y) (take-take_suc n z)

abbrev inner : List ℕ → List ℕ
inner spelling = slice_range spelling 1 (length spelling - 1)

inner-take : (n : ℕ) (z : List ℕ) → 1 + n + 1 ≤ length z → inner (take (1 + n + 1) z) ≡ take n (drop 1 z)
inner-take n [] h = absurd (omega arith)
inner-take n (b ∷ z) h =
    let two : 1 + n + 1 ≡ suc (suc n) = omega arith in
    let len : length (take (suc n) z) ≡ suc n = length-take-le (suc n) z (omega arith) in
    let one : suc (length (take (suc n) z)) - 1 - 1 ≡ n = omega arith in
    rw two (ap (λ k. take k (take (suc n) z)) one ∙ take-take_suc n z)

text-plain : (z : List ℕ) → 1 + prefix_len is_text_byte (drop 1 z) + 1 ≤ length z → IsTrue (list_all is_text_byte (inner (take (1 + prefix_len is_text_byte (drop 1 z) + 1) z)))
text-plain z h = rw (inner-take (prefix_len is_text_byte (drop 1 z)) z h) (list_all-front is_text_byte (drop 1 z))

-- a word or text at the front has plain bytes
record Plain (x : Front) (z : List ℕ) : Type 0 where
  of_text : (n : ℕ) → x ≡ f.Token k.Text n → IsTrue (list_all is_text_byte (inner (take n z)))
  of_word : (n : ℕ) → x ≡ f.Token k.Word n → IsTrue (list_all is_word_byte (take n z))

choice : (z : List ℕ) (t : Bool) (x y : Front) → (t ≡ true → Plain x z) → (t ≡ false → Plain y z) → Plain (cond t x y) z
choice z true x y a b = a refl
choice z false x y a b = b refl

neither : (z : List ℕ) (x : Front) → ((n : ℕ) → x ≡ f.Token k.Text n → ⊥) → ((n : ℕ) → x ≡ f.Token k.Word n → ⊥) → Plain x z
neither z x h l = record { of_text = λ n e. absurd (h n e); of_word = λ n e. absurd (l n e) }

present : (z : List ℕ) (i : ℕ) → 0 < slice_index z i → i < length z
present z i h = grind (arith, common_steps)

text-front : (z : List ℕ) → Plain (text z) z
unfolding text
text-front z =
    let end = 1 + prefix_len is_text_byte (drop 1 z) in
    choice z (slice_index z end == 34) (f.Token k.Text (end + 1)) f.Bad
    (λ quote. let there : end < length z = present z end (grind (arith, nat_tests, common_steps)) in
    record { of_text = λ n e. let same : end + 1 ≡ n = cc in subst (λ m. IsTrue (list_all is_text_byte (inner (take m z)))) same (text-plain z (omega arith)); of_word = λ n e. absurd (cc) })
    (λ other. neither z f.Bad (λ n e. cc) (λ n e. cc))

word-front : (z : List ℕ) → Plain (f.Token k.Word (prefix_len is_word_byte z)) z
word-front z =
    record { of_text = λ n e. absurd (cc); of_word = λ n e. let same : prefix_len is_word_byte z ≡ n = cc in subst (λ m. IsTrue (list_all is_word_byte (take m z))) same (list_all-front is_word_byte z) }

valued-front : (z : List ℕ) (n : ℕ) (o : Option ℕ) → Plain (valued n o) z
valued-front z n None = neither z _ (λ m e. cc) (λ m e. cc)
valued-front z n (Some v) = neither z _ (λ m e. cc) (λ m e. cc)

closing-front : (z : List ℕ) (o : Option ℕ) → Plain (closing o) z
closing-front z None = neither z _ (λ m e. cc) (λ m e. cc)
closing-front z (Some v) = neither z _ (λ m e. cc) (λ m e. cc)

of_len-front : (z : List ℕ) (n : ℕ) (o : Option Mark) (other : Front) → Plain other z → Plain (of_len n o other) z
of_len-front z n None other h = h
of_len-front z n (Some mark) other h = neither z _ (λ m e. cc) (λ m e. cc)

numbered-front : (z : List ℕ) → Plain (numbered z) z
unfolding numbered
numbered-front z = valued-front z _ _

block-front : (z : List ℕ) → Plain (block_comment z) z
unfolding block_comment
block-front z = closing-front z _

marked-front : (z : List ℕ) → Plain (marked z) z
unfolding marked
marked-front z =
    of_len-front z 3 (three (slice_index z 0) (slice_index z 1) (slice_index z 2)) _
    (of_len-front z 2 (two (slice_index z 0) (slice_index z 1)) _ (of_len-front z 1 (one (slice_index z 0)) f.Bad (neither z f.Bad (λ n e. cc) (λ n e. cc))))

plain-front : (z : List ℕ) → Plain (front z) z
unfolding front
plain-front z =
    choice z (length z == 0) _ _ (λ e. neither z _ (λ n e. cc) (λ n e. cc)) (λ e0.
    choice z (is_blank (slice_index z 0)) _ _ (λ e. neither z _ (λ n e. cc) (λ n e. cc)) (λ e1.
    choice z (is_ascii_digit (slice_index z 0)) _ _ (λ e. numbered-front z) (λ e2.
    choice z (is_word_byte (slice_index z 0)) _ _ (λ e. word-front z) (λ e3.
    choice z (slice_index z 0 == 34) _ _ (λ e. text-front z) (λ e4.
    choice z (slice_index z 0 == 47 && slice_index z 1 == 47) _ _ (λ e. neither z _ (λ n e. cc) (λ n e. cc)) (λ e5.
    choice z (slice_index z 0 == 47 && slice_index z 1 == 42) _ _ (λ e. block-front z) (λ e6. marked-front z)))))))

token-plain : (kind : Kind) (n : ℕ) (bytes : List ℕ) (at : Place) → front bytes ≡ f.Token kind n → IsPlain (record { token = token_of kind (take n bytes); place = at })
token-plain k.Word n bytes at e = (plain-front bytes).of_word n e
token-plain (k.Number v) n bytes at e = refl
token-plain k.Text n bytes at e = (plain-front bytes).of_text n e
token-plain (k.Mark m) n bytes at e = refl

pub tokens-plain : {at : Place} {bytes : List ℕ} {ts : List Placed} {end : Place} → Lexes at bytes ts end → All IsPlain ts
tokens-plain (ends e) = All-nil IsPlain
tokens-plain (skips n e d) = tokens-plain d
tokens-plain {at = at} {bytes = bytes} (takes {ts = ts} kind n e d) =
    All-cons IsPlain (record { token = token_of kind (take n bytes); place = at }) ts (token-plain kind n bytes at e) (tokens-plain d)
