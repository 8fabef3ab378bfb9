-- Lines, one after the other.
use Rattle.std.proofs.Common.{◌≡◌, ◌≢◌, ◌<◌, ◌++◌, ℕ, List, [], ◌∷◌, length, true, false, refl, sym, ◌∙◌, ap, subst, arith, length-append}
use Rattle.std.specs.Prelude.{Option, None, Some, MatchOption}
use Rattle.std.proofs.lemmas.List.{append-nil}
use Rattle.hc_stim.specs.Text.{spaced, line_text, BeginsLine, ended, last, BeginsLines, StimText, IsBadLine, AreWidths}
use Rattle.hc_stim.specs.Reading.{HasNoDigit, field, fields, AreFields, EndsFields, ReadsFields, HasNoFields, ReadsLine, HasNoLine, EndsLine, feed, finish, HasNoEnd}
use Rattle.hc_stim.proofs.Fields.{one_fields}

spaced_is : (numbers : List ℕ) → spaced numbers ≡ fields false numbers
spaced_is [] = refl
spaced_is (n ∷ others) = ap (λ t. field false n ++ t) (spaced_is others)

line_is : (values : List ℕ) → line_text values ≡ fields true values
line_is [] = refl
line_is (n ∷ others) = ap (λ t. field true n ++ t) (spaced_is others)

record IsLine (widths bytes values rest : List ℕ) : Type 0 where
  tail : List ℕ
  fields : AreFields widths bytes values tail
  no_digit : HasNoDigit tail
  behind : EndsLine tail rest

line_of : (widths bytes values rest : List ℕ) → BeginsLine widths bytes values rest → IsLine widths bytes values rest
line_of widths bytes values rest (ended inputs is) = record {
  tail = 10 ∷ rest;
  fields = record { text = is ∙ ap (λ t. t ++ 10 ∷ rest) (line_is values); inputs = inputs };
  no_digit = λ low high. omega arith;
  behind = feed refl;
}
line_of widths bytes values rest (last inputs is some end) = record {
  tail = [];
  fields = record { text = is ∙ line_is values ∙ sym (append-nil (fields true values)); inputs = inputs };
  no_digit = tt;
  behind = finish refl end;
}

same_rest : (tail rest other : List ℕ) → EndsLine tail rest → EndsLine tail other → rest ≡ other
same_rest tail rest other (feed a) (feed b) = cc
same_rest tail rest other (feed a) (finish b c) = absurd cc
same_rest tail rest other (finish a d) (feed b) = absurd cc
same_rest tail rest other (finish a d) (finish b c) = cc

ends_line : (values rest : List ℕ) → HasNoDigit rest → EndsFields values rest
ends_line [] rest none = tt
ends_line (n ∷ others) rest none = none

-- a text begins with one line at most
one_line : (widths bytes values other rest behind : List ℕ) → AreWidths widths → BeginsLine widths bytes values rest → BeginsLine widths bytes other behind → (values ≡ other) × (rest ≡ behind)
one_line widths bytes values other rest behind w a b =
    let p = line_of widths bytes values rest a in
    let q = line_of widths bytes other behind b in
    let h = one_fields widths bytes values other p.tail q.tail w p.fields q.fields (ends_line values p.tail p.no_digit) q.no_digit in
    (h.0, same_rest q.tail rest behind (subst (λ t. EndsLine t rest) h.1 p.behind) q.behind)

no_line : (widths values rest : List ℕ) → BeginsLine widths [] values rest → ⊥
no_line widths values rest (ended inputs is) = omega (arith, ap length is, length-append (line_text values) (10 ∷ rest))
no_line widths values rest (last inputs is some end) = some refl

pub shorter_behind : (widths bytes values rest : List ℕ) → BeginsLine widths bytes values rest → length rest < length bytes
shorter_behind widths bytes values rest (ended inputs is) = omega (arith, ap length is, length-append (line_text values) (10 ∷ rest))
shorter_behind widths [] values rest (last inputs is some end) = absurd (some refl)
shorter_behind widths (b ∷ bytes) values rest (last inputs is some end) = omega (arith, ap length end)

-- ---- The line behind the numbers

read_to : (widths bytes old new tail rest : List ℕ) → bytes ≢ [] → ReadsFields widths bytes old new tail → EndsLine tail rest → ReadsLine widths bytes old new rest
read_to widths bytes old new tail rest some h (feed is) = record {
  values = h.values;
  added = h.added;
  line = ended h.fields.inputs (h.fields.text ∙ ap (λ t. fields true h.values ++ t) is ∙ ap (λ t. t ++ 10 ∷ rest) (sym (line_is h.values)));
}
read_to widths bytes old new tail rest some h (finish is end) = record {
  values = h.values;
  added = h.added;
  line = last h.fields.inputs (h.fields.text ∙ ap (λ t. fields true h.values ++ t) is ∙ append-nil (fields true h.values) ∙ sym (line_is h.values)) some end;
}

no_line_at : (widths bytes old new tail : List ℕ) → AreWidths widths → ReadsFields widths bytes old new tail → HasNoEnd tail → HasNoLine widths bytes
no_line_at widths bytes old new tail w h missing values behind line =
    let p = line_of widths bytes values behind line in
    let q = one_fields widths bytes h.values values tail p.tail w h.fields p.fields h.ends p.no_digit in
    missing behind (subst (λ t. EndsLine t behind) (sym q.1) p.behind)

-- whether a line was read, by what stands behind its numbers
pub line_or_none : {R : Type 0} (now : R → List ℕ) (found : Option R) (widths bytes old new tail : List ℕ) → AreWidths widths → bytes ≢ [] → ReadsFields widths bytes old new tail
    → MatchOption found (HasNoEnd tail) (λ r. EndsLine tail (now r)) → MatchOption found (HasNoLine widths bytes) (λ r. ReadsLine widths bytes old new (now r))
line_or_none now None widths bytes old new tail w some h missing = no_line_at widths bytes old new tail w h missing
line_or_none now (Some r) widths bytes old new tail w some h end = read_to widths bytes old new tail (now r) some h end

pub no_line_without : (widths bytes : List ℕ) → HasNoFields widths bytes → HasNoLine widths bytes
no_line_without widths bytes missing values behind line = let p = line_of widths bytes values behind line in missing values p.tail p.no_digit p.fields

-- ---- Lines one after the other

pub lines_more : (widths bytes : List ℕ) (lines : List (List ℕ)) (rest values behind : List ℕ) → BeginsLines widths bytes lines rest → BeginsLine widths rest values behind
    → BeginsLines widths bytes (lines ++ values ∷ []) behind
lines_more widths bytes [] rest values behind h line = (behind, (subst (λ t. BeginsLine widths t values behind) h line, refl))
lines_more widths bytes (first ∷ others) rest values behind h line = (h.0, (h.1.0, lines_more widths h.0 others rest values behind h.1.1 line))

pub one_text : (widths : List ℕ) → AreWidths widths → (bytes : List ℕ) (lines others : List (List ℕ)) → StimText bytes widths lines → StimText bytes widths others → lines ≡ others
one_text widths w bytes [] [] a b = refl
one_text widths w bytes [] (v ∷ others) a b = absurd (no_line widths v b.0 (subst (λ t. BeginsLine widths t v b.0) (sym a) b.1.0))
one_text widths w bytes (v ∷ lines) [] a b = absurd (no_line widths v a.0 (subst (λ t. BeginsLine widths t v a.0) (sym b) a.1.0))
one_text widths w bytes (v ∷ lines) (u ∷ others) a b =
    let h = one_line widths bytes v u a.0 b.0 w a.1.0 b.1.0 in
    let tail = one_text widths w b.0 lines others (subst (λ t. BeginsLines widths t lines []) h.1 a.1.1) b.1.1 in
    let head = h.0 in cc

text_or_bad : (widths : List ℕ) → AreWidths widths → (bytes : List ℕ) (lines front : List (List ℕ)) (rest : List ℕ) → StimText bytes widths lines
    → BeginsLines widths bytes front rest → rest ≢ [] → HasNoLine widths rest → ⊥
text_or_bad widths w bytes [] [] rest a b some missing = some (b ∙ sym a)
text_or_bad widths w bytes [] (u ∷ front) rest a b some missing = no_line widths u b.0 (subst (λ t. BeginsLine widths t u b.0) (sym a) b.1.0)
text_or_bad widths w bytes (v ∷ lines) [] rest a b some missing = missing v a.0 (subst (λ t. BeginsLine widths t v a.0) (sym b) a.1.0)
text_or_bad widths w bytes (v ∷ lines) (u ∷ front) rest a b some missing =
    let h = one_line widths bytes v u a.0 b.0 w a.1.0 b.1.0 in
    text_or_bad widths w b.0 lines front rest (subst (λ t. BeginsLines widths t lines []) h.1 a.1.1) b.1.1 some missing

pub text_and_bad : (widths bytes : List ℕ) (lines : List (List ℕ)) (n : ℕ) → AreWidths widths → StimText bytes widths lines → IsBadLine bytes widths n → ⊥
text_and_bad widths bytes lines n w a b = text_or_bad widths w bytes lines b.lines b.rest a b.front b.more b.broken

one_front : (widths : List ℕ) → AreWidths widths → (bytes : List ℕ) (lines others : List (List ℕ)) (rest behind : List ℕ) → BeginsLines widths bytes lines rest
    → BeginsLines widths bytes others behind → HasNoLine widths rest → HasNoLine widths behind → length lines ≡ length others
one_front widths w bytes [] [] rest behind a b p q = refl
one_front widths w bytes [] (u ∷ others) rest behind a b p q = absurd (p u b.0 (subst (λ t. BeginsLine widths t u b.0) (sym a) b.1.0))
one_front widths w bytes (v ∷ lines) [] rest behind a b p q = absurd (q v a.0 (subst (λ t. BeginsLine widths t v a.0) (sym b) a.1.0))
one_front widths w bytes (v ∷ lines) (u ∷ others) rest behind a b p q =
    let h = one_line widths bytes v u a.0 b.0 w a.1.0 b.1.0 in
    let tail = one_front widths w b.0 lines others rest behind (subst (λ t. BeginsLines widths t lines rest) h.1 a.1.1) b.1.1 p q in omega arith

pub one_bad : (widths bytes : List ℕ) (n m : ℕ) → AreWidths widths → IsBadLine bytes widths n → IsBadLine bytes widths m → n ≡ m
one_bad widths bytes n m w a b =
    let same = one_front widths w bytes a.lines b.lines a.rest b.rest a.front b.front a.broken b.broken in
    let x = a.number in
    let y = b.number in omega arith
