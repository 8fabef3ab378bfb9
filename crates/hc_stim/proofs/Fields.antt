-- The numbers of a line, one after the other.
use Rattle.std.proofs.Common.{◌≡◌, ◌≤◌, ◌<◌, ◌+◌, ◌^◌, ◌++◌, ◌==◌, ℕ, suc, Bool, true, false, List, [], ◌∷◌, length, get_or, refl, sym, ◌∙◌, ap, subst, arith, append_assoc, length-append, below_more}
use borrow.Author.Tests.{ne_eqb}
use Rattle.std.specs.Prelude.{Option, None, Some, MatchOption, decimal}
use Rattle.std.proofs.lemmas.List.{append-nil, get_or_append_left, get_or_at}
use Rattle.std.proofs.Math.Nat.{pow-le-pow_right}
use Rattle.hc_stim.specs.Bench.{AreInputs}
use Rattle.hc_stim.specs.Text.{AreWidths}
use Rattle.hc_stim.specs.Reading.{IsNumber, HasNoNumber, IsBehindSpace, HasNoSpace, HasNoDigit, field, fields, IsField, HasNoField, AreFields, EndsFields, ReadsFields, HasNoFields}
use Rattle.hc_stim.proofs.Decimals.{one_number}

-- each number of a list is below 2^128
pub AreSmall : List ℕ → Type 0
AreSmall numbers = (k : ℕ) → k < length numbers → get_or numbers k 0 < 2 ^ 128

-- whether the number behind these is the first
abbrev pub at : Bool → List ℕ → Bool
at first [] = first
at first (n ∷ others) = false

at_later : (numbers : List ℕ) → at false numbers ≡ false
at_later [] = refl
at_later (n ∷ others) = refl

one_field : (first : Bool) (v u : ℕ) (a b : List ℕ) → v < 2 ^ 128 → u < 2 ^ 128 → HasNoDigit a → HasNoDigit b → field first v ++ a ≡ field first u ++ b → (v ≡ u) × (a ≡ b)
one_field true v u a b p q f g same = one_number v u a b p q f g same
one_field false v u a b p q f g same = one_number v u a b p q f g (cc)

no_digit_behind : (others rest : List ℕ) → HasNoDigit rest → HasNoDigit (fields false others ++ rest)
no_digit_behind [] rest none = none
no_digit_behind (n ∷ others) rest none = λ low high. omega arith

ends_behind : (others rest : List ℕ) → HasNoDigit rest → EndsFields others rest
ends_behind [] rest none = tt
ends_behind (n ∷ others) rest none = none

-- numbers that stand in front are the first of all that stand there
pub record IsFront (first : Bool) (line other rest behind : List ℕ) : Type 0 where
  pub more : List ℕ
  pub numbers : other ≡ line ++ more
  pub text : rest ≡ fields (at first line) more ++ behind

pub fields_front : (first : Bool) (line other rest behind : List ℕ) → AreSmall line → AreSmall other → length line ≤ length other → EndsFields line rest → HasNoDigit behind
    → fields first line ++ rest ≡ fields first other ++ behind → IsFront first line other rest behind
unfolding AreSmall
fields_front first [] other rest behind p q few ends none same = record { more = other; numbers = refl; text = same }
fields_front first (v ∷ vs) [] rest behind p q few ends none same = absurd (omega arith)
fields_front first (v ∷ vs) (u ∷ us) rest behind p q few ends none same =
    let is : field first v ++ (fields false vs ++ rest) ≡ field first u ++ (fields false us ++ behind) =
    sym (append_assoc (field first v) (fields false vs) rest) ∙ same ∙ append_assoc (field first u) (fields false us) behind in
    let one = one_field first v u (fields false vs ++ rest) (fields false us ++ behind) (p 0 (omega arith)) (q 0 (omega arith))
    (no_digit_behind vs rest ends) (no_digit_behind us behind none) is in
    let h = fields_front false vs us rest behind (λ k l. p (suc k) (omega arith)) (λ k l. q (suc k) (omega arith)) (omega arith) (ends_behind vs rest ends) none one.1 in
    record {
      more = h.more;
      numbers = let a = one.0 in let b = h.numbers in cc;
      text = h.text ∙ ap (λ f. fields f h.more ++ behind) (at_later vs);
    }

fields_push : (first : Bool) (line : List ℕ) (v : ℕ) (rest : List ℕ) → fields first (line ++ v ∷ []) ++ rest ≡ fields first line ++ (field (at first line) v ++ rest)
fields_push first [] v rest = ap (λ t. t ++ rest) (append-nil (field first v))
fields_push first (x ∷ line) v rest =
    append_assoc (field first x) (fields false (line ++ v ∷ [])) rest
    ∙ ap (λ t. field first x ++ t) (fields_push false line v rest ∙ ap (λ f. fields false line ++ (field f v ++ rest)) (at_later line))
    ∙ sym (append_assoc (field first x) (fields false line) (field false v ++ rest))

at_first : (line : List ℕ) (i : ℕ) → length line ≡ i → (i == 0) ≡ at true line
at_first [] i is = ap (λ n. n == 0) (sym is)
at_first (v ∷ line) i is = ne_eqb i 0 (λ e. omega arith)

-- inputs are below 2^128
inputs_small : (widths values : List ℕ) → AreWidths widths → AreInputs widths values → AreSmall values
unfolding AreSmall
inputs_small widths values w h k l =
    let m : k < length widths = omega (arith, h.count) in
    omega (arith, h.fit k m, pow-le-pow_right {n = 2} (omega arith) (w k m).1)

-- so many numbers of a line were read, and put behind others
pub record Reading (widths bytes : List ℕ) (i : ℕ) (old new rest : List ℕ) : Type 0 where
  pub values : List ℕ
  pub added : new ≡ old ++ values
  pub count : length values ≡ i
  pub text : bytes ≡ fields true values ++ rest
  pub fit : (k : ℕ) → k < i → get_or values k 0 < 2 ^ get_or widths k 0
  pub ends : EndsFields values rest

pub Reading-start : (widths bytes old : List ℕ) → Reading widths bytes 0 old old bytes
Reading-start widths bytes old = record {
  values = [];
  added = sym (append-nil old);
  count = refl;
  text = refl;
  fit = λ k l. absurd (omega arith);
  ends = tt;
}

pub Reading-more : {widths bytes : List ℕ} {i : ℕ} {old mid rest : List ℕ} (new behind : List ℕ) (v : ℕ) → Reading widths bytes i old mid rest
    → IsField (i == 0) (get_or widths i 0) rest v behind → new ≡ mid ++ v ∷ [] → Reading widths bytes (i + 1) old new behind
Reading-more {widths} {bytes} {i} {old} {mid} {rest} new behind v h is pushed = record {
  values = h.values ++ v ∷ [];
  added = pushed ∙ ap (λ t. t ++ v ∷ []) h.added ∙ append_assoc old h.values (v ∷ []);
  count = let c = h.count in omega (arith, length-append h.values (v ∷ []));
  text =
      h.text ∙ ap (λ t. fields true h.values ++ t) (is.text ∙ ap (λ f. field f v ++ behind) (at_first h.values i h.count))
      ∙ sym (fields_push true h.values v behind);
  fit = below_more (λ k. get_or (h.values ++ v ∷ []) k 0 < 2 ^ get_or widths k 0) i
      (λ k l. let c = h.count in let m : k < length h.values = omega arith in subst (λ n. n < 2 ^ get_or widths k 0) (sym (get_or_append_left h.values (v ∷ []) 0 k m)) (h.fit k l))
      (subst (λ n. n < 2 ^ get_or widths i 0) (sym (get_or_at h.values v [] 0 i h.count)) is.fits);
  ends = pushed_ends h.values v behind is.ends;
}
  where
    pushed_ends : (line : List ℕ) (n : ℕ) (r : List ℕ) → HasNoDigit r → EndsFields (line ++ n ∷ []) r
    pushed_ends [] n r none = none
    pushed_ends (x ∷ line) n r none = none

reading_small : {widths bytes : List ℕ} {i : ℕ} {old new rest : List ℕ} → AreWidths widths → i ≤ length widths → (h : Reading widths bytes i old new rest) → AreSmall h.values
unfolding AreSmall
reading_small w few h k l =
    let c = h.count in
    omega (arith, h.fit k (omega arith), pow-le-pow_right {n = 2} (omega arith) (w k (omega arith)).1)

-- the numbers of a line begin with those that were read
pub reading_front : {widths bytes : List ℕ} {i : ℕ} {old new rest : List ℕ} (values behind : List ℕ) → AreWidths widths → i ≤ length widths
    → (h : Reading widths bytes i old new rest) → HasNoDigit behind → AreFields widths bytes values behind → IsFront true h.values values rest behind
reading_front values behind w few h none f =
    let c = h.count in
    let n = f.inputs.count in
    fields_front true h.values values _ behind (reading_small w few h) (inputs_small _ values w f.inputs) (omega arith) h.ends none (sym h.text ∙ f.text)

no_more : (widths values line more rest behind : List ℕ) (i : ℕ) → length line ≡ i → i < length widths → AreInputs widths values → HasNoDigit behind → values ≡ line ++ more
    → rest ≡ fields (at true line) more ++ behind → HasNoField (i == 0) (get_or widths i 0) rest → ⊥
no_more widths values line [] rest behind i count few inputs none numbers text missing =
    omega (arith, inputs.count, ap length numbers, ap length (append-nil line))
no_more widths values line (u ∷ us) rest behind i count few inputs none numbers text missing =
    missing u (fields false us ++ behind) (record {
      text = text ∙ append_assoc (field (at true line) u) (fields false us) behind ∙ ap (λ f. field f u ++ (fields false us ++ behind)) (sym (at_first line i count));
      fits = subst (λ n. n < 2 ^ get_or widths i 0) (ap (λ t. get_or t i 0) numbers ∙ get_or_at line u us 0 i count) (inputs.fit i few);
      ends = no_digit_behind us behind none;
    })

-- where the next number doesn't stand, the numbers of no line do
pub Reading-none : {widths bytes : List ℕ} {i : ℕ} {old new rest : List ℕ} → AreWidths widths → i < length widths → Reading widths bytes i old new rest
    → HasNoField (i == 0) (get_or widths i 0) rest → HasNoFields widths bytes
Reading-none {widths} {bytes} {i} w few h missing values behind none f =
    let p = reading_front values behind w (omega arith) h none f in
    no_more widths values h.values p.more _ behind i h.count few f.inputs none p.numbers p.text missing

-- all numbers of a line were read
pub Reading-end : {widths bytes : List ℕ} {i : ℕ} {old new rest : List ℕ} → i ≡ length widths → Reading widths bytes i old new rest → ReadsFields widths bytes old new rest
Reading-end is h = record {
  values = h.values;
  added = h.added;
  fields = record { text = h.text; inputs = record { count = h.count ∙ is; fit = λ k l. h.fit k (omega arith) } };
  ends = h.ends;
}

nothing_more : (line more values : List ℕ) → values ≡ line ++ more → length values ≡ length line → more ≡ []
nothing_more line [] values is same = refl
nothing_more line (x ∷ more) values is same = absurd (omega (arith, ap length is, length-append line (x ∷ more)))

fields_end : (first : Bool) (line other more rest behind : List ℕ) → more ≡ [] → other ≡ line ++ more → rest ≡ fields first more ++ behind → (line ≡ other) × (rest ≡ behind)
fields_end first line other more rest behind none numbers text =
    (sym (numbers ∙ ap (λ t. line ++ t) none ∙ append-nil line), text ∙ ap (λ t. fields first t ++ behind) none)

-- a text begins with the numbers of one line at most
pub one_fields : (widths bytes line other rest behind : List ℕ) → AreWidths widths → AreFields widths bytes line rest → AreFields widths bytes other behind
    → EndsFields line rest → HasNoDigit behind → (line ≡ other) × (rest ≡ behind)
one_fields widths bytes line other rest behind w a b ends none =
    let n = a.inputs.count in
    let m = b.inputs.count in
    let h = fields_front true line other rest behind (inputs_small widths line w a.inputs) (inputs_small widths other w b.inputs) (omega arith) ends none (sym a.text ∙ b.text) in
    fields_end (at true line) line other h.more rest behind (nothing_more line h.more other h.numbers (omega arith)) h.numbers h.text

-- a number behind the space in front, or as the first
pub field_behind : {R : Type 0} (value : R → ℕ) (now : R → List ℕ) (first : Bool) (width : ℕ) (bytes rest : List ℕ) (found : Option R) → IsBehindSpace first bytes rest
    → MatchOption found (HasNoField true width rest) (λ r. IsField true width rest (value r) (now r))
    → MatchOption found (HasNoField first width bytes) (λ r. IsField first width bytes (value r) (now r))
field_behind value now true width bytes rest None is h = λ n behind f. h n behind (record { text = sym is ∙ f.text; fits = f.fits; ends = f.ends })
field_behind value now true width bytes rest (Some r) is h = record { text = is ∙ h.text; fits = h.fits; ends = h.ends }
field_behind value now false width bytes rest None is h = λ n behind f. let a = f.text in h n behind (record { text = cc; fits = f.fits; ends = f.ends })
field_behind value now false width bytes rest (Some r) is h = record { text = is ∙ ap (λ t. 32 ∷ t) h.text; fits = h.fits; ends = h.ends }

pub no_space : (first : Bool) (width : ℕ) (bytes : List ℕ) → HasNoSpace first bytes → HasNoField first width bytes
no_space true width bytes missing n behind f = missing bytes refl
no_space false width bytes missing n behind f = missing (decimal n ++ behind) f.text

-- a number that is not below 2^width is none of it
pub too_wide : (width v : ℕ) (bytes rest : List ℕ) → width ≤ 128 → IsNumber bytes v rest → (v < 2 ^ width → ⊥) → HasNoField true width bytes
too_wide width v bytes rest few is wide n behind f =
    let small : n < 2 ^ 128 = omega (arith, f.fits, pow-le-pow_right {n = 2} (omega arith) few) in
    let same = one_number n v behind rest small is.fits f.ends is.ends (sym f.text ∙ is.text) in
    wide (subst (λ x. x < 2 ^ width) same.0 f.fits)

pub no_number : (width : ℕ) (bytes : List ℕ) → width ≤ 128 → HasNoNumber bytes → HasNoField true width bytes
no_number width bytes few missing n behind f =
    missing n behind (record { text = f.text; fits = omega (arith, f.fits, pow-le-pow_right {n = 2} (omega arith) few); ends = f.ends })
